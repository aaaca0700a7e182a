-- What the check's reply means: 0 exactly for the bytes of a well-formed book; and what it means to an operation that reads a book: any other reply
-- is the operation's own, and 0 tells that it has the book. Assumes nothing.
use mathlib.Core.Path.{◌≡◌, refl, sym, ap, ◌∙◌, subst}
use mathlib.Core.List.{List}
use Prim.Native.Nat.{ℕ}
use lib.ListN.{length, take}
use Rattle.masks.specs.Set.{Holds}
use Rattle.masks.specs.Outcome.{Outcome, Answers}
use Rattle.book.specs.Book.{Book}
use Rattle.book.specs.Format.{number, Judged, fault, book, judge, read_book}
use Rattle.book.specs.Encode.{encode, WellFormed}
use Rattle.book.specs.Answer.{on_book}
use Rattle.book.specs.Held.{has_mode, book_in, book_of}
use Rattle.std.specs.Prelude.{Result, Ok, Err}
use Rattle.std.specs.Borrow.{Bor}
use Rattle.book.specs.declared.fault.FaultAt.{FaultAt}
use Rattle.reading.specs.declared.Reading.{Reading}
use Rattle.book.specs.declared.held.RuleBook.{RuleBook}
use Rattle.reading.specs.Judged.{Listed, checked, placed, BookHeld}
use Rattle.records.specs.declared.fault.FaultFromEnd.{FaultFromEnd}
use Rattle.records.specs.Read.{value, rest, Reads}
use Rattle.reading.specs.Stored.{ReadsPredicates, ReadsRules, ReadsBook}
use Rattle.masks.proofs.Laws.Outcome.{answers_refused}
use Rattle.book.proofs.Laws.Answer.{number_some, on_fault, on_book_lem}
use Rattle.book.proofs.Laws.Trip.{judge_encode, judge_inv}
use Rattle.reading.proofs.Laws.Whole.{whole_bad, whole_next, judged_book, judged_fault}

pub check_zero : (s : List ℕ) → (checked (judge s)).number ≡ 0 → (b : Book) × (encode b ≡ s) × WellFormed b
check_zero s e = go (judge s) refl e
  where
    go : (j : Judged) → judge s ≡ j → (checked j).number ≡ 0 → (b : Book) × (encode b ≡ s) × WellFormed b
    go (fault f at) d n = absurd (number_some f n)
    go (book b) d n = let w = judge_inv s b d in (b, w.0, w.1)

pub zero_check : (b : Book) → WellFormed b → checked (judge (encode b)) ≡ record { number = 0; value = 0; rounds = 0 }
zero_check b w = ap checked (judge_encode b w)

-- ---- a book read into arrays

module _ {s : List ℕ} {p : Result (ℕ × Bor (List ℕ)) FaultFromEnd} {arities : List ℕ} (w : ReadsPredicates s p arities) (modes rules : List ℕ) where
  -- the predicates have a fault, which is the book's
  pub reads_none : {e : FaultFromEnd} → p ≡ Err e → (modes· rules· : List ℕ) → ReadsBook s (placed s (Err e)) modes rules arities modes· rules·
  reads_none d modes· rules· = let f = whole_bad s w d in record { judges = f; holds = λ room. f }

  -- what follows them decides
  pub reads_book : {v : ℕ × Bor (List ℕ)} → p ≡ Ok v → {r : Result Reading FaultFromEnd} {modes· rules· : List ℕ}
      → ReadsRules (take (value v) arities) (rest v) r modes rules modes· rules· → ReadsBook s (placed s r) modes rules arities modes· rules·
  unfolding book_in
  reads_book {v} d {r} {modes·} {rules·} x = go r refl
    where
      read : Reads (λ y. x.end) r (λ n. x.book) (read_book s)
      read = whole_next s w d x.reads

      go : (q : Result Reading FaultFromEnd) → r ≡ q → ReadsBook s (placed s q) modes rules arities modes· rules·
      go (Err e) f = let j = judged_fault s read f in record { judges = j; holds = λ room. j }
      go (Ok y) f =
          let is = x.is y f in
          let j = judged_book s read f in
          let l = w.listed v d in
          let n : y.preds ≡ value v = is.preds· ∙ l.each in
          record {
            judges = (x.book, j, ap length is.arities· ∙ sym is.preds·);
            holds =
                λ room.
                let h = ap (λ (n : ℕ). book_in n arities modes· y.clauses rules·) n ∙ x.stored y f room (value v) arities refl in
                record {
                  is = j ∙ ap book (sym h);
                  listed = subst (λ (n : ℕ). Listed n arities) (sym n) l;
                  few = is.few;
                  given = subst (λ (z : Book). Holds y.with_mode (has_mode z.modes)) (sym h) is.given;
                };
          }

-- a fault is the answer of every operation on books
pub read_refused : (made : Book → Outcome) (s out : List ℕ) (e : FaultAt) → judge s ≡ fault e.fault e.at
    → Answers (on_book made s) out (record { number = number e.fault; value = e.at; rounds = 0 }) out
read_refused made s out e j = rw (← on_fault made s e.fault e.at (sym j)) (answers_refused (number e.fault) e.at out refl)

module _ {s : List ℕ} {given : ℕ} {b : RuleBook} (h : BookHeld s given b) where
  -- a book that is held is well formed, and gets what the operation makes of it
  pub read_well : WellFormed (book_of b)
  read_well = (judge_inv s _ h.is).1

  pub read_made : (made : Book → Outcome) → made (book_of b) ≡ on_book made s
  read_made made = on_book_lem made s _ (sym h.is)
