-- Demand 3, of what closing any bytes comes to: the closed bytes are a valid book, closing in parts comes to what closing at once comes to, and the
-- empty set gives back the same bytes. Assumes nothing.
use mathlib.Core.Path.{◌≡◌, refl, sym, ap, ap₂, ◌∙◌, subst}
use mathlib.Core.Logic.{⊎_elim}
use mathlib.Core.List.{List}
use mathlib.Core.Option.{Option, none, some}
use Prim.Native.Nat.{ℕ, ◌-◌}
use native.Mathlib.Omega.{arith}
use lib.Bits.{bit_or, or_comm, or_self}
use lib.ListN.{length, take}
use Rattle.masks.specs.Outcome.{Outcome, refused, done, Answers}
use Rattle.masks.specs.Set.{bit_at}
use Rattle.masks.specs.declared.reply.Reply.{Reply}
use Rattle.book.specs.Limits.{max_predicates}
use Rattle.book.specs.Book.{Book}
use Rattle.book.specs.Format.{Judged, fault, book, judge}
use Rattle.book.specs.Encode.{encode}
use Rattle.book.specs.Answer.{of_judged, on_book}
use Rattle.closing.specs.Close.{close_over, close, lacked, unless_lacked, closed, closing}
use Rattle.masks.proofs.Laws.Outcome.{answers_number, answers_number_done, answers_bytes}
use Rattle.masks.proofs.Laws.Set.{bit_at_zero, bit_at_or}
use Rattle.book.proofs.Laws.Answer.{number_range, book_injective, on_book_lem}
use Rattle.book.proofs.Laws.Trip.{judge_encode, judge_inv}
use Rattle.closing.proofs.Laws.Lacked.{none_first_from, lacked_or}
use Rattle.closing.proofs.Laws.Valid.{closed_well}
use Rattle.closing.proofs.Laws.Parts.{close_cong, close_close, close_none}

-- ---- a book that lacks a chosen predicate, and one that has all

pub closed_lacks : (S : ℕ) (B : Book) (p : ℕ) → lacked S (length B.arities) ≡ some p → closed S B ≡ refused 8 p
unfolding closed
closed_lacks S B p h = rw h

pub closed_has : (S : ℕ) (B : Book) → lacked S (length B.arities) ≡ none → closed S B ≡ done 0 (encode (close S B))
unfolding closed
closed_has S B h = rw h

-- ---- where closing is not refused

-- the bytes are then a valid book that has each chosen predicate, and what comes of it is the closed book
record Closed (S : ℕ) (s t : List ℕ) : Type 0 where
  book· : Book
  judged : judge s ≡ book book·
  has : lacked S (length book·.arities) ≡ none
  bytes : t ≡ encode (close S book·)

-- what closing comes to: a refusal, neither 0 nor 7, or the closed book
abbrev Comes : ℕ → List ℕ → Outcome → Type 0
Comes S s (refused number value) = (number ≡ 0 → ⊥) × (number ≡ 7 → ⊥)
Comes S s (done rounds bytes) = (rounds ≡ 0) × Closed S s bytes

comes : (S : ℕ) (s : List ℕ) → Comes S s (closing S s)
unfolding on_book closed
comes S s = go (judge s) refl
  where
    go : (j : Judged) → judge s ≡ j → Comes S s (of_judged (closed S) j)
    go (fault f at) d = let n = number_range f in (λ e. omega arith, λ e. omega arith)
    go (book B) d = tried (lacked S (length B.arities)) refl
      where
        tried : (o : Option ℕ) → lacked S (length B.arities) ≡ o → Comes S s (unless_lacked o (encode (close S B)))
        tried none h = (refl, record { book· = B; judged = d; has = h; bytes = refl })
        tried (some p) h = (λ e. omega arith, λ e. omega arith)

closing_done : (S : ℕ) (s t : List ℕ) → closing S s ≡ done 0 t → Closed S s t
closing_done S s t e = (subst (Comes S s) e (comes S s)).1

module _ (S : ℕ) (s : List ℕ) (B : Book) (valid : judge s ≡ book B) where
  pub done_closing : lacked S (length B.arities) ≡ none → closing S s ≡ done 0 (encode (close S B))
  done_closing h = sym (on_book_lem (closed S) s B (sym valid)) ∙ closed_has S B h

-- what comes of it is a valid book
closing_valid : (S : ℕ) (s t : List ℕ) (c : Closed S s t) → judge t ≡ book (close S c.book·)
closing_valid S s t c =
    rw c.bytes (judge_encode (close S c.book·) (closed_well (bit_at S) c.book· (judge_inv s c.book· c.judged).1))

-- that of the book that the bytes are, closed
pub closing_book : (S : ℕ) (s t : List ℕ) (B : Book) → judge s ≡ book B → closing S s ≡ done 0 t → judge t ≡ book (close S B)
closing_book S s t B valid e =
    let c = closing_done S s t e in
    closing_valid S s t c ∙ ap (λ (C : Book). book (close S C)) (book_injective c.book· B (sym c.judged ∙ valid))

-- ---- closing in parts

-- CLOSING IN PARTS: one set and then another comes to both at once
pub closing_twice : (S R : ℕ) (s t : List ℕ) → closing S s ≡ done 0 t → closing R t ≡ closing (bit_or S R) s
unfolding closed close_over
closing_twice S R s t e =
    let c = closing_done S s t e in
    let B = c.book· in
    let w = (judge_inv s B c.judged).1 in
    let twice : close R (close S B) ≡ close (bit_or S R) B =
    close_close (bit_at S) (bit_at R) B w ∙ close_cong _ (bit_at (bit_or S R)) (λ p. sym (bit_at_or S R p)) B in
    sym (on_book_lem (closed R) t (close S B) (sym (closing_valid S s t c)))
    ∙ ap₂ unless_lacked (lacked_or S R (length B.arities) c.has) (ap encode twice)
    ∙ on_book_lem (closed (bit_or S R)) s B (sym c.judged)

-- in either turn
pub closing_turned : (S R : ℕ) (s t u : List ℕ) → closing S s ≡ done 0 t → closing R s ≡ done 0 u → closing R t ≡ closing S u
closing_turned S R s t u e f =
    closing_twice S R s t e ∙ ap (λ (X : ℕ). closing X s) (or_comm S R) ∙ sym (closing_twice R S s u f)

-- a set again changes nothing
pub closing_again : (S : ℕ) (s t : List ℕ) → closing S s ≡ done 0 t → closing S t ≡ done 0 t
closing_again S s t e = closing_twice S S s t e ∙ ap (λ (X : ℕ). closing X s) (or_self S) ∙ e

-- "The empty set gives back the same bytes."
pub closing_none : (s : List ℕ) (B : Book) → judge s ≡ book B → closing 0 s ≡ done 0 s
unfolding lacked
closing_none s B valid =
    let i = judge_inv s B valid in
    done_closing 0 s B valid (none_first_from (bit_at 0) (length B.arities) (max_predicates - length B.arities) (λ p a b. bit_at_zero p))
    ∙ ap (λ (C : Book). done 0 (encode C)) (close_none (bit_at 0) bit_at_zero B i.1)
    ∙ ap (done 0) i.0

-- ---- of a reply

-- "Reply 7 never comes here"
pub never_seven : (S : ℕ) (s out : List ℕ) {r : Reply} {after : List ℕ} → Answers (closing S s) out r after → r.number ≡ 7 → ⊥
never_seven S s out {r} {after} a z = go (closing S s) (comes S s) a
  where
    go : (o : Outcome) → Comes S s o → Answers o out r after → ⊥
    go (refused number value) c a = c.1 (sym (answers_number a) ∙ z)
    go (done rounds bytes) c a = ⊎_elim (λ e. omega (arith, e, z)) (λ e. omega (arith, e, z)) (answers_number_done a)

-- 0 is given where closing is not refused
pub closing_gave : (S : ℕ) (s out : List ℕ) {r : Reply} {after : List ℕ} → Answers (closing S s) out r after → r.number ≡ 0
    → closing S s ≡ done 0 (take r.value after)
closing_gave S s out {r} {after} a z = go (closing S s) (comes S s) a
  where
    go : (o : Outcome) → Comes S s o → Answers o out r after → o ≡ done 0 (take r.value after)
    go (refused number value) c a = absurd (c.0 (sym (answers_number a) ∙ z))
    go (done rounds bytes) c a = ap₂ done c.0 (sym (answers_bytes a z))
