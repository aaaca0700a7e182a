-- What is given of a run that was answered is what the page comes to, whatever book is lent: what is found against the table as it is held is found against the
-- final one. Assumes nothing.
use mathlib.Core.Path.{◌≡◌, refl, sym, ap, ap₂, ◌∙◌, subst}
use mathlib.Core.Bool.{Bool, true}
use mathlib.Core.List.{List, [], ◌∷◌, ◌++◌, map}
use Prim.Native.Nat.{ℕ, ◌-◌, ◌≤◌, ◌<◌}
use native.Mathlib.Omega.{arith}
use lib.ListN.{length, take}
use lib.Seq.{sets}
use borrow.Author.Tests.{leb-true}
use Rattle.masks.specs.Limits.{max_arity}
use Rattle.masks.specs.Lists.{all}
use Rattle.masks.specs.Outcome.{refused, done}
use Rattle.masks.specs.declared.reply.Reply.{Reply}
use Rattle.masks.proofs.Laws.Logic.{and_left, and_right}
use Rattle.masks.proofs.Laws.Outcome.{answers_refused, answers_short, answers_done}
use Rattle.book.specs.Limits.{max_predicates}
use Rattle.book.specs.Book.{Call, Book}
use Rattle.book.specs.Format.{allows, number, fault, judge}
use Rattle.book.specs.Held.{book_in, book_of}
use Rattle.book.specs.Table.{Table, table_in}
use Rattle.std.specs.Prelude.{Ok, Err}
use Rattle.book.specs.declared.fault.Fault.{Fault}
use Rattle.book.specs.declared.fault.FaultAt.{FaultAt}
use Rattle.book.specs.declared.range.Range.TheVariants.{AtMost}
use Rattle.records.specs.declared.fault.FaultFromEnd.{FaultFromEnd}
use Rattle.book.proofs.Laws.Sets.{calls_below, fit_callable, fit_below}
use Rattle.reading.specs.Judged.{BookHeld}
use Rattle.reading.proofs.Laws.Judged.{read_well}
use Rattle.ordering.specs.Adorn.{nothing}
use Rattle.ordering.specs.Good.{first_good, is_some}
use Rattle.ordering.proofs.Laws.Held.{admitted_first, fit_few}
use Rattle.tables.specs.Table.{final}
use Rattle.book.specs.declared.held.RuleBook.{RuleBook}
use Rattle.needs.specs.Round.{Settles}
use Rattle.needs.specs.declared.Needs.{Needs}
use Rattle.needs.proofs.Laws.Settling.{read_held}
use Rattle.writing.proofs.Laws.Wrote.{Front, front}
use Rattle.tally.specs.declared.Tally.{Tally}
use Rattle.tally.specs.Tallied.{tally_from, zeroes, Tallies}
use Rattle.tally.proofs.Laws.Tallied.{tallies_refused, tallies_short, tallies_done}
use Rattle.paging.specs.Run.{faulty, queries, judge_run, query_fits}
use Rattle.paging.specs.Page.{answered, answer, accepts, answers, paged, verdicts_of, paging, verdicts}
use Rattle.paging.proofs.Laws.Run.{query_calls_lem, run_inv}
use Rattle.paging.proofs.Laws.Page.{paging_fault, paging_book, verdicts_book}
use Rattle.page.specs.declared.Answered.{Answered}
use Rattle.page.specs.Lent.{Lent, Gives, RunAnswered}

-- ---- what is lent

module _ (B : Book) (b : RuleBook) (T : Table) (l : Lent B b T) where
  abbrev ar : List ℕ
  ar = take b.preds b.arities

  pub lent_few : length (take b.preds b.arities) ≤ max_predicates
  lent_few = subst (λ (a : List ℕ). length a ≤ max_predicates) l.arities· (leb-true (length B.arities) max_predicates l.well.few_predicates)

  pub lent_fit : all (allows (AtMost max_arity)) (take b.preds b.arities) ≡ true
  lent_fit = subst (λ (a : List ℕ). all (allows (AtMost max_arity)) a ≡ true) l.arities· l.well.arities_fit

  pub lent_size : length (take b.preds b.arities) ≡ b.preds
  lent_size = ap length (sym l.arities·) ∙ l.preds·

  -- the order found is that against the final table
  order : (q : List Call) → query_fits ar q ≡ true → first_good T q nothing ≡ first_good (final B) q nothing
  order q t =
      let calls = query_calls_lem ar q t in
      let few : b.preds ≤ max_predicates = let a = lent_few in let e = lent_size in omega arith in
      ap (λ (U : Table). first_good U q nothing) l.table·
      ∙ admitted_first l.masks l.words l.admitted b.preds few q (fit_callable ar lent_few q calls) (fit_few ar lent_fit q calls)
      (subst (λ (n : ℕ). calls_below n q ≡ true) lent_size (fit_below ar q calls)) nothing
      ∙ ap (λ (U : Table). first_good U q nothing) l.final·

  -- so are those of all queries, and their verdicts
  same_answers : (qs : List (List Call)) → all (query_fits ar) qs ≡ true → answers T qs ≡ answers (final B) qs
  unfolding answers answer
  same_answers [] t = refl
  same_answers (q ∷ qs) t =
      ap₂ (λ (a b : List ℕ). a ++ b) (ap answered (order q (and_left (query_fits ar q) (all (query_fits ar) qs) t)))
      (same_answers qs (and_right (query_fits ar q) (all (query_fits ar) qs) t))

  same_accepts : (qs : List (List Call)) → all (query_fits ar) qs ≡ true → map (accepts T) qs ≡ map (accepts (final B)) qs
  unfolding accepts
  same_accepts [] t = refl
  same_accepts (q ∷ qs) t =
      ap₂ (λ (a : Bool) (b : List Bool). a ∷ b) (ap is_some (order q (and_left (query_fits ar q) (all (query_fits ar) qs) t)))
      (same_accepts qs (and_right (query_fits ar q) (all (query_fits ar) qs) t))

  -- the run of the book is that of its arities as they are held
  module _ (r : List ℕ) where
    here : judge_run B.arities r ≡ judge_run ar r
    here = ap (λ (a : List ℕ). judge_run a r) l.arities·

    given_fault : {v : Fault} {at : ℕ} → judge_run ar r ≡ faulty v at → paged B (judge_run B.arities r) ≡ refused (number v) at
    given_fault e = ap (paged B) (here ∙ e)

    module _ {qs : List (List Call)} (e : judge_run ar r ≡ queries qs) where
      fits : all (query_fits ar) qs ≡ true
      fits = (run_inv ar r qs e).1.each

      given_queries : paged B (judge_run B.arities r) ≡ done 0 (answers T qs)
      given_queries = ap (paged B) (here ∙ e) ∙ ap (done 0) (sym (same_answers qs fits))

      given_verdicts : map (accepts T) qs ≡ verdicts_of B (judge_run B.arities r)
      given_verdicts = same_accepts qs fits ∙ sym (ap (verdicts_of B) (here ∙ e))

-- ---- the three ways a page ends

module _ (b : RuleBook) (T : Table) (r : List ℕ) {image : List ℕ} where
  pub give_bad : {e : FaultFromEnd} → RunAnswered (take b.preds b.arities) r T (Err e) image → (out : List ℕ) (t : Tally)
      → Gives b T r out t (record { number = number e.fault; value = length r - e.left; rounds = 0 }) out t
  give_bad {e} w out t B l =
      rw (given_fault B b T l r w.comes)
      (tallies_refused (number e.fault) (length r - e.left) (answers_refused (number e.fault) (length r - e.left) out refl))

  module _ {a : Answered} (w : RunAnswered (take b.preds b.arities) r T (Ok a) image) where
    abbrev bytes : List ℕ
    bytes = answers T w.comes.0

    pub give_front : Front a.size a.size image
    give_front = front a.size image (w.comes.2.long ∙ sym (ap length w.comes.2.bytes))

    -- 9, or the answers with their length
    pub give_short : (out : List ℕ) (t : Tally) → length out < a.size → Gives b T r out t (record { number = 9; value = a.size; rounds = 0 }) out t
    give_short out t h B l =
        let n : length out < length bytes = let long = w.comes.2.long in omega arith in
        rw (given_queries B b T l r w.comes.1) (tallies_short 0 bytes n (answers_short w.comes.2.long h) refl refl)

    pub give_done : (out : List ℕ) (t : Tally) → a.size ≤ length out → {x : Reply} → x ≡ record { number = 0; value = a.size; rounds = 0 } → {after : List ℕ}
        → after ≡ sets out 0 (take a.size image) → Gives b T r out t x after a.tally
    give_done out t h d f B l =
        let n : length bytes ≤ length out = let long = w.comes.2.long in omega arith in
        rw (given_queries B b T l r w.comes.1)
        (tallies_done 0 bytes n (answers_done w.comes.2.long h d (f ∙ ap (sets out 0) w.comes.2.bytes))
        (w.comes.2.counted ∙ ap (tally_from zeroes) (given_verdicts B b T l r w.comes.1)))

-- ---- the whole call: of a book with a fault, and of one that was read, and settled

pub page_refused : (s r out : List ℕ) (t : Tally) (e : FaultAt) → judge s ≡ fault e.fault e.at
    → Tallies (paging s r) (verdicts s r) out t (record { number = number e.fault; value = e.at; rounds = 0 }) out t
page_refused s r out t e j =
    rw (paging_fault s r e.fault e.at j) (tallies_refused (number e.fault) e.at (answers_refused (number e.fault) e.at out refl))

module _ {s : List ℕ} {given : ℕ} {b : RuleBook} (w : BookHeld s given b) where
  pub lent_read : {needs : Needs} {k : ℕ} {T : Table} → Settles b needs k → T ≡ table_in needs.table.admits max_predicates → Lent (book_of b) b T
  unfolding book_in
  lent_read {needs} h e =
      let t = h _ (read_held w) in
      record {
        well = read_well w;
        preds· = w.listed.each;
        arities· = refl;
        masks = needs.table.masks;
        final· = ap (table_in needs.table.masks) (sym w.listed.each) ∙ t.final·;
        words = needs.table.admits;
        admitted = t.admitted;
        table· = e;
      }

  pub page_given : (r : List ℕ) {out after : List ℕ} {old t : Tally} {x : Reply}
      → Tallies (paged (book_of b) (judge_run (book_of b).arities r)) (verdicts_of (book_of b) (judge_run (book_of b).arities r)) out old x after t
      → Tallies (paging s r) (verdicts s r) out old x after t
  page_given r p = rw (paging_book s _ w.is r, verdicts_book s _ w.is r) p
