-- What is known of a page: each answer beside the plan of the book with that query, joined pages, lengths. Assumes nothing.
use mathlib.Core.Path.{◌≡◌, refl, sym, ap, ◌∙◌, subst}
use mathlib.Core.Bool.{true, false}
use mathlib.Core.List.{List, [], ◌∷◌, ◌++◌, map}
use mathlib.Core.Option.{Option, none, some}
use Prim.Native.Nat.{ℕ, ◌+◌, ◌*◌, ◌≤◌}
use native.Mathlib.Omega.{arith}
use lib.Dec.{eqb}
use lib.ListN.{length, get_or, length-append}
use borrow.Author.Tests.{leb-true}
use Rattle.masks.specs.Lists.{all}
use Rattle.masks.specs.Outcome.{Outcome, refused, done}
use Rattle.masks.proofs.Laws.Logic.{and_left, and_right}
use Rattle.book.specs.Limits.{max_queries, longest_page}
use Rattle.book.specs.Book.{Call, Book, with_query}
use Rattle.book.specs.Format.{number, fault, book, judge}
use Rattle.book.specs.Encode.{run, encode, WellFormed}
use Rattle.book.specs.Table.{Table}
use Rattle.book.specs.declared.fault.Fault.{Fault}
use Rattle.book.proofs.Laws.Answer.{on_fault, on_book_lem}
use Rattle.book.proofs.Laws.Encode.{run_append}
use Rattle.book.proofs.Laws.Trip.{judge_encode}
use Rattle.ordering.specs.Adorn.{nothing}
use Rattle.ordering.specs.Good.{first_good, is_some}
use Rattle.ordering.proofs.Laws.Good.{first_is_least}
use Rattle.tables.specs.Table.{final}
use Rattle.tables.proofs.Laws.Query.{final_query}
use Rattle.choices.specs.Plan.{first_choice, chosen, plan_rows, enc_query, enc_row, image, planned, planning}
use Rattle.choices.proofs.Laws.Plan.{planned_good, planned_none}
use Rattle.paging.specs.Run.{faulty, queries, judge_run, query_fits}
use Rattle.paging.specs.Page.{answered, answer, accepts, answers, paged, paging, verdicts_of, verdicts, verdicts_on, AsPlan, away, first}
use Rattle.paging.proofs.Laws.Run.{query_few, query_well, run_inv, run_join}

-- ---- "as the plan would give with that query in place of the book's own"

module _ (B : Book) (q : List Call) where
  as_none : first_good (final B) q nothing ≡ none → AsPlan (planned (with_query B q)) (answer (final B) q)
  unfolding answer
  as_none e =
      let t : is_some (first_good (final (with_query B q)) q nothing) ≡ false = rw (final_query B q, e) in
      rw (planned_none (with_query B q) t, e) away

  as_some : (σ : List ℕ) → first_good (final B) q nothing ≡ some σ → AsPlan (planned (with_query B q)) (answer (final B) q)
  unfolding answer image chosen first_choice
  as_some σ e =
      let t : is_some (first_good (final (with_query B q)) q nothing) ≡ true = rw (final_query B q, e) in
      let s : (chosen (with_query B q)).for_query ≡ σ = rw (final_query B q, e) in
      rw (planned_good (with_query B q) t, e)
      (subst (λ (τ : List ℕ). AsPlan (done 0 (enc_query τ ++ run enc_row (plan_rows (with_query B q)))) (0 ∷ enc_query σ)) (sym s) (first σ _))

  answer_planned : AsPlan (planned (with_query B q)) (answer (final B) q)
  answer_planned = go (first_good (final B) q nothing) refl
    where
      go : (o : Option (List ℕ)) → first_good (final B) q nothing ≡ o → AsPlan (planned (with_query B q)) (answer (final B) q)
      go none e = as_none e
      go (some σ) e = as_some σ e

  -- of bytes: those of the book with a query of a run in place of its own
  pub answer_planning : WellFormed B → query_fits B.arities q ≡ true → AsPlan (planning (encode (with_query B q))) (answer (final B) q)
  answer_planning w h =
      subst (λ (o : Outcome). AsPlan o (answer (final B) q))
      (on_book_lem planned (encode (with_query B q)) (with_query B q) (sym (judge_encode (with_query B q) (query_well B w q h)))) answer_planned

-- a query is accepted where its answer begins with 0
pub accepts_answer : (T : Table) (q : List Call) → accepts T q ≡ eqb (get_or (answer T q) 0 7) 0
unfolding accepts answer
accepts_answer T q = go (first_good T q nothing)
  where
    go : (o : Option (List ℕ)) → is_some o ≡ eqb (get_or (answered o) 0 7) 0
    go none = refl
    go (some σ) = refl

-- ---- what a page comes to

pub paging_fault : (s r : List ℕ) (f : Fault) (at : ℕ) → judge s ≡ fault f at → paging s r ≡ refused (number f) at
unfolding paging
paging_fault s r f at e = sym (on_fault (λ B. paged B (judge_run B.arities r)) s f at (sym e))

module _ (s : List ℕ) (B : Book) (valid : judge s ≡ book B) where
  pub paging_book : (r : List ℕ) → paging s r ≡ paged B (judge_run B.arities r)
  unfolding paging
  paging_book r = sym (on_book_lem (λ B. paged B (judge_run B.arities r)) s B (sym valid))

  pub verdicts_book : (r : List ℕ) → verdicts s r ≡ verdicts_of B (judge_run B.arities r)
  unfolding verdicts
  verdicts_book r = ap (λ j. verdicts_on j r) valid

  pub paging_faulty : (r : List ℕ) (f : Fault) (at : ℕ) → judge_run B.arities r ≡ faulty f at → paging s r ≡ refused (number f) at
  paging_faulty r f at e = paging_book r ∙ ap (paged B) e

  pub paging_queries : (r : List ℕ) (qs : List (List Call)) → judge_run B.arities r ≡ queries qs → paging s r ≡ done 0 (answers (final B) qs)
  paging_queries r qs e = paging_book r ∙ ap (paged B) e

  pub verdicts_queries : (r : List ℕ) (qs : List (List Call)) → judge_run B.arities r ≡ queries qs → verdicts s r ≡ map (accepts (final B)) qs
  verdicts_queries r qs e = verdicts_book r ∙ ap (verdicts_of B) e

  -- the book's own query plays no part
  pub paging_other : (q : List Call) → WellFormed (with_query B q) → (r : List ℕ) → paging (encode (with_query B q)) r ≡ paging s r
  unfolding paging
  paging_other q w r =
      sym (on_book_lem (λ B. paged B (judge_run B.arities r)) (encode (with_query B q)) (with_query B q) (sym (judge_encode (with_query B q) w)))
      ∙ same (judge_run B.arities r)
      ∙ on_book_lem (λ B. paged B (judge_run B.arities r)) s B (sym valid)
    where
      same : (j : _) → paged (with_query B q) j ≡ paged B j
      same (faulty f at) = refl
      same (queries qs) = ap (λ (T : Table). done 0 (answers T qs)) (final_query B q)

  -- two pages in one
  pub paging_join : (a b : List ℕ) (qa qb : List (List Call)) → judge_run B.arities a ≡ queries qa → judge_run B.arities b ≡ queries qb
      → length qa + length qb ≤ max_queries → paging s (a ++ b) ≡ done 0 (answers (final B) qa ++ answers (final B) qb)
  unfolding answers
  paging_join a b qa qb d e h =
      paging_queries (a ++ b) (qa ++ qb) (run_join B.arities a b qa qb d e h) ∙ ap (done 0) (run_append (answer (final B)) qa qb)

-- ---- lengths

answered_length : (T : Table) (q : List Call) (o : Option (List ℕ)) → first_good T q nothing ≡ o → length (answered o) ≤ 4 + length q
answered_length T q none e = omega arith
answered_length T q (some σ) e = let l = ((first_is_least T q nothing).has σ e).0.long in omega arith

pub answer_length : (T : Table) (q : List Call) → length (answer T q) ≤ 4 + length q
unfolding answer
answer_length T q = answered_length T q (first_good T q nothing) refl

pub answers_length : (T : Table) (ar : List ℕ) (qs : List (List Call)) → all (query_fits ar) qs ≡ true → length (answers T qs) ≤ 12 * length qs
unfolding answers
answers_length T ar [] t = omega arith
answers_length T ar (q ∷ qs) t =
    let n = query_few ar q (and_left (query_fits ar q) (all (query_fits ar) qs) t) in
    let a = answer_length T q in
    let r = answers_length T ar qs (and_right (query_fits ar q) (all (query_fits ar) qs) t) in
    let e : length (answer T q ++ answers T qs) ≡ length (answer T q) + length (answers T qs) = length-append (answer T q) (answers T qs) in
    omega arith

-- the longest page
pub page_length : (T : Table) (ar r : List ℕ) (qs : List (List Call)) → judge_run ar r ≡ queries qs → length (answers T qs) ≤ longest_page
page_length T ar r qs e =
    let w = (run_inv ar r qs e).1 in
    let n = leb-true (length qs) max_queries w.few in
    let a = answers_length T ar qs w.each in
    omega arith
