-- The bytes of queries that keep to the limits are judged to be those queries, and bytes that are judged to be queries are their bytes; so runs join as long as
-- the queries are not too many. A fault has its place in the run. Assumes nothing.
use mathlib.Core.Path.{◌≡◌, refl, sym, ap, ◌∙◌, subst}
use mathlib.Core.Logic.{⊎_elim}
use mathlib.Core.Bool.{true}
use mathlib.Core.List.{List, [], ◌∷◌, ◌++◌, append-nil}
use Prim.Native.Nat.{ℕ, ◌+◌, ◌≤◌}
use native.Mathlib.Omega.{arith}
use lib.Dec.{leb}
use lib.ListN.{length, drop, length-append}
use borrow.Author.Tests.{leb-true, le-leb}
use Rattle.masks.specs.Lists.{all}
use Rattle.masks.proofs.Laws.Lists.{all_append}
use Rattle.masks.proofs.Laws.Logic.{and_intro, and_left, and_right}
use Rattle.book.specs.Limits.{max_subgoals, max_queries}
use Rattle.book.specs.Book.{Call, Book, with_query}
use Rattle.book.specs.Format.{Stands, turn, mark_at, Got, bad, got, many, query}
use Rattle.book.specs.Encode.{QU, run, enc_subgoal, call_fits, WellFormed}
use Rattle.book.specs.declared.fault.Fault.{Fault}
use Rattle.book.specs.declared.mark.Mark.TheVariants.{Qu}
use Rattle.book.specs.declared.mark.Phase.TheVariants.{Queries, PageQuery}
use Rattle.book.specs.declared.mark.Turn.TheVariants.{Mine, Over}
use Rattle.book.proofs.Laws.Encode.{run_append}
use Rattle.book.proofs.Laws.Marks.{sole_queries, in_page, sole_starts, own_leads, page_query_ends, queries_end, queries_over_ends}
use Rattle.book.proofs.Laws.Got.{Follows, each_all, all_each, many_got, many_inv}
use Rattle.book.proofs.Laws.Trip.{subgoals_got, subgoals_inv}
use Rattle.book.proofs.Laws.Places.{Standing, many_standing, query_standing, stands}
use Rattle.paging.specs.Run.{read_run, JudgedRun, faulty, queries, judged_run, judge_run, enc_qu, query_fits, FitRun}

-- ---- a query

module _ (ar : List ℕ) (q : List Call) (h : query_fits ar q ≡ true) where
  pub query_few : length q ≤ max_subgoals
  query_few = leb-true _ _ (and_left (leb (length q) max_subgoals) (all (call_fits ar) q) h)

  pub query_calls_lem : all (call_fits ar) q ≡ true
  query_calls_lem = and_right (leb (length q) max_subgoals) (all (call_fits ar) q) h

  query_reads : (r : List ℕ) → Follows Queries r → query PageQuery ar (enc_qu q ++ r) ≡ got q r
  unfolding query
  query_reads r f = subgoals_got PageQuery in_page ar q r query_few query_calls_lem (⊎_elim (page_query_ends (mark_at r)) (queries_end (mark_at r)) f)

pub query_inv : (ar s : List ℕ) (q : List Call) (r : List ℕ) → turn Queries (mark_at s) ≡ Mine → query PageQuery ar s ≡ got q r
    → (s ≡ enc_qu q ++ r) × (query_fits ar q ≡ true)
unfolding query
query_inv ar s q r t e =
    let n = subgoals_inv PageQuery in_page ar (drop 2 s) q r e in (
      sole_starts Queries s sole_queries t ∙ ap (λ (l : List ℕ). QU ++ l) n.from,
      and_intro (le-leb _ _ n.few) (each_all (call_fits ar) [] q n.good),
    )

-- a query is one for a book exactly where the book with that query is one
module _ (B : Book) (w : WellFormed B) (q : List Call) where
  pub query_well : query_fits B.arities q ≡ true → WellFormed (with_query B q)
  query_well h =
      record {
        few_predicates = w.few_predicates;
        arities_fit = w.arities_fit;
        modes_fit = w.modes_fit;
        modes_rise = w.modes_rise;
        few_clauses = w.few_clauses;
        clauses_fit = w.clauses_fit;
        few_asked = le-leb _ _ (query_few B.arities q h);
        query_fits = query_calls_lem B.arities q h;
      }

  pub well_query : WellFormed (with_query B q) → query_fits B.arities q ≡ true
  well_query v = and_intro v.few_asked v.query_fits

-- ---- the run

none_over : turn Queries (mark_at []) ≡ Over
unfolding mark_at
none_over = refl

module _ (ar : List ℕ) where
  pub run_read : (qs : List (List Call)) → FitRun ar qs → judge_run ar (run enc_qu qs) ≡ queries qs
  unfolding judge_run read_run
  run_read qs w =
      let e : read_run ar (run enc_qu qs) ≡ got qs [] =
      rw append-nil at (many_got Queries (λ before t. query PageQuery ar t) (λ before q. query_fits ar q ≡ true) enc_qu (λ q r. own_leads Queries (run enc_subgoal q ++ r) Qu refl)
      (λ before q r h f. query_reads ar q h r f) max_queries [] qs [] (leb-true _ _ w.few) (all_each (query_fits ar) [] qs w.each) none_over) in
      ap (judged_run (run enc_qu qs)) e

  pub run_inv : (s : List ℕ) (qs : List (List Call)) → judge_run ar s ≡ queries qs → (run enc_qu qs ≡ s) × FitRun ar qs
  unfolding judge_run read_run
  run_inv s qs e = go (read_run ar s) refl e
    where
      go : (g : Got (List (List Call))) → read_run ar s ≡ g → judged_run s g ≡ queries qs → (run enc_qu qs ≡ s) × FitRun ar qs
      go (bad f k) d c = let z : ◌≡◌ {A = ℕ} 0 1 = cc in absurd (omega arith)
      go (got xs r) d c =
          let z : xs ≡ qs = cc in
          let n = many_inv Queries (λ before t. query PageQuery ar t) (λ before q. query_fits ar q ≡ true) enc_qu (λ before t q u m g. query_inv ar t q u m g) max_queries s xs r d in
          let ends : run enc_qu xs ++ r ≡ run enc_qu xs = ap (λ (l : List ℕ). run enc_qu xs ++ l) (queries_over_ends r n.over) ∙ append-nil (run enc_qu xs) in
          let w : (run enc_qu xs ≡ s) × FitRun ar xs = (
            sym (n.from ∙ ends),
            record { few = le-leb _ _ n.few; each = each_all (query_fits ar) [] xs n.good },
          ) in
          subst (λ (l : List (List Call)). (run enc_qu l ≡ s) × FitRun ar l) z w

  -- two runs one after the other, while the queries are not too many
  pub run_join : (a b : List ℕ) (qa qb : List (List Call)) → judge_run ar a ≡ queries qa → judge_run ar b ≡ queries qb → length qa + length qb ≤ max_queries
      → judge_run ar (a ++ b) ≡ queries (qa ++ qb)
  run_join a b qa qb d e h =
      let x = run_inv a qa d in
      let y = run_inv b qb e in
      let w : FitRun ar (qa ++ qb) = record {
        few = le-leb (length (qa ++ qb)) max_queries (rw (length-append qa qb) h);
        each = all_append (query_fits ar) qa qb ∙ and_intro x.1.each y.1.each;
      } in
      let bytes : a ++ b ≡ run enc_qu (qa ++ qb) = rw (← x.0, ← y.0) (sym (run_append enc_qu qa qb)) in
      ap (judge_run ar) bytes ∙ run_read (qa ++ qb) w

  -- ---- a fault

  run_standing : (s : List ℕ) → Standing (read_run ar s)
  unfolding read_run
  run_standing s = many_standing Queries (λ before t. query PageQuery ar t) (λ before t. query_standing PageQuery ar t) max_queries [] s

  abbrev stands_in : List ℕ → JudgedRun → Type 0
  stands_in s (faulty f at) = Stands f (length s) at
  stands_in s (queries qs) = Unit {0}

  run_stands : (s : List ℕ) → stands_in s (judge_run ar s)
  unfolding judge_run read_run many mark_at
  run_stands [] = tt
  run_stands (x ∷ s) = go (read_run ar (x ∷ s)) (run_standing (x ∷ s))
    where
      go : (g : Got (List (List Call))) → Standing g → stands_in (x ∷ s) (judged_run (x ∷ s) g)
      go (bad f k) p = stands f s x k p.leaves
      go (got qs t) p = tt

  pub run_fault : (s : List ℕ) (f : Fault) (at : ℕ) → judge_run ar s ≡ faulty f at → Stands f (length s) at
  run_fault s f at e = subst (stands_in s) e (run_stands s)
