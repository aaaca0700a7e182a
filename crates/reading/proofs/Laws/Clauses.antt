-- A clause is its head and its subgoals; the loop over CL records stores each behind those before it; and the query is subgoals behind all of them.
-- Assumes nothing.
use mathlib.Core.Path.{◌≡◌, refl, ap, ◌∙◌}
use mathlib.Core.Bool.{true, false}
use mathlib.Core.List.{List, [], ◌∷◌, ◌++◌, map}
use Prim.Native.Nat.{ℕ, ◌+◌, ◌*◌, ◌≤◌, ◌<◌}
use native.Mathlib.Omega.{arith}
use lib.ListN.{length, drop, set}
use Rattle.book.specs.Limits.{max_clauses}
use Rattle.book.specs.Book.{Call, Clause, no_clause}
use Rattle.book.specs.Format.{spelling, leads, mark_at, turn, Bodied, many, fields, clause, query}
use Rattle.book.specs.Held.{head_in, call_in, clause_size, rules_size, clauses_of}
use Rattle.std.specs.Prelude.{Result, Ok, Err}
use Rattle.std.specs.Borrow.{Bor}
use Rattle.book.specs.declared.fault.Fault.TheVariants.{TooMany}
use Rattle.book.specs.declared.mark.Mark.TheVariants.{Cl}
use Rattle.book.specs.declared.mark.Phase.{Phase}
use Rattle.book.specs.declared.mark.Phase.TheVariants.{Clauses, Body, Query}
use Rattle.book.specs.declared.mark.Turn.TheVariants.{Mine}
use Rattle.book.specs.declared.range.Range.TheVariants.{NoWildcard}
use Rattle.book.proofs.Laws.Marks.{sole_clauses, in_body}
use Rattle.book.proofs.Laws.Held.{clauses_of_stored}
use Rattle.records.specs.declared.fault.FaultFromEnd.{FaultFromEnd}
use Rattle.records.specs.Read.{RunEnds, value, rest, alone, Reads}
use Rattle.records.proofs.Laws.Reads.{err_ok, reads_fault, reads_as, then_bad, then_next, reads_map}
use Rattle.reading.specs.Stored.{ReadsBody, ReadsClause, ReadsClauses, ReadsQuery}
use Rattle.reading.proofs.Laws.Runs.{Going, mine, not_mine, going_start, going_full, going_bad, going_next, going_end}
use Rattle.reading.proofs.Laws.Bodies.{body_bad, body_next, body_stored, clause_stored}

-- ---- a clause

module _ (ar s : List ℕ) (k : ℕ) {h : Result (ℕ × Bor (List ℕ)) FaultFromEnd} (w : Reads rest h (λ v. head_in (value v)) (fields NoWildcard ar (drop 2 s))) (before : List ℕ) where
  -- the head has a fault
  pub clause_headless : {e : FaultFromEnd} → h ≡ Err e → ReadsClause ar s k (Err e) before before
  unfolding clause
  clause_headless e = record { clause = no_clause; reads = then_bad w _ e; stored = λ a d. err_ok refl d }

  module _ {v : ℕ × Bor (List ℕ)} (e : h ≡ Ok v) {one after : List ℕ} {g : Result (Bor (List ℕ)) FaultFromEnd} (b : ReadsBody ar (rest v) k g one after) where
    -- the subgoals have one
    pub clause_unbodied : {f : FaultFromEnd} → g ≡ Err f → ReadsClause ar s k (Err f) before after
    unfolding clause
    clause_unbodied d =
        record {
          clause = no_clause;
          reads = then_next w _ e (then_bad (body_bad b Body in_body {then = alone} {f = λ j. []} d) _ refl);
          stored = λ a f. err_ok refl f;
        }

    -- what stands behind them decides
    module _ {t : Bor (List ℕ)} (d : g ≡ Ok t) {r : Result (Unit {0}) FaultFromEnd} (x : RunEnds Body t.now r) where
      ended : Reads (λ u. t.now) r (λ u. record { head = head_in (value v); body = map call_in b.words }) (clause ar [] s)
      unfolding clause
      ended = then_next w _ e (reads_map (body_next b Body in_body d x) (λ (l : List Call). record { head = head_in (value v); body = l }))

      pub clause_unended : {f : FaultFromEnd} → r ≡ Err f → ReadsClause ar s k (Err f) before after
      clause_unended f = record { clause = no_clause; reads = reads_fault ended f; stored = λ a q. err_ok refl q }

      pub clause_ended : {u : Unit {0}} → r ≡ Ok u → k < max_clauses → one ≡ set before (k * clause_size + 1) (value v) → ReadsClause ar s k (Ok t) before after
      clause_ended f low first =
          record {
            clause = record { head = head_in (value v); body = map call_in b.words };
            reads = reads_as ended f refl refl;
            stored = λ a q room. clause_stored before k (value v) b.words room low b.few first (b.stored t d);
          }

-- ---- the loop over clauses

-- so far the n clauses were read, and are stored where there is room
pub record Clausing (ar whole : List ℕ) (n : ℕ) (left before now : List ℕ) : Type 0 where
  pub clauses : List Clause
  pub few : n ≤ max_clauses
  pub going : Going Clauses (clause ar) max_clauses whole n left clauses
  pub size : length now ≡ length before
  pub stored : length before ≡ rules_size → clauses_of now n ≡ clauses

module _ (ar whole before : List ℕ) where
  pub clausing_start : Clausing ar whole 0 whole before before
  unfolding clauses_of
  clausing_start =
      record {
        clauses = [];
        few = omega arith;
        going = going_start Clauses (clause ar) max_clauses whole;
        size = refl;
        stored = λ r. refl;
      }

  module _ {n : ℕ} {s now : List ℕ} (l : Clausing ar whole n s before now) where
    module _ (mark : leads (spelling Cl) s ≡ true) where
      t : turn Clauses (mark_at s) ≡ Mine
      t = mine Clauses Cl s refl mark

      pub clausing_full : max_clauses ≤ n → ReadsClauses ar whole (Err (record { fault = TooMany; left = length s })) before now
      clausing_full h =
          record {
            clauses = l.clauses;
            reads = going_full Clauses (clause ar) max_clauses whole l.going t h;
            few = λ v e. err_ok refl e;
            stored = λ v e. err_ok refl e;
          }

      module _ (h : n < max_clauses) {g : Result (Bor (List ℕ)) FaultFromEnd} {after : List ℕ} (w : ReadsClause ar s n g now after) where
        pub clausing_bad : {e : FaultFromEnd} → g ≡ Err e → ReadsClauses ar whole (Err e) before after
        unfolding clause
        clausing_bad e =
            record {
              clauses = l.clauses;
              reads = going_bad Clauses (clause ar) max_clauses whole l.going t h w.reads e;
              few = λ v d. err_ok refl d;
              stored = λ v d. err_ok refl d;
            }

        pub clausing_next : {end : Bor (List ℕ)} → g ≡ Ok end → length after ≡ length now → Clausing ar whole (n + 1) end.now before after
        unfolding clause
        clausing_next {end} e same =
            record {
              clauses = l.clauses ++ (w.clause ∷ []);
              few = omega arith;
              going = going_next Clauses (clause ar) max_clauses whole l.going t h w.reads e refl;
              size = same ∙ l.size;
              stored =
                  λ r.
                  clauses_of_stored (w.stored end e (l.size ∙ r)) ∙ ap (λ (x : List Clause). x ++ (w.clause ∷ [])) (l.stored r);
            }

    module _ (mark : leads (spelling Cl) s ≡ false) {g : Result (Unit {0}) FaultFromEnd} (w : RunEnds Clauses s g) where
      read : Reads (λ u. s) g (λ u. l.clauses) (many Clauses (clause ar) max_clauses [] whole)
      read = going_end Clauses (clause ar) max_clauses whole l.going (not_mine Clauses Cl s sole_clauses mark) w

      pub clausing_end_bad : {e : FaultFromEnd} → g ≡ Err e → ReadsClauses ar whole (Err e) before now
      clausing_end_bad e =
          record { clauses = l.clauses; reads = reads_fault read e; few = λ v d. err_ok refl d; stored = λ v d. err_ok refl d }

      pub clausing_end : {u : Unit {0}} → g ≡ Ok u → {end : Bor (List ℕ)} → end.now ≡ s → ReadsClauses ar whole (Ok (n, end)) before now
      clausing_end e {end} z =
          record {
            clauses = l.clauses;
            reads = reads_as read e z refl;
            few = λ v d. rw (same v d) l.few;
            stored = λ v d r. rw (same v d) (l.stored r);
          }
        where
          same : (v : ℕ × Bor (List ℕ)) → ◌≡◌ {A = Result (ℕ × Bor (List ℕ)) FaultFromEnd} (Ok (n, end)) (Ok v) → value v ≡ n
          same v d = cc

-- ---- the query

-- it is over where the bytes are
pub query_over : (s : List ℕ) → length s ≡ 0 → RunEnds Query s (Ok tt)
unfolding mark_at
query_over [] e = record { is = refl }
query_over (x ∷ s) e = absurd (omega arith)

module _ (p : Phase) (is : Bodied p) (ar s : List ℕ) {g : Result (Bor (List ℕ)) FaultFromEnd} {before after : List ℕ} (b : ReadsBody ar (drop 2 s) max_clauses g before after) where
  pub query_bad : {e : FaultFromEnd} → g ≡ Err e → ReadsQuery p ar s (Err e) before after
  unfolding query
  query_bad e = record { goals = []; reads = body_bad b p is e; stored = λ a d. err_ok refl d }

  module _ {t : Bor (List ℕ)} (e : g ≡ Ok t) {r : Result (Unit {0}) FaultFromEnd} (v : RunEnds p t.now r) where
    asked : Reads (λ u. t.now) r (λ u. map call_in b.words) (query p ar s)
    unfolding query
    asked = body_next b p is e v

    pub query_unended : {f : FaultFromEnd} → r ≡ Err f → ReadsQuery p ar s (Err f) before after
    query_unended f = record { goals = []; reads = reads_fault asked f; stored = λ a d. err_ok refl d }

    pub query_ended : {u : Unit {0}} → r ≡ Ok u → ReadsQuery p ar s (Ok t) before after
    query_ended f =
        record {
          goals = map call_in b.words;
          reads = reads_as asked f refl refl;
          stored = λ a d room. body_stored before max_clauses b.words room (omega arith) b.few (b.stored t e);
        }
