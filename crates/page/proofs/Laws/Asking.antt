-- The loop over the queries of a run: those so far are read, answered and counted, and what is left comes to what the whole run comes to. Assumes nothing.
use mathlib.Core.Path.{◌≡◌, refl, sym, ap, ap₂, ◌∙◌, subst}
use mathlib.Core.Bool.{Bool, true, false}
use mathlib.Core.List.{List, [], ◌∷◌, ◌++◌, map, map-append, append-nil}
use Prim.Native.Nat.{ℕ, ◌+◌, ◌-◌, ◌*◌, ◌≤◌, ◌<◌}
use native.Mathlib.Omega.{arith}
use lib.ListN.{length}
use Rattle.std.specs.Prelude.{Result, Ok, Err}
use Rattle.book.specs.Limits.{max_predicates, max_clauses, max_queries, longest_page}
use Rattle.book.specs.Book.{Call, Clause}
use Rattle.book.specs.Format.{spelling, leads, mark_at, turn, Got, many, query}
use Rattle.book.specs.Held.{rules_size, clause_at}
use Rattle.book.specs.Sets.{callable}
use Rattle.book.specs.Table.{Table}
use Rattle.std.specs.Borrow.{Bor}
use Rattle.book.specs.declared.fault.Fault.TheVariants.{TooMany}
use Rattle.book.specs.declared.mark.Mark.TheVariants.{Qu}
use Rattle.book.specs.declared.mark.Phase.TheVariants.{Queries, PageQuery}
use Rattle.book.specs.declared.mark.Turn.TheVariants.{Mine}
use Rattle.book.proofs.Laws.Encode.{run_append}
use Rattle.book.proofs.Laws.Marks.{sole_queries}
use Rattle.book.proofs.Laws.Sets.{fit_callable}
use Rattle.records.specs.declared.fault.FaultFromEnd.{FaultFromEnd}
use Rattle.records.specs.Read.{alone, RunEnds, Reads}
use Rattle.records.proofs.Laws.Reads.{reads_ok, reads_err}
use Rattle.reading.specs.Stored.{ReadsQuery}
use Rattle.reading.proofs.Laws.Runs.{Going, mine, not_mine, going_start, going_full, going_bad, going_next, going_end}
use Rattle.writing.specs.Wrote.{Wrote}
use Rattle.writing.proofs.Laws.Wrote.{wrote_nil, wrote_append, wrote_as, wrote_length, wrote_front}
use Rattle.tally.specs.declared.Tally.{Tally}
use Rattle.tally.specs.Tallied.{tallied, tally_from, zeroes}
use Rattle.tally.proofs.Laws.Tallied.{AtMost, tallied_at_most, tally_append}
use Rattle.paging.specs.Run.{read_run, faulty, judged_run, judge_run}
use Rattle.paging.specs.Page.{answer, accepts, answers}
use Rattle.paging.proofs.Laws.Run.{query_inv, query_calls_lem}
use Rattle.page.specs.Lent.{QueryRead, Kept, RunAnswered}

-- ---- a query that is read is stored, where there is room

pub query_stored : {ar s : List ℕ} {r : Result (Bor (List ℕ)) FaultFromEnd} {before after : List ℕ} → ReadsQuery PageQuery ar s r before after → length before ≡ rules_size
    → QueryRead ar s r after
query_stored w room = record { goals = w.goals; reads = w.reads; stored = λ end e. ap (λ (c : Clause). c.body) (w.stored end e room).is }

-- ---- one more query

module _ (T : Table) (qs : List (List Call)) (q : List Call) where
  answers_more : answers T qs ++ answer T q ≡ answers T (qs ++ (q ∷ []))
  unfolding answers
  answers_more = ap (λ (l : List ℕ). answers T qs ++ l) (sym (append-nil (answer T q))) ∙ sym (run_append (answer T) qs (q ∷ []))

  tally_more : tallied (tally_from zeroes (map (accepts T) qs)) (accepts T q) ≡ tally_from zeroes (map (accepts T) (qs ++ (q ∷ [])))
  unfolding tally_from
  tally_more = sym (ap (tally_from zeroes) (map-append (accepts T) qs (q ∷ [])) ∙ tally_append zeroes (map (accepts T) qs) (accepts T q ∷ []))

-- ---- the loop

-- a query, whatever stands before it
abbrev item : List ℕ → List (List Call) → List ℕ → Got (List Call)
item ar before s = query PageQuery ar s

-- so far n queries are read, their answers stand at the image's front, and they are counted
pub record Asking (ar run : List ℕ) (T : Table) (image₀ image : List ℕ) (n : ℕ) (left : List ℕ) (size : ℕ) (t : Tally) : Type 0 where
  pub qs : List (List Call)
  pub going : Going Queries (item ar) max_queries run n left qs
  pub wrote : Wrote image₀ image 0 size (answers T qs)
  pub short : size ≤ 12 * n
  pub room : length image₀ ≡ longest_page
  pub counted : t ≡ tally_from zeroes (map (accepts T) qs)
  pub few : AtMost n t

module _ (ar run : List ℕ) (T : Table) where
  pub asking_start : (image : List ℕ) → length image ≡ longest_page → Asking ar run T image image 0 run 0 zeroes
  unfolding answers tally_from
  asking_start image h = record {
    qs = [];
    going = going_start Queries (item ar) max_queries run;
    wrote = wrote_nil image 0;
    short = omega arith;
    room = h;
    counted = refl;
    few = (omega arith, omega arith);
  }

  module _ {image₀ image : List ℕ} {n : ℕ} {s : List ℕ} {size : ℕ} {t : Tally} (l : Asking ar run T image₀ image n s size t) where
    pub asking_long : length image ≡ longest_page
    asking_long = wrote_length l.wrote ∙ l.room

    -- ---- what the run comes to

    judge_bad : {W : Type 0} {left : W → List ℕ} {k : W → List (List Call)} {r : Result W FaultFromEnd} {e : FaultFromEnd}
        → Reads left r k (many Queries (item ar) max_queries [] run) → r ≡ Err e → judge_run ar run ≡ faulty e.fault (length run - e.left)
    unfolding judge_run read_run
    judge_bad w d = ap (judged_run run) (sym (reads_err w d))

    module _ (mark : leads (spelling Qu) s ≡ true) where
      own : turn Queries (mark_at s) ≡ Mine
      own = mine Queries Qu s refl mark

      pub asking_full : max_queries ≤ n → (o : List ℕ) → RunAnswered ar run T (Err (record { fault = TooMany; left = length s })) o
      asking_full h o = record { comes = judge_bad {left = alone} {k = λ j. []} (going_full Queries (item ar) max_queries run l.going own h) refl }

      module _ {g : Result (Bor (List ℕ)) FaultFromEnd} {rules : List ℕ} (w : QueryRead ar s g rules) where
        pub asking_bad : n < max_queries → {e : FaultFromEnd} → g ≡ Err e → (o : List ℕ) → RunAnswered ar run T (Err e) o
        asking_bad h e o =
            record { comes = judge_bad {left = alone} {k = λ j. []} (going_bad Queries (item ar) max_queries run l.going own h w.reads e) refl }

        module _ {end : Bor (List ℕ)} (e : g ≡ Ok end) where
          -- what it calls can be called
          pub asking_callable : length ar ≤ max_predicates → callable (clause_at rules max_clauses).body ≡ true
          asking_callable a =
              let f = (query_inv ar s w.goals end.now own (sym (reads_ok w.reads e))).1 in
              rw (w.stored end e) (fit_callable ar a w.goals (query_calls_lem ar w.goals f))

          pub asking_next : n < max_queries → {after : List ℕ} {size' : ℕ} → Wrote image after size size' (answer T (clause_at rules max_clauses).body) → size' ≤ size + 12
              → {b : Bool} → b ≡ accepts T (clause_at rules max_clauses).body → {u : Tally} → u ≡ tallied t b → Asking ar run T image₀ after (n + 1) end.now size' u
          asking_next h v s {b} d {u} c =
              let q = w.goals in
              let is = w.stored end e in
              record {
                qs = l.qs ++ (q ∷ []);
                going = going_next Queries (item ar) max_queries run l.going own h w.reads e refl;
                wrote = wrote_as (answers_more T l.qs q) (wrote_append l.wrote (wrote_as (ap (answer T) is) v));
                short = let k = l.short in omega arith;
                room = l.room;
                counted = c ∙ ap₂ tallied l.counted (d ∙ ap (accepts T) is) ∙ tally_more T l.qs q;
                few = subst (AtMost (n + 1)) (sym c) (tallied_at_most t b l.few);
              }

    kept : Kept T l.qs image size t
    kept =
        let g = l.going.turns in
        let s = l.short in
        let e = l.room in
        let ends = l.wrote.ends in
        let z : size ≡ length (answers T l.qs) = omega arith in
        record {
          long = z;
          bytes = wrote_front l.wrote (let r : 0 + length (answers T l.qs) ≤ length image₀ = omega arith in r);
          counted = l.counted;
        }

    module _ (mark : leads (spelling Qu) s ≡ false) {r : Result (Unit {0}) FaultFromEnd} (w : RunEnds Queries s r) where
      all : Reads (λ u. s) r (λ u. l.qs) (many Queries (item ar) max_queries [] run)
      all = going_end Queries (item ar) max_queries run l.going (not_mine Queries Qu s sole_queries mark) w

      pub asking_end_bad : {e : FaultFromEnd} → r ≡ Err e → (o : List ℕ) → RunAnswered ar run T (Err e) o
      asking_end_bad e o = record { comes = judge_bad all e }

      pub asking_end : {u : Unit {0}} → r ≡ Ok u → RunAnswered ar run T (Ok (record { size = size; tally = t })) image
      unfolding judge_run read_run
      asking_end e = record { comes = (l.qs, ap (judged_run run) (sym (reads_ok all e)), kept) }
