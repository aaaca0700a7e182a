-- The demands are met. Assumes nothing.
use mathlib.Core.Path.{◌≡◌, refl, sym, ap, ◌∙◌, subst}
use mathlib.Core.Bool.{Bool, true, false}
use mathlib.Core.Logic.{◌↔◌}
use mathlib.Core.List.{List, [], ◌++◌, map}
use mathlib.Core.Option.{none}
use Prim.Native.Nat.{ℕ, suc, ◌+◌, ◌^◌, ◌≤◌, ◌<◌}
use native.Mathlib.Omega.{arith}
use lib.Bits.{bit_or}
use lib.ListN.{length, get_or, length-map, get_or-map}
use lib.Seq.{take_all}
use Rattle.masks.specs.Constraint.{admits}
use Rattle.masks.specs.Lists.{how_many}
use Rattle.masks.specs.Outcome.{Outcome, done, reply, left, Answers}
use Rattle.masks.specs.Set.{bit_at}
use Rattle.masks.specs.declared.reply.Reply.{Reply}
use Rattle.book.specs.Limits.{max_queries, longest, longest_page}
use Rattle.book.specs.Book.{Call, Book}
use Rattle.book.specs.Format.{fault, book, judge}
use Rattle.book.specs.Encode.{run, encode, WellFormed}
use Rattle.book.specs.Table.{entry}
use Rattle.book.specs.declared.fault.Fault.{Fault}
use Rattle.reading.specs.Judged.{checked}
use Rattle.ordering.specs.Adorn.{nothing, head_bound}
use Rattle.ordering.specs.Orders.{LexLt, Sorted}
use Rattle.ordering.specs.Good.{first_good, is_some}
use Rattle.tables.specs.Table.{defined, table, settled, rounds, final}
use Rattle.tables.specs.Image.{row, rows, image, analysed}
use Rattle.choices.specs.Choice.{clause, Orderable}
use Rattle.choices.specs.Reached.{marked, reached}
use Rattle.choices.specs.Plan.{Row, row_key, chosen, rows_of, plan_rows, planned}
use Rattle.paging.specs.Run.{queries, judge_run}
use Rattle.paging.specs.Page.{answer, accepts, answers, verdicts}
use Rattle.tally.specs.declared.Tally.{Tally}
use Rattle.tally.specs.Tallied.{tally_from, zeroes, Tallies}
use Rattle.closing.specs.Close.{close_over, close, lacked, closed, closing}
use Rattle.depot.specs.Depot.{self_contained}
use Rattle.demands.specs.Demands as say
use Rattle.masks.proofs.Laws.Logic.{by_range, clash}
use Rattle.masks.proofs.Laws.Lists.{joined_at}
use Rattle.masks.proofs.Laws.Counts.{how_many_cong, fitting_ill, fitting_trivial}
use Rattle.masks.proofs.Laws.Outcome.{answers_unique, answers_kept, answers_rest, answers_zero, done_bytes}
use Rattle.book.proofs.Laws.Answer.{number_range, on_fault, on_book_lem}
use Rattle.book.proofs.Laws.Places.{fault_stands}
use Rattle.book.proofs.Laws.Bound.{encode_length, judge_length}
use Rattle.book.proofs.Laws.Examples.{shortest_book}
use Rattle.book.proofs.Laws.Longest.{longest_book, longest_well, longest_length}
use Rattle.book.proofs.Laws.Trip.{judge_encode, judge_inv}
use Rattle.reading.proofs.Laws.Judged.{check_zero}
use Rattle.ordering.proofs.Laws.Brought.{brought_ran, head_length}
use Rattle.ordering.proofs.Laws.Adorn.{known_variables}
use Rattle.ordering.proofs.Laws.Good.{good_clause_parts, good_clause_order, order_good_clause}
use Rattle.tables.proofs.Laws.Own.{good_at_lem, at_good}
use Rattle.tables.proofs.Laws.Round.{gets_good, good_gets, step_admits, step_outside}
use Rattle.tables.proofs.Laws.Full.{step_joint}
use Rattle.tables.proofs.Laws.Image.{count_few, table_length}
use Rattle.tables.proofs.Laws.Rounds.{same_table_true, true_same_table, start_at, rounds_least, rounds_most, rounds_settled, final_proper, final_declared, bound_most_lem}
use Rattle.choices.proofs.Laws.Moded.{orderable}
use Rattle.choices.proofs.Laws.Plan.{seven_iff, plan_iff, plan_sound, plan_exact, plan_query_first, plan_first, plan_filled}
use Rattle.choices.proofs.Laws.Rows.{rows_rise, plan_length_lem}
use Rattle.paging.proofs.Laws.Run.{query_well, well_query, run_read, run_inv, run_fault}
use Rattle.paging.proofs.Laws.Faults.{run_number}
use Rattle.paging.proofs.Laws.Page.{answer_planning, accepts_answer, paging_fault, paging_faulty, paging_queries, verdicts_queries, paging_other, paging_join, page_length}
use Rattle.paging.proofs.Laws.Longest.{longest_page_lem}
use Rattle.tally.proofs.Laws.Tallied.{tally_accepted, tally_sum, tallies_kept, tallies_told}
use Rattle.closing.proofs.Laws.Valid.{closed_well}
use Rattle.closing.proofs.Laws.Final.{final_close}
use Rattle.closing.proofs.Laws.Outcome.{closed_lacks, closing_book, done_closing, closing_twice, closing_turned, closing_again, closing_none, never_seven, closing_gave}
use Rattle.depot.proofs.Laws.Plan.{closing_seven, closing_orders, closing_plan}
use Rattle.depot.proofs.Laws.Sheet.{closing_sheet}
use Rattle.demands.proofs.Laws.Examples.{bench, attained}

-- ---- demand 1

one_answer : (o : Outcome) (out : List ℕ) → say.OneAnswer o out
one_answer o out =
    let this : Answers o out (reply o (length out)) (left o out) = record { replies = refl; leaves = refl } in
    record { reply· = reply o (length out); after = left o out; answers = this; only = λ r a x. answers_unique x this }

faulty : (s : List ℕ) (f : Fault) (at : ℕ) → judge s ≡ fault f at → say.Faulty s f at
faulty s f at e =
    record {
      least = (number_range f).0;
      most = (number_range f).1;
      place = fault_stands s f at e;
      check· = ap checked e;
      analyse· = sym (on_fault analysed s f at (sym e));
      plan· = sym (on_fault planned s f at (sym e));
      close· = λ set. sym (on_fault (closed set) s f at (sym e));
      page· = λ r. paging_fault s r f at e;
    }

encoded : (s : List ℕ) (B : Book) → (encode B ≡ s) × WellFormed B → judge s ≡ book B
encoded s B x = subst (λ (t : List ℕ). judge t ≡ book B) x.0 (judge_encode B x.1)

demand_1 : say.Demand1
demand_1 =
    record {
      defined = λ op out. one_answer (say.outcome op) out;
      kept = λ op a. answers_kept a;
      rest = λ op a. answers_rest a;
      untouched = λ s r w. tallies_kept (say.outcome (say.page s r)) w;
      books = λ s B. (judge_inv s B, encoded s B);
      most = judge_length;
      attained = ((_, _, shortest_book, refl), (encode longest_book, longest_book, judge_encode longest_book longest_well, longest_length));
      checks = λ s. (λ e. let x = check_zero s (ap (λ (r : Reply). r.number) e) in (x.0, encoded s x.0 (x.1, x.2)), λ x. ap checked x.1);
      faults = faulty;
    }

-- ---- demand 2

module _ (s : List ℕ) (B : Book) (valid : judge s ≡ book B) where
  well : WellFormed B
  well = (judge_inv s B valid).1

  no_sooner : (k : ℕ) → table B (suc k) ≡ table B k → rounds B ≤ k
  unfolding settled
  no_sooner k e = by_range k (rounds B) (λ l. clash (true_same_table (table B (suc k)) (table B k) e) (rounds_least B k l)) (λ h. h)

  its_own_next : table B (suc (rounds B)) ≡ table B (rounds B)
  unfolding settled
  its_own_next = same_table_true (table B (suc (rounds B))) (table B (rounds B)) (rounds_settled B well)

  ordered : Orderable B → is_some (first_good (final B) B.query nothing) ≡ true
  ordered x = (orderable B well).0 x

  gets : (k p a : ℕ) → p < length B.arities → defined B.clauses p ≡ true → a < 2 ^ get_or B.arities p 0
      → (admits (entry (table B (suc k)) p) a ≡ true) ↔ (say.FitsMode B p a × say.GoodPattern (table B k) B p a)
  unfolding table clause
  gets k p a h d l =
      let e = step_admits B (table B k) p h d a l in (
        λ t.
            let got = gets_good B (table B k) p a (sym e ∙ t) in (
              got.0,
              λ j i q.
                  let good = good_at_lem _ (table B k) B.clauses p a got.1 j i q in
                  let (σ, r, g) = good_clause_order (table B k) (clause B j) a good in
                  ((σ, (r, g)), (good_clause_parts (table B k) (clause B j) a good).1),
            ),
        λ f. e ∙ good_gets B (table B k) p a f.0 (at_good _ (table B k) B.clauses p a
            (λ j i q. let x = f.1 j i q in order_good_clause (table B k) (clause B j) a x.0.0 x.0.1.0 x.0.1.1 x.1)),
      )

  keeps : (k p : ℕ) → p < length B.arities → defined B.clauses p ≡ false → entry (table B (suc k)) p ≡ entry (table B k) p
  unfolding table
  keeps k p h d = step_outside B (table B k) p h d

  counted : (p : ℕ) → p < length B.arities → (after : List ℕ) × (rows B.arities (final B) p ++ (row p (entry (final B) p) (say.Count B p) ++ after) ≡ image B)
  unfolding image
  counted p h = joined_at (λ q. row q (entry (final B) q) (say.Count B q)) (length B.arities) p h

  rising : Sorted (λ (r q : Row). LexLt (row_key B r) (row_key B q)) (plan_rows B)
  unfolding plan_rows rows_of
  rising = rows_rise B (chosen B) (marked (reached B (chosen B)))

  demand_2 : say.Demand2 s B
  unfolding final table
  demand_2 =
      record {
        first = start_at B well;
        gets = gets;
        joint· = λ k p. step_joint B well (table B k) p;
        keeps = keeps;
        needs = sym (on_book_lem analysed s B (sym valid));
        last = refl;
        settled = its_own_next;
        least = no_sooner;
        bound = rounds_most B;
        bound_most = bound_most_lem B well;
        counted = counted;
        count_none = λ p h. fitting_ill (get_or B.arities p 0) (entry (final B) p) ((final_proper B well).written· p h);
        count_all = λ p h. fitting_trivial (get_or B.arities p 0) (entry (final B) p) ((final_proper B well).written· p h);
        count_most = count_few B well;
        inside = final_declared B well;
        table_room = table_length B well;
        seven = seven_iff s B valid;
        planned = plan_iff s B valid;
        plan_room = plan_length_lem B well;
        choice· = λ x. (plan_sound s B valid ((plan_iff s B valid).1 x)).0;
        well_moded = λ x. (plan_sound s B valid ((plan_iff s B valid).1 x)).1;
        reached = plan_exact B well;
        ascending = rising;
        query_first = λ x. plan_query_first B well (ordered x);
        clause_first = λ x. plan_first B well (ordered x);
        rule = λ c a σ. brought_ran c (head_bound c.head.args a) σ (head_length c.head.args a);
        filled· = λ x. plan_filled B well (ordered x);
        negation = known_variables B.arities;
      }

  -- ---- W1

  queried : (r : List ℕ) (qs : List (List Call)) → judge_run B.arities r ≡ queries qs → say.outcome (say.page s r) ≡ done 0 (run (answer (final B)) qs)
  unfolding answers
  queried r qs e = paging_queries s B valid r qs e

  joined : (a b : List ℕ) (qa qb : List (List Call)) → judge_run B.arities a ≡ queries qa → judge_run B.arities b ≡ queries qb
      → length qa + length qb ≤ max_queries → say.outcome (say.page s (a ++ b)) ≡ done 0 (run (answer (final B)) qa ++ run (answer (final B)) qb)
  unfolding answers
  joined a b qa qb d e h = paging_join s B valid a b qa qb d e h

  fitting : (r : List ℕ) (qs : List (List Call)) → judge_run B.arities r ≡ queries qs → length (run (answer (final B)) qs) ≤ longest_page
  unfolding answers
  fitting r qs e = page_length (final B) B.arities r qs e

  tallied : (r : List ℕ) (qs : List (List Call)) → judge_run B.arities r ≡ queries qs
      → {out : List ℕ} {old : Tally} {x : Reply} {after : List ℕ} {t : Tally} → Tallies (say.outcome (say.page s r)) (verdicts s r) out old x after t → x.number ≡ 0
      → (t.accepted ≡ how_many (λ i. accepts (final B) (get_or qs i [])) (length qs)) × (t.accepted + t.turned_away ≡ length qs)
  tallied r qs e {out} {old} {x} {after} {t} w z =
      let each = map (accepts (final B)) qs in
      let v : Tallies (done 0 (run (answer (final B)) qs)) each out old x after t = rw (← queried r qs e, ← verdicts_queries s B valid r qs e) w in
      let is : t ≡ tally_from zeroes each = tallies_told v z in
      let long : length each ≡ length qs = length-map qs (accepts (final B)) in
      let sum = tally_sum zeroes each in (
        ap (λ (u : Tally). u.accepted) is
            ∙ ap (λ (l : List Bool). (tally_from zeroes l).accepted) (sym (take_all (length qs) each (omega arith)))
            ∙ tally_accepted each (accepts (final B) []) (length qs) (omega arith)
            ∙ how_many_cong (λ i. get_or each i (accepts (final B) [])) (λ i. accepts (final B) (get_or qs i [])) (length qs) (λ i h. get_or-map (accepts (final B)) qs i []),
        ap (λ (u : Tally). u.accepted + u.turned_away) is ∙ omega arith,
      )

  page_of : say.PageOf s B
  page_of =
      record {
        runs = λ r qs. (run_inv B.arities r qs, λ x. ap (judge_run B.arities) (sym x.0) ∙ run_read B.arities qs x.1);
        query· = λ q. (query_well B well q, well_query B well q);
        faults = λ r f at e. (paging_faulty s B valid r f at e, run_number B.arities r f at e, run_fault B.arities r f at e);
        answers = queried;
        planned = λ q h. answer_planning B q well h;
        own = λ q h r. paging_other s B valid q (query_well B well q h) r;
        empty = queried [] [] (run_read B.arities [] (record { few = refl; each = refl }));
        joined = joined;
        room = fitting;
        accepted = accepts_answer (final B);
        tally = tallied;
      }

-- ---- demand 3

-- a call that was not refused wrote what closing comes to
gave : (set : ℕ) (s t : List ℕ) → say.Closes set s t → closing set s ≡ done 0 t
gave set s t c = closing_gave set s c.out c.answers c.zero ∙ ap (done 0) c.bytes

module _ (s : List ℕ) (B : Book) (valid : judge s ≡ book B) where
  same_needs : (set : ℕ) (t : List ℕ) → say.Closes set s t → say.SameNeeds s B t
  unfolding close_over
  same_needs set t c =
      let e = gave set s t c in
      record {
        closed = close set B;
        valid = closing_book set s t B valid e;
        arities = refl;
        needs = final_close (bit_at set) B (judge_inv s B valid).1;
        accepted = closing_seven set s t B valid e;
      }

  same_orders : (set : ℕ) (t : List ℕ) → say.Closes set s t → self_contained (bit_at set) B.clauses ≡ true → say.SameOrders set s B t
  same_orders set t c inside =
      let e = gave set s t c in
      record {
        seven = closing_seven set s t B valid e;
        left = closing_plan set s t B valid e inside;
        printed = λ C v. ap (done 0) (closing_sheet set s t B valid e inside C v);
      }

  room_enough : (set : ℕ) → lacked set (length B.arities) ≡ none → {out : List ℕ} {r : Reply} {after : List ℕ} → Answers (closing set s) out r after
      → longest ≤ length out → r.number ≡ 0
  room_enough set h {out} {r} {after} a l =
      let n = (encode_length (close set B) (closed_well (bit_at set) B (judge_inv s B valid).1)).1 in
      answers_zero (subst (λ (o : Outcome). Answers o out r after) (done_closing set s B valid h) a) (omega arith)

  demand_3 : say.Demand3 s B
  demand_3 =
      record {
        lacks = λ set p h. sym (on_book_lem (closed set) s B (sym valid)) ∙ closed_lacks set B p h;
        closes = room_enough;
        seven = λ set a. never_seven set s _ a;
        same = same_needs;
        orders = λ set t C c. closing_orders set s t B valid (gave set s t c) C;
        depot = same_orders;
        parts = λ S R t u v x y z. done_bytes (sym (gave R t u y) ∙ closing_twice S R s t (gave S s t x) ∙ gave (bit_or S R) s v z);
        turned = λ S R t u v w x y z q. done_bytes (sym (gave R t u y) ∙ closing_turned S R s t v (gave S s t x) (gave R s v z) ∙ gave S v w q);
        refusals = λ S R t x. closing_twice S R s t (gave S s t x);
        again = λ set t u x y. done_bytes (sym (gave set t u y) ∙ closing_again set s t (gave set s t x));
        none· = λ t x. done_bytes (sym (gave 0 s t x) ∙ closing_none s B valid);
        one = λ set t u x y. done_bytes (sym (gave set s t x) ∙ gave set s u y);
      }

-- ---- all of it

pub demands : say.Demands
demands = record { demand1 = demand_1; demand2 = demand_2; demand3 = demand_3; page = page_of; longest = longest_page_lem; attained = attained; bench = bench }
