-- From round to round. The masks are made again where a predicate is marked, and then they are those of the step; a predicate none of whose clauses calls
-- one that is marked would get what it has, so those that call one are all that is due next. A round that marks no predicate has changed nothing, and
-- the table is final. Assumes nothing.
use mathlib.Core.Path.{◌≡◌, refl, sym, ap, ◌∙◌, subst}
use mathlib.Core.Bool.{true, false}
use mathlib.Core.List.{List, []}
use Prim.Native.Nat.{ℕ, suc, ◌^◌, ◌≤◌, ◌<◌}
use native.Mathlib.Nat.{pow-le-pow_right}
use native.Mathlib.Omega.{arith}
use lib.Count.{count_trailing_zeros}
use lib.Dec.{eqb}
use lib.ListN.{length, get_or, set, length-set, get_or-eq_default}
use lib.Seq.{get_or-set_same, get_or-set_other, ext_get_or}
use borrow.Author.Tests.{eqb-true, eqb-false, leb-true}
use Rattle.masks.specs.Limits.{all_patterns}
use Rattle.masks.specs.Set.{bit_at, Holds, members}
use Rattle.masks.specs.Constraint.{admits, is_written, written}
use Rattle.masks.proofs.Laws.Logic.{by_bool, clash, by_range}
use Rattle.masks.proofs.Laws.Set.{bit_at_zero}
use Rattle.masks.proofs.Laws.Members.{lowest}
use Rattle.masks.proofs.Laws.Constraint.{is_written_mono}
use Rattle.masks.proofs.Laws.Sets.{written_full}
use Rattle.book.proofs.Laws.Table.{table_in_at, table_in_length}
use Rattle.book.specs.Limits.{max_predicates}
use Rattle.book.specs.Book.{Book}
use Rattle.book.specs.Encode.{WellFormed}
use Rattle.book.specs.Table.{Table, entry, entry_in, table_in, Admitted}
use Rattle.tables.specs.Table.{defined, step, start, table, rounds, final}
use Rattle.tables.specs.Calls.{touched}
use Rattle.tables.proofs.Laws.Valid.{arity_low}
use Rattle.tables.proofs.Laws.Round.{next_same, step_at, step_length, step_outside}
use Rattle.tables.proofs.Laws.Rounds.{Proper, table_proper, tables_fall, below_start, below_declared, Going, going_start, going_next, going_less, going_rounds, going_final}
use Rattle.tables.proofs.Laws.Own.{touched_defined}
use Rattle.needs.specs.Round.{Due, Stepped, Renewed}

-- ---- the loop that makes the masks again: those of the marked predicates below n are made

pub record Renewing (old words : List ℕ) (changed : ℕ) (now : List ℕ) (n : ℕ) : Type 0 where
  pub size : length now ≡ max_predicates
  pub those : (p : ℕ) → p < n → bit_at changed p ≡ true → entry_in now p ≡ written (bit_at (get_or words p 0)) all_patterns
  pub others : (p : ℕ) → (bit_at changed p ≡ true → n ≤ p) → get_or now p 0 ≡ get_or old p 0

module _ (old words : List ℕ) (changed : ℕ) where
  pub renewing_start : length old ≡ max_predicates → Renewing old words changed old 0
  renewing_start e = record { size = e; those = λ p h. absurd (omega arith); others = λ p h. refl }

  pub renewing_skip : (now : List ℕ) (n : ℕ) → bit_at changed n ≡ false → Renewing old words changed now n → Renewing old words changed now (suc n)
  renewing_skip now n e r =
      record {
        size = r.size;
        those = λ p h t.
            by_bool (eqb p n) (λ z. clash t (ap (bit_at changed) (eqb-true p n z) ∙ e)) (λ z. let ne = eqb-false p n z in r.those p (omega arith) t);
        others = λ p f. r.others p (λ t. let l = f t in omega arith);
      }

  pub renewing_next : (now : List ℕ) (n masks : ℕ) → n < max_predicates → bit_at changed n ≡ true → members masks ≡ written (bit_at (get_or words n 0)) all_patterns
      → Renewing old words changed now n → Renewing old words changed (set now n masks) (suc n)
  renewing_next now n masks l e m r =
      let s = r.size in
      record {
        size = length-set now n masks ∙ s;
        those = λ p h t.
            by_bool (eqb p n)
            (λ z.
            let q = eqb-true p n z in
            ap (λ (i : ℕ). entry_in (set now n masks) i) q
            ∙ ap members (get_or-set_same now n masks 0 (omega arith))
            ∙ m ∙ ap (λ (i : ℕ). written (bit_at (get_or words i 0)) all_patterns) (sym q))
            (λ z.
            let ne = eqb-false p n z in
            ap members (get_or-set_other now n p masks 0 ne) ∙ r.those p (omega arith) t);
        others = λ p f.
            get_or-set_other now n p masks 0 (λ q. let k = f (ap (bit_at changed) q ∙ e) in omega arith) ∙ r.others p (λ t. let k = f t in omega arith);
      }

  pub renewing_end : (now : List ℕ) → Renewing old words changed now max_predicates → Renewed old words changed now
  renewing_end now r = record { those = λ p h t. r.those p h t; others = λ p h e. r.others p (λ t. clash t e) }

-- ---- the loop: table k, with the patterns that it admits and what is due

pub record AtRound (B : Book) (k : ℕ) (masks words : List ℕ) (due : ℕ) : Type 0 where
  pub going : Going B k (table_in masks (length B.arities))
  pub admitted : Admitted masks words
  pub due· : Due B (table_in masks (length B.arities)) due

module _ (B : Book) (w : WellFormed B) where
  proper_written : (T : Table) → Proper B T → (p : ℕ) → p < length B.arities → is_written all_patterns (entry T p) ≡ true
  proper_written T t p h =
      is_written_mono (2 ^ get_or B.arities p 0) all_patterns (entry T p) (pow-le-pow_right (omega arith) (arity_low B w p)) (t.written· p h)

  -- what is due of table k
  due_of : (k : ℕ) (masks : List ℕ) (due : ℕ) → Going B k (table_in masks (length B.arities)) → ((p : ℕ) → bit_at due p ≡ true → defined B.clauses p ≡ true)
      → ((p : ℕ) → p < length B.arities → bit_at due p ≡ false
      → entry (step B (table_in masks (length B.arities))) p ≡ entry (table_in masks (length B.arities)) p)
      → Due B (table_in masks (length B.arities)) due
  unfolding table
  due_of k masks due g d o =
      record {
        defined· = d;
        written· = λ p h. rw g.now (proper_written (table B k) (table_proper B w k) p h);
        inside = λ p a. rw g.now (below_declared B w (table B k) (below_start B w k) p a);
        falls = λ p a. rw g.now (tables_fall B w k p a);
        others = o;
      }

  pub at_round_start : (masks words : List ℕ) (due : ℕ) → table_in masks (length B.arities) ≡ start B → Admitted masks words → Holds due (defined B.clauses)
      → AtRound B 0 masks words due
  at_round_start masks words due e l h =
      let g = subst (λ (T : Table). Going B 0 T) (sym e) (going_start B) in
      record {
        going = g;
        admitted = l;
        due· = due_of 0 masks due g (λ p t. sym (h p) ∙ t) (λ p i t. step_outside B (table_in masks (length B.arities)) p i (sym (h p) ∙ t));
      }

  module _ (k : ℕ) (masks old : List ℕ) (due : ℕ) (t : AtRound B k masks old due) (new : List ℕ) (changed : ℕ)
      (s : Stepped B (table_in masks (length B.arities)) old new changed) where
    abbrev n : ℕ
    n = length B.arities

    abbrev T : Table
    T = table_in masks n

    few : n ≤ max_predicates
    few = leb-true (length B.arities) max_predicates w.few_predicates

    after_proper : Proper B (step B T)
    unfolding table
    after_proper = rw t.going.now (table_proper B w (suc k))

    -- the masks of what is admitted after the round are those of the step
    new_written : (p : ℕ) → p < n → written (bit_at (get_or new p 0)) all_patterns ≡ entry (step B T) p
    new_written p h = written_full (entry (step B T) p) (proper_written (step B T) after_proper p h) (get_or new p 0) (s.admitted p h)

    -- a predicate that is not marked gets what it has
    same_entry : (p : ℕ) → p < n → bit_at changed p ≡ false → entry (step B T) p ≡ entry T p
    same_entry p h e =
        let f = few in
        sym (new_written p h)
        ∙ ap (λ (word : ℕ). written (bit_at word) all_patterns) (s.unmarked p (omega arith) e)
        ∙ written_full (entry T p) (t.due·.written· p h) (get_or old p 0)
        (λ a l. t.admitted p (omega arith) a l ∙ ap (λ (c : List ℕ). admits c a) (sym (table_in_at masks n p h)))

    -- none is marked: the table is settled
    same_table_lem : changed ≡ 0 → step B T ≡ T
    same_table_lem e =
        ext_get_or [] (step B T) T (step_length B T ∙ sym (table_in_length masks n))
        (λ p l. same_entry p (let q = step_length B T in omega arith) (ap (λ (x : ℕ). bit_at x p) e ∙ bit_at_zero p))

    pub at_round_final : changed ≡ 0 → T ≡ final B
    at_round_final e = going_final B k T t.going w (same_table_lem e)

    pub at_round_rounds : changed ≡ 0 → k ≡ rounds B
    at_round_rounds e = going_rounds B k T t.going w (same_table_lem e)

    -- and what is admitted is as it was
    pub at_round_kept : changed ≡ 0 → Admitted masks new
    at_round_kept e p h a l =
        ap (λ (word : ℕ). bit_at word a) (s.unmarked p h (ap (λ (x : ℕ). bit_at x p) e ∙ bit_at_zero p)) ∙ t.admitted p h a l

    -- one is marked: the table is another
    module _ (small : changed < 2 ^ 64) (z : changed ≡ 0 → ⊥) where
      other_table : step B T ≡ T → ⊥
      other_table e =
          let m = count_trailing_zeros 64 changed in
          let l = lowest 64 changed small z in
          let q = s.marked m l.member in
          let f = few in
          q.1
          (λ a i. s.admitted m q.0 a i ∙ ap (λ (U : Table). admits (entry U m) a) e
          ∙ ap (λ (c : List ℕ). admits c a) (table_in_at masks n m q.0) ∙ sym (t.admitted m (omega (arith, q.0)) a i))

      pub at_round_less : k < rounds B
      at_round_less = going_less B k T t.going w other_table

      pub at_round_next : {after : List ℕ} {more : ℕ} → Renewed masks new changed after → Holds more (touched (bit_at changed) B.clauses)
          → AtRound B (suc k) after new more
      at_round_next {after} {more} r h =
          record {
            going = g;
            admitted = λ p l a i.
                by_range p n
                (λ m. s.admitted p m a i ∙ ap (λ (c : List ℕ). admits c a) (sym (entry_after p m)))
                (λ m.
                let e : bit_at changed p ≡ false = false_marked p m in
                ap (λ (word : ℕ). bit_at word a) (s.unmarked p l e)
                ∙ t.admitted p l a i ∙ ap (λ (word : ℕ). admits (members word) a) (sym (r.others p l e)));
            due· = due_of (suc k) after more g (λ p e. touched_defined (bit_at changed) B.clauses p (sym (h p) ∙ e))
                (λ p i e.
                by_bool (defined B.clauses p)
                (λ d.
                step_at B (table_in after n) p i
                ∙ next_same (table_in after n) T (bit_at changed) agree B p d (sym (h p) ∙ e)
                ∙ sym (step_at B T p i) ∙ ap (λ (U : Table). entry U p) (sym table_after))
                (λ d. step_outside B (table_in after n) p i d));
          }
        where
          false_marked : (p : ℕ) → n ≤ p → bit_at changed p ≡ false
          false_marked p m = by_bool (bit_at changed p) (λ e. let q = (s.marked p e).0 in absurd (omega arith)) (λ e. e)

          entry_after : (p : ℕ) → p < n → entry_in after p ≡ entry (step B T) p
          entry_after p m =
              let f = few in
              by_bool (bit_at changed p) (λ e. r.those p (omega arith) e ∙ new_written p m)
              (λ e. ap members (r.others p (omega arith) e) ∙ sym (table_in_at masks n p m) ∙ sym (same_entry p m e))

          table_after : table_in after n ≡ step B T
          table_after =
              ext_get_or [] (table_in after n) (step B T) (table_in_length after n ∙ sym (step_length B T))
              (λ p l. let q = table_in_length after n in table_in_at after n p (omega arith) ∙ entry_after p (omega arith))

          g : Going B (suc k) (table_in after n)
          g = subst (λ (U : Table). Going B (suc k) U) (sym table_after) (going_next B k T t.going other_table)

          agree : (q : ℕ) → bit_at changed q ≡ false → entry (table_in after n) q ≡ entry T q
          agree q e =
              by_range q n
              (λ m. table_in_at after n q m ∙ entry_after q m ∙ same_entry q m e)
              (λ m. let a = table_in_length after n in
              let b = table_in_length masks n in
              get_or-eq_default (table_in after n) [] (omega arith) ∙ sym (get_or-eq_default T [] (omega arith)))
