-- The rounds. Tables fall, since a round is monotone and table 0 admits all that a MO does; a round that changes something takes a pattern away
-- from a predicate with clauses, so the rounds end within the number of their patterns; and the table they end in is the greatest whose patterns
-- are good under itself. Assumes nothing.
use mathlib.Core.Path.{◌≡◌, refl, sym, ap, ap₂, ◌∙◌, subst}
use mathlib.Core.Bool.{Bool, true, false, cond, false≢true}
use mathlib.Core.List.{List, [], ◌∷◌}
use Prim.Native.Nat.{ℕ, zero, suc, ◌+◌, ◌*◌, ◌^◌, ◌≤◌, ◌<◌}
use native.Mathlib.Nat.{pow-le-pow_right}
use native.Mathlib.Omega.{arith}
use lib.Dec.{eqb}
use lib.ListN.{length, get_or}
use lib.Seq.{ext_get_or}
use borrow.Author.Tests.{eqb-true, eqb-false, leb-true}
use Rattle.masks.specs.Limits.{all_patterns}
use Rattle.masks.specs.Lists.{how_many}
use Rattle.masks.specs.Constraint.{admits, is_written, minimise, same_masks}
use Rattle.masks.proofs.Laws.Logic.{by_bool, clash, false_of, same, and_intro, and_left, and_right, by_range}
use Rattle.masks.proofs.Laws.Lists.{length_values, get_or_values}
use Rattle.masks.proofs.Laws.Constraint.{same_masks_true, same_masks_refl, in_range_mono, canonical, written_is_written, written_mono, written_admits, minimise_is_written_at, admits_minimise}
use Rattle.masks.proofs.Laws.Joining.{power_le}
use Rattle.masks.proofs.Laws.Counts.{how_many_most, how_many_le, how_many_stuck}
use Rattle.book.specs.Limits.{max_predicates}
use Rattle.book.specs.Book.{Book}
use Rattle.book.specs.Encode.{WellFormed}
use Rattle.book.specs.Table.{Table, entry}
use Rattle.ordering.proofs.Laws.Adorn.{More, more_refl}
use Rattle.tables.specs.Table.{declared, first_needs, start, defined, good, gets, step, table, same_table, settled, sum_below, rounds_bound, seek, rounds, final}
use Rattle.tables.proofs.Laws.Sums.{sum_le, sum_stuck, sum_most}
use Rattle.tables.proofs.Laws.Valid.{arity_low, declared_low}
use Rattle.tables.proofs.Laws.Round.{past_none, more_trans, good_more, gets_good, good_gets, gets_more, step_length, step_defined, step_outside, step_sound}

-- ---- equal tables, by the test

pub same_table_true : (T U : Table) → same_table T U ≡ true → T ≡ U
same_table_true [] [] e = refl
same_table_true [] (d ∷ U) e = absurd (false≢true e)
same_table_true (c ∷ T) [] e = absurd (false≢true e)
same_table_true (c ∷ T) (d ∷ U) e =
    ap₂ (λ (z : List ℕ) (l : Table). z ∷ l) (same_masks_true c d (and_left (same_masks c d) (same_table T U) e))
    (same_table_true T U (and_right (same_masks c d) (same_table T U) e))

same_table_refl : (T : Table) → same_table T T ≡ true
same_table_refl [] = refl
same_table_refl (c ∷ T) = and_intro (same_masks_refl c) (same_table_refl T)

pub true_same_table : (T U : Table) → T ≡ U → same_table T U ≡ true
true_same_table T U e = subst (λ (W : Table). same_table T W ≡ true) e (same_table_refl T)

-- ---- a constraint in written form for each predicate of the book

pub record Proper (B : Book) (T : Table) : Type 0 where
  pub long : length T ≡ length B.arities
  pub written· : (p : ℕ) → p < length B.arities → is_written (2 ^ get_or B.arities p 0) (entry T p) ≡ true

-- such tables that admit the same are equal
pub more_antisym : (B : Book) (T U : Table) → Proper B T → Proper B U → More T U → More U T → T ≡ U
more_antisym B T U t u f g = ext_get_or [] T U (t.long ∙ sym u.long) here
  where
    here : (p : ℕ) → p < length T → entry T p ≡ entry U p
    here p l =
        let b : p < length B.arities = omega (arith, t.long) in
        canonical (2 ^ get_or B.arities p 0) (entry T p) (entry U p) (t.written· p b) (u.written· p b)
        (λ a h. same (admits (entry T p) a) (admits (entry U p) a) (f p a) (g p a))

-- ---- how much a table admits of the predicates with clauses

weight : Book → Table → ℕ → ℕ
weight B T p = cond (defined B.clauses p) (how_many (admits (entry T p)) (2 ^ get_or B.arities p 0)) 0

mass : Book → Table → ℕ
mass B T = sum_below (weight B T) (length B.arities)

mass_most : (B : Book) (T : Table) → mass B T ≤ rounds_bound B
unfolding mass rounds_bound weight
mass_most B T =
    sum_le (weight B T) (λ p. cond (defined B.clauses p) (2 ^ get_or B.arities p 0) 0) (length B.arities) (λ p l. go p (defined B.clauses p))
  where
    go : (p : ℕ) (b : Bool) → cond b (how_many (admits (entry T p)) (2 ^ get_or B.arities p 0)) 0 ≤ cond b (2 ^ get_or B.arities p 0) 0
    go p true = how_many_most (admits (entry T p)) (2 ^ get_or B.arities p 0)
    go p false = omega arith

weight_le : (B : Book) (T U : Table) → More T U → (p : ℕ) → weight B T p ≤ weight B U p
unfolding weight
weight_le B T U h p = go (defined B.clauses p)
  where
    go : (b : Bool)
        → cond b (how_many (admits (entry T p)) (2 ^ get_or B.arities p 0)) 0 ≤ cond b (how_many (admits (entry U p)) (2 ^ get_or B.arities p 0)) 0
    go true = how_many_le (admits (entry T p)) (admits (entry U p)) (h p) (2 ^ get_or B.arities p 0)
    go false = omega arith

module _ (B : Book) where
  abbrev after : Table → Table
  after T = step B T

  -- every pattern that X admits of a predicate with clauses is good under X
  abbrev pub Closed : Table → Type 0
  Closed X = (p : ℕ) → defined B.clauses p ≡ true → (a : ℕ) → admits (entry X p) a ≡ true → good X B.clauses p a ≡ true

  -- ---- one round

  pub step_proper : (T : Table) → Proper B T → Proper B (after T)
  step_proper T t =
      record {
        long = step_length B T;
        written· = λ p h. by_bool (defined B.clauses p)
            (λ d. rw (step_defined B T p h d) (written_is_written (gets B T p) (2 ^ get_or B.arities p 0)))
            (λ d. rw (step_outside B T p h d) (t.written· p h));
      }

  -- MONOTONE, for a whole table
  pub step_mono : (T U : Table) → More T U → More (after T) (after U)
  step_mono T U f p a e =
      by_range p (length B.arities)
      (λ h. by_bool (defined B.clauses p)
      (λ d. rw (step_defined B U p h d)
      (written_mono (gets B T p) (gets B U p) (2 ^ get_or B.arities p 0) (λ x l. gets_more B T U f p x) a
      (rw (step_defined B T p h d) at e)))
      (λ d. rw (step_outside B U p h d) (f p a (rw (step_outside B T p h d) at e))))
      (λ h. past_none (after T) p a (omega (arith, step_length B T)) e)

  -- a round that takes nothing away changes nothing
  step_stuck : (T : Table) → Proper B T → More (after T) T → mass B T ≤ mass B (after T) → after T ≡ T
  unfolding mass weight
  step_stuck T t f m = ext_get_or [] (after T) T (step_length B T ∙ sym t.long) here
    where
      here : (p : ℕ) → p < length (after T) → entry (after T) p ≡ entry T p
      here p l =
          let h : p < length B.arities = omega (arith, step_length B T) in
          let n : ℕ = 2 ^ get_or B.arities p 0 in
          by_bool (defined B.clauses p)
          (λ d.
          let w : weight B (after T) p ≡ weight B T p =
          sum_stuck (weight B (after T)) (weight B T) (length B.arities) (λ q z. weight_le B (after T) T f q) m p h in
          let c : how_many (admits (entry (after T) p)) n ≡ how_many (admits (entry T p)) n = rw d at w in
          canonical n (entry (after T) p) (entry T p) ((step_proper T t).written· p h) (t.written· p h)
          (how_many_stuck (admits (entry (after T) p)) (admits (entry T p)) (f p) n (omega arith)))
          (λ d. step_outside B T p h d)

  settled_step : (k : ℕ) → settled B k ≡ true → after (table B k) ≡ table B k
  unfolding settled table
  settled_step k e = same_table_true (after (table B k)) (table B k) e

  step_settled : (k : ℕ) → after (table B k) ≡ table B k → settled B k ≡ true
  unfolding settled table
  step_settled k e = true_same_table (after (table B k)) (table B k) e

  -- ---- the least k is found where it is near enough

  seek_near : (d k : ℕ) → (k ≤ seek B k d) × (seek B k d ≤ k + d)
  unfolding seek
  seek_near zero k = (omega arith, omega arith)
  seek_near (suc d) k =
      let r : (suc k ≤ seek B (suc k) d) × (seek B (suc k) d ≤ suc k + d) = seek_near d (suc k) in
      by_bool (settled B k) (λ e. rw e (omega arith, omega arith)) (λ e. rw e (omega arith, omega arith))

  seek_least : (d k j : ℕ) → k ≤ j → j < seek B k d → settled B j ≡ false
  unfolding seek
  seek_least zero k j a b = absurd (omega arith)
  seek_least (suc d) k j a b =
      by_bool (settled B k)
      (λ e. let b' : j < k = rw e at b in absurd (omega arith))
      (λ e. let b' : j < seek B (suc k) d = rw e at b in
      by_bool (eqb k j) (λ t. ap (settled B) (sym (eqb-true k j t)) ∙ e)
      (λ t. let ne : k ≡ j → ⊥ = eqb-false k j t in seek_least d (suc k) j (omega arith) b'))

  -- FINAL, the third part: no smaller k will do
  pub rounds_least : (j : ℕ) → j < rounds B → settled B j ≡ false
  unfolding rounds
  rounds_least j l = seek_least (rounds_bound B) 0 j (omega arith) l

  -- W5: at most as many rounds as the predicates with clauses have patterns
  pub rounds_most : rounds B ≤ rounds_bound B
  unfolding rounds
  rounds_most = omega (arith, seek_near (rounds_bound B) 0)

  -- ---- a book that is well formed

  module _ (w : WellFormed B) where
    pub start_at : (p : ℕ) → p < length B.arities → entry (start B) p ≡ minimise (declared B.modes p)
    unfolding start first_needs
    start_at p h = get_or_values (λ p. minimise (declared B.modes p)) [] (length B.arities) p h

    pub start_proper : Proper B (start B)
    unfolding start first_needs
    start_proper =
        record {
          long = length_values (λ p. minimise (declared B.modes p)) (length B.arities);
          written· = λ p h. rw (start_at p h) (minimise_is_written_at (2 ^ get_or B.arities p 0) (declared B.modes p) (declared_low B w p));
        }

    -- table 0 asks of a predicate what its MO asks
    pub start_declared : (p a : ℕ) → p < length B.arities → admits (entry (start B) p) a ≡ admits (declared B.modes p) a
    start_declared p a h =
        let m = declared B.modes p in
        ap (λ (c : List ℕ). admits c a) (start_at p h)
        ∙ admits_minimise m (in_range_mono (2 ^ get_or B.arities p 0) all_patterns m (power_le (get_or B.arities p 0) (arity_low B w p)) (declared_low B w p)) a

    -- so a table below it lies inside every MO
    pub below_declared : (T : Table) → More T (start B) → (p a : ℕ) → admits (entry T p) a ≡ true → admits (declared B.modes p) a ≡ true
    below_declared T f p a e =
        by_range p (length B.arities) (λ h. sym (start_declared p a h) ∙ f p a e)
        (λ h. let l = start_proper.long in past_none (start B) p a (omega arith) (f p a e))

    pub table_proper : (k : ℕ) → Proper B (table B k)
    unfolding table
    table_proper zero = start_proper
    table_proper (suc k) = step_proper (table B k) (table_proper k)

    pub final_proper : Proper B (final B)
    unfolding final
    final_proper = table_proper (rounds B)

    -- ---- the tables fall

    first_falls : More (after (start B)) (start B)
    first_falls p a e =
        by_range p (length B.arities)
        (λ h. by_bool (defined B.clauses p)
        (λ d. start_declared p a h ∙ (gets_good B (start B) p a (step_sound B (start B) p h d a e)).0)
        (λ d. rw (step_outside B (start B) p h d) at e))
        (λ h. past_none (after (start B)) p a (omega (arith, step_length B (start B))) e)

    pub tables_fall : (k : ℕ) → More (table B (suc k)) (table B k)
    unfolding table
    tables_fall zero = first_falls
    tables_fall (suc k) = step_mono (table B (suc k)) (table B k) (tables_fall k)

    pub below_start : (k : ℕ) → More (table B k) (start B)
    unfolding table
    below_start zero = more_refl (start B)
    below_start (suc k) = more_trans (table B (suc k)) (table B k) (start B) (tables_fall k) (below_start k)

    -- ---- the rounds end

    -- a round that changes the table takes something away
    unsettled_less : (k : ℕ) → settled B k ≡ false → mass B (table B (suc k)) < mass B (table B k)
    unfolding table
    unsettled_less k e =
        by_range (mass B (table B (suc k))) (mass B (table B k)) (λ h. h)
        (λ h. clash (step_settled k (step_stuck (table B k) (table_proper k) (tables_fall k) h)) e)

    seek_settled : (d k : ℕ) → mass B (table B k) ≤ d → settled B (seek B k d) ≡ true
    unfolding seek
    seek_settled zero k m = by_bool (settled B k) (λ e. e) (λ e. absurd (omega (arith, unsettled_less k e)))
    seek_settled (suc d) k m =
        by_bool (settled B k) (λ e. rw e e) (λ e. rw e (seek_settled d (suc k) (omega (arith, unsettled_less k e))))

    -- FINAL: the rounds settle the table, so the final one is its own next
    pub rounds_settled : settled B (rounds B) ≡ true
    unfolding rounds
    rounds_settled = seek_settled (rounds_bound B) 0 (mass_most B (table B 0))

    pub final_fixed : step B (final B) ≡ final B
    unfolding final
    final_fixed = settled_step (rounds B) rounds_settled

    -- what is the first settled table is the final one
    pub rounds_unique : (k : ℕ) → settled B k ≡ true → ((j : ℕ) → j < k → settled B j ≡ false) → k ≡ rounds B
    rounds_unique k e h =
        by_range k (rounds B) (λ l. clash e (rounds_least k l))
        (λ l. by_range (rounds B) k (λ m. clash rounds_settled (h (rounds B) m)) (λ m. omega arith))

    pub final_below_start : More (final B) (start B)
    unfolding final
    final_below_start = below_start (rounds B)

    -- W6: the final table lies inside every MO
    pub final_declared : (p a : ℕ) → admits (entry (final B) p) a ≡ true → admits (declared B.modes p) a ≡ true
    final_declared = below_declared (final B) final_below_start

    -- what the final table admits of a predicate with clauses is good under it
    pub final_closed : Closed (final B)
    final_closed p d a e =
        by_range p (length B.arities)
        (λ h.
        (gets_good B (final B) p a (step_sound B (final B) p h d a (subst (λ (W : Table). admits (entry W p) a ≡ true) (sym final_fixed) e))).1)
        (λ h. let l = final_proper.long in past_none (final B) p a (omega arith) e)

    -- GREATEST: a table below table 0 whose patterns are good under itself is below every table, so below the final one
    greatest_table : (X : Table) → Proper B X → More X (start B) → Closed X → (k : ℕ) → More X (table B k)
    unfolding table
    greatest_table X x s f zero p a e = s p a e
    greatest_table X x s f (suc k) p a e = go (greatest_table X x s f k)
      where
        go : More X (table B k) → admits (entry (after (table B k)) p) a ≡ true
        go ih =
            by_range p (length B.arities)
            (λ h. by_bool (defined B.clauses p)
            (λ d. rw (step_defined B (table B k) p h d)
            (written_mono (admits (entry X p)) (gets B (table B k) p) (2 ^ get_or B.arities p 0)
            (λ y l g. good_gets B (table B k) p y (below_declared X s p y g) (good_more X (table B k) ih B.clauses p y (f p d y g))) a
            (subst (λ (c : List ℕ). admits c a ≡ true) (sym (written_admits (2 ^ get_or B.arities p 0) (entry X p) (x.written· p h))) e)))
            (λ d. rw (step_outside B (table B k) p h d) (ih p a e)))
            (λ h. let l = x.long in past_none X p a (omega arith) e)

    pub greatest : (X : Table) → Proper B X → More X (start B) → Closed X → More X (final B)
    unfolding final
    greatest X x s f = greatest_table X x s f (rounds B)

    -- at most 64 predicates of at most six positions
    pub bound_most_lem : rounds_bound B ≤ 4096
    unfolding rounds_bound
    bound_most_lem =
        let n = leb-true (length B.arities) max_predicates w.few_predicates in
        let m : rounds_bound B ≤ length B.arities * 64 =
        sum_most (λ p. cond (defined B.clauses p) (2 ^ get_or B.arities p 0) 0) 64 (length B.arities) (λ p. go p (defined B.clauses p)) in
        omega (arith, m, n)
      where
        go : (p : ℕ) (b : Bool) → cond b (2 ^ get_or B.arities p 0) 0 ≤ 64
        go p true = pow-le-pow_right (omega arith) (arity_low B w p)
        go p false = omega arith

    pub rounds_few : rounds B ≤ 4096
    rounds_few = omega (arith, rounds_most, bound_most_lem)

-- ---- a loop of rounds: T is table k, and none before it was settled

pub record Going (B : Book) (k : ℕ) (T : Table) : Type 0 where
  pub now : T ≡ table B k
  pub before : (j : ℕ) → j < k → settled B j ≡ false

pub going_start : (B : Book) → Going B 0 (start B)
unfolding table
going_start B = record { now = refl; before = λ j l. absurd (omega arith) }

module _ (B : Book) (k : ℕ) (T : Table) (g : Going B k T) where
  settled_now : (b : Bool) → same_table (step B T) T ≡ b → settled B k ≡ b
  unfolding settled table
  settled_now b e = subst (λ (W : Table). same_table (step B W) W ≡ b) g.now e

  -- the new table differs: on with it
  pub going_next : (step B T ≡ T → ⊥) → Going B (suc k) (step B T)
  unfolding table
  going_next ne =
      record {
        now = ap (step B) g.now;
        before = λ j l. by_bool (eqb j k)
            (λ t. ap (settled B) (eqb-true j k t) ∙ settled_now false (false_of (λ e. ne (same_table_true (step B T) T e))))
            (λ t. let other : j ≡ k → ⊥ = eqb-false j k t in g.before j (omega arith));
      }

  module _ (w : WellFormed B) where
    pub going_less : (step B T ≡ T → ⊥) → k < rounds B
    going_less ne =
        by_range k (rounds B) (λ l. l)
        (λ l. clash (rounds_settled B w) ((going_next ne).before (rounds B) (omega arith)))

    -- it does not: done
    pub going_rounds : step B T ≡ T → k ≡ rounds B
    going_rounds e = rounds_unique B w k (settled_now true (true_same_table (step B T) T e)) g.before

    pub going_final : step B T ≡ T → T ≡ final B
    unfolding final
    going_final e = g.now ∙ ap (table B) (going_rounds e)
