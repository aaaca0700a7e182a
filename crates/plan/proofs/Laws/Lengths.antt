-- How long a plan is: the loop over a set's clauses and the loop over the predicates add the lengths of the rows, and the sums stay small. Assumes
-- nothing.
use mathlib.Core.Path.{◌≡◌, refl, ap, ap₂, ◌∙◌}
use mathlib.Core.Bool.{Bool, true, false, cond}
use mathlib.Core.List.{List, [], ◌∷◌}
use Prim.Native.Nat.{ℕ, suc, ◌+◌, ◌*◌, ◌≤◌, ◌<◌}
use native.Mathlib.Nat.{zero-mul, mul-le-mul}
use native.Mathlib.Numerals.{add-one}
use native.Mathlib.Omega.{arith}
use lib.ListN.{length, get_or}
use Rattle.masks.specs.Limits.{all_patterns}
use Rattle.masks.specs.Set.{bit_at, members}
use Rattle.book.specs.Limits.{max_clauses, max_subgoals}
use Rattle.book.specs.Held.{clause_at}
use Rattle.tables.specs.Table.{sum_below}
use Rattle.plan.specs.Lent.{rows_length, plan_length}
use Rattle.masks.proofs.Laws.Set.{bit_at_zero}
use Rattle.masks.proofs.Laws.Loops.{Over, over_start, over_end, over_small, over_member, over_here, over_next}
use Rattle.book.proofs.Laws.Held.{clause_at_few}
use Rattle.tables.proofs.Laws.Sums.{sum_cong, sum_most}

-- ---- a row of each clause of a set

-- the length of a row of clause k, where it is of the set
abbrev row_length : List ℕ → ℕ → ℕ → ℕ
row_length rules own k = cond (bit_at own k) (5 + length (clause_at rules k).body) 0

row_most : (rules : List ℕ) (own k : ℕ) → row_length rules own k ≤ 5 + max_subgoals
row_most rules own k = let h = clause_at_few rules k in go (bit_at own k) (omega arith)
  where
    go : (b : Bool) {n : ℕ} → n ≤ 5 + max_subgoals → cond b n 0 ≤ 5 + max_subgoals
    go true h = h
    go false h = omega arith

pub rows_most : (rules : List ℕ) (own : ℕ) → rows_length rules own ≤ max_clauses * (5 + max_subgoals)
unfolding rows_length
rows_most rules own = sum_most (row_length rules own) (5 + max_subgoals) max_clauses (row_most rules own)

rows_none : (rules : List ℕ) → rows_length rules 0 ≡ 0
unfolding rows_length
rows_none rules = sum_cong (row_length rules 0) (λ k. 0) max_clauses (λ k h. ap (λ (b : Bool). cond b (5 + length (clause_at rules k).body) 0) (bit_at_zero k))

-- the total of the clauses below k
abbrev Total : List ℕ → ℕ → ℕ → ℕ → Type 0
Total rules own total k = total ≡ sum_below (row_length rules own) k

-- the loop: those of the members left are still to be added
pub record Adding (rules : List ℕ) (own total : ℕ) (left : List ℕ) : Type 0 where
  pub over : Over (Total rules own total) own left

pub adding_start : (rules : List ℕ) (own : ℕ) → Adding rules own 0 (members own)
adding_start rules own = record { over = over_start (Total rules own 0) own refl }

module _ {rules : List ℕ} {own total : ℕ} {left : List ℕ} (m : Adding rules own total left) where
  skip : (k : ℕ) → bit_at own k ≡ false → Total rules own total k → Total rules own total (suc k)
  skip k t e = rw t (omega arith)

  pub adding_end : left ≡ [] → total ≡ rows_length rules own
  unfolding rows_length
  adding_end z = over_end (Total rules own total) own left skip m.over z

  module _ {k : ℕ} {others : List ℕ} (z : left ≡ k ∷ others) where
    pub adding_low : k < max_clauses
    adding_low = over_small (Total rules own total) own left skip m.over k others z

    here : Total rules own total k
    here = over_here (Total rules own total) own left skip m.over k others z

    -- one row more is not too much
    pub adding_most : {n : ℕ} → n ≡ length (clause_at rules k).body → total + (5 + n) ≤ max_clauses * (5 + max_subgoals)
    adding_most e =
        let l = adding_low in
        let t = here in
        let f = clause_at_few rules k in
        let h = sum_most (row_length rules own) (5 + max_subgoals) k (row_most rules own) in
        omega arith

    pub adding_next : {n : ℕ} → n ≡ length (clause_at rules k).body → Adding rules own (total + (5 + n)) others
    adding_next {n} e =
        let t = over_member (Total rules own total) own left skip m.over k others z in
        let h = here in
        record { over = over_next (Total rules own total) own left skip m.over k others z (Total rules own (total + (5 + n))) (rw t (omega arith)) }

-- ---- the plan: each predicate's rows, as often as it has patterns

abbrev patterns_length : List ℕ → List ℕ → List ℕ → ℕ → ℕ
patterns_length rules own words p = rows_length rules (get_or own p 0) * length (members (get_or words p 0))

-- the most that a predicate's rows come to
abbrev pub most_rows : ℕ
most_rows = max_clauses * (5 + max_subgoals) * all_patterns

-- the loop: those of the first p predicates are added
pub record Planning (preds : ℕ) (rules own words : List ℕ) (p total : ℕ) : Type 0 where
  pub most : p ≤ preds
  pub is : total ≡ 3 + length (clause_at rules max_clauses).body + sum_below (patterns_length rules own words) p
  pub small : total ≤ 3 + max_subgoals + most_rows * p

pub planning_start : (preds : ℕ) (rules own words : List ℕ) {total : ℕ} → total ≡ 3 + length (clause_at rules max_clauses).body
    → Planning preds rules own words 0 total
planning_start preds rules own words e = let h = clause_at_few rules max_clauses in record { most = omega arith; is = omega arith; small = omega arith }

module _ {preds : ℕ} {rules own words : List ℕ} {p total : ℕ} (m : Planning preds rules own words p total) where
  -- a turn: the predicate's rows, and how many patterns it has
  module _ {rows patterns : ℕ} (h : p < preds) (e : rows ≡ rows_length rules (get_or own p 0)) (f : (patterns ≡ length (members (get_or words p 0))) × (patterns ≤ all_patterns)) where
    pub planning_most : (rows * patterns ≤ most_rows) × (total + rows * patterns ≤ 3 + max_subgoals + most_rows * (p + 1))
    planning_most =
        let l = rows_most rules (get_or own p 0) in
        let b : rows * patterns ≤ most_rows = mul-le-mul {n₂ = max_clauses * (5 + max_subgoals)} {m₂ = all_patterns} (omega arith) f.1 in
        let s = m.small in
        (b, omega arith)

    pub planning_next : Planning preds rules own words (p + 1) (total + rows * patterns)
    planning_next =
        let a = m.is in
        let b = ap₂ ◌*◌ e f.0 in
        record { most = omega arith; is = rw add-one (omega arith); small = planning_most.1 }

  -- a predicate without clauses has no rows
  pub planning_skip : p < preds → get_or own p 0 ≡ 0 → Planning preds rules own words (p + 1) total
  planning_skip h z =
      let a = m.is in
      let s = m.small in
      let b : patterns_length rules own words p ≡ 0 = ap (λ (n : ℕ). n * length (members (get_or words p 0))) (ap (rows_length rules) z ∙ rows_none rules) ∙ zero-mul (length (members (get_or words p 0))) in
      record { most = omega arith; is = rw add-one (omega arith); small = omega arith }

  pub planning_end : preds ≤ p → total ≡ plan_length preds rules own words
  unfolding plan_length
  planning_end h =
      let a = m.most in
      let e : p ≡ preds = omega arith in
      m.is ∙ ap (λ (n : ℕ). 3 + length (clause_at rules max_clauses).body + sum_below (patterns_length rules own words) n) e
