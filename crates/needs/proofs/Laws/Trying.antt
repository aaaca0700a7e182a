-- The clauses of a predicate, tried one after the other: a pattern stays in the set while each clause tried is good under it. Assumes nothing.
use mathlib.Core.Path.{◌≡◌, sym, ap, ap₂, ◌∙◌, subst}
use mathlib.Core.Bool.{Bool, true, false, ◌&&◌, and_assoc, and-true}
use mathlib.Core.List.{List}
use Prim.Native.Nat.{ℕ, suc, ◌+◌, ◌-◌, ◌^◌, ◌≤◌, ◌<◌}
use native.Mathlib.Omega.{arith}
use lib.Bits.{bit_and}
use Rattle.masks.specs.Limits.{all_patterns}
use Rattle.masks.specs.Set.{bit_at}
use Rattle.masks.specs.Patterns.{EachLane}
use Rattle.masks.proofs.Laws.Logic.{by_bool, clash, false_of, and_left}
use Rattle.masks.proofs.Laws.Patterns.{member_below}
use Rattle.masks.proofs.Laws.Words.{Within, within_le}
use Rattle.masks.proofs.Laws.Set.{bit_at_zero}
use Rattle.masks.proofs.Laws.Members.{bit_at_and}
use Rattle.book.specs.Limits.{max_predicates, max_clauses}
use Rattle.book.specs.Held.{clause_at}
use Rattle.book.specs.Table.{table_in}
use Rattle.ordering.specs.Good.{good_clause}
use Rattle.needs.specs.Sets.{each_in}
use Rattle.needs.specs.Round.{Stays}
use Rattle.needs.proofs.Laws.Calls.{each_in_fewer}

-- ---- the loop: the clauses of the set below n are tried on the patterns of `had`

module _ (rules : List ℕ) (own : ℕ) (table : List ℕ) (had : ℕ) where
  abbrev good_at : ℕ → ℕ → Bool
  good_at a k = good_clause (table_in table max_predicates) (clause_at rules k) a

  pub record Tried (set n : ℕ) : Type 0 where
    pub inside : Within set had
    pub lanes : EachLane (λ a. bit_at set a ≡ (bit_at had a && each_in own (good_at a) n))

  pub tried_start : Tried had 0
  tried_start = record { inside = λ j t. t; lanes = λ a l. sym (and-true (bit_at had a)) }

  pub tried_skip : (set k : ℕ) → bit_at own k ≡ false → Tried set k → Tried set (suc k)
  tried_skip set k e t =
      record {
        inside = t.inside;
        lanes = λ a l. t.lanes a l ∙ rw e (ap (λ (b : Bool). bit_at had a && b) (sym (and-true (each_in own (good_at a) k))));
      }

  pub tried_next : (set k good : ℕ) → bit_at own k ≡ true → EachLane (λ a. bit_at good a ≡ good_at a k) → Tried set k → Tried (bit_and set good) (suc k)
  tried_next set k good e g t =
      record {
        inside = λ j q. t.inside j (and_left (bit_at set j) (bit_at good j) (sym (bit_at_and set good j) ∙ q));
        lanes = λ a l.
            bit_at_and set good a
            ∙ ap₂ (λ (x y : Bool). x && y) (t.lanes a l) (g a l) ∙ rw e (and_assoc (bit_at had a) (each_in own (good_at a) k) (good_at a k));
      }

  pub tried_end : (set : ℕ) → had < 2 ^ all_patterns → Tried set max_clauses → Stays rules own table had set
  tried_end set small t =
      record {
        lanes = t.lanes;
        whole = λ f.
            let h = within_le set had t.inside in
            let i = within_le had set (λ j q. f j (member_below all_patterns had j small q) ∙ q) in
            omega arith;
      }

  -- nothing is left: whatever the clauses behind are, nothing is
  pub tried_none : (set n : ℕ) → n ≤ max_clauses → set ≡ 0 → Tried set n → Tried set max_clauses
  tried_none set n h z g = record { inside = g.inside; lanes = none_left g.lanes }
    where
      none_left : EachLane (λ a. bit_at set a ≡ (bit_at had a && each_in own (good_at a) n)) → EachLane (λ a. bit_at set a ≡ (bit_at had a && each_in own (good_at a) max_clauses))
      none_left t a l =
          ap (λ (w : ℕ). bit_at w a) z ∙ bit_at_zero a
          ∙ sym (by_bool (bit_at had a)
          (λ e.
          let none : each_in own (good_at a) n ≡ false =
          sym (ap (λ (b : Bool). b && each_in own (good_at a) n) e) ∙ sym (t a l) ∙ ap (λ (w : ℕ). bit_at w a) z ∙ bit_at_zero a in
          rw e (false_of (λ q.
          let d : max_clauses ≡ (max_clauses - n) + n = omega arith in
          clash (each_in_fewer own (good_at a) n (max_clauses - n) (subst (λ (m : ℕ). each_in own (good_at a) m ≡ true) d q)) none)))
          (λ e. rw e))
