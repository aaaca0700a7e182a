-- Words of 64 lanes, bit by bit: a lane of the variables and what a store makes of it, and the bits of a pattern. Assumes nothing.
use mathlib.Core.Path.{◌≡◌, refl, sym, ap, ◌∙◌}
use mathlib.Core.Bool.{Bool, true, false, cond, ◌||◌, or-true, or-false}
use mathlib.Core.List.{List, [], ◌∷◌, map}
use Prim.Native.Nat.{ℕ, zero, suc, ◌+◌, ◌*◌, ◌/◌, ◌%◌, ◌≤◌, ◌<◌}
use native.Mathlib.Omega.{arith}
use lib.Bits.{bit_or}
use lib.ListN.{length, get_or, set, replicate, get_or-map}
use lib.Seq.{set-get_or}
use Rattle.masks.specs.Set.{bit_at}
use Rattle.ordering.specs.Adorn.{Bound, is_bound, bit, pattern_of}
use Rattle.lanes.specs.Lanes.{lane}
use Rattle.masks.proofs.Laws.Set.{bit_at_zero, bit_at_or}

-- ---- a lane of the variables

pub lane_at : (a : ℕ) (vars : List ℕ) (v : ℕ) → get_or (lane a vars) v false ≡ bit_at (get_or vars v 0) a
unfolding lane
lane_at a vars v =
    ap (get_or (map (λ w. bit_at w a) vars) v) (sym (bit_at_zero a)) ∙ get_or-map (λ (w : ℕ). bit_at w a) vars v 0

lane_set : (a : ℕ) (vars : List ℕ) (v w : ℕ) → lane a (set vars v w) ≡ set (lane a vars) v (bit_at w a)
unfolding lane
lane_set a [] v w = refl
lane_set a (x ∷ vars) zero w = refl
lane_set a (x ∷ vars) (suc v) w = ap {B = Bound} (λ (b : Bound). bit_at x a ∷ b) (lane_set a vars v w)

-- the lanes of r added to those of a variable
pub lane_or : (a : ℕ) (vars : List ℕ) (v r : ℕ)
    → lane a (set vars v (bit_or (get_or vars v 0) r)) ≡ cond (bit_at r a) (set (lane a vars) v true) (lane a vars)
lane_or a vars v r =
    lane_set a vars v (bit_or (get_or vars v 0) r) ∙ ap (set (lane a vars) v) (bit_at_or (get_or vars v 0) r a) ∙ go (bit_at r a)
  where
    go : (c : Bool) → set (lane a vars) v (bit_at (get_or vars v 0) a || c) ≡ cond c (set (lane a vars) v true) (lane a vars)
    go true = ap (set (lane a vars) v) (or-true (bit_at (get_or vars v 0) a))
    go false =
        ap (set (lane a vars) v) (or-false (bit_at (get_or vars v 0) a) ∙ sym (lane_at a vars v)) ∙ set-get_or (lane a vars) v false

pub lane_zeros : (a n : ℕ) → lane a (replicate n 0) ≡ replicate n false
unfolding lane
lane_zeros a zero = refl
lane_zeros a (suc n) = rw (bit_at_zero a) (ap {B = Bound} (λ (b : Bound). false ∷ b) (lane_zeros a n))

-- ---- the bits of a pattern: that of each argument, and none past them

last_bit : (n : ℕ) (c : Bool) → bit_at (n * 2 + bit c) 0 ≡ c
unfolding bit_at
last_bit n true = let e : (n * 2 + 1) % 2 ≡ 1 = omega arith in rw e
last_bit n false = let e : (n * 2 + 0) % 2 ≡ 0 = omega arith in rw e

other_bits : (n j : ℕ) (c : Bool) → bit_at (n * 2 + bit c) (suc j) ≡ bit_at n j
unfolding bit_at
other_bits n j true = let e : (n * 2 + 1) / 2 ≡ n = omega arith in rw e
other_bits n j false = let e : (n * 2 + 0) / 2 ≡ n = omega arith in rw e

pub pattern_at_lem : (b : Bound) (l : List ℕ) (j : ℕ) → j < length l → bit_at (pattern_of b l) j ≡ is_bound b (get_or l j 0)
unfolding pattern_of
pattern_at_lem b [] j h = absurd (omega arith)
pattern_at_lem b (v ∷ l) zero h = last_bit (pattern_of b l) (is_bound b v)
pattern_at_lem b (v ∷ l) (suc j) h = other_bits (pattern_of b l) j (is_bound b v) ∙ pattern_at_lem b l j (omega arith)

pub pattern_past : (b : Bound) (l : List ℕ) (j : ℕ) → length l ≤ j → bit_at (pattern_of b l) j ≡ false
unfolding pattern_of
pattern_past b [] j h = bit_at_zero j
pattern_past b (v ∷ l) zero h = absurd (omega arith)
pattern_past b (v ∷ l) (suc j) h = other_bits (pattern_of b l) j (is_bound b v) ∙ pattern_past b l j (omega arith)
