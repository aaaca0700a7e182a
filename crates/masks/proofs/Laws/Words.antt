-- Sets in words, one within another: it is no larger as a number, and of the bits in which the two differ all are those of the larger. Assumes nothing.
use mathlib.Core.Path.{◌≡◌, sym, ap, ◌∙◌}
use mathlib.Core.Bool.{true, false}
use Prim.Native.Nat.{ℕ, suc, ◌/◌, ◌%◌, ◌≤◌, ◌<◌}
use native.Mathlib.Omega.{arith}
use lib.Arith.{bin_ind}
use lib.Bits.{bit_xor, and_le_l, and_le_r, xor_add_and, xor_self}
use lib.Dec.{eqb}
use borrow.Author.Tests.{eqb-true, eqb-false}
use Rattle.masks.specs.Set.{bit_at}
use Rattle.masks.proofs.Laws.Logic.{by_bool, clash}
use Rattle.masks.proofs.Laws.Members.{bit_at_xor}

-- every member of y is one of x
abbrev pub Within : ℕ → ℕ → Type 0
Within y x = (j : ℕ) → bit_at y j ≡ true → bit_at x j ≡ true

pub within_le : (y x : ℕ) → Within y x → y ≤ x
unfolding bit_at
within_le = bin_ind (λ y. (x : ℕ) → Within y x → y ≤ x) (λ x f. omega arith) step
  where
    step : (y : ℕ) → ((x : ℕ) → Within (y / 2) x → y / 2 ≤ x) → (x : ℕ) → Within y x → y ≤ x
    step y r x f =
        let h = r (x / 2) (λ j. f (suc j)) in
        by_bool (eqb (y % 2) 1)
        (λ t. let e = eqb-true (y % 2) 1 t in let g = eqb-true (x % 2) 1 (f 0 t) in omega arith)
        (λ t. let e = eqb-false (y % 2) 1 t in omega (arith, e))

pub no_members : (w : ℕ) → ((j : ℕ) → bit_at w j ≡ false) → w ≡ 0
no_members w f = let h = within_le w 0 (λ j t. clash t (f j)) in omega arith

-- the members of x that are not in y
module _ (x y : ℕ) where
  pub in_new : (j : ℕ) → bit_at x j ≡ true → bit_at y j ≡ false → bit_at (bit_xor x y) j ≡ true
  in_new j s t = bit_at_xor x y j ∙ rw (s, t)

  -- there are none
  pub new_none : bit_xor x y ≡ 0 → x ≡ y
  new_none z =
      let s = xor_add_and x y in
      let l = and_le_l x y in
      let r = and_le_r x y in
      omega arith

  module _ (h : Within y x) where
    pub new_in : Within (bit_xor x y) x
    new_in j t = by_bool (bit_at x j) (λ e. e) (λ e. h j (sym (bit_at_xor x y j ∙ rw e) ∙ t))

    pub new_some : (bit_xor x y ≡ 0 → ⊥) → y < x
    new_some z =
        let l = within_le y x h in
        let ne : y ≡ x → ⊥ = λ e. z (ap (bit_xor x) e ∙ xor_self x) in
        omega arith
