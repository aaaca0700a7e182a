-- A bit set in a word adds a mask to its set; a loop over a list adds the union of m with each of its masks. Sets with the same masks have the
-- same written form. Assumes nothing.
use mathlib.Core.Path.{◌≡◌, refl, sym, ap, ap₂, ◌∙◌}
use mathlib.Core.Bool.{Bool, true, false, ◌||◌, or_assoc}
use mathlib.Core.List.{List, [], ◌∷◌, ◌++◌, map}
use Prim.Native.Nat.{ℕ, zero, suc, ◌+◌, ◌/◌, ◌%◌, ◌^◌, ◌≤◌, ◌<◌}
use native.Mathlib.Omega.{arith}
use native.Mathlib.Nat.{pow-suc}
use lib.Bits.{bit_or, or_step, or_lt}
use lib.Dec.{eqb}
use lib.ListN.{length, get_or, take}
use lib.Pow.{shr-shr}
use borrow.Author.Tests.{eq-eqb, ne_eqb, eqb-true, eqb-false}
use Rattle.masks.specs.Limits.{all_patterns}
use Rattle.masks.specs.Constraint.{in_range}
use Rattle.masks.specs.Set.{bit_at, Holds}
use Rattle.masks.specs.Lists.{has}
use Rattle.masks.proofs.Laws.Logic.{by_bool, same, or_case, or_left, or_right}
use Rattle.masks.proofs.Laws.Constraint.{in_range_at}
use Rattle.masks.proofs.Laws.Lists.{any_suc, has_append, has_map}

-- ---- the bits of a word

pub bit_at_zero : (k : ℕ) → bit_at 0 k ≡ false
unfolding bit_at
bit_at_zero zero = refl
bit_at_zero (suc k) = bit_at_zero k

-- the bits from place n on
pub bit_at_shift : (w n k : ℕ) → bit_at (w / 2 ^ n) k ≡ bit_at w (n + k)
unfolding bit_at
bit_at_shift w zero k =
    let e : w / 2 ^ 0 ≡ w = omega arith in
    let f : 0 + k ≡ k = omega arith in
    ap (λ (z : ℕ). bit_at z k) e ∙ ap (bit_at w) (sym f)
bit_at_shift w (suc n) k =
    let e : 1 + n ≡ suc n = omega arith in
    let f : suc n + k ≡ suc (n + k) = omega arith in
    ap (λ (z : ℕ). bit_at (w / 2 ^ z) k) (sym e) ∙ ap (λ (z : ℕ). bit_at z k) (sym (shr-shr w 1 n)) ∙ bit_at_shift (w / 2) n k ∙ ap (bit_at w) (sym f)

-- a word of n bits has none from place n on
pub bit_at_high : (n w k : ℕ) → w < 2 ^ n → n ≤ k → bit_at w k ≡ false
unfolding bit_at
bit_at_high zero w k l h = let e : w ≡ 0 = omega arith in ap (λ (z : ℕ). bit_at z k) e ∙ bit_at_zero k
bit_at_high (suc n) w zero l h = absurd (omega arith)
bit_at_high (suc n) w (suc k) l h = let p = pow-suc 2 n in bit_at_high n (w / 2) k (omega arith) (omega arith)

or_digit : (x y : ℕ) → eqb (bit_or x y % 2) 1 ≡ (eqb (x % 2) 1 || eqb (y % 2) 1)
or_digit x y =
    let s = or_step x y in
    same (eqb (bit_or x y % 2) 1) (eqb (x % 2) 1 || eqb (y % 2) 1)
    (λ t. by_bool (eqb (x % 2) 1) (or_left (eqb (x % 2) 1) (eqb (y % 2) 1))
    (λ f. let e = eqb-true (bit_or x y % 2) 1 t in let ne = eqb-false (x % 2) 1 f in or_right (eqb (x % 2) 1) (eq-eqb (y % 2) 1 (omega arith))))
    (λ t. or_case (eqb (x % 2) 1) (eqb (y % 2) 1) t
    (λ h. let e = eqb-true (x % 2) 1 h in eq-eqb (bit_or x y % 2) 1 (omega arith))
    (λ h. let e = eqb-true (y % 2) 1 h in eq-eqb (bit_or x y % 2) 1 (omega arith)))

pub bit_at_or : (x y k : ℕ) → bit_at (bit_or x y) k ≡ (bit_at x k || bit_at y k)
unfolding bit_at
bit_at_or x y zero = or_digit x y
bit_at_or x y (suc k) =
    let s = or_step x y in
    let e : bit_or x y / 2 ≡ bit_or (x / 2) (y / 2) = omega arith in
    ap (λ (z : ℕ). bit_at z k) e ∙ bit_at_or (x / 2) (y / 2) k

pub eqb_suc : (a b : ℕ) → eqb (suc a) (suc b) ≡ eqb a b
eqb_suc a b =
    same (eqb (suc a) (suc b)) (eqb a b)
    (λ t. let e = eqb-true (suc a) (suc b) t in eq-eqb a b (omega arith)) (λ t. let e = eqb-true a b t in eq-eqb (suc a) (suc b) (omega arith))

pub bit_at_power : (u k : ℕ) → bit_at (2 ^ u) k ≡ eqb k u
unfolding bit_at
bit_at_power zero zero = refl
bit_at_power zero (suc k) = bit_at_zero k ∙ sym (ne_eqb (suc k) 0 (λ e. omega arith))
bit_at_power (suc u) zero = let p = pow-suc 2 u in ne_eqb (2 ^ suc u % 2) 1 (λ e. omega arith) ∙ sym (ne_eqb 0 (suc u) (λ e. omega arith))
bit_at_power (suc u) (suc k) =
    let p = pow-suc 2 u in
    let e : 2 ^ suc u / 2 ≡ 2 ^ u = omega arith in
    ap (λ (z : ℕ). bit_at z k) e ∙ bit_at_power u k ∙ sym (eqb_suc k u)

pub eqb_comm : (a b : ℕ) → eqb a b ≡ eqb b a
eqb_comm a b = same (eqb a b) (eqb b a) (λ t. eq-eqb b a (sym (eqb-true a b t))) (λ t. eq-eqb a b (sym (eqb-true b a t)))

pub bit_at_more : (word m k : ℕ) → bit_at (bit_or word (2 ^ m)) k ≡ (bit_at word k || eqb m k)
bit_at_more word m k = bit_at_or word (2 ^ m) k ∙ ap (λ (b : Bool). bit_at word k || b) (bit_at_power m k ∙ eqb_comm k m)

-- ---- one mask more

-- the unions of m with the first i masks of l are in
module _ (word m : ℕ) (l : List ℕ) where
  pub with_next : (now i : ℕ) → i < length l → Holds now (λ k. bit_at word k || has (map (bit_or m) (take i l)) k)
      → Holds (bit_or now (2 ^ bit_or m (get_or l i 0))) (λ k. bit_at word k || has (map (bit_or m) (take (i + 1) l)) k)
  with_next now i h f k =
      let u = bit_or m (get_or l i 0) in
      bit_at_or now (2 ^ u) k
      ∙ ap₂ (λ (a b : Bool). a || b) (f k) (bit_at_power u k)
      ∙ or_assoc (bit_at word k) (has (map (bit_or m) (take i l)) k) (eqb k u)
      ∙ ap (λ (b : Bool). bit_at word k || b)
      (ap (λ (b : Bool). b || eqb k u) (has_map (bit_or m) (take i l) k)
      ∙ sym (any_suc (λ x. eqb k (bit_or m x)) 0 l i h) ∙ sym (has_map (bit_or m) (take (i + 1) l) k))

-- a union of masks is one
pub union_below : (m : ℕ) (l : List ℕ) (i : ℕ) → m < all_patterns → in_range all_patterns l ≡ true → i < length l → bit_or m (get_or l i 0) < all_patterns
union_below m l i h s k = or_lt 6 m (get_or l i 0) h (in_range_at all_patterns l i s k)

-- ---- the written form of what a word holds

map_zero : (l : List ℕ) → map (bit_or 0) l ≡ l
map_zero [] = refl
map_zero (x ∷ xs) = ap {B = List ℕ} (λ (t : List ℕ). x ∷ t) (map_zero xs)

-- the masks of x, added to the empty set; those of y besides
pub holds_list : (word : ℕ) (x : List ℕ) → Holds word (λ k. bit_at 0 k || has (map (bit_or 0) x) k) → Holds word (has x)
holds_list word x f k = f k ∙ ap₂ (λ (a : Bool) (l : List ℕ). a || has l k) (bit_at_zero k) (map_zero x)

pub holds_both : (word more : ℕ) (x y : List ℕ) → Holds word (has x) → Holds more (λ k. bit_at word k || has (map (bit_or 0) y) k) → Holds more (has (x ++ y))
holds_both word more x y f g k = g k ∙ ap₂ (λ (a : Bool) (l : List ℕ). a || has l k) (f k) (map_zero y) ∙ sym (has_append x y k)
