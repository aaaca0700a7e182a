-- The members of a word's set: `trailing_zeros` is the lowest, and `left & (left - 1)` is the set without it; the bits that two words have in common, and
-- those in which they differ. Assumes nothing.
use mathlib.Core.Path.{◌≡◌, sym, ap, ◌∙◌}
use mathlib.Core.Bool.{true, false, not, cond, ◌&&◌, and-true, and-false}
use Prim.Native.Nat.{ℕ, zero, suc, ◌+◌, ◌-◌, ◌*◌, ◌/◌, ◌%◌, ◌^◌, ◌<◌, min}
use native.Mathlib.Omega.{arith}
use native.Mathlib.Nat.{pow-suc}
use lib.Bits.{bit_and, bit_xor, and_step, and_self, and_le_r, xor_add_and, xor_shr}
use lib.Count.{count_trailing_zeros}
use lib.Dec.{eqb}
use borrow.Author.Tests.{eq-eqb, ne_eqb, eqb-true, eqb-false}
use Rattle.masks.specs.Set.{bit_at}
use Rattle.masks.proofs.Laws.Logic.{by_bool, same, and_intro, and_left, and_right}
use Rattle.masks.proofs.Laws.Set.{eqb_suc}

-- ---- the bits in common

and_digit : (x y : ℕ) → eqb (bit_and x y % 2) 1 ≡ (eqb (x % 2) 1 && eqb (y % 2) 1)
and_digit x y =
    let s = and_step x y in
    same (eqb (bit_and x y % 2) 1) (eqb (x % 2) 1 && eqb (y % 2) 1)
    (λ t. let e = eqb-true (bit_and x y % 2) 1 t in and_intro (eq-eqb (x % 2) 1 (omega arith)) (eq-eqb (y % 2) 1 (omega arith)))
    (λ t.
    let e = eqb-true (x % 2) 1 (and_left (eqb (x % 2) 1) (eqb (y % 2) 1) t) in
    let f = eqb-true (y % 2) 1 (and_right (eqb (x % 2) 1) (eqb (y % 2) 1) t) in
    eq-eqb (bit_and x y % 2) 1 (omega arith))

pub bit_at_and : (x y k : ℕ) → bit_at (bit_and x y) k ≡ (bit_at x k && bit_at y k)
unfolding bit_at
bit_at_and x y zero = and_digit x y
bit_at_and x y (suc k) =
    let s = and_step x y in
    let e : bit_and x y / 2 ≡ bit_and (x / 2) (y / 2) = omega arith in
    ap (λ (z : ℕ). bit_at z k) e ∙ bit_at_and (x / 2) (y / 2) k

-- ---- the bits that differ

xor_digit : (x y : ℕ) → eqb (bit_xor x y % 2) 1 ≡ cond (eqb (x % 2) 1) (not (eqb (y % 2) 1)) (eqb (y % 2) 1)
xor_digit x y =
    let s = xor_add_and x y in
    by_bool (eqb (x % 2) 1)
    (λ t.
    let e = eqb-true (x % 2) 1 t in
    by_bool (eqb (y % 2) 1)
    (λ u. let f = eqb-true (y % 2) 1 u in rw (t, u) (ne_eqb (bit_xor x y % 2) 1 (λ z. omega (arith, z))))
    (λ u. let f = eqb-false (y % 2) 1 u in rw (t, u) (eq-eqb (bit_xor x y % 2) 1 (omega (arith, f)))))
    (λ t.
    let e = eqb-false (x % 2) 1 t in
    by_bool (eqb (y % 2) 1)
    (λ u. let f = eqb-true (y % 2) 1 u in rw (t, u) (eq-eqb (bit_xor x y % 2) 1 (omega (arith, e))))
    (λ u. let f = eqb-false (y % 2) 1 u in rw (t, u) (ne_eqb (bit_xor x y % 2) 1 (λ z. omega (arith, e, f, z)))))

pub bit_at_xor : (x y k : ℕ) → bit_at (bit_xor x y) k ≡ cond (bit_at x k) (not (bit_at y k)) (bit_at y k)
unfolding bit_at
bit_at_xor x y zero = xor_digit x y
bit_at_xor x y (suc k) = ap (λ (z : ℕ). bit_at z k) (xor_shr x y 1) ∙ bit_at_xor (x / 2) (y / 2) k

-- ---- the lowest member, and the others

odd_lowest : (k w : ℕ) → w % 2 ≡ 1 → count_trailing_zeros (suc k) w ≡ 0
unfolding count_trailing_zeros
odd_lowest k w e = rw e

even_lowest : (k w : ℕ) → w % 2 ≡ 0 → count_trailing_zeros (suc k) w ≡ suc (count_trailing_zeros k (w / 2))
unfolding count_trailing_zeros
even_lowest k w e = rw e

half_of : (n h r : ℕ) → n ≡ h * 2 + r → r < 2 → n / 2 ≡ h
half_of n h r e l = omega arith

-- a word of k bits that is not 0: its lowest member, and that there is none below it
pub record Lowest (k w m : ℕ) : Type 0 where
  pub small : m < k
  pub member : bit_at w m ≡ true
  pub none : (j : ℕ) → j < m → bit_at w j ≡ false

pub lowest : (k w : ℕ) → w < 2 ^ k → (w ≡ 0 → ⊥) → Lowest k w (count_trailing_zeros k w)
unfolding bit_at
lowest zero w l z = absurd (z (omega arith))
lowest (suc k) w l z = by_bool (eqb (w % 2) 1) odd (even (lowest k (w / 2)))
  where
    odd : eqb (w % 2) 1 ≡ true → Lowest (suc k) w (count_trailing_zeros (suc k) w)
    odd e = rw (odd_lowest k w (eqb-true (w % 2) 1 e)) (record { small = omega arith; member = e; none = λ j h. absurd (omega arith) })

    below : (t : ℕ) → eqb (w % 2) 1 ≡ false → ((j : ℕ) → j < t → bit_at (w / 2) j ≡ false) → (j : ℕ) → j < suc t → bit_at w j ≡ false
    below t e f zero h = e
    below t e f (suc j) h = f j (omega arith)

    even : (w / 2 < 2 ^ k → (w / 2 ≡ 0 → ⊥) → Lowest k (w / 2) (count_trailing_zeros k (w / 2))) → eqb (w % 2) 1 ≡ false → Lowest (suc k) w (count_trailing_zeros (suc k) w)
    even f e =
        let o : w % 2 ≡ 0 = let q = eqb-false (w % 2) 1 e in omega arith in
        let r = f (let p = pow-suc 2 k in omega arith) (λ q. z (omega arith)) in
        let s = r.small in
        rw (even_lowest k w o)
        (record { small = omega arith; member = r.member; none = below (count_trailing_zeros k (w / 2)) e r.none })

pub others : (k w j : ℕ) → w < 2 ^ k → (w ≡ 0 → ⊥) → bit_at (bit_and w (w - 1)) j ≡ (bit_at w j && not (eqb j (count_trailing_zeros k w)))
unfolding bit_at
others zero w j l z = absurd (z (omega arith))
others (suc k) w j l z = by_bool (eqb (w % 2) 1) (odd j) (even (λ i. others k (w / 2) i) j)
  where
    s : bit_and w (w - 1) ≡ bit_and (w / 2) ((w - 1) / 2) * 2 + min (w % 2) ((w - 1) % 2)
    s = and_step w (w - 1)

    -- the lowest digit of the others is 0
    none : eqb (bit_and w (w - 1) % 2) 1 ≡ false
    none = ne_eqb (bit_and w (w - 1) % 2) 1 (λ e. omega (arith, s, z))

    odd : (j : ℕ) → eqb (w % 2) 1 ≡ true → bit_at (bit_and w (w - 1)) j ≡ (bit_at w j && not (eqb j (count_trailing_zeros (suc k) w)))
    odd zero e = rw (none, odd_lowest k w (eqb-true (w % 2) 1 e)) (sym (and-false (bit_at w 0)))
    odd (suc j) e =
        let o = eqb-true (w % 2) 1 e in
        let h : (w - 1) / 2 ≡ w / 2 = omega arith in
        let r : bit_and w (w - 1) / 2 ≡ w / 2 =
        half_of (bit_and w (w - 1)) (bit_and (w / 2) ((w - 1) / 2)) (min (w % 2) ((w - 1) % 2)) s (omega arith) ∙ ap (bit_and (w / 2)) h ∙ and_self (w / 2) in
        rw (r, odd_lowest k w o, ne_eqb (suc j) 0 (λ q. omega arith)) (sym (and-true (bit_at (w / 2) j)))

    even : ((i : ℕ) → w / 2 < 2 ^ k → (w / 2 ≡ 0 → ⊥) → bit_at (bit_and (w / 2) (w / 2 - 1)) i ≡ (bit_at (w / 2) i && not (eqb i (count_trailing_zeros k (w / 2)))))
        → (j : ℕ) → eqb (w % 2) 1 ≡ false → bit_at (bit_and w (w - 1)) j ≡ (bit_at w j && not (eqb j (count_trailing_zeros (suc k) w)))
    even f zero e = rw (none, e)
    even f (suc j) e =
        let o : w % 2 ≡ 0 = let q = eqb-false (w % 2) 1 e in omega arith in
        let h : (w - 1) / 2 ≡ w / 2 - 1 = omega (arith, z) in
        let r : bit_and w (w - 1) / 2 ≡ bit_and (w / 2) (w / 2 - 1) =
        half_of (bit_and w (w - 1)) (bit_and (w / 2) ((w - 1) / 2)) (min (w % 2) ((w - 1) % 2)) s (omega arith) ∙ ap (bit_and (w / 2)) h in
        rw (r, even_lowest k w o, eqb_suc j (count_trailing_zeros k (w / 2))) (f j (let p = pow-suc 2 k in omega arith) (λ q. z (omega arith)))

pub others_less : (w : ℕ) → (w ≡ 0 → ⊥) → bit_and w (w - 1) < w
others_less w z = let h = and_le_r w (w - 1) in omega (arith, z)
