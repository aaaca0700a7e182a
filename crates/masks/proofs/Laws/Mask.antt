-- Containment of masks is an order, and a union is contained where both its parts are: digit by digit. Assumes nothing.
use mathlib.Core.Path.{◌≡◌, refl, sym, subst}
use mathlib.Core.Bool.{true, ◌&&◌}
use Prim.Native.Nat.{ℕ, ◌/◌, ◌%◌, ◌≤◌, max}
use native.Mathlib.Omega.{arith}
use lib.Arith.{bin_ind}
use lib.Bits.{bit_and, bit_or, and_step, or_step, and_self, and_le_r}
use borrow.Author.Tests.{eqb-true, eq-eqb}
use Rattle.masks.specs.Mask.{within}
use Rattle.masks.proofs.Laws.Logic.{same, and_intro, and_left, and_right}

-- the test and the fact
pub within_and : (m a : ℕ) → within m a ≡ true → bit_and m a ≡ m
unfolding within
within_and m a t = eqb-true (bit_and m a) m t

pub and_within : (m a : ℕ) → bit_and m a ≡ m → within m a ≡ true
unfolding within
and_within m a e = eq-eqb (bit_and m a) m e

-- ---- one digit

pub halved : (a b : ℕ) → bit_and a b ≡ a → (bit_and (a / 2) (b / 2) ≡ a / 2) × (a % 2 ≤ b % 2)
halved a b e = let s = and_step a b in omega arith

pub doubled : (a b : ℕ) → bit_and (a / 2) (b / 2) ≡ a / 2 → a % 2 ≤ b % 2 → bit_and a b ≡ a
doubled a b e h = let s = and_step a b in omega arith

or_half : (m k : ℕ) → (bit_or m k / 2 ≡ bit_or (m / 2) (k / 2)) × (bit_or m k % 2 ≡ max (m % 2) (k % 2))
or_half m k = let s = or_step m k in omega arith

-- ---- all digits

and_trans : (a b c : ℕ) → bit_and a b ≡ a → bit_and b c ≡ b → bit_and a c ≡ a
and_trans =
    bin_ind (λ (a : ℕ). (b c : ℕ) → bit_and a b ≡ a → bit_and b c ≡ b → bit_and a c ≡ a) (λ b c p q. refl)
    (λ a ih b c p q.
    let u = halved a b p in
    let v = halved b c q in
    doubled a c (ih (b / 2) (c / 2) u.0 v.0) (omega arith))

or_both : (m k a : ℕ) → bit_and (bit_or m k) a ≡ bit_or m k → (bit_and m a ≡ m) × (bit_and k a ≡ k)
or_both =
    bin_ind (λ (m : ℕ). (k a : ℕ) → bit_and (bit_or m k) a ≡ bit_or m k → (bit_and m a ≡ m) × (bit_and k a ≡ k)) (λ k a e. (refl, e))
    (λ m ih k a e.
    let h = or_half m k in
    let u = halved (bit_or m k) a e in
    let v = ih (k / 2) (a / 2) (subst (λ (x : ℕ). bit_and x (a / 2) ≡ x) h.0 u.0) in
    let w = h.1 in
    let z = u.1 in
    (doubled m a v.0 (omega arith), doubled k a v.1 (omega arith)))

both_or : (m k a : ℕ) → bit_and m a ≡ m → bit_and k a ≡ k → bit_and (bit_or m k) a ≡ bit_or m k
both_or =
    bin_ind (λ (m : ℕ). (k a : ℕ) → bit_and m a ≡ m → bit_and k a ≡ k → bit_and (bit_or m k) a ≡ bit_or m k) (λ k a p q. q)
    (λ m ih k a p q.
    let h = or_half m k in
    let u = halved m a p in
    let v = halved k a q in
    let w = h.1 in
    doubled (bit_or m k) a (subst (λ (x : ℕ). bit_and x (a / 2) ≡ x) (sym h.0) (ih (k / 2) (a / 2) u.0 v.0)) (omega arith))

-- ---- the laws of within

pub within_zero : (a : ℕ) → within 0 a ≡ true
unfolding within
within_zero a = refl

pub within_refl : (a : ℕ) → within a a ≡ true
within_refl a = and_within a a (and_self a)

pub within_trans : (a b c : ℕ) → within a b ≡ true → within b c ≡ true → within a c ≡ true
within_trans a b c p q = and_within a c (and_trans a b c (within_and a b p) (within_and b c q))

pub within_le : (a b : ℕ) → within a b ≡ true → a ≤ b
within_le a b p = subst (λ (x : ℕ). x ≤ b) (within_and a b p) (and_le_r a b)

pub within_antisym : (a b : ℕ) → within a b ≡ true → within b a ≡ true → a ≡ b
within_antisym a b p q = let u = within_le a b p in let v = within_le b a q in omega arith

pub within_or : (m k a : ℕ) → within (bit_or m k) a ≡ (within m a && within k a)
within_or m k a =
    same (within (bit_or m k) a) (within m a && within k a)
    (λ t. let r = or_both m k a (within_and (bit_or m k) a t) in and_intro (and_within m a r.0) (and_within k a r.1))
    (λ t. and_within (bit_or m k) a
    (both_or m k a (within_and m a (and_left (within m a) (within k a) t)) (within_and k a (and_right (within m a) (within k a) t))))
