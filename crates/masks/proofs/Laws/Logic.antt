-- Tests, of type Bool, as facts: `t ≡ true` and `t ≡ false`. Assumes nothing.
use mathlib.Core.Path.{◌≡◌, refl, sym, ◌∙◌}
use mathlib.Core.Bool.{Bool, true, false, not, ◌&&◌, ◌||◌, false≢true}
use Prim.Native.Nat.{ℕ, ◌≤◌, ◌<◌}
use lib.Dec.{ltb}
use borrow.Author.Tests.{ltb-true, ltb-false}

-- by cases on a test, with its equation in hand
pub by_bool : {P : Type 0} (b : Bool) → (b ≡ true → P) → (b ≡ false → P) → P
by_bool true f g = f refl
by_bool false f g = g refl

-- by cases on whether a number is below another
pub by_range : {P : Type 0} (p n : ℕ) → (p < n → P) → (n ≤ p → P) → P
by_range p n f g = by_bool (ltb p n) (λ t. f (ltb-true p n t)) (λ t. g (ltb-false p n t))

pub clash : {P : Type 0} {b : Bool} → b ≡ true → b ≡ false → P
clash p q = absurd (false≢true (sym q ∙ p))

pub false_of : {b : Bool} → (b ≡ true → ⊥) → b ≡ false
false_of {b} f = by_bool b (λ t. absurd (f t)) (λ t. t)

-- two tests that imply each other are one
pub same : (a b : Bool) → (a ≡ true → b ≡ true) → (b ≡ true → a ≡ true) → a ≡ b
same true b f g = sym (f refl)
same false true f g = g refl
same false false f g = refl

pub and_intro : {a b : Bool} → a ≡ true → b ≡ true → (a && b) ≡ true
and_intro p q = rw (p, q)

pub and_left : (a b : Bool) → (a && b) ≡ true → a ≡ true
and_left true b e = refl
and_left false b e = e

pub and_right : (a b : Bool) → (a && b) ≡ true → b ≡ true
and_right true b e = e
and_right false b e = absurd (false≢true e)

pub or_left : (a b : Bool) → a ≡ true → (a || b) ≡ true
or_left true b p = refl
or_left false b p = absurd (false≢true p)

pub or_right : (a : Bool) {b : Bool} → b ≡ true → (a || b) ≡ true
or_right true q = refl
or_right false q = q

pub or_case : {P : Type 0} (a b : Bool) → (a || b) ≡ true → (a ≡ true → P) → (b ≡ true → P) → P
or_case true b e f g = f refl
or_case false b e f g = g e

pub not_intro : {b : Bool} → (b ≡ true → ⊥) → not b ≡ true
not_intro f = rw (false_of f)

pub not_elim : {P : Type 0} (b : Bool) → not b ≡ true → b ≡ true → P
not_elim true e p = absurd (false≢true e)
not_elim false e p = absurd (false≢true p)
