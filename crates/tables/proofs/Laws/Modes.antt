-- What modes say of a predicate: that of the first MO it has; where they rise, they are told by what they say. Assumes nothing.
use mathlib.Core.Path.{◌≡◌, refl, sym, ap, ap₂, ◌∙◌}
use mathlib.Core.Bool.{Bool, true, false, cond}
use mathlib.Core.List.{List, [], ◌∷◌, ◌++◌}
use mathlib.Core.Option.{Option, none, some, none-ne-some, some-injective}
use Prim.Native.Nat.{ℕ, zero, suc, ◌≤◌, ◌<◌}
use native.Mathlib.Omega.{arith}
use lib.Dec.{eqb, ltb, leb}
use borrow.Author.Tests.{eqb-true, eq-eqb, ne_eqb, ltb-true, leb-true, le-leb}
use Rattle.masks.specs.Lists.{all, joined}
use Rattle.book.specs.Book.{Mode}
use Rattle.book.specs.Encode.{rises}
use Rattle.tables.specs.Table.{mode_of}
use Rattle.masks.proofs.Laws.Logic.{by_bool, by_range, and_intro, and_left, and_right}

-- ---- modes one after the other

-- the first of two that is there
abbrev either : Option (List ℕ) → Option (List ℕ) → Option (List ℕ)
either none y = y
either (some x) y = some x

either_none : (x : Option (List ℕ)) → either x none ≡ x
either_none none = refl
either_none (some x) = refl

mode_of_append : (xs ys : List Mode) (p : ℕ) → mode_of (xs ++ ys) p ≡ either (mode_of xs p) (mode_of ys p)
unfolding mode_of
mode_of_append [] ys p = refl
mode_of_append (m ∷ xs) ys p = go (eqb m.pred p) (mode_of_append xs ys p)
  where
    go : (b : Bool) → mode_of (xs ++ ys) p ≡ either (mode_of xs p) (mode_of ys p)
        → cond b (some m.masks) (mode_of (xs ++ ys) p) ≡ either (cond b (some m.masks) (mode_of xs p)) (mode_of ys p)
    go true r = refl
    go false r = r

-- modes one predicate after the other, at most one of each: that of p is the one that is p's
module _ (f : ℕ → List Mode) (p : ℕ) (other : (q : ℕ) → (q ≡ p → ⊥) → mode_of (f q) p ≡ none) where
  pub mode_of_before : (n : ℕ) → n ≤ p → mode_of (joined f n) p ≡ none
  unfolding mode_of
  mode_of_before zero h = refl
  mode_of_before (suc n) h = mode_of_append (joined f n) (f n) p ∙ ap₂ either (mode_of_before n (omega arith)) (other n (λ e. omega arith))

  pub mode_of_joined : (n : ℕ) → p < n → mode_of (joined f n) p ≡ mode_of (f p) p
  mode_of_joined zero h = absurd (omega arith)
  mode_of_joined (suc n) h =
      mode_of_append (joined f n) (f n) p
      ∙ by_range p n (λ l. ap₂ either (mode_of_joined n l) (other n (λ e. omega arith)) ∙ either_none (mode_of (f p) p))
      (λ l. let e : n ≡ p = omega arith in ap₂ either (mode_of_before n l) (ap (λ (q : ℕ). mode_of (f q) p) e))

-- ---- a test of all of them

-- what holds of every MO holds of that of p
pub mode_of_all : (t : Mode → Bool) (ms : List Mode) → all t ms ≡ true → (p : ℕ) (masks : List ℕ) → mode_of ms p ≡ some masks
    → t (record { pred = p; masks = masks }) ≡ true
unfolding mode_of
mode_of_all t [] h p masks e = absurd (none-ne-some masks e)
mode_of_all t (m ∷ ms) h p masks e = go (eqb m.pred p) refl (mode_of_all t ms (and_right (t m) (all t ms) h) p masks) e
  where
    go : (b : Bool) → eqb m.pred p ≡ b → (mode_of ms p ≡ some masks → t (record { pred = p; masks = masks }) ≡ true)
        → cond b (some m.masks) (mode_of ms p) ≡ some masks → t (record { pred = p; masks = masks }) ≡ true
    go true q r e = rw (← some-injective m.masks masks e, ← eqb-true m.pred p q) (and_left (t m) (all t ms) h)
    go false q r e = r e

-- ---- modes that rise say of each predicate one thing, and are told by what they say

-- none below the least
rising_low : (b : ℕ) (ms : List Mode) (p : ℕ) → rises b ms ≡ true → p < b → mode_of ms p ≡ none
unfolding mode_of
rising_low b [] p r l = refl
rising_low b (m ∷ ms) p r l =
    let h : b ≤ m.pred = leb-true b m.pred (and_left (leb b m.pred) (rises (suc m.pred) ms) r) in
    rw (ne_eqb m.pred p (λ e. omega arith))
    (rising_low (suc m.pred) ms p (and_right (leb b m.pred) (rises (suc m.pred) ms) r) (omega arith))

-- none from n on
pub mode_of_over : (n : ℕ) (ms : List Mode) (p : ℕ) → all (λ (m : Mode). ltb m.pred n) ms ≡ true → n ≤ p → mode_of ms p ≡ none
unfolding mode_of
mode_of_over n [] p t h = refl
mode_of_over n (m ∷ ms) p t h =
    let k : m.pred < n = ltb-true m.pred n (and_left (ltb m.pred n) (all (λ (m : Mode). ltb m.pred n) ms) t) in
    rw (ne_eqb m.pred p (λ e. omega arith)) (mode_of_over n ms p (and_right (ltb m.pred n) (all (λ (m : Mode). ltb m.pred n) ms) t) h)

mode_of_here : (m : Mode) (ms : List Mode) → mode_of (m ∷ ms) m.pred ≡ some m.masks
unfolding mode_of
mode_of_here m ms = rw (eq-eqb m.pred m.pred refl)

-- where modes that rise say something of a predicate, it is not below the first
not_below : (m : Mode) (ms : List Mode) (p : ℕ) (masks : List ℕ) → rises (suc m.pred) ms ≡ true → mode_of (m ∷ ms) p ≡ some masks → m.pred ≤ p
not_below m ms p masks r e =
    by_range p m.pred
    (λ l. absurd (none-ne-some masks
    (sym (rising_low m.pred (m ∷ ms) p (and_intro (le-leb m.pred m.pred (omega arith)) r) l) ∙ e)))
    (λ l. l)

pub rises_ext : (b c : ℕ) (xs ys : List Mode) → rises b xs ≡ true → rises c ys ≡ true → ((p : ℕ) → mode_of xs p ≡ mode_of ys p) → xs ≡ ys
unfolding mode_of
rises_ext b c [] [] r s h = refl
rises_ext b c [] (y ∷ ys) r s h = absurd (none-ne-some y.masks (h y.pred ∙ mode_of_here y ys))
rises_ext b c (x ∷ xs) [] r s h = absurd (none-ne-some x.masks (sym (h x.pred) ∙ mode_of_here x xs))
rises_ext b c (x ∷ xs) (y ∷ ys) r s h =
    ap₂ {C = List Mode} ◌∷◌ (λ i. record { pred = e i; masks = masks i }) (rises_ext (suc x.pred) (suc y.pred) xs ys u v rest)
  where
    u : rises (suc x.pred) xs ≡ true
    u = and_right (leb b x.pred) (rises (suc x.pred) xs) r

    v : rises (suc y.pred) ys ≡ true
    v = and_right (leb c y.pred) (rises (suc y.pred) ys) s

    e : x.pred ≡ y.pred
    e =
        let k = not_below x xs y.pred y.masks u (h y.pred ∙ mode_of_here y ys) in
        let l = not_below y ys x.pred x.masks v (sym (h x.pred) ∙ mode_of_here x xs) in
        omega arith

    masks : x.masks ≡ y.masks
    masks = some-injective x.masks y.masks (sym (mode_of_here x xs) ∙ h x.pred ∙ ap (mode_of (y ∷ ys)) e ∙ mode_of_here y ys)

    rest : (p : ℕ) → mode_of xs p ≡ mode_of ys p
    rest p =
        by_bool (eqb x.pred p)
        (λ t. let q : x.pred ≡ p = eqb-true x.pred p t in
        rising_low (suc x.pred) xs p u (omega arith) ∙ sym (rising_low (suc y.pred) ys p v (omega (arith, e))))
        (λ t. let o : eqb y.pred p ≡ false = ap (λ (k : ℕ). eqb k p) (sym e) ∙ t in rw (t, o) at (h p))
