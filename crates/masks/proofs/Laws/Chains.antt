-- No 21 subsets of six positions avoid containing one another. The 64 subsets lie in 20 chains, any two members of a chain comparable (one
-- test, computed over all pairs); so masks that are apart lie in different chains, and are at most 20. Assumes nothing.
use mathlib.Core.Path.{◌≡◌, refl, sym, ap, ◌∙◌}
use mathlib.Core.Bool.{Bool, true, false, not, cond, ◌||◌, false≢true}
use mathlib.Core.List.{List, [], ◌∷◌, map}
use Prim.Native.Nat.{ℕ, zero, suc, ◌≤◌, ◌<◌}
use native.Mathlib.Omega.{arith}
use lib.Dec.{eqb, ltb}
use lib.ListN.{length, get_or, length-map}
use borrow.Author.Tests.{eqb-true, eqb-false, eq-eqb, ltb-true}
use Rattle.masks.specs.Limits.{max_masks, all_patterns}
use Rattle.masks.specs.Mask.{within}
use Rattle.masks.specs.Lists.{has}
use Rattle.masks.specs.Constraint.{unlike, in_range, apart, is_written}
use Rattle.masks.proofs.Laws.Logic.{and_left, and_right, or_right, or_case, not_elim}
use Rattle.masks.proofs.Laws.Lists.{pairwise_head, pairwise_tail, has_here, all_below, all_below_at}
use Rattle.masks.proofs.Laws.Constraint.{in_range_has, in_range_mono, written_in_range, written_apart}

-- ---- a list of different numbers below n has at most n members

abbrev Distinct : List ℕ → Type 0
Distinct [] = Unit {0}
Distinct (x ∷ xs) = (has xs x ≡ true → ⊥) × Distinct xs

-- the list without n
without : ℕ → List ℕ → List ℕ
without n [] = []
without n (x ∷ xs) = cond (eqb x n) (without n xs) (x ∷ without n xs)

without_has : (n : ℕ) (xs : List ℕ) (a : ℕ) → has (without n xs) a ≡ true → (has xs a ≡ true) × (a ≡ n → ⊥)
unfolding without
without_has n [] a m = absurd (false≢true m)
without_has n (x ∷ xs) a m = go (eqb x n) refl (without_has n xs a) m
  where
    go : (b : Bool) → eqb x n ≡ b → (has (without n xs) a ≡ true → (has xs a ≡ true) × (a ≡ n → ⊥))
        → has (cond b (without n xs) (x ∷ without n xs)) a ≡ true → (has (x ∷ xs) a ≡ true) × (a ≡ n → ⊥)
    go true e rec m = let r = rec m in (or_right (eqb a x) r.0, r.1)
    go false e rec m =
        or_case (eqb a x) (has (without n xs) a) m
        (λ p. (rw p, λ q. eqb-false x n e (sym (eqb-true a x p) ∙ q)))
        (λ h. let r = rec h in (or_right (eqb a x) r.0, r.1))

without_distinct : (n : ℕ) (xs : List ℕ) → Distinct xs → Distinct (without n xs)
unfolding without
without_distinct n [] d = tt
without_distinct n (x ∷ xs) d = go (eqb x n) (without_distinct n xs d.1)
  where
    go : (b : Bool) → Distinct (without n xs) → Distinct (cond b (without n xs) (x ∷ without n xs))
    go true r = r
    go false r = ((λ m. d.0 (without_has n xs x m).0), r)

-- it is shorter by at most one
without_none : (n : ℕ) (xs : List ℕ) → (has xs n ≡ true → ⊥) → length (without n xs) ≡ length xs
unfolding without
without_none n [] h = refl
without_none n (x ∷ xs) h = go (eqb x n) refl (without_none n xs (λ m. h (or_right (eqb n x) m)))
  where
    go : (b : Bool) → eqb x n ≡ b → length (without n xs) ≡ length xs → length (cond b (without n xs) (x ∷ without n xs)) ≡ suc (length xs)
    go true e r = absurd (h (ap (has (x ∷ xs)) (sym (eqb-true x n e)) ∙ has_here x xs))
    go false e r = ap suc r

without_length : (n : ℕ) (xs : List ℕ) → Distinct xs → length xs ≤ suc (length (without n xs))
unfolding without
without_length n [] d = omega arith
without_length n (x ∷ xs) d = go (eqb x n) refl (without_length n xs d.1)
  where
    go : (b : Bool) → eqb x n ≡ b → length xs ≤ suc (length (without n xs)) → suc (length xs) ≤ suc (length (cond b (without n xs) (x ∷ without n xs)))
    go true e r = let s = without_none n xs (λ m. d.0 (ap (has xs) (eqb-true x n e) ∙ m)) in omega arith
    go false e r = omega arith

pigeons : (n : ℕ) (xs : List ℕ) → ((a : ℕ) → has xs a ≡ true → a < n) → Distinct xs → length xs ≤ n
pigeons zero [] f d = omega arith
pigeons zero (x ∷ xs) f d = let z = f x (has_here x xs) in omega arith
pigeons (suc n) xs f d =
    let s = without_length n xs d in
    let r = pigeons n (without n xs) (λ a m. let u = without_has n xs a m in let l = f a u.0 in let ne = u.1 in omega arith) (without_distinct n xs d) in
    omega arith

-- ---- the 20 chains

table : List ℕ
table =
    0 ∷ 0 ∷ 1 ∷ 0 ∷ 2 ∷ 2 ∷ 1 ∷ 0 ∷ 3 ∷ 3 ∷ 4 ∷ 3 ∷ 5 ∷ 2 ∷ 1 ∷ 0
    ∷ 6 ∷ 6 ∷ 7 ∷ 6 ∷ 8 ∷ 8 ∷ 7 ∷ 6 ∷ 9 ∷ 9 ∷ 4 ∷ 3 ∷ 5 ∷ 2 ∷ 1 ∷ 0
    ∷ 10 ∷ 10 ∷ 11 ∷ 10 ∷ 12 ∷ 12 ∷ 11 ∷ 10 ∷ 13 ∷ 13 ∷ 14 ∷ 13 ∷ 15 ∷ 12 ∷ 11 ∷ 10
    ∷ 16 ∷ 16 ∷ 17 ∷ 16 ∷ 18 ∷ 8 ∷ 7 ∷ 6 ∷ 19 ∷ 9 ∷ 4 ∷ 3 ∷ 5 ∷ 2 ∷ 1 ∷ 0 ∷ []

chain : ℕ → ℕ
chain m = get_or table m 0

linked : ℕ → ℕ → Bool
linked a b = not (eqb (chain a) (chain b)) || (within a b || within b a)

chain_below : (a : ℕ) → a < all_patterns → chain a < max_masks
unfolding chain table
chain_below a h = ltb-true (chain a) max_masks (all_below_at (λ k. ltb (chain k) max_masks) all_patterns refl a h)

all_linked : all_below (λ a. all_below (linked a) all_patterns) all_patterns ≡ true
unfolding linked chain table within
all_linked = refl

chain_linked : (a b : ℕ) → a < all_patterns → b < all_patterns → chain a ≡ chain b → (within a b || within b a) ≡ true
unfolding linked
chain_linked a b ha hb e =
    or_case (not (eqb (chain a) (chain b))) (within a b || within b a)
    (all_below_at (linked a) all_patterns (all_below_at (λ k. all_below (linked k) all_patterns) all_patterns all_linked a ha) b hb)
    (λ t. not_elim (eqb (chain a) (chain b)) t (eq-eqb (chain a) (chain b) e)) (λ t. t)

-- ---- at most twenty

map_has : (f : ℕ → ℕ) (xs : List ℕ) (b : ℕ) → has (map f xs) b ≡ true → (a : ℕ) × (has xs a ≡ true) × (b ≡ f a)
map_has f [] b m = absurd (false≢true m)
map_has f (x ∷ xs) b m =
    or_case (eqb b (f x)) (has (map f xs) b) m (λ e. (x, has_here x xs, eqb-true b (f x) e))
    (λ h. let r = map_has f xs b h in (r.0, or_right (eqb r.0 x) r.1, r.2))

chains_distinct : (c : List ℕ) → ((a : ℕ) → has c a ≡ true → a < all_patterns) → apart c ≡ true → Distinct (map chain c)
chains_distinct [] s t = tt
chains_distinct (x ∷ xs) s t = (
  (λ m. let r = map_has chain xs (chain x) m in let y = r.0 in
      let u = pairwise_head unlike x xs t y r.1 in
      or_case (within x y) (within y x) (chain_linked x y (s x (has_here x xs)) (s y (or_right (eqb y x) r.1)) r.2)
      (not_elim (within x y) (and_left (not (within x y)) (not (within y x)) u)) (not_elim (within y x) (and_right (not (within x y)) (not (within y x)) u))),
  chains_distinct xs (λ a m. s a (or_right (eqb a x) m)) (pairwise_tail unlike x xs t),
)

pub antichain : (c : List ℕ) → in_range all_patterns c ≡ true → apart c ≡ true → length c ≤ max_masks
antichain c s t =
    let low = in_range_has all_patterns c s in
    let r = pigeons max_masks (map chain c) (λ b m. let u = map_has chain c b m in let h = chain_below u.0 (low u.0 u.1) in let e = u.2 in omega arith)
    (chains_distinct c low t) in
    let e = length-map c chain in
    omega arith

-- so every written form fits 20 places
pub at_most_twenty : (n : ℕ) (c : List ℕ) → n ≤ all_patterns → is_written n c ≡ true → length c ≤ max_masks
at_most_twenty n c l w = antichain c (in_range_mono n all_patterns c l (written_in_range n c w)) (written_apart n c w)
