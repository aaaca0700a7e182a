-- Orders: rearrangements of the places 0 .. n-1, "the smallest list of subgoal places (from 0, compared from the left)". Assumes nothing.
use Rattle.std.specs.Prelude.{◌≡◌, Bool, cond, ◌⊎◌, List, [], ◌∷◌, ◌++◌, map, ℕ, zero, suc, ◌<◌, eqb, length}
use Rattle.std.proofs.Math.Option.{Option, none, some}

-- ---- what the words mean

-- x is an element of the list
abbrev pub In : {A : Type 0} → A → List A → Type 0
In x [] = ⊥
In x (y ∷ l) = (x ≡ y) ⊎ In x l

-- no element twice
abbrev pub Distinct : List ℕ → Type 0
Distinct [] = Unit {0}
Distinct (x ∷ l) = (In x l → ⊥) × Distinct l

-- σ is a rearrangement of the places 0 .. n-1: n of them, each below n, none twice
pub record Rearranges (n : ℕ) (σ : List ℕ) : Type 0 where
  pub long : length σ ≡ n
  pub below : (p : ℕ) → In p σ → p < n
  pub once : Distinct σ

-- "compared from the left"
abbrev pub LexLt : List ℕ → List ℕ → Type 0
LexLt [] [] = ⊥
LexLt [] (y ∷ ys) = Unit {0}
LexLt (x ∷ xs) [] = ⊥
LexLt (x ∷ xs) (y ∷ ys) = (x < y) ⊎ ((x ≡ y) × LexLt xs ys)

-- o holds the smallest list with the property P, or nothing where no list has it
pub record Least (P : List ℕ → Type 0) (o : Option (List ℕ)) : Type 0 where
  pub has : (σ : List ℕ) → o ≡ some σ → P σ
  pub least : (σ : List ℕ) → o ≡ some σ → (τ : List ℕ) → P τ → (σ ≡ τ) ⊎ LexLt σ τ
  pub fails : o ≡ none → (τ : List ℕ) → P τ → ⊥

-- each element is before all the later ones
abbrev pub Sorted : {A : Type 0} → (A → A → Type 0) → List A → Type 0
Sorted R [] = Unit {0}
Sorted R (x ∷ l) = ((y : _) → In y l → R x y) × Sorted R l

-- ---- the list of all orders, which computes

-- the first element that passes
unfoldable pub find : {A : Type 0} → (A → Bool) → List A → Option A
find p [] = none
find p (x ∷ l) = let r = find p l in cond (p x) (some x) r

-- l without the first x in it
unfoldable pub without : ℕ → List ℕ → List ℕ
without x [] = []
without x (y ∷ l) = cond (eqb x y) l (y ∷ without x l)

-- the lists of f at each x in turn
unfoldable pub each : (ℕ → List (List ℕ)) → List ℕ → List (List ℕ)
each f [] = []
each f (x ∷ l) = f x ++ each f l

-- all rearrangements of rem, which has n elements: for each x in turn, x and then each rearrangement of the others
unfoldable pub orders_of : ℕ → List ℕ → List (List ℕ)
unfolding each
orders_of zero rem = [] ∷ []
orders_of (suc n) rem = each (λ x. map (λ σ. x ∷ σ) (orders_of n (without x rem))) rem

-- i, i+1, .. : n of them
unfoldable pub count : ℕ → ℕ → List ℕ
count i zero = []
count i (suc n) = i ∷ count (suc i) n

unfoldable pub orders : ℕ → List (List ℕ)
orders n = orders_of n (count 0 n)
