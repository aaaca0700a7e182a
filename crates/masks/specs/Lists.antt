-- Tests over a list, and over the numbers below n. Every definition computes. Assumes nothing.
use Rattle.std.specs.Prelude.{Bool, true, false, cond, ◌&&◌, ◌||◌, List, [], ◌∷◌, ◌++◌, ℕ, zero, suc, eqb, ltb, length}

module _ {A : Type 0} where
  -- p holds of some element
  abbrev pub any : (A → Bool) → List A → Bool
  any p [] = false
  any p (x ∷ xs) = p x || any p xs

  -- p holds of every element
  abbrev pub all : (A → Bool) → List A → Bool
  all p [] = true
  all p (x ∷ xs) = p x && all p xs

-- f 0, f 1, .. : the first n values of a function
abbrev pub values : {A : Type 0} → (ℕ → A) → ℕ → List A
values f zero = []
values f (suc n) = values f n ++ (f n ∷ [])

-- the lists f 0, f 1, .. one after the other: the first n
abbrev pub joined : {A : Type 0} → (ℕ → List A) → ℕ → List A
joined f zero = []
joined f (suc n) = joined f n ++ f n

-- p holds of some number below n
abbrev pub any_below : (ℕ → Bool) → ℕ → Bool
any_below p zero = false
any_below p (suc n) = any_below p n || p n

-- the numbers below n of which p holds, ascending
abbrev pub below : (ℕ → Bool) → ℕ → List ℕ
below p zero = []
below p (suc n) = below p n ++ cond (p n) (n ∷ []) []

-- how many they are
unfoldable pub how_many : (ℕ → Bool) → ℕ → ℕ
how_many p n = length (below p n)

-- x is an element
abbrev pub has : List ℕ → ℕ → Bool
has xs x = any (eqb x) xs

-- r holds of each element and every one after it
abbrev pub pairwise : (ℕ → ℕ → Bool) → List ℕ → Bool
pairwise r [] = true
pairwise r (x ∷ xs) = all (r x) xs && pairwise r xs

-- each is less than those after it, so equal ones stand once
abbrev pub ascending : List ℕ → Bool
ascending xs = pairwise ltb xs
