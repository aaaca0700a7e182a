-- A set of masks, held in a word of 64 bits. Assumes nothing.
use Rattle.std.specs.Prelude.{Bool, List, ◌≡◌, ℕ, zero, suc, ◌/◌, ◌%◌, eqb}
use Rattle.masks.specs.Limits.{all_patterns}
use Rattle.masks.specs.Lists.{below}

-- mask m is in the set where bit m of the word is set
unfoldable pub bit_at : ℕ → ℕ → Bool
bit_at word zero = eqb (word % 2) 1
bit_at word (suc m) = bit_at (word / 2) m

-- the set has just the masks that f tells
abbrev pub Holds : ℕ → (ℕ → Bool) → Type 0
Holds word f = (m : ℕ) → bit_at word m ≡ f m

-- its members, rising: a constraint in written form is held as the set of its masks
unfoldable pub members : ℕ → List ℕ
members word = below (bit_at word) all_patterns
