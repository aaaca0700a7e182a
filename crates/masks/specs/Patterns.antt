-- 64 patterns side by side in words: lane a of a word is its bit a. Assumes nothing.
use Rattle.std.specs.Prelude.{◌≡◌, List, ℕ, ◌<◌, get_or}
use Rattle.masks.specs.Limits.{max_arity, all_patterns}
use Rattle.masks.specs.Set.{bit_at}

-- in each of the 64 lanes
abbrev pub EachLane : (ℕ → Type 0) → Type 0
EachLane P = (a : ℕ) → a < all_patterns → P a

-- a word for each position: in lane a they have the bits of the pattern p
abbrev pub Agrees : List ℕ → ℕ → ℕ → Type 0
Agrees words a p = (i : ℕ) → i < max_arity → bit_at (get_or words i 0) a ≡ bit_at p i
