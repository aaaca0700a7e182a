-- Constraints: lists of masks. Every definition computes. Assumes nothing.
use Rattle.std.specs.Prelude.{Bool, true, false, not, ◌&&◌, List, [], ◌∷◌, ◌++◌, map, ℕ, ◌^◌, eqb, ltb}
use Rattle.std.specs.Int.Bits.{bit_or}
use Rattle.masks.specs.Limits.{all_patterns}
use Rattle.masks.specs.Mask.{within}
use Rattle.masks.specs.Lists.{any, all, any_below, below, how_many, has, ascending, pairwise}

-- ---- a pattern and a constraint

-- "fits a constraint when it fits at least one alternative"
unfoldable pub admits : List ℕ → ℕ → Bool
admits c a = any (λ m. within m a) c

-- W5: "how many patterns each final constraint admits": of the patterns of an arity
abbrev pub fitting : ℕ → List ℕ → ℕ
fitting arity c = how_many (admits c) (2 ^ arity)

-- "One with MO and n = 0 has no alternative: it is ill"; "Mask 0 is an alternative that asks for nothing": trivial
abbrev pub ill : List ℕ
ill = []

abbrev pub trivial : List ℕ
trivial = 0 ∷ []

-- ---- "A constraint is written as its masks, equal ones once, with none containing another, ascending by number"

-- each mask is one of n patterns
unfoldable pub in_range : ℕ → List ℕ → Bool
in_range n c = all (λ m. ltb m n) c

-- neither of two masks contains the other; none of a list contains another
abbrev pub unlike : ℕ → ℕ → Bool
unlike x y = not (within x y) && not (within y x)

abbrev pub apart : List ℕ → Bool
apart c = pairwise unlike c

-- in range, ascending (so that equal ones stand once), none containing another
unfoldable pub is_written : ℕ → List ℕ → Bool
is_written n c = in_range n c && (ascending c && apart c)

-- ---- "a mask is dropped at the first other one contained in it": the written form of a set of masks below n, given by its test f

-- k is another mask of the set, contained in m
unfoldable pub drops : (ℕ → Bool) → ℕ → ℕ → Bool
drops f m k = f k && (within k m && not (eqb k m))

-- m is a mask of the set, and none drops it
unfoldable pub least : (ℕ → Bool) → ℕ → ℕ → Bool
least f n m = f m && not (any_below (drops f m) n)

-- those masks, ascending
unfoldable pub written : (ℕ → Bool) → ℕ → List ℕ
written f n = below (least f n) n

-- "Table 0: each MO as given and minimised": the written form of masks given in any order, with repeats
unfoldable pub minimise : List ℕ → List ℕ
minimise c = written (has c) all_patterns

-- two lists of masks are the same
abbrev pub same_masks : List ℕ → List ℕ → Bool
same_masks [] [] = true
same_masks [] (y ∷ ys) = false
same_masks (x ∷ xs) [] = false
same_masks (x ∷ xs) (y ∷ ys) = eqb x y && same_masks xs ys

-- ---- "Two constraints of one arity are combined in two ways (definitions 4.13 and 5.1)"

-- "The choice of them is fitted by a pattern that fits either": the masks of both
unfoldable pub choice : List ℕ → List ℕ → List ℕ
choice c d = minimise (c ++ d)

-- the union of each mask of one with each of the other
abbrev pub unions : List ℕ → List ℕ → List ℕ
unions [] d = []
unions (x ∷ xs) d = map (bit_or x) d ++ unions xs d

-- "the joint by one that fits each"
unfoldable pub joint : List ℕ → List ℕ → List ℕ
joint c d = minimise (unions c d)
