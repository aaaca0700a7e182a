-- Lines: their fields, and the part before the results. Every definition computes. Assumes nothing.
use Rattle.std.specs.Prelude.{Bool, true, false, cond, List, [], ◌∷◌, ℕ, zero, suc, eqb}

-- the bytes before the first `stop`, or all
abbrev pub before : ℕ → List ℕ → List ℕ
before stop [] = []
before stop (x ∷ xs) = cond (eqb x stop) [] (x ∷ before stop xs)

-- the bytes after the first `stop`, or none
abbrev pub beyond : ℕ → List ℕ → List ℕ
beyond stop [] = []
beyond stop (x ∷ xs) = cond (eqb x stop) xs (beyond stop xs)

-- field k of a line, counted from 0: a space stands between fields
abbrev pub field_of : ℕ → List ℕ → List ℕ
field_of zero line = before 32 line
field_of (suc k) line = field_of k (beyond 32 line)

-- the line begins with the word
abbrev pub starts_with : List ℕ → List ℕ → Bool
starts_with [] line = true
starts_with (w ∷ word) [] = false
starts_with (w ∷ word) (x ∷ line) = cond (eqb w x) (starts_with word line) false

-- the part of a line before the first ` = `, or all
abbrev pub inputs_of : List ℕ → List ℕ
inputs_of [] = []
inputs_of (x ∷ line) = cond (starts_with (32 ∷ 61 ∷ 32 ∷ []) (x ∷ line)) [] (x ∷ inputs_of line)
