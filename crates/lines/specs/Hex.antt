-- Digits, numbers and bytes. Every definition computes. Assumes nothing.
use Rattle.std.specs.Prelude.{cond, List, [], ◌∷◌, ℕ, ◌+◌, ◌-◌, ◌*◌, ltb, leb}

-- the value of a digit, `0` to `9` and `a` to `f`; any other byte counts as 0
unfoldable pub digit_of : ℕ → ℕ
digit_of x = cond (ltb x 48) 0 (cond (leb x 57) (x - 48) (cond (ltb x 97) 0 (cond (leb x 102) (x - 97 + 10) 0)))

-- the number that a word of digits adds to, in a base: n comes before it
abbrev pub number_from : ℕ → ℕ → List ℕ → ℕ
number_from base n [] = n
number_from base n (x ∷ xs) = number_from base (n * base + digit_of x) xs

-- the bytes of a word, two digits each; a last single digit counts for none
abbrev pub bytes_of : List ℕ → List ℕ
bytes_of [] = []
bytes_of (x ∷ []) = []
bytes_of (x ∷ y ∷ xs) = (digit_of x * 16 + digit_of y) ∷ bytes_of xs
