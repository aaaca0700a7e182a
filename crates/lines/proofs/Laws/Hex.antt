-- A word's number with one digit more, and that 16 digits fit 64 bits; a word's bytes with one more. Assumes nothing.
use mathlib.Core.Path.{◌≡◌, refl, sym, ◌∙◌}
use mathlib.Core.Bool.{Bool, true, false}
use mathlib.Core.List.{List, [], ◌∷◌, ◌++◌, append-nil}
use Prim.Native.Nat.{ℕ, suc, ◌+◌, ◌*◌, ◌/◌, ◌^◌, ◌≤◌, ◌<◌, min}
use native.Mathlib.Numerals.{add-one}
use native.Mathlib.Omega.{arith}
use native.Mathlib.Nat.{pow-suc, pow-le-pow_right}
use borrow.Author.Tests.{ltb-true, ltb-false}
use lib.Dec.{ltb}
use lib.ListN.{length, get_or, take, drop, length-drop}
use lib.Seq.{take-suc, take_all, take_at, length-take-le}
use Rattle.lines.specs.Hex.{digit_of, number_from, bytes_of}

number_snoc : (base n : ℕ) (xs : List ℕ) (x : ℕ) → number_from base n (xs ++ (x ∷ [])) ≡ number_from base n xs * base + digit_of x
number_snoc base n [] x = refl
number_snoc base n (y ∷ xs) x = number_snoc base (n * base + digit_of y) xs x

-- one digit more, of at most 16
pub digit_small : (i d : ℕ) {n : ℕ} → n < 16 ^ i → d ≤ 15 → n * 16 + d < 16 ^ (i + 1)
digit_small i d s m = let p = pow-suc 16 i in rw add-one (omega arith)

pub digit_room : (i d : ℕ) {n : ℕ} → n < 16 ^ i → d ≤ 15 → i < 16 → n * 16 + d < 2 ^ 64
digit_room i d s m h =
    let p = pow-suc 16 i in
    let q : 16 ^ suc i ≤ 16 ^ 16 = pow-le-pow_right (omega arith) {j = 16} (omega arith) in
    omega arith

pub number_next : (base : ℕ) (word : List ℕ) {i n d : ℕ} → n ≡ number_from base 0 (take i word) → i < length word → d ≡ digit_of (get_or word i 0)
    → n * base + d ≡ number_from base 0 (take (i + 1) word)
number_next base word {i} e h f = rw (add-one, take-suc word i 0 h, number_snoc base 0 (take i word) (get_or word i 0), ← e, ← f)

-- ---- decimal numbers: i digits are read, the number is cut at the most

module _ (word : List ℕ) (most i : ℕ) {n : ℕ} (e : n ≡ min most (number_from 10 0 (take i word))) where
  pub decimal_next : i < length word → {d r : ℕ} → d ≡ digit_of (get_or word i 0) → r ≡ min (n * 10 + d) most → r ≡ min most (number_from 10 0 (take (i + 1) word))
  decimal_next h {d} f g = rw (add-one, take-suc word i 0 h, number_snoc 10 0 (take i word) (get_or word i 0), ← f) (omega (arith, e, g))

-- ---- bytes: n of them are read, which took the word up to `at`

bytes_none : (l : List ℕ) → length l < 2 → bytes_of l ≡ []
bytes_none [] h = refl
bytes_none (x ∷ []) h = refl
bytes_none (x ∷ y ∷ l) h = absurd (omega arith)

module _ (word to : List ℕ) (n at : ℕ) (e : take n to ++ bytes_of (drop at word) ≡ bytes_of word) (h : n ≤ length to) where
  -- all that the word has, or that there is room for
  pub bytes_end : (size : ℕ) → at ≡ 2 * n → n ≡ min size (length word / 2) → take n to ≡ take size (bytes_of word)
  bytes_end size two f = go (ltb n size) refl
    where
      go : (b : Bool) → ltb n size ≡ b → take n to ≡ take size (bytes_of word)
      go false g = rw (← e, take_at (take n to) (bytes_of (drop at word)) size (length-take-le n to h ∙ omega (arith, f, ltb-false n size g)))
      go true g =
          let l = ltb-true n size g in
          let z : bytes_of (drop at word) ≡ [] = bytes_none (drop at word) (rw (length-drop at word) (omega arith)) in
          let a : take n to ≡ bytes_of word = sym (append-nil (take n to)) ∙ rw z at e in
          rw (← a) (sym (take_all size (take n to) (rw (length-take-le n to h) (omega arith))))
