-- Bytes in a word, the lowest first: a word made of bytes from the last one down has these bytes again. Assumes nothing.
use mathlib.Core.Path.{◌≡◌, sym, ap, ◌∙◌}
use mathlib.Core.Bool.{true}
use mathlib.Core.List.{List, [], ◌∷◌}
use Prim.Native.Nat.{ℕ, zero, suc, ◌+◌, ◌*◌, ◌/◌, ◌%◌, ◌^◌, ◌<◌}
use native.Mathlib.Nat.{zero-div, div-one}
use native.Mathlib.Omega.{arith}
use lib.Dec.{ltb}
use lib.ListN.{get_or}
use lib.Pow.{are_bytes, shr-shr, high, low}
use borrow.Author.Tests.{ltb-true}
use Rattle.masks.proofs.Laws.Logic.{and_left, and_right}
use Rattle.book.specs.Held.{byte_of}

-- by Horner's rule
unfoldable pub word_of : List ℕ → ℕ
word_of [] = 0
word_of (x ∷ l) = word_of l * 256 + x

byte_of_zero : (i : ℕ) → byte_of 0 i ≡ 0
byte_of_zero i = ap (λ (x : ℕ). x % 256) (zero-div (2 ^ (8 * i)))

byte_of_first : (w : ℕ) {x : ℕ} → x < 256 → byte_of (w * 256 + x) 0 ≡ x
byte_of_first w {x} h = ap (λ (y : ℕ). y % 256) (div-one (w * 256 + x)) ∙ low w 8 h

byte_of_next : (w : ℕ) {x : ℕ} → x < 256 → (i : ℕ) → byte_of (w * 256 + x) (suc i) ≡ byte_of w i
byte_of_next w {x} h i =
    let e : 8 * suc i ≡ 8 + 8 * i = omega arith in
    ap (λ (k : ℕ). (w * 256 + x) / 2 ^ k % 256) e
    ∙ ap (λ (y : ℕ). y % 256) (sym (shr-shr (w * 256 + x) 8 (8 * i)))
    ∙ ap (λ (y : ℕ). y / 2 ^ (8 * i) % 256) (high w 8 h)

-- its bytes are those that it is made of
pub byte_of_word_of : (l : List ℕ) → are_bytes l ≡ true → (i : ℕ) → byte_of (word_of l) i ≡ get_or l i 0
unfolding word_of
byte_of_word_of [] b i = byte_of_zero i
byte_of_word_of (x ∷ l) b zero = byte_of_first (word_of l) (ltb-true x 256 (and_left (ltb x 256) (are_bytes l) b))
byte_of_word_of (x ∷ l) b (suc i) =
    byte_of_next (word_of l) (ltb-true x 256 (and_left (ltb x 256) (are_bytes l) b)) i
    ∙ byte_of_word_of l (and_right (ltb x 256) (are_bytes l) b) i
