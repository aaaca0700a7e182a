-- The fewest digits that hold a number are its decimal. Assumes nothing.
use mathlib.Core.Path.{◌≡◌, ap, ◌∙◌}
use mathlib.Core.List.{List, [], ◌∷◌, ◌++◌}
use Prim.Native.Nat.{ℕ, zero, suc, ◌+◌, ◌-◌, ◌*◌, ◌/◌, ◌%◌, ◌^◌, ◌≤◌, ◌<◌}
use native.Mathlib.Nat.{mod-lt, mod-eq_of_lt, pow-suc, le-div_iff_mul-le, div-lt_iff_lt-mul, one-le-pow, zero-lt-suc}
use native.Mathlib.Omega.{arith}
use lib.ListN.{length}
use borrow.Author.Tests.{lt-ltb, le-ltb}
use Rattle.io.specs.Digits.{hex_digit_ascii, last_digits, IsDigitCount}
use Rattle.writing.specs.Wrote.{Room, Wrote}
use Rattle.printing.specs.Sheet.{decimal_in, decimal, after}
use Rattle.writing.proofs.Laws.Wrote.{room_second}

-- the last digit
glyph_last : (n : ℕ) → hex_digit_ascii (n % 10) ≡ 48 + n % 10
glyph_last n = rw (lt-ltb (n % 10) 10 (mod-lt n (zero-lt-suc 9)))

-- a number of two digits or more has those of its tenth, and its last
one_more : (f n : ℕ) → 10 ≤ n → decimal_in (suc f) n ≡ decimal_in f (n / 10) ++ ((48 + n % 10) ∷ [])
unfolding decimal_in
one_more f n h = rw (le-ltb n 10 h)

digits_decimal : (k f n : ℕ) → k ≤ f → n < 10 ^ suc k → (0 < k → 10 ^ k ≤ n) → last_digits 10 (suc k) n ≡ decimal_in (suc f) n
unfolding decimal_in
digits_decimal zero f n h most least =
    let l : n < 10 = most in
    rw (mod-eq_of_lt l, lt-ltb n 10 l)
digits_decimal (suc k) zero n h most least = absurd (omega arith)
digits_decimal (suc k) (suc f) n h most least =
    let p : zero < 10 = zero-lt-suc 9 in
    let low : 10 ^ suc k ≤ n = least (omega arith) in
    let e : 10 ^ suc k ≡ 10 ^ k * 10 = pow-suc 10 k in
    let one = one-le-pow k 10 p in
    let tenth : 10 ^ k ≤ n / 10 = (le-div_iff_mul-le {x = 10 ^ k} {y = n} p).1 (omega arith) in
    let below : n / 10 < 10 ^ suc k = (div-lt_iff_lt-mul {x = n} {y = 10 ^ suc k} p).1 (rw (← pow-suc 10 (suc k)) most) in
    rw (one_more (suc f) n (omega arith), glyph_last n, digits_decimal k f (n / 10) (omega arith) below (λ _. tenth))

-- a number is never below the number of its digits less one, so it is itself a bound of them
above : (k : ℕ) → k < 10 ^ k
above zero = zero-lt-suc 0
above (suc k) = let e = pow-suc 10 k in let h = above k in omega arith

pub decimal_fewest : (n k : ℕ) → IsDigitCount 10 1 n k → last_digits 10 k n ≡ decimal n
unfolding decimal
decimal_fewest n zero h = absurd (omega arith)
decimal_fewest n (suc zero) h = digits_decimal 0 n n (omega arith) h.1 (λ z. absurd (omega arith))
decimal_fewest n (suc (suc k)) h =
    let one : suc (suc k) - 1 ≡ suc k = omega arith in
    let low : 10 ^ suc k ≤ n = rw one at (h.2 (omega arith)) in
    let e = above (suc k) in
    digits_decimal (suc k) n n (omega arith) h.1 (λ _. low)

-- ---- what is spelled so stands after what parts it from what is before, and there is room for it where there is room for both

module _ (part : List ℕ) (n k : ℕ) {l : List ℕ} (h : IsDigitCount 10 1 n k) (e : l ≡ last_digits 10 k n) where
  pub spelled : part ++ l ≡ after part n
  unfolding after
  spelled = ap (λ (s : List ℕ). part ++ s) (e ∙ decimal_fewest n k h)

  pub spelled_room : {a b : List ℕ} {at p : ℕ} → Wrote a b at p part → Room a at (after part n) → Room b p l
  spelled_room w r = let z = ap length spelled in room_second l w (omega arith)
