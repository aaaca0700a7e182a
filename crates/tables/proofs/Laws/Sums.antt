-- Sums over the numbers below n: where no term is larger, the sum is not, and where the sum is no smaller the terms are the same. How many numbers pass
-- a test is such a sum. Assumes nothing.
use mathlib.Core.Path.{◌≡◌, refl, sym, ap, ap₂, ◌∙◌}
use mathlib.Core.Bool.{Bool, true, false, cond}
use mathlib.Core.List.{List, [], ◌∷◌}
use Prim.Native.Nat.{ℕ, zero, suc, ◌+◌, ◌*◌, ◌≤◌, ◌<◌}
use native.Mathlib.Nat.{suc-mul, mul-zero, mul-add}
use native.Mathlib.Omega.{arith}
use lib.Dec.{eqb}
use lib.ListN.{length, length-append}
use borrow.Author.Tests.{eqb-true, eqb-false, ne_eqb}
use Rattle.masks.specs.Lists.{below, how_many, joined}
use Rattle.ordering.specs.Adorn.{bit}
use Rattle.tables.specs.Table.{sum_below}
use Rattle.masks.proofs.Laws.Logic.{by_bool}
use Rattle.masks.proofs.Laws.Counts.{how_many_yes, how_many_no, how_many_most, none_pass}

pub sum_le : (f g : ℕ → ℕ) (n : ℕ) → ((i : ℕ) → i < n → f i ≤ g i) → sum_below f n ≤ sum_below g n
sum_le f g zero h = omega arith
sum_le f g (suc n) h = omega (arith, h n (omega arith), sum_le f g n (λ i l. h i (omega arith)))

pub sum_cong : (f g : ℕ → ℕ) (n : ℕ) → ((i : ℕ) → i < n → f i ≡ g i) → sum_below f n ≡ sum_below g n
sum_cong f g zero h = refl
sum_cong f g (suc n) h = ap₂ ◌+◌ (sum_cong f g n (λ i l. h i (omega arith))) (h n (omega arith))

-- the length of lists one after the other
pub length_joined : {A : Type 0} (f : ℕ → List A) (n : ℕ) → length (joined f n) ≡ sum_below (λ k. length (f k)) n
length_joined f zero = refl
length_joined f (suc n) = length-append (joined f n) (f n) ∙ ap (λ (k : ℕ). k + length (f n)) (length_joined f n)

pub sum_stuck : (f g : ℕ → ℕ) (n : ℕ) → ((i : ℕ) → i < n → f i ≤ g i) → sum_below g n ≤ sum_below f n → (i : ℕ) → i < n → f i ≡ g i
sum_stuck f g zero h e i l = absurd (omega arith)
sum_stuck f g (suc n) h e i l =
    by_bool (eqb i n)
    (λ t. let q : i ≡ n = eqb-true i n t in ap f q ∙ last ∙ ap g (sym q))
    (λ t. let ne : i ≡ n → ⊥ = eqb-false i n t in sum_stuck f g n below rest i (omega arith))
  where
    below : (j : ℕ) → j < n → f j ≤ g j
    below j m = h j (omega arith)

    last : f n ≡ g n
    last = omega (arith, h n (omega arith), sum_le f g n below)

    rest : sum_below g n ≤ sum_below f n
    rest = omega (arith, h n (omega arith))

pub sum_most : (f : ℕ → ℕ) (m n : ℕ) → ((i : ℕ) → f i ≤ m) → sum_below f n ≤ n * m
sum_most f m zero h = omega arith
sum_most f m (suc n) h = omega (arith, h n, sum_most f m n h, suc-mul n m)

pub sum_add : (f g : ℕ → ℕ) (n : ℕ) → sum_below (λ i. f i + g i) n ≡ sum_below f n + sum_below g n
sum_add f g zero = refl
sum_add f g (suc n) = omega (arith, sum_add f g n)

pub sum_times : (c : ℕ) (f : ℕ → ℕ) (n : ℕ) → sum_below (λ i. c * f i) n ≡ c * sum_below f n
sum_times c f zero = omega (arith, mul-zero c)
sum_times c f (suc n) = omega (arith, sum_times c f n, mul-add c (sum_below f n) (f n))

-- ---- how many numbers below n pass a test

pub how_many_sum : (q : ℕ → Bool) (n : ℕ) → how_many q n ≡ sum_below (λ a. bit (q a)) n
unfolding how_many
how_many_sum q zero = refl
how_many_sum q (suc n) = length-append (below q n) (cond (q n) (n ∷ []) []) ∙ ap₂ ◌+◌ (how_many_sum q n) (go (q n))
  where
    go : (b : Bool) → length {A = ℕ} (cond b (n ∷ []) []) ≡ bit b
    go true = refl
    go false = refl

-- a sum of terms that are at most c, and 0 where the test fails
pub how_many_times : (c : ℕ) (q : ℕ → Bool) (f : ℕ → ℕ) (n : ℕ) → ((i : ℕ) → i < n → f i ≤ c * bit (q i)) → sum_below f n ≤ c * how_many q n
how_many_times c q f n h = rw (how_many_sum q n) (omega (arith, sum_le f (λ i. c * bit (q i)) n h, sum_times c (λ i. bit (q i)) n))

-- at most one number is x
how_many_one : (x n : ℕ) → how_many (eqb x) n ≤ 1
how_many_one x zero = omega (arith, how_many_most (eqb x) 0)
how_many_one x (suc n) =
    by_bool (eqb x n)
    (λ t.
    let e = eqb-true x n t in
    omega (arith, how_many_yes (eqb x) n t, none_pass (eqb x) n (λ a l. ne_eqb x a (λ z. omega arith))))
    (λ t. omega (arith, how_many_one x n, how_many_no (eqb x) n t))

-- each of m numbers has one value of h: counted for each value below n, they are m at most
pub how_many_parted : (h : ℕ → ℕ) (n m : ℕ) → sum_below (λ p. how_many (λ k. eqb (h k) p) m) n ≤ m
how_many_parted h n zero =
    omega (arith, sum_le (λ p. how_many (λ k. eqb (h k) p) 0) (λ p. 0) n (λ p l. how_many_most (λ k. eqb (h k) p) 0), sum_most (λ p. 0) 0 n (λ p. omega arith))
how_many_parted h n (suc m) =
    omega (
      arith,
      sum_cong (λ p. how_many (λ k. eqb (h k) p) (suc m)) (λ p. how_many (λ k. eqb (h k) p) m + bit (eqb (h m) p)) n
          (λ p l. how_many_sum (λ k. eqb (h k) p) (suc m) ∙ ap (λ (i : ℕ). i + bit (eqb (h m) p)) (sym (how_many_sum (λ k. eqb (h k) p) m))),
      sum_add (λ p. how_many (λ k. eqb (h k) p) m) (λ p. bit (eqb (h m) p)) n,
      how_many_parted h n m,
      how_many_sum (eqb (h m)) n,
      how_many_one (h m) n,
    )

-- the same number for each that does
pub sum_each : (c : ℕ) (q : ℕ → Bool) (n : ℕ) → sum_below (λ a. cond (q a) c 0) n ≡ c * length (below q n)
sum_each c q zero = sym (mul-zero c)
sum_each c q (suc n) =
    ap₂ ◌+◌ (sum_each c q n) (go (q n))
    ∙ sym (mul-add c (length (below q n)) (length {A = ℕ} (cond (q n) (n ∷ []) [])))
    ∙ ap (λ (k : ℕ). c * k) (sym (length-append (below q n) (cond (q n) (n ∷ []) [])))
  where
    go : (t : Bool) → cond t c 0 ≡ c * length {A = ℕ} (cond t (n ∷ []) [])
    go true = omega arith
    go false = sym (mul-zero c)
