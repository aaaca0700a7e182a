-- How many numbers below n pass a test: none, all, no more than n, no more than pass a weaker one. Of a word they are bits that are set; and how many patterns
-- of an arity a constraint admits tells whether it is ill or trivial. Assumes nothing.
use mathlib.Core.Path.{◌≡◌, refl, sym, ap, ◌∙◌}
use mathlib.Core.Bool.{Bool, true, false, ◌&&◌, and-true, and-false, false≢true}
use mathlib.Core.List.{List, [], ◌∷◌}
use mathlib.Core.Logic.{◌↔◌}
use Prim.Native.Nat.{ℕ, zero, suc, ◌+◌, ◌/◌, ◌^◌, ◌≤◌, ◌<◌}
use lib.Pow.{pow_pos}
use native.Mathlib.Omega.{arith}
use lib.Bits.{bit_and}
use lib.Dec.{eqb}
use lib.ListN.{length, length-append}
use borrow.Author.Tests.{eqb-true, eqb-false, lt-ltb}
use Rattle.masks.specs.Limits.{max_arity, all_patterns}
use Rattle.masks.specs.Lists.{below, how_many}
use Rattle.masks.specs.Mask.{within}
use Rattle.masks.specs.Constraint.{admits, ill, trivial, fitting, in_range, is_written}
use Rattle.masks.specs.Set.{bit_at, members}
use Rattle.masks.specs.Patterns.{EachLane}
use Rattle.masks.proofs.Laws.Logic.{by_bool, or_left}
use Rattle.masks.proofs.Laws.Lists.{below_cong}
use Rattle.masks.proofs.Laws.Mask.{within_zero}
use Rattle.masks.proofs.Laws.Constraint.{canonical}
use Rattle.masks.proofs.Laws.Joining.{power_le}
use Rattle.masks.proofs.Laws.Set.{bit_at_shift, bit_at_high}
use Rattle.masks.proofs.Laws.Members.{bit_at_and}
use Rattle.masks.proofs.Laws.Patterns.{ones, bit_at_ones}
use Rattle.masks.proofs.Laws.Sets.{below_yes, below_no, below_most}

-- ---- numbers that pass

module _ (p : ℕ → Bool) where
  pub how_many_yes : (n : ℕ) → p n ≡ true → how_many p (suc n) ≡ suc (how_many p n)
  unfolding how_many
  how_many_yes n e = ap {B = ℕ} length (below_yes p n e) ∙ length-append (below p n) (n ∷ []) ∙ omega arith

  pub how_many_no : (n : ℕ) → p n ≡ false → how_many p (suc n) ≡ how_many p n
  unfolding how_many
  how_many_no n e = ap length (below_no p n e)

  pub how_many_most : (n : ℕ) → how_many p n ≤ n
  unfolding how_many
  how_many_most n = below_most p n

  pub none_pass : (n : ℕ) → ((a : ℕ) → a < n → p a ≡ false) → how_many p n ≡ 0
  unfolding how_many
  none_pass zero f = refl
  none_pass (suc n) f = how_many_no n (f n (omega arith)) ∙ none_pass n (λ a l. f a (omega arith))

  all_pass : (n : ℕ) → ((a : ℕ) → a < n → p a ≡ true) → how_many p n ≡ n
  unfolding how_many
  all_pass zero f = refl
  all_pass (suc n) f = how_many_yes n (f n (omega arith)) ∙ ap suc (all_pass n (λ a l. f a (omega arith)))

  -- where none passes from n on, there are no more than those below n
  how_many_cut : (n d : ℕ) → ((a : ℕ) → n ≤ a → p a ≡ false) → how_many p (d + n) ≡ how_many p n
  how_many_cut n zero f = let e : 0 + n ≡ n = omega arith in ap (how_many p) e
  how_many_cut n (suc d) f =
      let e : suc d + n ≡ suc (d + n) = omega arith in
      ap (how_many p) e ∙ how_many_no (d + n) (f (d + n) (omega arith)) ∙ how_many_cut n d f

pub how_many_cong : (p q : ℕ → Bool) (n : ℕ) → ((a : ℕ) → a < n → p a ≡ q a) → how_many p n ≡ how_many q n
unfolding how_many
how_many_cong p q n f = ap length (below_cong p q n f)

-- ---- a test that fails where another does

module _ (q r : ℕ → Bool) (h : (a : ℕ) → q a ≡ true → r a ≡ true) where
  -- one number more: both count it, or neither; or r alone does
  count_next : {P : Type 0} (n : ℕ) → (q n ≡ r n → how_many r (suc n) + how_many q n ≡ how_many q (suc n) + how_many r n → P)
      → (how_many q (suc n) ≡ how_many q n → how_many r (suc n) ≡ suc (how_many r n) → P) → P
  count_next n both alone =
      by_bool (q n)
      (λ t. both (t ∙ sym (h n t)) (omega (arith, how_many_yes q n t, how_many_yes r n (h n t))))
      (λ t. by_bool (r n)
      (λ u. alone (how_many_no q n t) (how_many_yes r n u))
      (λ u. both (t ∙ sym u) (omega (arith, how_many_no q n t, how_many_no r n u))))

  pub how_many_le : (n : ℕ) → how_many q n ≤ how_many r n
  how_many_le zero = omega (arith, how_many_most q 0)
  how_many_le (suc n) = let l = how_many_le n in count_next n (λ e s. omega arith) (λ s u. omega arith)

  -- where no fewer pass it, they are the same
  pub how_many_stuck : (n : ℕ) → how_many r n ≤ how_many q n → (a : ℕ) → a < n → q a ≡ r a
  how_many_stuck zero e a l = absurd (omega arith)
  how_many_stuck (suc n) e a l =
      count_next n
      (λ here s. by_bool (eqb a n)
      (λ t. let z = eqb-true a n t in ap q z ∙ here ∙ ap r (sym z))
      (λ t. let ne = eqb-false a n t in how_many_stuck n (omega arith) a (omega arith)))
      (λ s u. let m = how_many_le n in absurd (omega arith))

-- ---- the bits of a word below n are those that it has in common with the n lowest

module _ (word n d : ℕ) (size : d + n ≡ all_patterns) where
  low : (a : ℕ) → a < n → bit_at (bit_and word (ones / 2 ^ d)) a ≡ bit_at word a
  low a l =
      bit_at_and word (ones / 2 ^ d) a
      ∙ ap (λ (b : Bool). bit_at word a && b) (bit_at_shift ones d a ∙ bit_at_ones (d + a) (omega arith))
      ∙ and-true (bit_at word a)

  high : (a : ℕ) → n ≤ a → bit_at (bit_and word (ones / 2 ^ d)) a ≡ false
  high a l =
      bit_at_and word (ones / 2 ^ d) a
      ∙ ap (λ (b : Bool). bit_at word a && b) (bit_at_shift ones d a ∙ bit_at_high 64 ones (d + a) (omega arith) (omega arith))
      ∙ and-false (bit_at word a)

  pub common_bits : length (members (bit_and word (ones / 2 ^ d))) ≡ how_many (bit_at word) n
  unfolding members how_many
  common_bits =
      ap (λ (k : ℕ). length (below (bit_at (bit_and word (ones / 2 ^ d))) k)) (sym size)
      ∙ how_many_cut (bit_at (bit_and word (ones / 2 ^ d))) n d high
      ∙ how_many_cong (bit_at (bit_and word (ones / 2 ^ d))) (bit_at word) n low

-- ---- the patterns of an arity that a constraint admits

-- whatever the word that holds them
pub fitting_word : (c : List ℕ) (word arity : ℕ) → arity ≤ max_arity → EachLane (λ a. bit_at word a ≡ admits c a)
    → how_many (bit_at word) (2 ^ arity) ≡ fitting arity c
fitting_word c word arity h f = how_many_cong (bit_at word) (admits c) (2 ^ arity) (λ a l. f a (omega (arith, power_le arity h)))

module _ (arity : ℕ) where
  pub fitting_most : (c : List ℕ) → fitting arity c ≤ 2 ^ arity
  fitting_most c = how_many_most (admits c) (2 ^ arity)

  -- none, exactly where it is ill
  pub fitting_ill : (c : List ℕ) → is_written (2 ^ arity) c ≡ true → (fitting arity c ≡ 0) ↔ (c ≡ ill)
  unfolding is_written in_range admits
  fitting_ill c w = (
    (λ e. canonical (2 ^ arity) c ill w refl
        (λ a l. sym (how_many_stuck (λ _. false) (admits c) (λ b t. absurd (false≢true t)) (2 ^ arity) (omega arith) a l))),
    (λ e. ap (fitting arity) e ∙ none_pass (admits ill) (2 ^ arity) (λ a l. refl)),
  )

  -- all, exactly where it is trivial
  pub fitting_trivial : (c : List ℕ) → is_written (2 ^ arity) c ≡ true → (fitting arity c ≡ 2 ^ arity) ↔ (c ≡ trivial)
  unfolding is_written in_range admits
  fitting_trivial c w = (
    (λ e. canonical (2 ^ arity) c trivial w (ap (λ (b : Bool). (b && true) && true) (lt-ltb 0 (2 ^ arity) (pow_pos arity)))
        (λ a l. how_many_stuck (admits c) (admits trivial) (λ b t. every b) (2 ^ arity) (omega (arith, fitting_most trivial)) a l)),
    (λ e. ap (fitting arity) e ∙ all_pass (admits trivial) (2 ^ arity) (λ a l. every a)),
  )
    where
      every : (a : ℕ) → admits trivial a ≡ true
      every a = or_left (within 0 a) false (within_zero a)
