-- 64 patterns side by side, bit by bit: words that are numerals, a mask within a pattern, the loops over the bits of a mask and over the masks of a
-- constraint, and sets of patterns, which stand for what a constraint admits. Assumes nothing.
use mathlib.Core.Path.{◌≡◌, refl, sym, ap, ap₂, ◌∙◌}
use mathlib.Core.Bool.{Bool, true, false, not, ◌&&◌, ◌||◌, beq, and_comm}
use mathlib.Core.List.{List, [], ◌∷◌}
use Prim.Native.Nat.{ℕ, zero, suc, ◌/◌, ◌%◌, ◌^◌, ◌≤◌, ◌<◌}
use native.Mathlib.Nat.{pow-suc}
use native.Mathlib.Omega.{arith}
use lib.Bits.{bit_and}
use lib.Dec.{eqb}
use lib.ListN.{get_or}
use borrow.Author.Tests.{eqb-true, eq-eqb}
use Rattle.masks.specs.Limits.{max_arity, all_patterns}
use Rattle.masks.specs.Mask.{within}
use Rattle.masks.specs.Set.{bit_at}
use Rattle.masks.specs.Patterns.{EachLane, Agrees}
use Rattle.masks.proofs.Laws.Logic.{by_bool, clash, same, or_case, not_elim}
use Rattle.masks.proofs.Laws.Lists.{all_below, all_below_at, at_all_below}
use Rattle.masks.proofs.Laws.Mask.{within_zero, within_and, and_within, doubled}
use Rattle.masks.proofs.Laws.Set.{bit_at_zero}
use Rattle.masks.proofs.Laws.Members.{bit_at_and}

-- ---- words that are numerals: each of their bits is computed

abbrev pub ones : ℕ
ones = 18446744073709551615

pub bit_at_ones : EachLane (λ a. bit_at ones a ≡ true)
unfolding bit_at
bit_at_ones a h = all_below_at (bit_at ones) all_patterns refl a h

-- word i has the lanes whose pattern has bit i
abbrev pub columns : List ℕ
columns =
    12297829382473034410 ∷ 14757395258967641292 ∷ 17361641481138401520 ∷ 18374966859414961920 ∷ 18446462603027742720 ∷ 18446744069414584320 ∷ []

abbrev pub column : ℕ → ℕ
column i = get_or columns i 0

abbrev in_column : ℕ → ℕ → Bool
in_column i a = beq (bit_at (column i) a) (bit_at a i)

beq_same : (x y : Bool) → beq x y ≡ true → x ≡ y
beq_same true true e = refl
beq_same true false e = sym e
beq_same false true e = e
beq_same false false e = refl

pub bit_at_column : (i : ℕ) → i < max_arity → EachLane (λ a. bit_at (column i) a ≡ bit_at a i)
unfolding bit_at
bit_at_column i h a k =
    beq_same (bit_at (column i) a) (bit_at a i)
    (all_below_at (in_column i) all_patterns (all_below_at (λ j. all_below (in_column j) all_patterns) max_arity refl i h) a k)

-- ---- a mask within a pattern: each bit of the mask is one of the pattern

-- the members of a word of k bits
pub member_below : (k w m : ℕ) → w < 2 ^ k → bit_at w m ≡ true → m < k
unfolding bit_at
member_below zero w m l t = let e : w ≡ 0 = omega arith in clash t (ap (λ (x : ℕ). bit_at x m) e ∙ bit_at_zero m)
member_below (suc k) w zero l t = omega arith
member_below (suc k) w (suc m) l t = let h = member_below k (w / 2) m (let p = pow-suc 2 k in omega arith) t in omega arith

-- bit i, if the mask has it
abbrev pub asked : ℕ → ℕ → ℕ → Bool
asked mask p i = not (bit_at mask i) || bit_at p i

pub within_asked : (mask p i : ℕ) → within mask p ≡ true → asked mask p i ≡ true
within_asked mask p i t = go (bit_at mask i) (bit_at p i) (ap (λ (x : ℕ). bit_at x i) (sym (within_and mask p t)) ∙ bit_at_and mask p i)
  where
    go : (x y : Bool) → x ≡ (x && y) → (not x || y) ≡ true
    go true y e = sym e
    go false y e = refl

pub asked_within : (k mask p : ℕ) → mask < 2 ^ k → ((i : ℕ) → i < k → asked mask p i ≡ true) → within mask p ≡ true
unfolding bit_at
asked_within zero mask p l f = let e : mask ≡ 0 = omega arith in ap (λ (x : ℕ). within x p) e ∙ within_zero p
asked_within (suc k) mask p l f =
    and_within mask p
    (doubled mask p (within_and (mask / 2) (p / 2) (asked_within k (mask / 2) (p / 2) (let q = pow-suc 2 k in omega arith) (λ i h. f (suc i) (omega arith))))
    (digit (f 0 (omega arith))))
  where
    digit : asked mask p 0 ≡ true → mask % 2 ≤ p % 2
    digit t =
        by_bool (eqb (p % 2) 1) (λ e. let q = eqb-true (p % 2) 1 e in omega arith)
        (λ e. or_case (not (eqb (mask % 2) 1)) (eqb (p % 2) 1) t
        (λ n. let ne : mask % 2 ≡ 1 → ⊥ = λ q. not_elim (eqb (mask % 2) 1) n (eq-eqb (mask % 2) 1 q) in omega arith) (λ q. clash q e))

within_bits : (k mask p : ℕ) → mask < 2 ^ k → within mask p ≡ all_below (asked mask p) k
within_bits k mask p l =
    same (within mask p) (all_below (asked mask p) k) (λ t. at_all_below (asked mask p) k (λ i h. within_asked mask p i t))
    (λ t. asked_within k mask p l (all_below_at (asked mask p) k t))

-- ---- the loop over the bits of a mask: w has the lanes whose pattern has those of the first k

abbrev pub Masked : ℕ → List ℕ → ℕ → ℕ → Type 0
Masked mask words w k = EachLane (λ a. (p : ℕ) → Agrees words a p → bit_at w a ≡ all_below (asked mask p) k)

module _ (mask : ℕ) (words : List ℕ) where
  pub masked_start : Masked mask words ones 0
  masked_start a h p f = bit_at_ones a h

  pub masked_skip : (w k : ℕ) → bit_at mask k ≡ false → Masked mask words w k → Masked mask words w (suc k)
  masked_skip w k e g a h p f = g a h p f ∙ sym (ap (λ (b : Bool). (not b || bit_at p k) && all_below (asked mask p) k) e)

  pub masked_next : (w k : ℕ) → k < max_arity → bit_at mask k ≡ true → Masked mask words w k → Masked mask words (bit_and w (get_or words k 0)) (suc k)
  masked_next w k l e g a h p f =
      bit_at_and w (get_or words k 0) a
      ∙ ap₂ (λ (x y : Bool). x && y) (g a h p f) (f k l)
      ∙ and_comm (all_below (asked mask p) k) (bit_at p k)
      ∙ sym (ap (λ (b : Bool). (not b || bit_at p k) && all_below (asked mask p) k) e)

  pub masked_end : (w k : ℕ) → mask < 2 ^ k → Masked mask words w k → EachLane (λ a. (p : ℕ) → Agrees words a p → bit_at w a ≡ within mask p)
  masked_end w k l g a h p f = g a h p f ∙ sym (within_bits k mask p l)
