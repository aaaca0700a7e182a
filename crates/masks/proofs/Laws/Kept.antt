-- The masks kept on the way to the written form: of the set's masks below k those that it keeps. One that contains a kept one is dropped, any other is
-- kept. Assumes nothing.
use mathlib.Core.Path.{◌≡◌, sym, ap, ap₂, ◌∙◌}
use mathlib.Core.Bool.{Bool, true, false, not, ◌&&◌, ◌||◌, or-false, and-false}
use mathlib.Core.List.{List, [], ◌∷◌, ◌++◌, append-nil}
use Prim.Native.Nat.{ℕ, suc, ◌^◌, ◌<◌}
use native.Mathlib.Omega.{arith}
use lib.Bits.{bit_or}
use lib.Dec.{eqb}
use borrow.Author.Tests.{eqb-true, eqb-false}
use Rattle.masks.specs.Limits.{all_patterns}
use Rattle.masks.specs.Lists.{has}
use Rattle.masks.specs.Mask.{within}
use Rattle.masks.specs.Constraint.{admits, least, written}
use Rattle.masks.specs.Set.{bit_at, members}
use Rattle.masks.proofs.Laws.Logic.{by_bool, clash, same, false_of}
use Rattle.masks.proofs.Laws.Lists.{has_append, below_has, has_below, below_cong}
use Rattle.masks.proofs.Laws.Constraint.{admits_has, has_admits, written_suc}
use Rattle.masks.proofs.Laws.Set.{bit_at_zero, bit_at_or, bit_at_power}
use Rattle.masks.proofs.Laws.Sets.{members_cong}

-- the kept ones are those of the written form of the masks below k
abbrev pub Kept : ℕ → ℕ → ℕ → Type 0
Kept set kept k = (j : ℕ) → bit_at kept j ≡ has (written (bit_at set) k) j

-- none of the kept ones below k is contained in m
abbrev pub Clear : ℕ → ℕ → ℕ → Type 0
Clear kept m k = (j : ℕ) → j < k → bit_at kept j ≡ true → within j m ≡ false

pub kept_start : (set : ℕ) → Kept set 0 0
unfolding written
kept_start set = bit_at_zero

module _ (set kept : ℕ) where
  abbrev form : ℕ → List ℕ
  form = written (bit_at set)

  -- a mask that is not kept
  same_form : (k : ℕ) → (bit_at set k && not (admits (form k) k)) ≡ false → Kept set kept k → Kept set kept (suc k)
  same_form k t e j =
      let f : form (suc k) ≡ form k = written_suc (bit_at set) k ∙ rw t (append-nil (form k)) in
      e j ∙ ap (λ (c : List ℕ). has c j) (sym f)

  pub kept_absent : (k : ℕ) → bit_at set k ≡ false → Kept set kept k → Kept set kept (suc k)
  kept_absent k t = same_form k (rw t)

  -- it contains a kept one
  pub kept_dropped : (m k : ℕ) → bit_at kept k ≡ true → within k m ≡ true → Kept set kept m → Kept set kept (suc m)
  kept_dropped m k t w e =
      same_form m (ap (λ (x : Bool). bit_at set m && not x) (has_admits (form m) m k (sym (e k) ∙ t) w) ∙ and-false (bit_at set m)) e

  -- it contains none
  pub kept_new : (m : ℕ) → m < all_patterns → bit_at set m ≡ true → Clear kept m all_patterns → Kept set kept m → Kept set (bit_or kept (2 ^ m)) (suc m)
  unfolding written
  kept_new m l t c e j =
      let n : admits (form m) m ≡ false =
      false_of
      (λ a.
      let r = admits_has (form m) m a in
      let b = (below_has (least (bit_at set) m) m r.0 r.1).0 in
      clash r.2 (c r.0 (omega arith) (e r.0 ∙ r.1))) in
      let f : form (suc m) ≡ form m ++ (m ∷ []) = written_suc (bit_at set) m ∙ rw (t, n) in
      bit_at_or kept (2 ^ m) j
      ∙ ap₂ (λ (x y : Bool). x || y) (e j) (bit_at_power m j ∙ sym (or-false (eqb j m)))
      ∙ sym (has_append (form m) (m ∷ []) j)
      ∙ ap (λ (d : List ℕ). has d j) (sym f)

  pub kept_end : Kept set kept all_patterns → members kept ≡ form all_patterns
  unfolding written
  kept_end e =
      members_cong kept (has (form all_patterns)) (λ a l. e a)
      ∙ below_cong (has (form all_patterns)) (least (bit_at set) all_patterns) all_patterns
      (λ a l.
      same (has (form all_patterns) a) (least (bit_at set) all_patterns a) (λ t. (below_has (least (bit_at set) all_patterns) all_patterns a t).1)
      (λ t. has_below (least (bit_at set) all_patterns) all_patterns a l t))

-- ---- the masks kept, one after the other

module _ (kept m : ℕ) where
  pub clear_start : Clear kept m 0
  clear_start j l = absurd (omega arith)

  -- the next is no kept one, or it is not contained in m
  pub clear_absent : (k : ℕ) → bit_at kept k ≡ false → Clear kept m k → Clear kept m (suc k)
  clear_absent k t c j l u =
      by_bool (eqb j k) (λ s. clash u (ap (bit_at kept) (eqb-true j k s) ∙ t)) (λ s. let ne = eqb-false j k s in c j (omega arith) u)

  pub clear_next : (k : ℕ) → within k m ≡ false → Clear kept m k → Clear kept m (suc k)
  clear_next k w c j l u =
      by_bool (eqb j k) (λ s. ap (λ (x : ℕ). within x m) (eqb-true j k s) ∙ w) (λ s. let ne = eqb-false j k s in c j (omega arith) u)
