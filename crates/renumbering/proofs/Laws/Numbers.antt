-- Numbers moved down past those that are gone: the numbers that stay get 0, 1, .. in their order. Assumes nothing.
use mathlib.Core.Path.{◌≡◌, refl, sym, ap, ◌∙◌}
use mathlib.Core.Bool.{Bool, true, false, cond}
use mathlib.Core.List.{List, [], ◌++◌, append-nil}
use Prim.Native.Nat.{ℕ, zero, suc, ◌+◌, ◌<◌}
use native.Mathlib.Omega.{arith}
use lib.Dec.{eqb}
use borrow.Author.Tests.{eqb-true, eqb-false}
use Rattle.masks.specs.Lists.{joined, how_many}
use Rattle.renumbering.specs.Left.{moved_down}
use Rattle.masks.proofs.Laws.Logic.{by_bool, by_range}
use Rattle.masks.proofs.Laws.Counts.{how_many_yes, how_many_no, how_many_most}

module _ (gone : ℕ → Bool) where
  pub moved_zero : moved_down gone 0 ≡ 0
  unfolding moved_down how_many
  moved_zero = refl

  pub moved_gone : (n : ℕ) → gone n ≡ true → moved_down gone (suc n) ≡ moved_down gone n
  unfolding moved_down
  moved_gone n t = rw (how_many_yes gone n t) (omega arith)

  pub moved_kept : (n : ℕ) → gone n ≡ false → moved_down gone (suc n) ≡ suc (moved_down gone n)
  unfolding moved_down
  moved_kept n t = rw (how_many_no gone n t) (omega (arith, how_many_most gone n))

  -- lists for the numbers that stay
  pub joined_moved : {A : Type 0} (g : ℕ → List A) (n : ℕ)
      → joined g (moved_down gone n) ≡ joined (λ k. cond (gone k) [] (g (moved_down gone k))) n
  joined_moved g zero = rw moved_zero
  joined_moved g (suc n) =
      by_bool (gone n)
      (λ t. rw (moved_gone n t, t) (joined_moved g n ∙ sym (append-nil (joined (λ k. cond (gone k) [] (g (moved_down gone k))) n))))
      (λ t. rw (moved_kept n t, t) (ap (λ (l : List _). l ++ g (moved_down gone n)) (joined_moved g n)))

  -- those that stay keep their order
  pub moved_lt : (m n : ℕ) → m < n → gone m ≡ false → moved_down gone m < moved_down gone n
  moved_lt m zero l t = absurd (omega arith)
  moved_lt m (suc n) l t =
      by_bool (eqb m n)
      (λ e. let q : m ≡ n = eqb-true m n e in rw (← q) (omega (arith, moved_kept m t)))
      (λ e.
      let ne : m ≡ n → ⊥ = eqb-false m n e in
      let h = moved_lt m n (omega arith) t in
      by_bool (gone n) (λ u. omega (arith, moved_gone n u)) (λ u. omega (arith, moved_kept n u)))

  pub moved_inj : (m n : ℕ) → gone m ≡ false → gone n ≡ false → moved_down gone m ≡ moved_down gone n → m ≡ n
  moved_inj m n t u e =
      by_range m n (λ l. absurd (omega (arith, moved_lt m n l t)))
      (λ l. by_range n m (λ k. absurd (omega (arith, moved_lt n m k u))) (λ k. omega arith))

  -- each number below the last is the new one of some that stays
  pub moved_back : (n j : ℕ) → j < moved_down gone n → (k : ℕ) × (k < n) × (gone k ≡ false) × (moved_down gone k ≡ j)
  moved_back zero j l = absurd (omega (arith, moved_zero))
  moved_back (suc n) j l =
      let further : j < moved_down gone n → (k : ℕ) × (k < suc n) × (gone k ≡ false) × (moved_down gone k ≡ j) =
      λ h. let (k, a, b, c) = moved_back n j h in (k, omega arith, b, c) in
      by_bool (gone n)
      (λ t. further (omega (arith, moved_gone n t)))
      (λ t. by_range j (moved_down gone n) further (λ h. (n, omega arith, t, omega (arith, moved_kept n t))))

-- the first number by itself
pub moved_first : (gone : ℕ → Bool) (n : ℕ) → moved_down gone (suc n) ≡ cond (gone 0) 0 1 + moved_down (λ k. gone (suc k)) n
moved_first gone zero =
    by_bool (gone 0)
    (λ t. rw t (omega (arith, moved_gone gone 0 t, moved_zero gone, moved_zero (λ k. gone (suc k)))))
    (λ t. rw t (omega (arith, moved_kept gone 0 t, moved_zero gone, moved_zero (λ k. gone (suc k)))))
moved_first gone (suc n) =
    let h = moved_first gone n in
    by_bool (gone (suc n))
    (λ t. omega (arith, moved_gone gone (suc n) t, moved_gone (λ k. gone (suc k)) n t))
    (λ t. omega (arith, moved_kept gone (suc n) t, moved_kept (λ k. gone (suc k)) n t))

-- where none below n is gone, none up to n moves
pub moved_fixed : (gone : ℕ → Bool) (n : ℕ) → ((k : ℕ) → k < n → gone k ≡ false) → moved_down gone n ≡ n
moved_fixed gone zero h = moved_zero gone
moved_fixed gone (suc n) h = moved_kept gone n (h n (omega arith)) ∙ ap suc (moved_fixed gone n (λ k l. h k (omega arith)))

pub moved_none : (n : ℕ) → moved_down (λ k. false) n ≡ n
moved_none n = moved_fixed (λ k. false) n (λ k l. refl)
