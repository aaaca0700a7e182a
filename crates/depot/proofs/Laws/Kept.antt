-- The clauses that stay, by number: clause k is found at its number moved down. Assumes nothing.
use mathlib.Core.Path.{◌≡◌, sym, ap, ◌∙◌}
use mathlib.Core.Bool.{Bool, false}
use mathlib.Core.List.{List, [], ◌∷◌}
use Prim.Native.Nat.{ℕ, zero, suc, ◌<◌}
use native.Mathlib.Omega.{arith}
use lib.ListN.{length, get_or}
use Rattle.book.specs.Book.{Clause}
use Rattle.closing.specs.Close.{kept_clauses}
use Rattle.renumbering.specs.Left.{moved_down}
use Rattle.masks.proofs.Laws.Logic.{by_bool}
use Rattle.renumbering.proofs.Laws.Numbers.{moved_zero, moved_first}

module _ (S : ℕ → Bool) (d : Clause) where
  -- clause k of the list is dropped
  abbrev pub drops : List Clause → ℕ → Bool
  drops cs k = S (get_or cs k d).head.pred

  pub kept_length : (cs : List Clause) → length (kept_clauses S cs) ≡ moved_down (drops cs) (length cs)
  unfolding kept_clauses
  kept_length [] = sym (moved_zero (drops []))
  kept_length (c ∷ cs) =
      by_bool (S c.head.pred)
      (λ t. rw t (kept_length cs ∙ sym (moved_first (drops (c ∷ cs)) (length cs) ∙ rw t (omega arith))))
      (λ t. rw t (ap suc (kept_length cs) ∙ sym (moved_first (drops (c ∷ cs)) (length cs) ∙ rw t (omega arith))))

  pub kept_at : (cs : List Clause) (k : ℕ) → k < length cs → drops cs k ≡ false → get_or (kept_clauses S cs) (moved_down (drops cs) k) d ≡ get_or cs k d
  unfolding kept_clauses
  kept_at [] k l t = absurd (omega arith)
  kept_at (c ∷ cs) zero l t = rw (moved_zero, t)
  kept_at (c ∷ cs) (suc k) l t =
      by_bool (S c.head.pred)
      (λ u.
      let e : moved_down (drops (c ∷ cs)) (suc k) ≡ moved_down (drops cs) k = moved_first (drops (c ∷ cs)) k ∙ rw u (omega arith) in
      rw (e, u) (kept_at cs k (omega arith) t))
      (λ u.
      let e : moved_down (drops (c ∷ cs)) (suc k) ≡ suc (moved_down (drops cs) k) = moved_first (drops (c ∷ cs)) k ∙ rw u (omega arith) in
      rw (e, u) (kept_at cs k (omega arith) t))
