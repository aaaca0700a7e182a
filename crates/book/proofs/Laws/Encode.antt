-- Records one after another, where the list of them is put together. Assumes nothing.
use mathlib.Core.Path.{◌≡◌, refl, sym, ap, ◌∙◌}
use mathlib.Core.List.{List, [], ◌∷◌, ◌++◌, append_assoc}
use Prim.Native.Nat.{ℕ, zero, suc}
use Rattle.masks.specs.Lists.{joined}
use Rattle.book.specs.Encode.{run}

module _ {A : Type 0} (f : A → List ℕ) where
  pub run_append : (xs ys : List A) → run f (xs ++ ys) ≡ run f xs ++ run f ys
  run_append [] ys = refl
  run_append (x ∷ xs) ys = ap (λ (l : List ℕ). f x ++ l) (run_append xs ys) ∙ sym (append_assoc (f x) (run f xs) (run f ys))

  pub run_joined : (g : ℕ → List A) (n : ℕ) → run f (joined g n) ≡ joined (λ k. run f (g k)) n
  run_joined g zero = refl
  run_joined g (suc n) = run_append (joined g n) (g n) ∙ ap (λ (l : List ℕ). l ++ run f (g n)) (run_joined g n)
