-- `masks::constraint::fits` meets its contract. Assumes nothing.
use mathlib.Core.Path.{◌≡◌, refl, ap₂, ◌∙◌}
use mathlib.Core.Bool.{Bool, ◌||◌}
use mathlib.Core.List.{List, [], ◌∷◌}
use Prim.Native.Nat.{ℕ}
use Rattle.std.proofs.Common.{rules, tests}
use Rattle.std.specs.List.{list_any}
use Rattle.std.proofs.lemmas.Iterator.{YieldsList-from_slice}
use Rattle.std.proofs.lemmas.Iterator.Search.{any_from_yields_List}
use Rattle.masks.specs.Lists.{any}
use Rattle.masks.specs.Mask.{within}
use Rattle.masks.specs.Constraint.{admits}
use Rattle.masks.proofs.constraint.fits.Goals as goal

list_any-any : (p : ℕ → Bool) (xs : List ℕ) → list_any p xs ≡ any p xs
list_any-any p [] = refl
list_any-any p (x ∷ xs) = ap₂ ◌||◌ refl (list_any-any p xs)

pub returns : goal.returns
unfolding admits within
returns c =
    let a = c.args.pattern in
    any_from_yields_List (λ m. within m a) _ _ _ c.any.ensures.ran (YieldsList-from_slice c.args.masks.now c.iter.ensures.rest) (λ x b q k. search (rules, tests))
    ∙ list_any-any (λ m. within m a) c.args.masks.now
