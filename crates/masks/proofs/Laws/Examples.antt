-- Worked examples of document 01, computed from the definitions. Assumes nothing.
use mathlib.Core.Path.{◌≡◌, refl}
use mathlib.Core.List.{[], ◌∷◌}
use Rattle.masks.specs.Mask.{within}
use Rattle.masks.specs.Constraint.{drops, least, written, minimise, joint}

-- K6 (5.2): "joint of {1}, {3,6} and {4} as masks, two at a time: 7", from the left and from the right
pub k6_left : joint (joint (1 ∷ []) (3 ∷ 6 ∷ [])) (4 ∷ []) ≡ 7 ∷ []
unfolding joint minimise written least drops within
k6_left = refl

pub k6_right : joint (1 ∷ []) (joint (3 ∷ 6 ∷ []) (4 ∷ [])) ≡ 7 ∷ []
unfolding joint minimise written least drops within
k6_right = refl
