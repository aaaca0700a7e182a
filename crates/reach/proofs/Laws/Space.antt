-- How far words can still grow: a number that falls when one of them does. Assumes nothing.
use mathlib.Core.List.{List, [], ◌∷◌}
use Prim.Native.Nat.{ℕ, zero, suc, ◌+◌, ◌-◌, ◌^◌, ◌<◌}
use native.Mathlib.Omega.{arith}
use lib.ListN.{length, get_or, set}
use Rattle.masks.specs.Limits.{all_patterns}

unfoldable pub space : List ℕ → ℕ
space [] = 0
space (w ∷ words) = 2 ^ all_patterns - w + space words

pub space_less : (words : List ℕ) (p w : ℕ) → p < length words → get_or words p 0 < w → w < 2 ^ all_patterns → space (set words p w) < space words
unfolding space
space_less [] p w h l s = absurd (omega arith)
space_less (x ∷ words) zero w h l s = omega arith
space_less (x ∷ words) (suc p) w h l s = let r = space_less words p w (omega arith) l s in omega arith
