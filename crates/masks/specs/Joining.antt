-- Joining. Document 01: "Given are the arity and two lists of up to 20 masks in any order; written are the masks of the result. Arity over 6
-- or a mask out of range is 4, a list over 20 is 5, with the value 0; tried as arity, first list's length, its masks, the second's, then 9."
-- Assumes nothing.
use Rattle.std.specs.Prelude.{cond, List, ℕ, zero, suc, ◌^◌, ltb, length}
use Rattle.masks.specs.Limits.{max_arity, max_masks}
use Rattle.masks.specs.Constraint.{in_range, choice, joint}
use Rattle.masks.specs.Outcome.{Outcome, refused, done}
use Rattle.masks.specs.declared.Way.{Way}
use Rattle.masks.specs.declared.Way.TheVariants.{Choice, Joint}

-- the fault of one list at so many patterns, or 0
unfoldable pub list_fault : ℕ → List ℕ → ℕ
list_fault limit l = cond (ltb max_masks (length l)) 5 (cond (in_range limit l) 0 4)

-- of two trials, the fault found first; 0 is none
abbrev pub or_else : ℕ → ℕ → ℕ
or_else zero g = g
or_else (suc f) g = suc f

-- "tried as arity, first list's length, its masks, the second's": the first fault of all, or 0
unfoldable pub fault : ℕ → List ℕ → List ℕ → ℕ
fault arity x y = cond (ltb max_arity arity) 4 (or_else (list_fault (2 ^ arity) x) (list_fault (2 ^ arity) y))

-- "combined in two ways"
abbrev pub combined : Way → List ℕ → List ℕ → List ℕ
combined Choice x y = choice x y
combined Joint x y = joint x y

-- the masks of the result, unless there is a fault, "with the value 0"
abbrev pub unless : ℕ → List ℕ → Outcome
unless zero masks = done 0 masks
unless (suc f) masks = refused (suc f) 0

-- the outcome of either operation; "then 9" is the room's part of it
unfoldable pub joining : Way → ℕ → List ℕ → List ℕ → Outcome
joining way arity x y = unless (fault arity x y) (combined way x y)
