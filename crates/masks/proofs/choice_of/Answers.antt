-- `masks::choice_of` meets its contract. The set holds the masks of the two lists put together. Assumes nothing.
use mathlib.Core.Path.{◌∙◌}
use mathlib.Core.List.{◌++◌}
use Rattle.masks.specs.Constraint.{choice}
use Rattle.masks.proofs.Laws.Set.{holds_list, holds_both}
use Rattle.masks.proofs.Laws.Sets.{minimise_held}
use Rattle.masks.proofs.choice_of.Goals as goal

pub returns : goal.returns
unfolding choice
returns c =
    let s = c.args in
    let u = c.with_unions-set in
    let v = c.with_unions in
    c.written.ensures
    ∙ minimise_held v.result (s.first.list.now ++ s.second.list.now)
    (holds_both u.result v.result s.first.list.now s.second.list.now (holds_list u.result s.first.list.now u.ensures) v.ensures)
