-- `masks::constraint::minimised` meets its contract. The set of the list's unions with the mask 0 holds just the masks of the list. Assumes nothing.
use mathlib.Core.Path.{◌∙◌}
use Rattle.masks.proofs.Laws.Set.{holds_list}
use Rattle.masks.proofs.Laws.Sets.{minimise_held}
use Rattle.masks.proofs.constraint.minimised.Goals as goal

pub returns : goal.returns
returns c =
    let s = c.args in
    let u = c.with_unions in
    c.written.ensures ∙ minimise_held u.result s.masks.now (holds_list u.result s.masks.now u.ensures)
