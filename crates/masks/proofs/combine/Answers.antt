-- `masks::combine` meets its contract. By the contract of the way chosen. Assumes nothing.
use mathlib.Core.Path.{◌≡◌, sym, ap, ◌∙◌}
use Rattle.masks.specs.declared.Way.TheVariants.{Choice, Joint}
use Rattle.masks.specs.declared.Way.{Way}
use Rattle.masks.specs.Joining.{combined}
use Rattle.masks.proofs.combine.Goals as goal

pub returns-in-Choice : goal.returns-in-Choice
returns-in-Choice c =
    let s = c.args in
    let t : s.way ≡ Choice = c.in-Choice.is in
    c.choice_of.ensures ∙ ap (λ (w : Way). combined w s.first.list.now s.second.list.now) (sym t)

pub returns-in-Joint : goal.returns-in-Joint
returns-in-Joint c =
    let s = c.args in
    let t : s.way ≡ Joint = c.in-Joint.is in
    c.joint_of.ensures ∙ ap (λ (w : Way). combined w s.first.list.now s.second.list.now) (sym t)
