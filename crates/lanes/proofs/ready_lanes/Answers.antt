-- `lanes::ready_lanes` meets its contract: in each lane, the pattern fits the constraint that is held at the predicate, and of a negated call every argument is
-- bound. Assumes nothing.
use mathlib.Core.Path.{sym, ◌∙◌}
use Rattle.book.specs.Held.{call_in}
use Rattle.lanes.proofs.Laws.Steps.{lanes_fit, lanes_positive, lanes_negated}
use Rattle.lanes.proofs.ready_lanes.Goals as goal

pub returns-then-is_negated : goal.returns-then-is_negated
returns-then-is_negated c =
    let s = c.args in
    let call = call_in s.s.word in
    let fits = c.fit_lanes-fits in
    let fit = lanes_fit s.table.now s.vars.now call c.requires fits.result _ c.predicate.ensures c.pattern_lanes-words.ensures fits.ensures in
    lanes_negated s.table.now s.vars.now call c.requires fits.result c.filled_lanes.result (sym c.is_negated.ensures ∙ c.if-is_negated.true) fit
    c.filled_lanes.ensures

pub returns : goal.returns
returns c =
    let s = c.args in
    let call = call_in s.s.word in
    let fits = c.fit_lanes-fits in
    let fit = lanes_fit s.table.now s.vars.now call c.requires fits.result _ c.predicate.ensures c.pattern_lanes-words.ensures fits.ensures in
    lanes_positive s.table.now s.vars.now call c.requires fits.result (sym c.is_negated.ensures ∙ c.if-is_negated.false) fit
