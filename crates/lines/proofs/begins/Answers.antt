-- `lines::begins` meets its contract. std's test of a beginning is the definition's. Assumes nothing.
use mathlib.Core.Path.{◌∙◌}
use Rattle.lines.proofs.Laws.Line.{begins_same}
use Rattle.lines.proofs.begins.Goals as goal

pub returns : goal.returns
returns c = c.starts_with.ensures.value ∙ begins_same c.args.word.now c.args.line.now
