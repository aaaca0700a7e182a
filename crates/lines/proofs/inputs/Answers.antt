-- `lines::inputs` meets its contract. What stands before the results is the front of the line. Assumes nothing.
use Rattle.lines.proofs.Laws.Line.{take_inputs}
use Rattle.lines.proofs.inputs.Goals as goal

pub returns : goal.returns
returns c = let line = c.args.line.now in rw c.results_at-end.ensures.value (take_inputs line)
