-- `records::field::read_subgoal` meets its contract. The mark tells the kind, and the fields of a record stand after it. Assumes nothing.
use mathlib.Core.Path.{sym, ◌∙◌}
use mathlib.Core.Bool.{true, false}
use Rattle.std.proofs.lemmas.List.{take_rest}
use Rattle.records.proofs.Laws.Reads.{subgoal_reads}
use Rattle.records.proofs.field.read_subgoal.Goals as goal

pub returns-then-is_mark : goal.returns-then-is_mark
returns-then-is_mark c = subgoal_reads _ _ true (sym c.is_mark.ensures.value ∙ c.if-is_mark.true) (rw take_rest at c.read_call.ensures)

pub returns-else-is_mark : goal.returns-else-is_mark
returns-else-is_mark c = subgoal_reads _ _ false (sym c.is_mark.ensures.value ∙ c.if-is_mark.false) (rw take_rest at c.read_call-else-is_mark.ensures)
