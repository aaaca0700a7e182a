-- `sheet::line::put_fields` meets its contract. The loop's invariant: the first i numbers are written. Assumes nothing.
use lib.ListN.{length}
use Rattle.book.specs.Encode.{run}
use Rattle.printing.specs.Sheet.{after}
use Rattle.writing.proofs.Laws.Chunks.{Writing}
use Rattle.sheet.proofs.Laws.Lines.{fields_to, field_at}
use Rattle.sheet.proofs.line.put_fields.Given as goal

abbrev pub invariant-loop-x : goal.invariant-loop-x
invariant-loop-x l = Writing (length l.list) (fields_to l.part l.list) (field_at l.part l.list) (run (after l.part) l.list) l.initial.out l.at l.x-index l.out l.p
