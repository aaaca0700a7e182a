-- `sheet::put_lines` meets its contract. The loop's invariant: what is written, with the lines of the records that are left, is the whole. Assumes nothing.
use Prim.Native.Nat.{◌≤◌}
use lib.ListN.{length}
use Rattle.sheet.specs.Records.{lines_in}
use Rattle.sheet.proofs.Laws.Lines.{Lining}
use Rattle.sheet.proofs.put_lines.Given as goal

abbrev pub invariant-loop-rest : goal.invariant-loop-rest
invariant-loop-rest l =
    let f = l.form in
    record {
      within : length l.rest ≤ length l.image;
      lining : Lining f.letter f.lead f.none.now f.trail (lines_in f.letter f.lead f.none.now f.trail (length l.image) l.image) l.initial.text l.at l.text l.p l.rest;
    }

abbrev pub decreases-loop-rest : goal.decreases-loop-rest
decreases-loop-rest l = length l.rest
