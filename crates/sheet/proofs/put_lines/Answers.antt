-- `sheet::put_lines` meets its contract. The loop's invariant: what is written, with the lines of the records that are left, is the whole. Assumes nothing.
use native.Mathlib.Omega.{arith}
use lib.ListN.{length-drop, length-take}
use Prim.Native.Nat.{ℕ}
use Rattle.sheet.proofs.Laws.Lines.{from, listed_most, lining_room, lining_next, lining_end}
use Rattle.sheet.proofs.put_lines.Goals as goal

pub put_line-p-requires : goal.put_line-p-requires
put_line-p-requires c = (omega arith, lining_room c.loop-rest.invariant.lining (omega arith))

pub overflow_add-rest-in-loop-rest-2 : goal.overflow_add-rest-in-loop-rest-2
overflow_add-rest-in-loop-rest-2 c =
    let f = c.args.form.now in
    let m = listed_most f.lead f.trail c.loop-rest.rest.now c.loop-rest-test.true in
    omega (arith, c.listed.ensures)

pub loop-rest-preserved : goal.loop-rest-preserved
loop-rest-preserved c = record {
  within = omega (arith, length-take {A = ℕ}, length-drop {A = ℕ});
  lining = lining_next c.loop-rest.invariant.lining (omega arith) c.listed.ensures (from _ c.loop-rest.rest.now) c.put_line-p.ensures;
}

pub returns : goal.returns
returns c = lining_end c.loop-rest.invariant.lining (omega arith)
