-- `tables::first_table` meets its contract. The loop's invariant: the first p constraints are those of table 0, with the patterns that they admit. Assumes
-- nothing.
use mathlib.Core.Path.{sym, ap, ◌∙◌}
use native.Mathlib.Omega.{arith}
use Rattle.masks.specs.Constraint.{minimise}
use Rattle.masks.proofs.Laws.Patterns.{ones}
use Rattle.tables.proofs.Laws.Held.{first_none, first_some, filling_start, filling_next, trivial_held, trivial_full}
use Rattle.tables.proofs.first_table.Goals.{then-has_mode, else-has_mode}
use Rattle.tables.proofs.first_table.Goals as goal

pub loop-p-init : goal.loop-p-init
loop-p-init c =
    let s = c.args in
    let p = c.requires in
    filling_start s.book.now.modes s.table.now.masks s.table.now.admits (omega arith) (omega arith) p.2 p.3

pub loop-p-preserved : goal.loop-p-preserved
loop-p-preserved c =
    let l = c.loop-p in
    let s = c.args in
    let h = c.requires.0 in
    let has = sym c.has_mode.ensures in
    elim c.if-has_mode.branch [
      | then-has_mode u ↦
          rw u.table-is
          (filling_next s.book.now.modes l.p u.minimised-c.result u.admitted.result (omega arith)
          (u.minimised-c.ensures ∙ ap minimise u.masks_at.ensures ∙ first_some s.book.now.modes l.p (omega arith) (has ∙ u.if-has_mode.true)) u.admitted.ensures
          l.invariant)
      | else-has_mode u ↦
          rw u.table-is
          (filling_next s.book.now.modes l.p 1 ones (omega arith) (trivial_held ∙ first_none s.book.now.modes l.p (omega arith) (has ∙ u.if-has_mode.false)) trivial_full
          l.invariant)
    ]
