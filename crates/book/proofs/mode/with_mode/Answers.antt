-- `book::mode::with_mode` meets its contract. The loop's invariant: of the predicates below p the set has those with `MO`. Assumes nothing.
use mathlib.Core.Path.{sym, ◌∙◌}
use native.Mathlib.Omega.{arith}
use Rattle.book.proofs.Laws.Held.{having_start, having_one, having_none, having_end}
use Rattle.book.proofs.mode.with_mode.Goals.{then-has_mode, else-has_mode}
use Rattle.book.proofs.mode.with_mode.Goals as goal

pub loop-p-init : goal.loop-p-init
loop-p-init c = having_start c.args.modes.now

pub loop-p-preserved : goal.loop-p-preserved
loop-p-preserved c =
    let l = c.loop-p in
    let has = c.has_mode.ensures in
    elim c.if-has_mode.branch [
      | then-has_mode w ↦ rw (w.set-is, w.with_member-set.ensures) (having_one (omega arith) l.invariant (sym has ∙ w.if-has_mode.true))
      | else-has_mode w ↦ rw w.set-is (having_none (omega arith) l.invariant (sym has ∙ w.if-has_mode.false))
    ]

pub returns : goal.returns
returns c = having_end (omega arith) c.loop-p.invariant
