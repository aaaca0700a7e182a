-- `reading::read_clauses` meets its contract. Each turn stores a clause behind those read; the room left falls. Assumes nothing.
use mathlib.Core.Path.{refl, sym, ◌∙◌}
use native.Mathlib.Omega.{arith}
use Rattle.book.specs.declared.mark.Phase.TheVariants.{Clauses}
use Rattle.book.specs.declared.mark.Mark.TheVariants.{Qu}
use Rattle.book.specs.Format.{mark_at}
use Rattle.records.proofs.Laws.Reads.{passed}
use Rattle.reading.proofs.Laws.Clauses.{clausing_start, clausing_full, clausing_bad, clausing_next, clausing_end_bad, clausing_end}
use Rattle.reading.proofs.Laws.Runs.{ends_at}
use Rattle.reading.proofs.read_clauses.Goals as goal

pub loop-left-init : goal.loop-left-init
loop-left-init c = clausing_start _ _ _

pub returns-then-n-ge-MAX_CLAUSES : goal.returns-then-n-ge-MAX_CLAUSES
returns-then-n-ge-MAX_CLAUSES c =
    rw c.wrong.ensures (clausing_full _ _ _ c.loop-left.invariant (sym c.is_mark.ensures.value ∙ c.loop-left-test.true) c.if-n-ge-MAX_CLAUSES.true)

pub returns-in_err-left : goal.returns-in_err-left
returns-in_err-left c =
    rw (passed _ c.from_residual.ensures.1)
    (clausing_bad _ _ _ c.loop-left.invariant (sym c.is_mark.ensures.value ∙ c.loop-left-test.true) (omega arith) c.read_clause.ensures c.in_err-left.was)

pub loop-left-preserved : goal.loop-left-preserved
loop-left-preserved c =
    clausing_next _ _ _ c.loop-left.invariant (sym c.is_mark.ensures.value ∙ c.loop-left-test.true) (omega arith) c.read_clause.ensures c.in_ok-left.was c.read_clause.auto.rules

pub ended-requires : goal.ended-requires
unfolding mark_at
ended-requires c = ends_at Clauses _ _ Qu (λ t. refl) refl

pub returns-in_err-ended : goal.returns-in_err-ended
returns-in_err-ended c =
    rw (passed _ c.from_residual-in_err-ended.ensures.1)
    (clausing_end_bad _ _ _ c.loop-left.invariant (sym c.is_mark.ensures.value ∙ c.loop-left-test.false) c.ended.ensures c.in_err-ended.was)

pub returns : goal.returns
returns c = clausing_end _ _ _ c.loop-left.invariant (sym c.is_mark.ensures.value ∙ c.loop-left-test.false) c.ended.ensures c.in_ok-ended.was refl
