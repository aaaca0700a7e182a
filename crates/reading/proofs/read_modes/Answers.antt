-- `reading::read_modes` meets its contract. Each turn stores the modes of a predicate above those before it; the bytes left fall. Assumes nothing.
use mathlib.Core.Path.{refl, sym, ◌∙◌}
use Rattle.std.proofs.lemmas.List.{take_rest}
use Rattle.book.specs.Format.{mark_at}
use Rattle.book.specs.declared.mark.Mark.TheVariants.{Cl}
use Rattle.book.specs.declared.mark.Phase.TheVariants.{Modes}
use Rattle.records.proofs.Laws.Reads.{passed}
use Rattle.reading.proofs.Laws.Runs.{ends_at}
use Rattle.reading.proofs.Laws.Moding.{moding_start, moding_bad, moding_on, moding_next, moding_end_bad, moding_end}
use Rattle.reading.proofs.read_modes.Goals as goal

pub loop-left-init : goal.loop-left-init
loop-left-init c = moding_start _ _ _ c.requires

pub returns-in_err-pred : goal.returns-in_err-pred
returns-in_err-pred c =
    rw (passed _ c.from_residual.ensures.1)
    (moding_bad _ _ _ c.loop-left.invariant (sym c.is_mark.ensures.value ∙ c.loop-left-test.true) (rw take_rest at c.read_mode.ensures) c.in_err-pred.was)

pub loop-left-smaller : goal.loop-left-smaller
loop-left-smaller c =
    moding_on _ c.args.s.now _ c.loop-left.invariant (sym c.is_mark.ensures.value ∙ c.loop-left-test.true) (rw take_rest at c.read_mode.ensures) c.in_ok-pred.was

pub loop-left-preserved : goal.loop-left-preserved
loop-left-preserved c =
    moding_next _ _ _ c.loop-left.invariant (sym c.is_mark.ensures.value ∙ c.loop-left-test.true) (rw take_rest at c.read_mode.ensures) c.in_ok-pred.was
    c.with_member-with_mode.ensures c.read_mode.auto.modes

pub ended-requires : goal.ended-requires
unfolding mark_at
ended-requires c = ends_at Modes _ _ Cl (λ t. refl) refl

pub returns-in_err-ended : goal.returns-in_err-ended
returns-in_err-ended c =
    rw (passed _ c.from_residual-in_err-ended.ensures.1)
    (moding_end_bad _ _ _ c.loop-left.invariant (sym c.is_mark.ensures.value ∙ c.loop-left-test.false) c.ended.ensures c.in_err-ended.was)

pub returns : goal.returns
returns c = moding_end _ _ _ c.loop-left.invariant (sym c.is_mark.ensures.value ∙ c.loop-left-test.false) c.ended.ensures c.in_ok-ended.was refl
