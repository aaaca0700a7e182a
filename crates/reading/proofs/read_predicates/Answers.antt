-- `reading::read_predicates` meets its contract. Each turn keeps what is still to be read equal to the whole; the room left falls. Assumes nothing.
use mathlib.Core.Path.{refl, sym, ◌∙◌}
use native.Mathlib.Omega.{arith}
use lib.ListN.{length-set}
use Rattle.std.proofs.lemmas.List.{take_rest}
use Rattle.book.specs.Format.{mark_at, predicate}
use Rattle.book.specs.declared.mark.Mark.TheVariants.{Pr, Mo}
use Rattle.book.specs.declared.mark.Phase.TheVariants.{Predicates}
use Rattle.records.proofs.Laws.Reads.{passed}
use Rattle.reading.proofs.Laws.Runs.{mine, ends_at, going_full, going_bad, going_next, take_more}
use Rattle.reading.proofs.Laws.Whole.{predicates_bad, predicates_end_bad, predicates_end}
use Rattle.reading.proofs.read_predicates.Goals as goal

pub returns-then-n-ge-MAX_PREDICATES : goal.returns-then-n-ge-MAX_PREDICATES
returns-then-n-ge-MAX_PREDICATES c =
    rw c.wrong.ensures
    (predicates_bad _
    (going_full _ _ _ _ c.loop-left.invariant.1 (mine Predicates Pr _ refl (sym c.is_mark.ensures.value ∙ c.loop-left-test.true))
    c.if-n-ge-MAX_PREDICATES.true))

pub returns-in_err-arity : goal.returns-in_err-arity
unfolding predicate
returns-in_err-arity c =
    rw (passed _ c.from_residual.ensures.1)
    (predicates_bad _
    (going_bad _ _ _ _ c.loop-left.invariant.1 (mine Predicates Pr _ refl (sym c.is_mark.ensures.value ∙ c.loop-left-test.true))
    (omega arith) (rw take_rest at c.read_predicate.ensures) c.in_err-arity.was))

pub loop-left-preserved : goal.loop-left-preserved
unfolding predicate
loop-left-preserved c =
    let loop = c.loop-left in (
      simp length-set loop.invariant.0,
      going_next _ _ _ _ loop.invariant.1 (mine Predicates Pr _ refl (sym c.is_mark.ensures.value ∙ c.loop-left-test.true))
          (omega arith) (rw take_rest at c.read_predicate.ensures) c.in_ok-arity.was (take_more loop.arities loop.n _ (let e = loop.invariant.0 in omega arith)),
    )

pub ended-requires : goal.ended-requires
unfolding mark_at
ended-requires c = ends_at Predicates _ _ Mo (λ t. refl) refl

pub returns-in_err-ended : goal.returns-in_err-ended
returns-in_err-ended c =
    rw (passed _ c.from_residual-in_err-ended.ensures.1)
    (predicates_end_bad _ _ c.loop-left.invariant (sym c.is_mark.ensures.value ∙ c.loop-left-test.false) c.ended.ensures c.in_err-ended.was)

pub returns : goal.returns
returns c = predicates_end _ _ c.loop-left.invariant (sym c.is_mark.ensures.value ∙ c.loop-left-test.false) c.ended.ensures c.in_ok-ended.was refl
