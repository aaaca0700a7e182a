-- `reading::read_clause` meets its contract. A fault of the head is the clause's; then one of the body; else what stands behind it decides. Assumes nothing.
use mathlib.Core.Path.{refl}
use Rattle.std.proofs.lemmas.List.{take_rest}
use Rattle.book.specs.declared.mark.Phase.TheVariants.{Body}
use Rattle.book.specs.declared.mark.Mark.TheVariants.{Cl}
use Rattle.book.specs.Format.{mark_at}
use Rattle.records.proofs.Laws.Reads.{passed}
use Rattle.reading.proofs.Laws.Clauses.{clause_headless, clause_unbodied, clause_unended, clause_ended}
use Rattle.reading.proofs.Laws.Runs.{ends_at}
use Rattle.reading.proofs.read_clause.Goals as goal

pub returns-in_err-head : goal.returns-in_err-head
returns-in_err-head c = rw (passed _ c.from_residual.ensures.1) (clause_headless _ _ _ (rw take_rest at c.read_head.ensures) _ c.in_err-head.was)

pub returns-in_err-left : goal.returns-in_err-left
returns-in_err-left c =
    rw (passed _ c.from_residual-in_err-left.ensures.1)
    (clause_unbodied _ _ _ (rw take_rest at c.read_head.ensures) _ c.in_ok-head.was c.read_body.ensures c.in_err-left.was)

pub ended-requires : goal.ended-requires
unfolding mark_at
ended-requires c = ends_at Body _ _ Cl (λ t. refl) refl

pub returns-in_err-ended : goal.returns-in_err-ended
returns-in_err-ended c =
    rw (passed _ c.from_residual-in_err-ended.ensures.1)
    (clause_unended _ _ _ (rw take_rest at c.read_head.ensures) _ c.in_ok-head.was c.read_body.ensures c.in_ok-left.was c.ended.ensures c.in_err-ended.was)

pub returns : goal.returns
returns c =
    clause_ended _ _ _ (rw take_rest at c.read_head.ensures) _ c.in_ok-head.was c.read_body.ensures c.in_ok-left.was c.ended.ensures c.in_ok-ended.was
    c.requires.1 c.put.ensures
