-- `reading::read_query` meets its contract: the subgoals behind the two bytes of the mark, and then what ends them. Assumes nothing.
use mathlib.Core.Path.{refl, sym, ◌∙◌}
use borrow.Author.Tests.{eqb-true}
use Rattle.std.proofs.lemmas.List.{take_rest}
use Rattle.book.specs.declared.mark.Phase.TheVariants.{Query}
use Rattle.book.proofs.Laws.Marks.{in_query}
use Rattle.records.proofs.Laws.Reads.{passed}
use Rattle.reading.proofs.Laws.Clauses.{query_bad, query_over, query_unended, query_ended}
use Rattle.reading.proofs.read_query.Goals as goal

pub returns-in_err-left : goal.returns-in_err-left
returns-in_err-left c =
    rw (passed _ c.from_residual.ensures.1) (query_bad Query in_query _ _ (rw take_rest at c.read_body.ensures) c.in_err-left.was)

pub returns-then-is_empty : goal.returns-then-is_empty
returns-then-is_empty c =
    query_ended Query in_query _ _ (rw take_rest at c.read_body.ensures) c.in_ok-left.was (query_over c.in_ok-left.left.now
    (eqb-true _ 0 (sym c.is_empty.ensures ∙ c.if-is_empty.true))) refl

pub returns-in_err-run_end : goal.returns-in_err-run_end
returns-in_err-run_end c =
    rw (passed _ c.from_residual-in_err-run_end.ensures.1)
    (query_unended Query in_query _ _ (rw take_rest at c.read_body.ensures) c.in_ok-left.was c.run_end.ensures c.in_err-run_end.was)

pub returns : goal.returns
returns c = query_ended Query in_query _ _ (rw take_rest at c.read_body.ensures) c.in_ok-left.was c.run_end.ensures c.in_ok-run_end.was
