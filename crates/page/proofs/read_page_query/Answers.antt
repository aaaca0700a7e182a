-- `page::read_page_query` meets its contract: the subgoals behind the two bytes of the mark, and then what ends them; the array has room for them. Assumes
-- nothing.
use mathlib.Core.Path.{refl}
use Rattle.std.proofs.lemmas.List.{take_rest}
use Rattle.book.specs.Format.{mark_at}
use Rattle.book.specs.declared.mark.Mark.TheVariants.{Qu}
use Rattle.book.specs.declared.mark.Phase.TheVariants.{PageQuery}
use Rattle.book.proofs.Laws.Marks.{in_page}
use Rattle.records.proofs.Laws.Reads.{passed}
use Rattle.reading.proofs.Laws.Clauses.{query_bad, query_unended, query_ended}
use Rattle.reading.proofs.Laws.Runs.{ends_at}
use Rattle.page.proofs.Laws.Asking.{query_stored}
use Rattle.page.proofs.read_page_query.Goals as goal

pub returns-in_err-left : goal.returns-in_err-left
returns-in_err-left c =
    rw (passed _ c.from_residual.ensures.1)
    (query_stored (query_bad PageQuery in_page _ _ (rw take_rest at c.read_body.ensures) c.in_err-left.was) c.told-rules)

pub ended-requires : goal.ended-requires
unfolding mark_at
ended-requires c = ends_at PageQuery _ _ Qu (λ t. refl) refl

pub returns-in_err-ended : goal.returns-in_err-ended
returns-in_err-ended c =
    rw (passed _ c.from_residual-in_err-ended.ensures.1)
    (query_stored (query_unended PageQuery in_page _ _ (rw take_rest at c.read_body.ensures) c.in_ok-left.was c.ended.ensures c.in_err-ended.was) c.told-rules)

pub returns : goal.returns
returns c =
    query_stored (query_ended PageQuery in_page _ _ (rw take_rest at c.read_body.ensures) c.in_ok-left.was c.ended.ensures c.in_ok-ended.was) c.told-rules
