-- `page::answer_run` meets its contract. Each turn reads a query behind those read, writes its answer behind theirs and counts it; the room left for queries
-- falls. Assumes nothing.
use mathlib.Core.Path.{sym, ◌∙◌}
use native.Mathlib.Omega.{arith}
use Rattle.book.specs.Limits.{max_clauses}
use Rattle.book.proofs.Laws.Held.{clause_at_few}
use Rattle.records.proofs.Laws.Reads.{passed}
use Rattle.page.proofs.Laws.Asking.{asking_start, asking_long, asking_full, asking_bad, asking_callable, asking_next, asking_end_bad, asking_end}
use Rattle.page.proofs.answer_run.Goals as goal

pub loop-tally-init : goal.loop-tally-init
loop-tally-init c = asking_start _ _ _ _ c.told-image

pub returns-then-n-ge-MAX_QUERIES : goal.returns-then-n-ge-MAX_QUERIES
returns-then-n-ge-MAX_QUERIES c =
    rw c.wrong.ensures (asking_full _ _ _ c.loop-tally.invariant (sym c.is_mark.ensures.value ∙ c.loop-tally-test.true) c.if-n-ge-MAX_QUERIES.true _)

pub returns-in_err-left : goal.returns-in_err-left
returns-in_err-left c =
    rw (passed _ c.from_residual.ensures.1)
    (asking_bad _ _ _ c.loop-tally.invariant (sym c.is_mark.ensures.value ∙ c.loop-tally-test.true) c.read_page_query.ensures (omega arith) c.in_err-left.was _)

pub answer_query-v-requires : goal.answer_query-v-requires
answer_query-v-requires c =
    let inv = c.loop-tally.invariant in
    let long = asking_long _ _ _ inv in
    let short = inv.short in
    rw c.at.ensures (
      asking_callable _ _ _ inv (sym c.is_mark.ensures.value ∙ c.loop-tally-test.true) c.read_page_query.ensures c.in_ok-left.was c.args.ar.few,
      clause_at_few c.read_page_query.new.rules max_clauses,
      omega arith,
    )

pub stepped-tally-requires : goal.stepped-tally-requires
stepped-tally-requires c =
    let few = c.loop-tally.invariant.few in
    (omega arith, omega arith)

pub loop-tally-preserved : goal.loop-tally-preserved
loop-tally-preserved c =
    let v = c.answer_query-v.ensures in
    asking_next _ _ _ c.loop-tally.invariant (sym c.is_mark.ensures.value ∙ c.loop-tally-test.true) c.read_page_query.ensures c.in_ok-left.was (omega arith)
    (rw (← c.at.ensures) v.wrote) v.accepted_value.1 (rw (← c.at.ensures) v.accepted_value.0) c.stepped-tally.ensures

pub returns-in_err-run_end : goal.returns-in_err-run_end
returns-in_err-run_end c =
    rw (passed _ c.from_residual-in_err-run_end.ensures.1)
    (asking_end_bad _ _ _ c.loop-tally.invariant (sym c.is_mark.ensures.value ∙ c.loop-tally-test.false) c.run_end.ensures c.in_err-run_end.was _)

pub returns : goal.returns
returns c = asking_end _ _ _ c.loop-tally.invariant (sym c.is_mark.ensures.value ∙ c.loop-tally-test.false) c.run_end.ensures c.in_ok-run_end.was
