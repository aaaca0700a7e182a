-- `reach::reach` meets its contract. The loop's invariant: what is marked is reached, what is gone over has its calls marked, and a predicate with
-- more marked than is gone over has work; with no work left all that is reached is marked. In each turn either what is gone over grows, or it stays
-- and the work gets less. Assumes nothing.
use mathlib.Core.Path.{refl}
use lib.Count.{count_trailing_zeros}
use lib.ListN.{get_or}
use borrow.Author.Rules.{rules}
use Rattle.ordering.specs.Adorn.{nothing}
use Rattle.reach.proofs.Laws.Working.{working_start, Step, working_next, working_less, working_end}
use Rattle.reach.proofs.reach.Goals as goal

pub mark_given-work-requires : goal.mark_given-work-requires
mark_given-work-requires c =
    rw c.query.ensures (c.requires.clauses_le_max_clauses.2, (c.args.table.now, nothing, c.requires.found.0))

pub loop-work-init : goal.loop-work-init
loop-work-init c =
    let m = rw c.query.ensures at (c.mark_given-work.ensures) in
    working_start (search rules) c.told-reached c.requires.found.1 (m _ _ c.requires.found.0)

-- what a turn makes of the marks
turn : (c : goal.After-mark_patterns-names)
    → let s = c.args in
    let l = c.loop-work in
    let p = count_trailing_zeros 64 l.work in
    Step s.book.now.rules s.table.now s.book.now.clauses s.own.now l.reached l.gone p (get_or l.reached p 0) c.mark_patterns-names.new.reached c.mark_patterns-names.result
turn c =
    record {
      owns = c.requires.clauses_le_max_clauses.3;
      few = c.requires.clauses_le_max_clauses.0;
      is = refl;
      small = search rules;
      called· = search rules;
      marked = c.mark_patterns-names.ensures;
    }

pub loop-work-smaller : goal.loop-work-smaller
loop-work-smaller c = working_less c.loop-work.invariant c.loop-work-test.true (turn c)

pub loop-work-preserved : goal.loop-work-preserved
loop-work-preserved c = working_next c.loop-work.invariant c.loop-work-test.true (turn c)

pub returns : goal.returns
returns c = working_end c.loop-work.invariant c.loop-work-test.false
