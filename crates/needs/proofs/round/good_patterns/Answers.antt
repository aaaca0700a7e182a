-- `needs::round::good_patterns` meets its contract. The loop goes over the clauses of the set; its invariant: those of the patterns that are left are good
-- under the clauses passed. Where none is left, none is under all. Assumes nothing.
use mathlib.Core.Path.{sym, subst}
use native.Mathlib.Omega.{arith}
use borrow.Author.Rules.{rules}
use Rattle.masks.proofs.Laws.Loops.{over_start, over_end, over_small, over_member, over_here, over_next}
use Rattle.needs.specs.Round.{Stays}
use Rattle.needs.proofs.Laws.Trying.{Tried, tried_start, tried_skip, tried_next, tried_none, tried_end}
use Rattle.needs.proofs.round.good_patterns.Goals as goal

pub loop-k-init : goal.loop-k-init
loop-k-init c =
    let s = c.args in
    rw (c.into_iter-k-iterator.ensures.into_iter_gives, c.of-k-items.ensures)
    (over_start (Tried s.book.now.rules s.own s.table.now s.had s.had) s.own (tried_start s.book.now.rules s.own s.table.now s.had))

pub clause-requires : goal.clause-requires
clause-requires c = let l = over_small _ _ _ (tried_skip _ _ _ _ _) c.loop-k.invariant _ _ c.in-Some.ensures.steps in omega arith

pub good_lanes-set-requires : goal.good_lanes-set-requires
good_lanes-set-requires c =
    let i = c.loop-k.invariant in
    let e = c.in-Some.ensures.steps in
    let l = over_small _ _ _ (tried_skip _ _ _ _ _) i _ _ e in
    rw c.clause.ensures (c.requires _ l (over_member _ _ _ (tried_skip _ _ _ _ _) i _ _ e))

pub loop-k-preserved : goal.loop-k-preserved
loop-k-preserved c =
    let s = c.args in
    let i = c.loop-k.invariant in
    let e = c.in-Some.ensures.steps in
    over_next _ _ _ (tried_skip _ _ _ _ _) i _ _ e (Tried s.book.now.rules s.own s.table.now s.had _)
    (tried_next s.book.now.rules s.own s.table.now s.had _ _ _ (over_member _ _ _ (tried_skip _ _ _ _ _) i _ _ e) (rw (sym c.clause.ensures) c.good_lanes-set.ensures)
    (over_here _ _ _ (tried_skip _ _ _ _ _) i _ _ e))

-- no pattern is left
pub returns-then-set-eq0 : goal.returns-then-set-eq0
returns-then-set-eq0 c =
    let s = c.args in
    let i = c.loop-k.invariant in
    subst (Stays s.book.now.rules s.own s.table.now s.had) c.if-set-eq0.true
    (tried_end s.book.now.rules s.own s.table.now s.had _ (search rules)
    (tried_none s.book.now.rules s.own s.table.now s.had _ i.place i.most c.if-set-eq0.true i.done))

pub returns : goal.returns
returns c =
    tried_end _ _ _ _ _ (search rules) (over_end _ _ _ (tried_skip _ _ _ _ _) c.loop-k.invariant c.in-None.ensures.steps.0)
