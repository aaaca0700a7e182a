-- `needs::round::round` meets its contract. The loop goes over the predicates due; its invariant: those passed have their good patterns, and those
-- marked have others than before. Assumes nothing.
use mathlib.Core.Path.{sym, subst}
use mathlib.Core.List.{List}
use Prim.Native.Nat.{ℕ}
use native.Mathlib.Omega.{arith}
use Rattle.masks.proofs.Laws.Loops.{over_start, over_end, over_small, over_member, over_here, over_next}
use Rattle.needs.proofs.Laws.Rounding.{given_callable, Rounding, rounding_start, rounding_skip, rounding_same, rounding_new, rounding_end, rounding_still}
use Rattle.needs.proofs.round.round.Goals as goal

pub loop-p-init : goal.loop-p-init
loop-p-init c =
    let s = c.args in
    let e = c.requires.1 in
    rw (c.into_iter-p-iterator.ensures.into_iter_gives, c.of-p-items.ensures)
    (over_start (Rounding s.book.now.rules s.own.now s.table.now s.old s.due s.new.now 0) s.due
    (subst (λ (l : List ℕ). Rounding s.book.now.rules s.own.now s.table.now s.old s.due l 0 0) (sym e)
    (rounding_start s.book.now.rules s.own.now s.table.now s.old s.due (omega arith))))

pub bounds-own-q : goal.bounds-own-q
bounds-own-q c = let l = over_small _ _ _ (rounding_skip _ _ _ _ _ _ _) c.loop-p.invariant _ _ c.in-Some.ensures.steps in omega arith

pub bounds-old-q : goal.bounds-old-q
bounds-old-q c = let l = over_small _ _ _ (rounding_skip _ _ _ _ _ _ _) c.loop-p.invariant _ _ c.in-Some.ensures.steps in omega arith

pub good_patterns-good-requires : goal.good_patterns-good-requires
good_patterns-good-requires c =
    let r = c.requires.0 in
    given_callable r.0 _ _ r.1 _ (over_small _ _ _ (rounding_skip _ _ _ _ _ _ _) c.loop-p.invariant _ _ c.in-Some.ensures.steps)

pub bounds-old-q-in-loop-p : goal.bounds-old-q-in-loop-p
bounds-old-q-in-loop-p c = let l = over_small _ _ _ (rounding_skip _ _ _ _ _ _ _) c.loop-p.invariant _ _ c.in-Some.ensures.steps in omega arith

pub bounds-new-q : goal.bounds-new-q
bounds-new-q c = let l = over_small _ _ _ (rounding_skip _ _ _ _ _ _ _) c.loop-p.invariant _ _ c.in-Some.ensures.steps in omega arith

pub with_member-changed-requires : goal.with_member-changed-requires
with_member-changed-requires c = over_small _ _ _ (rounding_skip _ _ _ _ _ _ _) c.loop-p.invariant _ _ c.in-Some.ensures.steps

pub loop-p-preserved-then-good-old : goal.loop-p-preserved-then-good-old
loop-p-preserved-then-good-old c =
    let s = c.args in
    let i = c.loop-p.invariant in
    let e = c.in-Some.ensures.steps in
    rw c.with_member-changed.ensures
    (over_next _ _ _ (rounding_skip _ _ _ _ _ _ _) i _ _ e (Rounding s.book.now.rules s.own.now s.table.now s.old s.due _ _)
    (rounding_new s.book.now.rules s.own.now s.table.now s.old s.due _ _ _ _ (over_member _ _ _ (rounding_skip _ _ _ _ _ _ _) i _ _ e) c.good_patterns-good.ensures
    (over_here _ _ _ (rounding_skip _ _ _ _ _ _ _) i _ _ e) (over_small _ _ _ (rounding_skip _ _ _ _ _ _ _) i _ _ e) c.if-good-old.true))

pub loop-p-preserved : goal.loop-p-preserved
loop-p-preserved c =
    let s = c.args in
    let i = c.loop-p.invariant in
    let e = c.in-Some.ensures.steps in
    over_next _ _ _ (rounding_skip _ _ _ _ _ _ _) i _ _ e (Rounding s.book.now.rules s.own.now s.table.now s.old s.due _ _)
    (rounding_same s.book.now.rules s.own.now s.table.now s.old s.due _ _ _ _ (over_member _ _ _ (rounding_skip _ _ _ _ _ _ _) i _ _ e) c.good_patterns-good.ensures
    (over_here _ _ _ (rounding_skip _ _ _ _ _ _ _) i _ _ e) c.if-good-old.false)

-- all that are due are done, and the tables are the same, or not
pub returns-then-same : goal.returns-then-same
returns-then-same c =
    let s = c.args in
    let r = c.requires.0 in
    let end = over_end _ _ _ (rounding_skip _ _ _ _ _ _ _) c.loop-p.invariant c.in-None.ensures.steps.0 in
    λ B g u. rounding_still s.book.now.rules s.own.now s.table.now s.old s.due B g r.2 u end (c.same.ensures.same· c.if-same.true)

pub returns-else-same : goal.returns-else-same
returns-else-same c =
    let s = c.args in
    let r = c.requires.0 in
    let end = over_end _ _ _ (rounding_skip _ _ _ _ _ _ _) c.loop-p.invariant c.in-None.ensures.steps.0 in
    λ B g u. rounding_end s.book.now.rules s.own.now s.table.now s.old s.due B g r.2 u end
