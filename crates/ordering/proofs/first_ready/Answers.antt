-- `ordering::first_ready` meets its contract. The loop goes over the places that are left; its invariant: what the scan comes to is the first of those from
-- here on. A subgoal is ready where it can run with its pattern, which is answered with its place. Assumes nothing.
use mathlib.Core.Path.{sym, ◌∙◌}
use Prim.Native.Nat.{ℕ, ◌≤◌}
use native.Mathlib.Omega.{arith}
use lib.ListN.{length}
use Rattle.masks.specs.Limits.{max_arity}
use Rattle.book.specs.Held.{call_in}
use Rattle.book.proofs.Laws.Held.{args_count}
use Rattle.ordering.specs.Good.{ready_at}
use Rattle.ordering.proofs.Laws.Steps.{pattern_small}
use Rattle.ordering.proofs.Laws.Run.{pred_read, args_read, ready_read, pattern_read, scan_start, scan_below, scan_waits, scan_here, scan_end}
use Rattle.ordering.proofs.first_ready.Goals as goal

-- a subgoal has six arguments at most
few : (s : ℕ) → length (call_in s).args ≤ max_arity
few s = let n = args_count s in omega arith

pub loop-place-init : goal.loop-place-init
loop-place-init c =
    let s = c.args in
    rw (c.into_iter-place-iterator.ensures.into_iter_gives, c.of-place-items.ensures) (scan_start s.left (ready_at s.table.now s.clause.now.body s.bound.now))

pub subgoal-s-requires : goal.subgoal-s-requires
subgoal-s-requires c =
    let s = c.args in
    let body = s.clause.now.body in
    scan_below s.left (ready_at s.table.now body s.bound.now) c.loop-place.invariant c.in-Some.ensures.steps (length body) c.requires.2

pub pattern-pattern-requires : goal.pattern-pattern-requires
pattern-pattern-requires c =
    let s = c.args in
    let body = s.clause.now.body in
    let inside = scan_below s.left (ready_at s.table.now body s.bound.now) c.loop-place.invariant c.in-Some.ensures.steps (length body) c.requires.2 in
    args_read body c.in-Some.place c.subgoal-s.ensures c.requires.0 inside

pub patterns-requires : goal.patterns-requires
patterns-requires c =
    let s = c.args in
    let body = s.clause.now.body in
    let inside = scan_below s.left (ready_at s.table.now body s.bound.now) c.loop-place.invariant c.in-Some.ensures.steps (length body) c.requires.2 in
    rw c.predicate.ensures (pred_read body c.in-Some.place c.subgoal-s.ensures c.requires.0 inside)

pub can_run-requires : goal.can_run-requires
can_run-requires c =
    let s = c.subgoal-s.result.word in
    let e = c.pattern-pattern.ensures in
    let l = pattern_small c.args.bound.now max_arity (call_in s).args (few s) in
    omega arith

pub returns-then-can_run : goal.returns-then-can_run
returns-then-can_run c =
    let s = c.args in
    let body = s.clause.now.body in
    let b = s.bound.now in
    let p = ready_at s.table.now body b in
    let place = c.in-Some.place in
    let read = c.subgoal-s in
    let inside = scan_below s.left p c.loop-place.invariant c.in-Some.ensures.steps (length body) c.requires.2 in
    let e = ready_read body place read.ensures s.table.now b _ (few read.result.word) c.predicate.ensures c.patterns.ensures c.pattern-pattern.ensures in
    record {
      place = scan_here s.left p c.loop-place.invariant c.in-Some.ensures.steps (omega arith) (e ∙ sym c.can_run.ensures ∙ c.if-can_run.true);
      pattern = pattern_read body place read.ensures b c.pattern-pattern.ensures;
    }

pub loop-place-preserved : goal.loop-place-preserved
loop-place-preserved c =
    let s = c.args in
    let body = s.clause.now.body in
    let b = s.bound.now in
    let p = ready_at s.table.now body b in
    let read = c.subgoal-s in
    let e = ready_read body c.in-Some.place read.ensures s.table.now b _ (few read.result.word) c.predicate.ensures c.patterns.ensures c.pattern-pattern.ensures in
    scan_waits s.left p c.loop-place.invariant c.in-Some.ensures.steps (e ∙ sym c.can_run.ensures ∙ c.if-can_run.false)

pub returns-clause-place : goal.returns-clause-place
returns-clause-place c =
    let s = c.args in
    scan_end s.left (ready_at s.table.now s.clause.now.body s.bound.now) c.loop-place.invariant c.in-None.ensures.steps.0
