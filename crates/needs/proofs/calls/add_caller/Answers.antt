-- `needs::calls::add_caller` meets its contract. The loop's invariant: the contract for the first j subgoals. Assumes nothing.
use mathlib.Core.Path.{◌≡◌, ap, ◌∙◌}
use Prim.Native.Nat.{◌<◌}
use native.Mathlib.Omega.{arith}
use lib.ListN.{get_or}
use Rattle.book.specs.Limits.{max_predicates}
use Rattle.book.specs.Book.{Head, Call, no_call}
use Rattle.book.proofs.Laws.Sets.{callable_low}
use Rattle.needs.proofs.Laws.Calls.{adding_next, adding_end}
use Rattle.needs.proofs.calls.add_caller.Lts
use Rattle.needs.proofs.calls.add_caller.Reads
use Rattle.needs.proofs.calls.add_caller.Tie
use Rattle.needs.proofs.calls.add_caller.Goals as goal

-- places that several goals come past
abbrev After-predicate-q : Type 0
After-predicate-q = Lts.After-predicate2 Tie.the-claims Reads.Pre Reads.Post goal.the-invariant-loop-j goal.the-decreases-loop-j Tie.handed_clauses

-- in a turn: p is the head's predicate and q that of subgoal j
module _ (c : After-predicate-q) where
  head : c.predicate-p.result ≡ c.args.clause.now.head.pred
  head = c.predicate-p.ensures ∙ ap (λ (h : Head). h.pred) c.head.ensures

  is : c.predicate-q.result ≡ (get_or c.args.clause.now.body c.loop-j.j no_call).pred
  is = c.predicate-q.ensures ∙ ap (λ (h : Call). h.pred) c.subgoal.ensures

  low : c.predicate-q.result < max_predicates
  low =
      let e = is in
      let n = c.subgoals-j-end.ensures.value in
      let l = callable_low c.args.clause.now.body c.loop-j.j c.requires.1 (omega arith) in
      omega arith

pub bounds-callers-q : goal.bounds-callers-q
bounds-callers-q c = let l = low c.before.before in let s = c.loop-j.invariant.size in omega arith

pub bounds-callers-q-in-loop-j : goal.bounds-callers-q-in-loop-j
bounds-callers-q-in-loop-j c = let l = low c.before.before.before in let s = c.loop-j.invariant.size in omega arith

pub loop-j-preserved : goal.loop-j-preserved
loop-j-preserved c =
    let d = c.before.before.before in
    let n = c.subgoals-j-end.ensures.value in
    rw c.with_member.ensures
    (adding_next c.loop-j.invariant c.predicate-p.result d.predicate-q.result (low d) (omega arith) (head d) (is d))

pub returns : goal.returns
returns c = let n = c.subgoals-j-end.ensures.value in adding_end c.loop-j.invariant (omega arith)
