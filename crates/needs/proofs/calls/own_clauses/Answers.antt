-- `needs::calls::own_clauses` meets its contract. The loop's invariant: each predicate's set has its own of the first k clauses, and the heads' predicates
-- are told. Assumes nothing.
use mathlib.Core.Path.{◌≡◌, ap, ◌∙◌}
use Prim.Native.Nat.{◌<◌}
use native.Mathlib.Omega.{arith}
use Rattle.book.specs.Limits.{max_predicates}
use Rattle.book.specs.Book.{Head, Clause}
use Rattle.book.specs.Held.{clause_at}
use Rattle.book.proofs.Laws.Sets.{head_low, owning_start, owning_next}
use Rattle.needs.proofs.Laws.Calls.{heading_start, heading_next}
use Rattle.needs.proofs.calls.own_clauses.Lts
use Rattle.needs.proofs.calls.own_clauses.Reads
use Rattle.needs.proofs.calls.own_clauses.Tie
use Rattle.needs.proofs.calls.own_clauses.Goals as goal

-- places that several goals come past
abbrev After-predicate-p : Type 0
After-predicate-p = Lts.After-predicate Tie.the-claims Reads.Pre Reads.Post goal.the-invariant-loop-k goal.the-decreases-loop-k Tie.handed_clauses

pub loop-k-init : goal.loop-k-init
loop-k-init c =
    let s = c.args in (
      owning_start s.book.now.rules s.book.now.clauses s.own.now (omega arith) c.requires.2,
      heading_start s.book.now.rules s.book.now.clauses,
    )

-- in a turn: p is the predicate of head k
module _ (c : After-predicate-p) where
  is : c.predicate-p.result ≡ (clause_at c.args.book.now.rules c.loop-k.k).head.pred
  is = c.predicate-p.ensures ∙ ap (λ (h : Head). h.pred) (c.head.ensures ∙ ap (λ (k : Clause). k.head) c.clause.ensures)

  low : c.predicate-p.result < max_predicates
  low = head_low c.loop-k.k c.predicate-p.result c.requires.1 (omega arith) is

pub loop-k-preserved : goal.loop-k-preserved
loop-k-preserved c =
    let d = c.before.before.before.before in
    let l = c.loop-k.invariant in
    let p = d.predicate-p.result in
    rw (c.with_member.ensures, c.with_member-heads.ensures)
    (owning_next l.0 p c.requires.1 (omega arith) (is d), heading_next l.1 p (omega arith) (is d))
