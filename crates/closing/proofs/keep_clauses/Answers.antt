-- `closing::keep_clauses` meets its contract. The loop's invariant: of the first k clauses those that stay are the first n, and the clauses ahead are
-- as they were. Assumes nothing.
use mathlib.Core.Path.{◌≡◌, sym, ap, ◌∙◌}
use native.Mathlib.Omega.{arith}
use Rattle.masks.specs.Set.{bit_at}
use Rattle.book.specs.Book.{Head, Clause}
use Rattle.book.specs.Held.{clause_at}
use Rattle.closing.proofs.Laws.Keeping.{keeping_start, keeping_low, keeping_drop, keeping_move, keeping_end}
use Rattle.closing.proofs.keep_clauses.Lts
use Rattle.closing.proofs.keep_clauses.Reads
use Rattle.closing.proofs.keep_clauses.Tie
use Rattle.closing.proofs.keep_clauses.Goals.{then-not-has_member, else-not-has_member}
use Rattle.closing.proofs.keep_clauses.Goals as goal

-- places that several goals come past
abbrev After-predicate-p : Type 0
After-predicate-p = Lts.After-predicate Tie.the-claims Reads.Pre Reads.Post goal.the-invariant-loop-k goal.the-decreases-loop-k

pub loop-k-init : goal.loop-k-init
loop-k-init c = keeping_start (bit_at c.args.set) c.args.rules.now c.args.clauses

-- in a turn: p is the predicate of head k
is : (c : After-predicate-p) → c.predicate-p.result ≡ (clause_at c.loop-k.rules c.loop-k.k).head.pred
is c = c.predicate-p.ensures ∙ ap (λ (h : Head). h.pred) (c.head.ensures ∙ ap (λ (k : Clause). k.head) c.at.ensures)

pub loop-k-preserved : goal.loop-k-preserved
loop-k-preserved c =
    let l = c.loop-k.invariant in
    let q = is c.before.before in
    let has = sym c.has_member.ensures in
    elim c.if-not-has_member.branch [
      | then-not-has_member w ↦ rw (w.rules-is, w.n-is) (keeping_move l (omega arith) q (has ∙ w.if-not-has_member.true) w.move_clause.ensures)
      | else-not-has_member w ↦ rw (w.rules-is, w.n-is) (keeping_drop l (omega arith) q (has ∙ w.if-not-has_member.false))
    ]
