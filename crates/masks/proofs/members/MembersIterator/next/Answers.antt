-- `masks::members::Members::next` meets its contract. Assumes nothing.
use Rattle.std.proofs.Common.{rules, arith, length, ap, ℕ, List}
use Rattle.masks.proofs.Laws.Loops.{members_none, members_first}
use Rattle.masks.proofs.members.MembersIterator.next.Goals as goal

pub returns-then-self-eq0-clause-steps : goal.returns-then-self-eq0-clause-steps
returns-then-self-eq0-clause-steps c = rw c.if-self-eq0.true (members_none, members_none)

pub returns-clause-steps : goal.returns-clause-steps
returns-clause-steps c = members_first c.args.self.now.left (search rules) c.if-self-eq0.false

pub returns-clause-goes : goal.returns-clause-goes
returns-clause-goes c =
    let e = members_first c.args.self.now.left (search rules) c.if-self-eq0.false in
    let f = ap (λ (l : List ℕ). length l) e in
    record { on = λ h. (tt, tt, omega (arith, f)); keeps = tt; rests = λ h. tt }
