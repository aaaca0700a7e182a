-- `book::clause::Clause::subgoal` meets its contract. It is the word that stands j words behind the head's. Assumes nothing.
use mathlib.Core.Path.{sym, ap, ◌∙◌}
use native.Mathlib.Omega.{arith}
use Prim.Native.Nat.{◌<◌}
use lib.ListN.{length, get_or}
use Rattle.book.specs.Book as book
use Rattle.book.specs.Book.{no_call}
use Rattle.book.specs.Held.{clause_at}
use Rattle.book.proofs.Laws.Held.{clause_at_few, clause_at_body}
use Rattle.book.proofs.clause.Clause.subgoal.Goals as goal
use Rattle.book.proofs.clause.Clause.subgoal.Goals.{After-self}

module _ (c : After-self) where
  within : c.args.j < length (clause_at c.self.inside.rules.now c.self.inside.k).body
  within = let e = ap (λ (k : book.Clause). length k.body) c.self.view_is in omega (arith, e, c.requires)

  small : c.args.j < 8
  small = let n = clause_at_few c.self.inside.rules.now c.self.inside.k in let w = within in omega arith

pub overflow_add-result-2 : goal.overflow_add-result-2
overflow_add-result-2 c = let s = small c in omega (arith, c.self.invariant)

pub offset_bounds-self-inside-self-inside : goal.offset_bounds-self-inside-self-inside
offset_bounds-self-inside-self-inside c = let s = small c in omega (arith, c.self.invariant)

pub bounds-self-inside-self-inside : goal.bounds-self-inside-self-inside
bounds-self-inside-self-inside c = let s = small c in omega (arith, c.self.invariant)

pub returns : goal.returns
returns c =
    let r = c.self.inside.rules.now in
    let k = c.self.inside.k in
    let e = ap (λ (k : book.Clause). length k.body) c.self.view_is in
    sym (clause_at_body r k no_call c.args.j (omega (arith, e, c.requires))) ∙ ap (λ (k : book.Clause). get_or k.body c.args.j no_call) c.self.view_is
