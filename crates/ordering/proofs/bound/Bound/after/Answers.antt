-- `ordering::bound::Bound::after` meets its contract. A negated subgoal binds nothing. The bytes behind the last argument are literals, which bind nothing; bit 30,
-- which a wildcard sets, is cleared again. Assumes nothing.
use mathlib.Core.Path.{refl, sym, ◌∙◌}
use native.Mathlib.Omega.{arith}
use Rattle.masks.specs.Set.{bit_at}
use Rattle.book.specs.Held.{call_in}
use Rattle.ordering.proofs.Laws.Adorn.{after_positive, after_negated}
use Rattle.ordering.proofs.Laws.Bound.{literals_keep, cleared_bound, cleared_marked, binds_three, binds_six}
use Rattle.ordering.proofs.bound.Bound.after.Goals.{then-n-le3, else-n-le3}
use Rattle.ordering.proofs.bound.Bound.after.Goals as goal

pub returns-then-is_negated : goal.returns-then-is_negated
returns-then-is_negated c =
    let s = c.args in
    c.self.view_is ∙ sym (after_negated s.self (call_in s.s.word) (sym c.is_negated.ensures ∙ c.if-is_negated.true))

pub invariant_of-result-2 : goal.invariant_of-result-2
unfolding bit_at
invariant_of-result-2 c =
    let low = literals_keep _ _ c.bind_three-low.ensures c.self.invariant.literals in
    cleared_marked _ refl c.if-n-le3.all
    (elim c.if-n-le3.branch [
      | then-n-le3 u ↦ rw u.all-is low
      | else-n-le3 u ↦ rw u.all-is (literals_keep _ _ u.bind_three-all.ensures low)
    ])

pub returns : goal.returns
unfolding bit_at
returns c =
    let w = c.self.inside.word in
    let s = c.args.s.word in
    let low = c.bind_three-low.ensures in
    rw (after_positive c.args.self (call_in s) (sym c.is_negated.ensures ∙ c.if-is_negated.false), ← c.self.view_is)
    (cleared_bound _ refl c.if-n-le3.all
    ∙ (elim c.if-n-le3.branch [
      | then-n-le3 u ↦ binds_three w s c.requires (u.all-is ∙ low) (omega arith)
      | else-n-le3 u ↦ binds_six w s c.requires low (u.all-is ∙ u.bind_three-all.ensures)
    ]))
