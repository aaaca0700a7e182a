-- `needs::round::renew` meets its contract. The loop goes over the marked predicates; its invariant: those passed have their masks. Assumes nothing.
use mathlib.Core.Path.{refl, ap, ◌∙◌}
use mathlib.Core.List.{List}
use Prim.Native.Nat.{ℕ}
use lib.ListN.{get_or}
use Rattle.masks.specs.Limits.{all_patterns}
use Rattle.masks.specs.Constraint.{written}
use Rattle.masks.specs.Set.{bit_at}
use native.Mathlib.Omega.{arith}
use Rattle.masks.proofs.Laws.Loops.{over_start, over_end, over_small, over_member, over_here, over_next}
use Rattle.needs.proofs.Laws.AtRound.{Renewing, renewing_start, renewing_skip, renewing_next, renewing_end}
use Rattle.needs.proofs.round.renew.Goals as goal

pub loop-p-init : goal.loop-p-init
loop-p-init c =
    let s = c.args in
    rw (c.into_iter-p-iterator.ensures.into_iter_gives, c.of-p-items.ensures)
    (record {
      renewing = over_start (Renewing s.table.now.masks s.table.now.admits s.changed s.table.now.masks) s.changed (renewing_start s.table.now.masks s.table.now.admits s.changed (omega arith));
      admits = refl;
    })

pub bounds-table-q : goal.bounds-table-q
bounds-table-q c = let l = over_small _ _ _ (renewing_skip _ _ _ _) c.loop-p.invariant.renewing _ _ c.in-Some.ensures.steps in omega arith

pub bounds-table-q-in-loop-p : goal.bounds-table-q-in-loop-p
bounds-table-q-in-loop-p c = let l = over_small _ _ _ (renewing_skip _ _ _ _) c.loop-p.invariant.renewing _ _ c.in-Some.ensures.steps in omega arith

pub loop-p-preserved : goal.loop-p-preserved
loop-p-preserved c =
    let s = c.args in
    let i = c.loop-p.invariant.renewing in
    let e = c.in-Some.ensures.steps in
    let w = ap (λ (l : List ℕ). written (bit_at (get_or l c.in-Some.p 0)) all_patterns) c.loop-p.invariant.admits in
    record {
      renewing = over_next _ _ _ (renewing_skip _ _ _ _) i _ _ e (Renewing s.table.now.masks s.table.now.admits s.changed _)
          (renewing_next s.table.now.masks s.table.now.admits s.changed _ _ _
          (over_small _ _ _ (renewing_skip _ _ _ _) i _ _ e) (over_member _ _ _ (renewing_skip _ _ _ _) i _ _ e) (c.least.ensures ∙ w) (over_here _ _ _ (renewing_skip _ _ _ _) i _ _ e));
      admits = c.loop-p.invariant.admits;
    }

pub returns : goal.returns
returns c = record { masks = renewing_end _ _ _ _ (over_end _ _ _ (renewing_skip _ _ _ _) c.loop-p.invariant.renewing c.in-None.ensures.steps.0); admits = c.loop-p.invariant.admits }
