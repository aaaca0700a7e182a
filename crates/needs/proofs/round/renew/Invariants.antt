-- `needs::round::renew` meets its contract. The loop goes over the marked predicates; its invariant: those passed have their masks. Assumes nothing.
use mathlib.Core.Path.{◌≡◌}
use Rattle.masks.specs.Set.{members}
use Rattle.masks.proofs.Laws.Loops.{Over}
use Rattle.needs.proofs.Laws.AtRound.{Renewing}
use Rattle.needs.proofs.round.renew.Given as goal

abbrev pub invariant-loop-p : goal.invariant-loop-p
invariant-loop-p l = record {
  renewing : Over (Renewing l.initial.table.masks l.initial.table.admits l.changed l.table.masks) l.changed (members l.p-iterator.left);
  admits : l.table.admits ≡ l.initial.table.admits;
}
