-- `reading::read_predicates` meets its contract. Each turn keeps what is still to be read equal to the whole; the room left falls. Assumes nothing.
use mathlib.Core.Path.{◌≡◌}
use Prim.Native.Nat.{◌-◌}
use lib.ListN.{length, take}
use Rattle.book.specs.Format.{predicate}
use Rattle.book.specs.declared.mark.Phase.TheVariants.{Predicates}
use Rattle.reading.proofs.Laws.Runs.{Going}
use Rattle.reading.proofs.read_predicates.Given as goal

abbrev pub invariant-loop-left : goal.invariant-loop-left
invariant-loop-left l = (length l.arities ≡ 64) × Going Predicates predicate 64 l.s l.n l.left (take l.n l.arities)

abbrev pub decreases-loop-left : goal.decreases-loop-left
decreases-loop-left l = 64 - l.n
