-- `masks::patterns::admitted` meets its contract: lane a of the columns has pattern a. Assumes nothing.
use mathlib.Core.Path.{◌≡◌}
use Rattle.masks.specs.Constraint.{admits}
use Rattle.masks.specs.Set.{bit_at, members}
use Rattle.masks.proofs.Laws.Sets.{in_columns}
use Rattle.masks.proofs.patterns.admitted.Goals as goal

pub returns : goal.returns
returns c = in_columns (λ a p. bit_at _ a ≡ admits (members _) p) c.fit_lanes.ensures
