-- Masks and patterns. Document 01: "a mask has bit i-1 set where position i must be bound"; "A binding pattern is a mask: bit set for bound."
-- Both are numbers. Assumes nothing.
use Rattle.std.specs.Prelude.{Bool, ℕ, eqb}
use Rattle.std.specs.Int.Bits.{bit_and}

-- "A pattern fits an alternative when it has all its bits": mask m is contained in mask a
unfoldable pub within : ℕ → ℕ → Bool
within m a = eqb (bit_and m a) m
