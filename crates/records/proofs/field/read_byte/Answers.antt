-- `records::field::read_byte` meets its contract. The byte is the first of those left. Assumes nothing.
use native.Mathlib.Omega.{arith}
use Rattle.records.proofs.field.read_byte.Goals as goal

pub returns-clause-byte : goal.returns-clause-byte
returns-clause-byte c = let t = rw c.in-Some.ensures.cases.0 at c.type_inv.s 0 in omega arith
