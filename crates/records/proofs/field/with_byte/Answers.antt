-- `records::field::with_byte` meets its contract: of 56 bits or fewer and a byte above them nothing is cut off. Assumes nothing.
use native.Mathlib.Omega.{arith}
use Rattle.records.proofs.Laws.Calls.{byte_shifted, byte_above}
use Rattle.records.proofs.field.with_byte.Goals as goal

pub overflow_add-result : goal.overflow_add-result
overflow_add-result c =
    let h = byte_above c.args.w c.args.shift c.args.x c.requires.0 c.requires.1 (omega arith) in let e = byte_shifted c.args.w c.args.shift c.args.x c.requires.0 c.requires.1 (omega arith) in omega arith

pub returns : goal.returns
returns c = let e = byte_shifted c.args.w c.args.shift c.args.x c.requires.0 c.requires.1 (omega arith) in omega arith
