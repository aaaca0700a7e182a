-- `lines::unhex` meets its contract. The loop's invariant: what is written, and the bytes of the rest after it, are the word's bytes. Assumes nothing.
use mathlib.Core.Path.{◌≡◌, refl}
use Prim.Native.Nat.{◌*◌}
use native.Mathlib.Omega.{arith}
use Rattle.lines.proofs.Laws.Hex.{bytes_end}
use Rattle.lines.proofs.unhex.Goals as goal

pub returns-clause-to_after : goal.returns-clause-to_after
returns-clause-to_after c =
    let loop = c.loop-i in
    let e : loop.i ≡ c.min-n.result = omega arith in
    rw (← e) (bytes_end c.args.word.now loop.to loop.i (2 * loop.i) loop.invariant (omega arith) _ refl (omega arith))
