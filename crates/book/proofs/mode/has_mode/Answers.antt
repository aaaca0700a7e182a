-- `book::mode::has_mode` meets its contract. The byte that is read is the first of the predicate's. Assumes nothing.
use mathlib.Core.Bool.{not}
use mathlib.Core.Path.{sym, ap}
use Prim.Native.Nat.{ℕ, ◌*◌}
use native.Mathlib.Omega.{arith}
use lib.Dec.{eqb}
use Rattle.book.specs.Held.{mode_size}
use Rattle.book.proofs.Laws.Windows.{get_or_window_first}
use Rattle.book.proofs.mode.has_mode.Goals as goal

pub returns : goal.returns
returns c =
    let s = c.args in
    ap (λ (n : ℕ). not (eqb n 0)) (sym (get_or_window_first (s.p * mode_size) mode_size s.modes.now (omega arith)))
