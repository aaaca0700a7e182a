-- `book::mode::masks_at` meets its contract. The part lent is what stands behind the number of masks, as far as that says. Assumes nothing.
use Prim.Native.Nat.{◌*◌}
use native.Mathlib.Omega.{arith}
use Rattle.masks.specs.Limits.{max_masks}
use Rattle.book.specs.Held.{mode_size}
use Rattle.book.proofs.Laws.Held.{masks_in_part}
use Rattle.book.proofs.mode.masks_at.Goals as goal

pub overflow_mul-at : goal.overflow_mul-at
overflow_mul-at c = omega arith

pub overflow_add-start : goal.overflow_add-start
overflow_add-start c = omega arith

pub overflow_add-at : goal.overflow_add-at
overflow_add-at c = omega arith

pub bounds-bytes-at : goal.bounds-bytes-at
bounds-bytes-at c = omega arith

pub overflow_add-end : goal.overflow_add-end
overflow_add-end c = let n = c.min.ensures in omega arith

pub slice_bounds-result-end : goal.slice_bounds-result-end
slice_bounds-result-end c = let n = c.min.ensures in omega arith

pub returns : goal.returns
returns c =
    let s = c.args in
    masks_in_part s.modes.now (s.p * mode_size) max_masks c.min.result (omega arith) (omega arith)
