-- `orders::main` meets its contract. No sheet is longer than the text, so the value of the reply is its length. Assumes nothing.
use Prim.Native.Nat.{ℕ}
use mathlib.Core.List.{List}
use mathlib.Core.Path.{◌≡◌}
use native.Mathlib.Omega.{arith}
use lib.ListN.{length, length-replicate}
use Rattle.masks.specs.Outcome.{Answers}
use Rattle.masks.specs.declared.reply.Reply.{Reply}
use Rattle.book.specs.Limits.{longest_sheet}
use Rattle.printing.specs.Sheet.{printing}
use Rattle.masks.proofs.Laws.Outcome.{answers_zero, Told, result_told}
use Rattle.printing.proofs.Laws.Length.{sheet_length}
use Rattle.orders.proofs.main.Goals as goal

-- the sheet stands at the front of the text
there : (s : List ℕ) {text after : List ℕ} {r : Reply} → length text ≡ longest_sheet → Answers (printing s) text r after
    → Told 0 longest_sheet (printing s) r after
there s z a = let l = sheet_length s in result_told 0 longest_sheet (printing s) (omega arith, l) a z (answers_zero a (omega arith))

pub slice_bounds-text-end : goal.slice_bounds-text-end
slice_bounds-text-end c = (there _ (length-replicate {A = ℕ} longest_sheet 0) c.sheet-r.ensures).fits

pub slice_bounds-write_output-end : goal.slice_bounds-write_output-end
slice_bounds-write_output-end c = (there _ (length-replicate {A = ℕ} longest_sheet 0) c.sheet-r.ensures).size
