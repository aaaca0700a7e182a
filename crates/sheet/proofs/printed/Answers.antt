-- `sheet::printed` meets its contract. What is printed of the bytes, or of the first 6,987, fills the front of the text, which is written
-- where there is room. Assumes nothing.
use mathlib.Core.Path.{◌≡◌, sym, ap, ◌∙◌}
use mathlib.Core.List.{List}
use Prim.Native.Nat.{ℕ, suc, ◌≤◌, min}
use native.Mathlib.Omega.{arith}
use lib.ListN.{length, take, replicate, length-replicate, length-take}
use lib.Seq.{length-take-le, sets}
use Rattle.std.proofs.lemmas.Result.{err_from_is_err_and}
use Rattle.book.specs.Format.{judge}
use Rattle.writing.specs.Wrote.{Wrote}
use Rattle.printing.specs.Sheet.{judged_sheet, sheet}
use Rattle.masks.proofs.Laws.Outcome.{answers_short, answers_done}
use Rattle.book.specs.Limits.{longest, longest_sheet}
use Rattle.writing.proofs.Laws.Wrote.{wrote_as, wrote_length, wrote_front, Front, front}
use Rattle.printing.proofs.Laws.Length.{sheet_length}
use Rattle.sheet.proofs.printed.Goals as goal

module _ (s : List ℕ) {n : ℕ} (e : n ≡ min (length s) (suc longest)) where
  -- the bytes that are judged
  judges : Front (suc longest) n s
  judges = front (suc longest) s (omega (arith, length-take (suc longest) s))

  module _ {new : List ℕ} {k : ℕ} (w : Wrote (replicate longest_sheet 0) new 0 k (judged_sheet (judge (take n s)))) where
    -- what is printed of them is there
    there : (k ≤ length new) × (take k new ≡ sheet s)
    unfolding sheet
    there =
        let v = wrote_as (ap (λ (l : List ℕ). judged_sheet (judge l)) judges.is) w in
        let l = sheet_length s in
        let z = length-replicate {A = ℕ} longest_sheet 0 in
        (omega (arith, v.ends, wrote_length v), wrote_front v (omega arith))

    size : k ≡ length (sheet s)
    size = sym (length-take-le _ _ there.0) ∙ ap length there.1

pub slice_bounds-text-end : goal.slice_bounds-text-end
slice_bounds-text-end c = (there c.args.book.now (omega arith) c.put_sheet-k.ensures).0

pub slice_bounds-put_bytes-end : goal.slice_bounds-put_bytes-end
slice_bounds-put_bytes-end c = sym (length-take-le _ _ (there c.args.book.now (omega arith) c.put_sheet-k.ensures).0)

pub put_bytes-requires : goal.put_bytes-requires
put_bytes-requires c =
    let n = length-take-le c.put_sheet-k.result c.put_sheet-k.new.text (there c.args.book.now (omega arith) c.put_sheet-k.ensures).0 in
    let h = c.in_ok-r.ensures.done.1 in
    omega arith

pub returns-in_err-r : goal.returns-in_err-r
returns-in_err-r c =
    let p = err_from_is_err_and c.from_residual.result c.from_residual.ensures.1 in
    let h = c.in_err-r.ensures.short in
    rw (p.1, p.2, h.0) (answers_short (size c.args.book.now (omega arith) c.put_sheet-k.ensures) h.1)

pub returns : goal.returns
returns c =
    let s = c.args.book.now in
    let h = c.in_ok-r.ensures.done in
    answers_done (size s (omega arith) c.put_sheet-k.ensures) h.1 h.0
    (c.put_bytes.ensures.is ∙ ap (sets c.args.out.now 0) (there s (omega arith) c.put_sheet-k.ensures).1)
