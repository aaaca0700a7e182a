-- `sheet::put_sheet` meets its contract. A refusal of the analysis is the one line; else the lines of its image, its rounds and the orders follow one
-- another, and there is room for all of them, since no sheet is longer than the text. Assumes nothing.
use mathlib.Core.Path.{◌≡◌, sym, ap, ◌∙◌, subst}
use mathlib.Core.List.{List, ◌++◌}
use Prim.Native.Nat.{ℕ, ◌^◌, ◌<◌}
use native.Mathlib.Omega.{arith}
use lib.ListN.{length, take, replicate, length-replicate}
use Rattle.masks.specs.declared.reply.Reply.{Reply}
use Rattle.masks.specs.Outcome.{Outcome, Answers}
use Rattle.book.specs.Format.{judge}
use Rattle.writing.specs.Wrote.{Room}
use Rattle.tables.specs.Image.{analysis}
use Rattle.printing.specs.Sheet.{field, line, none·, refusal_line, judged_sheet}
use Rattle.sheet.specs.Records.{lines_in, judged_orders}
use Rattle.masks.proofs.Laws.Outcome.{Told, refusal_told, result_told}
use Rattle.book.specs.Limits.{longest_table, longest_sheet}
use Rattle.writing.proofs.Laws.Wrote.{wrote_as, wrote_append, room_first, room_second}
use Rattle.printing.proofs.Laws.Length.{judged_length}
use Rattle.sheet.proofs.Laws.Printed.{analysis_sized, table_lines, analysis_lines}
use Rattle.sheet.proofs.put_sheet.Goals as goal

-- the analysis of the bytes s, in a room of its own
module _ (s : List ℕ) {new : List ℕ} {r : Reply} (e : Answers (analysis s) (replicate longest_table 0) r new) where
  -- ---- was refused

  refused : (r.number ≡ 0 → ⊥) → refusal_line r.number r.value ≡ judged_sheet (judge s)
  refused h =
      ap (λ (o : Outcome). table_lines o (judged_orders (judge s)))
      (sym (refusal_told 0 longest_table (analysis s) (analysis_sized s) e (length-replicate {A = ℕ} longest_table 0) h))
      ∙ analysis_lines s

  -- ---- or it has a result, whose image has the lines

  module _ (h : r.number ≡ 0) where
    found : Told 0 longest_table (analysis s) r new
    found = result_told 0 longest_table (analysis s) (analysis_sized s) e (length-replicate {A = ℕ} longest_table 0) h

    abbrev of_needs : List ℕ
    of_needs = lines_in 67 1 none· 1 (length (take r.value new)) (take r.value new)

    -- what follows them
    abbrev of_rounds : List ℕ
    of_rounds = line 82 (field r.rounds)

    abbrev orders : List ℕ
    orders = judged_orders (judge s)

    printed : of_needs ++ (of_rounds ++ orders) ≡ judged_sheet (judge s)
    printed = ap (λ (o : Outcome). table_lines o orders) (sym found.is) ∙ analysis_lines s

    -- the text has room for it
    room : (text : List ℕ) → length text ≡ longest_sheet → length s < 10 ^ 20 → Room text 0 (of_needs ++ (of_rounds ++ orders))
    room text size l = let m = judged_length s l in subst (Room text 0) (sym printed) (omega (arith, size))

pub put_refusal-requires : goal.put_refusal-requires
put_refusal-requires c =
    let s = c.args.book.now in
    let m = judged_length s (omega arith) in
    rw (refused s c.analyse-r.ensures c.if-r-ne0.true) (omega (arith, c.told-text))

pub returns-then-r-ne0 : goal.returns-then-r-ne0
returns-then-r-ne0 c = wrote_as (refused c.args.book.now c.analyse-r.ensures c.if-r-ne0.true) c.put_refusal.ensures

pub slice_bounds-table-end : goal.slice_bounds-table-end
slice_bounds-table-end c = (found c.args.book.now c.analyse-r.ensures c.if-r-ne0.false).fits

pub slice_bounds-put_lines-end-3 : goal.slice_bounds-put_lines-end-3
slice_bounds-put_lines-end-3 c = (found c.args.book.now c.analyse-r.ensures c.if-r-ne0.false).size

pub put_lines-p-requires : goal.put_lines-p-requires
put_lines-p-requires c =
    let s = c.args.book.now in
    let e = c.analyse-r.ensures in
    let h = c.if-r-ne0.false in
    room_first _ 0 (of_needs s e h) (of_rounds s e h ++ orders s e h) (room s e h c.args.text.now c.told-text (omega arith))

pub put_rounds-q-requires : goal.put_rounds-q-requires
put_rounds-q-requires c =
    let s = c.args.book.now in
    let e = c.analyse-r.ensures in
    let h = c.if-r-ne0.false in
    let w = c.put_lines-p in
    room_first w.new.text w.result (of_rounds s e h) (orders s e h)
    (room_second (of_rounds s e h ++ orders s e h) w.ensures (room s e h c.args.text.now c.told-text (omega arith)))

pub put_orders-requires : goal.put_orders-requires
put_orders-requires c =
    let s = c.args.book.now in
    let e = c.analyse-r.ensures in
    let h = c.if-r-ne0.false in
    room_second (orders s e h) c.put_rounds-q.ensures
    (room_second (of_rounds s e h ++ orders s e h) c.put_lines-p.ensures (room s e h c.args.text.now c.told-text (omega arith)))

pub returns : goal.returns
returns c =
    wrote_as (printed c.args.book.now c.analyse-r.ensures c.if-r-ne0.false)
    (wrote_append c.put_lines-p.ensures (wrote_append c.put_rounds-q.ensures c.put_orders.ensures))
