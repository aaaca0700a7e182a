-- `sheet::put_orders` meets its contract. A refusal of the planning is the one line; else the first record of the plan's image is the query's, and those
-- behind it are the orders'. Assumes nothing.
use mathlib.Core.Path.{◌≡◌, sym, ap, ◌∙◌, subst}
use mathlib.Core.List.{List, [], ◌++◌}
use Prim.Native.Nat.{ℕ, ◌+◌, ◌-◌, ◌≤◌}
use native.Mathlib.Omega.{arith}
use lib.ListN.{length, take, drop, replicate, length-replicate}
use borrow.Author.Rules.{rules}
use Rattle.masks.specs.declared.reply.Reply.{Reply}
use Rattle.masks.specs.Outcome.{Answers}
use Rattle.book.specs.Format.{judge}
use Rattle.writing.specs.Wrote.{Room}
use Rattle.choices.specs.Plan.{planning}
use Rattle.printing.specs.Sheet.{refusal_line}
use Rattle.sheet.specs.Records.{listed_count, line_in, lines_in, judged_orders}
use Rattle.masks.proofs.Laws.Outcome.{Told, refusal_told, result_told}
use Rattle.book.specs.Limits.{longest_plan}
use Rattle.writing.proofs.Laws.Wrote.{wrote_as, wrote_append, room_first, room_second}
use Rattle.sheet.proofs.Laws.Lines.{listed_most, from}
use Rattle.sheet.proofs.Laws.Printed.{planning_sized, orders_in, plan_lines, planning_lines}
use Rattle.sheet.proofs.put_orders.Goals as goal

-- the planning of the bytes s, in a room of its own
module _ (s : List ℕ) {new : List ℕ} {r : Reply} (e : Answers (planning s) (replicate longest_plan 0) r new) where
  -- ---- was refused

  refused : (r.number ≡ 0 → ⊥) → refusal_line r.number r.value ≡ judged_orders (judge s)
  refused h = ap plan_lines (sym (refusal_told 3 longest_plan (planning s) (planning_sized s) e (length-replicate {A = ℕ} longest_plan 0) h)) ∙ planning_lines s

  -- ---- or it has a result, whose image has the lines

  module _ (h : r.number ≡ 0) where
    found : Told 3 longest_plan (planning s) r new
    found = result_told 3 longest_plan (planning s) (planning_sized s) e (length-replicate {A = ℕ} longest_plan 0) h

    abbrev image : List ℕ
    image = take r.value new

    abbrev of_query : List ℕ
    of_query = line_in 81 0 [] 0 image

    abbrev of_orders : List ℕ
    of_orders = lines_in 79 2 [] 0 (length (orders_in image)) (orders_in image)

    printed : of_query ++ of_orders ≡ judged_orders (judge s)
    printed = ap plan_lines (sym found.is) ∙ planning_lines s

    room : (text : List ℕ) (at : ℕ) → Room text at (judged_orders (judge s)) → Room text at (of_query ++ of_orders)
    room text at q = subst (Room text at) (sym printed) q

    module _ {n : ℕ} (f : n ≡ listed_count 0 0 image) where
      -- the records behind the query's are in it
      behind : 3 + n ≤ length image
      behind = rw f (listed_most 0 0 image found.long)

      -- and they are what is lent
      lent : take (length image - (3 + n)) (drop (3 + n) image) ≡ orders_in image
      lent = from (3 + n) image ∙ ap (λ (n : ℕ). drop (3 + n) image) f

pub put_refusal-requires : goal.put_refusal-requires
put_refusal-requires c = rw (refused c.args.book.now c.plan-r.ensures c.if-r-ne0.true) c.requires

pub returns-then-r-ne0 : goal.returns-then-r-ne0
returns-then-r-ne0 c = wrote_as (refused c.args.book.now c.plan-r.ensures c.if-r-ne0.true) c.put_refusal.ensures

pub slice_bounds-image-end : goal.slice_bounds-image-end
slice_bounds-image-end c = (found c.args.book.now c.plan-r.ensures c.if-r-ne0.false).fits

pub slice_bounds-orders-end : goal.slice_bounds-orders-end
slice_bounds-orders-end c = (found c.args.book.now c.plan-r.ensures c.if-r-ne0.false).size

pub put_line-p-requires : goal.put_line-p-requires
put_line-p-requires c =
    let s = c.args.book.now in
    let e = c.plan-r.ensures in
    let h = c.if-r-ne0.false in
    let a = c.args in
    ((found s e h).long, room_first a.text.now a.at (of_query s e h) (of_orders s e h) (room s e h a.text.now a.at c.requires))

pub listed-rows-requires : goal.listed-rows-requires
listed-rows-requires c = (found c.args.book.now c.plan-r.ensures c.if-r-ne0.false).long

pub overflow_add-rows : goal.overflow_add-rows
overflow_add-rows c =
    let f = found c.args.book.now c.plan-r.ensures c.if-r-ne0.false in
    omega (arith, behind c.args.book.now c.plan-r.ensures c.if-r-ne0.false c.listed-rows.ensures, f.size, f.most)

pub slice_bounds-put_lines-count : goal.slice_bounds-put_lines-count
slice_bounds-put_lines-count c = behind c.args.book.now c.plan-r.ensures c.if-r-ne0.false c.listed-rows.ensures

pub slice_bounds-put_lines-start : goal.slice_bounds-put_lines-start
slice_bounds-put_lines-start c = search (rules, behind c.args.book.now c.plan-r.ensures c.if-r-ne0.false c.listed-rows.ensures)

pub put_lines-requires : goal.put_lines-requires
put_lines-requires c =
    let s = c.args.book.now in
    let e = c.plan-r.ensures in
    let h = c.if-r-ne0.false in
    rw (lent s e h c.listed-rows.ensures) (room_second (of_orders s e h) c.put_line-p.ensures (room s e h c.args.text.now c.args.at c.requires))

pub returns : goal.returns
returns c =
    let s = c.args.book.now in
    let e = c.plan-r.ensures in
    let h = c.if-r-ne0.false in
    wrote_as (ap (λ (l : List ℕ). of_query s e h ++ lines_in 79 2 [] 0 (length l) l) (lent s e h c.listed-rows.ensures) ∙ printed s e h)
    (wrote_append c.put_line-p.ensures c.put_lines.ensures)
