-- `plan::image::put_row` meets its contract. The order found is the first good one under what the head pattern binds, and none has no places; the mark, the
-- clause, the pattern and the places are written one after the other. Assumes nothing.
use mathlib.Core.Path.{ap, ◌∙◌}
use mathlib.Core.List.{List, ◌∷◌}
use mathlib.Core.Option.{none, some}
use Prim.Native.Nat.{ℕ}
use native.Mathlib.Omega.{arith}
use lib.ListN.{length}
use Rattle.ordering.specs.Held.{places_of}
use Rattle.writing.proofs.Laws.Wrote.{wrote_append, wrote_as, room_second}
use Rattle.plan.proofs.Laws.Rows.{row_found}
use Rattle.plan.proofs.image.put_row.Goals as goal

-- n and the n places
abbrev counted : List ℕ → List ℕ
counted σ = length σ ∷ σ

pub put_places-requires-clause-room : goal.put_places-requires-clause-room
put_places-requires-clause-room c =
    let s = c.args in
    let is = c.clause-clause.ensures in
    let row =
    row_found s.book.now.rules s.table.now s.k s.a _ c.head_bound-bound.result (some (places_of c.in-Some.o)) (rw is at c.head.ensures) c.head_bound-bound.ensures
    (rw (is, c.in-Some.is) at c.first_order-order.ensures.order) in
    let e = ap length row in
    let n = ap length c.places.ensures in
    let r = c.requires.2 in
    room_second (counted c.places.result.now) (wrote_append c.put_mark-p.ensures (wrote_append c.put_byte-q.ensures c.put_byte-r.ensures)) (omega arith)

pub returns-in-Some : goal.returns-in-Some
returns-in-Some c =
    let s = c.args in
    let is = c.clause-clause.ensures in
    let row =
    row_found s.book.now.rules s.table.now s.k s.a _ c.head_bound-bound.result (some (places_of c.in-Some.o)) (rw is at c.head.ensures) c.head_bound-bound.ensures
    (rw (is, c.in-Some.is) at c.first_order-order.ensures.order) in
    wrote_as (ap (λ (σ : List ℕ). 67 ∷ 79 ∷ s.k ∷ s.a ∷ counted σ) c.places.ensures ∙ row)
    (wrote_append c.put_mark-p.ensures (wrote_append c.put_byte-q.ensures (wrote_append c.put_byte-r.ensures c.put_places.ensures)))

pub returns-in-None : goal.returns-in-None
returns-in-None c =
    let s = c.args in
    let is = c.clause-clause.ensures in
    let row =
    row_found s.book.now.rules s.table.now s.k s.a _ c.head_bound-bound.result none (rw is at c.head.ensures) c.head_bound-bound.ensures
    (rw (is, c.in-None.is) at c.first_order-order.ensures.order) in
    wrote_as row (wrote_append c.put_mark-p.ensures (wrote_append c.put_byte-q.ensures (wrote_append c.put_byte-r.ensures c.put_places-in-None.ensures)))
