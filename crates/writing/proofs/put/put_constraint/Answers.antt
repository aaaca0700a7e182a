-- `writing::put::put_constraint` meets its contract. The predicate is written, then the masks, and then their number before them. Assumes nothing.
use mathlib.Core.Path.{◌≡◌, ap}
use mathlib.Core.List.{◌∷◌}
use Prim.Native.Nat.{ℕ, ◌-◌}
use native.Mathlib.Omega.{arith}
use lib.ListN.{length}
use Rattle.masks.specs.Set.{members}
use Rattle.masks.proofs.Laws.Sets.{members_most}
use Rattle.writing.proofs.Laws.Wrote.{wrote_append, wrote_before, wrote_as, wrote_length}
use Rattle.writing.proofs.put.put_constraint.Goals as goal

pub put_byte-q-requires : goal.put_byte-q-requires
put_byte-q-requires c = omega arith

pub overflow_add-q : goal.overflow_add-q
overflow_add-q c =
    let w = c.put_byte-q.ensures in
    let e = wrote_length w in
    let n = w.ends in
    omega (arith, c.requires)

pub put_masks-end-requires : goal.put_masks-end-requires
put_masks-end-requires c =
    let w = c.put_byte-q.ensures in
    let e = wrote_length w in
    let n = w.ends in
    omega (arith, c.requires)

pub overflow_sub-end : goal.overflow_sub-end
overflow_sub-end c = let e = c.put_masks-end.ensures.value in omega arith

pub overflow_sub-end-2 : goal.overflow_sub-end-2
overflow_sub-end-2 c = let e = c.put_masks-end.ensures.value in omega arith

pub overflow_cast-end : goal.overflow_cast-end
overflow_cast-end c =
    let e = c.put_masks-end.ensures.value in
    let n = members_most c.args.masks in
    omega arith

pub returns : goal.returns
returns c =
    let k = c.before.before.before.before.before.before.before in
    let masks = members k.args.masks in
    let first = k.put_byte-q in
    let n : k.put_masks-end.result - first.result - 1 ≡ length masks = (let e = k.put_masks-end.ensures.value in omega arith) in
    let behind = wrote_before k.put_masks-end.ensures.out_after k.put_masks-end.ensures.value c.put_byte.ensures in
    wrote_append first.ensures (wrote_as (ap (λ (i : ℕ). i ∷ masks) n) behind)
