-- `writing::length::modes_length` meets its contract. The loop goes over the predicates that have `MO`; its invariant: the total is the length of the `MO`
-- of those passed. Assumes nothing.
use mathlib.Core.Path.{◌≡◌, ap}
use mathlib.Core.List.{[], ◌∷◌}
use Prim.Native.Nat.{ℕ}
use native.Mathlib.Omega.{arith}
use lib.ListN.{length, length-append}
use Rattle.masks.specs.Set.{members}
use Rattle.masks.proofs.Laws.Sets.{members_most}
use Rattle.masks.proofs.Laws.Loops.{passed_start, passed_all, passed_next, passed_fewer, passed_small}
use Rattle.writing.proofs.Laws.Chunks.{measuring_start, measuring_next, measuring_end}
use Rattle.writing.proofs.Laws.Runs.{mode_bytes_at, member_here, modes_chunks, mode_few}
use Rattle.writing.proofs.length.modes_length.Goals as goal

pub loop-p-init : goal.loop-p-init
loop-p-init c = record {
  going = rw (c.into_iter-p-iterator.ensures.into_iter_gives, c.of-p-items.ensures) (passed_start c.args.given);
  measured = measuring_start (modes_chunks c.args.modes.now c.args.given c.requires);
}

pub masks_at-masks-requires : goal.masks_at-masks-requires
masks_at-masks-requires c = passed_small c.loop-p.invariant.going c.in-Some.ensures.steps

pub overflow_add-total-in-loop-p : goal.overflow_add-total-in-loop-p
overflow_add-total-in-loop-p c =
    let i = c.loop-p.invariant in
    let f = mode_few c.args.modes.now c.in-Some.p c.masks_at-masks.ensures in
    let h = passed_fewer i.going c.in-Some.ensures.steps in
    let m = members_most c.args.given in
    let s = i.measured.small in
    omega arith

pub loop-p-preserved : goal.loop-p-preserved
loop-p-preserved c =
    let i = c.loop-p.invariant in
    let e = ap length c.masks_at-masks.ensures in
    let f = mode_few c.args.modes.now c.in-Some.p c.masks_at-masks.ensures in
    let here = ap (λ (k : ℕ). length (mode_bytes_at c.args.modes.now k)) (member_here i.going c.in-Some.ensures.steps) in
    record {
      going = passed_next i.going c.in-Some.ensures.steps;
      measured =
          rw (length-append c.loop-p.yielded (c.in-Some.p ∷ []))
          (measuring_next i.measured (passed_fewer i.going c.in-Some.ensures.steps) (omega arith) (omega arith));
    }

pub returns : goal.returns
returns c =
    let i = c.loop-p.invariant in
    let all : length c.loop-p.yielded ≡ length (members c.args.given) = ap length (passed_all i.going c.in-None.ensures.steps.0) in
    let m = members_most c.args.given in
    let s = i.measured.small in
    record { value = measuring_end i.measured (omega arith); upper_bound = omega arith }
