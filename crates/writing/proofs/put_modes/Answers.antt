-- `writing::put_modes` meets its contract. The loop goes over the predicates that have `MO`; its invariant: the `MO` of those passed are written. Assumes
-- nothing.
use mathlib.Core.Path.{◌≡◌, sym, ap, ◌∙◌}
use mathlib.Core.List.{List, [], ◌∷◌}
use Prim.Native.Nat.{ℕ}
use native.Mathlib.Omega.{arith}
use lib.ListN.{length, length-append}
use Rattle.masks.specs.Set.{members}
use Rattle.masks.proofs.Laws.Loops.{passed_start, passed_all, passed_next, passed_fewer, passed_small}
use Rattle.book.specs.Encode.{enc_mode}
use Rattle.writing.proofs.Laws.Wrote.{wrote_as}
use Rattle.writing.proofs.Laws.Chunks.{writing_start, writing_length, writing_room, writing_next, writing_end}
use Rattle.writing.proofs.Laws.Runs.{mode_bytes_at, member_here, modes_chunks, mode_few}
use Rattle.writing.proofs.put_modes.Goals as goal

pub loop-p-init : goal.loop-p-init
loop-p-init c = record {
  going = rw (c.into_iter-p-iterator.ensures.into_iter_gives, c.of-p-items.ensures) (passed_start c.args.given);
  wrote = writing_start (modes_chunks c.args.modes.now c.args.given c.requires.0) c.requires.1;
}

pub masks_at-requires : goal.masks_at-requires
masks_at-requires c = passed_small c.loop-p.invariant.going c.in-Some.ensures.steps

pub put_mode-q-requires : goal.put_mode-q-requires
put_mode-q-requires c =
    let i = c.loop-p.invariant in
    let room = writing_room i.wrote (passed_fewer i.going c.in-Some.ensures.steps) in (
      mode_few c.args.modes.now c.in-Some.p c.masks_at.ensures,
      rw c.masks_at.ensures (rw (member_here i.going c.in-Some.ensures.steps) at room),
    )

pub loop-p-preserved : goal.loop-p-preserved
loop-p-preserved c =
    let i = c.loop-p.invariant in
    let here = ap (mode_bytes_at c.args.modes.now) (member_here i.going c.in-Some.ensures.steps) in
    let own = ap (λ (m : List ℕ). enc_mode (record { pred = c.in-Some.p; masks = m })) c.masks_at.ensures in
    record {
      going = passed_next i.going c.in-Some.ensures.steps;
      wrote =
          rw (length-append c.loop-p.yielded (c.in-Some.p ∷ []))
          (writing_next i.wrote (passed_fewer i.going c.in-Some.ensures.steps) (wrote_as (own ∙ sym here) c.put_mode-q.ensures));
    }

pub shape_of-out : goal.shape_of-out
shape_of-out c = writing_length c.loop-p.invariant.wrote

pub returns : goal.returns
returns c =
    let i = c.loop-p.invariant in
    let all : length c.loop-p.yielded ≡ length (members c.args.given) = ap length (passed_all i.going c.in-None.ensures.steps.0) in
    writing_end i.wrote (omega arith)
