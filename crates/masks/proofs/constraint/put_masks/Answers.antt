-- `masks::constraint::put_masks` meets its contract. The loop goes over the members of the set; its invariant: those passed stand in the output. Assumes
-- nothing.
use Rattle.std.proofs.Common.{arith, sym, [], ◌∷◌, length-append}
use Rattle.masks.proofs.Laws.Lists.{sets_append}
use Rattle.masks.proofs.Laws.Loops.{passed_next}
use Rattle.masks.proofs.constraint.put_masks.Goals as goal

pub loop-m-preserved : goal.loop-m-preserved
loop-m-preserved c =
    let i = c.loop-m.invariant in
    let l = length-append c.loop-m.yielded (c.in-Some.m ∷ []) in
    record {
      going = passed_next i.going c.in-Some.ensures.steps;
      place = omega (arith, l, i.place);
      put = rw (i.put, i.place) (sym (sets_append c.args.out.now c.args.at c.loop-m.yielded (c.in-Some.m ∷ [])));
    }
