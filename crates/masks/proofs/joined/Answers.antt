-- `masks::joined` meets its contract. A fault makes the outcome a refusal; without one both lists are of masks, and the outcome is what they
-- combine to, which is written where there is room. Assumes nothing.
use mathlib.Core.Path.{◌≡◌, refl, ap, ◌∙◌}
use native.Mathlib.Omega.{arith}
use lib.ListN.{length}
use lib.Seq.{sets}
use Rattle.std.proofs.lemmas.Result.{err_from_is_err_and}
use Rattle.masks.specs.Set.{members}
use Rattle.masks.specs.declared.reply.Reply.{Reply}
use Rattle.masks.proofs.Laws.Joining.{some_number, joining_fault, joining_done, fault_free}
use Rattle.masks.proofs.Laws.Outcome.{answers_refused, answers_short, answers_done}
use Rattle.masks.proofs.joined.Goals as goal

pub returns-in_err-first_fault : goal.returns-in_err-first_fault
returns-in_err-first_fault c =
    let p = err_from_is_err_and c.from_residual.result c.from_residual.ensures.1 in
    let s = c.args in
    let h = c.in_err-first_fault.ensures in
    rw (p.1, p.2, joining_fault s.arity s.first.now s.second.now s.way _ refl (some_number c.in_err-first_fault.field-0.0 _ h)) (answers_refused _ 0 s.out.now h)

pub invariant_of-combine : goal.invariant_of-combine
invariant_of-combine c =
    let s = c.args in
    record { in_range = (fault_free s.arity s.first.now s.second.now c.in_ok-first_fault.ensures).0 }

pub invariant_of-combine-2 : goal.invariant_of-combine-2
invariant_of-combine-2 c =
    let s = c.args in
    record { in_range = (fault_free s.arity s.first.now s.second.now c.in_ok-first_fault.ensures).1 }

pub put_masks-requires : goal.put_masks-requires
put_masks-requires c =
    let n : c.count.result ≡ length (members c.combine-c.result) = c.count.ensures.value in
    omega (arith, ap (λ (r : Reply). r.value) c.in_ok-r.ensures.done.0, c.in_ok-r.ensures.done.1)

pub returns-in_err-r : goal.returns-in_err-r
returns-in_err-r c =
    let p = err_from_is_err_and c.from_residual-in_err-r.result c.from_residual-in_err-r.ensures.1 in
    let s = c.args in
    let h = c.in_err-r.ensures.short in
    rw (p.1, p.2, joining_done s.arity s.first.now s.second.now s.way c.in_ok-first_fault.ensures, h.0)
    (answers_short (c.count.ensures.value ∙ ap length c.combine-c.ensures) h.1)

pub returns : goal.returns
returns c =
    let s = c.args in
    let m = c.combine-c.ensures in
    rw (joining_done s.arity s.first.now s.second.now s.way c.in_ok-first_fault.ensures)
    (answers_done (c.count.ensures.value ∙ ap length m) c.in_ok-r.ensures.done.1 c.in_ok-r.ensures.done.0 (c.put_masks.ensures.out_after ∙ ap (sets s.out.now 0) m))
