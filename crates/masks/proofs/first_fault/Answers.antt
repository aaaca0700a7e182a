-- `masks::first_fault` meets its contract. Each return by the tests that led there. Assumes nothing.
use mathlib.Core.Path.{refl, sym, ap, ◌∙◌, subst}
use Prim.Native.Nat.{ℕ}
use native.Mathlib.Omega.{arith}
use Rattle.std.proofs.lemmas.Result.{err_from_is_err_and}
use Rattle.masks.specs.Joining.{list_fault}
use Rattle.masks.specs.Unjoined.{told, Finds}
use Rattle.masks.proofs.Laws.Joining.{some_number, fault_arity, fault_first, fault_second}
use Rattle.masks.proofs.first_fault.Goals as goal

pub returns-then-arity-gt-MAX_ARITY : goal.returns-then-arity-gt-MAX_ARITY
returns-then-arity-gt-MAX_ARITY c =
    let s = c.args in
    ap told (fault_arity s.arity s.first.now s.second.now (omega arith))

pub returns-in_err-list_fault : goal.returns-in_err-list_fault
returns-in_err-list_fault c =
    let s = c.args in
    let p = err_from_is_err_and c.from_residual.result c.from_residual.ensures.1 in
    let h = c.in_err-list_fault.ensures ∙ ap (λ (l : ℕ). told (list_fault l s.first.now)) c.patterns-limit.ensures in
    rw (p.1, p.2)
    (h ∙ ap told (fault_first s.arity s.first.now s.second.now (omega arith) _ refl (some_number c.in_err-list_fault.field-0.0 _ h)))

pub returns : goal.returns
returns c =
    let s = c.args in
    let none = ap (λ (l : ℕ). list_fault l s.first.now) (sym c.patterns-limit.ensures) ∙ c.in_ok-list_fault.ensures in
    subst (λ (f : ℕ). Finds c.list_fault-2.result f)
    (ap (λ (l : ℕ). list_fault l s.second.now) c.patterns-limit.ensures ∙ fault_second s.arity s.first.now s.second.now (omega arith) none)
    c.list_fault-2.ensures
