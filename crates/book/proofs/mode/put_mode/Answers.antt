-- `book::mode::put_mode` meets its contract. What is stored is whether there is a mode, the number of its masks, and the masks. Assumes nothing.
use mathlib.Core.Path.{◌≡◌, sym, ap₂, ◌∙◌, subst}
use mathlib.Core.List.{List}
use Prim.Native.Nat.{ℕ, suc, ◌+◌, ◌-◌, ◌*◌}
use native.Mathlib.Omega.{arith}
use lib.ListN.{length, set, length-set}
use lib.Seq.{sets, length-sets}
use Rattle.masks.specs.Set.{members}
use Rattle.masks.proofs.Laws.Lists.{sets_set}
use Rattle.book.specs.Held.{mode_size, StoredMode}
use Rattle.book.proofs.Laws.Held.{stored_masks}
use Rattle.book.proofs.mode.put_mode.Goals as goal

pub overflow_mul-at : goal.overflow_mul-at
overflow_mul-at c = omega arith

pub bounds-bytes-at : goal.bounds-bytes-at
bounds-bytes-at c = omega arith

pub overflow_add-at : goal.overflow_add-at
overflow_add-at c = omega arith

pub put_masks-end-requires : goal.put_masks-end-requires
put_masks-end-requires c = simp length-set (omega (arith, c.requires))

pub overflow_sub-bytes : goal.overflow_sub-bytes
overflow_sub-bytes c = let e = c.put_masks-end.ensures.value in omega arith

pub overflow_sub-bytes-2 : goal.overflow_sub-bytes-2
overflow_sub-bytes-2 c = let e = c.put_masks-end.ensures.value in omega arith

pub overflow_cast-bytes : goal.overflow_cast-bytes
overflow_cast-bytes c = let e = c.put_masks-end.ensures.value in omega (arith, c.requires)

pub overflow_add-bytes : goal.overflow_add-bytes
overflow_add-bytes c = omega arith

pub bounds-bytes-at-2 : goal.bounds-bytes-at-2
bounds-bytes-at-2 c = rw c.put_masks-end.ensures.out_after (simp (length-sets, length-set) (omega arith))

pub returns : goal.returns
returns c =
    let s = c.args in
    let at = s.p * mode_size in
    let m = c.put_masks-end in
    let n : m.result - at - 2 ≡ length (members s.masks) = (let e = m.ensures.value in omega arith) in
    let one : at + 1 ≡ suc at = omega arith in
    let two : at + 2 ≡ suc (suc at) = omega arith in
    subst (λ (l : List ℕ). StoredMode s.modes.now l s.p (members s.masks))
    (sym
    (ap₂ (λ (l : List ℕ) (k : ℕ). set l (at + 1) k) m.ensures.out_after n
    ∙ sets_set (set s.modes.now at 1) (at + 1) (at + 2) (length (members s.masks)) (members s.masks) (omega arith)
    ∙ ap₂ (λ (i j : ℕ). sets (set (set s.modes.now at 1) i (length (members s.masks))) j (members s.masks)) one two))
    (stored_masks s.modes.now s.p (members s.masks) c.requires.1 (omega arith))
