-- `tables::put_row` meets its contract. The mark is written, then the constraint, and then the count. Assumes nothing.
use mathlib.Core.List.{List, ◌∷◌}
use Prim.Native.Nat.{ℕ}
use lib.ListN.{length}
use Rattle.masks.specs.Set.{members}
use Rattle.writing.proofs.Laws.Wrote.{wrote_append}
use Rattle.tables.proofs.put_row.Goals as goal

-- behind the mark: the predicate, the number of masks and the masks, and then the count
abbrev constraint : (p masks : ℕ) → List ℕ
constraint p masks = p ∷ length (members masks) ∷ members masks

pub returns : goal.returns
returns c =
    wrote_append c.put_mark-q.ensures (wrote_append c.put_constraint-r.ensures c.put_byte.ensures)
