-- `plan::image::put_plan` meets its contract. The query's part is written; the loop's invariant: behind it are the rows of the first p predicates.
-- Assumes nothing.
use mathlib.Core.List.{List}
use Prim.Native.Nat.{ℕ}
use lib.ListN.{get_or}
use Rattle.masks.specs.Lists.{joined}
use Rattle.book.specs.Table.{Table}
use Rattle.plan.specs.Lent.{pattern_rows}
use Rattle.writing.proofs.Laws.Chunks.{Writing}
use Rattle.plan.proofs.image.put_plan.Given as goal

-- the rows of predicate p
abbrev pub rows : List ℕ → Table → List ℕ → List ℕ → ℕ → List ℕ
rows rules T own words p = pattern_rows rules T (get_or own p 0) (get_or words p 0)

abbrev pub invariant-loop-p : goal.invariant-loop-p
invariant-loop-p l =
    let chunk : ℕ → List ℕ = rows l.book.rules l.table l.own l.reached in
    Writing l.book.preds (joined chunk) chunk (joined chunk l.book.preds) l.initial.out l.initial.at l.p l.out l.at
