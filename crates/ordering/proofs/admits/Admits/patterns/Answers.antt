-- `ordering::admits::Admits::patterns` meets its contract: the predicate's set has all the patterns that it admits. Assumes nothing.
use mathlib.Core.Path.{ap, sym, ◌∙◌}
use mathlib.Core.List.{List}
use Prim.Native.Nat.{ℕ}
use Rattle.masks.specs.Constraint.{admits}
use Rattle.book.specs.Limits.{max_predicates}
use Rattle.book.specs.Table.{Table, entry}
use Rattle.book.proofs.Laws.Table.{table_in_at}
use Rattle.ordering.proofs.admits.Admits.patterns.Goals as goal

pub returns : goal.returns
returns c a h =
    let p = c.args.p in
    let words = c.self.inside.words.now in
    c.self.invariant p c.requires a h
    ∙ ap (λ (s : List ℕ). admits s a) (sym (table_in_at words max_predicates p c.requires))
    ∙ ap (λ (t : Table). admits (entry t p) a) c.self.view_is
