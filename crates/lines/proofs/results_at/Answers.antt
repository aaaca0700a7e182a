-- `lines::results_at` meets its contract. The first window that is ` = ` stands where the inputs end. Assumes nothing.
use borrow.Author.Rules.{rules}
use borrow.Author.Tests.{tests}
use mathlib.Core.Path.{ap, ◌∙◌}
use lib.ListN.{length}
use Rattle.std.proofs.lemmas.Iterator.Search.{position_from_yields_List}
use Rattle.std.specs.Option.{unwrap_or}
use Rattle.lines.proofs.Laws.Line.{is_mark, windows_threes, results_found}
use Rattle.lines.proofs.results_at.Goals as goal

pub returns-clause-value : goal.returns-clause-value
returns-clause-value c =
    let line = c.args.line.now in
    let e =
    position_from_yields_List is_mark _ _ c.position.result c.position.ensures.ran (windows_threes line c.windows.ensures.rest c.windows.ensures.size) (λ x b q k. search (rules, tests)) in
    c.unwrap_or.ensures ∙ ap (λ r. unwrap_or r (length line)) e ∙ results_found line
