-- `lines::field` meets its contract. The parts at the spaces are the fields. Assumes nothing.
use borrow.Author.Rules.{rules}
use borrow.Author.Tests.{tests}
use mathlib.Core.Path.{◌≡◌, refl, ap, ◌∙◌}
use mathlib.Core.List.{[]}
use denote.Ref.{Bor}
use lib.Dec.{eqb}
use Rattle.std.proofs.Common.{Option, Some, None}
use Rattle.std.proofs.lemmas.Iterator.Consumers.{nth_from_yields_List}
use Rattle.std.proofs.lemmas.Iterator.Splits.{YieldsList-from_slice_split}
use Rattle.std.specs.List.{slice_get, slice_split}
use Rattle.std.specs.Option.{option_map, unwrap_or}
use Rattle.lines.proofs.Laws.Line.{field_parts}
use Rattle.lines.proofs.field.Goals as goal

now_or : {A : Type 0} (r : Option (Bor A)) (d : Bor A) → (unwrap_or r d).now ≡ unwrap_or (option_map (λ x. x.now) r) d.now
now_or None d = refl
now_or (Some x) d = refl

pub returns : goal.returns
returns c =
    let line = c.args.line.now in
    let e : option_map (λ x. x.now) c.nth.result ≡ slice_get (slice_split (λ b. eqb b 32) line) c.args.k =
    nth_from_yields_List _ _ _ c.nth.ensures.ran (YieldsList-from_slice_split _ _ line c.split.ensures.rest c.split.ensures.done c.split.ensures.closure (λ x b q k. search (rules, tests))) in
    ap (λ x. x.now) c.unwrap_or.ensures ∙ now_or c.nth.result _ ∙ ap (λ r. unwrap_or r []) e ∙ field_parts line c.args.k
