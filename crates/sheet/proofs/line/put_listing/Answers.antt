-- `sheet::line::put_listing` meets its contract. What is written is the listing in either case. Assumes nothing.
use mathlib.Core.Path.{sym, ap, ◌∙◌}
use native.Mathlib.Omega.{arith}
use lib.ListN.{length}
use borrow.Author.Tests.{eqb-true, eqb-false}
use Rattle.writing.proofs.Laws.Wrote.{wrote_as}
use Rattle.sheet.proofs.Laws.Lines.{listing_some, listing_none}
use Rattle.sheet.proofs.line.put_listing.Goals as goal

pub put_bytes-requires : goal.put_bytes-requires
put_bytes-requires c =
    let s = c.args in
    let e = ap length (listing_none s.none.now s.list.now (eqb-true _ _ (sym c.is_empty.ensures ∙ c.if-is_empty.true))) in
    omega arith

pub returns-then-is_empty : goal.returns-then-is_empty
returns-then-is_empty c =
    let s = c.args in
    wrote_as (sym (listing_none s.none.now s.list.now (eqb-true _ _ (sym c.is_empty.ensures ∙ c.if-is_empty.true)))) c.put_bytes.ensures

pub put_fields-requires : goal.put_fields-requires
put_fields-requires c =
    let s = c.args in
    let e = ap length (listing_some s.none.now s.list.now (eqb-false _ _ (sym c.is_empty.ensures ∙ c.if-is_empty.false))) in
    omega arith

pub returns : goal.returns
returns c =
    let s = c.args in
    wrote_as (sym (listing_some s.none.now s.list.now (eqb-false _ _ (sym c.is_empty.ensures ∙ c.if-is_empty.false)))) c.put_fields.ensures
