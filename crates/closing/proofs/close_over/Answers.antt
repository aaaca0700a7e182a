-- `closing::close_over` meets its contract. A book that is refused once it is read is; else what is written is held as the closed book is. Assumes
-- nothing.
use mathlib.Core.Path.{◌≡◌, sym, ◌∙◌}
use mathlib.Core.List.{List}
use mathlib.Core.Option.{none}
use Prim.Native.Nat.{ℕ, ◌^◌, ◌<◌}
use borrow.Author.Rules.{rules}
use Rattle.std.proofs.lemmas.Result.{err_from_is_err_and}
use Rattle.masks.specs.Outcome.{done}
use Rattle.book.specs.Encode.{encode}
use Rattle.book.specs.Limits.{max_predicates}
use Rattle.book.specs.Held.{book_of}
use Rattle.book.specs.declared.held.RuleBook.{RuleBook}
use Rattle.reading.specs.Judged.{BookHeld}
use Rattle.needs.specs.Round.{Settles}
use Rattle.needs.specs.declared.Needs.{Needs}
use Rattle.closing.specs.Close.{close, lacked, closed, closing}
use Rattle.reading.proofs.Laws.Judged.{read_refused, read_made}
use Rattle.needs.proofs.Laws.Settling.{read_held, held_known}
use Rattle.closing.proofs.Laws.Refused.{lacking_none, lacking_some}
use Rattle.closing.proofs.Laws.Outcome.{closed_has}
use Rattle.closing.proofs.Laws.Held.{Chosen, have_closed, closed_few, few_none, close_held}
use Rattle.closing.proofs.close_over.Goals as goal

pub returns-in_err-given : goal.returns-in_err-given
returns-in_err-given c =
    let p = err_from_is_err_and c.from_residual.result c.from_residual.ensures.1 in
    rw (p.1, p.2) (read_refused (closed c.args.set) _ c.args.out.now c.in_err-given.field-0.0 c.in_err-given.ensures.read)

pub returns-in_err-lacking : goal.returns-in_err-lacking
returns-in_err-lacking c =
    let p = err_from_is_err_and c.from_residual-in_err-lacking.result c.from_residual-in_err-lacking.ensures.1 in
    let b = c.in_ok-given.ensures.read in
    rw (p.1, p.2) (lacking_some c.args.set _ _ c.args.out.now _ b.is (read_held b).preds· c.in_err-lacking.ensures)

pub settle-requires : goal.settle-requires
settle-requires c = let n = c.new-needs.ensures in ((_, read_held c.in_ok-given.ensures.read), n.own, n.masks, n.admits)

-- it has each chosen predicate, and the table is its final one
chosen : {s : List ℕ} {b : RuleBook} {needs : Needs} {set given k : ℕ} → set < 2 ^ max_predicates → BookHeld s given b → lacked set b.preds ≡ none → Settles b needs k
    → Chosen (book_of b) set needs.table.masks
chosen small r has settles =
    let w = read_held r in
    record { well = w.well; small = small; has· = rw w.preds· has; final· = (settles _ w).final· }

-- of no predicate it is true, too
pub close_modes-requires : goal.close_modes-requires
close_modes-requires c = search (closed_few (chosen (search rules) c.in_ok-given.ensures.read (lacking_none _ _ c.in_ok-lacking.ensures) c.settle.ensures), few_none)

pub keep_clauses-requires : goal.keep_clauses-requires
keep_clauses-requires c = let h = read_held c.in_ok-given.ensures.read in (h.few, held_known h)

pub write_given-requires : goal.write_given-requires
write_given-requires c = have_closed _ _ _ _ _ c.in_ok-given.ensures.read.given c.close_modes.ensures

-- what closing comes to
whole : (set : ℕ) {s : List ℕ} {given : ℕ} {b : RuleBook} → BookHeld s given b → lacked set b.preds ≡ none → closing set s ≡ done 0 (encode (close set (book_of b)))
whole set r has = sym (read_made r (closed set)) ∙ closed_has set _ (rw (read_held r).preds· has)

pub returns-in_err-r : goal.returns-in_err-r
returns-in_err-r c =
    let p = err_from_is_err_and c.from_residual-in_err-r.result c.from_residual-in_err-r.ensures.1 in
    let b = c.in_ok-given.ensures.read in
    let has = lacking_none _ _ c.in_ok-lacking.ensures in
    let e = close_held _ _ _ _ _ _ (chosen (search rules) b has c.settle.ensures) b.few c.close_modes.ensures c.keep_clauses.ensures in
    rw (p.1, p.2, whole c.args.set b has, ← e) c.in_err-r.ensures

pub returns : goal.returns
returns c =
    let b = c.in_ok-given.ensures.read in
    let has = lacking_none _ _ c.in_ok-lacking.ensures in
    let e = close_held _ _ _ _ _ _ (chosen (search rules) b has c.settle.ensures) b.few c.close_modes.ensures c.keep_clauses.ensures in
    rw (whole c.args.set b has, ← e) c.in_ok-r.ensures
