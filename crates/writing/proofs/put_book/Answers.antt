-- `writing::put_book` meets its contract. The parts are written one after another, each where the one before it ends, and together they are the book. Assumes nothing.
use mathlib.Core.Path.{sym}
use Rattle.book.specs.Held.{book_in}
use Rattle.writing.proofs.Laws.Book.{room_predicates, room_modes, room_clauses, room_mark, room_query, wrote_book}
use Rattle.writing.proofs.put_book.Goals as goal

pub put_predicates-a-requires : goal.put_predicates-a-requires
put_predicates-a-requires c =
    let b = c.args.book.now in
    room_predicates b.preds b.arities b.modes b.clauses b.rules c.args.out.now c.requires.1

pub put_modes-b-requires : goal.put_modes-b-requires
put_modes-b-requires c =
    let b = c.args.book.now in
    let predicates = c.put_predicates-a.ensures in
    (c.requires.0, room_modes b.preds b.arities b.modes b.clauses b.rules c.args.out.now c.requires.1 predicates)

pub put_clauses-c-requires : goal.put_clauses-c-requires
unfolding book_in
put_clauses-c-requires c =
    let b = c.args.book.now in
    let predicates = c.put_predicates-a.ensures in
    let modes = c.put_modes-b.ensures in
    room_clauses b.preds b.arities b.modes b.clauses b.rules c.args.out.now c.requires.1 predicates modes

pub put_mark-d-requires : goal.put_mark-d-requires
unfolding book_in
put_mark-d-requires c =
    let b = c.args.book.now in
    let predicates = c.put_predicates-a.ensures in
    let modes = c.put_modes-b.ensures in
    let clauses = c.put_clauses-c.ensures in
    room_mark b.preds b.arities b.modes b.clauses b.rules c.args.out.now c.requires.1 predicates modes clauses

pub put_body-requires : goal.put_body-requires
unfolding book_in
put_body-requires c =
    let b = c.args.book.now in
    let predicates = c.put_predicates-a.ensures in
    let modes = c.put_modes-b.ensures in
    let clauses = c.put_clauses-c.ensures in
    let mark = c.put_mark-d.ensures in
    rw c.query.ensures (room_query b.preds b.arities b.modes b.clauses b.rules c.args.out.now c.requires.1 predicates modes clauses mark)

pub returns : goal.returns
unfolding book_in
returns c =
    let b = c.args.book.now in
    let predicates = c.put_predicates-a.ensures in
    let modes = c.put_modes-b.ensures in
    let clauses = c.put_clauses-c.ensures in
    let mark = c.put_mark-d.ensures in
    wrote_book b.preds b.arities b.modes b.clauses b.rules c.args.out.now c.requires.1 predicates modes clauses mark (rw (sym c.query.ensures) c.put_body.ensures)
