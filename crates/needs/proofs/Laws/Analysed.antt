-- What the analysis comes to: of a book the image of its final table, and its rounds. Assumes nothing.
use mathlib.Core.Path.{◌≡◌, sym, ap, ◌∙◌}
use mathlib.Core.List.{List}
use Prim.Native.Nat.{ℕ}
use lib.ListN.{length, take}
use lib.Seq.{get_or-take}
use Rattle.masks.specs.Outcome.{done}
use Rattle.book.specs.Book.{Book}
use Rattle.book.specs.Held.{book_in, book_of}
use Rattle.book.specs.Table.{table_in, LowArities}
use Rattle.tables.specs.Image.{rows, image, analysed, analysis}
use Rattle.tables.proofs.Laws.Valid.{arity_low}
use Rattle.tables.proofs.Laws.Image.{rows_same}
use Rattle.book.specs.declared.held.RuleBook.{RuleBook}
use Rattle.reading.specs.Judged.{BookHeld}
use Rattle.reading.proofs.Laws.Judged.{read_well, read_made}
use Rattle.needs.specs.Round.{Settled, Settles}
use Rattle.needs.specs.declared.Needs.{Needs}
use Rattle.needs.proofs.Laws.Settling.{read_held}

-- what is held is its rounds, and the image of its final table
held_image : (s : List ℕ) (B : Book) {preds clauses : ℕ} {rules own table words : List ℕ} {k : ℕ} → analysed B ≡ analysis s → length B.arities ≡ preds
    → Settled B clauses rules own table words k → done k (rows B.arities (table_in table preds) preds) ≡ analysis s
unfolding image
held_image s B {preds} {table = table} {k = k} e size d =
    rw (← size, d.final·, d.rounds·) e

-- a book that was read: its arities, and what its analysis comes to
module _ {s : List ℕ} {given : ℕ} {b : RuleBook} (r : BookHeld s given b) where
  pub read_low : LowArities b.preds b.arities
  unfolding book_in
  read_low p h = rw (← get_or-take b.preds b.arities p 0 h) (arity_low (book_of b) (read_well r) p)

  pub analysed_book : {needs : Needs} {k : ℕ} → Settles b needs k → done k (rows b.arities (table_in needs.table.masks b.preds) b.preds) ≡ analysis s
  unfolding book_in
  analysed_book {needs} {k} d =
      let T = table_in needs.table.masks b.preds in
      let h = read_held r in
      ap (done k) (sym (rows_same (take b.preds b.arities) b.arities T b.preds (λ p l. get_or-take b.preds b.arities p 0 l)))
      ∙ held_image s (book_of b) (read_made r analysed) h.preds· (d (book_of b) h)
