-- The sheet of a closed book: its `C` lines are those of the book, since the final tables are equal; its `Q` and `O` lines are those of what is left of the
-- plan. Assumes nothing.
use mathlib.Core.Path.{◌≡◌, sym, ap, ap₂, ◌∙◌}
use mathlib.Core.Bool.{Bool, true, cond}
use mathlib.Core.List.{List, ◌++◌}
use Prim.Native.Nat.{ℕ}
use lib.ListN.{length}
use Rattle.masks.specs.Lists.{joined}
use Rattle.masks.specs.Outcome.{done}
use Rattle.masks.specs.Set.{bit_at}
use Rattle.book.specs.Book.{Book}
use Rattle.book.specs.Format.{book, judge}
use Rattle.book.specs.Encode.{run, WellFormed}
use Rattle.book.specs.Table.{Table, entry}
use Rattle.ordering.specs.Adorn.{nothing}
use Rattle.ordering.specs.Good.{first_good, is_some}
use Rattle.tables.specs.Table.{final}
use Rattle.tables.specs.Image.{count_of}
use Rattle.choices.specs.Plan.{Row, chosen, plan_rows}
use Rattle.printing.specs.Sheet.{constraint_line, constraint_lines, rounds_line, query_line, order_line, refusal_line, order_lines, book_sheet, sheet}
use Rattle.closing.specs.Close.{close_over, close, closing}
use Rattle.depot.specs.Depot.{self_contained, order_lines_left}
use Rattle.book.proofs.Laws.Answer.{book_injective}
use Rattle.book.proofs.Laws.Trip.{judge_inv}
use Rattle.printing.proofs.Laws.Length.{sheet_book}
use Rattle.closing.proofs.Laws.Final.{final_close}
use Rattle.closing.proofs.Laws.Outcome.{closing_book}
use Rattle.depot.proofs.Laws.Plan.{query_order, plan_left_lem}

module _ (S : ℕ → Bool) (B : Book) (w : WellFormed B) where
  constraints_same : constraint_lines (close_over S B) ≡ constraint_lines B
  unfolding constraint_lines close_over
  constraints_same =
      ap (λ (T : Table). joined (λ p. constraint_line p (entry T p) (count_of B.arities T p)) (length B.arities)) (final_close S B w)

  lines_left : self_contained S B.clauses ≡ true → order_lines (close_over S B) ≡ order_lines_left S B
  unfolding order_lines order_lines_left close_over
  lines_left inside =
      let lines_of : Bool → List ℕ → List Row → List ℕ = λ found σ rows. cond found (query_line σ ++ run order_line rows) (refusal_line 7 0) in
      ap (λ (T : Table). lines_of (is_some (first_good T B.query nothing)) (chosen (close_over S B)).for_query (plan_rows (close_over S B))) (final_close S B w)
      ∙ ap₂ (lines_of (is_some (first_good (final B) B.query nothing))) (query_order S B w) (plan_left_lem S B w inside)

-- what is printed of the bytes t that closing the set gave, the book C: the `R` line alone is its own
pub closing_sheet : (set : ℕ) (s t : List ℕ) (B : Book) → judge s ≡ book B → closing set s ≡ done 0 t → self_contained (bit_at set) B.clauses ≡ true
    → (C : Book) → judge t ≡ book C → sheet t ≡ constraint_lines B ++ (rounds_line C ++ order_lines_left (bit_at set) B)
unfolding book_sheet
closing_sheet set s t B valid closes inside C read =
    let w : WellFormed B = (judge_inv s B valid).1 in
    let e : close set B ≡ C = book_injective (close set B) C (sym (closing_book set s t B valid closes) ∙ read) in
    sheet_book t (close set B) (closing_book set s t B valid closes)
    ∙ ap₂ (λ (c o : List ℕ). c ++ (rounds_line (close set B) ++ o)) (constraints_same (bit_at set) B w) (lines_left (bit_at set) B w inside)
    ∙ ap (λ (A : Book). constraint_lines B ++ (rounds_line A ++ order_lines_left (bit_at set) B)) e
