-- A sheet is printed from what the analysis and the planning of the bytes come to: a refusal as its line, a result as the lines of its image. Assumes
-- nothing.
use mathlib.Core.Path.{◌≡◌, refl, ap, ap₂, ◌∙◌}
use mathlib.Core.List.{List, [], ◌++◌}
use Prim.Native.Nat.{ℕ, ◌+◌}
use native.Mathlib.Omega.{arith}
use lib.ListN.{length, drop}
use Rattle.masks.specs.Outcome.{Outcome, refused, done}
use Rattle.book.specs.Book.{Book}
use Rattle.book.specs.Format.{Judged, fault, book, judge}
use Rattle.book.specs.Encode.{run}
use Rattle.book.specs.Answer.{of_judged, on_book}
use Rattle.ordering.specs.Adorn.{nothing}
use Rattle.ordering.specs.Good.{first_good, is_some}
use Rattle.tables.specs.Table.{final}
use Rattle.tables.specs.Image as table
use Rattle.choices.specs.Plan as plan
use Rattle.printing.specs.Sheet.{field, line, none·, constraint_lines, rounds_line, query_line, order_line, refusal_line, order_lines, book_sheet, judged_sheet}
use Rattle.sheet.specs.Records.{listed_count, line_in, lines_in, judged_orders}
use Rattle.masks.proofs.Laws.Logic.{by_bool}
use Rattle.masks.proofs.Laws.Outcome.{Sized}
use Rattle.book.specs.Limits.{longest_table, longest_plan}
use Rattle.book.proofs.Laws.Answer.{number_some}
use Rattle.book.proofs.Laws.Trip.{judge_inv}
use Rattle.tables.proofs.Laws.Image.{table_length}
use Rattle.choices.proofs.Laws.Plan.{planned_good, planned_none}
use Rattle.choices.proofs.Laws.Rows.{plan_length_lem}
use Rattle.sheet.proofs.Laws.Images.{lines_rows, lines_orders, line_query, behind_query}

-- ---- the analysis and the planning of any bytes

pub analysis_sized : (s : List ℕ) → Sized 0 longest_table (table.analysis s)
unfolding on_book
analysis_sized s = go (judge s) refl
  where
    go : (j : Judged) → judge s ≡ j → Sized 0 longest_table (of_judged table.analysed j)
    go (fault f at) e = number_some f
    go (book B) e = (omega arith, table_length B (judge_inv s B e).1)

-- "QO, n, n places" is there
pub planning_sized : (s : List ℕ) → Sized 3 longest_plan (plan.planning s)
unfolding on_book plan.image
planning_sized s = go (judge s) refl
  where
    go : (j : Judged) → judge s ≡ j → Sized 3 longest_plan (of_judged plan.planned j)
    go (fault f at) e = number_some f
    go (book B) e =
        by_bool (is_some (first_good (final B) B.query nothing))
        (λ t. rw (planned_good B t) (omega arith, plan_length_lem B (judge_inv s B e).1))
        (λ t. rw (planned_none B t) (λ z. omega arith))

-- ---- what is printed of them

-- the records behind that of the query
abbrev pub orders_in : List ℕ → List ℕ
orders_in image = drop (3 + listed_count 0 0 image) image

-- of a planning
abbrev pub plan_lines : Outcome → List ℕ
plan_lines (refused n value) = refusal_line n value
plan_lines (done k image) = line_in 81 0 [] 0 image ++ lines_in 79 2 [] 0 (length (orders_in image)) (orders_in image)

-- of an analysis, with more after it
abbrev pub table_lines : Outcome → List ℕ → List ℕ
table_lines (refused n value) more = refusal_line n value
table_lines (done k image) more = lines_in 67 1 none· 1 (length image) image ++ (line 82 (field k) ++ more)

image_lines : (B : Book) → plan_lines (done 0 (plan.image B)) ≡ query_line (plan.chosen B).for_query ++ run order_line (plan.plan_rows B)
unfolding plan.image
image_lines B =
    let σ = (plan.chosen B).for_query in
    let rest = run plan.enc_row (plan.plan_rows B) in
    ap₂ {C = List ℕ} ◌++◌ (line_query σ rest)
    (ap (λ (l : List ℕ). lines_in 79 2 [] 0 (length l) l) (behind_query σ rest) ∙ lines_orders (plan.plan_rows B))

pub planning_lines : (s : List ℕ) → plan_lines (plan.planning s) ≡ judged_orders (judge s)
unfolding on_book order_lines
planning_lines s = go (judge s)
  where
    go : (j : Judged) → plan_lines (of_judged plan.planned j) ≡ judged_orders j
    go (fault f at) = refl
    go (book B) =
        by_bool (is_some (first_good (final B) B.query nothing))
        (λ t. rw (planned_good B t, t) (image_lines B))
        (λ t. rw (planned_none B t, t))

pub analysis_lines : (s : List ℕ) → table_lines (table.analysis s) (judged_orders (judge s)) ≡ judged_sheet (judge s)
unfolding on_book book_sheet constraint_lines rounds_line table.image
analysis_lines s = go (judge s)
  where
    go : (j : Judged) → table_lines (of_judged table.analysed j) (judged_orders j) ≡ judged_sheet j
    go (fault f at) = refl
    go (book B) = ap (λ (l : List ℕ). l ++ (rounds_line B ++ order_lines B)) (lines_rows B.arities (final B) (length B.arities))
