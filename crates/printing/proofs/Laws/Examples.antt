-- Sheets, computed from their definitions: numbers and lines by themselves, then sheets of refusals. Document 01's own is in the crate `demands`. Assumes nothing.
use mathlib.Core.Path.{◌≡◌, refl}
use mathlib.Core.List.{List, [], ◌∷◌, ◌++◌}
use Prim.Native.Nat.{ℕ}
use Rattle.masks.specs.Lists.{how_many}
use Rattle.book.specs.Format.{fault}
use Rattle.book.specs.Encode.{run}
use Rattle.book.specs.declared.fault.Fault.TheVariants.{OutOfRange}
use Rattle.printing.specs.Sheet.{decimal_in, decimal, after, field, line, constraint_line, constraint_lines, rounds_line, query_line, order_line, refusal_line, order_lines, book_sheet, judged_sheet}
use Rattle.tables.proofs.Laws.Examples.{wild}
use Rattle.choices.proofs.Laws.Examples.{compute_plan}

unfoldable pub compute_sheet : Unit {0}
unfolding compute_plan how_many decimal_in decimal after constraint_line constraint_lines rounds_line query_line order_line refusal_line order_lines book_sheet
compute_sheet = tt

-- ---- the definitions, each by itself

-- 0, 9, 10 and 3,712
pub numbers : decimal 0 ∷ decimal 9 ∷ decimal 10 ∷ decimal 3712 ∷ [] ≡ (48 ∷ []) ∷ (57 ∷ []) ∷ (49 ∷ 48 ∷ []) ∷ (51 ∷ 55 ∷ 49 ∷ 50 ∷ []) ∷ []
unfolding compute_sheet
numbers = refl

-- "parted by single spaces, with none at its end, and each line ends in a newline": `R 12`
pub spaces : line 82 (field 12) ≡ 82 ∷ 32 ∷ 49 ∷ 50 ∷ 10 ∷ []
unfolding compute_sheet
spaces = refl

-- "masks in decimal, or `none`", and the count "after a space and a slash": `C 7 none /0`, and `C 7 0 /2`, since nothing is not zero
pub ill_line : constraint_line 7 [] 0 ≡ 67 ∷ 32 ∷ 55 ∷ 32 ∷ 110 ∷ 111 ∷ 110 ∷ 101 ∷ 32 ∷ 47 ∷ 48 ∷ 10 ∷ []
unfolding compute_sheet
ill_line = refl

pub trivial_line : constraint_line 7 (0 ∷ []) 2 ≡ 67 ∷ 32 ∷ 55 ∷ 32 ∷ 48 ∷ 32 ∷ 47 ∷ 50 ∷ 10 ∷ []
unfolding compute_sheet
trivial_line = refl

-- "an empty query prints `Q` alone"
pub empty_query : query_line [] ≡ 81 ∷ 10 ∷ []
unfolding compute_sheet
empty_query = refl

-- "(clause, pattern, places)": `O 0 1 1 0`
pub order : order_line (record { clause· = 0; pattern = 1; places = 1 ∷ 0 ∷ [] }) ≡ 79 ∷ 32 ∷ 48 ∷ 32 ∷ 49 ∷ 32 ∷ 49 ∷ 32 ∷ 48 ∷ 10 ∷ []
unfolding compute_sheet
order = refl

-- ---- sheets

-- a letter and its fields of one digit each
abbrev digits : ℕ → List ℕ → List ℕ
digits letter fields = line letter (run (λ d. 32 ∷ d ∷ []) fields)

-- "At 7, `X 7 0` stands in place of the `Q` and `O` lines."
pub seven_sheet : book_sheet wild ≡ line 67 (32 ∷ 48 ∷ 32 ∷ 49 ∷ 32 ∷ 47 ∷ 49 ∷ []) ++ digits 82 (48 ∷ []) ++ digits 88 (55 ∷ 48 ∷ [])
unfolding compute_sheet
seven_sheet = refl

-- "At 1 to 6 it prints only `X`, number, value."
pub fault_sheet : judged_sheet (fault OutOfRange 3) ≡ digits 88 (52 ∷ 51 ∷ [])
unfolding compute_sheet
fault_sheet = refl
