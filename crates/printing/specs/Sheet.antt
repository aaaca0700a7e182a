-- The printed sheet: document 01, under that heading. Every definition computes. Assumes nothing.
use Rattle.std.specs.Prelude.{cond, List, [], ◌∷◌, ◌++◌, ℕ, zero, suc, ◌+◌, ◌/◌, ◌%◌, ltb, length, take}
use Rattle.masks.specs.Lists.{joined}
use Rattle.masks.specs.Outcome.{Outcome, done}
use Rattle.book.specs.Limits.{longest}
use Rattle.book.specs.Book.{Book}
use Rattle.book.specs.Format.{number, Judged, fault, book, judge}
use Rattle.book.specs.Encode.{run}
use Rattle.book.specs.Table.{entry}
use Rattle.ordering.specs.Adorn.{nothing}
use Rattle.ordering.specs.Good.{first_good, is_some}
use Rattle.tables.specs.Table.{rounds, final}
use Rattle.tables.specs.Image.{count_of}
use Rattle.choices.specs.Plan.{Row, chosen, plan_rows}

-- ---- lines

-- "decimal": the digits of n in ASCII, of which there are at most k
unfoldable pub decimal_in : ℕ → ℕ → List ℕ
decimal_in zero n = []
decimal_in (suc k) n = cond (ltb n 10) ((48 + n) ∷ []) (decimal_in k (n / 10) ++ ((48 + n % 10) ∷ []))

unfoldable pub decimal : ℕ → List ℕ
decimal n = decimal_in (suc n) n

-- a number in decimal, after what parts it from what stands before it
unfoldable pub after : List ℕ → ℕ → List ℕ
after part n = part ++ decimal n

-- "The letter and the decimal fields of a line are parted by single spaces, with none at its end"
abbrev pub field : ℕ → List ℕ
field n = after (32 ∷ []) n

-- W5: "after a space and a slash"
abbrev pub slashed : ℕ → List ℕ
slashed n = after (32 ∷ 47 ∷ []) n

-- "each line ends in a newline"
abbrev pub line : ℕ → List ℕ → List ℕ
line letter fields = letter ∷ fields ++ (10 ∷ [])

-- "masks in decimal, or `none`": a list of fields, or what stands for it where it is empty
abbrev pub listing : List ℕ → List ℕ → List ℕ
listing none [] = none
listing none (x ∷ xs) = run field (x ∷ xs)

abbrev pub none· : List ℕ
none· = 32 ∷ 110 ∷ 111 ∷ 110 ∷ 101 ∷ []

-- ---- "For a book without fault"

-- "`C` lines (predicate, then masks in decimal, or `none`)"; W5: "`orders` prints that count last on each `C` line, after a space and a slash: `C 0 0 /2`"
unfoldable pub constraint_line : ℕ → List ℕ → ℕ → List ℕ
constraint_line p masks count = line 67 (field p ++ (listing none· masks ++ slashed count))

unfoldable pub constraint_lines : Book → List ℕ
constraint_lines B = joined (λ p. constraint_line p (entry (final B) p) (count_of B.arities (final B) p)) (length B.arities)

-- "one `R` line (rounds)"
unfoldable pub rounds_line : Book → List ℕ
rounds_line B = line 82 (field (rounds B))

-- "one `Q` line (the query's places)", "an empty query prints `Q` alone"
unfoldable pub query_line : List ℕ → List ℕ
query_line places = line 81 (run field places)

-- "`O` lines (clause, pattern, places) in plan order"
unfoldable pub order_line : Row → List ℕ
order_line r = line 79 (field r.clause· ++ (field r.pattern ++ run field r.places))

-- "`X`, number, value"
unfoldable pub refusal_line : ℕ → ℕ → List ℕ
refusal_line n value = line 88 (field n ++ field value)

-- "At 7, `X 7 0` stands in place of the `Q` and `O` lines."
unfoldable pub order_lines : Book → List ℕ
order_lines B =
    cond (is_some (first_good (final B) B.query nothing)) (query_line (chosen B).for_query ++ run order_line (plan_rows B)) (refusal_line 7 0)

unfoldable pub book_sheet : Book → List ℕ
book_sheet B = constraint_lines B ++ (rounds_line B ++ order_lines B)

-- ---- any bytes

-- "At 1 to 6 it prints only `X`, number, value."
abbrev pub judged_sheet : Judged → List ℕ
judged_sheet (fault f at) = refusal_line (number f) at
judged_sheet (book B) = book_sheet B

-- "it judges the first" bytes of a long one; W6: "`orders` cuts at 6,987"
unfoldable pub sheet : List ℕ → List ℕ
sheet s = judged_sheet (judge (take (suc longest) s))

-- what printing any bytes comes to
abbrev pub printing : List ℕ → Outcome
printing s = done 0 (sheet s)
