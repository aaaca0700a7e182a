-- The records of an image as lines. A record has a mark of two bytes, so many fields, n, n fields more, and so many that trail. Every definition computes. Assumes nothing.
use Rattle.std.specs.Prelude.{cond, List, [], ◌++◌, ℕ, zero, suc, ◌+◌, ◌-◌, min, ltb, length, get_or, take, drop}
use Rattle.book.specs.Format.{number, Judged, fault, book}
use Rattle.book.specs.Encode.{run}
use Rattle.printing.specs.Sheet.{field, slashed, line, listing, refusal_line, order_lines}

-- how many fields the first record lists: n, or as many as there can be before those that trail
abbrev pub listed_count : ℕ → ℕ → List ℕ → ℕ
listed_count lead trail s = min (get_or s (2 + lead) 0) (length s - (3 + lead + trail))

-- these, and those that trail
abbrev pub listed_in : ℕ → ℕ → List ℕ → List ℕ
listed_in lead trail s = take (listed_count lead trail s) (drop (3 + lead) s)

abbrev pub trail_in : ℕ → ℕ → List ℕ → List ℕ
trail_in lead trail s = take trail (drop (3 + lead + listed_count lead trail s) s)

-- the line of the first record: its letter, the fields that lead, those listed, or what stands for none, and those that trail
abbrev pub line_in : ℕ → ℕ → List ℕ → ℕ → List ℕ → List ℕ
line_in letter lead none trail s =
    line letter (run field (take lead (drop 2 s)) ++ (listing none (listed_in lead trail s) ++ run slashed (trail_in lead trail s)))

-- the lines of all records, at most k of them; what is too short for a record has no line
unfoldable pub lines_in : ℕ → ℕ → List ℕ → ℕ → ℕ → List ℕ → List ℕ
lines_in letter lead none trail zero s = []
lines_in letter lead none trail (suc k) s =
    cond (ltb (length s) (3 + lead + trail)) []
    (line_in letter lead none trail s ++ lines_in letter lead none trail k (drop (3 + lead + trail + listed_count lead trail s) s))

-- what planning prints: the lines of the orders, or of a fault
abbrev pub judged_orders : Judged → List ℕ
judged_orders (fault f at) = refusal_line (number f) at
judged_orders (book B) = order_lines B
