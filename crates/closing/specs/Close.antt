-- Closing. Document 01, "Joining and closing": "Closing takes a book and a set of predicates as a 64-bit number, bit p for predicate p."; document 02's W6:
-- "Closing writes the final constraint over the MO." Every definition computes. Assumes nothing.
use Rattle.std.specs.Prelude.{Bool, cond, List, [], ◌∷◌, ℕ, zero, suc, ◌-◌, length}
use Rattle.std.proofs.Math.Option.{Option, none, some}
use Rattle.masks.specs.Lists.{joined}
use Rattle.masks.specs.Outcome.{Outcome, refused, done}
use Rattle.masks.specs.Set.{bit_at}
use Rattle.book.specs.Limits.{max_predicates}
use Rattle.book.specs.Book.{Mode, Clause, Book}
use Rattle.book.specs.Encode.{encode}
use Rattle.book.specs.Answer.{on_book}
use Rattle.book.specs.Table.{Table, entry}
use Rattle.tables.specs.Table.{mode_of, final}

-- ---- "The result keeps all PR, drops the chosen predicates' clauses with their subgoals"

unfoldable pub kept_clauses : (ℕ → Bool) → List Clause → List Clause
kept_clauses chosen [] = []
kept_clauses chosen (c ∷ cs) = cond (chosen c.head.pred) (kept_clauses chosen cs) (c ∷ kept_clauses chosen cs)

-- ---- "gives each chosen predicate an MO with its final constraint in written form (also when trivial or ill), and copies all else as it was"

-- the alternatives of p, where it has MO after that: T has the final constraints, ms the modes as they were
unfoldable pub closed_mode : (ℕ → Bool) → Table → List Mode → ℕ → Option (List ℕ)
closed_mode chosen T ms p = cond (chosen p) (some (entry T p)) (mode_of ms p)

-- a predicate's MO, where it has one
abbrev pub mode_with : ℕ → Option (List ℕ) → List Mode
mode_with p none = []
mode_with p (some masks) = record { pred = p; masks = masks } ∷ []

-- "MO in rising order"
unfoldable pub closed_modes : (ℕ → Bool) → Table → List Mode → ℕ → List Mode
closed_modes chosen T ms n = joined (λ p. mode_with p (closed_mode chosen T ms p)) n

-- ---- the closed book

unfoldable pub close_over : (ℕ → Bool) → Book → Book
close_over chosen B =
    let T : Table = final B in
    record {
      arities = B.arities;
      modes = closed_modes chosen T B.modes (length B.arities);
      clauses = kept_clauses chosen B.clauses;
      query = B.query;
    }

abbrev pub close : ℕ → Book → Book
close set B = close_over (bit_at set) B

-- ---- "8: the chosen set names a predicate that the book lacks; the lowest such number"

-- the first number from n on, of d numbers, that is chosen
abbrev pub first_from : (ℕ → Bool) → ℕ → ℕ → Option ℕ
first_from chosen n zero = none
first_from chosen n (suc d) = cond (chosen n) (some n) (first_from chosen (suc n) d)

-- a set of 64 bits and a book of n predicates
unfoldable pub lacked : ℕ → ℕ → Option ℕ
lacked set n = first_from (bit_at set) n (max_predicates - n)

-- ---- what closing comes to: "A valid book is next tried for 8"; "Reply 7 never comes here"

abbrev pub unless_lacked : Option ℕ → List ℕ → Outcome
unless_lacked none bytes = done 0 bytes
unless_lacked (some p) bytes = refused 8 p

unfoldable pub closed : ℕ → Book → Outcome
closed set B = unless_lacked (lacked set (length B.arities)) (encode (close set B))

abbrev pub closing : ℕ → List ℕ → Outcome
closing set s = on_book (closed set) s
