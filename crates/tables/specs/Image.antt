-- What the analysis of any bytes comes to. Assumes nothing.
use Rattle.std.specs.Prelude.{◌≡◌, List, [], ◌∷◌, ◌++◌, ℕ, length, get_or}
use Rattle.masks.specs.Lists.{joined}
use Rattle.masks.specs.Constraint.{fitting}
use Rattle.masks.specs.Outcome.{Outcome, done}
use Rattle.book.specs.Book.{Book}
use Rattle.book.specs.Answer.{on_book}
use Rattle.book.specs.Table.{Table, entry, table_in}
use Rattle.tables.specs.Table.{rounds, final}

-- "CN, predicate, n, n masks", and W5: "one byte more at the end of each CN"
abbrev pub row : ℕ → List ℕ → ℕ → List ℕ
row p masks count = 67 ∷ 78 ∷ p ∷ length masks ∷ (masks ++ (count ∷ []))

-- "how many patterns each final constraint admits": of those of the arity of p
abbrev pub count_of : List ℕ → Table → ℕ → ℕ
count_of arities T p = fitting (get_or arities p 0) (entry T p)

-- "for each predicate in turn": the first n
abbrev pub rows : List ℕ → Table → ℕ → List ℕ
rows arities T n = joined (λ p. row p (entry T p) (count_of arities T p)) n

-- the length of the image of a table that is held, whatever the arities
abbrev pub LengthOf : ℕ → List ℕ → ℕ → Type 0
LengthOf preds table r = (arities : List ℕ) → r ≡ length (rows arities (table_in table preds) preds)

-- "Its image"
unfoldable pub image : Book → List ℕ
image B = rows B.arities (final B) (length B.arities)

-- "the analysis also gives its rounds"
abbrev pub analysed : Book → Outcome
analysed B = done (rounds B) (image B)

abbrev pub analysis : List ℕ → Outcome
analysis s = on_book analysed s
