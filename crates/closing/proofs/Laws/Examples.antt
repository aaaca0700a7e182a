-- Closing, computed from its definitions: each by itself, then document 01's book closed. Assumes nothing.
use mathlib.Core.Path.{◌≡◌, refl}
use mathlib.Core.List.{List, [], ◌∷◌, ◌++◌}
use mathlib.Core.Option.{none, some}
use Prim.Native.Nat.{ℕ, ◌^◌}
use Rattle.masks.specs.Outcome.{refused, done}
use Rattle.masks.specs.Set.{bit_at}
use Rattle.book.specs.Book.{Mode, Clause}
use Rattle.book.specs.Format.{mark_at, many, predicate, query, rules, read_book, judge}
use Rattle.book.specs.Encode.{encode}
use Rattle.book.specs.Answer.{on_book}
use Rattle.book.proofs.Laws.Examples.{k1_book}
use Rattle.tables.proofs.Laws.Examples.{compute, chain, several, joined}
use Rattle.closing.specs.Close.{kept_clauses, closed_mode, closed_modes, close_over, close, lacked, closed, closing}

unfoldable pub compute_close : Unit {0}
unfolding compute bit_at kept_clauses closed_mode closed_modes close_over lacked closed encode
compute_close = tt

abbrev needs : ℕ → List ℕ → Mode
needs p masks = record { pred = p; masks = masks }

-- ---- the definitions, each by itself

-- "drops the chosen predicates' clauses": of a book with clauses of 1, 0 and 0 those of 0
abbrev heads : List Clause → List ℕ
heads [] = []
heads (c ∷ cs) = c.head.pred ∷ heads cs

pub drops : heads (kept_clauses (bit_at 1) several.clauses) ++ heads (kept_clauses (bit_at 2) several.clauses) ≡ 1 ∷ 0 ∷ 0 ∷ []
unfolding compute_close
drops = refl

-- "(also when trivial or ill), and copies all else as it was, MO in rising order": 0 and 2 of four predicates are chosen; 1 has alternatives that are
-- not in written form, 3 has none
pub modes_turn : closed_modes (bit_at 5) ((0 ∷ []) ∷ (1 ∷ []) ∷ [] ∷ (0 ∷ []) ∷ []) (needs 1 (3 ∷ 1 ∷ 1 ∷ []) ∷ []) 4
    ≡ needs 0 (0 ∷ []) ∷ needs 1 (3 ∷ 1 ∷ 1 ∷ []) ∷ needs 2 [] ∷ []
unfolding compute_close
modes_turn = refl

-- "gives each chosen predicate an MO with its final constraint in written form": one that had MO, with alternatives not in written form
pub mode_anew : closed_modes (bit_at 1) ((1 ∷ []) ∷ []) (needs 0 (3 ∷ 1 ∷ 1 ∷ []) ∷ []) 1 ≡ needs 0 (1 ∷ []) ∷ []
unfolding compute_close
mode_anew = refl

-- W6: "Closing writes the final constraint over the MO": p of `joined`, which has MO and a clause
pub mode_over : (close 1 joined).modes ≡ needs 0 (3 ∷ []) ∷ needs 1 (1 ∷ []) ∷ []
unfolding compute_close
mode_over = refl

-- "the lowest such number": of 0, 1, 5 and 6 the lowest that a book of four predicates lacks
pub lowest : lacked 99 4 ≡ some 5
unfolding compute_close
lowest = refl

pub has_all : lacked 15 4 ≡ none
unfolding compute_close
has_all = refl

-- "its final constraint": a of `chain`, which has another one after one round
pub final_one : (close 1 chain).modes ≡ needs 0 (1 ∷ []) ∷ needs 2 (1 ∷ []) ∷ []
unfolding compute_close
final_one = refl

-- ---- books

-- document 01's book with fault(H) closed
pub k1_closed : closed 4 k1_book
    ≡ done 0 (80 ∷ 82 ∷ 1 ∷ 80 ∷ 82 ∷ 2 ∷ 80 ∷ 82 ∷ 1 ∷ 80 ∷ 82 ∷ 1 ∷ 77 ∷ 79 ∷ 1 ∷ 1 ∷ 1 ∷ 77 ∷ 79 ∷ 2 ∷ 1 ∷ 1 ∷ 77 ∷ 79 ∷ 3 ∷ 1 ∷ 1
    ∷ 81 ∷ 85 ∷ 83 ∷ 71 ∷ 2 ∷ 0 ∷ 83 ∷ 71 ∷ 0 ∷ 0 ∷ [])
unfolding compute_close
k1_closed = refl

-- with a predicate that it lacks chosen, too
pub k1_lacks : closed 580 k1_book ≡ refused 8 6
unfolding compute_close
k1_lacks = refl

-- "A valid book is next tried for 8": QU twice is 3 at 2, also with 63 chosen
pub fault_first : closing (2 ^ 63) (81 ∷ 85 ∷ 81 ∷ 85 ∷ []) ≡ refused 3 2
unfolding compute_close on_book judge read_book many mark_at predicate rules query
fault_first = refl
