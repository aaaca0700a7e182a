-- How the code holds a book: in arrays of bytes and words. Assumes nothing.
use Rattle.std.specs.Prelude.{◌≡◌, Bool, not, cond, List, [], ◌∷◌, ◌++◌, ℕ, zero, suc, ◌+◌, ◌*◌, ◌/◌, ◌%◌, ◌^◌, min, ◌<◌, eqb, get_or, take, drop}
use Rattle.masks.specs.Limits.{max_arity}
use Rattle.masks.specs.Lists.{any, values}
use Rattle.masks.specs.Set.{bit_at}
use Rattle.book.specs.Limits.{max_predicates, max_clauses, max_subgoals}
use Rattle.book.specs.Book.{Head, Call, subgoal_of, Mode, Clause, Book}
use Rattle.book.specs.declared.held.RuleBook.{RuleBook}

-- ---- clauses

-- a byte that holds the number of arguments in its three lowest bits, since there are at most six, and above them whether a subgoal is negated. The
-- four highest bits say nothing.
abbrev pub count_in : ℕ → ℕ
count_in byte = byte % 8

abbrev pub negated_in : ℕ → Bool
negated_in byte = eqb (byte / 8 % 2) 1

-- byte i of a word, the lowest first
abbrev pub byte_of : ℕ → ℕ → ℕ
byte_of w i = w / 2 ^ (8 * i) % 256

-- a head in a word, a byte each from the lowest on: its predicate, the number of its arguments, and six arguments
abbrev pub head_in : ℕ → Head
head_in w = record { pred = byte_of w 0; args = take (count_in (byte_of w 1)) (values (λ i. byte_of w (2 + i)) max_arity) }

-- a subgoal in a word: beside the number of its arguments, that it is negated
abbrev pub call_in : ℕ → Call
call_in w = subgoal_of (negated_in (byte_of w 1)) (head_in w)

-- the words of a clause: the number of its subgoals, its head, and eight subgoals
abbrev pub clause_size : ℕ
clause_size = 10

-- the array of 64 clauses and the query
abbrev pub rules_size : ℕ
rules_size = 650

-- clause k of an array, and its first n
unfoldable pub clause_at : List ℕ → ℕ → Clause
clause_at rules k =
    record {
      head = head_in (get_or rules (k * clause_size + 1) 0);
      body = values (λ j. call_in (get_or rules (k * clause_size + 2 + j) 0)) (min (get_or rules (k * clause_size) 0) max_subgoals);
    }

unfoldable pub clauses_of : List ℕ → ℕ → List Clause
clauses_of rules n = values (clause_at rules) n

-- clause k is now c, and the others are as they were
pub record StoredClause (rules after : List ℕ) (k : ℕ) (c : Clause) : Type 0 where
  pub is : clause_at after k ≡ c
  pub others : (i : ℕ) → (i ≡ k → ⊥) → clause_at after i ≡ clause_at rules i

-- ---- modes

-- k bytes from a place on
abbrev pub window : ℕ → ℕ → List ℕ → List ℕ
window at k l = take k (drop at l)

-- the bytes of a predicate's modes: whether it has MO (0 is no), the number of its masks, and 20 masks. Having none is not having MO with n = 0.
abbrev pub mode_size : ℕ
mode_size = 22

-- the array of 64 predicates' modes
abbrev pub modes_size : ℕ
modes_size = 1408

abbrev pub has_in : List ℕ → Bool
has_in b = not (eqb (get_or b 0 0) 0)

abbrev pub masks_in : List ℕ → List ℕ
masks_in b = take (get_or b 1 0) (drop 2 b)

abbrev pub mode_bytes : List ℕ → ℕ → List ℕ
mode_bytes modes p = window (p * mode_size) mode_size modes

-- p has MO, among modes
unfoldable pub has_mode : List Mode → ℕ → Bool
has_mode ms p = any (λ (m : Mode). eqb m.pred p) ms

-- a set of predicates: those that have MO
abbrev pub HaveMode : List ℕ → ℕ → Type 0
HaveMode modes set = (p : ℕ) → p < max_predicates → bit_at set p ≡ has_in (mode_bytes modes p)

-- the MO of predicate p, if it has one, and those of the first n predicates
unfoldable pub mode_at : List ℕ → ℕ → List Mode
mode_at modes p = cond (has_in (mode_bytes modes p)) (record { pred = p; masks = masks_in (mode_bytes modes p) } ∷ []) []

unfoldable pub modes_of : List ℕ → ℕ → List Mode
modes_of modes zero = []
modes_of modes (suc n) = modes_of modes n ++ mode_at modes n

-- predicate p has now MO with these masks, and the others are as they were
pub record StoredMode (modes after : List ℕ) (p : ℕ) (masks : List ℕ) : Type 0 where
  pub is : mode_at after p ≡ record { pred = p; masks = masks } ∷ []
  pub others : (i : ℕ) → (i ≡ p → ⊥) → mode_bytes after i ≡ mode_bytes modes i

-- ---- a book: so many predicates with their arities, modes, and so many clauses; the query stands after the room of the clauses, as a clause
-- whose head says nothing

unfoldable pub book_in : ℕ → List ℕ → List ℕ → ℕ → List ℕ → Book
book_in preds arities modes clauses rules =
    record {
      arities = take preds arities;
      modes = modes_of modes max_predicates;
      clauses = clauses_of rules (min clauses max_clauses);
      query = (clause_at rules max_clauses).body;
    }

-- the book that is held
abbrev pub book_of : RuleBook → Book
book_of b = book_in b.preds b.arities b.modes b.clauses b.rules

-- no predicate has MO
abbrev pub NoModes : List ℕ → Type 0
NoModes modes = (p : ℕ) → mode_at modes p ≡ []
