-- What a book is refused with once it is read, and what closing does to the modes and clauses that the code holds. Assumes nothing.
use Rattle.std.specs.Prelude.{◌≡◌, Bool, true, cond, List, [], ◌∷◌, ℕ, ◌≤◌, ◌<◌, length, Result, Ok, Err}
use Rattle.std.proofs.Math.Option.{Option, none, some}
use Rattle.masks.specs.Limits.{max_masks}
use Rattle.book.specs.Limits.{max_predicates, max_clauses}
use Rattle.book.specs.Book.{Mode}
use Rattle.book.specs.Held.{mode_at, clause_at, clauses_of}
use Rattle.book.specs.Table.{entry_in}
use Rattle.book.specs.declared.refusal.Refusal.{Refusal}
use Rattle.book.specs.declared.refusal.Refusal.TheVariants.{Lacks}
use Rattle.closing.specs.Close.{kept_clauses}

-- a chosen predicate that the book lacks is a refusal; where there is none, there is nothing to say
abbrev pub unless_lacking : Option ℕ → Result Unit Refusal
unless_lacking (some p) = Err (Lacks p)
unless_lacking none = Ok tt

-- each chosen predicate has at most 20 masks in the table
abbrev pub Few : (ℕ → Bool) → List ℕ → Type 0
Few chosen table = (p : ℕ) → p < max_predicates → chosen p ≡ true → length (entry_in table p) ≤ max_masks

-- each chosen predicate has now MO with its constraint in the table, and the others are as they were
abbrev pub closed_at : (ℕ → Bool) → List ℕ → List ℕ → ℕ → List Mode
closed_at chosen table modes p = cond (chosen p) (record { pred = p; masks = entry_in table p } ∷ []) (mode_at modes p)

abbrev pub ModesClosed : (ℕ → Bool) → List ℕ → List ℕ → List ℕ → Type 0
ModesClosed chosen table modes after = (p : ℕ) → p < max_predicates → mode_at after p ≡ closed_at chosen table modes p

-- of the first n clauses those that stay are now the first k, and the query is as it was
pub record ClausesKept (chosen : ℕ → Bool) (rules : List ℕ) (n : ℕ) (after : List ℕ) (k : ℕ) : Type 0 where
  pub few : k ≤ n
  pub is : clauses_of after k ≡ kept_clauses chosen (clauses_of rules n)
  pub query : clause_at after max_clauses ≡ clause_at rules max_clauses
