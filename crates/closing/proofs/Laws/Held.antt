-- What is closed where it is held: modes and clauses that are closed in their arrays are those of the closed book, the constraints that are given have
-- at most twenty masks, and the predicates with MO are those that had it and those chosen. Assumes nothing.
use mathlib.Core.Path.{◌≡◌, refl, sym, ap, ◌∙◌}
use mathlib.Core.Bool.{Bool, true, false, cond, ◌||◌, or-true, or-false}
use mathlib.Core.List.{List, [], ◌∷◌}
use mathlib.Core.Option.{Option, none, some}
use Prim.Native.Nat.{ℕ, ◌^◌, ◌≤◌, ◌<◌, min}
use native.Mathlib.Omega.{arith}
use lib.Bits.{bit_or}
use lib.Dec.{ltb}
use lib.ListN.{length}
use borrow.Author.Tests.{ltb-true, leb-true}
use Rattle.masks.specs.Lists.{all}
use Rattle.masks.specs.Set.{bit_at, Holds}
use Rattle.book.specs.Limits.{max_predicates, max_clauses}
use Rattle.book.specs.Book.{Mode, Clause, Book}
use Rattle.book.specs.Format.{allows}
use Rattle.book.specs.Encode.{mode_fits, WellFormed}
use Rattle.book.specs.Held.{has_in, masks_in, mode_bytes, has_mode, HaveMode, mode_at, modes_of, clauses_of, book_in}
use Rattle.book.specs.Table.{Table, entry, entry_in, table_in}
use Rattle.tables.specs.Table.{mode_of, final}
use Rattle.closing.specs.Close.{kept_clauses, closed_mode, mode_with, closed_modes, close_over, close, lacked}
use Rattle.closing.specs.Held.{Few, ModesClosed, ClausesKept}
use Rattle.masks.proofs.Laws.Logic.{by_bool, clash}
use Rattle.masks.proofs.Laws.Lists.{get_or_values, joined_cong, joined_cut, all_mono}
use Rattle.masks.proofs.Laws.Set.{bit_at_zero, bit_at_or}
use Rattle.book.proofs.Laws.Held.{modes_of_joined, has_mode_modes_of}
use Rattle.book.proofs.Laws.Trip.{mode_known}
use Rattle.tables.proofs.Laws.Held.{mode_of_modes_of}
use Rattle.tables.proofs.Laws.Image.{final_few}
use Rattle.tables.proofs.Laws.Modes.{mode_of_all}
use Rattle.closing.proofs.Laws.Lacked.{member_known}

-- ---- modes

-- the MO of a predicate is made from its alternatives
mode_at_made : (modes : List ℕ) (p : ℕ) → p < max_predicates → mode_at modes p ≡ mode_with p (mode_of (modes_of modes max_predicates) p)
unfolding mode_at
mode_at_made modes p h = go (has_in (mode_bytes modes p)) ∙ ap (mode_with p) (sym (mode_of_modes_of modes p max_predicates h))
  where
    masks : List ℕ
    masks = masks_in (mode_bytes modes p)

    go : (b : Bool) → cond {A = List Mode} b (record { pred = p; masks = masks } ∷ []) [] ≡ mode_with p (cond b (some masks) none)
    go true = refl
    go false = refl

-- a constraint of a table that is held
entry_is : (table : List ℕ) (n : ℕ) (T : Table) → table_in table n ≡ T → (p : ℕ) → p < n → entry_in table p ≡ entry T p
unfolding table_in
entry_is table n T is p h = sym (get_or_values (entry_in table) [] n p h) ∙ ap (λ (U : Table). entry U p) is

module _ (S : ℕ → Bool) (T : Table) (n : ℕ) (modes after table : List ℕ) (few : n ≤ max_predicates)
    (inside : (p : ℕ) → S p ≡ true → p < n) (known : all (λ (m : Mode). ltb m.pred n) (modes_of modes max_predicates) ≡ true)
    (is : table_in table n ≡ T) (closed : ModesClosed S table modes after)
  where
    gives : ℕ → Option (List ℕ)
    gives p = closed_mode S T (modes_of modes max_predicates) p

    mode_is : (p : ℕ) → p < max_predicates → mode_at after p ≡ mode_with p (gives p)
    unfolding gives closed_mode
    mode_is p h =
        closed p h
        ∙ by_bool (S p)
        (λ t. rw t (ap (λ (masks : List ℕ). mode_with p (some masks)) (entry_is table n T is p (inside p t))))
        (λ t. rw t (mode_at_made modes p h))

    mode_past : (p : ℕ) → n ≤ p → mode_with p (gives p) ≡ []
    unfolding gives closed_mode
    mode_past p h =
        by_bool (S p) (λ t. let l = inside p t in absurd (omega arith))
        (λ t. rw t (none_past (mode_of (modes_of modes max_predicates) p) refl))
      where
        none_past : (o : Option (List ℕ)) → mode_of (modes_of modes max_predicates) p ≡ o → mode_with p o ≡ []
        none_past none e = refl
        none_past (some masks) e =
            let l = ltb-true p n (mode_of_all (λ (m : Mode). ltb m.pred n) (modes_of modes max_predicates) known p masks e) in
            absurd (omega arith)

    pub modes_closed : modes_of after max_predicates ≡ closed_modes S T (modes_of modes max_predicates) n
    unfolding closed_modes gives
    modes_closed =
        modes_of_joined after max_predicates
        ∙ joined_cong (mode_at after) (λ p. mode_with p (gives p)) max_predicates mode_is
        ∙ joined_cut (λ p. mode_with p (gives p)) n max_predicates few mode_past

-- ---- the predicates that have MO

-- there is one
abbrev stands : List Mode → Bool
stands [] = false
stands (m ∷ ms) = true

has_stands : (modes : List ℕ) (p : ℕ) → has_in (mode_bytes modes p) ≡ stands (mode_at modes p)
unfolding mode_at
has_stands modes p = go (has_in (mode_bytes modes p))
  where
    go : (b : Bool) → b ≡ stands (cond b (record { pred = p; masks = masks_in (mode_bytes modes p) } ∷ []) [])
    go true = refl
    go false = refl

-- those that had it, and those chosen
pub have_closed : (given set : ℕ) (table modes after : List ℕ) → Holds given (has_mode (modes_of modes max_predicates))
    → ModesClosed (bit_at set) table modes after → HaveMode after (bit_or given set)
have_closed given set table modes after had closed p h =
    bit_at_or given set p ∙ go (bit_at set p) ∙ sym (has_stands after p ∙ ap stands (closed p h))
  where
    go : (b : Bool) → (bit_at given p || b) ≡ stands (cond b (record { pred = p; masks = entry_in table p } ∷ []) (mode_at modes p))
    go true = or-true (bit_at given p)
    go false = or-false (bit_at given p) ∙ had p ∙ has_mode_modes_of modes max_predicates p h ∙ has_stands modes p

-- ---- the book

-- a set of predicates that a book has, and a table with the book's final constraints
pub record Chosen (B : Book) (set : ℕ) (table : List ℕ) : Type 0 where
  pub well : WellFormed B
  pub small : set < 2 ^ max_predicates
  pub has· : lacked set (length B.arities) ≡ none
  pub final· : table_in table (length B.arities) ≡ final B

module _ {B : Book} {set : ℕ} {table : List ℕ} (c : Chosen B set table) where
  inside : (p : ℕ) → bit_at set p ≡ true → p < length B.arities
  inside p t = member_known set (length B.arities) c.small c.has· p t

  -- a written form has at most twenty masks
  pub closed_few : Few (bit_at set) table
  closed_few p h t = rw (entry_is table (length B.arities) (final B) c.final· p (inside p t)) (final_few B c.well p (inside p t))

-- no predicate is chosen, so none has more
pub few_none : (table : List ℕ) → Few (bit_at 0) table
few_none table p h t = clash t (bit_at_zero p)

-- what is held then is the closed book
pub close_held : (preds : ℕ) (arities modes : List ℕ) (clauses : ℕ) (rules after : List ℕ) {set : ℕ} {table rest : List ℕ} {n : ℕ}
    → Chosen (book_in preds arities modes clauses rules) set table → clauses ≤ max_clauses → ModesClosed (bit_at set) table modes after
    → ClausesKept (bit_at set) rules clauses rest n → book_in preds arities after n rest ≡ close set (book_in preds arities modes clauses rules)
unfolding book_in close_over allows
close_held preds arities modes clauses rules after {set} {table} {rest} {n} c few closed kept =
    let B = book_in preds arities modes clauses rules in
    let m = leb-true (length B.arities) max_predicates c.well.few_predicates in
    let k = kept.few in
    let e : min n max_clauses ≡ n = omega arith in
    let f : min clauses max_clauses ≡ clauses = omega arith in
    λ i. record {
      arities = B.arities;
      modes = (modes_closed (bit_at set) (final B) (length B.arities) modes after table m (inside c)
          (all_mono (mode_fits B.arities) (λ (m : Mode). ltb m.pred (length B.arities)) (mode_known B.arities) B.modes c.well.modes_fit)
          c.final· closed) i;
      clauses = (ap (clauses_of rest) e ∙ kept.is ∙ ap (λ (x : ℕ). kept_clauses (bit_at set) (clauses_of rules x)) (sym f)) i;
      query = ap (λ (c : Clause). c.body) kept.query i;
    }
