-- CLOSING: the closed book has the final table of the book. Each final table is below the other, since a table is below the final one of a book
-- where it is below table 0 and its patterns are good under itself. Assumes nothing.
use mathlib.Core.Path.{◌≡◌, refl, sym, ap, ◌∙◌}
use mathlib.Core.Bool.{Bool, true, false, cond, ◌||◌}
use mathlib.Core.List.{List, [], ◌∷◌}
use mathlib.Core.Option.{Option, some}
use Prim.Native.Nat.{ℕ, ◌^◌, ◌<◌}
use native.Mathlib.Omega.{arith}
use lib.Dec.{eqb}
use lib.ListN.{length, get_or}
use borrow.Author.Tests.{ne_eqb}
use Rattle.masks.specs.Limits.{all_patterns}
use Rattle.masks.specs.Lists.{all}
use Rattle.masks.specs.Constraint.{admits, minimise}
use Rattle.book.specs.Book.{Clause, Book}
use Rattle.book.specs.Encode.{WellFormed}
use Rattle.book.specs.Table.{Table, entry}
use Rattle.ordering.specs.Good.{good_clause}
use Rattle.tables.specs.Table.{mode_of, asked, start, own, defined, good, final}
use Rattle.closing.specs.Close.{kept_clauses, closed_mode, closed_modes, close_over}
use Rattle.masks.proofs.Laws.Logic.{by_bool, by_range, clash}
use Rattle.masks.proofs.Laws.Constraint.{is_written_mono, minimise_same}
use Rattle.masks.proofs.Laws.Joining.{power_le}
use Rattle.ordering.proofs.Laws.Adorn.{More}
use Rattle.tables.proofs.Laws.Valid.{arity_low}
use Rattle.tables.proofs.Laws.Round.{past_none, good_more}
use Rattle.tables.proofs.Laws.Rounds.{Proper, more_antisym, Closed, start_at, final_proper, final_below_start, final_closed, greatest}
use Rattle.closing.proofs.Laws.Modes.{mode_of_made}
use Rattle.closing.proofs.Laws.Valid.{closed_well}

-- ---- the clauses that stay

module _ (S : ℕ → Bool) (p : ℕ) where
  other : (c : Clause) → S c.head.pred ≡ true → S p ≡ false → eqb c.head.pred p ≡ false
  other c t s = ne_eqb c.head.pred p (λ e. clash (ap S (sym e) ∙ t) s)

  -- of a predicate that is not chosen all of them
  own_stays : (cs : List Clause) → S p ≡ false → own (kept_clauses S cs) p ≡ own cs p
  unfolding own kept_clauses
  own_stays [] s = refl
  own_stays (c ∷ cs) s =
      by_bool (S c.head.pred)
      (λ t. rw (t, other c t s) (own_stays cs s))
      (λ t. rw t (ap (λ (l : List Clause). cond (eqb c.head.pred p) (c ∷ l) l) (own_stays cs s)))

  any_stays : (cs : List Clause) → S p ≡ false → defined (kept_clauses S cs) p ≡ defined cs p
  unfolding defined kept_clauses
  any_stays [] s = refl
  any_stays (c ∷ cs) s =
      by_bool (S c.head.pred)
      (λ t. rw (t, other c t s) (any_stays cs s))
      (λ t. rw t (ap (λ (b : Bool). eqb c.head.pred p || b) (any_stays cs s)))

  -- of a chosen one none
  any_goes : (cs : List Clause) → S p ≡ true → defined (kept_clauses S cs) p ≡ false
  unfolding defined kept_clauses
  any_goes [] s = refl
  any_goes (c ∷ cs) s =
      by_bool (S c.head.pred)
      (λ t. rw t (any_goes cs s))
      (λ t. let ne : eqb c.head.pred p ≡ false = ne_eqb c.head.pred p (λ e. clash (ap S e ∙ s) t) in rw (t, ne) (any_goes cs s))

-- ---- the closed book

module _ (S : ℕ → Bool) (B : Book) where
  pub mode_close : (p : ℕ) → p < length B.arities → mode_of (close_over S B).modes p ≡ closed_mode S (final B) B.modes p
  unfolding close_over closed_modes
  mode_close p h = mode_of_made (closed_mode S (final B) B.modes) (length B.arities) p h

  mode_goes : (p : ℕ) → p < length B.arities → S p ≡ true → mode_of (close_over S B).modes p ≡ some (entry (final B) p)
  unfolding closed_mode
  mode_goes p h s = mode_close p h ∙ rw s

  mode_stays : (p : ℕ) → p < length B.arities → S p ≡ false → mode_of (close_over S B).modes p ≡ mode_of B.modes p
  unfolding closed_mode
  mode_stays p h s = mode_close p h ∙ rw s

  pub defined_stays : (p : ℕ) → S p ≡ false → defined (close_over S B).clauses p ≡ defined B.clauses p
  unfolding close_over
  defined_stays p s = any_stays S p B.clauses s

  pub defined_goes : (p : ℕ) → S p ≡ true → defined (close_over S B).clauses p ≡ false
  unfolding close_over
  defined_goes p s = any_goes S p B.clauses s

  pub good_stays : (T : Table) (p a : ℕ) → S p ≡ false → good T (close_over S B).clauses p a ≡ good T B.clauses p a
  unfolding close_over good
  good_stays T p a s = ap (all (λ c. good_clause T c a)) (own_stays S p B.clauses s)

  -- a table fits the closed book as it fits the book
  proper_close : (T : Table) → Proper B T → Proper (close_over S B) T
  unfolding close_over
  proper_close T t = record { long = t.long; written· = t.written· }

  proper_open : (T : Table) → Proper (close_over S B) T → Proper B T
  unfolding close_over
  proper_open T t = record { long = t.long; written· = t.written· }

  module _ (w : WellFormed B) where
    v : WellFormed (close_over S B)
    v = closed_well S B w

    -- ---- table 0 of the closed book

    start_goes : (p : ℕ) → p < length B.arities → S p ≡ true → entry (start (close_over S B)) p ≡ entry (final B) p
    unfolding close_over
    start_goes p h s =
        let k : ℕ = get_or B.arities p 0 in
        start_at (close_over S B) v p h
        ∙ ap (λ (o : Option (List ℕ)). minimise (asked o)) (mode_goes p h s)
        ∙ minimise_same (entry (final B) p)
        (is_written_mono (2 ^ k) all_patterns (entry (final B) p) (power_le k (arity_low B w p)) ((final_proper B w).written· p h))

    start_stays : (p : ℕ) → p < length B.arities → S p ≡ false → entry (start (close_over S B)) p ≡ entry (start B) p
    unfolding close_over
    start_stays p h s = start_at (close_over S B) v p h ∙ ap (λ (o : Option (List ℕ)). minimise (asked o)) (mode_stays p h s) ∙ sym (start_at B w p h)

    -- ---- each final table is below the other

    final_le_closed : More (final B) (final (close_over S B))
    final_le_closed = greatest (close_over S B) v (final B) (proper_close (final B) (final_proper B w)) below held
      where
        below : More (final B) (start (close_over S B))
        below p a e =
            by_range p (length B.arities)
            (λ h. by_bool (S p) (λ s. rw (start_goes p h s) e) (λ s. rw (start_stays p h s) (final_below_start B w p a e)))
            (λ h. past_none (final B) p a (omega (arith, (final_proper B w).long)) e)

        held : Closed (close_over S B) (final B)
        held p d a e =
            by_bool (S p)
            (λ s. clash d (defined_goes p s))
            (λ s. good_stays (final B) p a s ∙ final_closed B w p (sym (defined_stays p s) ∙ d) a e)

    closed_le_final : More (final (close_over S B)) (final B)
    closed_le_final = greatest B w G (proper_open G (final_proper (close_over S B) v)) below held
      where
        G : Table
        G = final (close_over S B)

        chosen : (p a : ℕ) → p < length B.arities → S p ≡ true → admits (entry G p) a ≡ true → admits (entry (final B) p) a ≡ true
        chosen p a h s e = rw (start_goes p h s) at (final_below_start (close_over S B) v p a e)

        inside : (p a : ℕ) → admits (entry G p) a ≡ true → p < length B.arities
        inside p a e =
            by_range p (length B.arities) (λ h. h)
            (λ h. past_none G p a (omega (arith, (proper_open G (final_proper (close_over S B) v)).long)) e)

        below : More G (start B)
        below p a e =
            let h = inside p a e in
            by_bool (S p)
            (λ s. final_below_start B w p a (chosen p a h s e))
            (λ s. rw (start_stays p h s) at (final_below_start (close_over S B) v p a e))

        held : Closed B G
        held p d a e =
            by_bool (S p)
            (λ s. good_more (final B) G final_le_closed B.clauses p a (final_closed B w p d a (chosen p a (inside p a e) s e)))
            (λ s. sym (good_stays G p a s) ∙ final_closed (close_over S B) v p (defined_stays p s ∙ d) a e)

    pub final_close : final (close_over S B) ≡ final B
    final_close =
        more_antisym B (final (close_over S B)) (final B) (proper_open (final (close_over S B)) (final_proper (close_over S B) v)) (final_proper B w)
        closed_le_final final_le_closed
