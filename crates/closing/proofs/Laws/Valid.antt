-- A closed book is a valid book: its modes rise, a written form has at most twenty masks, and the clauses that stay are as they were. Assumes nothing.
use mathlib.Core.Path.{◌≡◌, refl}
use mathlib.Core.Bool.{Bool, true, false, cond}
use mathlib.Core.List.{List, [], ◌∷◌}
use mathlib.Core.Option.{Option, some, some-injective}
use Prim.Native.Nat.{ℕ, ◌^◌, ◌≤◌, ◌<◌}
use native.Mathlib.Omega.{arith}
use lib.ListN.{length, get_or}
use borrow.Author.Tests.{lt-ltb, le-leb, leb-true}
use Rattle.masks.specs.Limits.{max_masks}
use Rattle.masks.specs.Lists.{all}
use Rattle.masks.specs.Constraint.{in_range}
use Rattle.book.specs.Limits.{max_clauses}
use Rattle.book.specs.Book.{Clause, Book}
use Rattle.book.specs.Format.{allows}
use Rattle.book.specs.Encode.{mode_fits, clause_fits, WellFormed}
use Rattle.book.specs.Table.{entry}
use Rattle.tables.specs.Table.{mode_of, final}
use Rattle.closing.specs.Close.{kept_clauses, closed_mode, closed_modes, close_over}
use Rattle.masks.proofs.Laws.Logic.{by_bool, and_intro, and_left, and_right}
use Rattle.masks.proofs.Laws.Constraint.{written_in_range}
use Rattle.tables.proofs.Laws.Rounds.{final_proper}
use Rattle.tables.proofs.Laws.Image.{final_few}
use Rattle.tables.proofs.Laws.Modes.{mode_of_all}
use Rattle.closing.proofs.Laws.Modes.{made_rises, all_made}

kept_few : (S : ℕ → Bool) (cs : List Clause) → length (kept_clauses S cs) ≤ length cs
unfolding kept_clauses
kept_few S [] = omega arith
kept_few S (c ∷ cs) =
    let h = kept_few S cs in
    by_bool (S c.head.pred) (λ t. rw t (omega arith)) (λ t. rw t (omega arith))

kept_all : (t : Clause → Bool) (S : ℕ → Bool) (cs : List Clause) → all t cs ≡ true → all t (kept_clauses S cs) ≡ true
unfolding kept_clauses
kept_all t S [] f = refl
kept_all t S (c ∷ cs) f =
    let rest = kept_all t S cs (and_right (t c) (all t cs) f) in
    by_bool (S c.head.pred) (λ e. rw e rest) (λ e. rw e (and_intro (and_left (t c) (all t cs) f) rest))

module _ (S : ℕ → Bool) (B : Book) (w : WellFormed B) where
  gives : ℕ → Option (List ℕ)
  gives p = closed_mode S (final B) B.modes p

  -- a written form of a predicate's positions
  final_fits : (p : ℕ) → p < length B.arities → mode_fits B.arities (record { pred = p; masks = entry (final B) p }) ≡ true
  unfolding allows in_range
  final_fits p h =
      and_intro (lt-ltb p (length B.arities) h)
      (and_intro (le-leb (length (entry (final B) p)) max_masks (final_few B w p h))
      (written_in_range (2 ^ get_or B.arities p 0) (entry (final B) p) ((final_proper B w).written· p h)))

  gives_fit : (p : ℕ) (masks : List ℕ) → p < length B.arities → gives p ≡ some masks → mode_fits B.arities (record { pred = p; masks = masks }) ≡ true
  unfolding gives closed_mode
  gives_fit p masks h = go (S p)
    where
      go : (b : Bool) → cond b (some (entry (final B) p)) (mode_of B.modes p) ≡ some masks → mode_fits B.arities (record { pred = p; masks = masks }) ≡ true
      go true e = rw (← some-injective (entry (final B) p) masks e) (final_fits p h)
      go false e = mode_of_all (mode_fits B.arities) B.modes w.modes_fit p masks e

  pub closed_well : WellFormed (close_over S B)
  unfolding close_over closed_modes gives
  closed_well =
      let few = kept_few S B.clauses in
      let most = leb-true (length B.clauses) max_clauses w.few_clauses in
      record {
        few_predicates = w.few_predicates;
        arities_fit = w.arities_fit;
        modes_fit = all_made (mode_fits B.arities) gives (length B.arities) gives_fit;
        modes_rise = made_rises gives (length B.arities);
        few_clauses = le-leb (length (kept_clauses S B.clauses)) max_clauses (omega arith);
        clauses_fit = kept_all (clause_fits B.arities) S B.clauses w.clauses_fit;
        few_asked = w.few_asked;
        query_fits = w.query_fits;
      }
