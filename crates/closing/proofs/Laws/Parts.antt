-- Closing in parts. Over one set and then over another is over both at once, and over none changes nothing. Assumes nothing.
use mathlib.Core.Path.{◌≡◌, refl, ap, ap₂, ◌∙◌, fun_ext}
use mathlib.Core.Bool.{Bool, true, false, cond, ◌||◌}
use mathlib.Core.List.{List, [], ◌∷◌}
use mathlib.Core.Option.{Option, some}
use Prim.Native.Nat.{ℕ, ◌<◌}
use lib.Dec.{ltb}
use lib.ListN.{length}
use Rattle.book.specs.Book.{Mode, Clause, Book}
use Rattle.book.specs.Format.{allows}
use Rattle.book.specs.Encode.{mode_fits, WellFormed}
use Rattle.book.specs.Table.{Table, entry}
use Rattle.tables.specs.Table.{mode_of, final}
use Rattle.closing.specs.Close.{kept_clauses, closed_mode, mode_with, closed_modes, close_over}
use Rattle.masks.proofs.Laws.Logic.{by_bool}
use Rattle.masks.proofs.Laws.Lists.{all_mono, joined_cong}
use Rattle.book.proofs.Laws.Trip.{mode_known}
use Rattle.closing.proofs.Laws.Modes.{made_back}
use Rattle.closing.proofs.Laws.Final.{mode_close, final_close}

-- the set of the predicates of either
abbrev pub either : (ℕ → Bool) → (ℕ → Bool) → ℕ → Bool
either S R p = S p || R p

pub close_cong : (S R : ℕ → Bool) → ((p : ℕ) → S p ≡ R p) → (B : Book) → close_over S B ≡ close_over R B
close_cong S R h B = ap (λ (X : ℕ → Bool). close_over X B) (fun_ext h)

-- a book with other modes and clauses
abbrev changed : Book → List Mode → List Clause → Book
changed B ms cs = record { arities = B.arities; modes = ms; clauses = cs; query = B.query }

-- ---- over one set and then over another

kept_kept : (S R : ℕ → Bool) (cs : List Clause) → kept_clauses R (kept_clauses S cs) ≡ kept_clauses (either S R) cs
unfolding kept_clauses
kept_kept S R [] = refl
kept_kept S R (c ∷ cs) =
    by_bool (S c.head.pred)
    (λ t. rw t (kept_kept S R cs))
    (λ t. rw t (ap (λ (l : List Clause). cond (R c.head.pred) l (c ∷ l)) (kept_kept S R cs)))

module _ (S R : ℕ → Bool) (B : Book) (w : WellFormed B) where
  closed_twice : (p : ℕ) → p < length B.arities
      → closed_mode R (final (close_over S B)) (close_over S B).modes p ≡ closed_mode (either S R) (final B) B.modes p
  unfolding closed_mode
  closed_twice p h =
      ap₂ (λ (T : Table) (o : Option (List ℕ)). cond (R p) (some (entry T p)) o) (final_close S B w) (mode_close S B p h)
      ∙ go (S p) (R p) (some (entry (final B) p)) (mode_of B.modes p)
    where
      go : (s r : Bool) (x y : Option (List ℕ)) → cond r x (cond s x y) ≡ cond (s || r) x y
      go true true x y = refl
      go true false x y = refl
      go false r x y = refl

  pub close_close : close_over R (close_over S B) ≡ close_over (either S R) B
  unfolding close_over closed_modes
  close_close =
      ap₂ (changed B)
      (joined_cong (λ p. mode_with p (closed_mode R (final (close_over S B)) (close_over S B).modes p))
      (λ p. mode_with p (closed_mode (either S R) (final B) B.modes p)) (length B.arities) (λ p h. ap (mode_with p) (closed_twice p h)))
      (kept_kept S R B.clauses)

-- ---- over none

module _ (S : ℕ → Bool) (none_in : (p : ℕ) → S p ≡ false) where
  kept_all : (cs : List Clause) → kept_clauses S cs ≡ cs
  unfolding kept_clauses
  kept_all [] = refl
  kept_all (c ∷ cs) = rw (none_in c.head.pred) (ap {B = List Clause} (λ (l : List Clause). c ∷ l) (kept_all cs))

  closed_none : (T : Table) (ms : List Mode) (p : ℕ) → closed_mode S T ms p ≡ mode_of ms p
  unfolding closed_mode
  closed_none T ms p = rw (none_in p)

  pub close_none : (B : Book) → WellFormed B → close_over S B ≡ B
  unfolding close_over closed_modes allows
  close_none B w =
      ap₂ (changed B)
      (joined_cong (λ p. mode_with p (closed_mode S (final B) B.modes p)) (λ p. mode_with p (mode_of B.modes p)) (length B.arities)
      (λ p h. ap (mode_with p) (closed_none (final B) B.modes p))
      ∙ made_back B.modes (length B.arities) w.modes_rise
      (all_mono (mode_fits B.arities) (λ (m : Mode). ltb m.pred (length B.arities)) (mode_known B.arities) B.modes w.modes_fit))
      (kept_all B.clauses)
