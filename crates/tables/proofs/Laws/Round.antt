-- One round. What is good stays good where more is bound or the table admits more; and a predicate's constraint after a round depends only on its MO and on
-- those of the predicates that its clauses call. Assumes nothing.
use mathlib.Core.Path.{◌≡◌, refl, ap, ◌∙◌, subst}
use mathlib.Core.Bool.{Bool, true, false, cond, ◌&&◌, false≢true}
use mathlib.Core.List.{List, [], ◌∷◌}
use Prim.Native.Nat.{ℕ, ◌^◌, ◌≤◌, ◌<◌}
use lib.Dec.{eqb}
use lib.ListN.{length, get_or, get_or-eq_default}
use Rattle.masks.specs.Lists.{any, all}
use Rattle.masks.specs.Mask.{within}
use Rattle.masks.specs.Constraint.{admits, written}
use Rattle.masks.proofs.Laws.Logic.{and_intro, and_left, and_right}
use Rattle.masks.proofs.Laws.Lists.{all_mono, all_same, length_values, get_or_values}
use Rattle.masks.proofs.Laws.Mask.{within_refl}
use Rattle.masks.proofs.Laws.Constraint.{Up, admits_up, admits_written_up, written_sound, written_cong}
use Rattle.book.specs.Book.{Clause, Book}
use Rattle.book.specs.Table.{Table, entry, table_in}
use Rattle.book.proofs.Laws.Sets.{calls_below}
use Rattle.ordering.specs.Good.{good_clause}
use Rattle.ordering.proofs.Laws.Held.{outside, calls_below_outside, table_in_cut}
use Rattle.ordering.proofs.Laws.Adorn.{More, more_refl}
use Rattle.ordering.proofs.Laws.Good.{good_clause_mono, clause_same}
use Rattle.tables.specs.Calls.{calls, touched}
use Rattle.tables.specs.Table.{declared, own, defined, good, gets, next, step}

-- ---- tables

-- nothing is admitted past the end of a table
pub past_none : {P : Type 0} (T : Table) (p a : ℕ) → length T ≤ p → admits (entry T p) a ≡ true → P
unfolding admits
past_none T p a h e = absurd (false≢true (subst (λ (c : List ℕ). admits c a ≡ true) (get_or-eq_default T [] h) e))

pub more_trans : (T U W : Table) → More T U → More U W → More T W
more_trans T U W f g p a h = g p a (f p a h)

-- ---- good patterns

pub good_mono : (T U : Table) → More T U → (cs : List Clause) (p a b : ℕ) → within a b ≡ true → good T cs p a ≡ true → good U cs p b ≡ true
unfolding good
good_mono T U h cs p a b w =
    all_mono (λ c. good_clause T c a) (λ c. good_clause U c b) (λ c. good_clause_mono T U c a b h w) (own cs p)

pub good_up : (T : Table) (cs : List Clause) (p : ℕ) → Up (good T cs p)
good_up T cs p a b w = good_mono T T (more_refl T) cs p a b w

-- MONOTONE: a table that admits more keeps a pattern good
pub good_more : (T U : Table) → More T U → (cs : List Clause) (p a : ℕ) → good T cs p a ≡ true → good U cs p a ≡ true
good_more T U h cs p a = good_mono T U h cs p a a (within_refl a)

-- ---- the patterns that a predicate gets: those of its MO that are good

module _ (B : Book) where
  pub gets_good : (T : Table) (p a : ℕ) → gets B T p a ≡ true → (admits (declared B.modes p) a ≡ true) × (good T B.clauses p a ≡ true)
  unfolding gets
  gets_good T p a e =
      let m = admits (declared B.modes p) a in
      (and_left m (good T B.clauses p a) e, and_right m (good T B.clauses p a) e)

  pub good_gets : (T : Table) (p a : ℕ) → admits (declared B.modes p) a ≡ true → good T B.clauses p a ≡ true → gets B T p a ≡ true
  unfolding gets
  good_gets T p a m g = and_intro m g

  gets_mono : (T U : Table) → More T U → (p a b : ℕ) → within a b ≡ true → gets B T p a ≡ true → gets B U p b ≡ true
  gets_mono T U h p a b w e =
      let g = gets_good T p a e in
      good_gets U p b (admits_up (declared B.modes p) a b w g.0) (good_mono T U h B.clauses p a b w g.1)

  pub gets_up : (T : Table) (p : ℕ) → Up (gets B T p)
  gets_up T p a b w = gets_mono T T (more_refl T) p a b w

  -- MONOTONE, with the MO, which no round changes
  pub gets_more : (T U : Table) → More T U → (p a : ℕ) → gets B T p a ≡ true → gets B U p a ≡ true
  gets_more T U h p a = gets_mono T U h p a a (within_refl a)

-- ---- who calls whom

module _ (T U : Table) (x : ℕ → Bool) (agree : (q : ℕ) → x q ≡ false → entry T q ≡ entry U q) where
  pub good_same : (cs : List Clause) (p : ℕ) → touched x cs p ≡ false → (a : ℕ) → good T cs p a ≡ good U cs p a
  unfolding touched good calls
  good_same cs p n a = all_same (λ c. good_clause T c a) (λ c. good_clause U c a) (calls x) (λ c e. clause_same T U x agree c a e) (own cs p) n

  -- so where no clause of p calls what changed, a round gives p what the round before gave it
  pub next_same : (B : Book) (p : ℕ) → defined B.clauses p ≡ true → touched x B.clauses p ≡ false → next B T p ≡ next B U p
  unfolding next gets
  next_same B p d n =
      rw d
      (written_cong (gets B T p) (gets B U p) (2 ^ get_or B.arities p 0)
      (λ a l. ap (λ (b : Bool). admits (declared B.modes p) a && b) (good_same B.clauses p n a)))

-- clauses that call predicates below n only touch none that is not
touched_inside : (n : ℕ) (cs : List Clause) (p : ℕ) → all (λ c. calls_below n c.body) cs ≡ true → touched (outside n) cs p ≡ false
unfolding calls touched own
touched_inside n [] p t = refl
touched_inside n (c ∷ cs) p t = go (eqb c.head.pred p) (touched_inside n cs p (and_right (calls_below n c.body) (all (λ c. calls_below n c.body) cs) t))
  where
    go : (b : Bool) → any (calls (outside n)) (own cs p) ≡ false → any (calls (outside n)) (cond b (c ∷ own cs p) (own cs p)) ≡ false
    go true r = rw (calls_below_outside n c.body (and_left (calls_below n c.body) (all (λ c. calls_below n c.body) cs) t)) r
    go false r = r

-- so for them a table that goes on past the n predicates of the book is as good as one that does not
pub good_cut : (table : List ℕ) (n m : ℕ) → n ≤ m → (cs : List Clause) → all (λ c. calls_below n c.body) cs ≡ true → (p a : ℕ)
    → good (table_in table m) cs p a ≡ good (table_in table n) cs p a
good_cut table n m h cs t p a = good_same (table_in table m) (table_in table n) (outside n) (table_in_cut table n m h) cs p (touched_inside n cs p t) a

-- ---- the table after a round

module _ (B : Book) (T : Table) where
  pub step_length : length (step B T) ≡ length B.arities
  unfolding step
  step_length = length_values (next B T) (length B.arities)

  module _ (p : ℕ) (h : p < length B.arities) where
    pub step_at : entry (step B T) p ≡ next B T p
    unfolding step
    step_at = get_or_values (next B T) [] (length B.arities) p h

    pub step_defined : defined B.clauses p ≡ true → entry (step B T) p ≡ written (gets B T p) (2 ^ get_or B.arities p 0)
    unfolding next
    step_defined d = step_at ∙ rw d

    pub step_outside : defined B.clauses p ≡ false → entry (step B T) p ≡ entry T p
    unfolding next
    step_outside d = step_at ∙ rw d

    -- "gets exactly the patterns good", of those of its MO
    pub step_admits : defined B.clauses p ≡ true → (a : ℕ) → a < 2 ^ get_or B.arities p 0 → admits (entry (step B T) p) a ≡ gets B T p a
    step_admits d a l =
        ap (λ (c : List ℕ). admits c a) (step_defined d) ∙ admits_written_up (gets B T p) (gets_up B T p) (2 ^ get_or B.arities p 0) a l

    -- and none else, whatever stands in the bits past the arity
    pub step_sound : defined B.clauses p ≡ true → (a : ℕ) → admits (entry (step B T) p) a ≡ true → gets B T p a ≡ true
    step_sound d a e =
        written_sound (gets B T p) (gets_up B T p) (2 ^ get_or B.arities p 0) a (subst (λ (c : List ℕ). admits c a ≡ true) (step_defined d) e)
