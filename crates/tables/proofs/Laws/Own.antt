-- The clauses of a predicate in a list, and what is told of them: of each by its number, and where one clause more stands at the end. Assumes
-- nothing.
use mathlib.Core.Path.{◌≡◌, refl, sym, ap, ◌∙◌}
use mathlib.Core.Bool.{Bool, true, false, cond, ◌&&◌, ◌||◌, and-true, and-false, or-false}
use mathlib.Core.List.{List, [], ◌∷◌, ◌++◌}
use Prim.Native.Nat.{ℕ, zero, suc, ◌<◌}
use native.Mathlib.Omega.{arith}
use lib.Dec.{eqb}
use lib.ListN.{length, get_or}
use borrow.Author.Tests.{eqb-true, eqb-false, eq-eqb}
use Rattle.masks.specs.Lists.{any, all}
use Rattle.masks.proofs.Laws.Logic.{and_intro, and_left, and_right}
use Rattle.masks.proofs.Laws.Lists.{any_append, all_append, any_at}
use Rattle.book.specs.Book.{Clause}
use Rattle.book.specs.Table.{Table}
use Rattle.ordering.specs.Good.{good_clause}
use Rattle.tables.specs.Calls.{calls, touched}
use Rattle.tables.specs.Table.{own, defined, good}

-- ---- a clause by its number

module _ (d : Clause) where
  module _ (t : Clause → Bool) (p : ℕ) where
    -- a test of all clauses of p is one of each clause that is of p
    own_at : (cs : List Clause) → all t (own cs p) ≡ true → (k : ℕ) → k < length cs → (get_or cs k d).head.pred ≡ p → t (get_or cs k d) ≡ true
    unfolding own
    own_at [] g k l e = absurd (omega arith)
    own_at (c ∷ cs) g k l e = go (eqb c.head.pred p) refl k (own_at cs) g l e
      where
        go : (b : Bool) → eqb c.head.pred p ≡ b → (k : ℕ)
            → (all t (own cs p) ≡ true → (k : ℕ) → k < length cs → (get_or cs k d).head.pred ≡ p → t (get_or cs k d) ≡ true)
            → all t (cond b (c ∷ own cs p) (own cs p)) ≡ true → k < suc (length cs) → (get_or (c ∷ cs) k d).head.pred ≡ p → t (get_or (c ∷ cs) k d) ≡ true
        go true q zero r g l e = and_left (t c) (all t (own cs p)) g
        go true q (suc k) r g l e = r (and_right (t c) (all t (own cs p)) g) k (omega arith) e
        go false q zero r g l e = absurd (eqb-false c.head.pred p q e)
        go false q (suc k) r g l e = r g k (omega arith) e

    at_own : (cs : List Clause) → ((k : ℕ) → k < length cs → (get_or cs k d).head.pred ≡ p → t (get_or cs k d) ≡ true) → all t (own cs p) ≡ true
    unfolding own
    at_own [] h = refl
    at_own (c ∷ cs) h = go (eqb c.head.pred p) refl (at_own cs (λ k l e. h (suc k) (omega arith) e))
      where
        go : (b : Bool) → eqb c.head.pred p ≡ b → all t (own cs p) ≡ true → all t (cond b (c ∷ own cs p) (own cs p)) ≡ true
        go true q r = and_intro (h 0 (omega arith) (eqb-true c.head.pred p q)) r
        go false q r = r

  -- "A predicate's pattern is good when all its clauses are good under it."
  module _ (T : Table) (cs : List Clause) (p a : ℕ) where
    pub good_at_lem : good T cs p a ≡ true → (k : ℕ) → k < length cs → (get_or cs k d).head.pred ≡ p → good_clause T (get_or cs k d) a ≡ true
    unfolding good
    good_at_lem g = own_at (λ c. good_clause T c a) p cs g

    pub at_good : ((k : ℕ) → k < length cs → (get_or cs k d).head.pred ≡ p → good_clause T (get_or cs k d) a ≡ true) → good T cs p a ≡ true
    unfolding good
    at_good h = at_own (λ c. good_clause T c a) p cs h

  -- the predicate of a clause has clauses
  pub defined_at : (cs : List Clause) (k : ℕ) → k < length cs → defined cs (get_or cs k d).head.pred ≡ true
  unfolding defined
  defined_at cs k l =
      any_at (λ c. eqb c.head.pred (get_or cs k d).head.pred) d cs k l (eq-eqb (get_or cs k d).head.pred (get_or cs k d).head.pred refl)

-- ---- one clause more

pub own_append : (xs ys : List Clause) (p : ℕ) → own (xs ++ ys) p ≡ own xs p ++ own ys p
unfolding own
own_append [] ys p = refl
own_append (c ∷ xs) ys p = go (eqb c.head.pred p) (own_append xs ys p)
  where
    go : (b : Bool) → own (xs ++ ys) p ≡ own xs p ++ own ys p
        → cond b (c ∷ own (xs ++ ys) p) (own (xs ++ ys) p) ≡ cond b (c ∷ own xs p) (own xs p) ++ own ys p
    go true e = ap {B = List Clause} (λ (l : List Clause). c ∷ l) e
    go false e = e

module _ (cs : List Clause) (c : Clause) (p : ℕ) where
  pub defined_snoc : defined (cs ++ (c ∷ [])) p ≡ (defined cs p || eqb c.head.pred p)
  unfolding defined
  defined_snoc =
      any_append (λ (d : Clause). eqb d.head.pred p) cs (c ∷ []) ∙ ap (λ (b : Bool). defined cs p || b) (or-false (eqb c.head.pred p))

  pub touched_snoc : (x : ℕ → Bool) → touched x (cs ++ (c ∷ [])) p ≡ (touched x cs p || (calls x c && eqb c.head.pred p))
  unfolding touched own
  touched_snoc x =
      ap (any (calls x)) (own_append cs (c ∷ []) p)
      ∙ any_append (calls x) (own cs p) (own (c ∷ []) p)
      ∙ ap (λ (b : Bool). any (calls x) (own cs p) || b) (go (eqb c.head.pred p))
    where
      go : (b : Bool) → any (calls x) (cond b (c ∷ []) []) ≡ (calls x c && b)
      go true = or-false (calls x c) ∙ sym (and-true (calls x c))
      go false = sym (and-false (calls x c))

  pub good_snoc : (T : Table) (a : ℕ) → good T (cs ++ (c ∷ [])) p a ≡ (good T cs p a && cond (eqb c.head.pred p) (good_clause T c a) true)
  unfolding good own
  good_snoc T a =
      ap (all (λ (d : Clause). good_clause T d a)) (own_append cs (c ∷ []) p)
      ∙ all_append (λ (d : Clause). good_clause T d a) (own cs p) (own (c ∷ []) p)
      ∙ ap (λ (b : Bool). all (λ (d : Clause). good_clause T d a) (own cs p) && b) (go (eqb c.head.pred p))
    where
      go : (b : Bool) → all (λ (d : Clause). good_clause T d a) (cond b (c ∷ []) []) ≡ cond b (good_clause T c a) true
      go true = and-true (good_clause T c a)
      go false = refl

-- a predicate with a clause that calls has a clause
pub touched_defined : (x : ℕ → Bool) (cs : List Clause) (p : ℕ) → touched x cs p ≡ true → defined cs p ≡ true
unfolding touched own defined
touched_defined x [] p t = t
touched_defined x (c ∷ cs) p t = go (eqb c.head.pred p) (touched_defined x cs p) t
  where
    go : (b : Bool) → (any (calls x) (own cs p) ≡ true → any (λ c. eqb c.head.pred p) cs ≡ true)
        → any (calls x) (cond b (c ∷ own cs p) (own cs p)) ≡ true → (b || any (λ c. eqb c.head.pred p) cs) ≡ true
    go true r e = refl
    go false r e = r e
