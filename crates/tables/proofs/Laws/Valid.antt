-- What a well-formed book says of its predicates: their arities and masks are in range, and every clause is of a predicate of the book and calls such only,
-- each with as many arguments as its arity. Assumes nothing.
use mathlib.Core.Path.{◌≡◌, refl, ap, ◌∙◌}
use mathlib.Core.Bool.{Bool, true, false, cond}
use mathlib.Core.List.{List, [], ◌∷◌}
use mathlib.Core.Option.{Option, none, some}
use Prim.Native.Nat.{ℕ, ◌^◌, ◌≤◌, ◌<◌}
use lib.Dec.{eqb}
use lib.ListN.{length, get_or}
use lib.Pow.{pow_pos}
use borrow.Author.Tests.{eqb-true, eq-eqb, ltb-true, lt-ltb, leb-true}
use Rattle.masks.specs.Limits.{max_arity}
use Rattle.masks.specs.Lists.{any, all}
use Rattle.masks.specs.Constraint.{in_range}
use Rattle.masks.proofs.Laws.Logic.{clash, and_intro, and_left, and_right, or_case}
use Rattle.masks.proofs.Laws.Lists.{all_mono, all_at}
use Rattle.book.specs.Book.{Call, no_call, Clause, Book}
use Rattle.book.specs.Format.{allows}
use Rattle.book.specs.Limits.{max_predicates}
use Rattle.book.specs.Sets.{callable}
use Rattle.book.specs.Encode.{call_fits, mode_fits, clause_fits, WellFormed}
use Rattle.book.proofs.Laws.Trip as trip
use Rattle.book.proofs.Laws.Trip.{head_size, call_known, call_size, mode_range, clause_head, clause_goals}
use Rattle.book.proofs.Laws.Bound.{arities_at}
use Rattle.book.proofs.Laws.Sets.{calls_below, fit_below, fit_callable}
use Rattle.ordering.specs.Good.{at}
use Rattle.tables.specs.Table.{mode_of, asked, declared, own, defined}
use Rattle.tables.proofs.Laws.Modes.{mode_of_all}

-- ---- a clause

body_known : (ar : List ℕ) (c : Clause) → clause_fits ar c ≡ true → calls_below (length ar) c.body ≡ true
body_known ar c t = fit_below ar c.body (clause_goals ar c t)

head_known : (ar : List ℕ) (c : Clause) → clause_fits ar c ≡ true → c.head.pred < length ar
unfolding allows
head_known ar c t = ltb-true c.head.pred (length ar) (trip.head_known ar c.head (clause_head ar c t))

defined_fits : (ar : List ℕ) (cs : List Clause) → all (clause_fits ar) cs ≡ true → (p : ℕ) → defined cs p ≡ true → p < length ar
unfolding defined
defined_fits ar [] t p d = clash d refl
defined_fits ar (c ∷ cs) t p d =
    or_case (eqb c.head.pred p) (any (λ c. eqb c.head.pred p) cs) d
    (λ e. rw (← eqb-true c.head.pred p e) (head_known ar c (and_left (clause_fits ar c) (all (clause_fits ar) cs) t)))
    (defined_fits ar cs (and_right (clause_fits ar c) (all (clause_fits ar) cs) t) p)

-- the clauses of p have heads of its arity
pub own_arity : (ar : List ℕ) (cs : List Clause) → all (clause_fits ar) cs ≡ true → (p : ℕ)
    → all (λ c. eqb (length c.head.args) (get_or ar p 0)) (own cs p) ≡ true
unfolding own
own_arity ar [] t p = refl
own_arity ar (c ∷ cs) t p =
    go (eqb c.head.pred p) refl (own_arity ar cs (and_right (clause_fits ar c) (all (clause_fits ar) cs) t) p)
  where
    go : (b : Bool) → eqb c.head.pred p ≡ b → all (λ c. eqb (length c.head.args) (get_or ar p 0)) (own cs p) ≡ true
        → all (λ c. eqb (length c.head.args) (get_or ar p 0)) (cond b (c ∷ own cs p) (own cs p)) ≡ true
    go true e r =
        and_intro
        (eq-eqb (length c.head.args) (get_or ar p 0)
        (head_size ar c.head (clause_head ar c (and_left (clause_fits ar c) (all (clause_fits ar) cs) t))
        ∙ ap (λ (q : ℕ). get_or ar q 0) (eqb-true c.head.pred p e))) r
    go false e r = r

-- ---- a body or query

module _ (ar : List ℕ) (body : List Call) (t : all (call_fits ar) body ≡ true) (p : ℕ) (h : p < length body) where
  goal_fits : call_fits ar (at body p) ≡ true
  unfolding at
  goal_fits = all_at (call_fits ar) no_call body p h t

  pub goal_known : (at body p).pred < length ar
  unfolding allows
  goal_known = ltb-true (at body p).pred (length ar) (call_known ar (at body p) goal_fits)

  pub goal_size : length (at body p).args ≡ get_or ar (at body p).pred 0
  goal_size = call_size ar (at body p) goal_fits

-- ---- a book

module _ (B : Book) (w : WellFormed B) where
  pub arity_low : (p : ℕ) → get_or B.arities p 0 ≤ max_arity
  arity_low p = arities_at B.arities w.arities_fit p

  pub masks_low : (p : ℕ) (masks : List ℕ) → mode_of B.modes p ≡ some masks → in_range (2 ^ get_or B.arities p 0) masks ≡ true
  unfolding in_range allows
  masks_low p masks e = mode_range B.arities (record { pred = p; masks = masks }) (mode_of_all (mode_fits B.arities) B.modes w.modes_fit p masks e)

  pub declared_low : (p : ℕ) → in_range (2 ^ get_or B.arities p 0) (declared B.modes p) ≡ true
  unfolding in_range
  declared_low p = go (mode_of B.modes p) refl
    where
      go : (o : Option (List ℕ)) → mode_of B.modes p ≡ o → in_range (2 ^ get_or B.arities p 0) (asked o) ≡ true
      go none e = rw (lt-ltb 0 (2 ^ get_or B.arities p 0) (pow_pos (get_or B.arities p 0)))
      go (some masks) e = masks_low p masks e

  pub defined_known : (p : ℕ) → defined B.clauses p ≡ true → p < length B.arities
  defined_known p d = defined_fits B.arities B.clauses w.clauses_fit p d

  pub bodies_known : all (λ c. calls_below (length B.arities) c.body) B.clauses ≡ true
  bodies_known =
      all_mono (clause_fits B.arities) (λ c. calls_below (length B.arities) c.body) (body_known B.arities) B.clauses w.clauses_fit

  few_preds : length B.arities ≤ max_predicates
  few_preds = leb-true (length B.arities) max_predicates w.few_predicates

  pub query_callable : callable B.query ≡ true
  query_callable = fit_callable B.arities few_preds B.query w.query_fits

  pub query_calls_lem : calls_below (length B.arities) B.query ≡ true
  query_calls_lem = fit_below B.arities B.query w.query_fits

  module _ (d : Clause) (i : ℕ) (h : i < length B.clauses) where
    clause_fits_lem : clause_fits B.arities (get_or B.clauses i d) ≡ true
    clause_fits_lem = all_at (clause_fits B.arities) d B.clauses i h w.clauses_fit

    pub clause_own : (get_or B.clauses i d).head.pred < length B.arities
    clause_own = head_known B.arities (get_or B.clauses i d) clause_fits_lem

    pub goals_fit : all (call_fits B.arities) (get_or B.clauses i d).body ≡ true
    goals_fit = clause_goals B.arities (get_or B.clauses i d) clause_fits_lem

    pub clause_calls_lem : calls_below (length B.arities) (get_or B.clauses i d).body ≡ true
    clause_calls_lem = body_known B.arities (get_or B.clauses i d) clause_fits_lem

    pub clause_callable : callable (get_or B.clauses i d).body ≡ true
    clause_callable = fit_callable B.arities few_preds (get_or B.clauses i d).body goals_fit
