-- The calls of a body in an order. An order is good exactly where its calls fit and W9's rule holds of each negated subgoal in its turn. Assumes nothing.
use mathlib.Core.Path.{◌≡◌, refl, ap}
use mathlib.Core.Bool.{true, ◌&&◌, false≢true}
use mathlib.Core.Logic.{inl, inr}
use mathlib.Core.List.{List, [], ◌∷◌, ◌++◌}
use Prim.Native.Nat.{ℕ}
use lib.Dec.{eqb}
use borrow.Author.Tests.{eqb-true, eq-eqb}
use Rattle.masks.specs.Lists.{any}
use Rattle.masks.specs.Constraint.{admits}
use Rattle.book.specs.Book.{Call}
use Rattle.book.specs.Table.{Table, entry}
use Rattle.ordering.specs.Adorn.{Bound, pattern_of, known, ready}
use Rattle.ordering.specs.Orders.{In}
use Rattle.ordering.specs.Turns as turns
use Rattle.ordering.specs.Good.{at, ready_at, after_at, good_from, known_from, ran}
use Rattle.ordering.specs.Asks.{Asked, asks, called}
use Rattle.masks.proofs.Laws.Logic.{and_intro, and_left, and_right, or_left, or_right, or_case}
use Rattle.ordering.proofs.Laws.Greedy.{good_parts, good_cons}
use Rattle.ordering.proofs.Laws.Adorn.{ready_fits, ready_known, fits_ready}

-- ---- each call

-- what the first call is, or what one of the others is
pub called_case : (P : ℕ → ℕ → Type 0) (x : Asked) (xs : List Asked) (q a : ℕ) → called q a (x ∷ xs) ≡ true → P x.pred x.pattern → (called q a xs ≡ true → P q a) → P q a
called_case P x xs q a e f g =
    or_case (eqb x.pred q && eqb x.pattern a) (called q a xs) e
    (λ t.
    let u = eqb-true x.pred q (and_left (eqb x.pred q) (eqb x.pattern a) t) in
    let v = eqb-true x.pattern a (and_right (eqb x.pred q) (eqb x.pattern a) t) in
    rw (← u, ← v) f)
    g

pub called_first : (x : Asked) (xs : List Asked) → called x.pred x.pattern (x ∷ xs) ≡ true
called_first x xs =
    or_left (eqb x.pred x.pred && eqb x.pattern x.pattern) (called x.pred x.pattern xs)
    (and_intro (eq-eqb x.pred x.pred refl) (eq-eqb x.pattern x.pattern refl))

-- a predicate that is called under a pattern is called
pub called_pred : (q a : ℕ) (xs : List Asked) → called q a xs ≡ true → any (λ (x : Asked). eqb x.pred q) xs ≡ true
called_pred q a [] e = e
called_pred q a (x ∷ xs) e =
    or_case (eqb x.pred q && eqb x.pattern a) (called q a xs) e
    (λ t. or_left (eqb x.pred q) (any (λ (x : Asked). eqb x.pred q) xs) (and_left (eqb x.pred q) (eqb x.pattern a) t))
    (λ t. or_right (eqb x.pred q) (called_pred q a xs t))

-- what holds of every subgoal of an order under whatever is bound, holds of every call
pub asks_each : (P : ℕ → ℕ → Type 0) (body : List Call) (b : Bound) (σ : List ℕ) → ((p : ℕ) (c : Bound) → In p σ → P (at body p).pred (pattern_of c (at body p).args))
    → (q a : ℕ) → called q a (asks body b σ) ≡ true → P q a
unfolding asks
asks_each P body b [] h q a e = absurd (false≢true e)
asks_each P body b (p ∷ σ) h q a e =
    called_case P (record { pred = (at body p).pred; pattern = pattern_of b (at body p).args }) (asks body (after_at body b p) σ) q a e
    (h p b (inl refl))
    (λ t. asks_each P body (after_at body b p) σ (λ r c i. h r c (inr i)) q a t)

-- ---- good orders

-- P holds of each subgoal of an order in its turn, with what is bound then
abbrev pub EachTurn : (Bound → Call → Type 0) → List Call → Bound → List ℕ → Type 0
EachTurn P body b [] = Unit {0}
EachTurn P body b (p ∷ σ) = P b (at body p) × EachTurn P body (after_at body b p) σ

module _ (T : Table) (body : List Call) where
  -- the calls of a good order fit
  pub asks_fit : (b : Bound) (σ : List ℕ) → good_from T body b σ ≡ true → (q a : ℕ) → called q a (asks body b σ) ≡ true → admits (entry T q) a ≡ true
  unfolding asks
  asks_fit b [] g q a e = absurd (false≢true e)
  asks_fit b (p ∷ σ) g q a e =
      let h = good_parts (ready_at T body) (after_at body) b p σ g in
      called_case (λ r c. admits (entry T r) c ≡ true) (record { pred = (at body p).pred; pattern = pattern_of b (at body p).args }) (asks body (after_at body b p) σ) q a e
      (ready_fits T b (at body p) h.0)
      (λ t. asks_fit (after_at body b p) σ h.1 q a t)

  -- an order whose subgoals are ready, each in its turn, is good
  pub fit_asks : (b : Bound) (σ : List ℕ) → EachTurn (λ c s. ready T c s ≡ true) body b σ → good_from T body b σ ≡ true
  unfolding turns.good_from
  fit_asks b [] h = refl
  fit_asks b (p ∷ σ) h = good_cons (ready_at T body) (after_at body) b p σ h.0 (fit_asks (after_at body b p) σ h.1)

  -- those whose calls fit are, where W9's rule holds
  pub ready_asks : (b : Bound) (σ : List ℕ) → ((q a : ℕ) → called q a (asks body b σ) ≡ true → admits (entry T q) a ≡ true) → known_from body b σ ≡ true
      → EachTurn (λ c s. ready T c s ≡ true) body b σ
  unfolding asks
  ready_asks b [] h k = tt
  ready_asks b (p ∷ σ) h k =
      let x : Asked = record { pred = (at body p).pred; pattern = pattern_of b (at body p).args } in
      let u = good_parts (λ c q. known c (at body q)) (after_at body) b p σ k in (
        fits_ready T b (at body p) (h x.pred x.pattern (called_first x (asks body (after_at body b p) σ))) u.0,
        ready_asks (after_at body b p) σ (λ q a t. h q a (or_right (eqb x.pred q && eqb x.pattern a) t)) u.1,
      )

  -- it holds of a good order
  pub asks_known : (b : Bound) (σ : List ℕ) → good_from T body b σ ≡ true → known_from body b σ ≡ true
  unfolding turns.good_from
  asks_known b [] g = refl
  asks_known b (p ∷ σ) g =
      let h = good_parts (ready_at T body) (after_at body) b p σ g in
      good_cons (λ c q. known c (at body q)) (after_at body) b p σ (ready_known T b (at body p) h.0) (asks_known (after_at body b p) σ h.1)

-- ---- one place more

pub asks_snoc : (body : List Call) (b : Bound) (σ : List ℕ) (p : ℕ)
    → asks body b (σ ++ (p ∷ [])) ≡ asks body b σ ++ (record { pred = (at body p).pred; pattern = pattern_of (ran body b σ) (at body p).args } ∷ [])
unfolding asks turns.all_after
asks_snoc body b [] p = refl
asks_snoc body b (r ∷ σ) p =
    ap (λ (l : List Asked). record { pred = (at body r).pred; pattern = pattern_of b (at body r).args } ∷ l) (asks_snoc body (after_at body b r) σ p)

pub after_snoc : (body : List Call) (b : Bound) (σ : List ℕ) (p : ℕ) → ran body b (σ ++ (p ∷ [])) ≡ after_at body (ran body b σ) p
unfolding turns.all_after
after_snoc body b [] p = refl
after_snoc body b (r ∷ σ) p = after_snoc body (after_at body b r) σ p
