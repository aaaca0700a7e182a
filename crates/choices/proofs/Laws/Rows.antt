-- The rows of a plan, and how long it is. A clause of the book has a row under a pattern exactly where that pattern of its predicate is told; against a
-- table the row has the smallest of the good rearrangements. A clause is of one predicate, so it has at most one row under each pattern. Assumes nothing.
use mathlib.Core.Path.{◌≡◌, refl, ap, ◌∙◌, subst}
use mathlib.Core.Bool.{Bool, true, false, cond}
use mathlib.Core.Logic.{inl, inr, ⊎_elim}
use mathlib.Core.List.{List, [], ◌∷◌}
use mathlib.Core.Option.{Option, none, some}
use Prim.Native.Nat.{ℕ, ◌*◌, ◌≤◌, ◌<◌}
use native.Mathlib.Omega.{arith}
use lib.Dec.{eqb}
use lib.ListN.{length, length-append}
use borrow.Author.Tests.{eqb-true, eq-eqb, leb-true}
use Rattle.masks.specs.Limits.{all_patterns}
use Rattle.masks.specs.Lists.{joined, how_many}
use Rattle.book.specs.Limits.{max_clauses, max_subgoals, longest_plan}
use Rattle.book.specs.Book.{Call, no_clause, Book}
use Rattle.book.specs.Encode.{run, clause_fits, WellFormed}
use Rattle.book.specs.Table.{Table}
use Rattle.ordering.specs.Adorn.{Bound, nothing, head_bound, bit}
use Rattle.ordering.specs.Orders.{In, Rearranges, LexLt, Least, Sorted}
use Rattle.ordering.specs.Good.{good_from, first_good, is_some}
use Rattle.tables.specs.Table.{sum_below, final}
use Rattle.choices.specs.Choice.{clause, Choice, IsChoice}
use Rattle.choices.specs.Reached.{marked, reached}
use Rattle.choices.specs.Plan.{or_standing, first_choice, chosen, Row, row_key, rows_for, rows_under, rows_of, plan_rows, enc_query, enc_row, image}
use Rattle.masks.proofs.Laws.Logic.{clash}
use Rattle.masks.proofs.Laws.Lists.{all_at}
use Rattle.book.proofs.Laws.Encode.{run_joined}
use Rattle.book.proofs.Laws.Trip.{clause_few}
use Rattle.ordering.proofs.Laws.Orders.{cond_in, in_cond, in_joined, joined_in, sorted_joined, sorted_cond}
use Rattle.ordering.proofs.Laws.Good.{first_is_least}
use Rattle.tables.proofs.Laws.Sums.{sum_le, sum_most, sum_times, length_joined, how_many_times, how_many_parted}
use Rattle.choices.proofs.Laws.Moded.{chosen_choice}

-- ---- "for each reached predicate with clauses, ascending by predicate and then pattern, for each of its clauses in turn"

-- the row of clause k under pattern a
abbrev pub row_at : Choice → ℕ → ℕ → Row
row_at χ k a = record { clause· = k; pattern = a; places = χ.for_clause k a }

module _ (B : Book) (χ : Choice) where
  -- that row, where the clause is of p
  abbrev row_if : ℕ → ℕ → ℕ → List Row
  row_if p a k = cond (eqb (clause B k).head.pred p) (row_at χ k a ∷ []) []

  for_out : (p a : ℕ) (r : Row) → In r (rows_for B χ p a) → (k : ℕ) × (k < length B.clauses) × ((clause B k).head.pred ≡ p) × (r ≡ row_at χ k a)
  unfolding rows_for
  for_out p a r m =
      let (k, l, i) = joined_in r (row_if p a) (length B.clauses) m in
      let (e, j) = cond_in r (eqb (clause B k).head.pred p) (row_at χ k a ∷ []) i in
      (k, l, eqb-true (clause B k).head.pred p e, ⊎_elim (λ q. q) (λ n. absurd n) j)

  for_in : (k a : ℕ) → k < length B.clauses → In (row_at χ k a) (rows_for B χ (clause B k).head.pred a)
  unfolding rows_for
  for_in k a l =
      let p = (clause B k).head.pred in
      in_joined (row_at χ k a) (row_if p a) (length B.clauses) k l (in_cond (row_at χ k a) (eqb p p) (row_at χ k a ∷ []) (eq-eqb p p refl) (inl refl))

module _ (B : Book) (χ : Choice) (f : ℕ → ℕ → Bool) where
  -- the rows of p under pattern a, where f tells it
  abbrev rows_if : ℕ → ℕ → List Row
  rows_if p a = cond (f p a) (rows_for B χ p a) []

  -- a row is of a clause of the book, under a pattern that f tells of the clause's predicate, with the places of the choice
  pub rows_out : (r : Row) → In r (rows_under B χ f)
      → (r.clause· < length B.clauses) × (f (clause B r.clause·).head.pred r.pattern ≡ true)
      × (r.places ≡ χ.for_clause r.clause· r.pattern) × (r.pattern < all_patterns)
  unfolding rows_under
  rows_out r m =
      let (p, _, i) = joined_in r (λ p. joined (rows_if p) all_patterns) (length B.arities) m in
      let (a, l, j) = joined_in r (rows_if p) all_patterns i in
      let (t, n) = cond_in r (f p a) (rows_for B χ p a) j in
      let (k, h, e, q) = for_out B χ p a r n in
      rw q (h, ap (λ (u : ℕ). f u a) e ∙ t, refl, l)

  -- and each such row is there
  pub rows_in : (k a : ℕ) → k < length B.clauses → (clause B k).head.pred < length B.arities → a < all_patterns
      → f (clause B k).head.pred a ≡ true → In (row_at χ k a) (rows_under B χ f)
  unfolding rows_under
  rows_in k a h l s t =
      let p = (clause B k).head.pred in
      let r = row_at χ k a in
      in_joined r (λ p. joined (rows_if p) all_patterns) (length B.arities) p l
      (in_joined r (rows_if p) all_patterns a s (in_cond r (f p a) (rows_for B χ p a) t (for_in B χ k a h)))

-- ---- "ascending by predicate and then pattern, for each of its clauses in turn"

module _ (B : Book) (χ : Choice) where
  abbrev Before : Row → Row → Type 0
  Before r q = LexLt (row_key B r) (row_key B q)

  key_at : (p a k : ℕ) → (clause B k).head.pred ≡ p → row_key B (row_at χ k a) ≡ p ∷ a ∷ k ∷ []
  unfolding row_key
  key_at p a k e = ap (λ (q : ℕ). q ∷ a ∷ k ∷ []) e

  one_key : (p a k : ℕ) (r : Row) → In r (row_if B χ p a k) → row_key B r ≡ p ∷ a ∷ k ∷ []
  one_key p a k r m =
      let (e, j) = cond_in r (eqb (clause B k).head.pred p) (row_at χ k a ∷ []) m in
      ap (row_key B) (⊎_elim (λ q. q) (λ n. absurd n) j) ∙ key_at p a k (eqb-true (clause B k).head.pred p e)

  for_rises : (p a : ℕ) → Sorted Before (rows_for B χ p a)
  unfolding rows_for
  for_rises p a =
      sorted_joined Before (row_if B χ p a) (λ k. sorted_cond Before (eqb (clause B k).head.pred p) (row_at χ k a ∷ []) (λ y m. absurd m, tt))
      (λ i j l x y m n. rw (one_key p a i x m, one_key p a j y n) (inr (refl, inr (refl, inl l)))) (length B.clauses)

  module _ (f : ℕ → ℕ → Bool) where
    if_key : (p a : ℕ) (r : Row) → In r (rows_if B χ f p a) → (k : ℕ) × (row_key B r ≡ p ∷ a ∷ k ∷ [])
    if_key p a r m =
        let (k, _, e, q) = for_out B χ p a r (cond_in r (f p a) (rows_for B χ p a) m).1 in
        (k, ap (row_key B) q ∙ key_at p a k e)

    of_rises : (p : ℕ) → Sorted Before (joined (rows_if B χ f p) all_patterns)
    of_rises p =
        sorted_joined Before (rows_if B χ f p) (λ a. sorted_cond Before (f p a) (rows_for B χ p a) (for_rises p a))
        (λ i j l x y m n. rw ((if_key p i x m).1, (if_key p j y n).1) (inr (refl, inl l))) all_patterns

    of_key : (p : ℕ) (r : Row) → In r (joined (rows_if B χ f p) all_patterns) → (a : ℕ) × (k : ℕ) × (row_key B r ≡ p ∷ a ∷ k ∷ [])
    of_key p r m = let (a, _, i) = joined_in r (rows_if B χ f p) all_patterns m in let (k, e) = if_key p a r i in (a, k, e)

    pub rows_rise : Sorted Before (rows_under B χ f)
    unfolding rows_under
    rows_rise =
        sorted_joined Before (λ p. joined (rows_if B χ f p) all_patterns) of_rises
        (λ i j l x y m n. rw ((of_key i x m).2, (of_key j y n).2) (inl l)) (length B.arities)

-- ---- FIRST: "the smallest list of subgoal places (from 0, compared from the left) among the orders good against the final table"

-- where an order is good, it is taken and not the standing one
standing_some : (n : ℕ) (o : Option (List ℕ)) → is_some o ≡ true → o ≡ some (or_standing n o)
standing_some n none t = clash t refl
standing_some n (some σ) t = refl

module _ (T : Table) (body : List Call) (b : Bound) where
  first_standing : is_some (first_good T body b) ≡ true
      → Least (λ σ. Rearranges (length body) σ × (good_from T body b σ ≡ true)) (some (or_standing (length body) (first_good T body b)))
  first_standing t =
      subst (λ o. Least (λ σ. Rearranges (length body) σ × (good_from T body b σ ≡ true)) o) (standing_some (length body) (first_good T body b) t)
      (first_is_least T body b)

-- of "each clause under each reached pattern"
pub rows_first : (B : Book) (T : Table) (f : ℕ → ℕ → Bool) (r : Row) → In r (rows_under B (first_choice T B) f)
    → is_some (first_good T (clause B r.clause·).body (head_bound (clause B r.clause·).head.args r.pattern)) ≡ true
    → Least (λ σ. Rearranges (length (clause B r.clause·).body) σ
    × (good_from T (clause B r.clause·).body (head_bound (clause B r.clause·).head.args r.pattern) σ ≡ true)) (some r.places)
unfolding first_choice
rows_first B T f r m t =
    let c = clause B r.clause· in
    rw (rows_out B (first_choice T B) f r m).2 (first_standing T c.body (head_bound c.head.args r.pattern) t)

-- of "the query"
pub query_first_lem : (B : Book) (T : Table) → is_some (first_good T B.query nothing) ≡ true
    → Least (λ σ. Rearranges (length B.query) σ × (good_from T B.query nothing σ ≡ true)) (some (first_choice T B).for_query)
unfolding first_choice
query_first_lem B T t = first_standing T B.query nothing t

-- ---- "The longest plan is 53,259 bytes."

-- records of lists one after the other
joined_length : {A : Type 0} (enc : A → List ℕ) (g : ℕ → List A) (n : ℕ) → length (run enc (joined g n)) ≡ sum_below (λ k. length (run enc (g k))) n
joined_length enc g n = ap length (run_joined enc g n) ∙ length_joined (λ k. run enc (g k)) n

module _ (B : Book) (χ : Choice) (short : (k a : ℕ) → k < length B.clauses → length (χ.for_clause k a) ≤ max_subgoals) where
  -- how many clauses p has
  abbrev owned : ℕ → ℕ
  owned p = how_many (λ k. eqb (clause B k).head.pred p) (length B.clauses)

  -- "CO, clause, pattern, n, n places": at most 13 bytes
  row_length_lem : (p a k : ℕ) → k < length B.clauses → length (run enc_row (row_if B χ p a k)) ≤ 13 * bit (eqb (clause B k).head.pred p)
  row_length_lem p a k h = go (eqb (clause B k).head.pred p)
    where
      go : (b : Bool) → length (run enc_row (cond b (row_at χ k a ∷ []) [])) ≤ 13 * bit b
      go true = omega (arith, short k a h, length-append (χ.for_clause k a) [])
      go false = omega arith

  -- under one pattern, a row for each clause of p
  for_length : (p a : ℕ) → length (run enc_row (rows_for B χ p a)) ≤ 13 * owned p
  unfolding rows_for
  for_length p a =
      let n = length B.clauses in
      omega (
        arith,
        joined_length enc_row (row_if B χ p a) n,
        how_many_times 13 (λ k. eqb (clause B k).head.pred p) (λ k. length (run enc_row (row_if B χ p a k))) n (row_length_lem p a),
      )

  module _ (f : ℕ → ℕ → Bool) where
    if_length : (p a : ℕ) → length (run enc_row (rows_if B χ f p a)) ≤ 13 * owned p
    if_length p a = go (f p a)
      where
        go : (b : Bool) → length (run enc_row (cond b (rows_for B χ p a) [])) ≤ 13 * owned p
        go true = for_length p a
        go false = omega arith

    -- under n patterns
    pred_length : (p n : ℕ) → length (run enc_row (joined (rows_if B χ f p) n)) ≤ n * (13 * owned p)
    pred_length p n =
        omega (
          arith,
          joined_length enc_row (rows_if B χ f p) n,
          sum_most (λ a. length (run enc_row (rows_if B χ f p a))) (13 * owned p) n (if_length p),
        )

    -- of all predicates: the clauses of each, together, are the clauses of the book
    under_length : length (run enc_row (rows_under B χ f)) ≤ 832 * length B.clauses
    unfolding rows_under
    under_length =
        let n = length B.arities in
        omega (
          arith,
          joined_length enc_row (λ p. joined (rows_if B χ f p) all_patterns) n,
          sum_le (λ p. length (run enc_row (joined (rows_if B χ f p) all_patterns))) (λ p. 832 * owned p) n (λ p l. omega (arith, pred_length p all_patterns)),
          sum_times 832 owned n,
          how_many_parted (λ k. (clause B k).head.pred) n (length B.clauses),
        )

module _ (B : Book) (w : WellFormed B) where
  pub clauses_few : length B.clauses ≤ max_clauses
  clauses_few = leb-true (length B.clauses) max_clauses w.few_clauses

  pub body_few : (k : ℕ) → k < length B.clauses → length (clause B k).body ≤ max_subgoals
  unfolding clause
  body_few k h =
      clause_few B.arities (clause B k)
      (all_at (clause_fits B.arities) no_clause B.clauses k h w.clauses_fit)

-- "At most .. 64 clauses, 8 subgoals in a body or query, arity 6": 64 clauses under 64 patterns, 13 bytes each
pub rows_length_lem : (B : Book) (χ : Choice) (f : ℕ → ℕ → Bool) → WellFormed B → IsChoice B χ → length (run enc_row (rows_under B χ f)) ≤ 53248
rows_length_lem B χ f w c =
    omega (arith, clauses_few B w, under_length B χ (λ k a h. omega (arith, body_few B w k h, (c.clause· k a h).long)) f)

-- and "QO, n, n places", at most 11 bytes: no plan is longer than 53,259
pub plan_length_lem : (B : Book) → WellFormed B → length (image B) ≤ longest_plan
unfolding image plan_rows rows_of chosen
plan_length_lem B w =
    let χ = chosen B in
    let c = chosen_choice (final B) B in
    let f = marked (reached B χ) in
    let h = leb-true (length B.query) max_subgoals w.few_asked in
    omega (arith, h, c.query·.long, rows_length_lem B χ f w c, length-append (enc_query χ.for_query) (run enc_row (rows_under B χ f)))
