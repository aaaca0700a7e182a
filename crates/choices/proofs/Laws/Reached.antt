-- The patterns reached, as they are worked out, are those that the relation reaches. Each mark is of a pattern reached, since each call is; and a
-- step that goes on marks a pattern, of which there are so many, so the marks end closed under the calls. Assumes nothing.
use mathlib.Core.Path.{◌≡◌, refl, sym, ap, ◌∙◌, subst}
use mathlib.Core.Bool.{Bool, true, false, cond, ◌&&◌, ◌||◌, false≢true}
use mathlib.Core.Logic.{◌↔◌}
use mathlib.Core.List.{List, [], ◌∷◌}
use Prim.Native.Nat.{ℕ, zero, suc, ◌+◌, ◌*◌, ◌^◌, ◌≤◌, ◌<◌}
use native.Mathlib.Nat.{pow-le-pow_right}
use native.Mathlib.Omega.{arith}
use lib.Dec.{eqb}
use lib.ListN.{length, get_or, get_or-eq_default}
use Rattle.masks.specs.Limits.{all_patterns}
use Rattle.masks.specs.Lists.{all, values, joined, how_many}
use Rattle.book.specs.Book.{Call, Book}
use Rattle.book.specs.Encode.{call_fits, WellFormed}
use Rattle.ordering.specs.Adorn.{Bound, nothing, head_bound}
use Rattle.ordering.specs.Orders.{Rearranges}
use Rattle.ordering.specs.Good.{at}
use Rattle.ordering.specs.Asks.{Asked, asks, called}
use Rattle.tables.specs.Table.{sum_below}
use Rattle.choices.specs.Choice.{clause, Choice, IsChoice, query_calls, clause_calls, Reaches, by_query, by_clause}
use Rattle.choices.specs.Reached.{Marks, marked, marks_of, next_calls, all_marked, with_calls, grown, reached}
use Rattle.masks.proofs.Laws.Logic.{by_bool, by_range, clash, same, and_intro, and_left, and_right, or_left, or_right, or_case}
use Rattle.masks.proofs.Laws.Lists.{any_append, any_joined, joined_any, length_values, get_or_values}
use Rattle.masks.proofs.Laws.Counts.{how_many_most, how_many_le, how_many_stuck}
use Rattle.ordering.proofs.Laws.Steps.{pattern_small}
use Rattle.ordering.proofs.Laws.Asks.{called_case, called_first, asks_each}
use Rattle.tables.proofs.Laws.Sums.{sum_stuck, sum_most}
use Rattle.tables.proofs.Laws.Valid.{arity_low, goal_known, goal_size, goals_fit}

-- ---- a mark for each pattern below w of each of n predicates

module _ (f : ℕ → ℕ → Bool) (w n p a : ℕ) where
  table_at : p < n → a < w → marked (values (λ q. values (f q) w) n) p a ≡ f p a
  table_at h l = ap (λ (r : List Bool). get_or r a false) (get_or_values (λ q. values (f q) w) [] n p h) ∙ get_or_values (f p) false w a l

  table_range : marked (values (λ q. values (f q) w) n) p a ≡ true → (p < n) × (a < w)
  table_range e =
      by_range p n
      (λ h. by_range a w (λ l. (h, l))
      (λ l. clash e (ap (λ (r : List Bool). get_or r a false) (get_or_values (λ q. values (f q) w) [] n p h)
      ∙ get_or-eq_default (values (f p) w) false (omega (arith, length_values (f p) w)))))
      (λ h. clash e (ap (λ (r : List Bool). get_or r a false)
      (get_or-eq_default (values (λ q. values (f q) w) n) [] (omega (arith, length_values (λ q. values (f q) w) n)))))

module _ (f : ℕ → ℕ → Bool) (n p a : ℕ) where
  pub marks_at : p < n → a < all_patterns → marked (marks_of f n) p a ≡ f p a
  unfolding marks_of
  marks_at h l = table_at f all_patterns n p a h l

  pub marks_range : marked (marks_of f n) p a ≡ true → (p < n) × (a < all_patterns)
  unfolding marks_of
  marks_range e = table_range f all_patterns n p a e

  pub marks_true : marked (marks_of f n) p a ≡ true → f p a ≡ true
  marks_true e = let r = marks_range e in sym (marks_at r.0 r.1) ∙ e

-- ---- every call is marked

module _ (M : Marks) where
  pub all_marked_lem : (calls : List Asked) → all_marked M calls ≡ true → (q b : ℕ) → called q b calls ≡ true → marked M q b ≡ true
  unfolding all_marked
  all_marked_lem [] e q b t = absurd (false≢true t)
  all_marked_lem (x ∷ xs) e q b t =
      called_case (λ r c. marked M r c ≡ true) x xs q b t
      (and_left (marked M x.pred x.pattern) (all (λ (y : Asked). marked M y.pred y.pattern) xs) e)
      (all_marked_lem xs (and_right (marked M x.pred x.pattern) (all (λ (y : Asked). marked M y.pred y.pattern) xs) e) q b)

  pub marked_all : (calls : List Asked) → ((q b : ℕ) → called q b calls ≡ true → marked M q b ≡ true) → all_marked M calls ≡ true
  unfolding all_marked
  marked_all [] h = refl
  marked_all (x ∷ xs) h =
      and_intro (h x.pred x.pattern (called_first x xs))
      (marked_all xs (λ q b t. h q b (or_right (eqb x.pred q && eqb x.pattern b) t)))

-- ---- the calls of an order are of predicates of the book, under patterns of so many positions

pub asks_inside : (ar : List ℕ) (body : List Call) → all (call_fits ar) body ≡ true → (b : Bound) (σ : List ℕ) → Rearranges (length body) σ
    → (q a : ℕ) → called q a (asks body b σ) ≡ true → (q < length ar) × (a < 2 ^ get_or ar q 0)
asks_inside ar body t b σ r =
    asks_each (λ q a. (q < length ar) × (a < 2 ^ get_or ar q 0)) body b σ
    (λ p c i.
    let h = r.below p i in
    let e = goal_size ar body t p h in
    (goal_known ar body t p h, pattern_small c (get_or ar (at body p).pred 0) (at body p).args (omega arith)))

module _ (B : Book) (χ : Choice) where
  -- ---- what the relation reaches

  -- each is a pattern of its predicate's positions
  pub reaches_inside : WellFormed B → IsChoice B χ → {p a : ℕ} → Reaches B χ p a → (p < length B.arities) × (a < 2 ^ get_or B.arities p 0)
  unfolding clause query_calls clause_calls
  reaches_inside w ok (by_query {q} {b} t) = asks_inside B.arities B.query w.query_fits nothing χ.for_query ok.query· q b t
  reaches_inside w ok (by_clause {a} {q} {b} k l r t) =
      asks_inside B.arities (clause B k).body (goals_fit B w _ k l)
      (head_bound (clause B k).head.args a) (χ.for_clause k a) (ok.clause· k a l) q b t

  -- marks that are closed under the calls have all that is reached
  module _ (f : ℕ → ℕ → Bool)
      (query : (q b : ℕ) → called q b (query_calls B χ) ≡ true → f q b ≡ true)
      (clauses : (k a q b : ℕ) → k < length B.clauses → f (clause B k).head.pred a ≡ true → called q b (clause_calls B χ k a) ≡ true → f q b ≡ true)
    where
      pub closed_reaches : {p a : ℕ} → Reaches B χ p a → f p a ≡ true
      closed_reaches (by_query {q} {b} t) = query q b t
      closed_reaches (by_clause {a} {q} {b} k l r t) = clauses k a q b l (closed_reaches r) t

  -- ---- the calls that a step finds

  abbrev calls_under : Marks → ℕ → ℕ → List Asked
  calls_under M k a = cond (marked M (clause B k).head.pred a) (clause_calls B χ k a) []

  abbrev of_clauses : Marks → List Asked
  of_clauses M = joined (λ k. joined (calls_under M k) all_patterns) (length B.clauses)

  -- those of the query, and those of each clause under each pattern marked of its predicate
  pub next_query : (M : Marks) (q b : ℕ) → called q b (query_calls B χ) ≡ true → called q b (next_calls B χ M) ≡ true
  unfolding next_calls
  next_query M q b t =
      any_append (λ (x : Asked). eqb x.pred q && eqb x.pattern b) (query_calls B χ) (of_clauses M)
      ∙ or_left (called q b (query_calls B χ)) (called q b (of_clauses M)) t

  pub next_clause : (M : Marks) (k a q b : ℕ) → k < length B.clauses → a < all_patterns → marked M (clause B k).head.pred a ≡ true
      → called q b (clause_calls B χ k a) ≡ true → called q b (next_calls B χ M) ≡ true
  unfolding next_calls
  next_clause M k a q b l h m t =
      let is : Asked → Bool = λ x. eqb x.pred q && eqb x.pattern b in
      any_append is (query_calls B χ) (of_clauses M)
      ∙ or_right (called q b (query_calls B χ))
      (any_joined is (λ i. joined (calls_under M i) all_patterns) (length B.clauses) k l
      (any_joined is (calls_under M k) all_patterns a h (rw m t)))

  -- ---- each mark is of a pattern reached

  abbrev Sound : Marks → Type 0
  Sound M = (p a : ℕ) → marked M p a ≡ true → Reaches B χ p a

  next_sound : (M : Marks) → Sound M → (q b : ℕ) → called q b (next_calls B χ M) ≡ true → Reaches B χ q b
  unfolding next_calls
  next_sound M s q b t =
      let is : Asked → Bool = λ x. eqb x.pred q && eqb x.pattern b in
      or_case (called q b (query_calls B χ)) (called q b (of_clauses M)) (sym (any_append is (query_calls B χ) (of_clauses M)) ∙ t)
      (λ e. by_query e)
      (λ e.
      let r = joined_any is (λ k. joined (calls_under M k) all_patterns) (length B.clauses) e in
      let v = joined_any is (calls_under M r.0) all_patterns r.2 in
      go r.0 v.0 r.1 (marked M (clause B r.0).head.pred v.0) refl v.2)
    where
      go : (k a : ℕ) → k < length B.clauses → (m : Bool) → marked M (clause B k).head.pred a ≡ m
          → called q b (cond m (clause_calls B χ k a) []) ≡ true → Reaches B χ q b
      go k a l true e t = by_clause k l (s (clause B k).head.pred a e) t
      go k a l false e t = absurd (false≢true t)

  with_sound : (M : Marks) (calls : List Asked) → Sound M → ((q b : ℕ) → called q b calls ≡ true → Reaches B χ q b) → Sound (with_calls B M calls)
  unfolding with_calls
  with_sound M calls s c p a e =
      or_case (marked M p a) (called p a calls) (marks_true (λ q b. marked M q b || called q b calls) (length B.arities) p a e) (s p a) (c p a)

  grown_sound : (d : ℕ) (M : Marks) → Sound M → Sound (grown B χ M d)
  unfolding grown
  grown_sound zero M s = s
  grown_sound (suc d) M s =
      go (all_marked M (next_calls B χ M)) (grown_sound d (with_calls B M (next_calls B χ M)) (with_sound M (next_calls B χ M) s (next_sound M s)))
    where
      go : (t : Bool) → Sound (grown B χ (with_calls B M (next_calls B χ M)) d) → Sound (cond t M (grown B χ (with_calls B M (next_calls B χ M)) d))
      go true r = s
      go false r = r

  none_sound : Sound (marks_of (λ q b. false) (length B.arities))
  none_sound p a e = absurd (false≢true (marks_true (λ q b. false) (length B.arities) p a e))

  -- "Patterns reached: those of the query's subgoals, and those of the subgoals of every clause of a reached predicate under a reached pattern.":
  -- no other is marked
  pub reached_sound : (p a : ℕ) → marked (reached B χ) p a ≡ true → Reaches B χ p a
  unfolding reached
  reached_sound = grown_sound (length B.arities * all_patterns) (marks_of (λ q b. false) (length B.arities)) none_sound

  -- ---- a step that goes on marks a pattern

  mark_count : Marks → ℕ
  mark_count M = sum_below (λ p. how_many (marked M p) all_patterns) (length B.arities)

  mark_count_most : (M : Marks) → mark_count M ≤ length B.arities * all_patterns
  unfolding mark_count
  mark_count_most M = sum_most (λ p. how_many (marked M p) all_patterns) all_patterns (length B.arities) (λ p. how_many_most (marked M p) all_patterns)

  -- where marks are only added and there are no more than before, none was added
  mark_count_stuck : (M N : Marks) → ((p a : ℕ) → marked M p a ≡ true → marked N p a ≡ true) → mark_count N ≤ mark_count M
      → (p a : ℕ) → p < length B.arities → a < all_patterns → marked M p a ≡ marked N p a
  unfolding mark_count
  mark_count_stuck M N h e p a l m =
      let row : how_many (marked M p) all_patterns ≡ how_many (marked N p) all_patterns =
      sum_stuck (λ q. how_many (marked M q) all_patterns) (λ q. how_many (marked N q) all_patterns) (length B.arities)
      (λ q _. how_many_le (marked M q) (marked N q) (h q) all_patterns) e p l in
      how_many_stuck (marked M p) (marked N p) (h p) all_patterns (omega arith) a m

  -- ---- and so the marks end closed

  module _ (w : WellFormed B) (ok : IsChoice B χ) where
    -- of at most six positions
    pub reaches_low : {p a : ℕ} → Reaches B χ p a → (p < length B.arities) × (a < all_patterns)
    reaches_low {p} {a} r =
        let i = reaches_inside w ok r in
        let h : 2 ^ get_or B.arities p 0 ≤ 64 = pow-le-pow_right (omega arith) (arity_low B w p) in
        (i.0, omega (arith, i.1, h))

    with_at : (M : Marks) (calls : List Asked) (p a : ℕ) → Reaches B χ p a → marked (with_calls B M calls) p a ≡ (marked M p a || called p a calls)
    unfolding with_calls
    with_at M calls p a r = let i = reaches_low r in marks_at (λ q b. marked M q b || called q b calls) (length B.arities) p a i.0 i.1

    -- so where there are no more marks after a step, every call was marked
    with_stuck : (M : Marks) → Sound M → mark_count (with_calls B M (next_calls B χ M)) ≤ mark_count M → all_marked M (next_calls B χ M) ≡ true
    with_stuck M s e =
        marked_all M (next_calls B χ M)
        (λ q b t.
        let r = next_sound M s q b t in
        let i = reaches_low r in
        mark_count_stuck M (with_calls B M (next_calls B χ M))
        (λ p a m. with_at M (next_calls B χ M) p a (s p a m) ∙ or_left (marked M p a) (called p a (next_calls B χ M)) m) e q b i.0 i.1
        ∙ with_at M (next_calls B χ M) q b r ∙ or_right (marked M q b) t)

    grown_closed : (d : ℕ) (M : Marks) → Sound M → length B.arities * all_patterns ≤ mark_count M + d
        → all_marked (grown B χ M d) (next_calls B χ (grown B χ M d)) ≡ true
    unfolding grown
    grown_closed zero M s h = with_stuck M s (omega (arith, h, mark_count_most (with_calls B M (next_calls B χ M))))
    grown_closed (suc d) M s h =
        by_bool (all_marked M (next_calls B χ M))
        (λ e. rw e e)
        (λ e. rw e
        (grown_closed d (with_calls B M (next_calls B χ M)) (with_sound M (next_calls B χ M) s (next_sound M s))
        (by_range (mark_count M) (mark_count (with_calls B M (next_calls B χ M))) (λ l. omega arith) (λ l. clash (with_stuck M s l) e))))

    reached_closed : (q b : ℕ) → called q b (next_calls B χ (reached B χ)) ≡ true → marked (reached B χ) q b ≡ true
    unfolding reached
    reached_closed =
        let M : Marks = marks_of (λ q b. false) (length B.arities) in
        let d : ℕ = length B.arities * all_patterns in
        all_marked_lem (grown B χ M d) (next_calls B χ (grown B χ M d)) (grown_closed d M none_sound (omega arith))

    reached_complete : {p a : ℕ} → Reaches B χ p a → marked (reached B χ) p a ≡ true
    reached_complete =
        closed_reaches (marked (reached B χ))
        (λ q b t. reached_closed q b (next_query (reached B χ) q b t))
        (λ k a q b l m t. reached_closed q b (next_clause (reached B χ) k a q b l (reaches_low (reached_sound (clause B k).head.pred a m)).1 m t))

    -- and all of them are: what is worked out is what the sentence says
    pub reached_iff : (p a : ℕ) → (marked (reached B χ) p a ≡ true) ↔ Reaches B χ p a
    reached_iff p a = (reached_sound p a, reached_complete)

    -- marks made in whatever order of work: as soon as each is reached and they are closed, they are the patterns reached
    pub reached_by : (f : ℕ → ℕ → Bool)
        → ((p a : ℕ) → f p a ≡ true → Reaches B χ p a)
        → ((q b : ℕ) → called q b (query_calls B χ) ≡ true → f q b ≡ true)
        → ((k a q b : ℕ) → k < length B.clauses → f (clause B k).head.pred a ≡ true → called q b (clause_calls B χ k a) ≡ true → f q b ≡ true)
        → (p a : ℕ) → f p a ≡ marked (reached B χ) p a
    reached_by f s g h p a =
        same (f p a) (marked (reached B χ) p a) (λ e. reached_complete (s p a e)) (λ e. closed_reaches f g h (reached_sound p a e))

-- ---- choices that agree on what one of them reaches reach the same

module _ (B : Book) (χ χ' : Choice) (query : χ.for_query ≡ χ'.for_query) where
  same_query : (q b : ℕ) → called q b (query_calls B χ) ≡ true → called q b (query_calls B χ') ≡ true
  unfolding query_calls
  same_query q b = subst (λ (σ : List ℕ). called q b (asks B.query nothing σ) ≡ true) query

  same_clause : (k a q b : ℕ) → χ.for_clause k a ≡ χ'.for_clause k a → called q b (clause_calls B χ k a) ≡ true → called q b (clause_calls B χ' k a) ≡ true
  unfolding clause_calls
  same_clause k a q b = subst (λ (σ : List ℕ). called q b (asks (clause B k).body (head_bound (clause B k).head.args a) σ) ≡ true)

  -- on what the first reaches
  pub reaches_agree : ((k a : ℕ) → k < length B.clauses → Reaches B χ (clause B k).head.pred a → χ.for_clause k a ≡ χ'.for_clause k a)
      → {p a : ℕ} → Reaches B χ p a → Reaches B χ' p a
  reaches_agree h (by_query {q} {b} t) = by_query (same_query q b t)
  reaches_agree h (by_clause {a} {q} {b} k l r t) = by_clause k l (reaches_agree h r) (same_clause k a q b (h k a l r) t)

  -- on what the second reaches
  pub reaches_back : ((k a : ℕ) → k < length B.clauses → Reaches B χ' (clause B k).head.pred a → χ.for_clause k a ≡ χ'.for_clause k a)
      → {p a : ℕ} → Reaches B χ p a → Reaches B χ' p a
  reaches_back h (by_query {q} {b} t) = by_query (same_query q b t)
  reaches_back h (by_clause {a} {q} {b} k l r t) = let s = reaches_back h r in by_clause k l s (same_clause k a q b (h k a l s) t)
