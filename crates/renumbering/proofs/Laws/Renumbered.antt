-- A book and one that has some of its predicates and clauses, numbered anew in the old order: what a choice reaches there, and the rows of its plan. What is
-- reached there is reached here, in the same order, so each row there is one that is left of those here. And a clause that stays is reached there as it is here
-- where no clause that is gone and reached calls its predicate; then each cell of the one plan is what is left of the cell of the other. Assumes nothing.
use mathlib.Core.Path.{◌≡◌, refl, sym, ap, ap₂, ◌∙◌, subst}
use mathlib.Core.Bool.{Bool, true, false, cond, ◌&&◌, false≢true}
use mathlib.Core.Logic.{inl, inr}
use mathlib.Core.List.{List, [], ◌∷◌, ◌++◌, map}
use Prim.Native.Nat.{ℕ, zero, suc, ◌<◌}
use lib.Dec.{eqb}
use lib.ListN.{length}
use borrow.Author.Tests.{eqb-true, eqb-false, eq-eqb, ne_eqb}
use Rattle.masks.specs.Limits.{all_patterns}
use Rattle.masks.specs.Lists.{joined}
use Rattle.book.specs.Book.{Clause, Book}
use Rattle.book.specs.Encode.{WellFormed}
use Rattle.book.specs.Table.{Table}
use Rattle.ordering.specs.Adorn.{head_bound}
use Rattle.ordering.specs.Orders.{In}
use Rattle.ordering.specs.Good.{first_good}
use Rattle.ordering.specs.Asks.{Asked, asks, called}
use Rattle.tables.specs.Table.{final}
use Rattle.choices.specs.Choice.{clause, Choice, IsChoice, query_calls, clause_calls, Reaches, by_query, by_clause}
use Rattle.choices.specs.Reached.{marked, reached}
use Rattle.choices.specs.Plan.{or_standing, first_choice, chosen, Row, rows_for, rows_under, rows_of}
use Rattle.renumbering.specs.Left.{moved_down, new_row, rows_left}
use Rattle.masks.proofs.Laws.Logic.{by_bool, same, or_right}
use Rattle.masks.proofs.Laws.Lists.{joined_cong}
use Rattle.ordering.proofs.Laws.Asks.{called_case, called_first}
use Rattle.tables.proofs.Laws.Valid.{clause_own}
use Rattle.choices.proofs.Laws.Reached.{reached_iff}
use Rattle.choices.proofs.Laws.Rows.{row_at, rows_out, rows_in}
use Rattle.renumbering.proofs.Laws.Numbers.{joined_moved, moved_lt, moved_inj, moved_back}

-- ---- calls under new numbers

module _ (G : ℕ → Bool) where
  abbrev pub renamed : Asked → Asked
  renamed x = record { pred = moved_down G x.pred; pattern = x.pattern }

  called_renamed : (q b : ℕ) (xs : List Asked) → called q b xs ≡ true → called (moved_down G q) b (map renamed xs) ≡ true
  called_renamed q b [] t = t
  called_renamed q b (x ∷ xs) t =
      called_case (λ r c. called (moved_down G r) c (map renamed (x ∷ xs)) ≡ true) x xs q b t
      (called_first (renamed x) (map renamed xs))
      (λ u. or_right (eqb (moved_down G x.pred) (moved_down G q) && eqb x.pattern b) (called_renamed q b xs u))

  renamed_called : (r b : ℕ) (xs : List Asked) → called r b (map renamed xs) ≡ true → (q : ℕ) × (moved_down G q ≡ r) × (called q b xs ≡ true)
  renamed_called r b [] t = absurd (false≢true t)
  renamed_called r b (x ∷ xs) t =
      called_case (λ v c. (q : ℕ) × (moved_down G q ≡ v) × (called q c (x ∷ xs) ≡ true)) (renamed x) (map renamed xs) r b t
      (x.pred, refl, called_first x xs)
      (λ u. let (q, e, c) = renamed_called r b xs u in (q, e, or_right (eqb x.pred q && eqb x.pattern b) c))

-- ---- what is left of rows

module _ (D : ℕ → Bool) where
  left_append : (xs ys : List Row) → rows_left D (xs ++ ys) ≡ rows_left D xs ++ rows_left D ys
  unfolding rows_left
  left_append [] ys = refl
  left_append (r ∷ rs) ys =
      by_bool (D r.clause·)
      (λ t. rw t (left_append rs ys))
      (λ t. rw t (ap (λ (l : List Row). new_row D r ∷ l) (left_append rs ys)))

  left_joined : (f : ℕ → List Row) (n : ℕ) → rows_left D (joined f n) ≡ joined (λ k. rows_left D (f k)) n
  unfolding rows_left
  left_joined f zero = refl
  left_joined f (suc n) = left_append (joined f n) (f n) ∙ ap (λ (l : List Row). l ++ rows_left D (f n)) (left_joined f n)

  left_cond : (b : Bool) (l : List Row) → rows_left D (cond b l []) ≡ cond b (rows_left D l) []
  unfolding rows_left
  left_cond true l = refl
  left_cond false l = refl

  -- a row of a clause that stays is left
  left_in : (r : Row) → D r.clause· ≡ false → (rs : List Row) → In r rs → In (new_row D r) (rows_left D rs)
  unfolding rows_left
  left_in r u [] i = i
  left_in r u (q ∷ rs) (inl e) = rw (← e, u) (inl refl)
  left_in r u (q ∷ rs) (inr i) =
      by_bool (D q.clause·) (λ t. rw t (left_in r u rs i)) (λ t. rw t (inr (left_in r u rs i)))

-- a test outside of a join, or inside
cond_joined : (b : Bool) (f : ℕ → List Row) (n : ℕ) → cond b (joined f n) [] ≡ joined (λ k. cond b (f k) []) n
cond_joined true f n = refl
cond_joined false f zero = refl
cond_joined false f (suc n) = ap (λ (l : List Row). l ++ []) (cond_joined false f n)

unless_joined : (b : Bool) (f : ℕ → List Row) (n : ℕ) → cond b [] (joined f n) ≡ joined (λ k. cond b [] (f k)) n
unless_joined true f n = cond_joined false f n
unless_joined false f n = refl

-- ---- an order and its calls are told by the table and the clause

unfoldable pub order_of : Table → Clause → ℕ → List ℕ
order_of T c a = or_standing (length c.body) (first_good T c.body (head_bound c.head.args a))

unfoldable pub calls_of : Table → Clause → ℕ → List Asked
calls_of T c a = asks c.body (head_bound c.head.args a) (order_of T c a)

pub chosen_order : (B : Book) (k a : ℕ) → (chosen B).for_clause k a ≡ order_of (final B) (clause B k) a
unfolding chosen first_choice order_of
chosen_order B k a = refl

pub chosen_calls : (B : Book) (k a : ℕ) → clause_calls B (chosen B) k a ≡ calls_of (final B) (clause B k) a
unfolding chosen first_choice clause_calls order_of calls_of
chosen_calls B k a = refl

-- ---- a book C that has the predicates of B but those in G and the clauses but those in D

pub record Renumbers (G D : ℕ → Bool) (B : Book) (χ : Choice) (C : Book) (ψ : Choice) : Type 0 where
  pub predicates : length C.arities ≡ moved_down G (length B.arities)
  pub clauses· : length C.clauses ≡ moved_down D (length B.clauses)
  -- a clause that stays has its predicate, its order and its calls, under the new numbers
  pub head· : (k : ℕ) → k < length B.clauses → D k ≡ false → (clause C (moved_down D k)).head.pred ≡ moved_down G (clause B k).head.pred
  pub order : (k a : ℕ) → k < length B.clauses → D k ≡ false → ψ.for_clause (moved_down D k) a ≡ χ.for_clause k a
  pub calls : (k a : ℕ) → k < length B.clauses → D k ≡ false → clause_calls C ψ (moved_down D k) a ≡ map (renamed G) (clause_calls B χ k a)
  pub query· : query_calls C ψ ≡ map (renamed G) (query_calls B χ)
  -- and its predicate and what is called stay
  pub head_stays : (k : ℕ) → k < length B.clauses → D k ≡ false → G (clause B k).head.pred ≡ false
  pub call_stays : (k a q b : ℕ) → k < length B.clauses → D k ≡ false → called q b (clause_calls B χ k a) ≡ true → G q ≡ false
  pub query_stays : (q b : ℕ) → called q b (query_calls B χ) ≡ true → G q ≡ false

-- a clause that is gone, and reached, calls no predicate of a clause that stays
abbrev pub Apart : (ℕ → Bool) → Book → Choice → Type 0
Apart D B χ =
    (k a b i : ℕ) → k < length B.clauses → D k ≡ true → Reaches B χ (clause B k).head.pred a → i < length B.clauses → D i ≡ false
    → called (clause B i).head.pred b (clause_calls B χ k a) ≡ true → ⊥

module _ {G D : ℕ → Bool} {B : Book} {χ : Choice} {C : Book} {ψ : Choice} (m : Renumbers G D B χ C ψ) where
  abbrev n : ℕ
  n = length B.clauses

  -- the predicate of clause k
  abbrev owner : ℕ → ℕ
  owner k = (clause B k).head.pred

  -- ---- what is reached

  from_renumbered : {q b : ℕ} → Reaches C ψ q b → (r : ℕ) × (moved_down G r ≡ q) × (G r ≡ false) × Reaches B χ r b
  from_renumbered (by_query {q} {b} t) =
      let (r, e, c) = renamed_called G q b (query_calls B χ) (ap (called q b) (sym m.query·) ∙ t) in
      (r, e, m.query_stays r b c, by_query c)
  from_renumbered (by_clause {a} {q} {b} j l s t) =
      let (k, h, u, x) = moved_back D n j (rw m.clauses· at l) in
      let (p, y, g, z) = from_renumbered s in
      let o : p ≡ owner k =
      moved_inj G p (owner k) g (m.head_stays k h u) (y ∙ ap (λ (i : ℕ). (clause C i).head.pred) (sym x) ∙ m.head· k h u) in
      let c : called q b (map (renamed G) (clause_calls B χ k a)) ≡ true =
      ap (called q b) (sym (m.calls k a h u)) ∙ ap (λ (i : ℕ). called q b (clause_calls C ψ i a)) x ∙ t in
      let (r, e, v) = renamed_called G q b (clause_calls B χ k a) c in
      (r, e, m.call_stays k a r b h u v, by_clause k h (subst (λ (i : ℕ). Reaches B χ i a) o z) v)

  -- of the predicate of a clause that stays
  owner_reached : (k a : ℕ) → k < n → D k ≡ false → Reaches C ψ (moved_down G (owner k)) a → Reaches B χ (owner k) a
  owner_reached k a l d t =
      let (r, e, g, z) = from_renumbered t in
      subst (λ (i : ℕ). Reaches B χ i a) (moved_inj G r (owner k) g (m.head_stays k l d) e) z

  to_renumbered : Apart D B χ → {q b : ℕ} → Reaches B χ q b → (i : ℕ) → i < n → D i ≡ false → owner i ≡ q → Reaches C ψ (moved_down G q) b
  to_renumbered apart (by_query {q} {b} t) i h d e =
      by_query (ap (called (moved_down G q) b) m.query· ∙ called_renamed G q b (query_calls B χ) t)
  to_renumbered apart (by_clause {a} {q} {b} k l r t) i h d e =
      by_bool (D k)
      (λ u. absurd (apart k a b i l u r h d (ap (λ (v : ℕ). called v b (clause_calls B χ k a)) e ∙ t)))
      (λ u.
      let l' : moved_down D k < length C.clauses = rw m.clauses· (moved_lt D k n l u) in
      by_clause (moved_down D k) l'
      (subst (λ (p : ℕ). Reaches C ψ p a) (sym (m.head· k l u)) (to_renumbered apart r k l u refl))
      (ap (called (moved_down G q) b) (m.calls k a l u) ∙ called_renamed G q b (clause_calls B χ k a) t))

  -- ---- rows, under patterns that f tells here and g there

  module _ (f g : ℕ → ℕ → Bool) (agree : (k a : ℕ) → k < n → D k ≡ false → g (moved_down G (owner k)) a ≡ f (owner k) a) where
    -- of p, by its new number, under pattern a
    abbrev row_there : ℕ → ℕ → ℕ → List Row
    row_there p a j = cond (eqb (clause C j).head.pred (moved_down G p)) (row_at ψ j a ∷ []) []

    abbrev row_here : ℕ → ℕ → ℕ → List Row
    row_here p a k = cond (eqb (owner k) p) (row_at χ k a ∷ []) []

    -- one clause
    abbrev Cell : ℕ → ℕ → ℕ → Type 0
    Cell p a k =
        cond (G p) [] (cond (g (moved_down G p) a) (cond (D k) [] (row_there p a (moved_down D k))) []) ≡ cond (f p a) (rows_left D (row_here p a k)) []

    cell : (p a k : ℕ) → k < n → Cell p a k
    unfolding rows_left
    cell p a k l =
        by_bool (D k)
        (λ u. rw u (blank (G p) (g (moved_down G p) a)) ∙ sym (gone (eqb (owner k) p) u))
        (λ u. by_bool (eqb (owner k) p)
        (λ e. stays u (eqb-true (owner k) p e))
        (λ e. other u e))
      where
        none_left : (b : Bool) → ◌≡◌ {A = List Row} (cond b [] []) []
        none_left true = refl
        none_left false = refl

        blank : (b c : Bool) → ◌≡◌ {A = List Row} (cond b [] (cond c [] [])) []
        blank true c = refl
        blank false c = none_left c

        -- it is gone
        gone : (b : Bool) → D k ≡ true → cond (f p a) (rows_left D (cond b (row_at χ k a ∷ []) [])) [] ≡ []
        gone true u = rw u (none_left (f p a))
        gone false u = none_left (f p a)

        -- it stays, and is of p
        stays : D k ≡ false → owner k ≡ p → Cell p a k
        stays u q =
            let here : eqb (owner k) p ≡ true = eq-eqb (owner k) p q in
            let there : eqb (clause C (moved_down D k)).head.pred (moved_down G p) ≡ true =
            eq-eqb (clause C (moved_down D k)).head.pred (moved_down G p) (m.head· k l u ∙ ap (moved_down G) q) in
            let kept : G p ≡ false = ap G (sym q) ∙ m.head_stays k l u in
            let told : g (moved_down G p) a ≡ f p a = ap (λ (i : ℕ). g (moved_down G i) a) (sym q) ∙ agree k a l u ∙ ap (λ (i : ℕ). f i a) q in
            rw (kept, told, u, there, here, m.order k a l u, u)

        -- it stays, and is of another predicate
        other : D k ≡ false → eqb (owner k) p ≡ false → Cell p a k
        other u e =
            by_bool (G p)
            (λ t. rw (t, e) (sym (none_left (f p a))))
            (λ t.
            let ne : eqb (clause C (moved_down D k)).head.pred (moved_down G p) ≡ false =
            ne_eqb (clause C (moved_down D k)).head.pred (moved_down G p)
            (λ x. eqb-false (owner k) p e (moved_inj G (owner k) p (m.head_stays k l u) t (sym (m.head· k l u) ∙ x))) in
            rw (t, u, ne, e) (none_left (g (moved_down G p) a) ∙ sym (none_left (f p a))))

    -- one pattern
    for_renumbered : (p a : ℕ) → cond (G p) [] (cond (g (moved_down G p) a) (rows_for C ψ (moved_down G p) a) []) ≡ rows_left D (cond (f p a) (rows_for B χ p a) [])
    unfolding rows_for
    for_renumbered p a =
        let there : ℕ → List Row = λ k. cond (D k) [] (row_there p a (moved_down D k)) in
        ap (λ (l : List Row). cond (G p) [] (cond (g (moved_down G p) a) l [])) (ap (joined (row_there p a)) m.clauses· ∙ joined_moved D (row_there p a) n)
        ∙ ap (λ (l : List Row). cond (G p) [] l) (cond_joined (g (moved_down G p) a) there n)
        ∙ unless_joined (G p) (λ k. cond (g (moved_down G p) a) (there k) []) n
        ∙ joined_cong (λ k. cond (G p) [] (cond (g (moved_down G p) a) (there k) [])) (λ k. cond (f p a) (rows_left D (row_here p a k)) []) n (cell p a)
        ∙ sym (cond_joined (f p a) (λ k. rows_left D (row_here p a k)) n)
        ∙ ap (λ (l : List Row). cond (f p a) l []) (sym (left_joined D (row_here p a) n))
        ∙ sym (left_cond D (f p a) (joined (row_here p a) n))

    under_renumbered : rows_under C ψ g ≡ rows_left D (rows_under B χ f)
    unfolding rows_under
    under_renumbered =
        let there : ℕ → ℕ → List Row = λ p a. cond (g p a) (rows_for C ψ p a) [] in
        let here : ℕ → ℕ → List Row = λ p a. cond (f p a) (rows_for B χ p a) [] in
        let of : ℕ → List Row = λ p. joined (there p) all_patterns in
        let left : ℕ → List Row = λ p. joined (λ a. rows_left D (here p a)) all_patterns in
        ap (joined of) m.predicates
        ∙ joined_moved G of (length B.arities)
        ∙ joined_cong (λ p. cond (G p) [] (of (moved_down G p))) left (length B.arities)
        (λ p _. unless_joined (G p) (there (moved_down G p)) all_patterns
        ∙ joined_cong (λ a. cond (G p) [] (there (moved_down G p) a)) (λ a. rows_left D (here p a)) all_patterns (λ a _. for_renumbered p a))
        ∙ sym (left_joined D (λ p. joined (here p) all_patterns) (length B.arities)
        ∙ joined_cong (λ p. rows_left D (joined (here p) all_patterns)) left (length B.arities) (λ p _. left_joined D (here p) all_patterns))

  -- ---- the plans

  module _ (w : WellFormed B) (ok : IsChoice B χ) (v : WellFormed C) (ok' : IsChoice C ψ) where
    -- each row there is one that is left of those here
    pub rows_within : (r : Row) → In r (rows_of C ψ) → In r (rows_left D (rows_of B χ))
    unfolding rows_of clause
    rows_within r i =
        let (l, t, e, h) = rows_out C ψ (marked (reached C ψ)) r i in
        let a : ℕ = r.pattern in
        let (k, lk, u, x) = moved_back D n r.clause· (rw m.clauses· at l) in
        let here : Reaches B χ (owner k) a =
        owner_reached k a lk u
        (subst (λ (p : ℕ). Reaches C ψ p a) (ap (λ (j : ℕ). (clause C j).head.pred) (sym x) ∙ m.head· k lk u)
        ((reached_iff C ψ v ok' (clause C r.clause·).head.pred a).0 t)) in
        let is : new_row D (row_at χ k a) ≡ r =
        ap₂ (λ (j : ℕ) (σ : List ℕ). record { clause· = j; pattern = a; places = σ }) x
        (sym (m.order k a lk u) ∙ ap (λ (j : ℕ). ψ.for_clause j a) x ∙ sym e) in
        subst (λ (q : Row). In q (rows_left D (rows_under B χ (marked (reached B χ))))) is
        (left_in D (row_at χ k a) u (rows_under B χ (marked (reached B χ)))
        (rows_in B χ (marked (reached B χ)) k a lk (clause_own B w _ k lk) h ((reached_iff B χ w ok (owner k) a).1 here)))

    -- the predicates of clauses that stay are reached under the same patterns
    reached_renumbered : Apart D B χ → (k a : ℕ) → k < n → D k ≡ false → marked (reached C ψ) (moved_down G (owner k)) a ≡ marked (reached B χ) (owner k) a
    reached_renumbered apart k a l d =
        same (marked (reached C ψ) (moved_down G (owner k)) a) (marked (reached B χ) (owner k) a)
        (λ t. (reached_iff B χ w ok (owner k) a).1 (owner_reached k a l d ((reached_iff C ψ v ok' (moved_down G (owner k)) a).0 t)))
        (λ t. (reached_iff C ψ v ok' (moved_down G (owner k)) a).1 (to_renumbered apart ((reached_iff B χ w ok (owner k) a).0 t) k l d refl))

    -- RENUMBERED: the plan there is what is left of the plan here
    pub rows_renumbered : Apart D B χ → rows_of C ψ ≡ rows_left D (rows_of B χ)
    unfolding rows_of
    rows_renumbered apart = under_renumbered (marked (reached B χ)) (marked (reached C ψ)) (reached_renumbered apart)
