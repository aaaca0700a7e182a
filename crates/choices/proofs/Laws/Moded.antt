-- Demand 2. The first good orders against the final table make the book well-moded, since what they reach is admitted by that table, by induction on
-- being reached; and what a well-moded choice reaches is admitted by every table, by induction on the rounds, so that its order of the query is good
-- against the final one. So the query has a good order exactly when a choice makes the book well-moded. Assumes nothing.
use mathlib.Core.Path.{◌≡◌, refl, sym, ◌∙◌, subst}
use mathlib.Core.Bool.{true}
use mathlib.Core.Logic.{◌↔◌}
use mathlib.Core.List.{List}
use mathlib.Core.Option.{Option, none, some}
use Prim.Native.Nat.{ℕ, zero, suc, ◌<◌}
use lib.ListN.{length}
use Rattle.masks.specs.Constraint.{admits}
use Rattle.book.specs.Book.{Call, Clause, Book}
use Rattle.book.specs.Encode.{WellFormed}
use Rattle.book.specs.Table.{Table, entry}
use Rattle.ordering.specs.Adorn.{Bound, nothing, head_bound}
use Rattle.ordering.specs.Orders.{Rearranges}
use Rattle.ordering.specs.Good.{ready_at, after_at, good_from, known_from, first_good, is_some, brought}
use Rattle.tables.specs.Table.{start, defined, good, step, table, rounds, final}
use Rattle.choices.specs.Choice.{clause, Choice, IsChoice, query_calls, clause_calls, Reaches, by_query, by_clause, WellModed}
use Rattle.choices.specs.Plan.{or_standing, first_choice, chosen}
use Rattle.masks.proofs.Laws.Logic.{by_bool, clash}
use Rattle.ordering.proofs.Laws.Orders.{standing}
use Rattle.ordering.proofs.Laws.Greedy.{good_first}
use Rattle.ordering.proofs.Laws.Good.{first_is_least, good_clause_parts, order_good_clause}
use Rattle.ordering.proofs.Laws.Asks.{asks_fit, fit_asks, ready_asks, asks_known}
use Rattle.tables.proofs.Laws.Own.{good_at_lem, at_good, defined_at}
use Rattle.tables.proofs.Laws.Round.{good_gets, step_admits, step_outside}
use Rattle.tables.proofs.Laws.Rounds.{start_declared, final_declared, final_closed}
use Rattle.choices.proofs.Laws.Reached.{reaches_inside}

-- ---- the first good order, or the subgoals as they stand

module _ (T : Table) (body : List Call) (b : Bound) where
  first_order_lem : Rearranges (length body) (or_standing (length body) (first_good T body b))
  first_order_lem = go (first_good T body b) refl
    where
      go : (o : Option (List ℕ)) → first_good T body b ≡ o → Rearranges (length body) (or_standing (length body) o)
      go none e = standing (length body)
      go (some σ) e = ((first_is_least T body b).has σ e).0

  first_fits : is_some (first_good T body b) ≡ true → good_from T body b (or_standing (length body) (first_good T body b)) ≡ true
  first_fits t = go (first_good T body b) refl t
    where
      go : (o : Option (List ℕ)) → first_good T body b ≡ o → is_some o ≡ true → good_from T body b (or_standing (length body) o) ≡ true
      go none e t = clash t refl
      go (some σ) e t = ((first_is_least T body b).has σ e).1

-- "A choice gives the query an order, and each clause one under each head pattern.": the first good orders are one
pub chosen_choice : (T : Table) (B : Book) → IsChoice B (first_choice T B)
unfolding first_choice
chosen_choice T B = record {
  query· = first_order_lem T B.query nothing;
  clause· = λ k a l. first_order_lem T (clause B k).body (head_bound (clause B k).head.args a);
}

module _ (B : Book) (w : WellFormed B) where
  -- a clause is good under each pattern that the final table admits of its predicate
  final_clause : (k a : ℕ) → k < length B.clauses → admits (entry (final B) (clause B k).head.pred) a ≡ true
      → (is_some (first_good (final B) (clause B k).body (head_bound (clause B k).head.args a)) ≡ true)
      × (brought (clause B k) (head_bound (clause B k).head.args a) ≡ true)
  unfolding clause
  final_clause k a l e =
      let p : ℕ = (clause B k).head.pred in
      good_clause_parts (final B) (clause B k) a
      (good_at_lem _ (final B) B.clauses p a (final_closed B w p (defined_at _ B.clauses k l) a e) k l refl)

  -- ---- the first good orders against the final table

  module _ (found : is_some (first_good (final B) B.query nothing) ≡ true) where
    -- what the chosen orders reach is admitted by the final table
    pub reached_final : {p a : ℕ} → Reaches B (chosen B) p a → admits (entry (final B) p) a ≡ true
    unfolding query_calls clause_calls first_choice chosen
    reached_final (by_query {q} {b} t) =
        asks_fit (final B) B.query nothing (chosen B).for_query (first_fits (final B) B.query nothing found) q b t
    reached_final (by_clause {a} {q} {b} k l r t) =
        let c : Clause = clause B k in
        asks_fit (final B) c.body (head_bound c.head.args a) ((chosen B).for_clause k a)
        (first_fits (final B) c.body (head_bound c.head.args a) (final_clause k a l (reached_final r)).0) q b t

    -- "for the query and each clause under each reached pattern, the smallest .. among the orders good against the final table": there is one
    pub reached_good : (k a : ℕ) → k < length B.clauses → Reaches B (chosen B) (clause B k).head.pred a
        → is_some (first_good (final B) (clause B k).body (head_bound (clause B k).head.args a)) ≡ true
    reached_good k a l r = (final_clause k a l (reached_final r)).0

    -- and W3's rule holds
    reached_brought : (k a : ℕ) → k < length B.clauses → Reaches B (chosen B) (clause B k).head.pred a
        → brought (clause B k) (head_bound (clause B k).head.args a) ≡ true
    reached_brought k a l r = (final_clause k a l (reached_final r)).1

    -- and W9's
    reached_known : (k a : ℕ) → k < length B.clauses → Reaches B (chosen B) (clause B k).head.pred a
        → known_from (clause B k).body (head_bound (clause B k).head.args a) ((chosen B).for_clause k a) ≡ true
    unfolding first_choice chosen
    reached_known k a l r =
        let c : Clause = clause B k in
        asks_known (final B) c.body (head_bound c.head.args a) ((chosen B).for_clause k a)
        (first_fits (final B) c.body (head_bound c.head.args a) (reached_good k a l r))

    -- SOUND: "A choice makes the book well-moded (definition 3.14) when every reached pattern of an outside predicate fits its constraint.", and of a defined
    -- one its declaration, with W3's rule and W9's; the one chosen does
    pub sound : WellModed B (chosen B)
    unfolding first_choice chosen
    sound =
        record {
          fits = λ p a r. final_declared B w p a (reached_final r);
          brings = reached_brought;
          knows_query = asks_known (final B) B.query nothing (chosen B).for_query (first_fits (final B) B.query nothing found);
          knows = reached_known;
        }

  -- ---- any choice that makes the book well-moded

  module _ (χ : Choice) (ok : IsChoice B χ) (moded : WellModed B χ) where
    reached_start : (p a : ℕ) → Reaches B χ p a → admits (entry (start B) p) a ≡ true
    reached_start p a r = start_declared B w p a (reaches_inside B χ w ok r).0 ∙ moded.fits p a r

    -- where a table admits all that is reached, what is reached is good under it
    reached_under : (T : Table) → ((q b : ℕ) → Reaches B χ q b → admits (entry T q) b ≡ true) → (p a : ℕ) → Reaches B χ p a
        → good T B.clauses p a ≡ true
    unfolding clause clause_calls
    reached_under T h p a r =
        at_good _ T B.clauses p a
        (λ k l e.
        let c : Clause = clause B k in
        let here : Reaches B χ c.head.pred a = subst (λ (x : ℕ). Reaches B χ x a) (sym e) r in
        order_good_clause T c a (χ.for_clause k a) (ok.clause· k a l)
        (fit_asks T c.body (head_bound c.head.args a) (χ.for_clause k a)
        (ready_asks T c.body (head_bound c.head.args a) (χ.for_clause k a) (λ q b t. h q b (by_clause k l here t)) (moded.knows k a l here)))
        (moded.brings k a l here))

    -- so what a well-moded choice reaches is admitted by every table
    pub reached_table : (k p a : ℕ) → Reaches B χ p a → admits (entry (table B k) p) a ≡ true
    unfolding table
    reached_table zero p a r = reached_start p a r
    reached_table (suc k) p a r = go (table B k) (reached_table k)
      where
        go : (T : Table) → ((q b : ℕ) → Reaches B χ q b → admits (entry T q) b ≡ true) → admits (entry (step B T) p) a ≡ true
        go T ih =
            let i = reaches_inside B χ w ok r in
            by_bool (defined B.clauses p)
            (λ d. step_admits B T p i.0 d a i.1 ∙ good_gets B T p a (moded.fits p a r) (reached_under T ih p a r))
            (λ d. rw (step_outside B T p i.0 d) (ih p a r))

    -- COMPLETE: "Reply 7 is given exactly when no choice does."; where one does, the query has an order good against the final table
    pub complete : is_some (first_good (final B) B.query nothing) ≡ true
    unfolding query_calls final
    complete =
        good_first (ready_at (final B) B.query) (after_at B.query) nothing (length B.query) χ.for_query ok.query·
        (fit_asks (final B) B.query nothing χ.for_query
        (ready_asks (final B) B.query nothing χ.for_query (λ q b t. reached_table (rounds B) q b (by_query t)) moded.knows_query))

-- ---- reply 7

-- "Reply 7 is given exactly when no choice does.", and "7: the query of a valid book has no order good against the final table": it is the same
pub orderable : (B : Book) → WellFormed B
    → ((χ : Choice) × IsChoice B χ × WellModed B χ) ↔ (is_some (first_good (final B) B.query nothing) ≡ true)
unfolding chosen
orderable B w = (
  λ x. complete B w x.0 x.1 x.2,
  λ e. (chosen B, chosen_choice (final B) B, sound B w e),
)
