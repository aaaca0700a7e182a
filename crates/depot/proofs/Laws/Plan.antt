-- DEPOT: the plan of a closed book is what is left of the book's plan. The closed book has the book's final table, so every clause that stays has its order
-- and its calls, whatever the set; and where that is self-contained, a clause that is dropped calls no predicate whose clauses stay. Assumes nothing.
use mathlib.Core.Path.{◌≡◌, refl, sym, ap, ap₂, ◌∙◌, subst}
use mathlib.Core.Bool.{Bool, true, false, not, ◌||◌}
use mathlib.Core.Logic.{◌↔◌}
use mathlib.Core.List.{List, [], ◌∷◌, ◌++◌, map}
use Prim.Native.Nat.{ℕ, ◌<◌}
use lib.ListN.{length}
use Rattle.masks.specs.Lists.{all}
use Rattle.masks.specs.Outcome.{refused, done}
use Rattle.masks.specs.Set.{bit_at}
use Rattle.book.specs.Book.{Call, Clause, Book}
use Rattle.book.specs.Format.{book, judge}
use Rattle.book.specs.Encode.{run, WellFormed}
use Rattle.book.specs.Table.{Table}
use Rattle.ordering.specs.Adorn.{nothing, head_bound}
use Rattle.ordering.specs.Orders.{In}
use Rattle.ordering.specs.Good.{at, first_good, is_some}
use Rattle.ordering.specs.Asks.{Asked, asks}
use Rattle.tables.specs.Table.{defined, final}
use Rattle.choices.specs.Choice.{clause, query_calls, clause_calls}
use Rattle.choices.specs.Plan.{Row, or_standing, first_choice, chosen, plan_rows, enc_query, enc_row, image, planning}
use Rattle.closing.specs.Close.{close_over, close, closing}
use Rattle.renumbering.specs.Left.{moved_down}
use Rattle.depot.specs.Depot.{calls_inside, self_contained, dropped, plan_left, image_left}
use Rattle.masks.proofs.Laws.Logic.{clash, or_case}
use Rattle.masks.proofs.Laws.Lists.{all_at}
use Rattle.book.proofs.Laws.Answer.{book_injective}
use Rattle.book.proofs.Laws.Trip.{judge_inv}
use Rattle.ordering.proofs.Laws.Asks.{asks_each}
use Rattle.tables.proofs.Laws.Own.{defined_at}
use Rattle.choices.proofs.Laws.Moded.{chosen_choice}
use Rattle.choices.proofs.Laws.Plan.{planning_good, seven_none, plan_found}
use Rattle.closing.proofs.Laws.Valid.{closed_well}
use Rattle.closing.proofs.Laws.Final.{final_close}
use Rattle.closing.proofs.Laws.Outcome.{closing_book}
use Rattle.renumbering.proofs.Laws.Numbers.{moved_none}
use Rattle.renumbering.proofs.Laws.Renumbered.{renamed, order_of, calls_of, chosen_order, chosen_calls, Renumbers, Apart, rows_within, rows_renumbered}
use Rattle.depot.proofs.Laws.Kept.{kept_length, kept_at}

-- ---- no predicate has a new number

abbrev none : ℕ → Bool
none p = false

renamed_none : (xs : List Asked) → map (renamed none) xs ≡ xs
renamed_none [] = refl
renamed_none (x ∷ xs) = ap₂ (λ (q : ℕ) (l : List Asked). record { pred = q; pattern = x.pattern } ∷ l) (moved_none x.pred) (renamed_none xs)

module _ (S : ℕ → Bool) (B : Book) (w : WellFormed B) where
  abbrev C : Book
  C = close_over S B

  v : WellFormed C
  v = closed_well S B w

  -- ---- a clause that stays

  clause_stays : (k : ℕ) → k < length B.clauses → dropped S B k ≡ false → clause C (moved_down (dropped S B) k) ≡ clause B k
  unfolding close_over dropped clause
  clause_stays k l d = kept_at S _ B.clauses k l d

  clauses_stay : length C.clauses ≡ moved_down (dropped S B) (length B.clauses)
  unfolding close_over dropped clause
  clauses_stay = kept_length S _ B.clauses

  -- the query has its order, and so its calls
  pub query_order : (chosen (close_over S B)).for_query ≡ (chosen B).for_query
  unfolding chosen first_choice close_over
  query_order = ap (λ (T : Table). or_standing (length B.query) (first_good T B.query nothing)) (final_close S B w)

  query_stays_lem : query_calls C (chosen C) ≡ query_calls B (chosen B)
  unfolding query_calls close_over
  query_stays_lem = ap (asks B.query nothing) query_order

  -- ---- so the closed book is the book with its dropped clauses gone

  closed_renumbers : Renumbers none (dropped S B) B (chosen B) C (chosen C)
  unfolding close_over
  closed_renumbers =
      record {
        predicates = sym (moved_none (length B.arities));
        clauses· = clauses_stay;
        head· = λ k l d. ap (λ (c : Clause). c.head.pred) (clause_stays k l d) ∙ sym (moved_none (clause B k).head.pred);
        order = λ k a l d.
            chosen_order C (moved_down (dropped S B) k) a
            ∙ ap₂ (λ (T : Table) (c : Clause). order_of T c a) (final_close S B w) (clause_stays k l d)
            ∙ sym (chosen_order B k a);
        calls = λ k a l d.
            chosen_calls C (moved_down (dropped S B) k) a
            ∙ ap₂ (λ (T : Table) (c : Clause). calls_of T c a) (final_close S B w) (clause_stays k l d)
            ∙ sym (chosen_calls B k a)
            ∙ sym (renamed_none (clause_calls B (chosen B) k a));
        query· = query_stays_lem ∙ sym (renamed_none (query_calls B (chosen B)));
        head_stays = λ k l d. refl;
        call_stays = λ k a q b l d t. refl;
        query_stays = λ q b t. refl;
      }

  -- whatever the set, each row of its plan is one that is left
  pub plan_within : (r : Row) → In r (plan_rows (close_over S B)) → In r (plan_left S B)
  unfolding plan_rows plan_left chosen
  plan_within = rows_within closed_renumbers w (chosen_choice (final B) B) v (chosen_choice (final C) C)

  -- ---- a clause that is dropped

  -- q is chosen, or has no clauses
  abbrev inside : ℕ → Bool
  inside q = S q || not (defined B.clauses q)

  module _ (s : self_contained S B.clauses ≡ true) where
    body_inside : (k : ℕ) → k < length B.clauses → dropped S B k ≡ true → all (λ (g : Call). inside g.pred) (clause B k).body ≡ true
    unfolding self_contained calls_inside dropped clause
    body_inside k l d =
        or_case (not (dropped S B k)) (calls_inside S B.clauses (clause B k))
        (all_at (λ c. not (S c.head.pred) || calls_inside S B.clauses c) _ B.clauses k l s)
        (λ t. clash (rw d at t) refl)
        (λ t. t)

    -- calls no predicate of a clause that stays
    calls_apart : Apart (dropped S B) B (chosen B)
    unfolding chosen clause_calls dropped clause at
    calls_apart k a b i l d r h e t =
        let owner : ℕ = (clause B i).head.pred in
        let t' : inside owner ≡ true =
        asks_each (λ q c. inside q ≡ true) (clause B k).body (head_bound (clause B k).head.args a) ((chosen B).for_clause k a)
        (λ p c m. all_at (λ (g : Call). inside g.pred) _ (clause B k).body p (((chosen_choice (final B) B).clause· k a l).below p m) (body_inside k l d))
        owner b t in
        clash (rw (e, defined_at _ B.clauses i h) at t') refl

    pub plan_left_lem : plan_rows (close_over S B) ≡ plan_left S B
    unfolding plan_rows plan_left chosen
    plan_left_lem =
        rows_renumbered closed_renumbers w (chosen_choice (final B) B) v (chosen_choice (final C) C) calls_apart

    image_left_lem : image C ≡ image_left S B
    unfolding image image_left
    image_left_lem = ap₂ (λ (σ : List ℕ) (rows : List Row). enc_query σ ++ run enc_row rows) query_order plan_left_lem

-- ---- of bytes

module _ (set : ℕ) (s t : List ℕ) (B : Book) (valid : judge s ≡ book B) (closes : closing set s ≡ done 0 t) where
  closed_valid : judge t ≡ book (close set B)
  closed_valid = closing_book set s t B valid closes

  well : WellFormed B
  well = (judge_inv s B valid).1

  query_same : is_some (first_good (final (close set B)) (close set B).query nothing) ≡ is_some (first_good (final B) B.query nothing)
  unfolding close_over
  query_same = ap (λ (T : Table). is_some (first_good T B.query nothing)) (final_close (bit_at set) B well)

  -- "reply 7 comes for both or neither", whatever the set
  pub closing_seven : (planning t ≡ refused 7 0) ↔ (planning s ≡ refused 7 0)
  closing_seven = (
    λ e. (seven_none s B valid).1 (sym query_same ∙ (seven_none t (close set B) closed_valid).0 e),
    λ e. (seven_none t (close set B) closed_valid).1 (query_same ∙ (seven_none s B valid).0 e),
  )

  -- whatever the set, no order is another: of the book C that t is, the query has its order, and each row of the plan is one that is left
  pub closing_orders : (C : Book) → judge t ≡ book C → ((chosen C).for_query ≡ (chosen B).for_query) × ((r : Row) → In r (plan_rows C) → In r (plan_left (bit_at set) B))
  closing_orders C read =
      subst (λ (A : Book). ((chosen A).for_query ≡ (chosen B).for_query) × ((r : Row) → In r (plan_rows A) → In r (plan_left (bit_at set) B)))
      (book_injective (close set B) C (sym closed_valid ∙ read)) (query_order (bit_at set) B well, plan_within (bit_at set) B well)

  -- DEPOT: "if the chosen predicates' clauses call only chosen predicates or predicates without clauses, the closed book's plan is the full plan without
  -- the chosen predicates' `CO` records, clause numbers moved down past the dropped clauses"
  pub closing_plan : self_contained (bit_at set) B.clauses ≡ true → planning s ≡ done 0 (image B) → planning t ≡ done 0 (image_left (bit_at set) B)
  closing_plan inside e =
      planning_good t (close set B) closed_valid (query_same ∙ plan_found s B valid e) ∙ ap (done 0) (image_left_lem (bit_at set) B well inside)
