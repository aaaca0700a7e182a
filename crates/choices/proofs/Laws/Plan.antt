-- Demand 2, of what planning comes to: a valid book is refused as unorderable exactly when no choice makes it well-moded, and a plan has exactly what is
-- reached, each in the first of the good orders, which leaves no argument of its head unbound. Assumes nothing.
use mathlib.Core.Path.{◌≡◌, refl, sym, ◌∙◌}
use mathlib.Core.Bool.{true, false}
use mathlib.Core.Logic.{◌↔◌}
use mathlib.Core.List.{List}
use mathlib.Core.Option.{some}
use Prim.Native.Nat.{ℕ, ◌<◌}
use lib.ListN.{length}
use Rattle.masks.specs.Outcome.{refused, done}
use Rattle.book.specs.Book.{Book}
use Rattle.book.specs.Encode.{WellFormed}
use Rattle.book.specs.Format.{book, judge}
use Rattle.ordering.specs.Adorn.{nothing, head_bound}
use Rattle.ordering.specs.Orders.{In, Rearranges, Least}
use Rattle.ordering.specs.Good.{good_from, first_good, is_some, filled}
use Rattle.tables.specs.Table.{final}
use Rattle.choices.specs.Choice.{clause, IsChoice, Reaches, WellModed, Orderable}
use Rattle.choices.specs.Reached.{marked, reached}
use Rattle.choices.specs.Plan.{Row, chosen, rows_of, plan_rows, image, planned, planning}
use Rattle.masks.proofs.Laws.Logic.{by_bool, false_of}
use Rattle.masks.proofs.Laws.Outcome.{refused_done}
use Rattle.book.proofs.Laws.Answer.{on_book_lem}
use Rattle.book.proofs.Laws.Trip.{judge_inv}
use Rattle.ordering.proofs.Laws.Brought.{brought_ran, head_length}
use Rattle.tables.proofs.Laws.Valid.{clause_own}
use Rattle.choices.proofs.Laws.Reached.{reaches_low, reached_iff}
use Rattle.choices.proofs.Laws.Moded.{chosen_choice, reached_good, sound, orderable}
use Rattle.choices.proofs.Laws.Rows.{rows_out, rows_in, rows_first, query_first_lem}

-- ---- what planning comes to

-- by whether the query has an order good against the final table
pub planned_good : (B : Book) → is_some (first_good (final B) B.query nothing) ≡ true → planned B ≡ done 0 (image B)
unfolding planned
planned_good B t = rw t

pub planned_none : (B : Book) → is_some (first_good (final B) B.query nothing) ≡ false → planned B ≡ refused 7 0
unfolding planned
planned_none B t = rw t

-- ---- reply 7, or a plan

-- of a string of bytes that is a valid book
module _ (s : List ℕ) (B : Book) (valid : judge s ≡ book B) where
  well : WellFormed B
  well = (judge_inv s B valid).1

  pub planning_good : is_some (first_good (final B) B.query nothing) ≡ true → planning s ≡ done 0 (image B)
  planning_good t = sym (on_book_lem planned s B (sym valid)) ∙ planned_good B t

  planning_none : is_some (first_good (final B) B.query nothing) ≡ false → planning s ≡ refused 7 0
  planning_none t = sym (on_book_lem planned s B (sym valid)) ∙ planned_none B t

  -- "7: the query of a valid book has no order good against the final table"
  pub seven_none : (planning s ≡ refused 7 0) ↔ (is_some (first_good (final B) B.query nothing) ≡ false)
  seven_none = (λ e. false_of (λ t. refused_done (sym e ∙ planning_good t)), planning_none)

  -- "Reply 7 is given exactly when no choice does."
  pub seven_iff : (planning s ≡ refused 7 0) ↔ (Orderable B → ⊥)
  seven_iff = (
    λ e x. refused_done (sym e ∙ planning_good ((orderable B well).0 x)),
    λ n. planning_none (false_of (λ t. n ((orderable B well).1 t))),
  )

  pub plan_found : planning s ≡ done 0 (image B) → is_some (first_good (final B) B.query nothing) ≡ true
  plan_found e = by_bool (is_some (first_good (final B) B.query nothing)) (λ t. t) (λ t. refused_done (sym (planning_none t) ∙ e))

  -- and a plan exactly when one does
  pub plan_iff : (planning s ≡ done 0 (image B)) ↔ Orderable B
  plan_iff = (λ e. (orderable B well).1 (plan_found e), λ x. planning_good ((orderable B well).0 x))

  -- SOUND: the orders of the plan are a choice that does
  pub plan_sound : planning s ≡ done 0 (image B) → IsChoice B (chosen B) × WellModed B (chosen B)
  unfolding chosen
  plan_sound e = (chosen_choice (final B) B, sound B well (plan_found e))

-- ---- what a plan has

module _ (B : Book) (w : WellFormed B) where
  -- exactly the clauses of reached predicates, under the patterns reached
  pub plan_exact : (k a : ℕ) → ((σ : List ℕ) × In (record { clause· = k; pattern = a; places = σ }) (plan_rows B))
      ↔ ((k < length B.clauses) × Reaches B (chosen B) (clause B k).head.pred a)
  unfolding plan_rows rows_of chosen clause
  plan_exact k a = (
    λ x.
        let h = rows_out B (chosen B) (marked (reached B (chosen B))) (record { clause· = k; pattern = a; places = x.0 }) x.1 in
        (h.0, told.0 h.1),
    λ x. (
      (chosen B).for_clause k a,
      rows_in B (chosen B) (marked (reached B (chosen B))) k a x.0 (clause_own B w _ k x.0) (reaches_low B (chosen B) w (chosen_choice (final B) B) x.1).1 (told.1 x.1),
    ),
  )
    where
      told : (marked (reached B (chosen B)) (clause B k).head.pred a ≡ true) ↔ Reaches B (chosen B) (clause B k).head.pred a
      told = reached_iff B (chosen B) w (chosen_choice (final B) B) (clause B k).head.pred a

  module _ (found : is_some (first_good (final B) B.query nothing) ≡ true) where
    -- FIRST: "for the query and each clause under each reached pattern, the smallest list of subgoal places (from 0, compared from the left) among the
    -- orders good against the final table"
    pub plan_query_first : Least (λ σ. Rearranges (length B.query) σ × (good_from (final B) B.query nothing σ ≡ true)) (some (chosen B).for_query)
    unfolding chosen
    plan_query_first = query_first_lem B (final B) found

    pub plan_first : (r : Row) → In r (plan_rows B)
        → Least (λ σ. Rearranges (length (clause B r.clause·).body) σ
        × (good_from (final B) (clause B r.clause·).body (head_bound (clause B r.clause·).head.args r.pattern) σ ≡ true)) (some r.places)
    unfolding plan_rows rows_of chosen
    plan_first r m =
        let h = rows_out B (chosen B) (marked (reached B (chosen B))) r m in
        rows_first B (final B) (marked (reached B (chosen B))) r m
        (reached_good B w found r.clause· r.pattern h.0
        ((reached_iff B (chosen B) w (chosen_choice (final B) B) (clause B r.clause·).head.pred r.pattern).0 h.1))

    -- FILLED: what W3 is for: when a clause has run in its order, every argument of its head is bound
    pub plan_filled : (r : Row) → In r (plan_rows B)
        → filled (clause B r.clause·) (head_bound (clause B r.clause·).head.args r.pattern) r.places ≡ true
    plan_filled r m =
        let c = clause B r.clause· in
        let x = (plan_exact r.clause· r.pattern).0 (r.places, m) in
        sym (brought_ran c (head_bound c.head.args r.pattern) r.places (head_length c.head.args r.pattern) ((plan_first r m).has r.places refl).0)
        ∙ (sound B w found).brings r.clause· r.pattern x.0 x.1
