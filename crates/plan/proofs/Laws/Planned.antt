-- The plan of a book that is lent. Its clauses call its own predicates, so the orders found against the table as it is held are those found against the
-- final table; what they reach, they reach in good orders, so they are the orders chosen; and the rows come out as the definition has them. Assumes
-- nothing.
use mathlib.Core.Path.{◌≡◌, refl, sym, ap, ap₂, ◌∙◌, subst}
use mathlib.Core.Bool.{true, cond}
use mathlib.Core.List.{List, [], ◌∷◌, ◌++◌, append-nil}
use mathlib.Core.Option.{Option, none, some}
use Prim.Native.Nat.{ℕ, ◌+◌, ◌*◌, ◌≤◌, ◌<◌}
use native.Mathlib.Omega.{arith}
use lib.Dec.{eqb, ltb}
use lib.ListN.{length, get_or, length-append}
use borrow.Author.Tests.{eqb-true, leb-true, ltb-true, lt-ltb, le-ltb}
use Rattle.masks.specs.Limits.{all_patterns}
use Rattle.masks.specs.Lists.{joined}
use Rattle.masks.specs.Outcome.{refused, done}
use Rattle.masks.specs.Set.{bit_at, members}
use Rattle.book.specs.Limits.{max_predicates, max_clauses}
use Rattle.book.specs.Book.{Call, Clause, no_clause, Book}
use Rattle.book.specs.Encode.{run}
use Rattle.book.specs.Held.{clause_at, book_in, book_of}
use Rattle.book.specs.Table.{Table, table_in, Full}
use Rattle.book.specs.Sets.{callable, Known}
use Rattle.reading.specs.Judged.{BookHeld}
use Rattle.book.specs.declared.held.RuleBook.{RuleBook}
use Rattle.ordering.specs.Adorn.{Bound, nothing, head_bound}
use Rattle.ordering.specs.Good.{first_good, is_some}
use Rattle.ordering.specs.Held.{or_none}
use Rattle.tables.specs.Table.{final}
use Rattle.needs.specs.Round.{Settles}
use Rattle.needs.specs.declared.Needs.{Needs}
use Rattle.choices.specs.Choice.{clause, Reaches}
use Rattle.choices.specs.Reached.{marked, reached}
use Rattle.choices.specs.Plan.{or_standing, first_choice, chosen, rows_for, rows_under, rows_of, plan_rows, enc_query, enc_row, image, planned}
use Rattle.reach.specs.Marked.{marked_at, taken, ReachedIn}
use Rattle.plan.specs.Lent.{Lent, Lending, EachCallable, row_by, clause_rows, pattern_rows, plan_bytes, rows_length, plan_length}
use Rattle.masks.proofs.Laws.Logic.{by_bool, same, clash, and_left, and_right}
use Rattle.masks.proofs.Laws.Lists.{joined_cong, joined_cut}
use Rattle.book.proofs.Laws.Encode.{run_joined}
use Rattle.book.proofs.Laws.Sets.{calls_below}
use Rattle.ordering.proofs.Laws.Held.{admitted_full, admitted_first, body_few}
use Rattle.tables.proofs.Laws.Sums.{sum_cong, length_joined, sum_each}
use Rattle.tables.proofs.Laws.Valid.{query_callable, query_calls_lem, clause_calls_lem}
use Rattle.needs.proofs.Laws.Settling.{clauses_count, clause_is, known_clauses, read_held}
use Rattle.choices.proofs.Laws.Reached.{reached_iff, reaches_agree, reaches_back}
use Rattle.choices.proofs.Laws.Moded.{chosen_choice, reached_good}
use Rattle.choices.proofs.Laws.Plan.{planned_good, planned_none}
use Rattle.reach.proofs.Laws.Working.{book_clause, own_callable}

-- an order that was found is the one chosen
standing_none : (n : ℕ) (o : Option (List ℕ)) → is_some o ≡ true → or_standing n o ≡ or_none o
standing_none n none e = clash e refl
standing_none n (some σ) e = refl

module _ {B : Book} {preds clauses : ℕ} {rules own table : List ℕ} (l : Lent B preds clauses rules own table) where
  abbrev held : Table
  held = table_in table max_predicates

  pub few_preds : preds ≤ max_predicates
  few_preds = let e = l.preds· in let h = leb-true (length B.arities) max_predicates l.well.few_predicates in omega arith

  count : length B.clauses ≡ clauses
  count = clauses_count B rules clauses l.clauses·

  pub lent_known : Known rules clauses
  lent_known = known_clauses B rules clauses l.clauses· l.well

  -- each predicate's clauses can be tried
  pub lent_callable : EachCallable rules own
  lent_callable p h = own_callable rules clauses own l.owns p h lent_known

  here : (k : ℕ) → k < clauses → clause B k ≡ clause_at rules k
  here = book_clause B rules clauses l.clauses·

  -- ---- the orders found are those against the final table

  pub lent_full : Full table
  lent_full = admitted_full l.masks table l.admitted

  order : (k : ℕ) (b : Bound) → callable (clause_at rules k).body ≡ true → calls_below (length B.arities) (clause_at rules k).body ≡ true
      → first_good held (clause_at rules k).body b ≡ first_good (final B) (clause_at rules k).body b
  order k b c t =
      admitted_first l.masks table l.admitted preds few_preds (clause_at rules k).body c (body_few rules k)
      (subst (λ (n : ℕ). calls_below n (clause_at rules k).body ≡ true) l.preds· t) b
      ∙ ap (λ (T : Table). first_good T (clause_at rules k).body b) l.final·

  pub lent_query : callable (clause_at rules max_clauses).body ≡ true
  lent_query = subst (λ (body : List Call). callable body ≡ true) l.query· (query_callable B l.well)

  pub query_order : first_good held (clause_at rules max_clauses).body nothing ≡ first_good (final B) B.query nothing
  query_order =
      order max_clauses nothing lent_query (subst (λ (body : List Call). calls_below (length B.arities) body ≡ true) l.query· (query_calls_lem B l.well))
      ∙ ap (λ (body : List Call). first_good (final B) body nothing) (sym l.query·)

  clause_order : (k a : ℕ) → k < clauses
      → first_good held (clause B k).body (head_bound (clause B k).head.args a) ≡ first_good (final B) (clause B k).body (head_bound (clause B k).head.args a)
  clause_order k a h =
      let e = here k h in
      subst
      (λ (c : Clause). first_good held c.body (head_bound c.head.args a) ≡ first_good (final B) c.body (head_bound c.head.args a))
      (sym e)
      (order k (head_bound (clause_at rules k).head.args a) (lent_known.bodies k h)
      (subst (λ (c : Clause). calls_below (length B.arities) c.body ≡ true) (clause_is B rules clauses l.clauses· no_clause k h)
      (clause_calls_lem B l.well no_clause k (let n = count in omega arith))))

  -- ---- a query that has a good order

  module _ (found : is_some (first_good (final B) B.query nothing) ≡ true) where
    same_query : (chosen B).for_query ≡ (taken held B).for_query
    unfolding chosen first_choice taken
    same_query =
        standing_none (length B.query) (first_good (final B) B.query nothing) found
        ∙ ap or_none (sym query_order ∙ ap (λ (body : List Call). first_good held body nothing) (sym l.query·))

    same_clause : (k a : ℕ) → k < length B.clauses → Reaches B (chosen B) (clause B k).head.pred a → (chosen B).for_clause k a ≡ (taken held B).for_clause k a
    unfolding chosen first_choice taken
    same_clause k a h r =
        standing_none (length (clause B k).body) (first_good (final B) (clause B k).body (head_bound (clause B k).head.args a))
        (reached_good B l.well found k a h r)
        ∙ ap or_none (sym (clause_order k a (let e = count in omega arith)))

    taken_reaches : {p a : ℕ} → Reaches B (taken held B) p a → Reaches B (chosen B) p a
    taken_reaches = reaches_back B (taken held B) (chosen B) (sym same_query) (λ k a h r. sym (same_clause k a h r))

    chosen_reaches : {p a : ℕ} → Reaches B (chosen B) p a → Reaches B (taken held B) p a
    chosen_reaches = reaches_agree B (chosen B) (taken held B) same_query same_clause

    module _ (words : List ℕ) (m : ReachedIn rules clauses held words) where
      -- the words mark what the chosen orders reach
      reaches_mark : (p a : ℕ) → marked_at words p a ≡ true → Reaches B (chosen B) p a
      reaches_mark p a e = taken_reaches ((m B l.clauses· l.query· p a).0 e)

      marks : (p a : ℕ) → marked_at words p a ≡ marked (reached B (chosen B)) p a
      unfolding chosen
      marks p a =
          let f = reached_iff B (chosen B) l.well (chosen_choice (final B) B) p a in
          same (marked_at words p a) (marked (reached B (chosen B)) p a)
          (λ e. f.1 (reaches_mark p a e))
          (λ e. (m B l.clauses· l.query· p a).1 (chosen_reaches (f.0 e)))

      -- ---- a row

      row_places : (k a : ℕ) → k < clauses → Reaches B (chosen B) (clause_at rules k).head.pred a → (row_by rules held k a).places ≡ (chosen B).for_clause k a
      unfolding row_by taken
      row_places k a h r =
          let e = here k h in
          ap (λ (c : Clause). or_none (first_good held c.body (head_bound c.head.args a))) (sym e)
          ∙ sym (same_clause k a (let n = count in omega arith) (subst (λ (c : Clause). Reaches B (chosen B) c.head.pred a) (sym e) r))

      row_is : (k a : ℕ) → k < clauses → Reaches B (chosen B) (clause_at rules k).head.pred a
          → enc_row (row_by rules held k a) ≡ run enc_row (record { clause· = k; pattern = a; places = (chosen B).for_clause k a } ∷ [])
      unfolding row_by
      row_is k a h r =
          ap (λ (σ : List ℕ). enc_row (record { clause· = k; pattern = a; places = σ })) (row_places k a h r)
          ∙ sym (append-nil (enc_row (record { clause· = k; pattern = a; places = (chosen B).for_clause k a })))

      -- ---- the rows of a predicate under a pattern

      rows_one : (p a k : ℕ) → p < max_predicates → marked_at words p a ≡ true → k < clauses
          → cond (bit_at (get_or own p 0) k) (enc_row (row_by rules held k a)) []
          ≡ run enc_row (cond (eqb (clause B k).head.pred p) (record { clause· = k; pattern = a; places = (chosen B).for_clause k a } ∷ []) [])
      rows_one p a k q e h =
          let c = here k h in
          let w : bit_at (get_or own p 0) k ≡ eqb (clause B k).head.pred p =
          l.owns p q k ∙ rw (lt-ltb k clauses h) (ap (λ (d : Clause). eqb d.head.pred p) (sym c)) in
          by_bool (eqb (clause B k).head.pred p)
          (λ t. rw (w, t)
          (row_is k a h
          (subst (λ (r : ℕ). Reaches B (chosen B) r a) (sym (eqb-true (clause B k).head.pred p t) ∙ ap (λ (d : Clause). d.head.pred) c) (reaches_mark p a e))))
          (λ t. rw (w, t))

      rows_cell : (p a : ℕ) → p < max_predicates → marked_at words p a ≡ true → clause_rows rules held (get_or own p 0) a ≡ run enc_row (rows_for B (chosen B) p a)
      unfolding clause_rows rows_for
      rows_cell p a q e =
          joined_cut (λ k. cond (bit_at (get_or own p 0) k) (enc_row (row_by rules held k a)) []) clauses max_clauses l.few
          (λ k h. rw (l.owns p q k, le-ltb k clauses h))
          ∙ joined_cong (λ k. cond (bit_at (get_or own p 0) k) (enc_row (row_by rules held k a)) [])
          (λ k. run enc_row (cond (eqb (clause B k).head.pred p) (record { clause· = k; pattern = a; places = (chosen B).for_clause k a } ∷ []) [])) clauses
          (λ k h. rows_one p a k q e h)
          ∙ ap (joined (λ k. run enc_row (cond (eqb (clause B k).head.pred p) (record { clause· = k; pattern = a; places = (chosen B).for_clause k a } ∷ []) []))) (sym count)
          ∙ sym (run_joined enc_row (λ k. cond (eqb (clause B k).head.pred p) (record { clause· = k; pattern = a; places = (chosen B).for_clause k a } ∷ []) []) (length B.clauses))

      rows_pattern : (p a : ℕ) → p < max_predicates → cond (bit_at (get_or words p 0) a) (clause_rows rules held (get_or own p 0) a) []
          ≡ run enc_row (cond (marked (reached B (chosen B)) p a) (rows_for B (chosen B) p a) [])
      rows_pattern p a q =
          let w = marks p a in
          by_bool (marked (reached B (chosen B)) p a)
          (λ t. rw (w, t) (rows_cell p a q (w ∙ t)))
          (λ t. rw (w, t))

      rows_predicate : (p : ℕ) → p < max_predicates → pattern_rows rules held (get_or own p 0) (get_or words p 0)
          ≡ run enc_row (joined (λ a. cond (marked (reached B (chosen B)) p a) (rows_for B (chosen B) p a) []) all_patterns)
      unfolding pattern_rows
      rows_predicate p q =
          joined_cong (λ a. cond (bit_at (get_or words p 0) a) (clause_rows rules held (get_or own p 0) a) [])
          (λ a. run enc_row (cond (marked (reached B (chosen B)) p a) (rows_for B (chosen B) p a) [])) all_patterns (λ a h. rows_pattern p a q)
          ∙ sym (run_joined enc_row (λ a. cond (marked (reached B (chosen B)) p a) (rows_for B (chosen B) p a) []) all_patterns)

      -- ---- all rows, and the plan

      rows_all : joined (λ p. pattern_rows rules held (get_or own p 0) (get_or words p 0)) preds ≡ run enc_row (plan_rows B)
      unfolding plan_rows rows_of rows_under
      rows_all =
          joined_cong (λ p. pattern_rows rules held (get_or own p 0) (get_or words p 0))
          (λ p. run enc_row (joined (λ a. cond (marked (reached B (chosen B)) p a) (rows_for B (chosen B) p a) []) all_patterns)) preds
          (λ p h. rows_predicate p (let f = few_preds in omega arith))
          ∙ ap (joined (λ p. run enc_row (joined (λ a. cond (marked (reached B (chosen B)) p a) (rows_for B (chosen B) p a) []) all_patterns))) (sym l.preds·)
          ∙ sym (run_joined enc_row (λ p. joined (λ a. cond (marked (reached B (chosen B)) p a) (rows_for B (chosen B) p a) []) all_patterns) (length B.arities))

      pub plan_bytes_lem : (σ : List ℕ) → σ ≡ or_none (first_good held (clause_at rules max_clauses).body nothing) → plan_bytes σ preds rules held own words ≡ image B
      unfolding plan_bytes image taken
      plan_bytes_lem σ e =
          ap₂ {C = List ℕ} ◌++◌
          (ap enc_query (e ∙ ap (λ (body : List Call). or_none (first_good held body nothing)) (sym l.query·) ∙ sym same_query))
          rows_all

      -- ---- how long it is

      -- an order has a place for each subgoal
      row_long : (k a : ℕ) → k < clauses → Reaches B (chosen B) (clause_at rules k).head.pred a → length (enc_row (row_by rules held k a)) ≡ 5 + length (clause_at rules k).body
      unfolding row_by chosen
      row_long k a h r =
          let e = ap length (row_places k a h r) in
          let n = ((chosen_choice (final B) B).clause· k a (let n = count in omega arith)).long in
          let c = ap (λ (d : Clause). length d.body) (here k h) in
          omega arith

      cell_long : (p a : ℕ) → p < max_predicates → marked_at words p a ≡ true → length (clause_rows rules held (get_or own p 0) a) ≡ rows_length rules (get_or own p 0)
      unfolding clause_rows rows_length
      cell_long p a q e =
          length_joined (λ k. cond (bit_at (get_or own p 0) k) (enc_row (row_by rules held k a)) []) max_clauses
          ∙ sum_cong (λ k. length (cond (bit_at (get_or own p 0) k) (enc_row (row_by rules held k a)) [])) (λ k. cond (bit_at (get_or own p 0) k) (5 + length (clause_at rules k).body) 0) max_clauses
          (λ k h. by_bool (bit_at (get_or own p 0) k)
          (λ t.
          let w = sym (l.owns p q k) ∙ t in
          let s = eqb-true (clause_at rules k).head.pred p (and_right (ltb k clauses) (eqb (clause_at rules k).head.pred p) w) in
          let n = ltb-true k clauses (and_left (ltb k clauses) (eqb (clause_at rules k).head.pred p) w) in
          rw t (row_long k a n (subst (λ (r : ℕ). Reaches B (chosen B) r a) (sym s) (reaches_mark p a e))))
          (λ t. rw t))

      predicate_long : (p : ℕ) → p < max_predicates → length (pattern_rows rules held (get_or own p 0) (get_or words p 0)) ≡ rows_length rules (get_or own p 0) * length (members (get_or words p 0))
      unfolding pattern_rows members
      predicate_long p q =
          length_joined (λ a. cond (bit_at (get_or words p 0) a) (clause_rows rules held (get_or own p 0) a) []) all_patterns
          ∙ sum_cong (λ a. length (cond (bit_at (get_or words p 0) a) (clause_rows rules held (get_or own p 0) a) [])) (λ a. cond (bit_at (get_or words p 0) a) (rows_length rules (get_or own p 0)) 0) all_patterns
          (λ a h. by_bool (bit_at (get_or words p 0) a) (λ t. rw t (cell_long p a q t)) (λ t. rw t))
          ∙ sum_each (rows_length rules (get_or own p 0)) (bit_at (get_or words p 0)) all_patterns

      pub plan_long : plan_length preds rules own words ≡ length (image B)
      unfolding plan_length image chosen
      plan_long =
          let q = (chosen_choice (final B) B).query·.long in
          let c = ap length l.query· in
          let r = length_joined (λ p. pattern_rows rules held (get_or own p 0) (get_or words p 0)) preds in
          let s = sum_cong (λ p. length (pattern_rows rules held (get_or own p 0) (get_or words p 0))) (λ p. rows_length rules (get_or own p 0) * length (members (get_or words p 0))) preds
          (λ p h. predicate_long p (let f = few_preds in omega arith)) in
          let t = ap length rows_all in
          let u = length-append (enc_query (chosen B).for_query) (run enc_row (plan_rows B)) in
          omega arith

  -- ---- what the code gives, by the order that it finds for the query

  -- there is none: 7
  pub given_none : none ≡ first_good held (clause_at rules max_clauses).body nothing → planned B ≡ refused 7 0
  given_none e = planned_none B (ap is_some (sym query_order) ∙ ap is_some (sym e))

  -- there is one: a plan, as long as it was measured
  module _ (σ : List ℕ) (e : some σ ≡ first_good held (clause_at rules max_clauses).body nothing) (words : List ℕ) (m : ReachedIn rules clauses held words) where
    abbrev bytes : List ℕ
    bytes = plan_bytes σ preds rules held own words

    given_some : is_some (first_good (final B) B.query nothing) ≡ true
    given_some = ap is_some (sym query_order) ∙ ap is_some (sym e)

    given_bytes : bytes ≡ image B
    given_bytes = plan_bytes_lem given_some words m σ (ap or_none e)

    pub given_plan : planned B ≡ done 0 bytes
    given_plan = planned_good B given_some ∙ ap (done 0) (sym given_bytes)

    pub given_size : plan_length preds rules own words ≡ length bytes
    given_size = plan_long given_some words m ∙ ap length (sym given_bytes)

-- ---- a book that was read, and settled

pub lent_read : {s : List ℕ} {given k : ℕ} {b : RuleBook} {needs : Needs} → BookHeld s given b → Settles b needs k → Lending (book_of b) b needs
unfolding book_in
lent_read {needs = needs} r settles =
    let h = read_held r in
    let t = settles _ h in
    record {
      well = h.well;
      preds· = h.preds·;
      few = h.few;
      clauses· = h.clauses·;
      query· = refl;
      owns = t.owns;
      masks = needs.table.masks;
      final· = ap (table_in needs.table.masks) (sym h.preds·) ∙ t.final·;
      admitted = t.admitted;
    }
