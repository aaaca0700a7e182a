-- No sheet is longer than 164,584 bytes. A field of a number below 100 has at most three bytes, so a line has at most three times the bytes of the record
-- that it comes from; the longest image of a table has 1,600 and the longest plan 53,259. The rounds are at most 4,096, and their line has at most seven.
-- Assumes nothing.
use mathlib.Core.Path.{◌≡◌, refl, ap, ◌∙◌}
use mathlib.Core.Logic.{inl, inr}
use mathlib.Core.List.{List, [], ◌∷◌, ◌++◌}
use Prim.Native.Nat.{ℕ, zero, suc, ◌+◌, ◌*◌, ◌/◌, ◌%◌, ◌^◌, ◌≤◌, ◌<◌}
use native.Mathlib.Nat.{pow-suc}
use native.Mathlib.Omega.{arith}
use lib.Dec.{ltb}
use lib.ListN.{length, get_or, take, length-append, length-take}
use lib.Seq.{take_all}
use borrow.Author.Tests.{lt-ltb, leb-true}
use Rattle.masks.specs.Lists.{joined}
use Rattle.book.specs.Limits.{longest, max_predicates, max_subgoals, longest_sheet}
use Rattle.book.specs.Book.{Book}
use Rattle.book.specs.Format.{number, Judged, fault, book, judge}
use Rattle.book.specs.Encode.{run, WellFormed}
use Rattle.book.specs.Table.{entry}
use Rattle.ordering.specs.Adorn.{nothing}
use Rattle.ordering.specs.Orders.{In, Rearranges}
use Rattle.ordering.specs.Good.{first_good, is_some}
use Rattle.tables.specs.Table.{rounds, final}
use Rattle.tables.specs.Image as table
use Rattle.choices.specs.Reached.{marked, reached}
use Rattle.choices.specs.Plan as plan
use Rattle.printing.specs.Sheet.{decimal_in, decimal, after, field, slashed, listing, none·, constraint_line, constraint_lines, rounds_line, query_line, order_line, refusal_line, order_lines, book_sheet, judged_sheet, sheet}
use Rattle.masks.proofs.Laws.Logic.{by_bool}
use Rattle.masks.proofs.Laws.Constraint.{in_range_at}
use Rattle.book.proofs.Laws.Answer.{number_range}
use Rattle.book.proofs.Laws.Places.{fault_place}
use Rattle.book.proofs.Laws.Bound.{judge_length}
use Rattle.book.proofs.Laws.Trip.{judge_inv}
use Rattle.ordering.proofs.Laws.Orders.{in_at}
use Rattle.tables.proofs.Laws.Sums.{sum_le, sum_times, length_joined}
use Rattle.tables.proofs.Laws.Rounds.{rounds_few}
use Rattle.tables.proofs.Laws.Image.{row_length_lem, count_few, final_low, table_length}
use Rattle.choices.proofs.Laws.Moded.{chosen_choice}
use Rattle.choices.proofs.Laws.Rows.{rows_out, clauses_few, body_few, plan_length_lem}

-- ---- fields

-- a number of at most d + 1 digits
digits_most : (k d n : ℕ) → n < 10 ^ suc d → length (decimal_in k n) ≤ suc d
unfolding decimal_in
digits_most zero d n h = omega arith
digits_most (suc k) zero n h = rw (lt-ltb n 10 (omega arith)) (omega arith)
digits_most (suc k) (suc d) n h =
    let p = pow-suc 10 (suc d) in
    by_bool (ltb n 10)
    (λ t. rw t (omega arith))
    (λ t. rw t (omega (arith, digits_most k d (n / 10) (omega arith), length-append (decimal_in k (n / 10)) ((48 + n % 10) ∷ []))))

after_most : (part : List ℕ) (d n : ℕ) → n < 10 ^ suc d → length (after part n) ≤ length part + suc d
unfolding after decimal
after_most part d n h = omega (arith, digits_most (suc n) d n h, length-append part (decimal_in (suc n) n))

pub field_most : (d n : ℕ) → n < 10 ^ suc d → length (field n) ≤ 2 + d
field_most d n h = omega (arith, after_most (32 ∷ []) d n h)

-- numbers below 100
abbrev Low : List ℕ → Type 0
Low xs = (i : ℕ) → i < length xs → get_or xs i 0 < 100

fields_most : (xs : List ℕ) → Low xs → length (run field xs) ≤ 3 * length xs
fields_most [] h = omega arith
fields_most (x ∷ xs) h =
    omega (arith, field_most 1 x (h 0 (omega arith)), fields_most xs (λ i l. h (suc i) (omega arith)), length-append (field x) (run field xs))

-- ---- the line of a record

-- mark, fields that lead, number, fields listed, and a count
listing_most : (none xs : List ℕ) → Low xs → length none ≤ 5 → length (listing none xs) ≤ 5 + 3 * length xs
listing_most none [] h l = omega arith
listing_most none (x ∷ xs) h l = omega (arith, fields_most (x ∷ xs) h)

constraint_most : (p : ℕ) (masks : List ℕ) (n : ℕ) → p < 100 → Low masks → n < 100 → length (constraint_line p masks n) ≤ 3 * length (table.row p masks n)
unfolding constraint_line
constraint_most p masks n l h m =
    omega (
      arith,
      field_most 1 p l,
      listing_most none· masks h (omega arith),
      after_most (32 ∷ 47 ∷ []) 1 n m,
      row_length_lem p masks n,
      length-append (listing none· masks) (slashed n),
      length-append (field p) (listing none· masks ++ slashed n),
      length-append (field p ++ (listing none· masks ++ slashed n)) (10 ∷ []),
    )

query_most : (σ : List ℕ) → Low σ → length (query_line σ) ≤ 3 * length (plan.enc_query σ)
unfolding query_line
query_most σ h = omega (arith, fields_most σ h, length-append (run field σ) (10 ∷ []))

order_most : (r : plan.Row) → r.clause· < 100 → r.pattern < 100 → Low r.places → length (order_line r) ≤ 3 * length (plan.enc_row r)
unfolding order_line
order_most r k a h =
    omega (
      arith,
      field_most 1 r.clause· k,
      field_most 1 r.pattern a,
      fields_most r.places h,
      length-append (field r.pattern) (run field r.places),
      length-append (field r.clause·) (field r.pattern ++ run field r.places),
      length-append (field r.clause· ++ (field r.pattern ++ run field r.places)) (10 ∷ []),
    )

-- a line for each record
run_most : {A : Type 0} (f g : A → List ℕ) (l : List A) → ((a : A) → In a l → length (f a) ≤ 3 * length (g a)) → length (run f l) ≤ 3 * length (run g l)
run_most f g [] h = omega arith
run_most f g (a ∷ l) h =
    omega (arith, h a (inl refl), run_most f g l (λ b m. h b (inr m)), length-append (f a) (run f l), length-append (g a) (run g l))

joined_most : (f g : ℕ → List ℕ) (n : ℕ) → ((p : ℕ) → p < n → length (f p) ≤ 3 * length (g p)) → length (joined f n) ≤ 3 * length (joined g n)
joined_most f g n h =
    omega (
      arith,
      length_joined f n,
      length_joined g n,
      sum_le (λ p. length (f p)) (λ p. 3 * length (g p)) n h,
      sum_times 3 (λ p. length (g p)) n,
    )

-- "`X`, number, value"
pub refusal_most : (n value : ℕ) → n < 10 → value < 10 ^ 20 → length (refusal_line n value) ≤ 25
unfolding refusal_line
refusal_most n value h l =
    omega (arith, field_most 0 n h, field_most 19 value l, length-append (field n) (field value), length-append (field n ++ field value) (10 ∷ []))

-- ---- a book

module _ (B : Book) (w : WellFormed B) where
  constraints_most : length (constraint_lines B) ≤ 3 * length (table.image B)
  unfolding constraint_lines table.image
  constraints_most =
      let n = length B.arities in
      let few = leb-true n max_predicates w.few_predicates in
      let T = final B in
      joined_most (λ p. constraint_line p (entry T p) (table.count_of B.arities T p)) (λ p. table.row p (entry T p) (table.count_of B.arities T p)) n
      (λ p h.
      constraint_most p (entry T p) (table.count_of B.arities T p) (omega arith) (λ i l. omega (arith, in_range_at 64 (entry T p) i (final_low B w p h) l))
      (omega (arith, count_few B w p)))

  rounds_most : length (rounds_line B) ≤ 7
  unfolding rounds_line
  rounds_most = omega (arith, rounds_few B w, field_most 3 (rounds B) (omega (arith, rounds_few B w)), length-append (field (rounds B)) (10 ∷ []))

  -- places of a body or a query
  places_low : (n : ℕ) (σ : List ℕ) → n ≤ max_subgoals → Rearranges n σ → Low σ
  places_low n σ h r i l = omega (arith, r.below (get_or σ i 0) (in_at 0 σ i l))

  plan_most : length (query_line (plan.chosen B).for_query ++ run order_line (plan.plan_rows B)) ≤ 3 * length (plan.image B)
  unfolding plan.image plan.plan_rows plan.rows_of plan.chosen
  plan_most =
      let χ = plan.chosen B in
      let c = chosen_choice (final B) B in
      let f = marked (reached B χ) in
      omega (
        arith,
        query_most χ.for_query (places_low (length B.query) χ.for_query (leb-true (length B.query) max_subgoals w.few_asked) c.query·),
        run_most order_line plan.enc_row (plan.rows_under B χ f) row_most,
        length-append (query_line χ.for_query) (run order_line (plan.rows_under B χ f)),
        length-append (plan.enc_query χ.for_query) (run plan.enc_row (plan.rows_under B χ f)),
      )
    where
      row_most : (r : plan.Row) → In r (plan.rows_under B (plan.chosen B) (marked (reached B (plan.chosen B)))) → length (order_line r) ≤ 3 * length (plan.enc_row r)
      row_most r m =
          let o = rows_out B (plan.chosen B) (marked (reached B (plan.chosen B))) r m in
          let few = clauses_few B w in
          order_most r (omega arith) (omega arith)
          (places_low _ r.places (body_few B w r.clause· o.0) (rw o.2 ((chosen_choice (final B) B).clause· r.clause· r.pattern o.0)))

  orders_most : length (order_lines B) ≤ 159777
  unfolding order_lines
  orders_most =
      by_bool (is_some (first_good (final B) B.query nothing))
      (λ t. rw t (omega (arith, plan_most, plan_length_lem B w)))
      (λ t. rw t (omega (arith, refusal_most 7 0 (omega arith) (omega arith))))

  pub book_length_lem : length (book_sheet B) ≤ longest_sheet
  unfolding book_sheet
  book_length_lem =
      omega (
        arith,
        constraints_most,
        table_length B w,
        rounds_most,
        orders_most,
        length-append (rounds_line B) (order_lines B),
        length-append (constraint_lines B) (rounds_line B ++ order_lines B),
      )

-- ---- any bytes

-- that a machine can have
pub judged_length : (s : List ℕ) → length s < 10 ^ 20 → length (judged_sheet (judge s)) ≤ longest_sheet
judged_length s h = go (judge s) refl
  where
    go : (j : Judged) → judge s ≡ j → length (judged_sheet j) ≤ longest_sheet
    go (fault f at) e = omega (arith, refusal_most (number f) at (omega (arith, number_range f)) (omega (arith, fault_place s f at e)))
    go (book B) e = book_length_lem B (judge_inv s B e).1

pub sheet_length : (s : List ℕ) → length (sheet s) ≤ longest_sheet
unfolding sheet
sheet_length s = judged_length (take (suc longest) s) (omega (arith, length-take (suc longest) s))

-- a book is never cut
pub sheet_book : (s : List ℕ) (B : Book) → judge s ≡ book B → sheet s ≡ book_sheet B
unfolding sheet
sheet_book s B e =
    let whole : take (suc longest) s ≡ s = take_all (suc longest) s (omega (arith, (judge_length s B e).1)) in
    ap (λ (t : List ℕ). judged_sheet (judge t)) whole ∙ ap judged_sheet e
