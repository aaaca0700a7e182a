-- The image of a table: its rows one after the other. A constraint of the final table has at most 20 masks, all of six positions, so a row has at most 25
-- bytes, and there are at most 64 rows. Assumes nothing.
use mathlib.Core.Path.{◌≡◌, refl, ap}
use mathlib.Core.Bool.{true}
use mathlib.Core.List.{List, [], ◌∷◌}
use Prim.Native.Nat.{ℕ, zero, suc, ◌+◌, ◌*◌, ◌^◌, ◌≤◌, ◌<◌}
use native.Mathlib.Nat.{pow-le-pow_right}
use native.Mathlib.Omega.{arith}
use lib.ListN.{length, get_or, length-append}
use borrow.Author.Tests.{leb-true}
use Rattle.masks.specs.Limits.{max_masks, all_patterns}
use Rattle.masks.specs.Constraint.{fitting, in_range}
use Rattle.book.specs.Limits.{max_predicates, longest_table}
use Rattle.book.specs.Book.{Book}
use Rattle.book.specs.Encode.{WellFormed}
use Rattle.book.specs.Table.{Table, entry}
use Rattle.tables.specs.Table.{final}
use Rattle.tables.specs.Image.{row, count_of, rows, image}
use Rattle.masks.proofs.Laws.Lists.{joined_cong}
use Rattle.masks.proofs.Laws.Chains.{at_most_twenty}
use Rattle.masks.proofs.Laws.Constraint.{in_range_mono, written_in_range}
use Rattle.masks.proofs.Laws.Counts.{fitting_most}
use Rattle.tables.proofs.Laws.Valid.{arity_low}
use Rattle.tables.proofs.Laws.Rounds.{final_proper}

pub row_length_lem : (p : ℕ) (masks : List ℕ) (count : ℕ) → length (row p masks count) ≡ 5 + length masks
row_length_lem p masks count = omega (arith, length-append masks (count ∷ []))

-- "for each predicate in turn CN, predicate, n, n masks", and the count: at most 25 bytes each
rows_length_lem : (arities : List ℕ) (T : Table) (n : ℕ) → ((p : ℕ) → p < n → length (entry T p) ≤ max_masks) → length (rows arities T n) ≤ 25 * n
rows_length_lem arities T zero h = omega arith
rows_length_lem arities T (suc n) h =
    omega (
      arith,
      rows_length_lem arities T n (λ p l. h p (omega arith)),
      h n (omega arith),
      row_length_lem n (entry T n) (count_of arities T n),
      length-append (rows arities T n) (row n (entry T n) (count_of arities T n)),
    )

module _ (arities others : List ℕ) (T : Table) where
  -- whatever the arities, the image is as long
  pub rows_size : (n : ℕ) → length (rows arities T n) ≡ length (rows others T n)
  rows_size zero = refl
  rows_size (suc n) =
      omega (
        arith,
        rows_size n,
        row_length_lem n (entry T n) (count_of arities T n),
        row_length_lem n (entry T n) (count_of others T n),
        length-append (rows arities T n) (row n (entry T n) (count_of arities T n)),
        length-append (rows others T n) (row n (entry T n) (count_of others T n)),
      )

  -- and it depends on the first n alone
  pub rows_same : (n : ℕ) → ((p : ℕ) → p < n → get_or arities p 0 ≡ get_or others p 0) → rows arities T n ≡ rows others T n
  rows_same n h =
      joined_cong (λ p. row p (entry T p) (count_of arities T p)) (λ p. row p (entry T p) (count_of others T p)) n
      (λ p l. ap (λ (k : ℕ). row p (entry T p) (fitting k (entry T p))) (h p l))

module _ (B : Book) (w : WellFormed B) where
  patterns_few : (p : ℕ) → 2 ^ get_or B.arities p 0 ≤ all_patterns
  patterns_few p = pow-le-pow_right (omega arith) (arity_low B w p)

  pub count_few : (p : ℕ) → count_of B.arities (final B) p ≤ all_patterns
  count_few p = omega (arith, fitting_most (get_or B.arities p 0) (entry (final B) p), patterns_few p)

  module _ (p : ℕ) (h : p < length B.arities) where
    pub final_low : in_range all_patterns (entry (final B) p) ≡ true
    final_low =
        let n = 2 ^ get_or B.arities p 0 in
        in_range_mono n all_patterns (entry (final B) p) (patterns_few p) (written_in_range n (entry (final B) p) ((final_proper B w).written· p h))

    pub final_few : length (entry (final B) p) ≤ max_masks
    final_few = at_most_twenty (2 ^ get_or B.arities p 0) (entry (final B) p) (patterns_few p) ((final_proper B w).written· p h)

  -- no table has a longer image
  pub table_length : length (image B) ≤ longest_table
  unfolding image
  table_length =
      let n = length B.arities in
      omega (arith, rows_length_lem B.arities (final B) n final_few, leb-true n max_predicates w.few_predicates)
