-- Table 0 as it is held, predicate by predicate; and the image of a table, row by row. Assumes nothing.
use mathlib.Core.Path.{◌≡◌, refl, sym, ap, ap₂, ◌∙◌}
use mathlib.Core.Bool.{true, false, cond}
use mathlib.Core.List.{List, [], ◌∷◌, ◌++◌}
use mathlib.Core.Option.{none, some}
use Prim.Native.Nat.{ℕ, ◌+◌, ◌^◌, ◌≤◌, ◌<◌}
use native.Mathlib.Numerals.{add-one}
use native.Mathlib.Omega.{arith}
use lib.Dec.{eqb}
use lib.ListN.{length, get_or, set, length-set}
use lib.Seq.{get_or-set_same, get_or-set_other}
use borrow.Author.Tests.{eqb-true, eqb-false, eq-eqb, ne_eqb}
use Rattle.masks.specs.Mask.{within}
use Rattle.masks.specs.Set.{bit_at, members}
use Rattle.masks.specs.Patterns.{EachLane}
use Rattle.masks.specs.Constraint.{trivial, admits, fitting, in_range, is_written, minimise}
use Rattle.masks.proofs.Laws.Constraint.{minimise_same}
use Rattle.masks.specs.Lists.{how_many}
use Rattle.masks.proofs.Laws.Logic.{by_bool, or_left}
use Rattle.masks.proofs.Laws.Mask.{within_zero}
use Rattle.masks.proofs.Laws.Set.{bit_at_zero}
use Rattle.masks.proofs.Laws.Counts.{fitting_word}
use Rattle.masks.proofs.Laws.Patterns.{ones, bit_at_ones}
use Rattle.masks.proofs.Laws.Sets.{members_none, members_zero}
use Rattle.masks.proofs.Laws.Lists.{values_cong, get_or_values}
use Rattle.book.specs.Limits.{max_predicates}
use Rattle.book.specs.Held.{has_in, masks_in, mode_bytes, mode_at, modes_of}
use Rattle.book.specs.Table.{Table, entry_in, table_in, Admitted, LowArities}
use Rattle.book.specs.Sets.{Cleared}
use Rattle.book.proofs.Laws.Held.{modes_of_joined}
use Rattle.writing.proofs.Laws.Chunks.{Chunks}
use Rattle.tables.proofs.Laws.Modes.{mode_of_joined}
use Rattle.tables.specs.Table.{mode_of, declared, first_needs}
use Rattle.tables.specs.Image.{row, rows}

-- ---- table 0

-- the mode of p among those of an array
module _ (modes : List ℕ) (p : ℕ) where
  mode_at_other : (i : ℕ) → (i ≡ p → ⊥) → mode_of (mode_at modes i) p ≡ none
  unfolding mode_of mode_at
  mode_at_other i ne = by_bool (has_in (mode_bytes modes i)) (λ t. rw (t, ne_eqb i p ne)) (λ t. rw t)

  mode_at_own : mode_of (mode_at modes p) p ≡ cond (has_in (mode_bytes modes p)) (some (masks_in (mode_bytes modes p))) none
  unfolding mode_of mode_at
  mode_at_own = by_bool (has_in (mode_bytes modes p)) (λ t. rw (t, eq-eqb p p refl)) (λ t. rw t)

  pub mode_of_modes_of : (n : ℕ) → p < n → mode_of (modes_of modes n) p ≡ cond (has_in (mode_bytes modes p)) (some (masks_in (mode_bytes modes p))) none
  mode_of_modes_of n h = rw (modes_of_joined modes n) (mode_of_joined (mode_at modes) p mode_at_other n h ∙ mode_at_own)

-- so what p needs first: nothing where it has no MO, else its alternatives, minimised
module _ (modes : List ℕ) (p : ℕ) (h : p < max_predicates) where
  pub first_none : has_in (mode_bytes modes p) ≡ false → trivial ≡ minimise (declared (modes_of modes max_predicates) p)
  unfolding is_written in_range
  first_none e = rw (mode_of_modes_of modes p max_predicates h, e) (sym (minimise_same trivial refl))

  pub first_some : has_in (mode_bytes modes p) ≡ true → minimise (masks_in (mode_bytes modes p)) ≡ minimise (declared (modes_of modes max_predicates) p)
  first_some e = rw (mode_of_modes_of modes p max_predicates h, e)

-- the loop that makes it: the first p constraints are there
pub record Filling (modes : List ℕ) (p : ℕ) (table words : List ℕ) : Type 0 where
  pub size : length table ≡ max_predicates
  pub room : length words ≡ max_predicates
  pub is : table_in table p ≡ first_needs (modes_of modes max_predicates) p
  pub admitted : Admitted table words

pub filling_start : (modes table words : List ℕ) → length table ≡ max_predicates → length words ≡ max_predicates → Cleared table → Cleared words
    → Filling modes 0 table words
unfolding table_in first_needs
filling_start modes table words s r t u =
    record {
      size = s;
      room = r;
      is = refl;
      admitted = λ p h a l.
          ap (λ (w : ℕ). bit_at w a) (u p h)
          ∙ bit_at_zero a
          ∙ (unfold admits in sym (ap (λ (c : List ℕ). admits c a) (ap members (t p h) ∙ members_none)));
    }

pub filling_next : (modes : List ℕ) (p : ℕ) {table words : List ℕ} (masks patterns : ℕ) → p < max_predicates
    → members masks ≡ minimise (declared (modes_of modes max_predicates) p) → EachLane (λ a. bit_at patterns a ≡ admits (members masks) a)
    → Filling modes p table words → Filling modes (p + 1) (set table p masks) (set words p patterns)
unfolding table_in first_needs
filling_next modes p {table} {words} masks patterns h e f g =
    let s = g.size in
    let r = g.room in
    record {
      size = length-set table p masks ∙ s;
      room = length-set words p patterns ∙ r;
      is =
          rw add-one
          (ap₂ (λ (T : Table) (c : List ℕ). T ++ (c ∷ []))
          (values_cong (entry_in (set table p masks)) (entry_in table) p (λ i l. ap members (get_or-set_other table p i masks 0 (λ q. omega arith))) ∙ g.is)
          (ap members (get_or-set_same table p masks 0 (omega arith)) ∙ e));
      admitted = λ q l a k.
          by_bool (eqb q p)
          (λ t.
          let z = eqb-true q p t in
          rw z
          (ap (λ (w : ℕ). bit_at w a) (get_or-set_same words p patterns 0 (omega arith))
          ∙ f a k ∙ ap (λ (w : ℕ). admits (members w) a) (sym (get_or-set_same table p masks 0 (omega arith)))))
          (λ t.
          let ne = eqb-false q p t in
          ap (λ (w : ℕ). bit_at w a) (get_or-set_other words p q patterns 0 ne)
          ∙ g.admitted q l a k ∙ ap (λ (w : ℕ). admits (members w) a) (sym (get_or-set_other table p q masks 0 ne)));
    }

-- the trivial constraint
pub trivial_held : members 1 ≡ trivial
trivial_held = members_zero

pub trivial_full : EachLane (λ a. bit_at ones a ≡ admits (members 1) a)
trivial_full a l = bit_at_ones a l ∙ sym (ap (λ (c : List ℕ). admits c a) trivial_held ∙ (unfold admits in or_left (within 0 a) false (within_zero a)))

-- ---- the image

-- of the first n constraints, row by row
module _ (arities table : List ℕ) (n : ℕ) where
  abbrev pub rows_to : ℕ → List ℕ
  rows_to i = rows arities (table_in table n) i

  abbrev pub row_held : ℕ → List ℕ
  row_held i = row i (entry_in table i) (fitting (get_or arities i 0) (entry_in table i))

  pub rows_chunks : Chunks n rows_to row_held (rows_to n)
  unfolding table_in
  rows_chunks =
      record {
        none = refl;
        next = λ i h. rw add-one (ap (λ (c : List ℕ). rows_to i ++ row i c (fitting (get_or arities i 0) c)) (get_or_values (entry_in table) [] n i h));
        whole = refl;
      }

  -- the count of a row is that of the patterns held, whatever the word
  pub row_held_lem : (words : List ℕ) {p m : ℕ} → LowArities n arities → Admitted table words → n ≤ max_predicates → p < n
      → m ≡ how_many (bit_at (get_or words p 0)) (2 ^ get_or arities p 0) → row p (entry_in table p) m ≡ row_held p
  row_held_lem words {p} low f few h e =
      ap (row p (entry_in table p)) (e ∙ fitting_word (entry_in table p) (get_or words p 0) (get_or arities p 0) (low p h) (f p (omega arith)))
