-- The rows of a plan: what the code finds for a clause is what its row says; and the loops that write them. Assumes nothing.
use mathlib.Core.Path.{◌≡◌, sym, ap, ◌∙◌}
use mathlib.Core.Bool.{true, false, cond}
use mathlib.Core.List.{List, [], ◌∷◌}
use mathlib.Core.Option.{Option}
use Prim.Native.Nat.{ℕ, suc, ◌≤◌, ◌<◌}
use native.Mathlib.Numerals.{add-one}
use native.Mathlib.Omega.{arith}
use lib.ListN.{length}
use Rattle.masks.specs.Limits.{all_patterns}
use Rattle.masks.specs.Lists.{joined}
use Rattle.masks.specs.Set.{bit_at, members}
use Rattle.book.specs.Book.{Head}
use Rattle.book.specs.Held.{head_in, clause_at}
use Rattle.book.specs.Table.{Table}
use Rattle.ordering.specs.Adorn.{head_bound}
use Rattle.ordering.specs.Good.{first_good}
use Rattle.ordering.specs.Held.{bound_of, or_none}
use Rattle.writing.specs.Wrote.{Room, Wrote}
use Rattle.choices.specs.Plan.{enc_row}
use Rattle.plan.specs.Lent.{row_by}
use Rattle.masks.proofs.Laws.Loops.{Over, over_start, over_end, over_small, over_member, over_here, over_next}
use Rattle.writing.proofs.Laws.Wrote.{wrote_as}
use Rattle.writing.proofs.Laws.Chunks.{Writing, joined_chunks, writing_start, writing_room, writing_next, writing_none, writing_end}

-- clause k under a head pattern: its head, what that binds, and the order found, if there is one
pub row_found : (rules : List ℕ) (T : Table) (k a head bound : ℕ) (o : Option (List ℕ)) → head_in head ≡ (clause_at rules k).head
    → bound_of bound ≡ head_bound (head_in head).args a → o ≡ first_good T (clause_at rules k).body (bound_of bound)
    → 67 ∷ 79 ∷ k ∷ a ∷ length (or_none o) ∷ or_none o ≡ enc_row (row_by rules T k a)
unfolding row_by
row_found rules T k a head bound o d e f =
    ap (λ (σ : List ℕ). 67 ∷ 79 ∷ k ∷ a ∷ length σ ∷ σ)
    (ap or_none (f ∙ ap (first_good T (clause_at rules k).body) (e ∙ ap (λ (h : Head). head_bound h.args a) d)))

-- ---- the loops over the members of a set that write the rows of each

-- the rows of a member, and of the members below n
abbrev rows_at : ℕ → (ℕ → List ℕ) → ℕ → List ℕ
rows_at set rows k = cond (bit_at set k) (rows k) []

abbrev pub rows_of : ℕ → (ℕ → List ℕ) → List ℕ
rows_of set rows = joined (rows_at set rows) all_patterns

-- those of the numbers below i are written
abbrev Below : ℕ → (ℕ → List ℕ) → List ℕ → ℕ → List ℕ → ℕ → ℕ → Type 0
Below set rows out at now p i = i ≤ all_patterns → Writing all_patterns (joined (rows_at set rows)) (rows_at set rows) (rows_of set rows) out at i now p

-- those of the members left are still to be written
pub record Rows (set : ℕ) (rows : ℕ → List ℕ) (out : List ℕ) (at : ℕ) (left now : List ℕ) (p : ℕ) : Type 0 where
  pub over : Over (Below set rows out at now p) set left

module _ {set : ℕ} {rows : ℕ → List ℕ} {out : List ℕ} {at : ℕ} where
  pub rows_start : Room out at (rows_of set rows) → Rows set rows out at (members set) out at
  rows_start r = record { over = over_start (Below set rows out at out at) set (λ h. writing_start (joined_chunks (rows_at set rows) all_patterns) r) }

  module _ {left now : List ℕ} {p : ℕ} (m : Rows set rows out at left now p) where
    abbrev P : ℕ → Type 0
    P = Below set rows out at now p

    skip : (i : ℕ) → bit_at set i ≡ false → P i → P (suc i)
    skip i t w h = let v = writing_none (w (omega arith)) h (rw t) in rw add-one at v

    pub rows_end : left ≡ [] → Wrote out now at p (rows_of set rows)
    rows_end z = writing_end (over_end P set left skip m.over z (omega arith)) (omega arith)

    -- in a turn: the lowest of those left
    module _ {k : ℕ} {others : List ℕ} (e : left ≡ k ∷ others) where
      pub rows_low : k < all_patterns
      rows_low = over_small P set left skip m.over k others e

      pub rows_member : bit_at set k ≡ true
      rows_member = over_member P set left skip m.over k others e

      here : P k
      here = over_here P set left skip m.over k others e

      is : rows_at set rows k ≡ rows k
      is = rw rows_member

      pub rows_room : Room now p (rows k)
      rows_room = let l = rows_low in rw is at (writing_room (here (omega arith)) l)

      pub rows_next : {after : List ℕ} {q : ℕ} → Wrote now after p q (rows k) → Rows set rows out at others after q
      rows_next {after} {q} w =
          let l = rows_low in
          let v = writing_next (here (omega arith)) l (wrote_as (sym is) w) in
          record { over = over_next P set left skip m.over k others e (Below set rows out at after q) (λ h. rw add-one at v) }
