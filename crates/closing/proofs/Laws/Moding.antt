-- Closing the modes, predicate by predicate: those chosen that are passed have MO with their constraint in the table, and the others are as they
-- were. Assumes nothing.
use mathlib.Core.Path.{◌≡◌, refl, sym, ap, ◌∙◌}
use mathlib.Core.Bool.{true, false}
use mathlib.Core.List.{List, [], ◌∷◌}
use Prim.Native.Nat.{ℕ, suc, ◌≤◌, ◌<◌}
use native.Mathlib.Omega.{arith}
use lib.Dec.{eqb}
use borrow.Author.Tests.{eqb-true, eqb-false}
use Rattle.masks.specs.Set.{bit_at, members}
use Rattle.book.specs.Limits.{max_predicates}
use Rattle.book.specs.Book.{Mode}
use Rattle.book.specs.Held.{mode_at, StoredMode}
use Rattle.book.specs.Table.{entry_in}
use Rattle.closing.specs.Held.{ModesClosed}
use Rattle.masks.proofs.Laws.Logic.{by_bool, clash}
use Rattle.masks.proofs.Laws.Loops.{Over, over_start, over_end, over_small, over_member, over_here, over_next}
use Rattle.book.proofs.Laws.Held.{mode_at_others}

module _ (set : ℕ) (table modes : List ℕ) where
  -- what p gets where it is chosen
  abbrev pub given : ℕ → List Mode
  given p = record { pred = p; masks = entry_in table p } ∷ []

  -- the predicates below n are done
  pub record Moded (now : List ℕ) (n : ℕ) : Type 0 where
    pub done : (p : ℕ) → p < n → bit_at set p ≡ true → mode_at now p ≡ given p
    pub kept : (p : ℕ) → (bit_at set p ≡ true → n ≤ p) → mode_at now p ≡ mode_at modes p

  -- the loop: those of `left` are still to be done
  pub record Moding (now left : List ℕ) : Type 0 where
    pub over : Over (Moded now) set left

  moded_start : Moded modes 0
  moded_start = record { done = λ p h. absurd (omega arith); kept = λ p h. refl }

  -- n is not chosen
  moded_skip : (now : List ℕ) (n : ℕ) → bit_at set n ≡ false → Moded now n → Moded now (suc n)
  moded_skip now n e m =
      record {
        done = λ p h d. by_bool (eqb p n) (λ t. clash d (ap (bit_at set) (eqb-true p n t) ∙ e))
            (λ t. let ne = eqb-false p n t in m.done p (omega arith) d);
        kept = λ p h. m.kept p (λ d. let l = h d in omega arith);
      }

  -- n is chosen, and its constraint is stored
  moded_next : {now after : List ℕ} (n : ℕ) → bit_at set n ≡ true → StoredMode now after n (entry_in table n) → Moded now n → Moded after (suc n)
  moded_next {now} {after} n e s m =
      record {
        done = λ p h d. by_bool (eqb p n) (λ t. let z = eqb-true p n t in ap (mode_at after) z ∙ s.is ∙ ap given (sym z))
            (λ t. let ne = eqb-false p n t in mode_at_others s p ne ∙ m.done p (omega arith) d);
        kept = λ p h. mode_at_others s p (λ z. let l = h (ap (bit_at set) z ∙ e) in omega arith) ∙ m.kept p (λ d. let l = h d in omega arith);
      }

  moded_end : {now : List ℕ} → Moded now max_predicates → ModesClosed (bit_at set) table modes now
  moded_end m p h = by_bool (bit_at set p) (λ t. rw t (m.done p h t)) (λ t. rw t (m.kept p (λ d. clash d t)))

  pub moding_start : Moding modes (members set)
  moding_start = record { over = over_start (Moded modes) set moded_start }

module _ {set : ℕ} {table modes now left : List ℕ} (m : Moding set table modes now left) where
  abbrev skip : (n : ℕ) → bit_at set n ≡ false → Moded set table modes now n → Moded set table modes now (suc n)
  skip = moded_skip set table modes now

  pub moding_end : left ≡ [] → ModesClosed (bit_at set) table modes now
  moding_end e = moded_end set table modes (over_end _ _ _ skip m.over e)

  module _ {p : ℕ} {others : List ℕ} (e : left ≡ p ∷ others) where
    pub moding_low : p < max_predicates
    moding_low = over_small _ _ _ skip m.over p others e

    pub moding_member : bit_at set p ≡ true
    moding_member = over_member _ _ _ skip m.over p others e

    pub moding_next : {after : List ℕ} → StoredMode now after p (entry_in table p) → Moding set table modes after others
    moding_next {after} s =
        record {
          over =
              over_next _ _ _ skip m.over p others e (Moded set table modes after)
              (moded_next set table modes p moding_member s (over_here _ _ _ skip m.over p others e));
        }
