-- A round over all 64 patterns: a head of so many positions sees only so many bits of a pattern, so a pattern is good where the one with the same lowest
-- bits is, and what the table after a round admits is what is good and fits the MO. That is the joint of both. Assumes nothing.
use mathlib.Core.Path.{◌≡◌, refl, sym, ap, ap₂, ◌∙◌}
use mathlib.Core.Bool.{Bool, true, cond, ◌&&◌}
use mathlib.Core.List.{List, [], ◌∷◌}
use Prim.Native.Nat.{ℕ, suc, ◌/◌, ◌%◌, ◌^◌, ◌<◌}
use native.Mathlib.Omega.{arith}
use lib.Dec.{eqb}
use lib.ListN.{length, get_or}
use borrow.Author.Tests.{eqb-true}
use Rattle.masks.specs.Lists.{all}
use Rattle.masks.specs.Limits.{all_patterns}
use Rattle.masks.specs.Constraint.{admits, written, joint}
use Rattle.masks.specs.Set.{bit_at}
use Rattle.masks.proofs.Laws.Logic.{same, and_left, and_right}
use Rattle.masks.proofs.Laws.Constraint.{in_range_mono, is_written_mono, written_in_range, canonical, admits_up, admits_written_up, written_sound, written_is_written, joint_is_written, admits_joint}
use Rattle.masks.proofs.Laws.Joining.{power_le}
use Rattle.masks.proofs.Laws.Sets.{cut, cut_less, cut_bits, cut_within, admits_cut}
use Rattle.book.specs.Book.{Clause, Book}
use Rattle.book.specs.Encode.{WellFormed}
use Rattle.book.specs.Table.{Table, entry}
use Rattle.ordering.specs.Adorn.{Bound, bind_var, bind_head, head_bound, nothing}
use Rattle.ordering.specs.Good.{first_good, is_some, brought, good_clause}
use Rattle.tables.specs.Table.{declared, own, defined, good, gets, step}
use Rattle.tables.proofs.Laws.Valid.{arity_low, declared_low, own_arity}
use Rattle.tables.proofs.Laws.Round.{good_up, step_defined, step_admits, step_sound}

-- what a head binds depends on the bits of its positions alone
bits_head : (args : List ℕ) (b : Bound) (a c : ℕ) → ((i : ℕ) → i < length args → bit_at a i ≡ bit_at c i) → bind_head b args a ≡ bind_head b args c
unfolding bind_head bit_at
bits_head [] b a c f = refl
bits_head (v ∷ args) b a c f =
    ap (λ (x : Bool). bind_head (cond x (bind_var b v) b) args (a / 2)) (f 0 (omega arith))
    ∙ bits_head args (cond (eqb (c % 2) 1) (bind_var b v) b) (a / 2) (c / 2) (λ i h. f (suc i) (omega arith))

all_agree : (p q t : Clause → Bool) → ((x : Clause) → t x ≡ true → p x ≡ q x) → (xs : List Clause) → all t xs ≡ true → all p xs ≡ all q xs
all_agree p q t f [] h = refl
all_agree p q t f (x ∷ xs) h =
    ap₂ (λ (y z : Bool). y && z) (f x (and_left (t x) (all t xs) h)) (all_agree p q t f xs (and_right (t x) (all t xs) h))

module _ (B : Book) (w : WellFormed B) (T : Table) (p : ℕ) where
  abbrev arity : ℕ
  arity = get_or B.arities p 0

  good_cut_bits : (a : ℕ) → good T B.clauses p (cut arity a) ≡ good T B.clauses p a
  unfolding good good_clause head_bound
  good_cut_bits a =
      all_agree (λ c. good_clause T c (cut arity a)) (λ c. good_clause T c a) (λ c. eqb (length c.head.args) arity)
      (λ c t.
      let e = eqb-true (length c.head.args) arity t in
      ap (λ (b : Bound). is_some (first_good T c.body b) && brought c b)
      (bits_head c.head.args nothing (cut arity a) a (λ i h. cut_bits arity a (arity_low B w p) i (omega arith))))
      (own B.clauses p) (own_arity B.arities B.clauses w.clauses_fit p)

  gets_cut_bits : (a : ℕ) → gets B T p (cut arity a) ≡ gets B T p a
  unfolding gets
  gets_cut_bits a = ap₂ (λ (x y : Bool). x && y) (admits_cut arity a (arity_low B w p) (declared B.modes p) (declared_low B w p)) (good_cut_bits a)

  -- "gets exactly the patterns good", of those of its MO, whatever stands in the bits past the arity
  pub step_full : p < length B.arities → defined B.clauses p ≡ true → (a : ℕ) → admits (entry (step B T) p) a ≡ gets B T p a
  step_full h d a =
      same (admits (entry (step B T) p) a) (gets B T p a) (step_sound B T p h d a)
      (λ t.
      admits_up (entry (step B T) p) (cut arity a) a (cut_within arity a)
      (step_admits B T p h d (cut arity a) (cut_less arity a) ∙ gets_cut_bits a ∙ t))

  -- the patterns under which the clauses are good, as a constraint
  clauses_full : (a : ℕ) → admits (written (good T B.clauses p) (2 ^ arity)) a ≡ good T B.clauses p a
  clauses_full a =
      let f = good T B.clauses p in
      let up = good_up T B.clauses p in
      same (admits (written f (2 ^ arity)) a) (f a) (written_sound f up (2 ^ arity) a)
      (λ t.
      admits_up (written f (2 ^ arity)) (cut arity a) a (cut_within arity a)
      (admits_written_up f up (2 ^ arity) (cut arity a) (cut_less arity a) ∙ good_cut_bits a ∙ t))

  -- W6: "every round takes the joint of MO and clauses"
  pub step_joint : p < length B.arities → defined B.clauses p ≡ true
      → entry (step B T) p ≡ joint (declared B.modes p) (written (good T B.clauses p) (2 ^ arity))
  unfolding gets
  step_joint h d =
      let m = declared B.modes p in
      let c = written (good T B.clauses p) (2 ^ arity) in
      let low = in_range_mono (2 ^ arity) all_patterns m (power_le arity (arity_low B w p)) (declared_low B w p) in
      let wide = is_written_mono (2 ^ arity) all_patterns c (power_le arity (arity_low B w p)) (written_is_written (good T B.clauses p) (2 ^ arity)) in
      canonical all_patterns (entry (step B T) p) (joint m c)
      (rw (step_defined B T p h d)
      (is_written_mono (2 ^ arity) all_patterns (written (gets B T p) (2 ^ arity)) (power_le arity (arity_low B w p)) (written_is_written (gets B T p) (2 ^ arity))))
      (joint_is_written m c)
      (λ a l.
      step_full h d a
      ∙ ap (λ (b : Bool). admits m a && b) (sym (clauses_full a))
      ∙ sym (admits_joint m c low (written_in_range all_patterns c wide) a))
