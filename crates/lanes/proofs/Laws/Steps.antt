-- The loops over the arguments of a call: what the first of them come to in each lane. One invariant for each loop, with laws for what the check does
-- not find of its start, its next turn and its end. Assumes nothing.
use mathlib.Core.Path.{◌≡◌, refl, sym, ap, ap₂, ◌∙◌}
use mathlib.Core.Bool.{Bool, true, false, cond, ◌&&◌, and-true}
use mathlib.Core.List.{List, [], ◌∷◌}
use Prim.Native.Nat.{ℕ, zero, suc, ◌+◌, ◌≤◌, ◌<◌}
use native.Mathlib.Numerals.{add-one}
use native.Mathlib.Omega.{arith}
use lib.Bits.{bit_and, bit_or}
use lib.Dec.{leb}
use lib.ListN.{length, get_or, set, replicate, take}
use borrow.Author.Tests.{eq-eqb, ne_eqb, lt-ltb, le-ltb, leb-true, leb-false}
use Rattle.masks.specs.Limits.{max_arity}
use Rattle.masks.specs.Lists.{all}
use Rattle.masks.specs.Constraint.{admits}
use Rattle.masks.specs.Set.{bit_at}
use Rattle.masks.specs.Patterns.{EachLane, Agrees}
use Rattle.book.specs.Limits.{max_predicates}
use Rattle.book.specs.Book.{Call}
use Rattle.book.specs.Table.{entry_in, table_in}
use Rattle.ordering.specs.Adorn.{variables, literal, Bound, nothing, is_bound, pattern_of, bind_var, bind_all, bind_head, head_bound, ready, after}
use Rattle.lanes.specs.Lanes.{lane, Binds}
use Rattle.masks.proofs.Laws.Logic.{by_bool}
use Rattle.masks.proofs.Laws.Lists.{all_suc}
use Rattle.masks.proofs.Laws.Set.{bit_at_zero}
use Rattle.masks.proofs.Laws.Members.{bit_at_and}
use Rattle.masks.proofs.Laws.Patterns.{ones, bit_at_ones, column, bit_at_column}
use Rattle.ordering.proofs.Laws.Adorn.{after_positive, after_negated, known_positive, known_negated}
use Rattle.ordering.proofs.Laws.Steps.{var_set, var_skip, head_suc}
use Rattle.ordering.proofs.Laws.Held.{ready_held}
use Rattle.lanes.proofs.Laws.Words.{lane_at, lane_or, lane_zeros, pattern_at_lem, pattern_past}

-- ---- an argument

module _ (vars : List ℕ) (v : ℕ) where
  pub arg_literal : v ≡ literal → EachLane (λ a. bit_at ones a ≡ is_bound (lane a vars) v)
  unfolding is_bound
  arg_literal e a h = rw (eq-eqb v literal e) (bit_at_ones a h)

  pub arg_var : (v ≡ literal → ⊥) → v < variables → EachLane (λ a. bit_at (get_or vars v 0) a ≡ is_bound (lane a vars) v)
  unfolding is_bound
  arg_var n l a h = rw (ne_eqb v literal n, lt-ltb v variables l) (sym (lane_at a vars v))

  pub arg_other : (v ≡ literal → ⊥) → variables ≤ v → EachLane (λ a. bit_at 0 a ≡ is_bound (lane a vars) v)
  unfolding is_bound
  arg_other n l a h = rw (ne_eqb v literal n, le-ltb v variables l) (bit_at_zero a)

-- ---- the words of a pattern: those of the first i arguments are made, and the others are 0

pub record Words (vars args : List ℕ) (i : ℕ) (words : List ℕ) : Type 0 where
  pub size : length words ≡ max_arity
  pub made : EachLane (λ a. (j : ℕ) → j < i → bit_at (get_or words j 0) a ≡ is_bound (lane a vars) (get_or args j 0))
  pub rest : (j : ℕ) → i ≤ j → get_or words j 0 ≡ 0

module _ (vars args : List ℕ) where
  pub words_end : {i : ℕ} {words : List ℕ} → i ≡ length args → Words vars args i words → EachLane (λ a. Agrees words a (pattern_of (lane a vars) args))
  words_end {i} {words} e g a l j m =
      by_bool (leb i j)
      (λ t.
      let o = leb-true i j t in
      ap (λ (x : ℕ). bit_at x a) (g.rest j o) ∙ bit_at_zero a ∙ sym (pattern_past (lane a vars) args j (omega arith)))
      (λ t. let o = leb-false i j t in g.made a l j o ∙ sym (pattern_at_lem (lane a vars) args j (omega arith)))

-- ---- an argument bound in the lanes of r

abbrev pub BindsOne : ℕ → ℕ → List ℕ → List ℕ → Type 0
BindsOne v r before then = EachLane (λ a. lane a then ≡ cond (bit_at r a) (bind_var (lane a before) v) (lane a before))

module _ (v r : ℕ) (vars : List ℕ) {then : List ℕ} where
  pub one_var : v < variables → then ≡ set vars v (bit_or (get_or vars v 0) r) → BindsOne v r vars then
  one_var l e a h =
      ap (lane a) e ∙ lane_or a vars v r ∙ ap (λ (b : Bound). cond (bit_at r a) b (lane a vars)) (sym (var_set (lane a vars) v l))

  -- a literal or a wildcard
  pub one_other : variables ≤ v → then ≡ vars → BindsOne v r vars then
  one_other l e a h = ap (lane a) e ∙ go (bit_at r a)
    where
      go : (c : Bool) → lane a vars ≡ cond c (bind_var (lane a vars) v) (lane a vars)
      go true = sym (var_skip (lane a vars) v l)
      go false = refl

-- ---- the variables of a subgoal: those of the first i arguments are bound in the lanes of r

bind_suc : (l : List ℕ) (i : ℕ) → i < length l → (b : Bound) → bind_all b (take (suc i) l) ≡ bind_var (bind_all b (take i l)) (get_or l i 0)
unfolding bind_all
bind_suc [] i h b = absurd (omega arith)
bind_suc (u ∷ l) zero h b = refl
bind_suc (u ∷ l) (suc i) h b = bind_suc l i (omega arith) (bind_var b u)

unmoved : (c : Bool) {b d : Bound} → b ≡ d → b ≡ cond c d b
unmoved true e = e
unmoved false e = refl

-- a negated one binds nothing
pub binding_none : (s : Call) (r : ℕ) (before : List ℕ) → s.negated ≡ true → Binds s r before before
binding_none s r before e = record { lanes = λ a h. unmoved (bit_at r a) (sym (after_negated (lane a before) s e)) }

module _ (pred : ℕ) (args : List ℕ) where
  -- a subgoal that is not negated, with its first i arguments
  abbrev pub up_to : ℕ → Call
  up_to i = record { negated = false; pred = pred; args = take i args }

  after_none : (b : Bound) → after b (up_to 0) ≡ b
  unfolding bind_all
  after_none b = after_positive b (up_to 0) refl

  after_suc : (i : ℕ) → i < length args → (b : Bound) → after b (up_to (suc i)) ≡ bind_var (after b (up_to i)) (get_or args i 0)
  after_suc i h b =
      after_positive b (up_to (suc i)) refl ∙ bind_suc args i h b ∙ ap (λ (c : Bound). bind_var c (get_or args i 0)) (sym (after_positive b (up_to i) refl))

  module _ (r : ℕ) (before : List ℕ) where
    pub binding_start : Binds (up_to 0) r before before
    binding_start = record { lanes = λ a h. unmoved (bit_at r a) (sym (after_none (lane a before))) }

    pub binding_next : (i : ℕ) {now then : List ℕ} → i < length args → BindsOne (get_or args i 0) r now then → Binds (up_to i) r before now
        → Binds (up_to (i + 1)) r before then
    binding_next i l f g =
        record {
          lanes = λ a h.
              f a h
              ∙ ap (λ (b : Bound). cond (bit_at r a) (bind_var b (get_or args i 0)) b) (g.lanes a h)
              ∙ inside (bit_at r a) (lane a before) (after (lane a before) (up_to i)) (get_or args i 0)
              ∙ rw add-one (sym (ap (λ (b : Bound). cond (bit_at r a) b (lane a before)) (after_suc i l (lane a before))));
        }
      where
        -- in the lanes of r one variable more, elsewhere all as it was
        inside : (c : Bool) (b d : Bound) (v : ℕ) → cond c (bind_var (cond c d b) v) (cond c d b) ≡ cond c (bind_var d v) b
        inside true b d v = refl
        inside false b d v = refl

-- ---- the variables of a head: those of the first i positions are bound in the lanes that have its bit

pub record Headed (args : List ℕ) (i : ℕ) (vars : List ℕ) : Type 0 where
  pub size : length vars ≡ variables
  pub lanes : EachLane (λ a. lane a vars ≡ head_bound (take i args) a)

module _ (args : List ℕ) where
  pub headed_start : Headed args 0 (replicate variables 0)
  unfolding head_bound bind_head nothing
  headed_start = record { size = refl; lanes = λ a h. lane_zeros a variables }

  pub headed_next : (i : ℕ) {vars then : List ℕ} → i < length args → i < max_arity → length then ≡ length vars
      → BindsOne (get_or args i 0) (column i) vars then → Headed args i vars → Headed args (i + 1) then
  unfolding head_bound
  headed_next i {vars} {then} l k e f g =
      record {
        size = e ∙ g.size;
        lanes = λ a h.
            f a h
            ∙ ap₂ (λ (c : Bool) (b : Bound). cond c (bind_var b (get_or args i 0)) b) (bit_at_column i k a h) (g.lanes a h)
            ∙ rw add-one (sym (head_suc args i l nothing a));
      }

-- ---- the arguments of a head or a call: the word has the lanes in which the first i are bound

pub record Filling (vars args : List ℕ) (i word : ℕ) : Type 0 where
  pub lanes : EachLane (λ a. bit_at word a ≡ all (is_bound (lane a vars)) (take i args))

module _ (vars args : List ℕ) where
  pub filling_start : Filling vars args 0 ones
  filling_start = record { lanes = λ a h. bit_at_ones a h }

  pub filling_next : (i w : ℕ) {word : ℕ} → i < length args → EachLane (λ a. bit_at w a ≡ is_bound (lane a vars) (get_or args i 0)) → Filling vars args i word
      → Filling vars args (i + 1) (bit_and word w)
  filling_next i w {word} l f g =
      record {
        lanes = λ a h.
            bit_at_and word w a ∙ ap₂ (λ (x y : Bool). x && y) (g.lanes a h) (f a h) ∙ sym (all_suc (is_bound (lane a vars)) 0 args i l);
      }

-- ---- the lanes in which a call is ready: those in which its pattern fits, and of a negated one those in which every argument is bound

module _ (table vars : List ℕ) (s : Call) (low : s.pred < max_predicates) where
  -- in lane a the pattern fits
  abbrev fits_in : ℕ → Bool
  fits_in a = admits (entry_in table s.pred) (pattern_of (lane a vars) s.args)

  abbrev ready_in : ℕ → Bool
  ready_in a = ready (table_in table max_predicates) (lane a vars) s

  -- as they are made of the words of its pattern, at the place of its predicate
  pub lanes_fit : (fits : ℕ) (words : List ℕ) {q : ℕ} → q ≡ s.pred → EachLane (λ a. Agrees words a (pattern_of (lane a vars) s.args))
      → EachLane (λ a. (p : ℕ) → Agrees words a p → bit_at fits a ≡ admits (entry_in table q) p) → EachLane (λ a. bit_at fits a ≡ fits_in a)
  lanes_fit fits words e w f a h =
      let p = pattern_of (lane a vars) s.args in
      f a h p (w a h) ∙ ap (λ (q : ℕ). admits (entry_in table q) p) e

  pub lanes_positive : (fits : ℕ) → s.negated ≡ false → EachLane (λ a. bit_at fits a ≡ fits_in a) → EachLane (λ a. bit_at fits a ≡ ready_in a)
  lanes_positive fits e f a h =
      let b = lane a vars in
      f a h ∙ sym (ready_held table max_predicates b s low ∙ ap (λ (k : Bool). fits_in a && k) (known_positive b s e) ∙ and-true (fits_in a))

  pub lanes_negated : (fits filled : ℕ) → s.negated ≡ true → EachLane (λ a. bit_at fits a ≡ fits_in a) → EachLane (λ a. bit_at filled a ≡ all (is_bound (lane a vars)) s.args)
      → EachLane (λ a. bit_at (bit_and fits filled) a ≡ ready_in a)
  lanes_negated fits filled e f g a h =
      let b = lane a vars in
      bit_at_and fits filled a ∙ ap₂ (λ (x y : Bool). x && y) (f a h) (g a h ∙ sym (known_negated b s e)) ∙ sym (ready_held table max_predicates b s low)
