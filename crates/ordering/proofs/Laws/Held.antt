-- A table that goes on past the predicates that subgoals call, or that admits the same patterns; and the places of an order. Assumes nothing.
use mathlib.Core.Path.{◌≡◌, refl, sym, ap, ◌∙◌}
use mathlib.Core.Bool.{Bool, true, false, not, ◌&&◌}
use mathlib.Core.List.{List, [], ◌∷◌}
use Prim.Native.Nat.{ℕ, zero, suc, ◌+◌, ◌*◌, ◌<◌, ◌≤◌, min}
use native.Mathlib.Omega.{arith}
use lib.Dec.{leb, ltb}
use lib.ListN.{length, get_or}
use borrow.Author.Tests.{ltb-true, leb-true, le-leb, not-false}
use Rattle.masks.specs.Limits.{max_arity}
use Rattle.masks.specs.Lists.{any, all, values}
use Rattle.masks.specs.Constraint.{admits}
use Rattle.masks.specs.Patterns.{EachLane}
use Rattle.book.specs.Limits.{max_predicates, max_subgoals}
use Rattle.book.specs.Book.{Call, no_call}
use Rattle.book.specs.Format.{allows}
use Rattle.book.specs.Encode.{call_fits}
use Rattle.book.specs.Table.{Table, entry, entry_in, table_in, Admitted, Full}
use Rattle.book.specs.Sets.{callable}
use Rattle.book.specs.Held.{call_in, clause_size, clause_at}
use Rattle.book.specs.declared.range.Range.TheVariants.{AtMost}
use Rattle.ordering.specs.Adorn.{Bound, pattern_of, known, ready, after}
use Rattle.ordering.specs.Good.{at, ready_at, after_at, first_good}
use Rattle.masks.proofs.Laws.Logic.{and_intro, and_left, and_right}
use Rattle.masks.proofs.Laws.Lists.{all_append, all_at, all_mono}
use Rattle.masks.proofs.Laws.Sets.{admits_full}
use Rattle.book.proofs.Laws.Trip.{call_size}
use Rattle.book.proofs.Laws.Bound.{arities_at}
use Rattle.book.proofs.Laws.Table.{table_in_at}
use Rattle.book.proofs.Laws.Sets.{calls_below, callable_low}
use Rattle.book.proofs.Laws.Held.{args_count}
use Rattle.ordering.proofs.Laws.Good.{first_kept}
use Rattle.ordering.proofs.Laws.Greedy as turns
use Rattle.ordering.proofs.Laws.Steps.{pattern_small}

-- what a subgoal needs, for whoever computes it: that its pattern fits the constraint held at its predicate, and W9's rule
pub ready_held : (table : List ℕ) (n : ℕ) (b : Bound) (s : Call) → s.pred < n
    → ready (table_in table n) b s ≡ (admits (entry_in table s.pred) (pattern_of b s.args) && known b s)
unfolding ready
ready_held table n b s h = ap (λ (c : List ℕ). admits c (pattern_of b s.args) && known b s) (table_in_at table n s.pred h)

-- ---- subgoals that call predicates below n: a table that goes on past n is as good as one that does not

-- the predicates that are not below n
abbrev pub outside : ℕ → ℕ → Bool
outside n q = not (ltb q n)

pub calls_below_outside : (n : ℕ) (body : List Call) → calls_below n body ≡ true → any (λ s. outside n s.pred) body ≡ false
unfolding calls_below
calls_below_outside n [] t = refl
calls_below_outside n (s ∷ body) t =
    rw (and_left (ltb s.pred n) (all (λ s. ltb s.pred n) body) t)
    (calls_below_outside n body (and_right (ltb s.pred n) (all (λ s. ltb s.pred n) body) t))

module _ (table : List ℕ) (n m : ℕ) (h : n ≤ m) where
  pub table_in_cut : (q : ℕ) → outside n q ≡ false → get_or (table_in table m) q [] ≡ get_or (table_in table n) q []
  table_in_cut q e = let l = ltb-true q n (not-false (ltb q n) e) in table_in_at table m q (omega arith) ∙ sym (table_in_at table n q l)

  pub first_cut : (body : List Call) (b : Bound) → calls_below n body ≡ true → first_good (table_in table m) body b ≡ first_good (table_in table n) body b
  first_cut body b t = first_kept (table_in table m) (table_in table n) (outside n) table_in_cut body b (calls_below_outside n body t)

-- ---- two tables that admit the same patterns of six positions: of calls with six arguments at most they have the same orders

abbrev few : Call → Bool
few c = leb (length c.args) max_arity

pub first_same : (T U : Table) (body : List Call) → ((p : ℕ) → p < max_predicates → EachLane (λ a. admits (entry T p) a ≡ admits (entry U p) a))
    → callable body ≡ true → all (λ c. leb (length c.args) max_arity) body ≡ true → (b : Bound) → first_good T body b ≡ first_good U body b
unfolding ready at
first_same T U body agree called short b =
    turns.first_same (ready_at T body) (after_at body) (ready_at U body) (after_at body) (λ (u v : Bound). u ≡ v) (length body)
    (λ u v p l e. ap (λ (w : Bound). ready T w (at body p)) e ∙ one v p l)
    (λ u v p e. ap (λ (w : Bound). after w (at body p)) e) b b refl
  where
    one : (v : Bound) (p : ℕ) → p < length body → ready T v (at body p) ≡ ready U v (at body p)
    one v p l =
        let s = get_or body p no_call in
        ap (λ (c : Bool). c && known v s)
        (agree s.pred (callable_low body p called l) (pattern_of v s.args)
        (pattern_small v max_arity s.args (leb-true (length s.args) max_arity (all_at few no_call body p l short))))

-- a table is as good as the words with the patterns that it admits
module _ (masks words : List ℕ) (t : Admitted masks words) where
  pub admitted_full : Full words
  admitted_full p h a m = t p h a m ∙ sym (admits_full (entry_in masks p) (get_or words p 0) (t p h) a m)

  agree : (p : ℕ) → p < max_predicates → EachLane (λ a. admits (entry (table_in words max_predicates) p) a ≡ admits (entry (table_in masks max_predicates) p) a)
  agree p h a m =
      ap (λ (c : List ℕ). admits c a) (table_in_at words max_predicates p h)
      ∙ admits_full (entry_in masks p) (get_or words p 0) (t p h) a m
      ∙ ap (λ (c : List ℕ). admits c a) (sym (table_in_at masks max_predicates p h))

  pub admitted_first : (n : ℕ) → n ≤ max_predicates → (body : List Call) → callable body ≡ true → all (λ c. leb (length c.args) max_arity) body ≡ true
      → calls_below n body ≡ true → (b : Bound) → first_good (table_in words max_predicates) body b ≡ first_good (table_in masks n) body b
  admitted_first n h body called short below b =
      first_same (table_in words max_predicates) (table_in masks max_predicates) body agree called short b ∙ first_cut masks n max_predicates h body b below

-- subgoals that fit a book have six arguments at most
pub fit_few : (ar : List ℕ) → all (allows (AtMost max_arity)) ar ≡ true → (body : List Call) → all (call_fits ar) body ≡ true
    → all (λ c. leb (length c.args) max_arity) body ≡ true
fit_few ar low =
    all_mono (call_fits ar) few
    (λ c t. let e = call_size ar c t in let h = arities_at ar low c.pred in le-leb (length c.args) max_arity (omega arith))

-- those of a clause have, too
pub body_few : (rules : List ℕ) (k : ℕ) → all (λ c. leb (length c.args) max_arity) (clause_at rules k).body ≡ true
unfolding clause_at
body_few rules k = go (min (get_or rules (k * clause_size) 0) max_subgoals)
  where
    go : (n : ℕ) → all few (values (λ j. call_in (get_or rules (k * clause_size + 2 + j) 0)) n) ≡ true
    go zero = refl
    go (suc n) =
        let w = get_or rules (k * clause_size + 2 + n) 0 in
        let l = args_count w in
        all_append few (values (λ j. call_in (get_or rules (k * clause_size + 2 + j) 0)) n) (call_in w ∷ [])
        ∙ and_intro (go n) (and_intro (le-leb (length (call_in w).args) max_arity (omega arith)) refl)
