-- Good clauses. The subgoals of a clause are taken over a state that grows, what is bound, so the theory of the greedy order holds of them. MONOTONE:
-- with more bound at the head, or a table that admits more, every good order is still good. Assumes nothing.
use mathlib.Core.Path.{◌≡◌, refl, ap, ◌∙◌}
use mathlib.Core.Bool.{Bool, true, false, ◌&&◌}
use mathlib.Core.List.{List, []}
use mathlib.Core.Option.{Option, none, some}
use Prim.Native.Nat.{ℕ, ◌<◌}
use native.Mathlib.Omega.{arith}
use lib.ListN.{length, get_or}
use Rattle.masks.specs.Lists.{any}
use Rattle.masks.specs.Mask.{within}
use Rattle.book.specs.Book.{Call, no_call, Clause}
use Rattle.book.specs.Table.{Table}
use Rattle.ordering.specs.Orders.{Rearranges, Least}
use Rattle.ordering.specs.Adorn.{Bound, head_bound, ready, after}
use Rattle.ordering.specs.Good.{at, ready_at, after_at, good_from, first_good, is_some, brought, good_clause}
use Rattle.ordering.specs.Held.{or_none}
use Rattle.masks.proofs.Laws.Logic.{clash, false_of, and_intro, and_left, and_right}
use Rattle.masks.proofs.Laws.Lists.{any_at}
use Rattle.masks.proofs.Laws.Mask.{within_refl}
use Rattle.ordering.proofs.Laws.Orders.{in_at}
use Rattle.ordering.proofs.Laws.Greedy.{Growing, first_least, first_good_lem, good_first, first_mono, first_same, greedy_first}
use Rattle.ordering.proofs.Laws.Greedy as turns
use Rattle.ordering.proofs.Laws.Adorn.{Le, le_refl, le_trans, More, more_refl, ready_mono, ready_same, after_grows, after_mono, after_swap, after_twice, head_bound_mono}
use Rattle.ordering.proofs.Laws.Brought.{brought_mono}

-- ---- the first good order

-- what is bound grows
pub bound_growing : (T : Table) (body : List Call) → Growing (ready_at T body) (after_at body) Le
bound_growing T body = record {
  le_refl = le_refl;
  le_trans = le_trans;
  ready_mono = λ b c p h t. ready_mono T T b c (at body p) (more_refl T) h t;
  after_grows = λ b p. after_grows b (at body p);
  after_mono = λ b c p h. after_mono b c (at body p) h;
  after_swap = λ b p q. after_swap b (at body p) (at body q);
  after_twice = λ b p. after_twice b (at body p);
}

-- at each turn the first subgoal that is ready
abbrev pub greedy : Table → List Call → Bound → Option (List ℕ)
greedy T body b = turns.greedy (ready_at T body) (after_at body) b (length body)

-- it finds the first good order, and fails where there is none
pub greedy_is_first : (T : Table) (body : List Call) (b : Bound) → greedy T body b ≡ first_good T body b
greedy_is_first T body b = greedy_first (bound_growing T body) b (length body)

-- which is the smallest good rearrangement, compared from the left; none where no rearrangement is good
pub first_is_least : (T : Table) (body : List Call) (b : Bound)
    → Least (λ σ. Rearranges (length body) σ × (good_from T body b σ ≡ true)) (first_good T body b)
first_is_least T body b = first_least (ready_at T body) (after_at body) b (length body)

-- so its places are those of subgoals
pub first_below : (T : Table) (body : List Call) (b : Bound) (i : ℕ) → i < length (or_none (first_good T body b)) → get_or (or_none (first_good T body b)) i 0 < length body
first_below T body b i = go (first_good T body b) refl
  where
    go : (o : Option (List ℕ)) → first_good T body b ≡ o → i < length (or_none o) → get_or (or_none o) i 0 < length body
    go none e h = absurd (omega arith)
    go (some σ) e h = ((first_is_least T body b).has σ e).0.below (get_or σ i 0) (in_at 0 σ i h)

-- ---- a clause is good exactly where some rearrangement is, and W3's rule holds

pub good_clause_parts : (T : Table) (c : Clause) (a : ℕ) → good_clause T c a ≡ true
    → (is_some (first_good T c.body (head_bound c.head.args a)) ≡ true) × (brought c (head_bound c.head.args a) ≡ true)
unfolding good_clause
good_clause_parts T c a h =
    let b = head_bound c.head.args a in
    (and_left (is_some (first_good T c.body b)) (brought c b) h, and_right (is_some (first_good T c.body b)) (brought c b) h)

pub good_clause_order : (T : Table) (c : Clause) (a : ℕ) → good_clause T c a ≡ true
    → (σ : List ℕ) × Rearranges (length c.body) σ × (good_from T c.body (head_bound c.head.args a) σ ≡ true)
good_clause_order T c a h =
    first_good_lem (ready_at T c.body) (after_at c.body) (head_bound c.head.args a) (length c.body) (good_clause_parts T c a h).0

pub order_good_clause : (T : Table) (c : Clause) (a : ℕ) (σ : List ℕ) → Rearranges (length c.body) σ
    → good_from T c.body (head_bound c.head.args a) σ ≡ true → brought c (head_bound c.head.args a) ≡ true → good_clause T c a ≡ true
unfolding good_clause
order_good_clause T c a σ r g t =
    and_intro (good_first (ready_at T c.body) (after_at c.body) (head_bound c.head.args a) (length c.body) σ r g) t

-- ---- MONOTONE

pub good_clause_mono : (T T' : Table) (c : Clause) (a a' : ℕ) → More T T' → within a a' ≡ true → good_clause T c a ≡ true → good_clause T' c a' ≡ true
unfolding good_clause
good_clause_mono T T' c a a' m w t =
    let more = head_bound_mono c.head.args a a' w in
    let both = good_clause_parts T c a t in
    and_intro
    (first_mono (ready_at T c.body) (after_at c.body) (ready_at T' c.body) (after_at c.body) Le (length c.body)
    (λ b b' p l h r. ready_mono T T' b b' (at c.body p) m h r) (λ b b' p h. after_mono b b' (at c.body p) h)
    (head_bound c.head.args a) (head_bound c.head.args a') more both.0)
    (brought_mono c (head_bound c.head.args a) (head_bound c.head.args a') more both.1)

-- more bound
pub good_clause_pattern : (T : Table) (c : Clause) (a a' : ℕ) → within a a' ≡ true → good_clause T c a ≡ true → good_clause T c a' ≡ true
good_clause_pattern T c a a' w t = good_clause_mono T T c a a' (more_refl T) w t

-- a table that admits more
pub good_clause_table : (T T' : Table) (c : Clause) (a : ℕ) → More T T' → good_clause T c a ≡ true → good_clause T' c a ≡ true
good_clause_table T T' c a m t = good_clause_mono T T' c a a m (within_refl a) t

-- ---- a clause depends on the constraints of the predicates it calls only

module _ (T U : Table) (x : ℕ → Bool) (agree : (q : ℕ) → x q ≡ false → get_or T q [] ≡ get_or U q []) where
  -- no subgoal calls a predicate of x
  pub first_kept : (body : List Call) (b : Bound) → any (λ s. x s.pred) body ≡ false → first_good T body b ≡ first_good U body b
  unfolding at
  first_kept body b n =
      first_same (ready_at T body) (after_at body) (ready_at U body) (after_at body) (λ (u v : Bound). u ≡ v) (length body)
      (λ u v p l e. ap (λ (w : Bound). ready T w (at body p)) e
      ∙ ready_same T U v (at body p)
      (agree (at body p).pred (false_of (λ t. clash (any_at (λ s. x s.pred) no_call body p l t) n))))
      (λ u v p e. ap (λ (w : Bound). after w (at body p)) e) b b refl

pub clause_same : (T U : Table) (x : ℕ → Bool) → ((q : ℕ) → x q ≡ false → get_or T q [] ≡ get_or U q []) → (c : Clause) (a : ℕ)
    → any (λ s. x s.pred) c.body ≡ false → good_clause T c a ≡ good_clause U c a
unfolding good_clause
clause_same T U x agree c a n =
    let b = head_bound c.head.args a in
    ap (λ (o : Option (List ℕ)). is_some o && brought c b) (first_kept T U x agree c.body b n)
