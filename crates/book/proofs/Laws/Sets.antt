-- Sets of clauses: the loop that makes those of each predicate, with a law for its start, its next turn and its end; and the predicates that subgoals
-- call. Assumes nothing.
use mathlib.Core.Path.{◌≡◌, sym, ap, ap₂, ◌∙◌, subst}
use mathlib.Core.Bool.{Bool, true, false, ◌&&◌, ◌||◌, and-true, and-false, and-or_distrib_right, or-true, or-false}
use mathlib.Core.List.{List}
use Prim.Native.Nat.{ℕ, ◌+◌, ◌^◌, ◌≤◌, ◌<◌}
use native.Mathlib.Omega.{arith}
use lib.Bits.{bit_or}
use lib.Dec.{eqb, leb, ltb}
use lib.ListN.{length, get_or, set, replicate, length-set, get_or-replicate}
use lib.Seq.{get_or-set_same, get_or-set_other}
use borrow.Author.Tests.{eqb-true, eqb-false, ltb-true, lt-ltb, le-ltb}
use Rattle.masks.specs.Lists.{all}
use Rattle.masks.specs.Set.{bit_at}
use Rattle.book.specs.Limits.{max_predicates}
use Rattle.book.specs.Book.{Call, no_call}
use Rattle.book.specs.Format.{allows, argument_in}
use Rattle.book.specs.Encode.{call_fits}
use Rattle.book.specs.Held.{clause_at}
use Rattle.book.specs.Sets.{callable, Known, Cleared, Owns}
use Rattle.book.specs.declared.range.Range.TheVariants.{Argument}
use Rattle.masks.proofs.Laws.Logic.{by_bool, same, and_intro, and_left, and_right, or_left, or_right, or_case}
use Rattle.masks.proofs.Laws.Lists.{all_at, all_mono}
use Rattle.masks.proofs.Laws.Set.{bit_at_zero, eqb_comm, bit_at_more}
use Rattle.book.proofs.Laws.Trip.{fields_range, call_known}

-- ---- one member more, in a word and in a word of an array

pub stored_more : (words : List ℕ) (p m : ℕ) → p < length words
    → (q k : ℕ) → bit_at (get_or (set words p (bit_or (get_or words p 0) (2 ^ m))) q 0) k ≡ (bit_at (get_or words q 0) k || (eqb q p && eqb m k))
stored_more words p m h q k =
    by_bool (eqb q p)
    (λ t.
    let e = eqb-true q p t in
    ap (λ (i : ℕ). bit_at (get_or (set words p (bit_or (get_or words p 0) (2 ^ m))) i 0) k) e
    ∙ ap (λ (w : ℕ). bit_at w k) (get_or-set_same words p (bit_or (get_or words p 0) (2 ^ m)) 0 h)
    ∙ bit_at_more (get_or words p 0) m k
    ∙ ap₂ (λ (i : ℕ) (b : Bool). bit_at (get_or words i 0) k || (b && eqb m k)) (sym e) (sym t))
    (λ t.
    ap (λ (w : ℕ). bit_at w k) (get_or-set_other words p q (bit_or (get_or words p 0) (2 ^ m)) 0 (eqb-false q p t))
    ∙ sym (or-false (bit_at (get_or words q 0) k)) ∙ ap (λ (b : Bool). bit_at (get_or words q 0) k || (b && eqb m k)) (sym t))

-- an array of empty sets
pub cleared_zeros : Cleared (replicate max_predicates 0)
cleared_zeros p h = get_or-replicate max_predicates p 0 0 h

-- the numbers below one more
ltb_suc : (i k : ℕ) → ltb i (k + 1) ≡ (ltb i k || eqb k i)
ltb_suc i k =
    by_bool (eqb k i)
    (λ t. let e = eqb-true k i t in rw t (lt-ltb i (k + 1) (omega arith) ∙ sym (or-true (ltb i k))))
    (λ t.
    let ne : k ≡ i → ⊥ = eqb-false k i t in
    rw t
    (same (ltb i (k + 1)) (ltb i k) (λ l. let h = ltb-true i (k + 1) l in lt-ltb i k (omega arith)) (λ l. let h = ltb-true i k l in lt-ltb i (k + 1) (omega arith))
    ∙ sym (or-false (ltb i k))))

-- ---- the predicate of a head

pub head_low : {rules : List ℕ} {n : ℕ} (k p : ℕ) → Known rules n → k < n → p ≡ (clause_at rules k).head.pred → p < max_predicates
head_low k p s l e = let r = s.heads k l in omega arith

-- ---- the clauses of each predicate: of the first k clauses its own

pub record Owning (rules : List ℕ) (n k : ℕ) (own : List ℕ) : Type 0 where
  pub most : k ≤ n
  pub size : length own ≡ max_predicates
  pub owns : Owns rules k own

pub owning_start : (rules : List ℕ) (n : ℕ) (own : List ℕ) → length own ≡ max_predicates → Cleared own → Owning rules n 0 own
owning_start rules n own e none =
    record {
      most = omega arith;
      size = e;
      owns = λ p h i. ap (λ (w : ℕ). bit_at w i) (none p h) ∙ bit_at_zero i ∙ ap (λ (b : Bool). b && eqb (clause_at rules i).head.pred p) (sym (le-ltb i 0 (omega arith)));
    }

module _ {rules : List ℕ} {n k : ℕ} {own : List ℕ} (o : Owning rules n k own) where
  pub owning_next : (p : ℕ) → Known rules n → k < n → p ≡ (clause_at rules k).head.pred → Owning rules n (k + 1) (set own p (bit_or (get_or own p 0) (2 ^ k)))
  owning_next p known m e =
      let l = head_low k p known m e in
      let s = o.size in
      record {
        most = omega arith;
        size = length-set own p (bit_or (get_or own p 0) (2 ^ k)) ∙ s;
        owns = λ q r i.
            stored_more own p k (omega arith) q i
            ∙ ap₂ (λ (a b : Bool). a || b) (o.owns q r i) (one q i)
            ∙ sym (and-or_distrib_right (ltb i k) (eqb k i) (eqb (clause_at rules i).head.pred q))
            ∙ ap (λ (b : Bool). b && eqb (clause_at rules i).head.pred q) (sym (ltb_suc i k));
      }
    where
      one : (q i : ℕ) → (eqb q p && eqb k i) ≡ (eqb k i && eqb (clause_at rules i).head.pred q)
      one q i =
          by_bool (eqb k i)
          (λ t.
          rw t
          (and-true (eqb q p)
          ∙ eqb_comm q p ∙ ap (λ (h : ℕ). eqb h q) (e ∙ ap (λ (j : ℕ). (clause_at rules j).head.pred) (eqb-true k i t))))
          (λ t. rw t (and-false (eqb q p)))

  pub owning_end : n ≤ k → Owns rules n own
  owning_end h = let m = o.most in let e : k ≡ n = omega arith in subst (λ (j : ℕ). Owns rules j own) e o.owns

-- ---- what subgoals call, and with what

module _ (body : List Call) (j : ℕ) (t : callable body ≡ true) (h : j < length body) where
  called : (ltb (get_or body j no_call).pred max_predicates && all (allows Argument) (get_or body j no_call).args) ≡ true
  unfolding callable
  called = all_at (λ c. ltb c.pred max_predicates && all (allows Argument) c.args) no_call body j h t

  pub callable_low : (get_or body j no_call).pred < max_predicates
  callable_low =
      ltb-true (get_or body j no_call).pred max_predicates (and_left (ltb (get_or body j no_call).pred max_predicates) (all (allows Argument) (get_or body j no_call).args) called)

  pub callable_args : all (allows Argument) (get_or body j no_call).args ≡ true
  callable_args = and_right (ltb (get_or body j no_call).pred max_predicates) (all (allows Argument) (get_or body j no_call).args) called

-- those that fit a book
pub fit_callable : (ar : List ℕ) → length ar ≤ max_predicates → (body : List Call) → all (call_fits ar) body ≡ true → callable body ≡ true
unfolding callable allows
fit_callable ar few =
    all_mono (call_fits ar) (λ c. ltb c.pred max_predicates && all (allows Argument) c.args)
    (λ c t.
    let r = argument_in c.negated in
    let l = ltb-true c.pred (length ar) (call_known ar c t) in
    and_intro (lt-ltb c.pred max_predicates (omega arith)) (all_mono (allows r) (allows Argument) (λ x. wider c.negated x) c.args (fields_range r ar c.pred c.args t)))
  where
    -- what an NG may have, an SG may
    wider : (n : Bool) (x : ℕ) → allows (argument_in n) x ≡ true → allows Argument x ≡ true
    wider true x t = or_case (leb x 15) (eqb x 255) t (λ s. or_left (leb x 15) (eqb x 254 || eqb x 255) s) (λ s. or_right (leb x 15) (or_right (eqb x 254) s))
    wider false x t = t

-- ---- what they call is below n

unfoldable pub calls_below : ℕ → List Call → Bool
calls_below n body = all (λ c. ltb c.pred n) body

pub fit_below : (ar : List ℕ) (body : List Call) → all (call_fits ar) body ≡ true → calls_below (length ar) body ≡ true
unfolding calls_below allows
fit_below ar =
    all_mono (call_fits ar) (λ s. ltb s.pred (length ar)) (call_known ar)
