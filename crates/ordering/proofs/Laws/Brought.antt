-- What a clause gives back. An argument is bound when the subgoals have run exactly where it was bound from the start or is a variable that one of them binds; so
-- W3's rule holds of a clause exactly where every argument of its head is bound when it has run: no cell comes back empty. Assumes nothing.
use mathlib.Core.Path.{◌≡◌, refl, sym, ap, ap₂, ◌∙◌}
use mathlib.Core.Bool.{Bool, true, false, not, cond, ◌&&◌, ◌||◌, or_assoc, or-false, and-false}
use mathlib.Core.List.{List, [], ◌∷◌, map}
use Prim.Native.Nat.{ℕ, zero, suc, ◌/◌, ◌%◌}
use native.Mathlib.Omega.{arith}
use lib.Dec.{eqb, ltb}
use lib.ListN.{length, get_or, set, length-set}
use lib.Seq.{get_or-set_same, get_or-set_other}
use borrow.Author.Tests.{eqb-true, eqb-false, ltb-true, lt-ltb}
use Rattle.masks.specs.Lists.{any, all, has, below}
use Rattle.masks.specs.Mask.{within}
use Rattle.masks.specs.Constraint.{admits}
use Rattle.book.specs.Book.{Call, no_call, Clause}
use Rattle.ordering.specs.Adorn.{variables, Bound, nothing, literal, is_bound, pattern_of, bind_var, bind_all, bind_head, head_bound, binds, known, ready, after}
use Rattle.ordering.specs.Orders.{Rearranges, find, without, each, orders_of, count, orders}
use Rattle.ordering.specs.Turns as turns
use Rattle.ordering.specs.Good.{at, after_at, known_from, ran, brought, filled, good_clause}
use Rattle.masks.proofs.Laws.Logic.{by_bool, or_left, or_right, or_case}
use Rattle.masks.proofs.Laws.Lists.{all_mono}
use Rattle.ordering.proofs.Laws.Orders.{standing, right_takes}
use Rattle.ordering.proofs.Laws.Greedy.{all_same}
use Rattle.ordering.proofs.Laws.Adorn.{Le, bound_mono, after_swap}

-- ---- document 02's words, by computing

unfoldable pub computing : Unit {0}
unfolding within admits nothing is_bound pattern_of bind_var bind_all bind_head head_bound ready after find without each orders_of count orders turns.good_from turns.first_good at binds known brought good_clause
computing = tt

-- "The fact p(X) with no body gets mask 1."; p(X,X), where "a variable at two head positions is bound if either is", masks 1 2; a literal asks for nothing
abbrev fact : List ℕ → Clause
fact args = record { head = record { pred = 1; args = args }; body = [] }

pub fact_twice : below (good_clause [] (fact (0 ∷ 0 ∷ []))) 4 ≡ 1 ∷ 2 ∷ 3 ∷ []
unfolding computing
fact_twice = refl

pub fact_once : below (good_clause [] (fact (0 ∷ []))) 2 ≡ 1 ∷ []
unfolding computing
fact_once = refl

pub fact_literal : below (good_clause [] (fact (255 ∷ []))) 2 ≡ 0 ∷ 1 ∷ []
unfolding computing
fact_literal = refl

-- "The clause seen(H,T) :- head(H) doesn't: T stays empty unless the caller brought it."; seen(H,T) :- head(H), head(T) does, and head(_) binds nothing
abbrev seen : List ℕ → List ℕ → Clause
seen args heads = record { head = record { pred = 1; args = args }; body = map (λ v. record { negated = false; pred = 0; args = v ∷ [] }) heads }

pub seen_brought : below (good_clause ((0 ∷ []) ∷ []) (seen (0 ∷ 1 ∷ []) (0 ∷ []))) 4 ≡ 2 ∷ 3 ∷ []
unfolding computing
seen_brought = refl

pub seen_both : below (good_clause ((0 ∷ []) ∷ []) (seen (0 ∷ 1 ∷ []) (0 ∷ 1 ∷ []))) 4 ≡ 0 ∷ 1 ∷ 2 ∷ 3 ∷ []
unfolding computing
seen_both = refl

pub seen_wildcard : below (good_clause ((0 ∷ []) ∷ []) (seen (0 ∷ []) (254 ∷ []))) 2 ≡ 1 ∷ []
unfolding computing
seen_wildcard = refl

-- W9: "a head variable found only in `NG` counts as absent": p(X) :- not head(X) does not bring X by itself. The clause is good where the caller does; and
-- p(X) :- head(X), not head(Y) under no pattern, since nothing binds Y
abbrev unlike : List Call → Clause
unlike body = record { head = record { pred = 1; args = 0 ∷ [] }; body = body }

abbrev headed : Bool → ℕ → Call
headed n v = record { negated = n; pred = 0; args = v ∷ [] }

pub only_negated : brought (unlike (headed true 0 ∷ [])) nothing ≡ false
unfolding computing
only_negated = refl

pub negated_good : below (good_clause ((0 ∷ []) ∷ []) (unlike (headed true 0 ∷ []))) 2 ≡ 1 ∷ []
unfolding computing
negated_good = refl

pub negated_alone : below (good_clause ((0 ∷ []) ∷ []) (unlike (headed false 0 ∷ headed true 1 ∷ []))) 2 ≡ []
unfolding computing
negated_alone = refl

-- W9: "When it is placed, every variable in it must be bound already": not head(X), head(X) as they stand, and the other way round
pub known_turn : map (known_from (headed true 0 ∷ headed false 0 ∷ []) nothing) ((0 ∷ 1 ∷ []) ∷ (1 ∷ 0 ∷ []) ∷ []) ≡ false ∷ true ∷ []
unfolding computing
known_turn = refl

-- ---- what is bound when subgoals have run

var_length : (b : Bound) (u : ℕ) → length (bind_var b u) ≡ length b
unfolding bind_var
var_length b u = go (ltb u variables)
  where
    go : (c : Bool) → length (cond c (set b u true) b) ≡ length b
    go true = length-set b u true
    go false = refl

var_at : (b : Bound) (u v : ℕ) → length b ≡ variables → is_bound (bind_var b u) v ≡ (is_bound b v || (ltb v variables && eqb v u))
unfolding is_bound bind_var
var_at b u v n = go (eqb v literal) (ltb v variables) in_range_lem
  where
    other : (c : Bool) → (v ≡ u → ⊥) → get_or (cond c (set b u true) b) v false ≡ get_or b v false
    other true d = get_or-set_other b u v true false d
    other false d = refl

    in_range_lem : ltb v variables ≡ true → get_or (cond (ltb u variables) (set b u true) b) v false ≡ (get_or b v false || eqb v u)
    in_range_lem t =
        by_bool (eqb v u)
        (λ e.
        let q = eqb-true v u e in
        let h = ltb-true v variables t in
        ap (λ (w : ℕ). get_or (cond (ltb u variables) (set b u true) b) w false) q
        ∙ ap (λ (c : Bool). get_or (cond c (set b u true) b) u false) (lt-ltb u variables (omega arith))
        ∙ get_or-set_same b u true false (omega arith) ∙ sym (or_right (get_or b v false) e))
        (λ e. other (ltb u variables) (eqb-false v u e) ∙ sym (ap (λ (c : Bool). get_or b v false || c) e ∙ or-false (get_or b v false)))

    go : (l t : Bool) → (t ≡ true → get_or (cond (ltb u variables) (set b u true) b) v false ≡ (get_or b v false || eqb v u))
        → cond l true (cond t (get_or (cond (ltb u variables) (set b u true) b) v false) false)
        ≡ (cond l true (cond t (get_or b v false) false) || (t && eqb v u))
    go true t f = refl
    go false true f = f refl
    go false false f = refl

all_length : (b : Bound) (l : List ℕ) → length (bind_all b l) ≡ length b
unfolding bind_all
all_length b [] = refl
all_length b (u ∷ l) = all_length (bind_var b u) l ∙ var_length b u

all_at : (b : Bound) (l : List ℕ) (v : ℕ) → length b ≡ variables → is_bound (bind_all b l) v ≡ (is_bound b v || (ltb v variables && has l v))
unfolding bind_all
all_at b [] v n = sym (ap (λ (c : Bool). is_bound b v || c) (and-false (ltb v variables)) ∙ or-false (is_bound b v))
all_at b (u ∷ l) v n =
    all_at (bind_var b u) l v (var_length b u ∙ n)
    ∙ ap (λ (c : Bool). c || (ltb v variables && has l v)) (var_at b u v n) ∙ join (is_bound b v) (ltb v variables) (eqb v u) (has l v)
  where
    join : (x t e r : Bool) → ((x || (t && e)) || (t && r)) ≡ (x || (t && (e || r)))
    join true t e r = refl
    join false true e r = refl
    join false false e r = refl

after_length : (b : Bound) (s : Call) → length (after b s) ≡ length b
unfolding after
after_length b s = go s.negated
  where
    go : (m : Bool) → length (cond m b (bind_all b s.args)) ≡ length b
    go true = refl
    go false = all_length b s.args

after_at_lem : (b : Bound) (s : Call) (v : ℕ) → length b ≡ variables → is_bound (after b s) v ≡ (is_bound b v || binds s v)
unfolding after binds
after_at_lem b s v n = go s.negated
  where
    go : (m : Bool) → is_bound (cond m b (bind_all b s.args)) v ≡ (is_bound b v || (not m && (ltb v variables && has s.args v)))
    go true = sym (or-false (is_bound b v))
    go false = all_at b s.args v n

ran_at : (body : List Call) (b : Bound) (σ : List ℕ) (v : ℕ) → length b ≡ variables
    → is_bound (ran body b σ) v ≡ (is_bound b v || any (λ p. binds (at body p) v) σ)
unfolding turns.all_after
ran_at body b [] v n = sym (or-false (is_bound b v))
ran_at body b (p ∷ σ) v n =
    let rest = any (λ q. binds (at body q) v) σ in
    ran_at body (after_at body b p) σ v (after_length b (at body p) ∙ n)
    ∙ ap (λ (c : Bool). c || rest) (after_at_lem b (at body p) v n) ∙ or_assoc (is_bound b v) (binds (at body p) v) rest

any_from : (f : ℕ → Bool) (i n : ℕ) → any f (count (suc i) n) ≡ any (λ p. f (suc p)) (count i n)
unfolding count
any_from f i zero = refl
any_from f i (suc n) = ap (λ (c : Bool). f (suc i) || c) (any_from f (suc i) n)

any_place : (f : Call → Bool) (body : List Call) → any (λ p. f (at body p)) (count 0 (length body)) ≡ any f body
unfolding count at
any_place f [] = refl
any_place f (s ∷ body) = ap (λ (c : Bool). f s || c) (any_from (λ p. f (get_or (s ∷ body) p no_call)) 0 (length body) ∙ any_place f body)

-- it does not depend on their order
bound_after : (body : List Call) (b : Bound) (σ τ : List ℕ) → Rearranges (length body) σ → Rearranges (length body) τ → ran body b σ ≡ ran body b τ
bound_after body b σ τ r s =
    all_same (after_at body) (λ c p q. after_swap c (at body p) (at body q)) b (count 0 (length body)) σ τ
    (right_takes (length body) σ r) (right_takes (length body) τ s)

-- an argument is bound then exactly where it was or is a variable that one of them binds
stands_ran : (body : List Call) (b : Bound) (σ : List ℕ) (v : ℕ) → length b ≡ variables → Rearranges (length body) σ
    → (is_bound b v || any (λ s. binds s v) body) ≡ is_bound (ran body b σ) v
stands_ran body b σ v n r =
    sym
    (ap (λ (c : Bound). is_bound c v) (bound_after body b σ (count 0 (length body)) r (standing (length body)))
    ∙ ran_at body b (count 0 (length body)) v n
    ∙ ap (λ (c : Bool). is_bound b v || c) (any_place (λ s. binds s v) body))

-- ---- W3's rule

-- it holds exactly where every argument of the head is bound when the clause has run
pub brought_ran : (c : Clause) (b : Bound) (σ : List ℕ) → length b ≡ variables → Rearranges (length c.body) σ
    → brought c b ≡ filled c b σ
unfolding brought
brought_ran c b σ n r = go c.head.args
  where
    go : (l : List ℕ) → all (λ v. is_bound b v || any (λ s. binds s v) c.body) l ≡ all (is_bound (ran c.body b σ)) l
    go [] = refl
    go (v ∷ l) = ap₂ (λ (x y : Bool). x && y) (stands_ran c.body b σ v n r) (go l)

pub head_length : (args : List ℕ) (a : ℕ) → length (head_bound args a) ≡ variables
unfolding head_bound bind_head nothing
head_length args a = go args a nothing refl
  where
    one : (c : Bool) (b : Bound) (v : ℕ) → length (cond c (bind_var b v) b) ≡ length b
    one true b v = var_length b v
    one false b v = refl

    go : (l : List ℕ) (a : ℕ) (b : Bound) → length b ≡ variables → length (bind_head b l a) ≡ variables
    go [] a b n = n
    go (v ∷ l) a b n = go l (a / 2) (cond (eqb (a % 2) 1) (bind_var b v) b) (one (eqb (a % 2) 1) b v ∙ n)

-- with more bound it still holds
pub brought_mono : (c : Clause) (b b' : Bound) → Le b b' → brought c b ≡ true → brought c b' ≡ true
unfolding brought
brought_mono c b b' h t =
    all_mono (λ v. is_bound b v || stands v) (λ v. is_bound b' v || stands v)
    (λ v e. or_case (is_bound b v) (stands v) e (λ i. or_left (is_bound b' v) (stands v) (bound_mono b b' v h i)) (λ i. or_right (is_bound b' v) i))
    c.head.args t
  where
    stands : ℕ → Bool
    stands v = any (λ s. binds s v) c.body
