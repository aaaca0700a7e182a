-- Binding only adds: a variable that is bound stays bound, which is bound first or how often does not matter, and where more is bound a pattern has
-- more bits. So a subgoal that is ready stays ready, since a constraint that admits a pattern admits every greater one; of a negated one all arguments are
-- bound, and stay so. What a negated subgoal binds is nothing, whichever comes before it. Assumes nothing.
use mathlib.Core.Path.{◌≡◌, refl, sym, ap, ◌∙◌}
use mathlib.Core.Bool.{Bool, true, false, not, cond, ◌&&◌}
use mathlib.Core.Logic.{⊎_elim, ◌↔◌}
use mathlib.Core.List.{List, [], ◌∷◌, map}
use Prim.Native.Nat.{ℕ, zero, suc, ◌+◌, ◌*◌, ◌/◌, ◌%◌, ◌≤◌, ◌<◌}
use native.Mathlib.Omega.{arith}
use lib.Dec.{eqb, leb, ltb}
use lib.Bits.{bit_and}
use lib.ListN.{get_or, set}
use lib.Seq.{set-set, set_comm}
use borrow.Author.Tests.{eqb-true, eq-eqb, leb-true}
use Rattle.masks.specs.Mask.{within}
use Rattle.masks.specs.Constraint.{admits}
use Rattle.masks.specs.Lists.{all, has}
use Rattle.book.specs.Book.{Call}
use Rattle.book.specs.Format.{allows, argument_in}
use Rattle.book.specs.Encode.{call_fits}
use Rattle.book.specs.Table.{Table}
use Rattle.book.specs.declared.range.Range.TheVariants.{NoWildcard}
use Rattle.ordering.specs.Adorn.{variables, Bound, nothing, literal, is_bound, bit, pattern_of, bind_var, bind_all, bind_head, head_bound, known, ready, after}
use Rattle.masks.proofs.Laws.Logic.{clash, and_intro, and_left, and_right, or_left, or_right, or_case}
use Rattle.masks.proofs.Laws.Lists as lists
use Rattle.book.proofs.Laws.Trip.{fields_range}
use Rattle.masks.proofs.Laws.Mask.{within_and, and_within, halved, doubled}
use Rattle.masks.proofs.Laws.Constraint.{admits_up}
use Rattle.ordering.proofs.Laws.Orders.{same?}

-- ---- document 01's words, by computing

-- "a literal or a bound variable gives a bound position, anything else a free one"; "A wildcard is always free and binds nothing"
pub positions : pattern_of (bind_var nothing 0) (0 ∷ 1 ∷ 254 ∷ 255 ∷ []) ≡ 9
unfolding nothing is_bound pattern_of bind_var
positions = refl

pub wildcard_none : bind_all nothing (254 ∷ []) ≡ nothing
unfolding nothing bind_var bind_all
wildcard_none = refl

-- "Binding X at the first place of p(X,X) in time for the second. Both are free."
pub both_free : pattern_of nothing (0 ∷ 0 ∷ []) ≡ 0
unfolding nothing is_bound pattern_of
both_free = refl

-- "a variable at two head positions is bound if either is"
pub either_binds : map (λ a. is_bound (head_bound (0 ∷ 0 ∷ []) a) 0) (0 ∷ 1 ∷ 2 ∷ 3 ∷ []) ≡ false ∷ true ∷ true ∷ true ∷ []
unfolding nothing is_bound bind_var bind_head head_bound
either_binds = refl

-- W9: "every variable in it must be bound already and its pattern must fit the predicate's constraint": of not p(X), where p asks for nothing and where p is
-- ill; of not p(255), which "has no variable", and can go first
abbrev absent : List ℕ → Call
absent args = record { negated = true; pred = 0; args = args }

pub not_free : map (λ b. ready ((0 ∷ []) ∷ []) b (absent (0 ∷ []))) (nothing ∷ bind_var nothing 0 ∷ []) ≡ false ∷ true ∷ []
unfolding within admits nothing is_bound pattern_of bind_var known ready
not_free = refl

pub not_ill : ready ([] ∷ []) (bind_var nothing 0) (absent (0 ∷ [])) ≡ false
unfolding within admits nothing is_bound pattern_of bind_var known ready
not_ill = refl

pub not_literal : ready ((0 ∷ []) ∷ []) nothing (absent (255 ∷ [])) ≡ true
unfolding within admits nothing is_bound pattern_of known ready
not_literal = refl

-- W9: "It binds nothing"
pub not_binds : after nothing (absent (0 ∷ [])) ≡ nothing
unfolding nothing bind_var bind_all after
not_binds = refl

-- ---- what is bound: b' has as many variables, and at least the bound ones of b

abbrev pub Le : Bound → Bound → Type 0
Le [] [] = Unit {0}
Le [] (y ∷ b') = ⊥
Le (x ∷ b) [] = ⊥
Le (x ∷ b) (y ∷ b') = (x ≡ true → y ≡ true) × Le b b'

pub le_refl : (b : Bound) → Le b b
le_refl [] = tt
le_refl (x ∷ b) = (λ h. h, le_refl b)

pub le_trans : (b c d : Bound) → Le b c → Le c d → Le b d
le_trans [] [] [] h k = tt
le_trans (x ∷ b) (y ∷ c) (z ∷ d) h k = (λ e. k.0 (h.0 e), le_trans b c d h.1 k.1)
le_trans [] [] (z ∷ d) h k = elim k [ ]
le_trans [] (y ∷ c) d h k = elim h [ ]
le_trans (x ∷ b) [] d h k = elim h [ ]
le_trans (x ∷ b) (y ∷ c) [] h k = elim k [ ]

le_get : (b b' : Bound) (v : ℕ) → Le b b' → get_or b v false ≡ true → get_or b' v false ≡ true
le_get [] [] v h t = t
le_get (x ∷ b) (y ∷ b') zero h t = h.0 t
le_get (x ∷ b) (y ∷ b') (suc v) h t = le_get b b' v h.1 t
le_get [] (y ∷ b') v h t = elim h [ ]
le_get (x ∷ b) [] v h t = elim h [ ]

set_grows : (b : Bound) (v : ℕ) → Le b (set b v true)
set_grows [] v = tt
set_grows (x ∷ b) zero = (λ h. refl, le_refl b)
set_grows (x ∷ b) (suc v) = (λ h. h, set_grows b v)

set_mono : (b b' : Bound) (v : ℕ) → Le b b' → Le (set b v true) (set b' v true)
set_mono [] [] v h = tt
set_mono (x ∷ b) (y ∷ b') zero h = (λ k. refl, h.1)
set_mono (x ∷ b) (y ∷ b') (suc v) h = (h.0, set_mono b b' v h.1)
set_mono [] (y ∷ b') v h = elim h [ ]
set_mono (x ∷ b) [] v h = elim h [ ]

set_swap : (b : Bound) (v w : ℕ) → set (set b v true) w true ≡ set (set b w true) v true
set_swap b v w = ⊎_elim (λ e. rw e) (set_comm b v w true true) (same? v w)

-- ---- a variable

var_grows : (b : Bound) (v : ℕ) → Le b (bind_var b v)
unfolding bind_var
var_grows b v = go (ltb v variables)
  where
    go : (c : Bool) → Le b (cond c (set b v true) b)
    go true = set_grows b v
    go false = le_refl b

var_mono : (b b' : Bound) (v : ℕ) → Le b b' → Le (bind_var b v) (bind_var b' v)
unfolding bind_var
var_mono b b' v h = go (ltb v variables)
  where
    go : (c : Bool) → Le (cond c (set b v true) b) (cond c (set b' v true) b')
    go true = set_mono b b' v h
    go false = h

var_swap : (b : Bound) (v w : ℕ) → bind_var (bind_var b v) w ≡ bind_var (bind_var b w) v
unfolding bind_var
var_swap b v w = go (ltb v variables) (ltb w variables)
  where
    go : (c d : Bool) → cond d (set (cond c (set b v true) b) w true) (cond c (set b v true) b)
        ≡ cond c (set (cond d (set b w true) b) v true) (cond d (set b w true) b)
    go true true = set_swap b v w
    go true false = refl
    go false true = refl
    go false false = refl

var_twice : (b : Bound) (v : ℕ) → bind_var (bind_var b v) v ≡ bind_var b v
unfolding bind_var
var_twice b v = go (ltb v variables)
  where
    go : (c : Bool) → cond c (set (cond c (set b v true) b) v true) (cond c (set b v true) b) ≡ cond c (set b v true) b
    go true = set-set b v true true
    go false = refl

-- ---- all variables of a call

pub all_grows : (b : Bound) (vs : List ℕ) → Le b (bind_all b vs)
unfolding bind_all
all_grows b [] = le_refl b
all_grows b (v ∷ vs) = le_trans b (bind_var b v) (bind_all (bind_var b v) vs) (var_grows b v) (all_grows (bind_var b v) vs)

pub all_mono : (b b' : Bound) (vs : List ℕ) → Le b b' → Le (bind_all b vs) (bind_all b' vs)
unfolding bind_all
all_mono b b' [] h = h
all_mono b b' (v ∷ vs) h = all_mono (bind_var b v) (bind_var b' v) vs (var_mono b b' v h)

all_var : (b : Bound) (vs : List ℕ) (w : ℕ) → bind_var (bind_all b vs) w ≡ bind_all (bind_var b w) vs
unfolding bind_all
all_var b [] w = refl
all_var b (v ∷ vs) w = all_var (bind_var b v) vs w ∙ ap (λ u. bind_all u vs) (var_swap b v w)

pub all_swap : (b : Bound) (vs ws : List ℕ) → bind_all (bind_all b vs) ws ≡ bind_all (bind_all b ws) vs
unfolding bind_all
all_swap b vs [] = refl
all_swap b vs (w ∷ ws) = ap (λ u. bind_all u ws) (all_var b vs w) ∙ all_swap (bind_var b w) vs ws

pub all_twice : (b : Bound) (vs : List ℕ) → bind_all (bind_all b vs) vs ≡ bind_all b vs
unfolding bind_all
all_twice b [] = refl
all_twice b (v ∷ vs) =
    ap (λ u. bind_all u vs) (all_var (bind_var b v) vs v ∙ ap (λ u. bind_all u vs) (var_twice b v)) ∙ all_twice (bind_var b v) vs

-- ---- patterns

pub bound_mono : (b b' : Bound) (v : ℕ) → Le b b' → is_bound b v ≡ true → is_bound b' v ≡ true
unfolding is_bound
bound_mono b b' v h = go (eqb v literal) (ltb v variables)
  where
    go : (c d : Bool) → cond c true (cond d (get_or b v false) false) ≡ true → cond c true (cond d (get_or b' v false) false) ≡ true
    go true d t = refl
    go false true t = le_get b b' v h t
    go false false t = t

pub bit_small : (c : Bool) → bit c < 2
bit_small true = omega arith
bit_small false = omega arith

pub bit_mono : (c d : Bool) → (c ≡ true → d ≡ true) → bit c ≤ bit d
bit_mono true true h = omega arith
bit_mono true false h = clash (h refl) refl
bit_mono false d h = omega arith

half : (n r : ℕ) → r < 2 → (n * 2 + r) / 2 ≡ n
half n r h = omega arith

pattern_and : (b b' : Bound) (vs : List ℕ) → Le b b' → bit_and (pattern_of b vs) (pattern_of b' vs) ≡ pattern_of b vs
unfolding pattern_of
pattern_and b b' [] h = refl
pattern_and b b' (v ∷ vs) h =
    let k = bit_mono (is_bound b v) (is_bound b' v) (bound_mono b b' v h) in
    let i = bit_small (is_bound b v) in
    let j = bit_small (is_bound b' v) in
    doubled (pattern_of b vs * 2 + bit (is_bound b v)) (pattern_of b' vs * 2 + bit (is_bound b' v))
    (rw (half (pattern_of b vs) (bit (is_bound b v)) i, half (pattern_of b' vs) (bit (is_bound b' v)) j) (pattern_and b b' vs h)) (omega arith)

pub pattern_mono : (b b' : Bound) (vs : List ℕ) → Le b b' → within (pattern_of b vs) (pattern_of b' vs) ≡ true
pattern_mono b b' vs h = and_within (pattern_of b vs) (pattern_of b' vs) (pattern_and b b' vs h)

-- ---- the head

head_mono : (b b' : Bound) (vs : List ℕ) (a a' : ℕ) → Le b b' → bit_and a a' ≡ a → Le (bind_head b vs a) (bind_head b' vs a')
unfolding bind_head
head_mono b b' [] a a' h k = h
head_mono b b' (v ∷ vs) a a' h k =
    head_mono (cond (eqb (a % 2) 1) (bind_var b v) b) (cond (eqb (a' % 2) 1) (bind_var b' v) b') vs (a / 2) (a' / 2)
    (go (eqb (a % 2) 1) (eqb (a' % 2) 1) one) (halved a a' k).0
  where
    one : eqb (a % 2) 1 ≡ true → eqb (a' % 2) 1 ≡ true
    one e = let q = (halved a a' k).1 in let p = eqb-true (a % 2) 1 e in eq-eqb (a' % 2) 1 (omega arith)

    go : (c d : Bool) → (c ≡ true → d ≡ true) → Le (cond c (bind_var b v) b) (cond d (bind_var b' v) b')
    go true true f = var_mono b b' v h
    go true false f = clash (f refl) refl
    go false true f = le_trans b b' (bind_var b' v) h (var_grows b' v)
    go false false f = h

pub head_bound_mono : (head : List ℕ) (a a' : ℕ) → within a a' ≡ true → Le (head_bound head a) (head_bound head a')
unfolding head_bound
head_bound_mono head a a' h = head_mono nothing nothing head a a' (le_refl nothing) (within_and a a' h)

-- ---- `ready` and `after`: nothing above looks further

-- every pattern that T admits of a predicate T' admits
abbrev pub More : Table → Table → Type 0
More T T' = (p a : ℕ) → admits (get_or T p []) a ≡ true → admits (get_or T' p []) a ≡ true

pub more_refl : (T : Table) → More T T
more_refl T p a h = h

-- its two parts: the pattern fits, and W9's rule
module _ (T : Table) (b : Bound) (s : Call) where
  abbrev fits : Bool
  fits = admits (get_or T s.pred []) (pattern_of b s.args)

  pub ready_fits : ready T b s ≡ true → admits (get_or T s.pred []) (pattern_of b s.args) ≡ true
  unfolding ready
  ready_fits t = and_left fits (known b s) t

  pub ready_known : ready T b s ≡ true → known b s ≡ true
  unfolding ready
  ready_known t = and_right fits (known b s) t

  pub fits_ready : admits (get_or T s.pred []) (pattern_of b s.args) ≡ true → known b s ≡ true → ready T b s ≡ true
  unfolding ready
  fits_ready t u = and_intro t u

known_mono : (b b' : Bound) (s : Call) → Le b b' → known b s ≡ true → known b' s ≡ true
unfolding known
known_mono b b' s h t =
    or_case (not s.negated) (all (is_bound b) s.args) t (or_left (not s.negated) (all (is_bound b') s.args))
    (λ e. or_right (not s.negated) (lists.all_mono (is_bound b) (is_bound b') (λ v. bound_mono b b' v h) s.args e))

pub ready_mono : (T T' : Table) (b b' : Bound) (s : Call) → More T T' → Le b b' → ready T b s ≡ true → ready T' b' s ≡ true
ready_mono T T' b b' s m h t =
    fits_ready T' b' s
    (m s.pred (pattern_of b' s.args)
    (admits_up (get_or T s.pred []) (pattern_of b s.args) (pattern_of b' s.args) (pattern_mono b b' s.args h) (ready_fits T b s t)))
    (known_mono b b' s h (ready_known T b s t))

-- it depends on the constraint of the predicate called
pub ready_same : (T U : Table) (b : Bound) (s : Call) → get_or T s.pred [] ≡ get_or U s.pred [] → ready T b s ≡ ready U b s
unfolding ready
ready_same T U b s e = ap (λ (c : List ℕ). admits c (pattern_of b s.args) && known b s) e

-- what a subgoal of each kind binds, for whoever computes it; what it needs is `ready_held` in `Held`
pub after_positive : (b : Bound) (s : Call) → s.negated ≡ false → after b s ≡ bind_all b s.args
unfolding after
after_positive b s e = rw e

pub after_negated : (b : Bound) (s : Call) → s.negated ≡ true → after b s ≡ b
unfolding after
after_negated b s e = rw e

pub after_grows : (b : Bound) (s : Call) → Le b (after b s)
unfolding after
after_grows b s = go s.negated
  where
    go : (n : Bool) → Le b (cond n b (bind_all b s.args))
    go true = le_refl b
    go false = all_grows b s.args

pub after_mono : (b b' : Bound) (s : Call) → Le b b' → Le (after b s) (after b' s)
unfolding after
after_mono b b' s h = go s.negated
  where
    go : (n : Bool) → Le (cond n b (bind_all b s.args)) (cond n b' (bind_all b' s.args))
    go true = h
    go false = all_mono b b' s.args h

pub after_swap : (b : Bound) (s t : Call) → after (after b s) t ≡ after (after b t) s
unfolding after
after_swap b s t = go s.negated t.negated
  where
    one : Bool → Bound → List ℕ → Bound
    one n c vs = cond n c (bind_all c vs)

    go : (n m : Bool) → one m (one n b s.args) t.args ≡ one n (one m b t.args) s.args
    go true m = refl
    go false true = refl
    go false false = all_swap b s.args t.args

pub after_twice : (b : Bound) (s : Call) → after (after b s) s ≡ after b s
unfolding after
after_twice b s = go s.negated
  where
    go : (n : Bool) → cond n (cond n b (bind_all b s.args)) (bind_all (cond n b (bind_all b s.args)) s.args) ≡ cond n b (bind_all b s.args)
    go true = refl
    go false = all_twice b s.args

-- ---- W9's rule

-- by kind
pub known_positive : (b : Bound) (s : Call) → s.negated ≡ false → known b s ≡ true
unfolding known
known_positive b s e = rw e

pub known_negated : (b : Bound) (s : Call) → s.negated ≡ true → known b s ≡ all (is_bound b) s.args
unfolding known
known_negated b s e = rw e

-- by the variables: where every other argument is a literal, all are bound exactly where each variable among them is
variables_bound : (b : Bound) (l : List ℕ) → all (is_bound b) l ≡ true → (v : ℕ) → has l v ≡ true → is_bound b v ≡ true
variables_bound b [] t v h = clash h refl
variables_bound b (x ∷ l) t v h =
    or_case (eqb v x) (has l v) h
    (λ e. ap (is_bound b) (eqb-true v x e) ∙ and_left (is_bound b x) (all (is_bound b) l) t)
    (λ e. variables_bound b l (and_right (is_bound b x) (all (is_bound b) l) t) v e)

bound_variables : (b : Bound) (l : List ℕ) → all (allows NoWildcard) l ≡ true → ((v : ℕ) → v < variables → has l v ≡ true → is_bound b v ≡ true)
    → all (is_bound b) l ≡ true
unfolding allows is_bound
bound_variables b [] t f = refl
bound_variables b (x ∷ l) t f =
    and_intro (one (and_left (allows NoWildcard x) (all (allows NoWildcard) l) t))
    (bound_variables b l (and_right (allows NoWildcard x) (all (allows NoWildcard) l) t) (λ v h e. f v h (or_right (eqb v x) e)))
  where
    one : allows NoWildcard x ≡ true → is_bound b x ≡ true
    one s =
        or_case (leb x 15) (eqb x literal) s
        (λ h. let m = leb-true x 15 h in f x (omega arith) (or_left (eqb x x) (has l x) (eq-eqb x x refl)))
        (λ h. rw h)

pub known_variables : (ar : List ℕ) (b : Bound) (s : Call) → call_fits ar s ≡ true → s.negated ≡ true
    → (known b s ≡ true) ↔ ((v : ℕ) → v < variables → has s.args v ≡ true → is_bound b v ≡ true)
known_variables ar b s t e = (
  λ k v h. variables_bound b s.args (sym (known_negated b s e) ∙ k) v,
  λ f. known_negated b s e ∙ bound_variables b s.args (rw e at (fields_range (argument_in s.negated) ar s.pred s.args t)) f,
)
