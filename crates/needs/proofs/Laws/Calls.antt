-- Who calls whom. One invariant for each loop that makes the sets, with a law for its start, its next turn and its end; then what the sets say: who
-- calls one of a set has a clause that does, and the clauses of a set are good where the predicate's are. Assumes nothing.
use mathlib.Core.Path.{◌≡◌, refl, sym, ap, ap₂, ◌∙◌, subst}
use mathlib.Core.Bool.{Bool, true, false, cond, ◌&&◌, ◌||◌, and-true, and-false, and-or_distrib_right, or_assoc, or-false}
use mathlib.Core.List.{List, [], ◌∷◌}
use Prim.Native.Nat.{ℕ, zero, suc, ◌+◌, ◌-◌, ◌^◌, ◌≤◌, ◌<◌}
use native.Mathlib.Numerals.{add-one}
use native.Mathlib.Omega.{arith}
use lib.Bits.{bit_or}
use lib.Dec.{eqb, ltb}
use lib.ListN.{length, get_or, take, set, length-set}
use lib.Seq.{take_all}
use borrow.Author.Tests.{eqb-true, eqb-false, ne_eqb, ltb-true, lt-ltb, le-ltb}
use Rattle.masks.specs.Lists.{any, all}
use Rattle.masks.specs.Set.{bit_at, Holds, members}
use Rattle.book.specs.Limits.{max_predicates, max_clauses}
use Rattle.book.specs.Book.{Clause, Call, no_call}
use Rattle.book.specs.Format.{allows}
use Rattle.book.specs.Held.{clause_at, clauses_of}
use Rattle.book.specs.Table.{Table}
use Rattle.book.specs.Sets.{callable, Known, Cleared}
use Rattle.book.specs.declared.range.Range.TheVariants.{Argument}
use Rattle.ordering.specs.Good.{good_clause}
use Rattle.tables.specs.Calls.{calls, touched}
use Rattle.tables.specs.Table.{own, defined, good}
use Rattle.needs.specs.Sets.{each_in, some_in, Calling, Added}
use Rattle.masks.proofs.Laws.Logic.{by_bool, and_left, and_right}
use Rattle.masks.proofs.Laws.Lists.{any_suc}
use Rattle.masks.proofs.Laws.Set.{bit_at_zero, bit_at_or, bit_at_more}
use Rattle.masks.proofs.Laws.Loops.{Over, over_start, over_end, over_small, over_member, over_here, over_next}
use Rattle.book.proofs.Laws.Sets.{stored_more}
use Rattle.tables.proofs.Laws.Own.{defined_snoc, touched_snoc, good_snoc}

-- ---- the predicates that have clauses: those of the first k heads

pub record Heading (rules : List ℕ) (n k set : ℕ) : Type 0 where
  pub most : k ≤ n
  pub holds : Holds set (defined (clauses_of rules k))

pub heading_start : (rules : List ℕ) (n : ℕ) → Heading rules n 0 0
unfolding defined clauses_of
heading_start rules n = record { most = omega arith; holds = bit_at_zero }

module _ {rules : List ℕ} {n k set : ℕ} (o : Heading rules n k set) where
  pub heading_next : (h : ℕ) → k < n → h ≡ (clause_at rules k).head.pred → Heading rules n (k + 1) (bit_or set (2 ^ h))
  unfolding clauses_of
  heading_next h m e =
      record {
        most = omega arith;
        holds = λ q.
            bit_at_more set h q
            ∙ ap₂ (λ (a : Bool) (d : ℕ). a || eqb d q) (o.holds q) e
            ∙ rw add-one (sym (defined_snoc (clauses_of rules k) (clause_at rules k) q));
      }

  pub heading_end : n ≤ k → Holds set (defined (clauses_of rules n))
  heading_end h = let m = o.most in let e : k ≡ n = omega arith in subst (λ (j : ℕ). Holds set (defined (clauses_of rules j))) e o.holds

-- ---- the predicates that call each predicate: those whose first k clauses do

pub record Gathering (rules : List ℕ) (n k : ℕ) (callers : List ℕ) : Type 0 where
  pub most : k ≤ n
  pub calling : Calling rules k callers

pub gathering_start : (rules : List ℕ) (n : ℕ) (callers : List ℕ) → Cleared callers → Gathering rules n 0 callers
unfolding touched own clauses_of
gathering_start rules n callers none =
    record { most = omega arith; calling = record { each = λ q h p. ap (λ (w : ℕ). bit_at w p) (none q h) ∙ bit_at_zero p } }

module _ {rules : List ℕ} {n k : ℕ} {callers : List ℕ} (o : Gathering rules n k callers) where
  pub gathering_next : {after : List ℕ} → k < n → Added (clause_at rules k) callers after → Gathering rules n (k + 1) after
  unfolding clauses_of
  gathering_next h f =
      record {
        most = omega arith;
        calling = record {
          each = λ q l p.
              f q l p
              ∙ ap (λ (b : Bool). b || (calls (eqb q) (clause_at rules k) && eqb (clause_at rules k).head.pred p)) (o.calling.each q l p)
              ∙ rw add-one (sym (touched_snoc (clauses_of rules k) (clause_at rules k) p (eqb q)));
        };
      }

  pub gathering_end : n ≤ k → Calling rules n callers
  gathering_end h = let m = o.most in let e : k ≡ n = omega arith in subst (λ (j : ℕ). Calling rules j callers) e o.calling

-- ---- one clause's subgoals: its head's predicate calls those of the first j

abbrev called_in : List Call → ℕ → Bool
called_in body q = any (λ s. eqb q s.pred) body

pub record Adding (c : Clause) (before : List ℕ) (j : ℕ) (words : List ℕ) : Type 0 where
  pub most : j ≤ length c.body
  pub size : length words ≡ max_predicates
  pub added : (q : ℕ) → q < max_predicates
      → Holds (get_or words q 0) (λ p. bit_at (get_or before q 0) p || (called_in (take j c.body) q && eqb c.head.pred p))

pub adding_start : (c : Clause) (before : List ℕ) → length before ≡ max_predicates → Adding c before 0 before
adding_start c before e = record { most = omega arith; size = e; added = λ q h p. sym (or-false (bit_at (get_or before q 0) p)) }

module _ {c : Clause} {before : List ℕ} {j : ℕ} {words : List ℕ} (o : Adding c before j words) where
  -- h is the head's predicate and q that of subgoal j, which has a word
  pub adding_next : (h q : ℕ) → q < max_predicates → j < length c.body
      → h ≡ c.head.pred → q ≡ (get_or c.body j no_call).pred
      → Adding c before (j + 1) (set words q (bit_or (get_or words q 0) (2 ^ h)))
  adding_next h q l m e f =
      let z = o.size in
      record {
        most = omega arith;
        size = length-set words q (bit_or (get_or words q 0) (2 ^ h)) ∙ z;
        added = λ r i p.
            let body = c.body in
            let is = eqb c.head.pred p in
            stored_more words q h (omega arith) r p
            ∙ ap₂ (λ (a b : Bool). a || b) (o.added r i p) (ap₂ (λ (x y : ℕ). eqb r x && eqb y p) f e)
            ∙ or_assoc (bit_at (get_or before r 0) p) (called_in (take j body) r && is) _
            ∙ ap (λ (b : Bool). bit_at (get_or before r 0) p || b)
            (sym (and-or_distrib_right (called_in (take j body) r) _ is)
            ∙ ap (λ (b : Bool). b && is) (sym (any_suc (λ (s : Call). eqb r s.pred) no_call body j m)));
      }

  pub adding_end : length c.body ≤ j → Added c before words
  unfolding calls
  adding_end h q l p =
      o.added q l p
      ∙ ap (λ (body : List Call). bit_at (get_or before q 0) p || (called_in body q && eqb c.head.pred p))
      (take_all j c.body h)

-- ---- the predicates that call one of a set: those that call one of its members below n

abbrev Callers : List ℕ → ℕ → ℕ → ℕ → Type 0
Callers callers called set n = Holds set (λ p. some_in called (λ q. bit_at (get_or callers q 0) p) n)

-- the loop over the members
abbrev pub Passing : List ℕ → ℕ → ℕ → List ℕ → Type 0
Passing callers called set left = Over (Callers callers called set) called left

pub passing_start : (callers : List ℕ) (called : ℕ) → Passing callers called 0 (members called)
passing_start callers called = over_start (Callers callers called 0) called bit_at_zero

module _ (callers : List ℕ) (called set : ℕ) (left : List ℕ) (g : Passing callers called set left) where
  absent : (n : ℕ) → bit_at called n ≡ false → Callers callers called set n → Callers callers called set (suc n)
  absent n t f p = rw t (f p ∙ sym (or-false (some_in called (λ q. bit_at (get_or callers q 0) p) n)))

  pub passing_end : left ≡ [] → Holds set (λ p. some_in called (λ q. bit_at (get_or callers q 0) p) max_predicates)
  passing_end e = over_end (Callers callers called set) called left absent g e

  module _ (q : ℕ) (others : List ℕ) (e : left ≡ q ∷ others) where
    pub passing_low : q < max_predicates
    passing_low = over_small (Callers callers called set) called left absent g q others e

    member : Callers callers called (bit_or set (get_or callers q 0)) (suc q)
    member p =
        rw (over_member (Callers callers called set) called left absent g q others e)
        (bit_at_or set (get_or callers q 0) p
        ∙ ap (λ (b : Bool). b || bit_at (get_or callers q 0) p) (over_here (Callers callers called set) called left absent g q others e p))

    pub passing_next : Passing callers called (bit_or set (get_or callers q 0)) others
    passing_next =
        over_next (Callers callers called set) called left absent g q others e (Callers callers called (bit_or set (get_or callers q 0))) member

-- ---- some member of a set

module _ (set : ℕ) where
  some_in_none : (n : ℕ) → some_in set (λ q. false) n ≡ false
  some_in_none zero = refl
  some_in_none (suc n) = rw (some_in_none n) (go (bit_at set n))
    where
      go : (b : Bool) → cond b false false ≡ false
      go true = refl
      go false = refl

  some_in_cong : (f g : ℕ → Bool) (n : ℕ) → ((q : ℕ) → q < n → f q ≡ g q) → some_in set f n ≡ some_in set g n
  some_in_cong f g zero h = refl
  some_in_cong f g (suc n) h =
      ap₂ (λ (a b : Bool). a || cond (bit_at set n) b false) (some_in_cong f g n (λ q l. h q (omega arith))) (h n (omega arith))

  some_in_or : (f g : ℕ → Bool) (n : ℕ) → some_in set (λ q. f q || g q) n ≡ (some_in set f n || some_in set g n)
  some_in_or f g zero = refl
  some_in_or f g (suc n) = rw (some_in_or f g n) (go (some_in set f n) (some_in set g n) (bit_at set n) (f n) (g n))
    where
      go : (a b c x y : Bool) → (a || b || cond c (x || y) false) ≡ (a || cond c x false || (b || cond c y false))
      go true b c x y = refl
      go false true true true y = refl
      go false true true false y = refl
      go false true false x y = refl
      go false false true x y = refl
      go false false false x y = refl

  some_in_and : (f : ℕ → Bool) (e : Bool) (n : ℕ) → some_in set (λ q. f q && e) n ≡ (some_in set f n && e)
  some_in_and f true n = some_in_cong (λ q. f q && true) f n (λ q l. and-true (f q)) ∙ sym (and-true (some_in set f n))
  some_in_and f false n =
      some_in_cong (λ q. f q && false) (λ q. false) n (λ q l. and-false (f q)) ∙ some_in_none n ∙ sym (and-false (some_in set f n))

  -- m itself
  some_in_eq : (m n : ℕ) → m < n → some_in set (λ q. eqb q m) n ≡ bit_at set m
  some_in_eq m zero h = absurd (omega arith)
  some_in_eq m (suc n) h =
      by_bool (eqb n m)
      (λ t.
      let e = eqb-true n m t in
      let z = some_in_cong (λ q. eqb q m) (λ q. false) n (λ q l. ne_eqb q m (λ r. omega arith)) ∙ some_in_none n in
      rw (z, t) (here (bit_at set n) ∙ ap (bit_at set) e))
      (λ t.
      let ne : n ≡ m → ⊥ = eqb-false n m t in
      rw (some_in_eq m n (omega arith), t) (there (bit_at set n) (bit_at set m)))
    where
      here : (b : Bool) → cond b true false ≡ b
      here true = refl
      here false = refl

      there : (b c : Bool) → (c || cond b false false) ≡ c
      there true c = or-false c
      there false c = or-false c

-- ---- who calls one of a set has a clause that does

calls_some : (set : ℕ) (body : List Call) → callable body ≡ true
    → some_in set (λ q. any (λ s. eqb q s.pred) body) max_predicates ≡ any (λ s. bit_at set s.pred) body
unfolding callable
calls_some set [] t = some_in_none set max_predicates
calls_some set (s ∷ body) t =
    let fits = ltb s.pred max_predicates && all (allows Argument) s.args in
    let l = ltb-true s.pred max_predicates (and_left (ltb s.pred max_predicates) (all (allows Argument) s.args) (and_left fits (callable body) t)) in
    some_in_or set (λ q. eqb q s.pred) (λ q. any (λ s. eqb q s.pred) body) max_predicates
    ∙ ap₂ (λ (a b : Bool). a || b) (some_in_eq set s.pred max_predicates l) (calls_some set body (and_right fits (callable body) t))

touched_some : (rules : List ℕ) (set p n : ℕ) → ((k : ℕ) → k < n → callable (clause_at rules k).body ≡ true)
    → some_in set (λ q. touched (eqb q) (clauses_of rules n) p) max_predicates ≡ touched (bit_at set) (clauses_of rules n) p
unfolding touched own calls clauses_of
touched_some rules set p zero h = some_in_none set max_predicates
touched_some rules set p (suc n) h =
    let cs = clauses_of rules n in
    let c = clause_at rules n in
    let is = eqb c.head.pred p in
    some_in_cong set (λ q. touched (eqb q) (clauses_of rules (suc n)) p) (λ q. touched (eqb q) cs p || (calls (eqb q) c && is)) max_predicates
    (λ q l. touched_snoc cs c p (eqb q))
    ∙ some_in_or set (λ q. touched (eqb q) cs p) (λ q. calls (eqb q) c && is) max_predicates
    ∙ ap₂ (λ (a b : Bool). a || b) (touched_some rules set p n (λ k l. h k (omega arith)))
    (some_in_and set (λ q. calls (eqb q) c) is max_predicates ∙ ap (λ (b : Bool). b && is) (calls_some set c.body (h n (omega arith))))
    ∙ sym (touched_snoc cs c p (bit_at set))

pub calling_touched : (rules : List ℕ) (n : ℕ) (callers : List ℕ) (changed due : ℕ) → Calling rules n callers → Known rules n
    → Holds due (λ p. some_in changed (λ q. bit_at (get_or callers q 0) p) max_predicates) → Holds due (touched (bit_at changed) (clauses_of rules n))
calling_touched rules n callers changed due f known h p =
    h p
    ∙ some_in_cong changed (λ q. bit_at (get_or callers q 0) p) (λ q. touched (eqb q) (clauses_of rules n) p) max_predicates (λ q l. f.each q l p)
    ∙ touched_some rules changed p n known.bodies

-- ---- the clauses of a set are good where the predicate's are

each_in_past : (set : ℕ) (f : ℕ → Bool) (n d : ℕ) → ((k : ℕ) → n ≤ k → bit_at set k ≡ false) → each_in set f (n + d) ≡ each_in set f n
each_in_past set f n zero h = let e : n + 0 ≡ n = omega arith in ap (each_in set f) e
each_in_past set f n (suc d) h =
    let e : n + suc d ≡ suc (n + d) = omega arith in
    ap (each_in set f) e ∙ rw (h (n + d) (omega arith)) (and-true (each_in set f (n + d)) ∙ each_in_past set f n d h)

module _ (rules : List ℕ) (n word p : ℕ) (T : Table) (a : ℕ) where
  own_good_below : Holds word (λ k. ltb k n && eqb (clause_at rules k).head.pred p)
      → (m : ℕ) → m ≤ n → each_in word (λ k. good_clause T (clause_at rules k) a) m ≡ good T (clauses_of rules m) p a
  unfolding good own clauses_of
  own_good_below h zero l = refl
  own_good_below h (suc m) l =
      ap₂ (λ (x y : Bool). x && cond y (good_clause T (clause_at rules m) a) true) (own_good_below h m (omega arith))
      (h m ∙ ap (λ (b : Bool). b && eqb (clause_at rules m).head.pred p) (lt-ltb m n (omega arith)))
      ∙ sym (good_snoc (clauses_of rules m) (clause_at rules m) p T a)

  pub own_good : n ≤ max_clauses → Holds word (λ k. ltb k n && eqb (clause_at rules k).head.pred p)
      → each_in word (λ k. good_clause T (clause_at rules k) a) max_clauses ≡ good T (clauses_of rules n) p a
  own_good l h =
      let e : max_clauses ≡ n + (max_clauses - n) = omega arith in
      ap (each_in word (λ k. good_clause T (clause_at rules k) a)) e
      ∙ each_in_past word (λ k. good_clause T (clause_at rules k) a) n (max_clauses - n)
      (λ k m. h k ∙ ap (λ (b : Bool). b && eqb (clause_at rules k).head.pred p) (le-ltb k n m))
      ∙ own_good_below h n (omega arith)

-- fewer clauses are good where more are
pub each_in_fewer : (set : ℕ) (f : ℕ → Bool) (n d : ℕ) → each_in set f (d + n) ≡ true → each_in set f n ≡ true
each_in_fewer set f n zero t = let e : 0 + n ≡ n = omega arith in ap (each_in set f) (sym e) ∙ t
each_in_fewer set f n (suc d) t =
    let e : suc (d + n) ≡ suc d + n = omega arith in
    each_in_fewer set f n d (and_left (each_in set f (d + n)) (cond (bit_at set (d + n)) (f (d + n)) true) (ap (each_in set f) e ∙ t))
