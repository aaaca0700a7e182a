-- The work list. What is marked is reached; a pattern that is gone over has its calls marked; and a predicate with a marked pattern that is not gone
-- over has work. So with no work left the marks are closed, and all that is reached is marked. Assumes nothing.
use mathlib.Core.Path.{◌≡◌, refl, sym, ap, ◌∙◌, subst}
use mathlib.Core.Bool.{Bool, true, false, cond, ◌&&◌, ◌||◌, and-true}
use mathlib.Core.List.{List, []}
use Prim.Native.Nat.{ℕ, ◌+◌, ◌-◌, ◌*◌, ◌^◌, ◌≤◌, ◌<◌}
use native.Mathlib.Omega.{arith}
use lib.Bits.{bit_and, bit_or, bit_xor, or_lt, or_zero_r}
use lib.Count.{count_trailing_zeros}
use lib.Dec.{eqb, ltb}
use lib.ListN.{length, get_or, set, replicate, length-set, length-replicate, get_or-eq_default}
use lib.Seq.{get_or-set_same, get_or-set_other, set-get_or}
use borrow.Author.Tests.{eqb-true, eqb-false, eq-eqb, ltb-true, lt-ltb}
use Rattle.masks.specs.Limits.{all_patterns}
use Rattle.masks.specs.Lists.{any, joined}
use Rattle.masks.specs.Set.{bit_at}
use Rattle.book.specs.Limits.{max_predicates, max_clauses}
use Rattle.book.specs.Book.{Call, Clause, no_clause, Book}
use Rattle.book.specs.Held.{clause_at, clauses_of}
use Rattle.book.specs.Table.{Table}
use Rattle.book.specs.Sets.{Cleared, Owns, Known, Callable}
use Rattle.ordering.specs.Adorn.{nothing, head_bound}
use Rattle.ordering.specs.Asks.{Asked, called}
use Rattle.choices.specs.Choice.{clause, query_calls, clause_calls, Reaches, by_query, by_clause}
use Rattle.reach.specs.Marked.{marked_at, Marked, calls_by, clause_by, clauses_by, patterns_by, taken, ReachedIn}
use Rattle.masks.proofs.Laws.Logic.{by_bool, by_range, clash, false_of, and_intro, and_left, and_right, or_left, or_right, or_case}
use Rattle.masks.proofs.Laws.Lists.{any_joined, joined_any}
use Rattle.masks.proofs.Laws.Set.{bit_at_zero, bit_at_or}
use Rattle.masks.proofs.Laws.Members.{lowest, others, others_less}
use Rattle.masks.proofs.Laws.Patterns.{member_below}
use Rattle.book.proofs.Laws.Sets.{cleared_zeros}
use Rattle.ordering.proofs.Laws.Asks.{called_pred}
use Rattle.masks.proofs.Laws.Words.{Within, no_members, in_new, new_in, new_none, new_some}
use Rattle.needs.proofs.Laws.Settling.{clauses_count, clause_is}
use Rattle.choices.proofs.Laws.Reached.{closed_reaches}
use Rattle.reach.proofs.Laws.Space.{space, space_less}

-- ---- the calls of the members of a set

module _ (p : Asked → Bool) (set : ℕ) (f : ℕ → List Asked) (n : ℕ) where
  any_some : any p (joined (λ k. cond (bit_at set k) (f k) []) n) ≡ true → (k : ℕ) × (bit_at set k ≡ true) × (any p (f k) ≡ true)
  any_some e =
      let r = joined_any p (λ k. cond (bit_at set k) (f k) []) n e in
      let s = go r.0 (bit_at set r.0) refl r.2 in
      (r.0, s.0, s.1)
    where
      go : (k : ℕ) (b : Bool) → bit_at set k ≡ b → any p (cond b (f k) []) ≡ true → (bit_at set k ≡ true) × (any p (f k) ≡ true)
      go k true t e = (t, e)
      go k false t e = clash e refl

  some_any : (k : ℕ) → k < n → bit_at set k ≡ true → any p (f k) ≡ true → any p (joined (λ k. cond (bit_at set k) (f k) []) n) ≡ true
  some_any k h t e = any_joined p (λ k. cond (bit_at set k) (f k) []) n k h (rw t e)

-- ---- a book that has the clauses and the query of the array

abbrev query_by : List ℕ → Table → List Asked
query_by rules T = calls_by T (clause_at rules max_clauses).body nothing

pub book_clause : (B : Book) (rules : List ℕ) (n : ℕ) → B.clauses ≡ clauses_of rules n → (k : ℕ) → k < n → clause B k ≡ clause_at rules k
unfolding clause
book_clause B rules n e = clause_is B rules n e no_clause

module _ (rules : List ℕ) (T : Table) (n : ℕ) (B : Book) (e : B.clauses ≡ clauses_of rules n) (f : B.query ≡ (clause_at rules max_clauses).body) where
  book_query : query_calls B (taken T B) ≡ query_by rules T
  unfolding query_calls taken calls_by
  book_query = ap (λ (body : List Call). calls_by T body nothing) f

  book_calls : (k a : ℕ) → k < n → clause_calls B (taken T B) k a ≡ clause_by rules T k a
  unfolding clause_calls taken calls_by
  book_calls k a h = ap (λ (c : Clause). calls_by T c.body (head_bound c.head.args a)) (book_clause B rules n e k h)

-- ---- the calls of clauses under patterns

module _ (p : Asked → Bool) (rules : List ℕ) (T : Table) (own patterns : ℕ) where
  any_calls : any p (patterns_by rules T own patterns) ≡ true
      → (a : ℕ) × (k : ℕ) × (bit_at patterns a ≡ true) × (bit_at own k ≡ true) × (any p (clause_by rules T k a) ≡ true)
  unfolding patterns_by clauses_by
  any_calls e =
      let r = any_some p patterns (clauses_by rules T own) all_patterns e in
      let s = any_some p own (λ k. clause_by rules T k r.0) max_clauses r.2 in
      (r.0, s.0, r.1, s.1, s.2)

  calls_any : (a k : ℕ) → a < all_patterns → k < max_clauses → bit_at patterns a ≡ true → bit_at own k ≡ true → any p (clause_by rules T k a) ≡ true
      → any p (patterns_by rules T own patterns) ≡ true
  unfolding patterns_by clauses_by
  calls_any a k h l t u e =
      some_any p patterns (clauses_by rules T own) all_patterns a h t (some_any p own (λ k. clause_by rules T k a) max_clauses k l u e)

-- no pattern, no call
calls_none : (rules : List ℕ) (T : Table) (own patterns : ℕ) {before after : List ℕ} {names : ℕ} → patterns ≡ 0
    → Marked before after names (patterns_by rules T own patterns) → names ≡ 0
calls_none rules T own patterns {names = names} z m =
    no_members names
    (λ q.
    m.names· q
    ∙ false_of
    (λ t.
    let r = any_calls (λ (x : Asked). eqb x.pred q) rules T own patterns t in
    clash r.2 (ap (λ (w : ℕ). bit_at w r.0) z ∙ bit_at_zero r.0)))

-- ---- a predicate's own clauses

module _ (rules : List ℕ) (n : ℕ) (own : List ℕ) (o : Owns rules n own) (p : ℕ) (l : p < max_predicates) where
  own_clause : (k : ℕ) → bit_at (get_or own p 0) k ≡ true → (k < n) × ((clause_at rules k).head.pred ≡ p)
  own_clause k t =
      let u = sym (o p l k) ∙ t in (
        ltb-true k n (and_left (ltb k n) (eqb (clause_at rules k).head.pred p) u),
        eqb-true (clause_at rules k).head.pred p (and_right (ltb k n) (eqb (clause_at rules k).head.pred p) u),
      )

  clause_own : (k : ℕ) → k < n → (clause_at rules k).head.pred ≡ p → bit_at (get_or own p 0) k ≡ true
  clause_own k h e = o p l k ∙ and_intro (lt-ltb k n h) (eq-eqb (clause_at rules k).head.pred p e)

  pub own_callable : Known rules n → Callable rules (get_or own p 0)
  own_callable known k h t = known.bodies k (own_clause k t).0

-- ---- the loop

-- nothing is marked
module _ (words : List ℕ) (e : length words ≡ max_predicates) (c : Cleared words) where
  marked_none : (q b : ℕ) → marked_at words q b ≡ false
  marked_none q b =
      ap (λ (w : ℕ). bit_at w b) (by_range q max_predicates (c q) (λ h. get_or-eq_default words 0 {n = q} (omega arith))) ∙ bit_at_zero b

gone_none : (q b : ℕ) → marked_at (replicate max_predicates 0) q b ≡ false
gone_none = marked_none (replicate max_predicates 0) (length-replicate {A = ℕ} max_predicates 0) cleared_zeros

pub record Working (rules : List ℕ) (T : Table) (n : ℕ) (reached gone : List ℕ) (work : ℕ) : Type 0 where
  pub small : work < 2 ^ max_predicates
  pub size : length gone ≡ max_predicates
  pub reaches : (B : Book) → B.clauses ≡ clauses_of rules n → B.query ≡ (clause_at rules max_clauses).body
      → (q b : ℕ) → marked_at reached q b ≡ true → Reaches B (taken T B) q b
  pub query· : (q b : ℕ) → called q b (query_by rules T) ≡ true → marked_at reached q b ≡ true
  pub clauses· : (k a q b : ℕ) → k < n → marked_at gone (clause_at rules k).head.pred a ≡ true → called q b (clause_by rules T k a) ≡ true
      → marked_at reached q b ≡ true
  pub within : (p : ℕ) → Within (get_or gone p 0) (get_or reached p 0)
  pub left : (p a : ℕ) → marked_at reached p a ≡ true → marked_at gone p a ≡ false → bit_at work p ≡ true

-- the query's calls are marked, and nothing is gone over
pub working_start : {rules : List ℕ} {T : Table} {n : ℕ} {before reached : List ℕ} {names : ℕ} → names < 2 ^ max_predicates
    → length before ≡ max_predicates → Cleared before → Marked before reached names (query_by rules T)
    → Working rules T n reached (replicate max_predicates 0) names
working_start {rules} {T} {n} {before} {reached} {names} s z c m = record {
  small = s;
  size = length-replicate {A = ℕ} max_predicates 0;
  reaches = λ B e f q b t. by_query (ap (called q b) (book_query rules T n B e f) ∙ sym (is q b) ∙ t);
  query· = λ q b t. is q b ∙ t;
  clauses· = λ k a q b h t u. clash t (gone_none (clause_at rules k).head.pred a);
  within = λ p a t. clash t (gone_none p a);
  left = λ p a t u. m.names· p ∙ called_pred p a (query_by rules T) (sym (is p a) ∙ t);
}
  where
    is : (q b : ℕ) → marked_at reached q b ≡ called q b (query_by rules T)
    is q b = m.marks q b ∙ ap (λ (x : Bool). x || called q b (query_by rules T)) (marked_none before z c q b)

-- a turn for predicate p: `all` are its marks, and the calls under those that are new are marked
pub record Step (rules : List ℕ) (T : Table) (n : ℕ) (own reached gone : List ℕ) (p all : ℕ) (after : List ℕ) (names : ℕ) : Type 0 where
  pub owns : Owns rules n own
  pub few : n ≤ max_clauses
  pub is : all ≡ get_or reached p 0
  pub small : all < 2 ^ all_patterns
  pub called· : names < 2 ^ max_predicates
  pub marked : Marked reached after names (patterns_by rules T (get_or own p 0) (bit_xor all (get_or gone p 0)))

module _ {rules : List ℕ} {T : Table} {n : ℕ} {reached gone : List ℕ} {work : ℕ} (w : Working rules T n reached gone work) where
  -- with no work left
  module _ (z : work ≡ 0) (B : Book) (e : B.clauses ≡ clauses_of rules n) (f : B.query ≡ (clause_at rules max_clauses).body) where
    -- a mark is gone over
    closed : (p a : ℕ) → marked_at reached p a ≡ true → marked_at gone p a ≡ true
    closed p a t = by_bool (marked_at gone p a) (λ u. u) (λ u. clash (w.left p a t u) (ap (λ (x : ℕ). bit_at x p) z ∙ bit_at_zero p))

    -- so the marks are closed
    reached_marked : (q b : ℕ) → Reaches B (taken T B) q b → marked_at reached q b ≡ true
    reached_marked q b r =
        closed_reaches B (taken T B) (marked_at reached)
        (λ q b t. w.query· q b (ap (called q b) (sym (book_query rules T n B e f)) ∙ t))
        (λ k a q b h t u.
        let l : k < n = let s = clauses_count B rules n e in omega arith in
        let c = book_clause B rules n e k l in
        w.clauses· k a q b l (closed (clause_at rules k).head.pred a (ap (λ (d : Clause). marked_at reached d.head.pred a) (sym c) ∙ t))
        (ap (called q b) (sym (book_calls rules T n B e f k a l)) ∙ u))
        r

  pub working_end : work ≡ 0 → ReachedIn rules n T reached
  working_end z B e f p a = (w.reaches B e f p a, reached_marked z B e f p a)

  -- else the lowest predicate that has some has its turn
  module _ (z : work ≡ 0 → ⊥) where
    abbrev p : ℕ
    p = count_trailing_zeros max_predicates work

    pub working_low : p < max_predicates
    working_low = (lowest max_predicates work w.small z).small

    module _ {own : List ℕ} {all : ℕ} {after : List ℕ} {names : ℕ} (t : Step rules T n own reached gone p all after names) where
      abbrev new : ℕ
      new = bit_xor all (get_or gone p 0)

      abbrev calls : List Asked
      calls = patterns_by rules T (get_or own p 0) new

      abbrev next : List ℕ
      next = set gone p all

      abbrev more : ℕ
      more = bit_or (bit_and work (work - 1)) names

      grown : Within (get_or gone p 0) all
      grown j u = ap (λ (x : ℕ). bit_at x j) t.is ∙ w.within p j u

      -- a mark stays, and a call is marked
      kept : (q b : ℕ) → marked_at reached q b ≡ true → marked_at after q b ≡ true
      kept q b u = t.marked.marks q b ∙ or_left (marked_at reached q b) (called q b calls) u

      added : (q b : ℕ) → called q b calls ≡ true → marked_at after q b ≡ true
      added q b u = t.marked.marks q b ∙ or_right (marked_at reached q b) u

      -- by which of the two a mark came
      origin : {P : Type 0} (q b : ℕ) → marked_at after q b ≡ true → (marked_at reached q b ≡ true → P) → (called q b calls ≡ true → P) → P
      origin q b u = or_case (marked_at reached q b) (called q b calls) (sym (t.marked.marks q b) ∙ u)

      -- gone over: all of p, and of the others what was
      here : (q b : ℕ) → q ≡ p → marked_at next q b ≡ marked_at reached q b
      here q b u =
          let l = working_low in
          let s = w.size in
          ap (λ (i : ℕ). marked_at next i b) u
          ∙ ap (λ (x : ℕ). bit_at x b) (get_or-set_same gone p all 0 (omega arith) ∙ t.is) ∙ ap (λ (i : ℕ). marked_at reached i b) (sym u)

      there : (q b : ℕ) → (q ≡ p → ⊥) → marked_at next q b ≡ marked_at gone q b
      there q b u = ap (λ (x : ℕ). bit_at x b) (get_or-set_other gone p q all 0 u)

      -- a call is reached
      made : (B : Book) → B.clauses ≡ clauses_of rules n → B.query ≡ (clause_at rules max_clauses).body
          → (q b : ℕ) → called q b calls ≡ true → Reaches B (taken T B) q b
      made B e f q b u =
          let r = any_calls (λ (x : Asked). eqb x.pred q && eqb x.pattern b) rules T (get_or own p 0) new u in
          let a = r.0 in
          let k = r.1 in
          let c = own_clause rules n own t.owns p working_low k r.3 in
          let l = c.0 in
          let s = clauses_count B rules n e in
          by_clause {a = a} k (omega arith)
          (subst (λ (i : ℕ). Reaches B (taken T B) i a)
          (sym (ap (λ (d : Clause). d.head.pred) (book_clause B rules n e k l) ∙ c.1))
          (w.reaches B e f p a (ap (λ (x : ℕ). bit_at x a) (sym t.is) ∙ new_in all (get_or gone p 0) grown a r.2)))
          (ap (called q b) (book_calls rules T n B e f k a l) ∙ r.4)

      -- a clause under a pattern that is gone over: its calls are marked
      over : (k a q b : ℕ) → k < n → marked_at next (clause_at rules k).head.pred a ≡ true → called q b (clause_by rules T k a) ≡ true
          → marked_at after q b ≡ true
      over k a q b l u v =
          let i = (clause_at rules k).head.pred in
          let m = t.few in
          by_bool (eqb i p)
          (λ s.
          let d = eqb-true i p s in
          let j : bit_at all a ≡ true =
          ap (λ (x : ℕ). bit_at x a) t.is ∙ ap (λ (r : ℕ). marked_at reached r a) (sym d) ∙ sym (here i a d) ∙ u in
          by_bool (marked_at gone p a) (λ g. kept q b (w.clauses· k a q b l (ap (λ (r : ℕ). marked_at gone r a) d ∙ g) v))
          (λ g.
          added q b
          (calls_any (λ (x : Asked). eqb x.pred q && eqb x.pattern b) rules T (get_or own p 0) new a k
          (member_below all_patterns all a t.small j) (omega arith) (in_new all (get_or gone p 0) a j g)
          (clause_own rules n own t.owns p working_low k l d) v)))
          (λ s. kept q b (w.clauses· k a q b l (sym (there i a (eqb-false i p s)) ∙ u) v))

      -- a predicate that is not p keeps its work
      waits : (q b : ℕ) → marked_at reached q b ≡ true → marked_at next q b ≡ false → bit_at (bit_and work (work - 1)) q ≡ true
      waits q b u v =
          others max_predicates work q w.small z
          ∙ by_bool (eqb q p) (λ s. clash (here q b (eqb-true q p s) ∙ u) v)
          (λ s. rw s (and-true (bit_at work q) ∙ w.left q b u (sym (there q b (eqb-false q p s)) ∙ v)))

      more_small : more < 2 ^ max_predicates
      more_small =
          let l = others_less work z in
          let s = w.small in
          or_lt max_predicates (bit_and work (work - 1)) names (omega arith) t.called·

      pub working_next : Working rules T n after (set gone p all) (bit_or (bit_and work (work - 1)) names)
      working_next = record {
        small = more_small;
        size = length-set gone p all ∙ w.size;
        reaches = λ B e f q b u. origin q b u (w.reaches B e f q b) (made B e f q b);
        query· = λ q b u. kept q b (w.query· q b u);
        clauses· = over;
        within = λ q b u.
            kept q b
            (by_bool (eqb q p) (λ s. sym (here q b (eqb-true q p s)) ∙ u) (λ s. w.within q b (sym (there q b (eqb-false q p s)) ∙ u)));
        left = λ q b u v.
            bit_at_or (bit_and work (work - 1)) names q
            ∙ origin q b u (λ x. or_left (bit_at (bit_and work (work - 1)) q) (bit_at names q) (waits q b x v))
            (λ x. or_right (bit_at (bit_and work (work - 1)) q) (t.marked.names· q ∙ called_pred q b calls x));
      }

      -- either no pattern is new, no call is made and p has no work any more; or what is gone over grows
      pub working_less : space (set gone p all) * 2 ^ all_patterns + bit_or (bit_and work (work - 1)) names < space gone * 2 ^ all_patterns + work
      working_less =
          by_bool (eqb new 0)
          (λ s.
          let i = eqb-true new 0 s in
          let same = ap space (ap (set gone p) (new_none all (get_or gone p 0) i) ∙ set-get_or gone p 0) in
          let fewer =
          ap (bit_or (bit_and work (work - 1))) (calls_none rules T (get_or own p 0) new i t.marked) ∙ or_zero_r (bit_and work (work - 1)) in
          let l = others_less work z in
          omega arith)
          (λ s.
          let c = w.size in
          let l = working_low in
          let d = space_less gone p all (omega arith) (new_some all (get_or gone p 0) grown (eqb-false new 0 s)) t.small in
          let m = more_small in
          omega arith)
