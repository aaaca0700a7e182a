-- A pass over the subgoals of a clause, and the passes together, in each lane: the loop over the subgoals, whose first j are visited, and the loop
-- over the passes, of which so many are done. Assumes nothing.
use mathlib.Core.Path.{◌≡◌, refl, sym, ap, ap₂, ◌∙◌, subst}
use mathlib.Core.Bool.{Bool, true, false, cond, ◌&&◌, and-true, false≢true}
use mathlib.Core.List.{List}
use Prim.Native.Nat.{ℕ, zero, suc, ◌+◌, ◌≤◌, ◌<◌}
use native.Mathlib.Numerals.{add-one}
use native.Mathlib.Omega.{arith}
use lib.Bits.{bit_and, bit_or}
use lib.Dec.{eqb}
use lib.ListN.{length, get_or, set, replicate, length-set}
use lib.Seq.{get_or-set_same, get_or-set_other}
use borrow.Author.Tests.{eqb-true, eqb-false}
use Rattle.masks.specs.Lists.{all}
use Rattle.masks.specs.Set.{bit_at}
use Rattle.masks.specs.Patterns.{EachLane}
use Rattle.book.specs.Limits.{max_predicates, max_subgoals}
use Rattle.book.specs.Book.{Head, Call, no_call, Clause}
use Rattle.book.specs.Table.{Table}
use Rattle.book.specs.Sets.{callable}
use Rattle.ordering.specs.Orders.{count}
use Rattle.ordering.specs.Turns as turns
use Rattle.ordering.specs.Adorn.{Bound, is_bound, head_bound, ready, after}
use Rattle.ordering.specs.Good.{at, ready_at, after_at, good_from, ran, first_good, is_some, brought, good_clause}
use Rattle.lanes.specs.Lanes.{lane, Binds}
use Rattle.lanes.specs.Passes.{visit, visits, passes, Taken, Placed, RanIn, Passed}
use Rattle.lanes.specs.declared.Pass.{Pass}
use Rattle.masks.proofs.Laws.Logic.{by_bool, clash}
use Rattle.masks.proofs.Laws.Set.{bit_at_zero, bit_at_or}
use Rattle.masks.proofs.Laws.Members.{bit_at_and}
use Rattle.masks.proofs.Laws.Patterns.{ones, bit_at_ones}
use Rattle.book.proofs.Laws.Sets.{callable_low}
use Rattle.ordering.proofs.Laws.Orders.{standing}
use Rattle.ordering.proofs.Laws.Brought.{brought_ran, head_length}
use Rattle.lanes.proofs.Laws.Passes.{visits_suc, good_suc, taken_visit, taken_after, taken_stays, enough, settled, early, all_ran, one_more}

-- ---- a subgoal in its turn: s is the one at place j

pub record Subgoal (body : List Call) (j : ℕ) (s : Call) : Type 0 where
  pub here : j < length body
  pub is : s ≡ at body j
  pub low : s.pred < max_predicates

pub subgoal : {body : List Call} {j : ℕ} {s : Call} → callable body ≡ true → j < length body → s ≡ get_or body j no_call → Subgoal body j s
unfolding at
subgoal {body} {j} t h e =
    record { here = h; is = e; low = subst (λ (c : Call). c.pred < max_predicates) (sym e) (callable_low body j t h) }

-- ---- a pass: the first j subgoals are visited

pub record Visiting (T : Table) (body : List Call) (before : List ℕ) (j : ℕ) (vars placed : List ℕ) (word : ℕ) (moved : Bool) : Type 0 where
  pub most : j ≤ length body
  pub room : length placed ≡ max_subgoals
  pub lanes : EachLane (λ a. lane a vars ≡ visits (ready_at T body) (after_at body) (lane a before) (count 0 j))
  pub good : EachLane (λ a. bit_at word a ≡ good_from T body (lane a before) (count 0 j))
  pub taken : Placed T body vars placed
  pub still : moved ≡ false → vars ≡ before

module _ (T : Table) (body : List Call) (before : List ℕ) where
  pub visiting_start : {placed : List ℕ} → length placed ≡ max_subgoals → Placed T body before placed → Visiting T body before 0 before placed ones false
  unfolding count visits turns.good_from
  visiting_start e p = record { most = omega arith; room = e; lanes = λ a h. refl; good = λ a h. bit_at_ones a h; taken = p; still = λ e. refl }

  module _ {j : ℕ} {vars placed : List ℕ} {word : ℕ} {moved : Bool} (v : Visiting T body before j vars placed word moved) (here : j < length body)
      (few : length body ≤ max_subgoals) where
    -- what comes of the next one, where `now` has the lanes in which it is ready and `to` what is bound then
    visited : {to placed' : List ℕ} (now next : ℕ) {moved' : Bool} → length placed' ≡ max_subgoals
        → EachLane (λ a. bit_at now a ≡ ready_at T body (lane a vars) j) → EachLane (λ a. bit_at next a ≡ (bit_at word a && bit_at now a))
        → EachLane (λ a. lane a to ≡ visit (ready_at T body) (after_at body) (lane a vars) j)
        → Placed T body to placed' → (moved' ≡ false → to ≡ before) → Visiting T body before (j + 1) to placed' next moved'
    visited {to} now next e r g f p m =
        record {
          most = omega arith;
          room = e;
          lanes = λ a l.
              f a l
              ∙ ap (λ (b : Bound). visit (ready_at T body) (after_at body) b j) (v.lanes a l)
              ∙ rw add-one (sym (visits_suc (ready_at T body) (after_at body) (lane a before) j));
          good = λ a l.
              g a l
              ∙ ap₂ (λ (x y : Bool). x && y) (v.good a l) (r a l ∙ ap (λ (b : Bound). ready_at T body b j) (v.lanes a l))
              ∙ rw add-one (sym (good_suc (ready_at T body) (after_at body) (lane a before) j));
          taken = p;
          still = m;
        }

    -- it is taken in every lane
    pub visiting_over : get_or placed j 0 ≡ ones → Visiting T body before (j + 1) vars placed word moved
    visiting_over e =
        let all : EachLane (λ a. Taken T body (lane a vars) j) = λ a l. v.taken j here a l (ap (λ (w : ℕ). bit_at w a) e ∙ bit_at_ones a l) in
        visited ones word v.room (λ a l. bit_at_ones a l ∙ sym (all a l).ready·)
        (λ a l. sym (ap (λ (b : Bool). bit_at word a && b) (bit_at_ones a l) ∙ and-true (bit_at word a)))
        (λ a l. sym (taken_visit T body (lane a vars) j (all a l))) v.taken v.still

    module _ {s : Call} (r : ℕ) (t : Subgoal body j s) (ready· : EachLane (λ a. bit_at r a ≡ ready T (lane a vars) s)) where
      abbrev both : ℕ
      both = bit_or (get_or placed j 0) r

      at_now : EachLane (λ a. bit_at r a ≡ ready_at T body (lane a vars) j)
      at_now a l = ready· a l ∙ ap (ready T (lane a vars)) t.is

      -- where it is taken it is ready
      is_ready : EachLane (λ a. bit_at both a ≡ ready_at T body (lane a vars) j)
      is_ready a l =
          bit_at_or (get_or placed j 0) r a
          ∙ by_bool (bit_at (get_or placed j 0) a) (λ e. rw e (sym (v.taken j here a l e).ready·)) (λ e. rw e (at_now a l))

      met : EachLane (λ a. bit_at (bit_and word both) a ≡ (bit_at word a && bit_at both a))
      met a l = bit_at_and word both a

      -- it is taken where it was
      pub visiting_same : both ≡ get_or placed j 0 → Visiting T body before (j + 1) vars placed (bit_and word both) moved
      visiting_same e =
          visited both (bit_and word both) v.room is_ready met
          (λ a l.
          by_bool (ready_at T body (lane a vars) j)
          (λ q. sym (taken_visit T body (lane a vars) j (v.taken j here a l (ap (λ (w : ℕ). bit_at w a) (sym e) ∙ is_ready a l ∙ q))))
          (λ q. unfold visit in rw q)) v.taken v.still

      -- it is taken in more lanes
      pub visiting_new : {to : List ℕ} → Binds s r vars to → Visiting T body before (j + 1) to (set placed j both) (bit_and word both) true
      unfolding visit
      visiting_new {to} g =
          visited both (bit_and word both) (length-set placed j both ∙ v.room) is_ready met then all (λ e. absurd (false≢true (sym e)))
        where
          then : EachLane (λ a. lane a to ≡ visit (ready_at T body) (after_at body) (lane a vars) j)
          then a l = g.lanes a l ∙ ap₂ (λ (c : Bool) (u : Call). cond c (after (lane a vars) u) (lane a vars)) (at_now a l) t.is

          all : Placed T body to (set placed j both)
          all p h a l q =
              subst (λ (b : Bound). Taken T body b p) (sym (then a l))
              (by_bool (eqb p j)
              (λ e.
              let z = eqb-true p j e in
              subst (λ (i : ℕ). Taken T body (visit (ready_at T body) (after_at body) (lane a vars) j) i) (sym z)
              (taken_after T body (lane a vars) j
              (sym (is_ready a l)
              ∙ ap (λ (w : ℕ). bit_at w a) (sym (get_or-set_same placed j both 0 (let n = v.room in omega arith)))
              ∙ ap (λ (i : ℕ). bit_at (get_or (set placed j both) i 0) a) (sym z) ∙ q)))
              (λ e.
              taken_stays T body (lane a vars) p j
              (v.taken p h a l (ap (λ (w : ℕ). bit_at w a) (sym (get_or-set_other placed j p both 0 (eqb-false p j e))) ∙ q))))

-- ---- the passes: of the k that are counted one is still to come

pub record Passing (T : Table) (body : List Call) (start : List ℕ) (k : ℕ) (vars placed : List ℕ) : Type 0 where
  pub taken : Placed T body vars placed
  pub done : ℕ
  pub next : k ≡ done + 1
  pub lanes : EachLane (λ a. lane a vars ≡ passes (ready_at T body) (after_at body) (length body) done (lane a start))

module _ (T : Table) (body : List Call) (start : List ℕ) where
  pub passing_start : (n : ℕ) {k : ℕ} → k ≡ 1 → Passing T body start k start (replicate n 0)
  unfolding passes
  passing_start n e = record {
    taken = λ p h a l q. clash q (ap (λ (w : ℕ). bit_at w a) (zeros n p) ∙ bit_at_zero a);
    done = 0;
    next = e;
    lanes = λ a l. refl;
  }
    where
      zeros : (n p : ℕ) → ◌≡◌ {A = ℕ} (get_or (replicate n 0) p 0) 0
      zeros zero p = refl
      zeros (suc n) zero = refl
      zeros (suc n) (suc p) = zeros n p

  module _ {k : ℕ} {vars placed to : List ℕ} {r : Pass} (d : Passed T body vars to r) (g : Passing T body start k vars placed) where
    abbrev n : ℕ
    n = length body

    -- what is bound in lane a before this pass
    abbrev now : ℕ → Bound
    now a = passes (ready_at T body) (after_at body) n g.done (lane a start)

    pub passing_next : {placed' : List ℕ} → Placed T body to placed' → Passing T body start (k + 1) to placed'
    passing_next p =
        let e = g.next in
        record {
          taken = p;
          done = suc g.done;
          next = omega arith;
          lanes = λ a l.
              d.lanes a l
              ∙ ap (λ (b : Bound). visits (ready_at T body) (after_at body) b (count 0 n)) (g.lanes a l)
              ∙ one_more T body n g.done (lane a start);
        }

    good_now : EachLane (λ a. bit_at r.good a ≡ good_from T body (now a) (count 0 n))
    good_now a l = d.good a l ∙ ap (λ (b : Bound). good_from T body b (count 0 n)) (g.lanes a l)

    -- every lane is good
    pub passing_good : r.good ≡ ones → EachLane (λ a. bit_at r.good a ≡ is_some (first_good T body (lane a start)))
    passing_good e a l =
        let t = ap (λ (w : ℕ). bit_at w a) e ∙ bit_at_ones a l in
        t ∙ sym (early T body n g.done (lane a start) (sym (good_now a l) ∙ t))

    -- nothing was taken
    pub passing_still : r.moved ≡ false → EachLane (λ a. bit_at r.good a ≡ is_some (first_good T body (lane a start)))
    passing_still m a l =
        good_now a l
        ∙ settled T body n g.done (lane a start)
        (subst (λ (b : Bound). visits (ready_at T body) (after_at body) b (count 0 n) ≡ b) (g.lanes a l)
        (sym (d.lanes a l) ∙ ap (lane a) (d.still m)))

    -- there were as many passes as there are subgoals
    pub passing_end : n ≤ k → EachLane (λ a. bit_at r.good a ≡ is_some (first_good T body (lane a start)))
    passing_end h a l = let e = g.next in good_now a l ∙ enough T body n g.done (lane a start) (omega arith)

    -- where each subgoal was ready, all have run
    pub passing_ran : EachLane (λ a. bit_at r.good a ≡ true → RanIn a body start to)
    passing_ran a l t =
        d.lanes a l
        ∙ ap (λ (b : Bound). visits (ready_at T body) (after_at body) b (count 0 n)) (g.lanes a l)
        ∙ all_ran T body n g.done (lane a start) (sym (good_now a l) ∙ t)

-- ---- a clause: its body from what its head binds, and its head when the body has run

pub clause_good : (T : Table) (c : Clause) (head : Head) (start vars : List ℕ) (good filled : ℕ) → head ≡ c.head
    → EachLane (λ a. lane a start ≡ head_bound head.args a) → EachLane (λ a. bit_at good a ≡ is_some (first_good T c.body (lane a start)))
    → EachLane (λ a. bit_at good a ≡ true → RanIn a c.body start vars) → EachLane (λ a. bit_at filled a ≡ all (is_bound (lane a vars)) head.args)
    → EachLane (λ a. bit_at (bit_and good filled) a ≡ good_clause T c a)
unfolding good_clause
clause_good T c head start vars good filled e f g ran· h a l =
    bit_at_and good filled a
    ∙ by_bool (bit_at good a)
    (λ t.
    ap₂ (λ (x y : Bool). x && y) found
    (h a l
    ∙ ap₂ (λ (b : Bound) (u : Head). all (is_bound b) u.args) (ran· a l t ∙ ap (λ (b : Bound). ran c.body b (count 0 (length c.body))) from) e
    ∙ sym (brought_ran c (head_bound c.head.args a) (count 0 (length c.body)) (head_length c.head.args a) (standing (length c.body)))))
    (λ t.
    ap (λ (x : Bool). x && bit_at filled a) t
    ∙ sym (ap (λ (x : Bool). x && brought c (head_bound c.head.args a)) (sym found ∙ t)))
  where
    from : lane a start ≡ head_bound c.head.args a
    from = f a l ∙ ap (λ (u : Head). head_bound u.args a) e

    found : bit_at good a ≡ is_some (first_good T c.body (head_bound c.head.args a))
    found = g a l ∙ ap (λ (b : Bound). is_some (first_good T c.body b)) from
