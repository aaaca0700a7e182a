-- A round, predicate by predicate: those due get the patterns that they had and under which their clauses are good, the others keep what they have, and
-- those marked are the ones that have others than before. Since a table only loses patterns, from those of the MO on, and the others would get what they
-- have, that is a step.
-- Assumes nothing.
use mathlib.Core.Path.{◌≡◌, refl, sym, ap, ap₂, ◌∙◌, subst}
use mathlib.Core.Bool.{Bool, true, false, ◌&&◌, ◌||◌, or-false}
use mathlib.Core.List.{List}
use Prim.Native.Nat.{ℕ, suc, ◌+◌, ◌^◌, ◌≤◌, ◌<◌}
use native.Mathlib.Omega.{arith}
use lib.Bits.{bit_or, bit_xor, and_le_l, and_le_r, or_add_and, xor_self}
use lib.Dec.{eqb, ltb}
use lib.ListN.{length, get_or, set, length-set}
use lib.Seq.{get_or-set_same, get_or-set_other}
use borrow.Author.Tests.{eqb-true, eqb-false, ltb-true, leb-true}
use Rattle.masks.specs.Set.{bit_at}
use Rattle.masks.specs.Constraint.{admits}
use Rattle.masks.specs.Patterns.{EachLane}
use Rattle.masks.proofs.Laws.Logic.{by_bool, clash, same, and_left, and_right, and_intro, or_case}
use Rattle.masks.proofs.Laws.Set.{bit_at_zero, bit_at_more}
use Rattle.masks.proofs.Laws.Words.{new_none}
use Rattle.book.specs.Limits.{max_predicates, max_clauses}
use Rattle.book.specs.Book.{Clause, Book}
use Rattle.book.specs.Held.{clause_at}
use Rattle.book.specs.Table.{entry, table_in, Admitted}
use Rattle.book.specs.Sets.{callable, Callable}
use Rattle.book.proofs.Laws.Held.{clauses_of_at}
use Rattle.book.proofs.Laws.Table.{table_in_at}
use Rattle.tables.specs.Table.{good, step}
use Rattle.tables.proofs.Laws.Valid.{defined_known, bodies_known, clause_callable}
use Rattle.tables.proofs.Laws.Round.{gets_good, good_gets, good_cut}
use Rattle.tables.proofs.Laws.Full.{step_full}
use Rattle.needs.specs.Round.{all_good, Stays, Given, Due, Stepped, AllSame, Compares}
use Rattle.needs.proofs.Laws.Calls.{own_good}

-- ---- what a book in the arrays gives

module _ (B : Book) (rules own· : List ℕ) (g : Given B rules own·) where
  pub few_predicates_lem : length B.arities ≤ max_predicates
  few_predicates_lem = leb-true (length B.arities) max_predicates g.well.few_predicates

  few_clauses_lem : length B.clauses ≤ max_clauses
  few_clauses_lem = leb-true (length B.clauses) max_clauses g.well.few_clauses

  pub given_callable : (p : ℕ) → p < max_predicates → Callable rules (get_or own· p 0)
  given_callable p h k l e =
      let n = length B.clauses in
      let m = ltb-true k n (and_left (ltb k n) (eqb (clause_at rules k).head.pred p) (sym (g.owns p h k) ∙ e)) in
      let c = clause_at rules k in
      let q : get_or B.clauses k c ≡ clause_at rules k = ap (λ (cs : List Clause). get_or cs k c) (sym g.clauses·) ∙ clauses_of_at rules c n k m in
      subst (λ (d : Clause). callable d.body ≡ true) q (clause_callable B g.well c k m)

  -- the clauses of a predicate are good where its patterns are
  all_good_lem : (table : List ℕ) (p a : ℕ) → p < max_predicates → all_good rules (get_or own· p 0) table a ≡ good (table_in table (length B.arities)) B.clauses p a
  all_good_lem table p a h =
      own_good rules (length B.clauses) (get_or own· p 0) p (table_in table max_predicates) a few_clauses_lem (g.owns p h)
      ∙ ap (λ (cs : List Clause). good (table_in table max_predicates) cs p a) g.clauses·
      ∙ good_cut table (length B.arities) max_predicates few_predicates_lem B.clauses (bodies_known B g.well) p a

  -- so what stays of the patterns that it had is what the step gives it, since the tables fall and lie inside the MO
  pub good_stepped : (table old : List ℕ) {due : ℕ} → Admitted table old → Due B (table_in table (length B.arities)) due → (p : ℕ) → bit_at due p ≡ true
      → (word : ℕ) → EachLane (λ a. bit_at word a ≡ (bit_at (get_or old p 0) a && all_good rules (get_or own· p 0) table a))
      → EachLane (λ a. bit_at word a ≡ admits (entry (step B (table_in table (length B.arities))) p) a)
  good_stepped table old t d p e word f a l =
      let n = length B.arities in
      let T = table_in table n in
      let h = defined_known B g.well p (d.defined· p e) in
      let few = few_predicates_lem in
      let m : p < max_predicates = omega arith in
      let now = step_full B g.well T p h (d.defined· p e) a in
      let ok = good T B.clauses p a in
      f a l
      ∙ ap₂ (λ (x y : Bool). x && y) (t p m a l ∙ ap (λ (c : List ℕ). admits c a) (sym (table_in_at table n p h))) (all_good_lem table p a m)
      ∙ same (admits (entry T p) a && ok) (admits (entry (step B T) p) a)
      (λ q. now ∙ good_gets B T p a (d.inside p a (and_left (admits (entry T p) a) ok q)) (and_right (admits (entry T p) a) ok q))
      (λ q. and_intro (d.falls p a q) (gets_good B T p a (sym now ∙ q)).1)

-- ---- the loop over the predicates due: those below n are done

module _ (rules own· table old : List ℕ) (due : ℕ) where
  -- what p has where it is due
  abbrev Gets : ℕ → ℕ → Type 0
  Gets p word = EachLane (λ a. bit_at word a ≡ (bit_at (get_or old p 0) a && all_good rules (get_or own· p 0) table a))

  -- the same patterns
  abbrev Alike : ℕ → ℕ → Type 0
  Alike x y = EachLane (λ a. bit_at x a ≡ bit_at y a)

  pub record Rounding (new : List ℕ) (changed n : ℕ) : Type 0 where
    pub size : length new ≡ max_predicates
    pub done : (p : ℕ) → p < n → bit_at due p ≡ true → Gets p (get_or new p 0)
    pub kept : (p : ℕ) → (bit_at due p ≡ true → n ≤ p) → get_or new p 0 ≡ get_or old p 0
    pub unmarked : (p : ℕ) → bit_at changed p ≡ false → get_or new p 0 ≡ get_or old p 0
    pub marked : (p : ℕ) → bit_at changed p ≡ true → (bit_at due p ≡ true) × (Alike (get_or new p 0) (get_or old p 0) → ⊥)

  pub rounding_start : length old ≡ max_predicates → Rounding old 0 0
  rounding_start e =
      record {
        size = e;
        done = λ p h. absurd (omega arith);
        kept = λ p h. refl;
        unmarked = λ p h. refl;
        marked = λ p t. clash t (bit_at_zero p);
      }

  module _ (new : List ℕ) (changed n : ℕ) where
    -- n is not due
    pub rounding_skip : bit_at due n ≡ false → Rounding new changed n → Rounding new changed (suc n)
    rounding_skip e r =
        record {
          size = r.size;
          done = λ p h d. by_bool (eqb p n) (λ t. clash d (ap (bit_at due) (eqb-true p n t) ∙ e)) (λ t. let ne = eqb-false p n t in r.done p (omega arith) d);
          kept = λ p h. r.kept p (λ d. let l = h d in omega arith);
          unmarked = r.unmarked;
          marked = r.marked;
        }

    module _ (good : ℕ) (e : bit_at due n ≡ true) (h : Stays rules (get_or own· n 0) table (get_or old n 0) good) (r : Rounding new changed n) where
      g : Gets n good
      g = h.lanes

      -- it has what it had
      pub rounding_same : good ≡ get_or old n 0 → Rounding new changed (suc n)
      rounding_same q =
          record {
            size = r.size;
            done = λ p h d.
                by_bool (eqb p n)
                (λ t.
                let z = eqb-true p n t in
                subst (λ (i : ℕ). Gets i (get_or new i 0)) (sym z) (subst (Gets n) (q ∙ sym (r.kept n (λ d. omega arith))) g))
                (λ t. let ne = eqb-false p n t in r.done p (omega arith) d);
            kept = λ p h. r.kept p (λ d. let l = h d in omega arith);
            unmarked = r.unmarked;
            marked = r.marked;
          }

      -- it has others, which are stored, and is marked
      pub rounding_new : n < max_predicates → (good ≡ get_or old n 0 → ⊥) → Rounding (set new n good) (bit_or changed (2 ^ n)) (suc n)
      rounding_new l other =
          let s = r.size in
          let here = get_or-set_same new n good 0 (omega arith) in
          record {
            size = length-set new n good ∙ s;
            done = λ p h d.
                by_bool (eqb p n)
                (λ t. let z = eqb-true p n t in subst (λ (i : ℕ). Gets i (get_or (set new n good) i 0)) (sym z) (subst (Gets n) (sym here) g))
                (λ t.
                let ne = eqb-false p n t in
                subst (Gets p) (sym (get_or-set_other new n p good 0 ne)) (r.done p (omega arith) d));
            kept = λ p h.
                get_or-set_other new n p good 0 (λ z. let k = h (ap (bit_at due) z ∙ e) in omega arith) ∙ r.kept p (λ d. let k = h d in omega arith);
            unmarked = λ p q.
                let parts = sym (bit_at_more changed n p) ∙ q in
                by_bool (eqb n p) (λ t. clash (rw t (or_true' (bit_at changed p))) parts)
                (λ t.
                get_or-set_other new n p good 0 (λ z. eqb-false n p t (sym z))
                ∙ r.unmarked p (sym (or-false (bit_at changed p)) ∙ ap (λ (b : Bool). bit_at changed p || b) (sym t) ∙ parts));
            marked = λ p q.
                or_case (bit_at changed p) (eqb n p) (sym (bit_at_more changed n p) ∙ q)
                (λ t.
                by_bool (eqb n p) (λ z. own p (eqb-true n p z))
                (λ z.
                let m = r.marked p t in
                (m.0, λ i. m.1 (subst (λ (word : ℕ). Alike word (get_or old p 0)) (get_or-set_other new n p good 0 (λ j. eqb-false n p z (sym j))) i))))
                (λ z. own p (eqb-true n p z));
          }
        where
          or_true' : (b : Bool) → (b || true) ≡ true
          or_true' true = refl
          or_true' false = refl

          own : (p : ℕ) → n ≡ p → (bit_at due p ≡ true) × (Alike (get_or (set new n good) p 0) (get_or old p 0) → ⊥)
          own p z =
              let s = r.size in (
                ap (bit_at due) (sym z) ∙ e,
                λ q.
                    other (h.whole
                    (subst (λ (word : ℕ). Alike word (get_or old n 0)) (get_or-set_same new n good 0 (omega arith))
                    (subst (λ (i : ℕ). Alike (get_or (set new n good) i 0) (get_or old i 0)) (sym z) q))),
              )

  -- ---- the end: what a round made is a step

  module _ (B : Book) (g : Given B rules own·) (t : Admitted table old) (d : Due B (table_in table (length B.arities)) due) where
    stepped : {new : List ℕ} {changed : ℕ} → Rounding new changed max_predicates → (p : ℕ) → p < length B.arities
        → EachLane (λ a. bit_at (get_or new p 0) a ≡ admits (entry (step B (table_in table (length B.arities))) p) a)
    stepped {new} r p h a l =
        let n = length B.arities in
        let few = few_predicates_lem B rules own· g in
        by_bool (bit_at due p)
        (λ e. good_stepped B rules own· g table old t d p e (get_or new p 0) (r.done p (omega arith) e) a l)
        (λ e.
        ap (λ (w : ℕ). bit_at w a) (r.kept p (λ q. clash q e))
        ∙ t p (omega arith) a l ∙ ap (λ (c : List ℕ). admits c a) (sym (table_in_at table n p h) ∙ sym (d.others p h e)))

    -- the tables are not the same
    pub rounding_end : {new : List ℕ} {changed : ℕ} → Rounding new changed max_predicates → Stepped B (table_in table (length B.arities)) old new changed
    rounding_end r =
        record {
          admitted = stepped r;
          unmarked = λ p h. r.unmarked p;
          marked = λ p e. let m = r.marked p e in (defined_known B g.well p (d.defined· p m.0), m.1);
        }

    -- they are
    pub rounding_still : {new : List ℕ} {changed : ℕ} → Rounding new changed max_predicates → AllSame old new
        → Stepped B (table_in table (length B.arities)) old new 0
    rounding_still r s =
        record { admitted = stepped r; unmarked = λ p h e. s p h; marked = λ p e. clash e (bit_at_zero p) }

-- ---- the two tables compared: nothing differs exactly where the first n words are the same

pub record Comparing (old new : List ℕ) (differ n : ℕ) : Type 0 where
  pub none : differ ≡ 0 → (p : ℕ) → p < n → get_or new p 0 ≡ get_or old p 0
  pub some : ((p : ℕ) → p < n → get_or new p 0 ≡ get_or old p 0) → differ ≡ 0

module _ (old new : List ℕ) where
  pub comparing_start : Comparing old new 0 0
  comparing_start = record { none = λ e p h. absurd (omega arith); some = λ f. refl }

  pub comparing_next : (differ n : ℕ) → Comparing old new differ n → Comparing old new (bit_or differ (bit_xor (get_or old n 0) (get_or new n 0))) (n + 1)
  comparing_next differ n g =
      let x = bit_xor (get_or old n 0) (get_or new n 0) in
      let l = and_le_l differ x in
      let r = and_le_r differ x in
      let s = or_add_and differ x in
      record {
        none = λ e p h.
            by_bool (eqb p n)
            (λ t. let z = eqb-true p n t in rw z (sym (new_none (get_or old n 0) (get_or new n 0) (omega arith))))
            (λ t. let ne = eqb-false p n t in g.none (omega arith) p (omega arith));
        some = λ f.
            let d = g.some (λ p h. f p (omega arith)) in
            let z : x ≡ 0 = ap (bit_xor (get_or old n 0)) (f n (omega arith)) ∙ xor_self (get_or old n 0) in
            ap₂ bit_or d z ∙ or_zero;
      }
    where
      or_zero : bit_or 0 0 ≡ 0
      or_zero = refl

  pub comparing_end : (differ n : ℕ) → n ≡ max_predicates → Comparing old new differ n → Compares old new (eqb differ 0)
  comparing_end differ n e g =
      record {
        same· = λ t p h. g.none (eqb-true differ 0 t) p (omega arith);
        other = λ t f. eqb-false differ 0 t (g.some (λ p h. f p (omega arith)));
      }
