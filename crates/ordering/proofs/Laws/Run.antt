-- How the code finds an order: a subgoal as it is read, the scan for the first place of a word that is ready, and the run of the greedy rule with a word
-- of the places that are left. Assumes nothing.
use mathlib.Core.Path.{◌≡◌, refl, sym, ap, ap₂, ◌∙◌, subst}
use mathlib.Core.Bool.{Bool, true, false, not, cond, ◌&&◌, ◌||◌, and-false}
use mathlib.Core.Logic.{⊎_elim}
use mathlib.Core.List.{List, [], ◌∷◌, ◌++◌, append_assoc, append-nil}
use mathlib.Core.Option.{Option, none, some, map}
use Prim.Native.Nat.{ℕ, zero, suc, ◌+◌, ◌-◌, ◌/◌, ◌%◌, ◌^◌, ◌≤◌, ◌<◌}
use native.Mathlib.Nat.{sub-zero, pow-suc}
use native.Mathlib.Numerals.{add-one}
use native.Mathlib.Omega.{arith}
use lib.Bits.{bit_xor, xor_lt}
use lib.Dec.{eqb}
use lib.ListN.{length, get_or, set, take, length-set}
use lib.Pow.{pow_pos, pow-lt}
use lib.Seq.{take-suc-set}
use borrow.Author.Tests.{eq-eqb, ne_eqb}
use Rattle.masks.specs.Limits.{max_arity}
use Rattle.masks.specs.Lists.{all}
use Rattle.masks.specs.Set.{bit_at, members}
use Rattle.masks.specs.Constraint.{admits}
use Rattle.masks.specs.Patterns.{EachLane}
use Rattle.book.specs.Limits.{max_predicates, max_subgoals}
use Rattle.book.specs.Book.{Call, no_call}
use Rattle.book.specs.Format.{allows}
use Rattle.book.specs.Table.{Table, entry}
use Rattle.book.specs.Sets.{callable}
use Rattle.book.specs.declared.range.Range.TheVariants.{Argument}
use Rattle.ordering.specs.Orders.{In, find, without, count}
use Rattle.ordering.specs.Adorn.{Bound, pattern_of, ready, after}
use Rattle.ordering.specs.Good.{at, ready_at, after_at}
use Rattle.ordering.specs.Held.{picked, can_run, PatternAt}
use Rattle.masks.proofs.Laws.Logic.{by_range, clash, and_left, and_right}
use Rattle.masks.proofs.Laws.Set.{bit_at_power}
use Rattle.masks.proofs.Laws.Members.{bit_at_xor}
use Rattle.masks.proofs.Laws.Loops.{Over, over_start, over_end, over_member, over_here, over_next}
use Rattle.masks.proofs.Laws.Patterns.{member_below}
use Rattle.book.proofs.Laws.Sets.{callable_low, callable_args}
use Rattle.ordering.proofs.Laws.Orders.{find_some, find_none, find_least, without_in, without_keeps, without_gone, Ascends, ascends_distinct, ascends_without, count_in_lem, in_count, count_ascends}
use Rattle.ordering.proofs.Laws.Greedy.{greedy_of, greedy}
use Rattle.ordering.proofs.Laws.Steps.{pattern_small, known_pattern}

-- ---- a subgoal as it is read

module _ (body : List Call) (p : ℕ) {s : Call} (e : s ≡ get_or body p no_call) where
  pub pred_read : callable body ≡ true → p < length body → s.pred < max_predicates
  pred_read t h = rw e (callable_low body p t h)

  pub args_read : callable body ≡ true → p < length body → all (allows Argument) s.args ≡ true
  args_read t h = rw e (callable_args body p t h)

  -- with its pattern, which fits where it is a member of the predicate's set; of a negated one it must be the greatest
  pub ready_read : (T : Table) (b : Bound) (set : ℕ) {q a : ℕ} → length s.args ≤ max_arity → q ≡ s.pred → EachLane (λ x. bit_at set x ≡ admits (entry T q) x)
      → a ≡ pattern_of b s.args → ready_at T body b p ≡ can_run set s a
  unfolding at ready
  ready_read T b set {q} {a} few r fits i =
      let l = pattern_small b max_arity s.args few in
      sym (ap (ready T b) e)
      ∙ ap₂ (λ (c d : Bool). c && d) (ap₂ (λ (c x : ℕ). admits (entry T c) x) (sym r) (sym i) ∙ sym (fits a (omega arith)))
      (known_pattern b s ∙ ap (λ (x : ℕ). not s.negated || eqb (x + 1) (2 ^ length s.args)) (sym i))

  pub pattern_read : (b : Bound) {a : ℕ} → a ≡ pattern_of b s.args → PatternAt body b (record { place = p; pattern = a })
  unfolding at
  pattern_read b r = r ∙ ap (λ (c : Call). pattern_of b c.args) e

  pub after_read : (b : Bound) {b' : Bound} → b' ≡ after b s → b' ≡ after_at body b p
  unfolding at
  after_read b q = q ∙ ap (after b) e

-- ---- the scan

abbrev free : ℕ → (ℕ → Bool) → ℕ → Bool
free left passes p = bit_at left p && passes p

-- the first that is left and passes is the first from p on
abbrev pub Scan : ℕ → (ℕ → Bool) → ℕ → Type 0
Scan left passes p = picked left passes ≡ find (free left passes) (count p (max_subgoals - p))

module _ (left : ℕ) (passes : ℕ → Bool) where
  scan_on : (p : ℕ) → free left passes p ≡ false → Scan left passes p → Scan left passes (suc p)
  unfolding find count
  scan_on p t s =
      by_range p max_subgoals
      (λ h. let e : max_subgoals - p ≡ suc (max_subgoals - suc p) = omega arith in s ∙ rw (e, t))
      (λ h.
      let e : max_subgoals - p ≡ 0 = omega arith in
      let f : max_subgoals - suc p ≡ 0 = omega arith in
      s ∙ rw (e, f))

  -- a place that is not left
  scan_skip : (p : ℕ) → bit_at left p ≡ false → Scan left passes p → Scan left passes (suc p)
  scan_skip p t = scan_on p (rw t)

  -- the loop over those that are left: how far it has come
  pub scan_start : Over (Scan left passes) left (members left)
  unfolding picked
  scan_start = over_start (Scan left passes) left refl

  module _ {rest : List ℕ} (g : Over (Scan left passes) left rest) where
    -- none passes
    pub scan_end : rest ≡ [] → none ≡ picked left passes
    unfolding find count
    scan_end e = sym (over_end (Scan left passes) left rest scan_skip g e)

    -- at the first of the others
    module _ {p : ℕ} {others : List ℕ} (e : rest ≡ p ∷ others) where
      pub scan_below : (n : ℕ) → left < 2 ^ n → p < n
      scan_below n h = member_below n left p h (over_member (Scan left passes) left rest scan_skip g p others e)

      pub scan_waits : passes p ≡ false → Over (Scan left passes) left others
      scan_waits t =
          over_next (Scan left passes) left rest scan_skip g p others e (Scan left passes)
          (scan_on p (rw t (and-false (bit_at left p))) (over_here (Scan left passes) left rest scan_skip g p others e))

      pub scan_here : p < max_subgoals → passes p ≡ true → some p ≡ picked left passes
      unfolding find count
      scan_here h t =
          let r : max_subgoals - p ≡ suc (max_subgoals - suc p) = omega arith in
          let u = over_member (Scan left passes) left rest scan_skip g p others e in
          sym (over_here (Scan left passes) left rest scan_skip g p others e ∙ rw (r, u, t))

-- ---- the places that are left

-- two ascending lists with the same members that pass
find_same : (p q : ℕ → Bool) (l m : List ℕ) → Ascends l → Ascends m → ((x : ℕ) → In x l × (p x ≡ true) → In x m × (q x ≡ true))
    → ((x : ℕ) → In x m × (q x ≡ true) → In x l × (p x ≡ true)) → find p l ≡ find q m
find_same p q l m a b f g = go (find p l) (find q m) refl refl
  where
    go : (o o' : Option ℕ) → find p l ≡ o → find q m ≡ o' → o ≡ o'
    go none none d e = refl
    go none (some y) d e = let h = g y (find_some q m y e) in absurd (find_none p l d y h.0 h.1)
    go (some x) none d e = let h = f x (find_some p l x d) in absurd (find_none q m e x h.0 h.1)
    go (some x) (some y) d e =
        let h = f x (find_some p l x d) in
        let k = g y (find_some q m y e) in
        ap some
        (⊎_elim (λ z. z)
        (λ u. ⊎_elim (λ z. sym z) (λ v. absurd (omega arith)) (find_least q (λ (i j : ℕ). i < j) m y b e x h.0 h.1))
        (find_least p (λ (i j : ℕ). i < j) l x a d y k.0 k.1))

-- rem has, ascending, the places of a word, which are some of the first n
pub record Left (n left : ℕ) (rem : List ℕ) : Type 0 where
  pub small : left < 2 ^ n
  pub rising : Ascends rem
  pub has : (p : ℕ) → bit_at left p ≡ true → In p rem
  pub only : (p : ℕ) → In p rem → bit_at left p ≡ true

-- the first n
first_places : (n p : ℕ) → p < n → bit_at (2 ^ n - 1) p ≡ true
unfolding bit_at
first_places zero p h = absurd (omega arith)
first_places (suc n) zero h = let e = pow-suc 2 n in let q = pow_pos n in eq-eqb ((2 ^ suc n - 1) % 2) 1 (omega arith)
first_places (suc n) (suc p) h =
    let e = pow-suc 2 n in
    let q = pow_pos n in
    let f : (2 ^ suc n - 1) / 2 ≡ 2 ^ n - 1 = omega arith in
    ap (λ (w : ℕ). bit_at w p) f ∙ first_places n p (omega arith)

left_start : (n : ℕ) → Left n (2 ^ n - 1) (count 0 n)
left_start n =
    let q = pow_pos n in
    record {
      small = omega arith;
      rising = count_ascends 0 n;
      has = λ p t. let h = member_below n (2 ^ n - 1) p (omega arith) t in in_count 0 n p (omega arith) (omega arith);
      only = λ p k. let e = count_in_lem 0 n p k in first_places n p (omega arith);
    }

module _ {n left : ℕ} {rem : List ℕ} (l : Left n left rem) where
  -- one is taken
  taken_bit : (p q : ℕ) → (q ≡ p → ⊥) → bit_at (bit_xor left (2 ^ p)) q ≡ bit_at left q
  taken_bit p q ne = bit_at_xor left (2 ^ p) q ∙ rw (bit_at_power p q, ne_eqb q p ne) (go (bit_at left q))
    where
      go : (b : Bool) → cond b true false ≡ b
      go true = refl
      go false = refl

  left_next : (p : ℕ) → bit_at left p ≡ true → Left n (bit_xor left (2 ^ p)) (without p rem)
  left_next p t =
      let gone : bit_at (bit_xor left (2 ^ p)) p ≡ false = bit_at_xor left (2 ^ p) p ∙ rw (t, bit_at_power p p, eq-eqb p p refl) in
      record {
        small = xor_lt n left (2 ^ p) l.small (pow-lt (member_below n left p l.small t));
        rising = ascends_without p rem l.rising;
        has = λ q u.
            let ne : q ≡ p → ⊥ = λ e. clash u (ap (bit_at (bit_xor left (2 ^ p))) e ∙ gone) in
            without_keeps p q rem (λ e. ne (sym e)) (l.has q (sym (taken_bit p q ne) ∙ u));
        only = λ q k.
            let ne : q ≡ p → ⊥ = λ e. without_gone p rem (ascends_distinct rem l.rising) (subst (λ (j : ℕ). In j (without p rem)) e k) in
            taken_bit p q ne ∙ l.only q (without_in p q rem k);
      }

  -- what the scan finds is the first of them that passes
  left_picked : (passes : ℕ → Bool) → n ≤ max_subgoals → picked left passes ≡ find passes rem
  unfolding picked
  left_picked passes most =
      find_same (free left passes) passes (count 0 max_subgoals) rem (count_ascends 0 max_subgoals) l.rising
      (λ p m. (l.has p (and_left (bit_at left p) (passes p) m.1), and_right (bit_at left p) (passes p) m.1))
      (λ p m.
      let t = l.only p m.0 in
      let k = member_below n left p l.small t in
      (in_count 0 max_subgoals p (omega arith) (omega arith), rw t m.1))

-- ---- the run

-- i places are taken, and stand first in `places`: with what the greedy rule makes of those left, they are what it makes of all
pub record Run {B : Type 0} (ready : B → ℕ → Bool) (after : B → ℕ → B) (b₀ : B) (n i : ℕ) (b : B) (left : ℕ) (places : List ℕ) : Type 0 where
  pub most : i ≤ n
  pub few : n ≤ max_subgoals
  pub room : n ≤ length places
  pub rem : List ℕ
  pub remain : Left n left rem
  pub rest : map (λ σ. take i places ++ σ) (greedy_of ready after (n - i) b rem) ≡ greedy ready after b₀ n

module _ {B : Type 0} {ready : B → ℕ → Bool} {after : B → ℕ → B} where
  pub run_start : (b : B) (n : ℕ) (places : List ℕ) → n ≤ max_subgoals → n ≤ length places → Run ready after b n 0 b (2 ^ n - 1) places
  unfolding greedy
  run_start b n places h k = record {
    most = omega arith;
    few = h;
    room = k;
    rem = count 0 n;
    remain = left_start n;
    rest = rw (sub-zero n) (go (greedy_of ready after n b (count 0 n)));
  }
    where
      go : (o : Option (List ℕ)) → map (λ σ. σ) o ≡ o
      go none = refl
      go (some σ) = refl

  module _ {b₀ b : B} {n i left : ℕ} {places : List ℕ} (w : Run ready after b₀ n i b left places) where
    pub run_end : n ≤ i → greedy ready after b₀ n ≡ some (take n places)
    unfolding greedy_of
    run_end h =
        let k = w.most in
        let e : n - i ≡ 0 = omega arith in
        let q : i ≡ n = omega arith in
        sym w.rest ∙ rw (e, append-nil (take i places)) (ap (λ (j : ℕ). some (take j places)) q)

    -- the first of those left that is ready
    found : {o : Option ℕ} → o ≡ picked left (ready b) → find (ready b) w.rem ≡ o
    found p = sym (p ∙ left_picked w.remain (ready b) w.few)

    -- there is none
    pub run_stuck : none ≡ picked left (ready b) → i < n → none ≡ greedy ready after b₀ n
    unfolding greedy_of
    run_stuck p h =
        let s : n - i ≡ suc (n - (i + 1)) = omega arith in
        rw (s, found p) at w.rest

    module _ {r : ℕ} (p : some r ≡ picked left (ready b)) where
      left_here : bit_at left r ≡ true
      left_here = w.remain.only r (find_some (ready b) w.rem r (found p)).0

      pub run_below : r < n
      run_below = member_below n left r w.remain.small left_here

      -- it is taken: stored behind the others, and no longer left
      pub run_next : i < n → {b' : B} {left' : ℕ} {places' : List ℕ} → b' ≡ after b r → left' ≡ bit_xor left (2 ^ r) → places' ≡ set places i r
          → Run ready after b₀ n (i + 1) b' left' places'
      unfolding greedy_of
      run_next h eb eu ep =
          let t = w.room in
          let s : n - i ≡ suc (n - (i + 1)) = omega arith in
          record {
            most = omega arith;
            few = w.few;
            room = rw (ep, length-set places i r) t;
            rem = without r w.rem;
            remain = rw eu (left_next w.remain r left_here);
            rest =
                rw (eb, ep, add-one i, take-suc-set places i r (omega arith))
                (sym (joined (greedy_of ready after (n - suc i) (after b r) (without r w.rem))) ∙ rw (s, found p, add-one i) at w.rest);
          }
        where
          joined : (o : Option (List ℕ)) → map (λ σ. take i places ++ σ) (map (λ σ. r ∷ σ) o) ≡ map (λ σ. (take i places ++ (r ∷ [])) ++ σ) o
          joined none = refl
          joined (some σ) = ap some (sym (append_assoc (take i places) (r ∷ []) σ))
