-- A loop over the members of a set, from the lowest up (`Members::of`). Two ways to say how far it has come: by what holds of the numbers passed, members or
-- not (`Over`), and by the list of the members passed (`Passed`). Assumes nothing.
use mathlib.Core.Path.{◌≡◌, refl, sym, ap, ap₂, ◌∙◌, subst}
use mathlib.Core.Bool.{Bool, true, false, not, ◌&&◌, and-true, and-false, false≢true}
use mathlib.Core.List.{List, [], ◌∷◌, ◌++◌, append-nil, append_assoc}
use Prim.Native.Nat.{ℕ, zero, suc, ◌+◌, ◌-◌, ◌^◌, ◌≤◌, ◌<◌}
use native.Mathlib.Omega.{arith}
use lib.Bits.{bit_and}
use lib.Count.{count_trailing_zeros}
use lib.Dec.{eqb, leb, ltb}
use lib.ListN.{length, length-append}
use borrow.Author.Tests.{eq-eqb, ne_eqb, eqb-true, le-leb, leb-true, ltb-true, ltb-false}
use Rattle.masks.specs.Lists.{below, has, ascending}
use Rattle.masks.specs.Set.{bit_at, members}
use Rattle.masks.proofs.Laws.Logic.{by_bool, clash, same, false_of, not_elim, and_intro, and_left, and_right, or_right, or_case}
use Rattle.masks.proofs.Laws.Lists.{has_append, has_here, below_has, has_below, below_cong, ascending_head, ascending_tail, ascending_below, ascending_ext}
use Rattle.masks.proofs.Laws.Members.{Lowest, lowest, others}

-- ---- a list of the numbers below n that p tells: its first, and the others

module _ (p : ℕ → Bool) (n m : ℕ) (xs : List ℕ) (e : below p n ≡ m ∷ xs) where
  listed : (a : ℕ) → has (m ∷ xs) a ≡ true → (a < n) × (p a ≡ true)
  listed a t = below_has p n a (ap (λ (l : List ℕ). has l a) e ∙ t)

  told : (a : ℕ) → a < n → p a ≡ true → has (m ∷ xs) a ≡ true
  told a l t = ap (λ (l : List ℕ). has l a) (sym e) ∙ has_below p n a l t

  rises : ascending (m ∷ xs) ≡ true
  rises = ap ascending (sym e) ∙ ascending_below p n

  pub first_small : m < n
  first_small = (listed m (has_here m xs)).0

  pub first_member : p m ≡ true
  first_member = (listed m (has_here m xs)).1

  pub first_none : (j : ℕ) → j < m → p j ≡ false
  first_none j l =
      let s = first_small in
      false_of (λ t. or_case (eqb j m) (has xs j) (told j (omega arith) t)
      (λ q. let r : j ≡ m = eqb-true j m q in omega arith) (λ q. let r = ascending_head m xs rises j q in omega arith))

  pub first_others : xs ≡ below (λ k. p k && leb (suc m) k) n
  first_others =
      ascending_ext xs (below (λ k. p k && leb (suc m) k) n) (ascending_tail m xs rises) (ascending_below (λ k. p k && leb (suc m) k) n)
      (λ a t.
      let l = listed a (or_right (eqb a m) t) in
      has_below (λ k. p k && leb (suc m) k) n a l.0 (and_intro l.1 (le-leb (suc m) a (ascending_head m xs rises a t))))
      (λ a t.
      let b = below_has (λ k. p k && leb (suc m) k) n a t in
      let g = leb-true (suc m) a (and_right (p a) (leb (suc m) a) b.1) in
      or_case (eqb a m) (has xs a) (told a b.0 (and_left (p a) (leb (suc m) a) b.1)) (λ q. let r : a ≡ m = eqb-true a m q in absurd (omega arith)) (λ q. q))

-- the members of a set that is not empty: the lowest, and those of the others
pub members_first : (w : ℕ) → w < 2 ^ 64 → (w ≡ 0 → ⊥) → members w ≡ count_trailing_zeros 64 w ∷ members (bit_and w (w - 1))
unfolding members
members_first w s z = go (below (bit_at w) 64) refl
  where
    m : ℕ
    m = count_trailing_zeros 64 w

    low : Lowest 64 w m
    low = lowest 64 w s z

    behind : (x : ℕ) → x ≡ m → (k : ℕ) → (bit_at w k && leb (suc x) k) ≡ (bit_at w k && not (eqb k m))
    behind x e k =
        same (bit_at w k && leb (suc x) k) (bit_at w k && not (eqb k m))
        (λ t.
        let l = leb-true (suc x) k (and_right (bit_at w k) (leb (suc x) k) t) in
        and_intro (and_left (bit_at w k) (leb (suc x) k) t) (ap not (ne_eqb k m (λ q. omega arith))))
        (λ t.
        let b = and_left (bit_at w k) (not (eqb k m)) t in
        let ne : k ≡ m → ⊥ = λ q. not_elim (eqb k m) (and_right (bit_at w k) (not (eqb k m)) t) (eq-eqb k m q) in
        and_intro b (by_bool (ltb k m) (λ u. clash b (low.none k (ltb-true k m u))) (λ u. let v = ltb-false k m u in le-leb (suc x) k (omega (arith, ne)))))

    go : (l : List ℕ) → below (bit_at w) 64 ≡ l → below (bit_at w) 64 ≡ m ∷ below (bit_at (bit_and w (w - 1))) 64
    go [] e = absurd (false≢true (ap (λ (l : List ℕ). has l m) (sym e) ∙ has_below (bit_at w) 64 m low.small low.member))
    go (x ∷ xs) e =
        let small = first_small (bit_at w) 64 x xs e in
        let none = first_none (bit_at w) 64 x xs e in
        let member = first_member (bit_at w) 64 x xs e in
        let x-is : x ≡ m =
        by_bool (ltb x m) (λ t. clash member (low.none x (ltb-true x m t)))
        (λ t. by_bool (ltb m x) (λ u. clash low.member (none m (ltb-true m x u))) (λ u. let a = ltb-false x m t in let b = ltb-false m x u in omega arith)) in
        e
        ∙ ap₂ ◌∷◌ x-is
        (first_others (bit_at w) 64 x xs e
        ∙ below_cong (λ k. bit_at w k && leb (suc x) k) (bit_at (bit_and w (w - 1))) 64 (λ k h. behind x x-is k ∙ sym (others 64 w k s z)))

pub members_none : members 0 ≡ []
unfolding members bit_at
members_none = refl

-- ---- the loop over the members of a set: P holds of what is passed, the numbers below `place`, and what is left are the members from there on

pub record Over (P : ℕ → Type 0) (word : ℕ) (left : List ℕ) : Type 0 where
  pub place : ℕ
  pub most : place ≤ 64
  pub ahead : left ≡ below (λ k. bit_at word k && leb place k) 64
  pub done : P place

pub over_start : (P : ℕ → Type 0) (word : ℕ) → P 0 → Over P word (members word)
unfolding members
over_start P word h =
    record {
      place = 0;
      most = omega arith;
      ahead = below_cong (bit_at word) (λ k. bit_at word k && leb 0 k) 64 (λ k l. sym (ap (λ (b : Bool). bit_at word k && b) (le-leb 0 k (omega arith)) ∙ and-true (bit_at word k)));
      done = h;
    }

-- over a gap
across : (P : ℕ → Type 0) (word : ℕ) → ((k : ℕ) → bit_at word k ≡ false → P k → P (suc k))
    → (d at : ℕ) → ((k : ℕ) → at ≤ k → k < at + d → bit_at word k ≡ false) → P at → P (at + d)
across P word skip zero at f h = let e : at ≡ at + 0 = omega arith in subst P e h
across P word skip (suc d) at f h =
    let e : suc (at + d) ≡ at + suc d = omega arith in
    subst P e (skip (at + d) (f (at + d) (omega arith) (omega arith)) (across P word skip d at (λ k a b. f k a (omega arith)) h))

module _ (P : ℕ → Type 0) (word : ℕ) (left : List ℕ) (skip : (k : ℕ) → bit_at word k ≡ false → P k → P (suc k)) (g : Over P word left) where
  over_to : (m : ℕ) → g.place ≤ m → ((k : ℕ) → g.place ≤ k → k < m → bit_at word k ≡ false) → P m
  over_to m h f =
      let e : g.place + (m - g.place) ≡ m = omega arith in
      subst P e (across P word skip (m - g.place) g.place (λ k a b. f k a (omega arith)) g.done)

  ahead_of : (k : ℕ) → g.place ≤ k → (bit_at word k && leb g.place k) ≡ false → bit_at word k ≡ false
  ahead_of k h e = sym (and-true (bit_at word k)) ∙ ap (λ (b : Bool). bit_at word k && b) (sym (le-leb g.place k h)) ∙ e

  -- nothing is left
  pub over_end : left ≡ [] → P 64
  over_end e =
      over_to 64 g.most
      (λ k a b.
      ahead_of k a
      (false_of (λ t.
      absurd (false≢true (ap (λ (l : List ℕ). has l k) (sym (sym g.ahead ∙ e)) ∙ has_below (λ k. bit_at word k && leb g.place k) 64 k b t)))))

  module _ (m : ℕ) (others : List ℕ) (e : left ≡ m ∷ others) where
    now : below (λ k. bit_at word k && leb g.place k) 64 ≡ m ∷ others
    now = sym g.ahead ∙ e

    here : (bit_at word m && leb g.place m) ≡ true
    here = first_member (λ k. bit_at word k && leb g.place k) 64 m others now

    -- at the lowest of those left: what is known of it, and what holds of the numbers below it
    pub over_small : m < 64
    over_small = first_small (λ k. bit_at word k && leb g.place k) 64 m others now

    pub over_member : bit_at word m ≡ true
    over_member = and_left (bit_at word m) (leb g.place m) here

    pub over_here : P m
    over_here =
        over_to m (leb-true g.place m (and_right (bit_at word m) (leb g.place m) here))
        (λ k a b. ahead_of k a (first_none (λ k. bit_at word k && leb g.place k) 64 m others now k b))

    pub over_next : (Q : ℕ → Type 0) → Q (suc m) → Over Q word others
    over_next Q q =
        let l = leb-true g.place m (and_right (bit_at word m) (leb g.place m) here) in
        let s = over_small in
        record {
          place = suc m;
          most = omega arith;
          ahead =
              first_others (λ k. bit_at word k && leb g.place k) 64 m others now
              ∙ below_cong (λ k. (bit_at word k && leb g.place k) && leb (suc m) k) (λ k. bit_at word k && leb (suc m) k) 64 (λ k h. once k);
          done = q;
        }
      where
        once : (k : ℕ) → ((bit_at word k && leb g.place k) && leb (suc m) k) ≡ (bit_at word k && leb (suc m) k)
        once k =
            let l = leb-true g.place m (and_right (bit_at word m) (leb g.place m) here) in
            by_bool (leb (suc m) k)
            (λ t. let u = leb-true (suc m) k t in ap (λ (b : Bool). (bit_at word k && b) && leb (suc m) k) (le-leb g.place k (omega arith)) ∙ ap (λ (b : Bool). b && leb (suc m) k) (and-true (bit_at word k)))
            (λ t. rw t (and-false (bit_at word k && leb g.place k) ∙ sym (and-false (bit_at word k))))

-- ---- the same loop, by the list of the members passed

pub record Passed (word : ℕ) (passed left : List ℕ) : Type 0 where
  pub all : members word ≡ passed ++ left

pub passed_start : (word : ℕ) → Passed word [] (members word)
passed_start word = record { all = refl }

module _ {word : ℕ} {passed left : List ℕ} (g : Passed word passed left) where
  -- nothing is left
  pub passed_all : left ≡ [] → passed ≡ members word
  passed_all e = sym (append-nil passed) ∙ ap (λ (l : List ℕ). passed ++ l) (sym e) ∙ sym g.all

  -- m is the lowest of those left
  module _ {m : ℕ} {others : List ℕ} (e : left ≡ m ∷ others) where
    pub passed_next : Passed word (passed ++ (m ∷ [])) others
    passed_next = record { all = g.all ∙ ap (λ (l : List ℕ). passed ++ l) e ∙ sym (append_assoc passed (m ∷ []) others) }

    pub passed_fewer : length passed < length (members word)
    passed_fewer =
        let l = ap (λ (l : List ℕ). length l) g.all in
        let k = length-append passed left in
        let j = ap (λ (l : List ℕ). length l) e in
        omega (arith, l, k, j)

    listed_here : has (members word) m ≡ true
    listed_here =
        ap (λ (l : List ℕ). has l m) (g.all ∙ ap (λ (l : List ℕ). passed ++ l) e) ∙ has_append passed (m ∷ others) m ∙ or_right (has passed m) (has_here m others)

    pub passed_small : m < 64
    unfolding members
    passed_small = (below_has (bit_at word) 64 m listed_here).0
