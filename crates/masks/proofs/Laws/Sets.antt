-- Sets of masks and their members: as many as bits are set, in range, rising; what they admit; and the loops over them, which write them, try them in all
-- lanes, and keep the least. Assumes nothing.
use mathlib.Core.Path.{◌≡◌, refl, sym, ap, ap₂, ◌∙◌, subst}
use mathlib.Core.Bool.{Bool, true, false, not, cond, ◌&&◌, ◌||◌, and-true, and-false, or-false}
use mathlib.Core.List.{List, [], ◌∷◌, ◌++◌, append-nil}
use Prim.Native.Nat.{ℕ, zero, suc, ◌+◌, ◌-◌, ◌/◌, ◌%◌, ◌^◌, ◌≤◌, ◌<◌}
use native.Mathlib.Nat.{pow-suc}
use native.Mathlib.Omega.{arith}
use lib.Bits.{bit_and, bit_or, bit_xor, and_le_l, mask_lt}
use lib.Count.{ones, ones_step}
use lib.Dec.{eqb, ltb}
use lib.ListN.{length, length-append}
use borrow.Author.Tests.{eqb-true, eq-eqb, lt-ltb}
use Rattle.masks.specs.Limits.{max_arity, all_patterns}
use Rattle.masks.specs.Lists.{any_below, below, has}
use Rattle.masks.specs.Mask.{within}
use Rattle.masks.specs.Constraint.{admits, in_range, is_written, drops, least, written, minimise}
use Rattle.masks.specs.Set.{bit_at, Holds, members}
use Rattle.masks.specs.Patterns.{EachLane, Agrees}
use Rattle.masks.proofs.Laws.Logic.{by_bool, clash, same, false_of, and_intro, and_left, and_right, or_left, or_right, or_case, not_intro, not_elim}
use Rattle.masks.proofs.Laws.Lists.{below_has, has_below, below_cong, any_below_at, at_any_below, all_below, all_below_at}
use Rattle.masks.proofs.Laws.Mask.{within_refl, within_le, and_within}
use Rattle.masks.proofs.Laws.Words as words
use Rattle.masks.proofs.Laws.Constraint.{in_range_has, admits_has, has_admits, admits_up, admits_append, written_cong, written_admits}
use Rattle.masks.proofs.Laws.Set.{bit_at_zero, bit_at_or, bit_at_more}
use Rattle.masks.proofs.Laws.Members.{bit_at_and, bit_at_xor, Lowest}
use Rattle.masks.proofs.Laws.Patterns.{ones as all_ones, bit_at_ones, within_asked, asked_within, columns, bit_at_column}

-- ---- the members

pub has_members : (word a : ℕ) → a < all_patterns → has (members word) a ≡ bit_at word a
unfolding members
has_members word a h =
    same (has (members word) a) (bit_at word a) (λ t. (below_has (bit_at word) all_patterns a t).1) (λ t. has_below (bit_at word) all_patterns a h t)

pub members_low : (word a : ℕ) → has (members word) a ≡ true → a < all_patterns
unfolding members
members_low word a t = (below_has (bit_at word) all_patterns a t).0

pub members_cong : (word : ℕ) (f : ℕ → Bool) → EachLane (λ a. bit_at word a ≡ f a) → members word ≡ below f all_patterns
unfolding members
members_cong word f h = below_cong (bit_at word) f all_patterns h

-- one more
pub below_yes : (f : ℕ → Bool) (k : ℕ) → f k ≡ true → below f (suc k) ≡ below f k ++ (k ∷ [])
below_yes f k e = rw e

pub below_no : (f : ℕ → Bool) (k : ℕ) → f k ≡ false → below f (suc k) ≡ below f k
below_no f k e = rw e (append-nil (below f k))

below_grows : (f : ℕ → Bool) (k d : ℕ) → length (below f k) ≤ length (below f (d + k))
below_grows f k zero = let e : 0 + k ≡ k = omega arith in rw e (omega arith)
below_grows f k (suc d) =
    let e : suc d + k ≡ suc (d + k) = omega arith in
    let h = below_grows f k d in
    let l = length-append (below f (d + k)) (cond (f (d + k)) ((d + k) ∷ []) []) in
    rw e (omega arith)

below_longer : (f : ℕ → Bool) (k n : ℕ) → k ≤ n → length (below f k) ≤ length (below f n)
below_longer f k n h = let e : (n - k) + k ≡ n = omega arith in subst (λ (i : ℕ). length (below f k) ≤ length (below f i)) e (below_grows f k (n - k))

-- there are as many as bits are set
one : Bool → ℕ
one true = 1
one false = 0

below_first : (f : ℕ → Bool) (n : ℕ) → length (below f (suc n)) ≡ one (f 0) + length (below (λ a. f (suc a)) n)
unfolding one
below_first f zero = go (f 0)
  where
    go : (b : Bool) → length {A = ℕ} (cond b (0 ∷ []) []) ≡ one b + 0
    go true = refl
    go false = refl
below_first f (suc n) =
    length-append (below f (suc n)) (cond (f (suc n)) (suc n ∷ []) [])
    ∙ ap₂ ◌+◌ (below_first f n) (go (f (suc n)))
    ∙ sums
  where
    go : (b : Bool) → length {A = ℕ} (cond b (suc n ∷ []) []) ≡ length {A = ℕ} (cond b (n ∷ []) [])
    go true = refl
    go false = refl

    sums : one (f 0) + length (below (λ a. f (suc a)) n) + length {A = ℕ} (cond (f (suc n)) (n ∷ []) []) ≡ one (f 0) + length (below (λ a. f (suc a)) (suc n))
    sums = let l = length-append (below (λ a. f (suc a)) n) (cond (f (suc n)) (n ∷ []) []) in omega arith

ones_below : (n word : ℕ) → word < 2 ^ n → ones word ≡ length (below (bit_at word) n)
unfolding bit_at ones one
ones_below zero word h = let e : word ≡ 0 = omega arith in ap ones e
ones_below (suc n) word h =
    let p = pow-suc 2 n in
    ones_step word ∙ ap₂ ◌+◌ (digit (word % 2) (omega arith)) (ones_below n (word / 2) (omega arith)) ∙ sym (below_first (bit_at word) n)
  where
    digit : (d : ℕ) → d < 2 → d ≡ one (eqb d 1)
    digit zero l = refl
    digit (suc zero) l = refl
    digit (suc (suc d)) l = absurd (omega arith)

pub ones_members : (word : ℕ) → word < 2 ^ 64 → ones word ≡ length (members word)
unfolding members
ones_members word h = ones_below all_patterns word h

-- ---- what they admit

-- with all the patterns that a constraint admits they admit what it does
pub admits_full : (c : List ℕ) (word : ℕ) → EachLane (λ a. bit_at word a ≡ admits c a) → EachLane (λ a. admits (members word) a ≡ admits c a)
admits_full c word h a l =
    same (admits (members word) a) (admits c a)
    (λ t.
    let r = admits_has (members word) a t in
    let k = members_low word r.0 r.1 in
    admits_up c r.0 a r.2 (sym (h r.0 k) ∙ sym (has_members word r.0 k) ∙ r.1))
    (λ t. has_admits (members word) a a (has_members word a l ∙ h a l ∙ t) (within_refl a))

-- ---- the loop that tries them in all lanes: r has the lanes whose pattern fits one of those below k

abbrev pub Tried : List ℕ → ℕ → ℕ → ℕ → Type 0
Tried words masks r k = EachLane (λ a. (p : ℕ) → Agrees words a p → bit_at r a ≡ admits (below (bit_at masks) k) p)

module _ (words : List ℕ) (masks : ℕ) where
  pub tried_start : Tried words masks 0 0
  unfolding admits
  tried_start a h p f = bit_at_zero a

  pub tried_skip : (r k : ℕ) → bit_at masks k ≡ false → Tried words masks r k → Tried words masks r (suc k)
  tried_skip r k e g a h p f = g a h p f ∙ ap (λ (c : List ℕ). admits c p) (sym (below_no (bit_at masks) k e))

  pub tried_next : (r w k : ℕ) → bit_at masks k ≡ true → EachLane (λ a. (p : ℕ) → Agrees words a p → bit_at w a ≡ within k p)
      → Tried words masks r k → Tried words masks (bit_or r w) (suc k)
  unfolding admits
  tried_next r w k e q g a h p f =
      bit_at_or r w a
      ∙ ap₂ (λ (x y : Bool). x || y) (g a h p f) (q a h p f ∙ sym (or-false (within k p)))
      ∙ sym (admits_append (below (bit_at masks) k) (k ∷ []) p)
      ∙ ap (λ (c : List ℕ). admits c p) (sym (below_yes (bit_at masks) k e))

  pub tried_end : (r : ℕ) → Tried words masks r all_patterns → EachLane (λ a. (p : ℕ) → Agrees words a p → bit_at r a ≡ admits (members masks) p)
  unfolding members
  tried_end r g = g

-- in lane a the columns have the bits of a
pub in_columns : (P : ℕ → ℕ → Type 0) → EachLane (λ a. (p : ℕ) → Agrees columns a p → P a p) → EachLane (λ a. P a a)
in_columns P g a h = g a h a (λ i m. bit_at_column i m a h)

-- ---- the loop that keeps the least: what is left has those of the set in which no kept one is contained

pub record Keeping (word kept rest : ℕ) : Type 0 where
  pub small : rest < 2 ^ 64
  pub keeps : (m : ℕ) → bit_at kept m ≡ true → (m < all_patterns) × (least (bit_at word) all_patterns m ≡ true)
  pub left : EachLane (λ m. bit_at rest m ≡ (bit_at word m && not (admits (members kept) m)))

no_one : (a : ℕ) → admits (members 0) a ≡ false
no_one a =
    false_of (λ t.
    let r = admits_has (members 0) a t in
    clash r.1 (has_members 0 r.0 (members_low 0 r.0 r.1) ∙ bit_at_zero r.0))

pub keeping_start : (word : ℕ) → word < 2 ^ 64 → Keeping word 0 word
keeping_start word h =
    record {
      small = h;
      keeps = λ m t. clash t (bit_at_zero m);
      left = λ m l. sym (ap (λ (b : Bool). bit_at word m && not b) (no_one m) ∙ and-true (bit_at word m));
    }

-- what one more admits
admits_more : (kept m : ℕ) → m < all_patterns → (a : ℕ) → admits (members (bit_or kept (2 ^ m))) a ≡ (admits (members kept) a || within m a)
admits_more kept m h a =
    let more = bit_or kept (2 ^ m) in
    same (admits (members more) a) (admits (members kept) a || within m a)
    (λ t.
    let r = admits_has (members more) a t in
    let l = members_low more r.0 r.1 in
    or_case (bit_at kept r.0) (eqb m r.0) (sym (bit_at_more kept m r.0) ∙ sym (has_members more r.0 l) ∙ r.1)
    (λ s. or_left (admits (members kept) a) (within m a) (has_admits (members kept) a r.0 (has_members kept r.0 l ∙ s) r.2))
    (λ s. or_right (admits (members kept) a) (rw (eqb-true m r.0 s) r.2)))
    (λ t.
    or_case (admits (members kept) a) (within m a) t
    (λ s.
    let r = admits_has (members kept) a s in
    let l = members_low kept r.0 r.1 in
    has_admits (members more) a r.0
    (has_members more r.0 l ∙ bit_at_more kept m r.0 ∙ or_left (bit_at kept r.0) (eqb m r.0) (sym (has_members kept r.0 l) ∙ r.1)) r.2)
    (λ s. has_admits (members more) a m (has_members more m h ∙ bit_at_more kept m m ∙ or_right (bit_at kept m) (eq-eqb m m refl)) s))

module _ (word kept rest m up : ℕ) (g : Keeping word kept rest) (l : Lowest 64 rest m) (above : EachLane (λ a. bit_at up a ≡ within m a)) where
  here : (bit_at word m && not (admits (members kept) m)) ≡ true
  here = sym (g.left m l.small) ∙ l.member

  -- none of the set that is contained in the lowest of those left is another
  lowest_least : least (bit_at word) all_patterns m ≡ true
  unfolding least drops
  lowest_least =
      and_intro (and_left (bit_at word m) (not (admits (members kept) m)) here)
      (not_intro (λ t.
      let r = any_below_at (drops (bit_at word) m) all_patterns t in
      let k = r.0 in
      let in· = and_left (bit_at word k) (within k m && not (eqb k m)) r.2 in
      let inside = and_left (within k m) (not (eqb k m)) (and_right (bit_at word k) (within k m && not (eqb k m)) r.2) in
      let other : k ≡ m → ⊥ = λ e. not_elim (eqb k m) (and_right (within k m) (not (eqb k m)) (and_right (bit_at word k) (within k m && not (eqb k m)) r.2)) (eq-eqb k m e) in
      let le = within_le k m inside in
      let free : admits (members kept) k ≡ false =
      false_of (λ s. not_elim (admits (members kept) m) (and_right (bit_at word m) (not (admits (members kept) m)) here) (admits_up (members kept) k m inside s)) in
      clash (g.left k r.1 ∙ rw (in·, free)) (l.none k (omega (arith, other)))))

  pub keeping_next : Keeping word (bit_or kept (2 ^ m)) (bit_and rest (bit_xor up all_ones))
  keeping_next =
      record {
        small = let s = g.small in let h = and_le_l rest (bit_xor up all_ones) in omega arith;
        keeps = λ k t.
            or_case (bit_at kept k) (eqb m k) (sym (bit_at_more kept m k) ∙ t) (g.keeps k)
            (λ e. rw (← eqb-true m k e) (l.small, lowest_least));
        left = λ k h.
            bit_at_and rest (bit_xor up all_ones) k
            ∙ ap₂ (λ (x y : Bool). x && y) (g.left k h) (bit_at_xor up all_ones k ∙ rw (bit_at_ones k h) (flip (bit_at up k)) ∙ ap not (above k h))
            ∙ go (bit_at word k) (admits (members kept) k) (within m k)
            ∙ ap (λ (b : Bool). bit_at word k && not b) (sym (admits_more kept m l.small k));
      }
    where
      flip : (b : Bool) → cond b false true ≡ not b
      flip true = refl
      flip false = refl

      go : (a b c : Bool) → ((a && not b) && not c) ≡ (a && not (b || c))
      go true true c = refl
      go true false c = refl
      go false b c = refl

  -- the lowest is no longer left
  pub keeping_less : bit_and rest (bit_xor up all_ones) < rest
  keeping_less =
      let h = and_le_l rest (bit_xor up all_ones) in
      let ne : bit_and rest (bit_xor up all_ones) ≡ rest → ⊥ =
      λ e.
      clash (ap (λ (w : ℕ). bit_at w m) e ∙ l.member)
      (bit_at_and rest (bit_xor up all_ones) m
      ∙ ap (λ (b : Bool). bit_at rest m && b) (bit_at_xor up all_ones m ∙ rw (above m l.small ∙ within_refl m, bit_at_ones m l.small))
      ∙ and-false (bit_at rest m)) in
      omega (arith, ne)

pub keeping_end : (word kept rest : ℕ) → rest ≡ 0 → Keeping word kept rest → members kept ≡ written (bit_at word) all_patterns
unfolding written least drops
keeping_end word kept rest z g = members_cong kept (least (bit_at word) all_patterns) (λ m h. same (bit_at kept m) (least (bit_at word) all_patterns m) (λ t. (g.keeps m t).1) (back m h))
  where
    back : (m : ℕ) → m < all_patterns → least (bit_at word) all_patterns m ≡ true → bit_at kept m ≡ true
    back m h t =
        let one = and_left (bit_at word m) (not (any_below (drops (bit_at word) m) all_patterns)) t in
        let none = and_right (bit_at word m) (not (any_below (drops (bit_at word) m) all_patterns)) t in
        let gone : (bit_at word m && not (admits (members kept) m)) ≡ false = sym (g.left m h) ∙ ap (λ (w : ℕ). bit_at w m) z ∙ bit_at_zero m in
        let a : admits (members kept) m ≡ true = by_bool (admits (members kept) m) (λ e. e) (λ e. clash (rw (one, e)) gone) in
        let r = admits_has (members kept) m a in
        let k = r.0 in
        let l = members_low kept k r.1 in
        let is = sym (has_members kept k l) ∙ r.1 in
        let set· = and_left (bit_at word k) (not (any_below (drops (bit_at word) k) all_patterns)) (g.keeps k is).1 in
        by_bool (eqb k m) (λ e. rw (← eqb-true k m e) is)
        (λ e.
        not_elim (any_below (drops (bit_at word) m) all_patterns) none
        (at_any_below (drops (bit_at word) m) all_patterns k l (and_intro set· (and_intro r.2 (ap not e)))))

-- ---- the written form of what a word holds

pub minimise_held : (word : ℕ) (c : List ℕ) → Holds word (has c) → written (bit_at word) all_patterns ≡ minimise c
unfolding minimise
minimise_held word c f = written_cong (bit_at word) (has c) all_patterns (λ k h. f k)

-- a constraint in written form is that of the patterns it admits
pub written_full : (c : List ℕ) → is_written all_patterns c ≡ true → (word : ℕ) → EachLane (λ a. bit_at word a ≡ admits c a) → written (bit_at word) all_patterns ≡ c
written_full c w word f = written_cong (bit_at word) (admits c) all_patterns f ∙ written_admits all_patterns c w

pub below_most : (f : ℕ → Bool) (n : ℕ) → length (below f n) ≤ n
below_most f zero = omega arith
below_most f (suc n) =
    let l = length-append (below f n) (cond (f n) (n ∷ []) []) in
    let h = below_most f n in
    by_bool (f n) (λ e. let y = ap {B = ℕ} length (below_yes f n e) in let k = length-append (below f n) (n ∷ []) in omega arith)
    (λ e. let y = ap {B = ℕ} length (below_no f n e) in omega arith)

pub members_most : (word : ℕ) → length (members word) ≤ all_patterns
unfolding members
members_most word = below_most (bit_at word) all_patterns

-- the empty set, and that of the mask 0
pub members_none : members 0 ≡ []
unfolding members bit_at
members_none = refl

pub members_zero : members 1 ≡ 0 ∷ []
unfolding members bit_at
members_zero = refl

-- ---- the lowest bits of a pattern: a pattern of k positions, contained in it, that has the same of them

low_bits : ℕ → ℕ → Bool
low_bits k i = not (ltb i k) || bit_at (2 ^ k - 1) i

low_bit : (k i : ℕ) → k ≤ max_arity → i < k → bit_at (2 ^ k - 1) i ≡ true
unfolding low_bits bit_at
low_bit k i h l =
    or_case (not (ltb i k)) (bit_at (2 ^ k - 1) i)
    (all_below_at (low_bits k) max_arity (all_below_at (λ j. all_below (low_bits j) max_arity) 7 refl k (omega arith)) i (omega arith))
    (λ n. not_elim (ltb i k) n (lt-ltb i k l)) (λ t. t)

pub cut : ℕ → ℕ → ℕ
cut k a = bit_and a (2 ^ k - 1)

module _ (k a : ℕ) where
  pub cut_less : cut k a < 2 ^ k
  unfolding cut
  cut_less = mask_lt a k

  pub cut_bits : k ≤ max_arity → (i : ℕ) → i < k → bit_at (cut k a) i ≡ bit_at a i
  unfolding cut
  cut_bits h i l = bit_at_and a (2 ^ k - 1) i ∙ ap (λ (b : Bool). bit_at a i && b) (low_bit k i h l) ∙ and-true (bit_at a i)

  pub cut_within : within (cut k a) a ≡ true
  unfolding cut
  cut_within =
      and_within (cut k a) a
      (let h = words.within_le (bit_and (cut k a) a) (cut k a) (λ j t. and_left (bit_at (cut k a) j) (bit_at a j) (sym (bit_at_and (cut k a) a j) ∙ t)) in
      let i = words.within_le (cut k a) (bit_and (cut k a) a)
      (λ j t. bit_at_and (cut k a) a j ∙ and_intro t (and_left (bit_at a j) (bit_at (2 ^ k - 1) j) (sym (bit_at_and a (2 ^ k - 1) j) ∙ t))) in
      omega arith)

  -- a mask of k positions is contained in it where it is contained in the pattern
  within_cut : k ≤ max_arity → (m : ℕ) → m < 2 ^ k → within m a ≡ true → within m (cut k a) ≡ true
  within_cut h m l t = asked_within k m (cut k a) l (λ i g. ap (λ (b : Bool). not (bit_at m i) || b) (cut_bits h i g) ∙ within_asked m a i t)

  -- so a constraint of k positions admits it where it admits the pattern
  pub admits_cut : k ≤ max_arity → (c : List ℕ) → in_range (2 ^ k) c ≡ true → admits c (cut k a) ≡ admits c a
  admits_cut h c s =
      same (admits c (cut k a)) (admits c a) (admits_up c (cut k a) a cut_within)
      (λ t. let r = admits_has c a t in has_admits c (cut k a) r.0 r.1 (within_cut h r.0 (in_range_has (2 ^ k) c s r.0 r.1) r.2))
