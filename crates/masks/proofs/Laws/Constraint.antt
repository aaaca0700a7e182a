-- Constraints. Each mask of a set contains a least one, so the written form admits what the set admits; and a mask of a written form is told
-- from what the form admits, so two written forms that admit the same patterns are equal. Assumes nothing.
use mathlib.Core.Path.{◌≡◌, refl, sym, ap, ap₂, ◌∙◌}
use mathlib.Core.Bool.{Bool, true, false, not, cond, ◌&&◌, ◌||◌, and-or_distrib_left, and-or_distrib_right, and-false, and-true, or-false, false≢true}
use mathlib.Core.List.{List, [], ◌∷◌, ◌++◌, map}
use Prim.Native.Nat.{ℕ, zero, suc, ◌^◌, ◌≤◌, ◌<◌}
use native.Mathlib.Omega.{arith}
use lib.Bits.{bit_or, or_lt}
use lib.Dec.{eqb, ltb}
use lib.ListN.{length, get_or}
use borrow.Author.Tests.{eqb-true, eq-eqb, ne_eqb, ltb-true, lt-ltb}
use Rattle.masks.specs.Limits.{all_patterns}
use Rattle.masks.specs.Mask.{within}
use Rattle.masks.specs.Lists.{any, all, any_below, has, ascending}
use Rattle.masks.specs.Constraint.{unlike, admits, in_range, apart, is_written, drops, least, written, minimise, choice, unions, joint, same_masks}
use Rattle.masks.proofs.Laws.Logic.{by_bool, clash, false_of, same, and_intro, and_left, and_right, or_case, not_intro, not_elim}
use Rattle.masks.proofs.Laws.Lists.{pairwise_head, pairwise_tail, ascending_head, ascending_tail, any_append, all_at, has_append, has_here, any_has, has_any, all_has, has_all, any_below_at, at_any_below, below_has, has_below, any_below_cong, below_cong, ascending_below, ascending_ext}
use Rattle.masks.proofs.Laws.Mask.{within_refl, within_trans, within_le, within_antisym, within_or}

-- ---- masks in range

pub in_range_has : (n : ℕ) (c : List ℕ) → in_range n c ≡ true → (a : ℕ) → has c a ≡ true → a < n
unfolding in_range
in_range_has n c t a h = ltb-true a n (all_has (λ m. ltb m n) c t a h)

pub has_in_range : (n : ℕ) (c : List ℕ) → ((a : ℕ) → has c a ≡ true → a < n) → in_range n c ≡ true
unfolding in_range
has_in_range n c f = has_all (λ m. ltb m n) c (λ a h. lt-ltb a n (f a h))

pub in_range_at : (n : ℕ) (c : List ℕ) (i : ℕ) → in_range n c ≡ true → i < length c → get_or c i 0 < n
unfolding in_range
in_range_at n c i t h = ltb-true (get_or c i 0) n (all_at (λ m. ltb m n) 0 c i h t)

pub in_range_mono : (n k : ℕ) (c : List ℕ) → n ≤ k → in_range n c ≡ true → in_range k c ≡ true
in_range_mono n k c l t = has_in_range k c (λ a h. let b = in_range_has n c t a h in omega arith)

-- ---- admits

pub admits_has : (c : List ℕ) (a : ℕ) → admits c a ≡ true → (m : ℕ) × (has c m ≡ true) × (within m a ≡ true)
unfolding admits
admits_has c a t = any_has (λ m. within m a) c t

pub has_admits : (c : List ℕ) (a m : ℕ) → has c m ≡ true → within m a ≡ true → admits c a ≡ true
unfolding admits
has_admits c a m h w = has_any (λ k. within k a) c m h w

-- f is kept when a pattern grows; what a constraint admits is
abbrev pub Up : (ℕ → Bool) → Type 0
Up f = (a b : ℕ) → within a b ≡ true → f a ≡ true → f b ≡ true

pub admits_up : (c : List ℕ) → Up (admits c)
admits_up c a b w t = let r = admits_has c a t in has_admits c b r.0 r.1 (within_trans r.0 a b r.2 w)

pub admits_append : (c d : List ℕ) (a : ℕ) → admits (c ++ d) a ≡ (admits c a || admits d a)
unfolding admits
admits_append c d a = any_append (λ m. within m a) c d

-- ---- the parts of a written form

module _ (n : ℕ) (c : List ℕ) (w : is_written n c ≡ true) where
  pub written_in_range : in_range n c ≡ true
  unfolding is_written
  written_in_range = and_left (in_range n c) (ascending c && apart c) w

  pub written_ascending : ascending c ≡ true
  unfolding is_written
  written_ascending = and_left (ascending c) (apart c) (and_right (in_range n c) (ascending c && apart c) w)

  pub written_apart : apart c ≡ true
  unfolding is_written
  written_apart = and_right (ascending c) (apart c) (and_right (in_range n c) (ascending c && apart c) w)

pub is_written_mono : (n k : ℕ) (c : List ℕ) → n ≤ k → is_written n c ≡ true → is_written k c ≡ true
unfolding is_written
is_written_mono n k c l w =
    and_intro (in_range_mono n k c l (written_in_range n c w)) (and_intro (written_ascending n c w) (written_apart n c w))

-- of two masks of a list that are apart, one is contained in the other only if they are the same
pub apart_within : (c : List ℕ) → apart c ≡ true → (a b : ℕ) → has c a ≡ true → has c b ≡ true → within a b ≡ true → a ≡ b
apart_within [] t a b m h w = clash m refl
apart_within (x ∷ xs) t a b m h w =
    or_case (eqb a x) (has xs a) m
    (λ p. or_case (eqb b x) (has xs b) h
    (λ q. eqb-true a x p ∙ sym (eqb-true b x q))
    (λ k. not_elim (within x b) (and_left (not (within x b)) (not (within b x)) (others b k)) (ap (λ (y : ℕ). within y b) (sym (eqb-true a x p)) ∙ w)))
    (λ k. or_case (eqb b x) (has xs b) h
    (λ q. not_elim (within a x) (and_right (not (within x a)) (not (within a x)) (others a k)) (ap (within a) (sym (eqb-true b x q)) ∙ w))
    (λ l. apart_within xs (pairwise_tail unlike x xs t) a b k l w))
  where
    others : (y : ℕ) → has xs y ≡ true → unlike x y ≡ true
    others y k = pairwise_head unlike x xs t y k

within_apart : (c : List ℕ) → ascending c ≡ true → ((a b : ℕ) → has c a ≡ true → has c b ≡ true → within a b ≡ true → a ≡ b) → apart c ≡ true
within_apart [] s f = refl
within_apart (x ∷ xs) s f =
    and_intro
    (has_all (unlike x) xs (λ y m.
    let l = ascending_head x xs s y m in
    let k = or_tail y m in
    and_intro (not_intro (λ w. let e = f x y (has_here x xs) k w in omega arith)) (not_intro (λ w. let e = f y x k (has_here x xs) w in omega arith))))
    (within_apart xs (ascending_tail x xs s) (λ a b m h. f a b (or_tail a m) (or_tail b h)))
  where
    or_tail : (y : ℕ) → has xs y ≡ true → has (x ∷ xs) y ≡ true
    or_tail y m = by_bool (eqb y x) (λ e. rw e) (λ e. rw e m)

-- ---- CANONICAL: two written forms that admit the same patterns are equal

canonical_has : (n : ℕ) (c d : List ℕ) → is_written n c ≡ true → is_written n d ≡ true → ((a : ℕ) → a < n → admits c a ≡ admits d a)
    → (a : ℕ) → has c a ≡ true → has d a ≡ true
canonical_has n c d wc wd f a m =
    let r = admits_has d a (sym (f a (in_range_has n c (written_in_range n c wc) a m)) ∙ has_admits c a a m (within_refl a)) in
    let k = r.0 in
    let s = admits_has c k (f k (in_range_has n d (written_in_range n d wd) k r.1) ∙ has_admits d k k r.1 (within_refl k)) in
    let e = apart_within c (written_apart n c wc) s.0 a s.1 m (within_trans s.0 k a s.2 r.2) in
    let g = within_antisym k a r.2 (ap (λ (x : ℕ). within x k) (sym e) ∙ s.2) in
    ap (has d) (sym g) ∙ r.1

pub canonical : (n : ℕ) (c d : List ℕ) → is_written n c ≡ true → is_written n d ≡ true → ((a : ℕ) → a < n → admits c a ≡ admits d a) → c ≡ d
canonical n c d wc wd f =
    ascending_ext c d (written_ascending n c wc) (written_ascending n d wd) (canonical_has n c d wc wd f)
    (canonical_has n d c wd wc (λ a h. sym (f a h)))

-- ---- the written form of a set of masks

-- a mask that is kept, and what is known of it
pub written_has : (f : ℕ → Bool) (n m : ℕ) → has (written f n) m ≡ true
    → (m < n) × (f m ≡ true) × ((k : ℕ) → k < n → f k ≡ true → within k m ≡ true → k ≡ m)
unfolding written least drops
written_has f n m h =
    let r = below_has (least f n) n m h in (
      r.0,
      and_left (f m) (not (any_below (drops f m) n)) r.1,
      λ k l t w. by_bool (eqb k m) (eqb-true k m)
          (λ e. not_elim (any_below (drops f m) n) (and_right (f m) (not (any_below (drops f m) n)) r.1)
          (at_any_below (drops f m) n k l (and_intro t (and_intro w (rw e))))),
    )

has_written : (f : ℕ → Bool) (n m : ℕ) → m < n → f m ≡ true → any_below (drops f m) n ≡ false → has (written f n) m ≡ true
unfolding written least
has_written f n m h t u = has_below (least f n) n m h (and_intro t (rw u))

ascending_written : (f : ℕ → Bool) (n : ℕ) → ascending (written f n) ≡ true
unfolding written
ascending_written f n = ascending_below (least f n) n

pub written_is_written : (f : ℕ → Bool) (n : ℕ) → is_written n (written f n) ≡ true
unfolding is_written
written_is_written f n =
    and_intro (has_in_range n (written f n) (λ a m. (written_has f n a m).0))
    (and_intro (ascending_written f n)
    (within_apart (written f n) (ascending_written f n)
    (λ a b m k w. let r = written_has f n a m in (written_has f n b k).2 a r.0 r.1 w)))

-- each mask of the set contains one that is kept: itself, or one that a mask dropping it contains
written_under : (f : ℕ → Bool) (n b m : ℕ) → m < b → m < n → f m ≡ true → (k : ℕ) × (has (written f n) k ≡ true) × (within k m ≡ true)
unfolding drops
written_under f n zero m h l t = absurd (omega arith)
written_under f n (suc b) m h l t = go (written_under f n b) (any_below (drops f m) n) refl
  where
    go : ((k : ℕ) → k < b → k < n → f k ≡ true → (j : ℕ) × (has (written f n) j ≡ true) × (within j k ≡ true))
        → (v : Bool) → any_below (drops f m) n ≡ v → (j : ℕ) × (has (written f n) j ≡ true) × (within j m ≡ true)
    go rec false e = (m, has_written f n m l t e, within_refl m)
    go rec true e =
        let r = any_below_at (drops f m) n e in
        let k = r.0 in
        let q = and_right (f k) (within k m && not (eqb k m)) r.2 in
        let w = and_left (within k m) (not (eqb k m)) q in
        let ne : k ≡ m → ⊥ = λ p. not_elim (eqb k m) (and_right (within k m) (not (eqb k m)) q) (eq-eqb k m p) in
        let le = within_le k m w in
        let s = rec k (omega arith) r.1 (and_left (f k) (within k m && not (eqb k m)) r.2) in
        (s.0, s.1, within_trans s.0 k m s.2 w)

pub admits_written : (f : ℕ → Bool) (n a : ℕ) → admits (written f n) a ≡ any_below (λ m. f m && within m a) n
admits_written f n a =
    same (admits (written f n) a) (any_below (λ m. f m && within m a) n)
    (λ t. let r = admits_has (written f n) a t in let s = written_has f n r.0 r.1 in
    at_any_below (λ m. f m && within m a) n r.0 s.0 (and_intro s.1 r.2))
    (λ t. let r = any_below_at (λ m. f m && within m a) n t in let m = r.0 in
    let s = written_under f n (suc m) m (omega arith) r.1 (and_left (f m) (within m a) r.2) in
    has_admits (written f n) a s.0 s.1 (within_trans s.0 m a s.2 (and_right (f m) (within m a) r.2)))

-- of a set that is kept when a pattern grows, the written form admits just its patterns
pub admits_written_up : (f : ℕ → Bool) → Up f → (n a : ℕ) → a < n → admits (written f n) a ≡ f a
admits_written_up f up n a h =
    admits_written f n a
    ∙ same (any_below (λ m. f m && within m a) n) (f a)
    (λ t. let r = any_below_at (λ m. f m && within m a) n t in let m = r.0 in
    up m a (and_right (f m) (within m a) r.2) (and_left (f m) (within m a) r.2))
    (λ t. at_any_below (λ m. f m && within m a) n a h (and_intro t (within_refl a)))

-- sets with the same masks below n have the same written form
-- what the written form admits passes the test of an upward set, at any pattern; and it admits what passes
pub written_sound : (f : ℕ → Bool) → Up f → (n a : ℕ) → admits (written f n) a ≡ true → f a ≡ true
written_sound f up n a t =
    let r = any_below_at (λ m. f m && within m a) n (sym (admits_written f n a) ∙ t) in
    up r.0 a (and_right (f r.0) (within r.0 a) r.2) (and_left (f r.0) (within r.0 a) r.2)

-- a larger set's written form admits more, also past the n patterns
pub written_mono : (f g : ℕ → Bool) (n : ℕ) → ((a : ℕ) → a < n → f a ≡ true → g a ≡ true)
    → (a : ℕ) → admits (written f n) a ≡ true → admits (written g n) a ≡ true
written_mono f g n h a t =
    let r = any_below_at (λ m. f m && within m a) n (sym (admits_written f n a) ∙ t) in
    let m = r.0 in
    admits_written g n a
    ∙ at_any_below (λ k. g k && within k a) n m r.1
    (and_intro (h m r.1 (and_left (f m) (within m a) r.2)) (and_right (f m) (within m a) r.2))

pub written_cong : (f g : ℕ → Bool) (n : ℕ) → ((a : ℕ) → a < n → f a ≡ g a) → written f n ≡ written g n
unfolding written least drops
written_cong f g n h =
    below_cong (least f n) (least g n) n
    (λ m l. ap₂ (λ (s t : Bool). s && not t) (h m l)
    (any_below_cong (drops f m) (drops g m) n (λ k j. ap (λ (t : Bool). t && (within k m && not (eqb k m))) (h k j))))

-- a written form is the written form of what it admits
pub written_admits : (n : ℕ) (c : List ℕ) → is_written n c ≡ true → written (admits c) n ≡ c
written_admits n c w = canonical n (written (admits c) n) c (written_is_written (admits c) n) w (admits_written_up (admits c) (admits_up c) n)

-- ---- one mask more: m is kept where it is in the set and none of those kept is contained in it

drops_above : (f : ℕ → Bool) (x m : ℕ) → x < m → drops f x m ≡ false
unfolding drops
drops_above f x m h =
    false_of (λ t. let l = within_le m x (and_left (within m x) (not (eqb m x)) (and_right (f m) (within m x && not (eqb m x)) t)) in omega arith)

drops_self : (f : ℕ → Bool) (m : ℕ) → drops f m m ≡ false
unfolding drops
drops_self f m = rw (eq-eqb m m refl, and-false (within m m), and-false (f m))

drops_under : (f : ℕ → Bool) (m k : ℕ) → k < m → drops f m k ≡ (f k && within k m)
unfolding drops
drops_under f m k h = rw (ne_eqb k m (λ e. omega arith), and-true (within k m))

pub written_suc : (f : ℕ → Bool) (m : ℕ) → written f (suc m) ≡ written f m ++ cond (f m && not (admits (written f m) m)) (m ∷ []) []
unfolding written least
written_suc f m =
    ap₂ (λ (l : List ℕ) (b : Bool). l ++ cond b (m ∷ []) [])
    (below_cong (least f (suc m)) (least f m) m (λ x h. ap (λ (b : Bool). f x && not (any_below (drops f x) m || b)) (drops_above f x m h)
    ∙ ap (λ (b : Bool). f x && not b) (or-false (any_below (drops f x) m))))
    (ap (λ (b : Bool). f m && not b)
    (ap₂ (λ (a b : Bool). a || b) (any_below_cong (drops f m) (λ k. f k && within k m) m (drops_under f m)) (drops_self f m)
    ∙ or-false (any_below (λ k. f k && within k m) m) ∙ sym (admits_written f m m)))

-- ---- lists in any order

pub minimise_is_written : (c : List ℕ) → is_written all_patterns (minimise c) ≡ true
unfolding minimise
minimise_is_written c = written_is_written (has c) all_patterns

pub admits_minimise : (c : List ℕ) → in_range all_patterns c ≡ true → (a : ℕ) → admits (minimise c) a ≡ admits c a
unfolding minimise
admits_minimise c s a =
    admits_written (has c) all_patterns a
    ∙ same (any_below (λ m. has c m && within m a) all_patterns) (admits c a)
    (λ t. let r = any_below_at (λ m. has c m && within m a) all_patterns t in let m = r.0 in
    has_admits c a m (and_left (has c m) (within m a) r.2) (and_right (has c m) (within m a) r.2))
    (λ t. let r = admits_has c a t in let m = r.0 in
    at_any_below (λ k. has c k && within k a) all_patterns m (in_range_has all_patterns c s m r.1) (and_intro r.1 r.2))

-- no mask is made up
pub minimise_in_range : (n : ℕ) (c : List ℕ) → in_range n c ≡ true → in_range n (minimise c) ≡ true
unfolding minimise
minimise_in_range n c s = has_in_range n (written (has c) all_patterns) (λ a h. in_range_has n c s a (written_has (has c) all_patterns a h).1)

-- so it is a written form of as many patterns as the list
pub minimise_is_written_at : (n : ℕ) (c : List ℕ) → in_range n c ≡ true → is_written n (minimise c) ≡ true
unfolding is_written
minimise_is_written_at n c s =
    let w = minimise_is_written c in
    and_intro (minimise_in_range n c s) (and_intro (written_ascending all_patterns (minimise c) w) (written_apart all_patterns (minimise c) w))

pub minimise_same : (c : List ℕ) → is_written all_patterns c ≡ true → minimise c ≡ c
minimise_same c w =
    canonical all_patterns (minimise c) c (minimise_is_written c) w (λ a h. admits_minimise c (written_in_range all_patterns c w) a)

-- ---- choice: the masks of both

append_in_range : (n : ℕ) (c d : List ℕ) → in_range n c ≡ true → in_range n d ≡ true → in_range n (c ++ d) ≡ true
append_in_range n c d s t =
    has_in_range n (c ++ d)
    (λ a h. or_case (has c a) (has d a) (sym (has_append c d a) ∙ h) (in_range_has n c s a) (in_range_has n d t a))

pub choice_is_written : (c d : List ℕ) → is_written all_patterns (choice c d) ≡ true
unfolding choice
choice_is_written c d = minimise_is_written (c ++ d)

pub choice_is_written_at : (n : ℕ) (c d : List ℕ) → in_range n c ≡ true → in_range n d ≡ true → is_written n (choice c d) ≡ true
unfolding choice
choice_is_written_at n c d s t = minimise_is_written_at n (c ++ d) (append_in_range n c d s t)

pub admits_choice : (c d : List ℕ) → in_range all_patterns c ≡ true → in_range all_patterns d ≡ true
    → (a : ℕ) → admits (choice c d) a ≡ (admits c a || admits d a)
unfolding choice
admits_choice c d s t a = admits_minimise (c ++ d) (append_in_range all_patterns c d s t) a ∙ admits_append c d a

-- ---- joint: the union of each mask of one with each of the other

module _ (k m : ℕ) (h : m < 2 ^ k) where
  union_in_range : (d : List ℕ) → in_range (2 ^ k) d ≡ true → in_range (2 ^ k) (map (bit_or m) d) ≡ true
  unfolding in_range
  union_in_range [] s = refl
  union_in_range (y ∷ ys) s =
      let l = ltb-true y (2 ^ k) (and_left (ltb y (2 ^ k)) (all (λ x. ltb x (2 ^ k)) ys) s) in
      and_intro (lt-ltb (bit_or m y) (2 ^ k) (or_lt k m y h l)) (union_in_range ys (and_right (ltb y (2 ^ k)) (all (λ x. ltb x (2 ^ k)) ys) s))

unions_in_range : (k : ℕ) (c d : List ℕ) → in_range (2 ^ k) c ≡ true → in_range (2 ^ k) d ≡ true → in_range (2 ^ k) (unions c d) ≡ true
unfolding in_range
unions_in_range k [] d s t = refl
unions_in_range k (x ∷ xs) d s t =
    append_in_range (2 ^ k) (map (bit_or x) d) (unions xs d)
    (union_in_range k x (ltb-true x (2 ^ k) (and_left (ltb x (2 ^ k)) (all (λ y. ltb y (2 ^ k)) xs) s)) d t)
    (unions_in_range k xs d (and_right (ltb x (2 ^ k)) (all (λ y. ltb y (2 ^ k)) xs) s) t)

pub joint_is_written : (c d : List ℕ) → is_written all_patterns (joint c d) ≡ true
unfolding joint
joint_is_written c d = minimise_is_written (unions c d)

pub joint_is_written_at : (k : ℕ) (c d : List ℕ) → in_range (2 ^ k) c ≡ true → in_range (2 ^ k) d ≡ true → is_written (2 ^ k) (joint c d) ≡ true
unfolding joint
joint_is_written_at k c d s t = minimise_is_written_at (2 ^ k) (unions c d) (unions_in_range k c d s t)

admits_union : (m : ℕ) (d : List ℕ) (a : ℕ) → admits (map (bit_or m) d) a ≡ (within m a && admits d a)
unfolding admits
admits_union m [] a = sym (and-false (within m a))
admits_union m (y ∷ ys) a =
    ap₂ (λ (p q : Bool). p || q) (within_or m y a) (admits_union m ys a)
    ∙ sym (and-or_distrib_left (within m a) (within y a) (any (λ k. within k a) ys))

admits_unions : (c d : List ℕ) (a : ℕ) → admits (unions c d) a ≡ (admits c a && admits d a)
unfolding admits
admits_unions [] d a = refl
admits_unions (x ∷ xs) d a =
    admits_append (map (bit_or x) d) (unions xs d) a ∙ ap₂ (λ (p q : Bool). p || q) (admits_union x d a) (admits_unions xs d a)
    ∙ sym (and-or_distrib_right (within x a) (any (λ k. within k a) xs) (any (λ k. within k a) d))

pub admits_joint : (c d : List ℕ) → in_range all_patterns c ≡ true → in_range all_patterns d ≡ true
    → (a : ℕ) → admits (joint c d) a ≡ (admits c a && admits d a)
unfolding joint
admits_joint c d s t a = admits_minimise (unions c d) (unions_in_range 6 c d s t) a ∙ admits_unions c d a

-- ---- the same masks, by the test

pub same_masks_true : (xs ys : List ℕ) → same_masks xs ys ≡ true → xs ≡ ys
same_masks_true [] [] e = refl
same_masks_true [] (y ∷ ys) e = absurd (false≢true e)
same_masks_true (x ∷ xs) [] e = absurd (false≢true e)
same_masks_true (x ∷ xs) (y ∷ ys) e =
    ap₂ (λ (z : ℕ) (l : List ℕ). z ∷ l) (eqb-true x y (and_left (eqb x y) (same_masks xs ys) e))
    (same_masks_true xs ys (and_right (eqb x y) (same_masks xs ys) e))

pub same_masks_refl : (xs : List ℕ) → same_masks xs xs ≡ true
same_masks_refl [] = refl
same_masks_refl (x ∷ xs) = and_intro (eq-eqb x x refl) (same_masks_refl xs)
