-- Tests over a list and over the numbers below n: what they say of the members, and how a loop makes them, one element at a time.
-- A member is said by the test `has`. Assumes nothing.
use mathlib.Core.Path.{◌≡◌, refl, sym, ap, ap₂, ◌∙◌}
use mathlib.Core.Bool.{Bool, true, false, cond, ◌&&◌, ◌||◌, or_assoc, and_assoc, or-false, and-true, false≢true}
use mathlib.Core.List.{List, [], ◌∷◌, ◌++◌, map, append-nil, append_assoc}
use Prim.Native.Nat.{ℕ, zero, suc, ◌+◌, min, ◌≤◌, ◌<◌}
use native.Mathlib.Omega.{arith}
use native.Mathlib.Numerals.{add-one}
use lib.Dec.{eqb, ltb, leb}
use lib.ListN.{length, get_or, take, set, length-append, get_or-append}
use lib.Seq.{take-nil, take-suc, take_all, take-append-le, set_comm, sets, get_or_at}
use borrow.Author.Tests.{eqb-true, eqb-false, eq-eqb, ltb-true, lt-ltb, leb-true, leb-false}
use Rattle.masks.specs.Lists.{any, all, values, joined, any_below, below, has, pairwise, ascending}
use Rattle.masks.proofs.Laws.Logic.{by_bool, clash, and_intro, and_left, and_right, or_left, or_right, or_case}

-- ---- the front of a list, and a run of stores

module _ {A : Type 0} where
  -- as many as the front has
  pub take_front : (n : ℕ) (l : List A) → take (length (take n l)) l ≡ take n l
  take_front zero l = refl
  take_front (suc n) [] = refl
  take_front (suc n) (x ∷ xs) = ap {B = List A} (λ (t : List A). x ∷ t) (take_front n xs)

  pub sets_append : (l : List A) (i : ℕ) (xs ys : List A) → sets l i (xs ++ ys) ≡ sets (sets l i xs) (i + length xs) ys
  sets_append l i [] ys = let e : i ≡ i + 0 = omega arith in ap (λ (k : ℕ). sets l k ys) e
  sets_append l i (x ∷ xs) ys =
      let e : suc i + length xs ≡ i + suc (length xs) = omega arith in
      sets_append (set l i x) (suc i) xs ys ∙ ap (λ (k : ℕ). sets (sets (set l i x) (suc i) xs) k ys) e

  -- a store before them, done first
  pub sets_set : (l : List A) (i j : ℕ) (x : A) (vs : List A) → i < j → set (sets l j vs) i x ≡ sets (set l i x) j vs
  sets_set l i j x [] h = refl
  sets_set l i j x (v ∷ vs) h = sets_set (set l j v) i (suc j) x vs (omega arith) ∙ ap (λ (k : List A). sets k (suc j) vs) (set_comm l j i v x (λ e. omega arith))

-- ---- any and all

module _ {A : Type 0} (p : A → Bool) where
  pub any_append : (xs ys : List A) → any p (xs ++ ys) ≡ (any p xs || any p ys)
  any_append [] ys = refl
  any_append (x ∷ xs) ys = ap (λ (b : Bool). p x || b) (any_append xs ys) ∙ sym (or_assoc (p x) (any p xs) (any p ys))

  pub all_append : (xs ys : List A) → all p (xs ++ ys) ≡ (all p xs && all p ys)
  all_append [] ys = refl
  all_append (x ∷ xs) ys = ap (λ (b : Bool). p x && b) (all_append xs ys) ∙ sym (and_assoc (p x) (all p xs) (all p ys))

  -- one element more
  pub any_suc : (d : A) (xs : List A) (i : ℕ) → i < length xs → any p (take (i + 1) xs) ≡ (any p (take i xs) || p (get_or xs i d))
  any_suc d xs i h =
      rw (add-one, take-suc xs i d h) (any_append (take i xs) (get_or xs i d ∷ []) ∙ ap (λ (b : Bool). any p (take i xs) || b) (or-false (p (get_or xs i d))))

  pub all_suc : (d : A) (xs : List A) (i : ℕ) → i < length xs → all p (take (i + 1) xs) ≡ (all p (take i xs) && p (get_or xs i d))
  all_suc d xs i h =
      rw (add-one, take-suc xs i d h) (all_append (take i xs) (get_or xs i d ∷ []) ∙ ap (λ (b : Bool). all p (take i xs) && b) (and-true (p (get_or xs i d))))

  -- the element at i
  pub any_at : (d : A) (xs : List A) (i : ℕ) → i < length xs → p (get_or xs i d) ≡ true → any p xs ≡ true
  any_at d [] i h t = absurd (omega arith)
  any_at d (x ∷ xs) zero h t = or_left (p x) (any p xs) t
  any_at d (x ∷ xs) (suc i) h t = or_right (p x) (any_at d xs i (omega arith) t)

  pub all_at : (d : A) (xs : List A) (i : ℕ) → i < length xs → all p xs ≡ true → p (get_or xs i d) ≡ true
  all_at d [] i h t = absurd (omega arith)
  all_at d (x ∷ xs) zero h t = and_left (p x) (all p xs) t
  all_at d (x ∷ xs) (suc i) h t = all_at d xs i (omega arith) (and_right (p x) (all p xs) t)

-- ---- the members of a list of numbers

pub has_append : (xs ys : List ℕ) (a : ℕ) → has (xs ++ ys) a ≡ (has xs a || has ys a)
has_append xs ys a = any_append (eqb a) xs ys

pub has_here : (x : ℕ) (xs : List ℕ) → has (x ∷ xs) x ≡ true
has_here x xs = or_left (eqb x x) (has xs x) (eq-eqb x x refl)

module _ (p : ℕ → Bool) where
  pub any_has : (xs : List ℕ) → any p xs ≡ true → (a : ℕ) × (has xs a ≡ true) × (p a ≡ true)
  any_has [] t = absurd (false≢true t)
  any_has (x ∷ xs) t =
      or_case (p x) (any p xs) t (λ s. (x, has_here x xs, s)) (λ s. let r = any_has xs s in (r.0, or_right (eqb r.0 x) r.1, r.2))

  pub has_any : (xs : List ℕ) (a : ℕ) → has xs a ≡ true → p a ≡ true → any p xs ≡ true
  has_any [] a h t = absurd (false≢true h)
  has_any (x ∷ xs) a h t =
      or_case (eqb a x) (has xs a) h (λ e. or_left (p x) (any p xs) (ap p (sym (eqb-true a x e)) ∙ t)) (λ m. or_right (p x) (has_any xs a m t))

  pub all_has : (xs : List ℕ) → all p xs ≡ true → (a : ℕ) → has xs a ≡ true → p a ≡ true
  all_has [] t a h = absurd (false≢true h)
  all_has (x ∷ xs) t a h =
      or_case (eqb a x) (has xs a) h (λ e. ap p (eqb-true a x e) ∙ and_left (p x) (all p xs) t) (all_has xs (and_right (p x) (all p xs) t) a)

  pub has_all : (xs : List ℕ) → ((a : ℕ) → has xs a ≡ true → p a ≡ true) → all p xs ≡ true
  has_all [] f = refl
  has_all (x ∷ xs) f = and_intro (f x (has_here x xs)) (has_all xs (λ a h. f a (or_right (eqb a x) h)))

pub has_map : (f : ℕ → ℕ) (xs : List ℕ) (a : ℕ) → has (map f xs) a ≡ any (λ x. eqb a (f x)) xs
has_map f [] a = refl
has_map f (x ∷ xs) a = ap (λ (b : Bool). eqb a (f x) || b) (has_map f xs a)

-- ---- the numbers below n

module _ (p : ℕ → Bool) where
  pub any_below_at : (n : ℕ) → any_below p n ≡ true → (k : ℕ) × (k < n) × (p k ≡ true)
  any_below_at zero t = absurd (false≢true t)
  any_below_at (suc n) t =
      or_case (any_below p n) (p n) t (λ s. let r : (k : ℕ) × (k < n) × (p k ≡ true) = any_below_at n s in (r.0, omega arith, r.2)) (λ s. (n, omega arith, s))

  pub at_any_below : (n k : ℕ) → k < n → p k ≡ true → any_below p n ≡ true
  at_any_below zero k h t = absurd (omega arith)
  at_any_below (suc n) k h t =
      by_bool (eqb k n) (λ e. or_right (any_below p n) (ap p (sym (eqb-true k n e)) ∙ t))
      (λ e. let ne : k ≡ n → ⊥ = eqb-false k n e in or_left (any_below p n) (p n) (at_any_below n k (omega arith) t))

  last_has : (b : Bool) (n a : ℕ) → has (cond b (n ∷ []) []) a ≡ true → (a ≡ n) × (b ≡ true)
  last_has true n a h = (eqb-true a n (sym (or-false (eqb a n)) ∙ h), refl)
  last_has false n a h = absurd (false≢true h)

  pub below_has : (n a : ℕ) → has (below p n) a ≡ true → (a < n) × (p a ≡ true)
  below_has zero a h = absurd (false≢true h)
  below_has (suc n) a h =
      or_case (has (below p n) a) (has (cond (p n) (n ∷ []) []) a) (sym (has_append (below p n) (cond (p n) (n ∷ []) []) a) ∙ h)
      (λ s. let r : (a < n) × (p a ≡ true) = below_has n a s in (omega arith, r.1))
      (λ s. let r = last_has (p n) n a s in let e : a ≡ n = r.0 in (omega arith, ap p e ∙ r.1))

  pub has_below : (n a : ℕ) → a < n → p a ≡ true → has (below p n) a ≡ true
  has_below zero a h t = absurd (omega arith)
  has_below (suc n) a h t =
      has_append (below p n) (cond (p n) (n ∷ []) []) a
      ∙ by_bool (eqb a n)
      (λ e. let q : p n ≡ true = ap p (sym (eqb-true a n e)) ∙ t in or_right (has (below p n) a) (rw (q, e)))
      (λ e. let ne : a ≡ n → ⊥ = eqb-false a n e in or_left (has (below p n) a) (has (cond (p n) (n ∷ []) []) a) (has_below n a (omega arith) t))

pub any_below_cong : (p q : ℕ → Bool) (n : ℕ) → ((k : ℕ) → k < n → p k ≡ q k) → any_below p n ≡ any_below q n
any_below_cong p q zero f = refl
any_below_cong p q (suc n) f = ap₂ (λ (a b : Bool). a || b) (any_below_cong p q n (λ k h. f k (omega arith))) (f n (omega arith))

pub below_cong : (p q : ℕ → Bool) (n : ℕ) → ((k : ℕ) → k < n → p k ≡ q k) → below p n ≡ below q n
below_cong p q zero f = refl
below_cong p q (suc n) f = ap₂ (λ (l : List ℕ) (b : Bool). l ++ cond b (n ∷ []) []) (below_cong p q n (λ k h. f k (omega arith))) (f n (omega arith))

-- p holds of each number below n: a test that is computed, and what it says of each
abbrev pub all_below : (ℕ → Bool) → ℕ → Bool
all_below p zero = true
all_below p (suc n) = p n && all_below p n

module _ (p : ℕ → Bool) where
  pub all_below_at : (n : ℕ) → all_below p n ≡ true → (k : ℕ) → k < n → p k ≡ true
  all_below_at zero t k h = absurd (omega arith)
  all_below_at (suc n) t k h =
      by_bool (eqb k n) (λ e. ap p (eqb-true k n e) ∙ and_left (p n) (all_below p n) t)
      (λ e. let ne : k ≡ n → ⊥ = eqb-false k n e in all_below_at n (and_right (p n) (all_below p n) t) k (omega arith))

  pub at_all_below : (n : ℕ) → ((k : ℕ) → k < n → p k ≡ true) → all_below p n ≡ true
  at_all_below zero f = refl
  at_all_below (suc n) f = and_intro (f n (omega arith)) (at_all_below n (λ k h. f k (omega arith)))

-- ---- lists in which a relation holds pairwise

module _ (r : ℕ → ℕ → Bool) (x : ℕ) (xs : List ℕ) (t : pairwise r (x ∷ xs) ≡ true) where
  pub pairwise_head : (a : ℕ) → has xs a ≡ true → r x a ≡ true
  pairwise_head a h = all_has (r x) xs (and_left (all (r x) xs) (pairwise r xs) t) a h

  pub pairwise_tail : pairwise r xs ≡ true
  pairwise_tail = and_right (all (r x) xs) (pairwise r xs) t

-- ---- ascending lists

-- the first is less than the others
pub ascending_head : (x : ℕ) (xs : List ℕ) → ascending (x ∷ xs) ≡ true → (a : ℕ) → has xs a ≡ true → x < a
ascending_head x xs t a h = ltb-true x a (pairwise_head ltb x xs t a h)

pub ascending_tail : (x : ℕ) (xs : List ℕ) → ascending (x ∷ xs) ≡ true → ascending xs ≡ true
ascending_tail x xs t = pairwise_tail ltb x xs t

ascending_append : (xs ys : List ℕ) → ascending xs ≡ true → ascending ys ≡ true
    → ((a b : ℕ) → has xs a ≡ true → has ys b ≡ true → a < b) → ascending (xs ++ ys) ≡ true
ascending_append [] ys s t f = t
ascending_append (x ∷ xs) ys s t f =
    and_intro
    (has_all (ltb x) (xs ++ ys) (λ a h. or_case (has xs a) (has ys a) (sym (has_append xs ys a) ∙ h)
    (λ m. lt-ltb x a (ascending_head x xs s a m)) (λ m. lt-ltb x a (f x a (has_here x xs) m))))
    (ascending_append xs ys (ascending_tail x xs s) t (λ a b m h. f a b (or_right (eqb a x) m) h))

pub ascending_below : (p : ℕ → Bool) (n : ℕ) → ascending (below p n) ≡ true
ascending_below p zero = refl
ascending_below p (suc n) =
    ascending_append (below p n) (cond (p n) (n ∷ []) []) (ascending_below p n) (last (p n))
    (λ a b m h. let l = (below_has p n a m).0 in let e = (last_has p (p n) n b h).0 in omega arith)
  where
    last : (b : Bool) → ascending (cond b (n ∷ []) []) ≡ true
    last true = refl
    last false = refl

-- two ascending lists with the same members are equal
pub ascending_ext : (c d : List ℕ) → ascending c ≡ true → ascending d ≡ true
    → ((a : ℕ) → has c a ≡ true → has d a ≡ true) → ((a : ℕ) → has d a ≡ true → has c a ≡ true) → c ≡ d
ascending_ext [] [] s t f g = refl
ascending_ext [] (y ∷ ys) s t f g = absurd (false≢true (g y (has_here y ys)))
ascending_ext (x ∷ xs) [] s t f g = absurd (false≢true (f x (has_here x xs)))
ascending_ext (x ∷ xs) (y ∷ ys) s t f g =
    ap₂ {C = List ℕ} ◌∷◌ first
    (ascending_ext xs ys (ascending_tail x xs s) (ascending_tail y ys t)
    (λ a m. or_case (eqb a y) (has ys a) (f a (or_right (eqb a x) m))
    (λ e. let q : a ≡ y = eqb-true a y e in let l = ascending_head x xs s a m in let u = first in absurd (omega arith)) (λ h. h))
    (λ a m. or_case (eqb a x) (has xs a) (g a (or_right (eqb a y) m))
    (λ e. let q : a ≡ x = eqb-true a x e in let l = ascending_head y ys t a m in let u = first in absurd (omega arith)) (λ h. h)))
  where
    first : x ≡ y
    first =
        or_case (eqb x y) (has ys x) (f x (has_here x xs)) (eqb-true x y)
        (λ h. or_case (eqb y x) (has xs y) (g y (has_here y ys)) (λ e. sym (eqb-true y x e))
        (λ m. let l = ascending_head y ys t x h in let k = ascending_head x xs s y m in absurd (omega arith)))

-- ---- two tests

module _ {A : Type 0} (p q : A → Bool) where
  pub all_mono : ((x : A) → p x ≡ true → q x ≡ true) → (xs : List A) → all p xs ≡ true → all q xs ≡ true
  all_mono h [] t = refl
  all_mono h (x ∷ xs) t = and_intro (h x (and_left (p x) (all p xs) t)) (all_mono h xs (and_right (p x) (all p xs) t))

  -- the same of every element that passes a third
  pub all_same : (r : A → Bool) → ((x : A) → r x ≡ false → p x ≡ q x) → (xs : List A) → any r xs ≡ false → all p xs ≡ all q xs
  all_same r h [] t = refl
  all_same r h (x ∷ xs) t =
      by_bool (r x) (λ e. clash (or_left (r x) (any r xs) e) t)
      (λ e. ap₂ (λ (a b : Bool). a && b) (h x e) (all_same r h xs (ap (λ (a : Bool). a || any r xs) (sym e) ∙ t)))

-- ---- the first n values of a function

module _ {A : Type 0} where
  pub length_values : (f : ℕ → A) (n : ℕ) → length (values f n) ≡ n
  length_values f zero = refl
  length_values f (suc n) = length-append (values f n) (f n ∷ []) ∙ omega (arith, length_values f n)

  pub values_cong : (f g : ℕ → A) (n : ℕ) → ((i : ℕ) → i < n → f i ≡ g i) → values f n ≡ values g n
  values_cong f g zero h = refl
  values_cong f g (suc n) h = ap₂ (λ (s : List A) (x : A). s ++ (x ∷ [])) (values_cong f g n (λ i l. h i (omega arith))) (h n (omega arith))

  pub take_values : (f : ℕ → A) (m n : ℕ) → take m (values f n) ≡ values f (min m n)
  take_values f m zero = let e : 0 ≡ min m 0 = omega arith in take-nil m ∙ ap (values f) e
  take_values f m (suc n) =
      let l = length_values f n in
      let k = length_values f (suc n) in
      by_bool (leb m n)
      (λ t.
      let h = leb-true m n t in
      let e : min m n ≡ min m (suc n) = omega arith in
      take-append-le m (values f n) (f n ∷ []) (omega arith) ∙ take_values f m n ∙ ap (values f) e)
      (λ t.
      let h = leb-false m n t in
      let e : suc n ≡ min m (suc n) = omega arith in
      take_all m (values f (suc n)) (omega arith) ∙ ap (values f) e)

  pub get_or_values : (f : ℕ → A) (d : A) (n i : ℕ) → i < n → get_or (values f n) i d ≡ f i
  get_or_values f d zero i h = absurd (omega arith)
  get_or_values f d (suc n) i h =
      let l = length_values f n in
      by_bool (leb n i)
      (λ t.
      let k = leb-true n i t in
      let e : n ≡ i = omega arith in
      get_or_at (values f n) (f n) [] d i (omega arith) ∙ ap f e)
      (λ t. let k = leb-false n i t in get_or-append (values f n) (f n ∷ []) d i (omega arith) ∙ get_or_values f d n i k)

-- ---- lists one after the other

module _ {A : Type 0} where
  pub joined_cong : (f g : ℕ → List A) (n : ℕ) → ((k : ℕ) → k < n → f k ≡ g k) → joined f n ≡ joined g n
  joined_cong f g zero h = refl
  joined_cong f g (suc n) h = ap₂ {C = List A} ◌++◌ (joined_cong f g n (λ k l. h k (omega arith))) (h n (omega arith))

  -- each of them, behind those before it
  pub joined_at : (f : ℕ → List A) (n k : ℕ) → k < n → (after : List A) × (joined f k ++ (f k ++ after) ≡ joined f n)
  joined_at f zero k l = absurd (omega arith)
  joined_at f (suc n) k l =
      by_bool (eqb k n)
      (λ t. ([], ap (λ (i : ℕ). joined f i ++ (f i ++ [])) (eqb-true k n t) ∙ ap (λ (m : List A). joined f n ++ m) (append-nil (f n))))
      (λ t.
      let ne = eqb-false k n t in
      let (after, e) = joined_at f n k (omega arith) in (
        after ++ f n,
        ap (λ (m : List A). joined f k ++ m) (sym (append_assoc (f k) after (f n))) ∙ sym (append_assoc (joined f k) (f k ++ after) (f n))
            ∙ ap (λ (m : List A). m ++ f n) e,
      ))

  -- where no list from n on has anything
  pub joined_cut : (f : ℕ → List A) (n m : ℕ) → n ≤ m → ((k : ℕ) → n ≤ k → f k ≡ []) → joined f m ≡ joined f n
  joined_cut f n zero l h = let e : 0 ≡ n = omega arith in ap (joined f) e
  joined_cut f n (suc m) l h =
      by_bool (leb n m)
      (λ t. let k = leb-true n m t in rw (h m k) (append-nil (joined f m) ∙ joined_cut f n m k h))
      (λ t. let k = leb-false n m t in let e : suc m ≡ n = omega arith in ap (joined f) e)

  module _ (p : A → Bool) (f : ℕ → List A) where
    pub any_joined : (n k : ℕ) → k < n → any p (f k) ≡ true → any p (joined f n) ≡ true
    any_joined zero k h e = absurd (omega arith)
    any_joined (suc n) k h e =
        any_append p (joined f n) (f n)
        ∙ by_bool (eqb k n)
        (λ t. or_right (any p (joined f n)) (ap (λ (i : ℕ). any p (f i)) (sym (eqb-true k n t)) ∙ e))
        (λ t. let ne = eqb-false k n t in or_left (any p (joined f n)) (any p (f n)) (any_joined n k (omega (arith, ne)) e))

    pub joined_any : (n : ℕ) → any p (joined f n) ≡ true → (k : ℕ) × (k < n) × (any p (f k) ≡ true)
    joined_any zero e = absurd (false≢true e)
    joined_any (suc n) e =
        or_case (any p (joined f n)) (any p (f n)) (sym (any_append p (joined f n) (f n)) ∙ e)
        (λ t. let r = joined_any n t in (r.0, omega (arith, r.1), r.2))
        (λ t. (n, omega arith, t))
