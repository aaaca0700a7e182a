-- ORDERS: to rearrange places is to take them one by one, and `orders` takes at each turn every place that is left, the smaller first. So it
-- lists each rearrangement once, compared from the left; by induction on how many places are left. Assumes nothing.
use mathlib.Core.Path.{◌≡◌, refl, sym, ap, ◌∙◌, subst}
use mathlib.Core.Bool.{Bool, true, false, cond}
use mathlib.Core.Logic.{◌⊎◌, inl, inr, ⊎_elim}
use mathlib.Core.List.{List, [], ◌∷◌, ◌++◌, map}
use mathlib.Core.Option.{none, some, none-ne-some, some-injective}
use Prim.Native.Nat.{ℕ, zero, suc, ◌+◌, ◌≤◌, ◌<◌}
use native.Mathlib.Nat.{suc_inj}
use native.Mathlib.Omega.{arith}
use lib.Dec.{eqb}
use lib.ListN.{length, get_or}
use borrow.Author.Tests.{eqb-true, eqb-false, eq-eqb, ne_eqb}
use Rattle.masks.specs.Lists.{joined}
use Rattle.ordering.specs.Orders.{In, Distinct, Rearranges, LexLt, Sorted, find, without, each, orders_of, count, orders}
use Rattle.masks.proofs.Laws.Logic.{by_bool, clash}

-- ---- by computing

pub orders_three : orders 3 ≡ (0 ∷ 1 ∷ 2 ∷ []) ∷ (0 ∷ 2 ∷ 1 ∷ []) ∷ (1 ∷ 0 ∷ 2 ∷ []) ∷ (1 ∷ 2 ∷ 0 ∷ []) ∷ (2 ∷ 0 ∷ 1 ∷ []) ∷ (2 ∷ 1 ∷ 0 ∷ []) ∷ []
unfolding without each orders_of count orders
orders_three = refl

-- ---- the element at a place

pub in_at : {A : Type 0} (d : A) (l : List A) (i : ℕ) → i < length l → In (get_or l i d) l
in_at d [] i h = absurd (omega arith)
in_at d (x ∷ l) zero h = inl refl
in_at d (x ∷ l) (suc i) h = inr (in_at d l i (omega arith))

-- ---- the first element that passes

module _ {A : Type 0} (p : A → Bool) where
  find_yes : (x : A) (l : List A) → p x ≡ true → find p (x ∷ l) ≡ some x
  unfolding find
  find_yes x l e = rw e

  find_no : (x : A) (l : List A) → p x ≡ false → find p (x ∷ l) ≡ find p l
  unfolding find
  find_no x l e = rw e

  pub find_some : (l : List A) (x : A) → find p l ≡ some x → In x l × (p x ≡ true)
  find_some [] x h = absurd (none-ne-some x (unfold find in h))
  find_some (y ∷ l) x h =
      by_bool (p y)
      (λ e. let q : y ≡ x = some-injective y x (sym (find_yes y l e) ∙ h) in (inl (sym q), ap p (sym q) ∙ e))
      (λ e. let r = find_some l x (sym (find_no y l e) ∙ h) in (inr r.0, r.1))

  pub find_none : (l : List A) → find p l ≡ none → (x : A) → In x l → p x ≡ true → ⊥
  find_none [] h x m t = m
  find_none (y ∷ l) h x m t =
      by_bool (p y) (λ e. none-ne-some y (sym h ∙ find_yes y l e))
      (λ e. ⊎_elim (λ q. clash t (ap p q ∙ e)) (λ k. find_none l (sym (find_no y l e) ∙ h) x k t) m)

  -- of a sorted list it is the smallest that passes
  pub find_least : (R : A → A → Type 0) (l : List A) (x : A) → Sorted R l → find p l ≡ some x → (y : A) → In y l → p y ≡ true → (x ≡ y) ⊎ R x y
  find_least R [] x r h y m t = absurd m
  find_least R (z ∷ l) x r h y m t =
      by_bool (p z)
      (λ e. let q : z ≡ x = some-injective z x (sym (find_yes z l e) ∙ h) in
      ⊎_elim (λ u. inl (sym q ∙ sym u)) (λ k. inr (subst (λ (u : A). R u y) q (r.0 y k))) m)
      (λ e. ⊎_elim (λ u. clash t (ap p u ∙ e)) (λ k. find_least R l x r.1 (sym (find_no z l e) ∙ h) y k t) m)

-- ---- a list without an element

-- x is y or it is not
pub same? : (x y : ℕ) → (x ≡ y) ⊎ (x ≡ y → ⊥)
same? x y = by_bool (eqb x y) (λ e. inl (eqb-true x y e)) (λ e. inr (eqb-false x y e))

module _ (x : ℕ) where
  pub without_same : (l : List ℕ) → without x (x ∷ l) ≡ l
  unfolding without
  without_same l = rw (eq-eqb x x refl)

  pub without_other : (y : ℕ) (l : List ℕ) → (x ≡ y → ⊥) → without x (y ∷ l) ≡ y ∷ without x l
  unfolding without
  without_other y l h = rw (ne_eqb x y h)

pub without_length : (x : ℕ) (l : List ℕ) → In x l → length l ≡ suc (length (without x l))
without_length x [] m = absurd m
without_length x (y ∷ l) m = go (same? x y) (without_length x l) m
  where
    go : (x ≡ y) ⊎ (x ≡ y → ⊥) → (In x l → length l ≡ suc (length (without x l))) → In x (y ∷ l) → suc (length l) ≡ suc (length (without x (y ∷ l)))
    go (inl e) r m = rw (e, without_same y l)
    go (inr d) r (inl e) = absurd (d e)
    go (inr d) r (inr k) = rw (without_other x y l d) (ap suc (r k))

-- what is left was there
pub without_in : (x y : ℕ) (l : List ℕ) → In y (without x l) → In y l
unfolding without
without_in x y [] m = absurd m
without_in x y (z ∷ l) m = go (eqb x z) (without_in x y l) m
  where
    go : (c : Bool) → (In y (without x l) → In y l) → In y (cond c l (z ∷ without x l)) → In y (z ∷ l)
    go true r m = inr m
    go false r (inl e) = inl e
    go false r (inr k) = inr (r k)

-- another element stays
pub without_keeps : (x y : ℕ) (l : List ℕ) → (x ≡ y → ⊥) → In y l → In y (without x l)
unfolding without
without_keeps x y [] d m = absurd m
without_keeps x y (z ∷ l) d m = go (eqb x z) refl (without_keeps x y l d) m
  where
    go : (c : Bool) → eqb x z ≡ c → (In y l → In y (without x l)) → In y (z ∷ l) → In y (cond c l (z ∷ without x l))
    go true e r (inl q) = absurd (d (eqb-true x z e ∙ sym q))
    go true e r (inr k) = k
    go false e r (inl q) = inl q
    go false e r (inr k) = inr (r k)

-- in a list with no element twice, x itself goes
pub without_gone : (x : ℕ) (l : List ℕ) → Distinct l → In x (without x l) → ⊥
unfolding without
without_gone x [] d m = m
without_gone x (z ∷ l) d m = go (eqb x z) refl (without_gone x l d.1) m
  where
    go : (c : Bool) → eqb x z ≡ c → (In x (without x l) → ⊥) → In x (cond c l (z ∷ without x l)) → ⊥
    go true e r k = d.0 (subst (λ (u : ℕ). In u l) (eqb-true x z e) k)
    go false e r (inl q) = eqb-false x z e q
    go false e r (inr k) = r k

pub without_distinct : (x : ℕ) (l : List ℕ) → Distinct l → Distinct (without x l)
unfolding without
without_distinct x [] d = d
without_distinct x (z ∷ l) d = go (eqb x z) (without_distinct x l d.1)
  where
    go : (c : Bool) → Distinct (without x l) → Distinct (cond c l (z ∷ without x l))
    go true r = d.1
    go false r = (λ m. d.0 (without_in x z l m), r)

without_swap : (x y : ℕ) (l : List ℕ) → without x (without y l) ≡ without y (without x l)
without_swap x y [] = unfold without in refl
without_swap x y (z ∷ l) = go (same? x z) (same? y z) (without_swap x y l)
  where
    go : (x ≡ z) ⊎ (x ≡ z → ⊥) → (y ≡ z) ⊎ (y ≡ z → ⊥) → without x (without y l) ≡ without y (without x l)
        → without x (without y (z ∷ l)) ≡ without y (without x (z ∷ l))
    go (inl e) (inl f) r = rw (e, f)
    go (inl e) (inr f) r = rw (without_other y z l f, e, without_same z l, without_same z (without y l))
    go (inr e) (inl f) r = rw (without_other x z l e, f, without_same z l, without_same z (without x l))
    go (inr e) (inr f) r =
        rw (without_other x z l e, without_other y z l f, without_other x z (without y l) e, without_other y z (without x l) f)
        (ap (λ u. z ∷ u) r)

-- ---- taking the elements of a list one by one

abbrev pub Takes : List ℕ → List ℕ → Type 0
Takes rem [] = length rem ≡ 0
Takes rem (x ∷ σ) = In x rem × Takes (without x rem) σ

takes_length : (rem σ : List ℕ) → Takes rem σ → length σ ≡ length rem
takes_length rem [] t = sym t
takes_length rem (x ∷ σ) t = ap suc (takes_length (without x rem) σ t.1) ∙ sym (without_length x rem t.0)

-- only what is there is taken
takes_in : (rem σ : List ℕ) → Takes rem σ → (p : ℕ) → In p σ → In p rem
takes_in rem [] t p m = absurd m
takes_in rem (x ∷ σ) t p (inl e) = subst (λ (u : ℕ). In u rem) (sym e) t.0
takes_in rem (x ∷ σ) t p (inr m) = without_in x p rem (takes_in (without x rem) σ t.1 p m)

takes_distinct : (rem σ : List ℕ) → Distinct rem → Takes rem σ → Distinct σ
takes_distinct rem [] d t = tt
takes_distinct rem (x ∷ σ) d t =
    (λ m. without_gone x rem d (takes_in (without x rem) σ t.1 x m), takes_distinct (without x rem) σ (without_distinct x rem d) t.1)

-- as many, all of them there and none twice
takes_all : (rem σ : List ℕ) → length σ ≡ length rem → ((p : ℕ) → In p σ → In p rem) → Distinct σ → Takes rem σ
takes_all rem [] e s d = sym e
takes_all rem (x ∷ σ) e s d = (
  x_in,
  takes_all (without x rem) σ (suc_inj (e ∙ without_length x rem x_in))
      (λ p m. without_keeps x p rem (λ q. d.0 (subst (λ (u : ℕ). In u σ) (sym q) m)) (s p (inr m))) d.1,
)
  where
    x_in : In x rem
    x_in = s x (inl refl)

-- nothing is left out
pub takes_has : (x : ℕ) (rem σ : List ℕ) → Takes rem σ → In x rem → In x σ
takes_has x rem [] t m = let e = without_length x rem m in absurd (omega arith)
takes_has x rem (y ∷ σ) t m =
    ⊎_elim (λ e. inl e) (λ d. inr (takes_has x (without y rem) σ t.1 (without_keeps y x rem (λ e. d (sym e)) m))) (same? x y)

-- x may be taken first
pub takes_front : (x : ℕ) (rem σ : List ℕ) → In x rem → Takes rem σ → Takes (without x rem) (without x σ)
takes_front x rem [] m t = let e = without_length x rem m in absurd (omega arith)
takes_front x rem (y ∷ σ) m t = go (same? x y) (takes_front x (without y rem) σ)
  where
    go : (x ≡ y) ⊎ (x ≡ y → ⊥) → (In x (without y rem) → Takes (without y rem) σ → Takes (without x (without y rem)) (without x σ))
        → Takes (without x rem) (without x (y ∷ σ))
    go (inl e) r = rw (e, without_same y σ) t.1
    go (inr d) r =
        rw (without_other x y σ d)
        (without_keeps x y rem d t.0, rw (without_swap y x rem) (r (without_keeps y x rem (λ e. d (sym e)) m) t.1))

-- ---- ascending places

abbrev pub Ascends : List ℕ → Type 0
Ascends l = Sorted (λ (x y : ℕ). x < y) l

pub ascends_distinct : (l : List ℕ) → Ascends l → Distinct l
ascends_distinct [] a = tt
ascends_distinct (x ∷ l) a = (λ m. let h = a.0 x m in absurd (omega arith), ascends_distinct l a.1)

pub ascends_without : (x : ℕ) (l : List ℕ) → Ascends l → Ascends (without x l)
unfolding without
ascends_without x [] a = tt
ascends_without x (z ∷ l) a = go (eqb x z) (ascends_without x l a.1)
  where
    go : (c : Bool) → Ascends (without x l) → Ascends (cond c l (z ∷ without x l))
    go true r = a.1
    go false r = (λ y m. a.0 y (without_in x y l m), r)

pub count_length : (i n : ℕ) → length (count i n) ≡ n
unfolding count
count_length i zero = refl
count_length i (suc n) = ap suc (count_length (suc i) n)

count_snoc : (i n : ℕ) → count i (suc n) ≡ count i n ++ ((i + n) ∷ [])
unfolding count
count_snoc i zero = let e : i ≡ i + 0 = omega arith in ap {B = List ℕ} (λ (x : ℕ). x ∷ []) e
count_snoc i (suc n) =
    let e : suc i + n ≡ i + suc n = omega arith in
    ap {B = List ℕ} (λ (l : List ℕ). i ∷ l) (count_snoc (suc i) n ∙ ap (λ (x : ℕ). count (suc i) n ++ (x ∷ [])) e)

pub count_suc : (n : ℕ) → count 0 (suc n) ≡ count 0 n ++ (n ∷ [])
count_suc n = let e : 0 + n ≡ n = omega arith in count_snoc 0 n ∙ ap (λ (x : ℕ). count 0 n ++ (x ∷ [])) e

pub count_in_lem : (i n p : ℕ) → In p (count i n) → (i ≤ p) × (p < i + n)
unfolding count
count_in_lem i (suc n) p (inl e) = omega arith
count_in_lem i (suc n) p (inr m) = let h = count_in_lem (suc i) n p m in omega arith
count_in_lem i zero p x' = elim x' [ ]

pub in_count : (i n p : ℕ) → i ≤ p → p < i + n → In p (count i n)
unfolding count
in_count i zero p h k = absurd (omega arith)
in_count i (suc n) p h k = ⊎_elim (λ e. inl e) (λ d. inr (in_count (suc i) n p (omega arith) (omega arith))) (same? p i)

pub count_ascends : (i n : ℕ) → Ascends (count i n)
unfolding count
count_ascends i zero = tt
count_ascends i (suc n) = (λ y m. (count_in_lem (suc i) n y m).0, count_ascends (suc i) n)

pub count_distinct : (i n : ℕ) → Distinct (count i n)
count_distinct i n = ascends_distinct (count i n) (count_ascends i n)

-- the places as they stand
pub standing : (n : ℕ) → Rearranges n (count 0 n)
standing n = record {
  long = count_length 0 n;
  below = λ p m. let h = count_in_lem 0 n p m in omega arith;
  once = count_distinct 0 n;
}

-- to take the n places one by one is to rearrange them
pub takes_right : (n : ℕ) (σ : List ℕ) → Takes (count 0 n) σ → Rearranges n σ
takes_right n σ t = record {
  long = takes_length (count 0 n) σ t ∙ count_length 0 n;
  below = λ p k. let h = count_in_lem 0 n p (takes_in (count 0 n) σ t p k) in omega arith;
  once = takes_distinct (count 0 n) σ (count_distinct 0 n) t;
}

pub right_takes : (n : ℕ) (σ : List ℕ) → Rearranges n σ → Takes (count 0 n) σ
right_takes n σ r =
    takes_all (count 0 n) σ (r.long ∙ sym (count_length 0 n)) (λ p m. let h = r.below p m in in_count 0 n p (omega arith) (omega arith)) r.once

-- ---- the members of lists put together

module _ {A : Type 0} (x : A) where
  append_in : (s t : List A) → In x (s ++ t) → In x s ⊎ In x t
  append_in [] t m = inr m
  append_in (y ∷ s) t (inl e) = inl (inl e)
  append_in (y ∷ s) t (inr m) = ⊎_elim (λ k. inl (inr k)) (λ k. inr k) (append_in s t m)

  append_left : (s t : List A) → In x s → In x (s ++ t)
  append_left [] t m = absurd m
  append_left (y ∷ s) t (inl e) = inl e
  append_left (y ∷ s) t (inr m) = inr (append_left s t m)

  append_right : (s t : List A) → In x t → In x (s ++ t)
  append_right [] t m = m
  append_right (y ∷ s) t m = inr (append_right s t m)

  -- a list that stands there only where a test holds
  pub cond_in : (b : Bool) (l : List A) → In x (cond b l []) → (b ≡ true) × In x l
  cond_in true l m = (refl, m)
  cond_in false l m = absurd m

  pub in_cond : (b : Bool) (l : List A) → b ≡ true → In x l → In x (cond b l [])
  in_cond b l e m = rw e m

  -- lists one after the other
  module _ (f : ℕ → List A) where
    pub in_joined : (n k : ℕ) → k < n → In x (f k) → In x (joined f n)
    in_joined zero k h m = absurd (omega arith)
    in_joined (suc n) k h m =
        by_bool (eqb k n) (λ t. append_right (joined f n) (f n) (subst (λ (i : ℕ). In x (f i)) (eqb-true k n t) m))
        (λ t. let ne : k ≡ n → ⊥ = eqb-false k n t in append_left (joined f n) (f n) (in_joined n k (omega arith) m))

    pub joined_in : (n : ℕ) → In x (joined f n) → (k : ℕ) × (k < n) × In x (f k)
    joined_in zero m = absurd m
    joined_in (suc n) m =
        ⊎_elim (λ i. let r = joined_in n i in (r.0, omega (arith, r.1), r.2)) (λ i. (n, omega arith, i)) (append_in (joined f n) (f n) m)

-- ---- lists that are sorted, one after the other

module _ {A : Type 0} (R : A → A → Type 0) where
  sorted_append : (s t : List A) → Sorted R s → Sorted R t → ((x y : A) → In x s → In y t → R x y) → Sorted R (s ++ t)
  sorted_append [] t a b h = b
  sorted_append (x ∷ s) t a b h = (
    λ y m. ⊎_elim (λ k. a.0 y k) (λ k. h x y (inl refl) k) (append_in y s t m),
    sorted_append s t a.1 b (λ z y m k. h z y (inr m) k),
  )

  pub sorted_joined : (f : ℕ → List A) → ((i : ℕ) → Sorted R (f i)) → ((i j : ℕ) → i < j → (x y : A) → In x (f i) → In y (f j) → R x y)
      → (n : ℕ) → Sorted R (joined f n)
  sorted_joined f each· h zero = tt
  sorted_joined f each· h (suc n) =
      sorted_append (joined f n) (f n) (sorted_joined f each· h n) (each· n)
      (λ x y m k. let r = joined_in x f n m in h r.0 n r.1 x y r.2 k)

  -- a list that stands there only where a test holds
  pub sorted_cond : (b : Bool) (l : List A) → Sorted R l → Sorted R (cond b l [])
  sorted_cond true l s = s
  sorted_cond false l s = tt

-- ---- the members of lists of orders

map_in : (x : ℕ) (σ : List ℕ) (l : List (List ℕ)) → In σ (map (λ τ. x ∷ τ) l) → (τ : List ℕ) × (σ ≡ x ∷ τ) × In τ l
map_in x σ [] m = absurd m
map_in x σ (τ ∷ l) (inl e) = (τ, e, inl refl)
map_in x σ (τ ∷ l) (inr m) = let r = map_in x σ l m in (r.0, r.1, inr r.2)

in_map : (x : ℕ) (τ : List ℕ) (l : List (List ℕ)) → In τ l → In (x ∷ τ) (map (λ u. x ∷ u) l)
in_map x τ (u ∷ l) (inl e) = inl (ap (λ v. x ∷ v) e)
in_map x τ (u ∷ l) (inr m) = inr (in_map x τ l m)
in_map x τ [] x'' = elim x'' [ ]

module _ (f : ℕ → List (List ℕ)) where
  each_in_lem : (σ : List ℕ) (l : List ℕ) → In σ (each f l) → (x : ℕ) × In x l × In σ (f x)
  unfolding each
  each_in_lem σ [] m = absurd m
  each_in_lem σ (x ∷ l) m =
      ⊎_elim (λ k. (x, inl refl, k)) (λ k. let r = each_in_lem σ l k in (r.0, inr r.1, r.2)) (append_in σ (f x) (each f l) m)

  in_each : (σ : List ℕ) (l : List ℕ) (x : ℕ) → In x l → In σ (f x) → In σ (each f l)
  unfolding each
  in_each σ (y ∷ l) x (inl e) k = append_left σ (f y) (each f l) (subst (λ (u : ℕ). In σ (f u)) e k)
  in_each σ (y ∷ l) x (inr m) k = append_right σ (f y) (each f l) (in_each σ l x m k)
  in_each σ [] x x4 k = elim x4 [ ]

orders_takes : (n : ℕ) (rem : List ℕ) → length rem ≡ n → (σ : List ℕ) → In σ (orders_of n rem) → Takes rem σ
unfolding orders_of
orders_takes zero rem e σ (inl q) = rw q e
orders_takes (suc n) rem e σ m =
    let r = each_in_lem (λ x. map (λ τ. x ∷ τ) (orders_of n (without x rem))) σ rem m in
    let q = map_in r.0 σ (orders_of n (without r.0 rem)) r.2 in
    rw q.1 (r.1, orders_takes n (without r.0 rem) (suc_inj (sym (without_length r.0 rem r.1) ∙ e)) q.0 q.2)
orders_takes zero rem e σ (inr x3) = elim x3 [ ]

takes_orders : (n : ℕ) (rem : List ℕ) → length rem ≡ n → (σ : List ℕ) → Takes rem σ → In σ (orders_of n rem)
unfolding orders_of
takes_orders zero rem e [] t = inl refl
takes_orders zero rem e (x ∷ σ) t = let q = without_length x rem t.0 in absurd (omega arith)
takes_orders (suc n) rem e [] t = absurd (omega arith)
takes_orders (suc n) rem e (x ∷ σ) t =
    in_each (λ y. map (λ τ. y ∷ τ) (orders_of n (without y rem))) (x ∷ σ) rem x t.0
    (in_map x σ (orders_of n (without x rem)) (takes_orders n (without x rem) (suc_inj (sym (without_length x rem t.0) ∙ e)) σ t.1))

-- the members of `orders n` are the rearrangements of the n places
pub orders_right : (n : ℕ) (σ : List ℕ) → In σ (orders n) → Rearranges n σ
unfolding orders
orders_right n σ m = takes_right n σ (orders_takes n (count 0 n) (count_length 0 n) σ m)

pub orders_all : (n : ℕ) (σ : List ℕ) → Rearranges n σ → In σ (orders n)
unfolding orders
orders_all n σ r = takes_orders n (count 0 n) (count_length 0 n) σ (right_takes n σ r)

-- ---- compared from the left

abbrev pub Rising : List (List ℕ) → Type 0
Rising l = Sorted LexLt l

rising_map : (x : ℕ) (l : List (List ℕ)) → Rising l → Rising (map (λ σ. x ∷ σ) l)
rising_map x [] r = tt
rising_map x (σ ∷ l) r =
    (λ τ m. let q = map_in x τ l m in rw q.1 (inr (refl, r.0 q.0 q.2)), rising_map x l r.1)

module _ (f : ℕ → List (List ℕ)) (starts : (x : ℕ) (σ : List ℕ) → In σ (f x) → (τ : List ℕ) × (σ ≡ x ∷ τ)) where
  rising_each : (l : List ℕ) → ((x : ℕ) → In x l → Rising (f x)) → Ascends l → Rising (each f l)
  unfolding each
  rising_each [] h a = tt
  rising_each (x ∷ l) h a =
      sorted_append LexLt (f x) (each f l) (h x (inl refl)) (rising_each l (λ y m. h y (inr m)) a.1)
      (λ σ τ m k.
      let r = each_in_lem f τ l k in
      let u = starts x σ m in
      let v = starts r.0 τ r.2 in
      rw (u.1, v.1) (inl (a.0 r.0 r.1)))

orders_rise : (n : ℕ) (rem : List ℕ) → Ascends rem → Rising (orders_of n rem)
unfolding orders_of
orders_rise zero rem a = (λ τ m. absurd m, tt)
orders_rise (suc n) rem a =
    rising_each (λ x. map (λ σ. x ∷ σ) (orders_of n (without x rem)))
    (λ x σ m. let q = map_in x σ (orders_of n (without x rem)) m in (q.0, q.1))
    rem (λ x m. rising_map x (orders_of n (without x rem)) (orders_rise n (without x rem) (ascends_without x rem a))) a

-- `orders n` is ascending
pub orders_rising : (n : ℕ) → Rising (orders n)
unfolding orders
orders_rising n = orders_rise n (count 0 n) (count_ascends 0 n)

pub lex_asym : (σ τ : List ℕ) → LexLt σ τ → LexLt τ σ → ⊥
lex_asym [] [] h k = h
lex_asym [] (y ∷ τ) h k = k
lex_asym (x ∷ σ) [] h k = h
lex_asym (x ∷ σ) (y ∷ τ) (inl h) (inl k) = omega arith
lex_asym (x ∷ σ) (y ∷ τ) (inl h) (inr k) = let e = k.0 in omega arith
lex_asym (x ∷ σ) (y ∷ τ) (inr h) (inl k) = let e = h.0 in omega arith
lex_asym (x ∷ σ) (y ∷ τ) (inr h) (inr k) = lex_asym σ τ h.1 k.1

rising_once : (l : List (List ℕ)) → Rising l → Sorted (λ (σ τ : List ℕ). σ ≡ τ → ⊥) l
rising_once [] r = tt
rising_once (σ ∷ l) r =
    (λ τ m e. let h = subst (λ (u : List ℕ). LexLt u τ) e (r.0 τ m) in lex_asym τ τ h h, rising_once l r.1)

-- so none of them is there again later
pub orders_once : (n : ℕ) → Sorted (λ (σ τ : List ℕ). σ ≡ τ → ⊥) (orders n)
orders_once n = rising_once (orders n) (orders_rising n)
