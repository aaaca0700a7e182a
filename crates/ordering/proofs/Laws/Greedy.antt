-- The first good order is found greedily. A place that is ready stays ready, and taking it only helps the others, so in a good order it may as well
-- go first: to take at each turn the smallest place that is ready fails only where no order is good, and gives the smallest. Assumes nothing.
use mathlib.Core.Path.{◌≡◌, refl, sym, ap, ◌∙◌, subst}
use mathlib.Core.Bool.{Bool, true, false, cond}
use mathlib.Core.Logic.{◌⊎◌, inl, inr, ⊎_elim}
use mathlib.Core.List.{List, [], ◌∷◌}
use mathlib.Core.Option.{Option, none, some, map, none-ne-some, some-injective}
use Prim.Native.Nat.{ℕ, zero, suc, ◌<◌}
use native.Mathlib.Nat.{suc_inj}
use native.Mathlib.Omega.{arith}
use lib.ListN.{length}
use Rattle.ordering.specs.Orders.{In, Rearranges, LexLt, Least, find, without, count, orders}
use Rattle.ordering.specs.Turns.{good_from, first_good, all_after}
use Rattle.ordering.specs.Good.{is_some}
use Rattle.masks.proofs.Laws.Logic.{clash}
use Rattle.ordering.proofs.Laws.Orders.{find_some, find_none, find_least, same?, without_same, without_other, without_length, Takes, takes_has, takes_front, takes_right, right_takes, Ascends, ascends_without, count_length, count_ascends, orders_right, orders_all, orders_rising, lex_asym}

-- ---- the least of the lists that have a property

-- there is one such o
least_one : (P : List ℕ → Type 0) (o o' : Option (List ℕ)) → Least P o → Least P o' → o ≡ o'
least_one P none none l l' = refl
least_one P none (some τ) l l' = absurd (l.fails refl τ (l'.has τ refl))
least_one P (some σ) none l l' = absurd (l'.fails refl σ (l.has σ refl))
least_one P (some σ) (some τ) l l' = ap some (go (l.least σ refl τ (l'.has τ refl)) (l'.least τ refl σ (l.has σ refl)))
  where
    go : (σ ≡ τ) ⊎ LexLt σ τ → (τ ≡ σ) ⊎ LexLt τ σ → σ ≡ τ
    go (inl e) k = e
    go (inr h) (inl e) = sym e
    go (inr h) (inr k) = absurd (lex_asym σ τ h k)

least_iff : (P Q : List ℕ → Type 0) (o : Option (List ℕ)) → ((σ : List ℕ) → P σ → Q σ) → ((σ : List ℕ) → Q σ → P σ) → Least P o → Least Q o
least_iff P Q o f g l = record {
  has = λ σ e. f σ (l.has σ e);
  least = λ σ e τ q. l.least σ e τ (g τ q);
  fails = λ e τ q. l.fails e τ (g τ q);
}

-- ---- good orders

module _ {B : Type 0} (ready : B → ℕ → Bool) (after : B → ℕ → B) where
  -- the first is ready and the others are good then
  pub good_parts : (b : B) (p : ℕ) (σ : List ℕ) → good_from ready after b (p ∷ σ) ≡ true
      → (ready b p ≡ true) × (good_from ready after (after b p) σ ≡ true)
  unfolding good_from
  good_parts b p σ g = go (ready b p) g
    where
      go : (c : Bool) → cond c (good_from ready after (after b p) σ) false ≡ true → (c ≡ true) × (good_from ready after (after b p) σ ≡ true)
      go true g = (refl, g)
      go false g = clash g refl

  pub good_cons : (b : B) (p : ℕ) (σ : List ℕ) → ready b p ≡ true → good_from ready after (after b p) σ ≡ true → good_from ready after b (p ∷ σ) ≡ true
  unfolding good_from
  good_cons b p σ e g = rw e g

  -- a good rearrangement of n places
  abbrev pub Good : B → ℕ → List ℕ → Type 0
  Good b n σ = Rearranges n σ × (good_from ready after b σ ≡ true)

  pub first_least : (b : B) (n : ℕ) → Least (Good b n) (first_good ready after b n)
  unfolding first_good
  first_least b n = record {
    has = λ σ e. let h = find_some (good_from ready after b) (orders n) σ e in (orders_right n σ h.0, h.1);
    least = λ σ e τ t. find_least (good_from ready after b) LexLt (orders n) σ (orders_rising n) e τ (orders_all n τ t.0) t.1;
    fails = λ e τ t. find_none (good_from ready after b) (orders n) e τ (orders_all n τ t.0) t.1;
  }

  -- there is a first one exactly where there is one
  pub first_good_lem : (b : B) (n : ℕ) → is_some (first_good ready after b n) ≡ true → (σ : List ℕ) × Rearranges n σ × (good_from ready after b σ ≡ true)
  first_good_lem b n t = go (first_good ready after b n) refl t
    where
      go : (o : Option (List ℕ)) → first_good ready after b n ≡ o → is_some o ≡ true → (σ : List ℕ) × Rearranges n σ × (good_from ready after b σ ≡ true)
      go none e t = clash t refl
      go (some σ) e t = let g = (first_least b n).has σ e in (σ, g.0, g.1)

  pub good_first : (b : B) (n : ℕ) (σ : List ℕ) → Rearranges n σ → good_from ready after b σ ≡ true → is_some (first_good ready after b n) ≡ true
  good_first b n σ r g = go (first_good ready after b n) refl
    where
      go : (o : Option (List ℕ)) → first_good ready after b n ≡ o → is_some o ≡ true
      go none e = absurd ((first_least b n).fails e σ (r, g))
      go (some τ) e = refl

-- ---- two ways of taking, along a relation that taking keeps

-- what is good stays good where more of the n places is ready
module _ {B B' : Type 0} (ready : B → ℕ → Bool) (after : B → ℕ → B) (ready' : B' → ℕ → Bool) (after' : B' → ℕ → B')
    (R : B → B' → Type 0) (n : ℕ)
    (more-ready : (b : B) (b' : B') (p : ℕ) → p < n → R b b' → ready b p ≡ true → ready' b' p ≡ true)
    (kept : (b : B) (b' : B') (p : ℕ) → R b b' → R (after b p) (after' b' p))
  where
    pub good_mono : (b : B) (b' : B') (σ : List ℕ) → ((p : ℕ) → In p σ → p < n) → R b b'
        → good_from ready after b σ ≡ true → good_from ready' after' b' σ ≡ true
    good_mono b b' [] l r g = unfold good_from in refl
    good_mono b b' (p ∷ σ) l r g =
        let h = good_parts ready after b p σ g in
        good_cons ready' after' b' p σ (more-ready b b' p (l p (inl refl)) r h.0)
        (good_mono (after b p) (after' b' p) σ (λ q m. l q (inr m)) (kept b b' p r) h.1)

    pub first_mono : (b : B) (b' : B') → R b b' → is_some (first_good ready after b n) ≡ true → is_some (first_good ready' after' b' n) ≡ true
    first_mono b b' r t =
        let h = first_good_lem ready after b n t in
        good_first ready' after' b' n h.0 h.1 (good_mono b b' h.0 h.1.below r h.2)

-- where the same of the n places is ready, all is the same
module _ {B B' : Type 0} (ready : B → ℕ → Bool) (after : B → ℕ → B) (ready' : B' → ℕ → Bool) (after' : B' → ℕ → B')
    (R : B → B' → Type 0) (n : ℕ)
    (same-ready : (b : B) (b' : B') (p : ℕ) → p < n → R b b' → ready b p ≡ ready' b' p)
    (kept : (b : B) (b' : B') (p : ℕ) → R b b' → R (after b p) (after' b' p))
  where
    pub good_same : (b : B) (b' : B') (σ : List ℕ) → ((p : ℕ) → In p σ → p < n) → R b b' → good_from ready after b σ ≡ good_from ready' after' b' σ
    unfolding good_from
    good_same b b' [] l r = refl
    good_same b b' (p ∷ σ) l r =
        rw (same-ready b b' p (l p (inl refl)) r, good_same (after b p) (after' b' p) σ (λ q m. l q (inr m)) (kept b b' p r))

    pub first_same : (b : B) (b' : B') → R b b' → first_good ready after b n ≡ first_good ready' after' b' n
    first_same b b' r =
        least_one (Good ready' after' b' n) (first_good ready after b n) (first_good ready' after' b' n)
        (least_iff (Good ready after b n) (Good ready' after' b' n) (first_good ready after b n)
        (λ σ g. (g.0, sym (good_same b b' σ g.0.below r) ∙ g.1)) (λ σ g. (g.0, good_same b b' σ g.0.below r ∙ g.1))
        (first_least ready after b n))
        (first_least ready' after' b' n)

-- ---- a state that grows

-- more is ready in a greater state, taking grows it, and what is taken does not depend on the order or on taking it again
pub record Growing {B : Type 0} (ready : B → ℕ → Bool) (after : B → ℕ → B) (Le : B → B → Type 0) : Type 0 where
  pub le_refl : (b : B) → Le b b
  pub le_trans : (b c d : B) → Le b c → Le c d → Le b d
  pub ready_mono : (b c : B) (p : ℕ) → Le b c → ready b p ≡ true → ready c p ≡ true
  pub after_grows : (b : B) (p : ℕ) → Le b (after b p)
  pub after_mono : (b c : B) (p : ℕ) → Le b c → Le (after b p) (after c p)
  pub after_swap : (b : B) (p q : ℕ) → after (after b p) q ≡ after (after b q) p
  pub after_twice : (b : B) (p : ℕ) → after (after b p) p ≡ after b p

-- ---- the greedy order

-- p, if there is one, and then the rest
abbrev pub then_rest : (ℕ → Option (List ℕ)) → Option ℕ → Option (List ℕ)
then_rest rest none = none
then_rest rest (some p) = map (λ σ. p ∷ σ) (rest p)

module _ {B : Type 0} (ready : B → ℕ → Bool) (after : B → ℕ → B) where
  -- at each turn the first of those left that is ready; none where there is none
  unfoldable pub greedy_of : ℕ → B → List ℕ → Option (List ℕ)
  greedy_of zero b rem = some []
  greedy_of (suc n) b rem = then_rest (λ p. greedy_of n (after b p) (without p rem)) (find (ready b) rem)

  unfoldable pub greedy : B → ℕ → Option (List ℕ)
  greedy b n = greedy_of n b (count 0 n)

  -- a good order of rem
  abbrev pub Fit : B → List ℕ → List ℕ → Type 0
  Fit b rem σ = Takes rem σ × (good_from ready after b σ ≡ true)

module _ {B : Type 0} {ready : B → ℕ → Bool} {after : B → ℕ → B} {Le : B → B → Type 0} (grow : Growing ready after Le) where
  -- a ready place may go first
  pub good_front : (b : B) (x : ℕ) (σ : List ℕ) → ready b x ≡ true → good_from ready after b σ ≡ true
      → good_from ready after (after b x) (without x σ) ≡ true
  good_front b x [] h g = unfold good_from without in refl
  good_front b x (y ∷ σ) h g = go (same? x y) (good_front (after b y) x σ)
    where
      both : (ready b y ≡ true) × (good_from ready after (after b y) σ ≡ true)
      both = good_parts ready after b y σ g

      go : (x ≡ y) ⊎ (x ≡ y → ⊥)
          → (ready (after b y) x ≡ true → good_from ready after (after b y) σ ≡ true → good_from ready after (after (after b y) x) (without x σ) ≡ true)
          → good_from ready after (after b x) (without x (y ∷ σ)) ≡ true
      go (inl e) r = rw (e, without_same y σ) both.1
      go (inr d) r =
          rw (without_other x y σ d)
          (good_cons ready after (after b x) y (without x σ) (grow.ready_mono b (after b x) y (grow.after_grows b x) both.0)
          (rw (grow.after_swap b x y) (r (grow.ready_mono b (after b y) x (grow.after_grows b y) h) both.1)))

  -- with nothing ready there is no good order
  stuck : (b : B) (rem : List ℕ) (n : ℕ) → length rem ≡ suc n → find (ready b) rem ≡ none → (τ : List ℕ) → Fit ready after b rem τ → ⊥
  stuck b rem n e h [] f = let z = f.0 in omega arith
  stuck b rem n e h (y ∷ τ) f = find_none (ready b) rem h y f.0.0 (good_parts ready after b y τ f.1).0

  -- the first ready place p, and then the least good order of the others
  module _ (b : B) (rem : List ℕ) (a : Ascends rem) (p : ℕ) (h : find (ready b) rem ≡ some p) where
    p_in : In p rem
    p_in = (find_some (ready b) rem p h).0

    p_ready : ready b p ≡ true
    p_ready = (find_some (ready b) rem p h).1

    cons_least : (σ : List ℕ) → ((τ : List ℕ) → Fit ready after (after b p) (without p rem) τ → (σ ≡ τ) ⊎ LexLt σ τ)
        → (τ : List ℕ) → Fit ready after b rem τ → (p ∷ σ ≡ τ) ⊎ LexLt (p ∷ σ) τ
    cons_least σ l [] f = let q = without_length p rem p_in in let z = f.0 in absurd (omega arith)
    cons_least σ l (y ∷ τ) f =
        ⊎_elim
        (λ e. ⊎_elim (λ q. inl (cc)) (λ q. inr (inr (e, q))) (l τ (rw e (f.0.1, both.1))))
        (λ q. inr (inl q))
        (find_least (ready b) (λ (u v : ℕ). u < v) rem p a h y f.0.0 both.0)
      where
        both : (ready b y ≡ true) × (good_from ready after (after b y) τ ≡ true)
        both = good_parts ready after b y τ f.1

    next_least : (o : Option (List ℕ)) → Least (Fit ready after (after b p) (without p rem)) o
        → Least (Fit ready after b rem) (map (λ σ. p ∷ σ) o)
    next_least none l = record {
      has = λ σ e. absurd (none-ne-some σ e);
      least = λ σ e. absurd (none-ne-some σ e);
      fails = λ e τ f. l.fails refl (without p τ) (takes_front p rem τ p_in f.0, good_front b p τ p_ready f.1);
    }
    next_least (some σ) l = record {
      has = λ τ e. let f = l.has σ refl in
          subst (λ (u : List ℕ). Fit ready after b rem u) (some-injective (p ∷ σ) τ e)
          ((p_in, f.0), good_cons ready after b p σ p_ready f.1);
      least = λ ρ e τ f. subst (λ (u : List ℕ). (u ≡ τ) ⊎ LexLt u τ) (some-injective (p ∷ σ) ρ e) (cons_least σ (l.least σ refl) τ f);
      fails = λ e. absurd (none-ne-some (p ∷ σ) (sym e));
    }

  pub greedy_least : (n : ℕ) (b : B) (rem : List ℕ) → length rem ≡ n → Ascends rem → Least (Fit ready after b rem) (greedy_of ready after n b rem)
  unfolding greedy_of
  greedy_least zero b rem e a = record {
    has = λ σ q. subst (λ (u : List ℕ). Fit ready after b rem u) (some-injective [] σ q) (e, unfold good_from in refl);
    least = λ σ q τ f. subst (λ (u : List ℕ). (u ≡ τ) ⊎ LexLt u τ) (some-injective [] σ q) (nil_least τ);
    fails = λ q. absurd (none-ne-some [] (sym q));
  }
    where
      nil_least : (τ : List ℕ) → ([] ≡ τ) ⊎ LexLt [] τ
      nil_least [] = inl refl
      nil_least (y ∷ τ) = inr tt
  greedy_least (suc n) b rem e a = go (find (ready b) rem) refl (λ p. greedy_least n (after b p) (without p rem))
    where
      go : (o : Option ℕ) → find (ready b) rem ≡ o
          → ((p : ℕ) → length (without p rem) ≡ n → Ascends (without p rem)
          → Least (Fit ready after (after b p) (without p rem)) (greedy_of ready after n (after b p) (without p rem)))
          → Least (Fit ready after b rem) (then_rest (λ p. greedy_of ready after n (after b p) (without p rem)) o)
      go none h r = record {
        has = λ σ q. absurd (none-ne-some σ q);
        least = λ σ q. absurd (none-ne-some σ q);
        fails = λ q τ f. stuck b rem n e h τ f;
      }
      go (some p) h r =
          next_least b rem a p h (greedy_of ready after n (after b p) (without p rem))
          (r p (suc_inj (sym (without_length p rem (find_some (ready b) rem p h).0) ∙ e)) (ascends_without p rem a))

  -- the greedy order is the first good one, and there is none where none is good
  pub greedy_first : (b : B) (n : ℕ) → greedy ready after b n ≡ first_good ready after b n
  unfolding greedy
  greedy_first b n =
      least_one (Good ready after b n) (greedy_of ready after n b (count 0 n)) (first_good ready after b n)
      (least_iff (Fit ready after b (count 0 n)) (Good ready after b n) (greedy_of ready after n b (count 0 n))
      (λ σ f. (takes_right n σ f.0, f.1)) (λ σ f. (right_takes n σ f.0, f.1))
      (greedy_least n b (count 0 n) (count_length 0 n) (count_ascends 0 n)))
      (first_least ready after b n)

-- ---- the state after all of them does not depend on their order

module _ {B : Type 0} (after : B → ℕ → B) (after_swap : (b : B) (p q : ℕ) → after (after b p) q ≡ after (after b q) p) where
  all_front : (b : B) (x : ℕ) (σ : List ℕ) → In x σ → all_after after b σ ≡ all_after after (after b x) (without x σ)
  unfolding all_after
  all_front b x [] m = absurd m
  all_front b x (y ∷ σ) m = go (same? x y) (all_front (after b y) x σ) m
    where
      go : (x ≡ y) ⊎ (x ≡ y → ⊥) → (In x σ → all_after after (after b y) σ ≡ all_after after (after (after b y) x) (without x σ)) → In x (y ∷ σ)
          → all_after after (after b y) σ ≡ all_after after (after b x) (without x (y ∷ σ))
      go (inl e) r m = rw (e, without_same y σ)
      go (inr d) r (inl e) = absurd (d e)
      go (inr d) r (inr m) =
          rw (without_other x y σ d) (r m ∙ ap (λ c. all_after after c (without x σ)) (after_swap b y x))

  pub all_same : (b : B) (rem σ τ : List ℕ) → Takes rem σ → Takes rem τ → all_after after b σ ≡ all_after after b τ
  unfolding all_after
  all_same b rem [] [] s t = refl
  all_same b rem [] (y ∷ τ) s t = let q = without_length y rem t.0 in absurd (omega arith)
  all_same b rem (x ∷ σ) τ s t =
      all_same (after b x) (without x rem) σ (without x τ) s.1 (takes_front x rem τ s.0 t) ∙ sym (all_front b x τ (takes_has x rem τ t s.0))
