-- Whether a good order exists is told by passes over the places, each taken where it is ready. The k-th place of a good order is ready after k - 1
-- passes, so all are after n - 1; and the places taken on the way, followed by all that are ready then, hold a good order. Assumes nothing.
use mathlib.Core.Path.{◌≡◌, refl, sym, ap, ◌∙◌, subst}
use mathlib.Core.Bool.{Bool, true, false, cond, ◌&&◌}
use mathlib.Core.Logic.{◌⊎◌, inl, inr, ⊎_elim}
use mathlib.Core.List.{List, [], ◌∷◌, ◌++◌}
use Prim.Native.Nat.{ℕ, zero, suc, ◌+◌, ◌≤◌, ◌<◌}
use native.Mathlib.Nat.{zero-add, suc-add}
use native.Mathlib.Omega.{arith}
use lib.ListN.{length}
use Rattle.book.specs.Book.{Call}
use Rattle.book.specs.Table.{Table}
use Rattle.ordering.specs.Orders.{In, Distinct, Rearranges, without, count}
use Rattle.ordering.specs.Adorn.{Bound}
use Rattle.ordering.specs.Turns.{good_from, first_good, all_after}
use Rattle.ordering.specs.Good as clause
use Rattle.ordering.specs.Good.{ready_at, after_at, ran, is_some}
use Rattle.lanes.specs.Passes.{visit, visits, passes, Taken}
use Rattle.masks.proofs.Laws.Logic.{same}
use Rattle.ordering.proofs.Laws.Orders.{same?, without_in, without_keeps, without_gone, without_distinct, Takes, takes_has, takes_right, right_takes, count_suc, count_in_lem, in_count, count_distinct}
use Rattle.ordering.proofs.Laws.Greedy.{Growing, good_parts, good_cons, first_good_lem, good_first}
use Rattle.ordering.proofs.Laws.Good.{bound_growing}

-- ---- passes

module _ {B : Type 0} (ready : B → ℕ → Bool) (after : B → ℕ → B) where
  visit_ready : (b : B) (p : ℕ) → ready b p ≡ true → visit ready after b p ≡ after b p
  unfolding visit
  visit_ready b p e = rw e

  visits_snoc : (b : B) (σ : List ℕ) (p : ℕ) → visits ready after b (σ ++ (p ∷ [])) ≡ visit ready after (visits ready after b σ) p
  unfolding visits
  visits_snoc b [] p = refl
  visits_snoc b (q ∷ σ) p = visits_snoc (visit ready after b q) σ p

  -- as long as each was ready in its subgoal, visiting them is taking them
  good_snoc : (b : B) (σ : List ℕ) (p : ℕ) → good_from ready after b (σ ++ (p ∷ [])) ≡ (good_from ready after b σ && ready (visits ready after b σ) p)
  unfolding good_from visits visit
  good_snoc b [] p = go (ready b p)
    where
      go : (c : Bool) → cond c true false ≡ c
      go true = refl
      go false = refl
  good_snoc b (q ∷ σ) p = go (ready b q) (good_snoc (after b q) σ p)
    where
      go : (c : Bool) → good_from ready after (after b q) (σ ++ (p ∷ [])) ≡ (good_from ready after (after b q) σ && ready (visits ready after (after b q) σ) p)
          → cond c (good_from ready after (after b q) (σ ++ (p ∷ []))) false
          ≡ (cond c (good_from ready after (after b q) σ) false && ready (visits ready after (cond c (after b q) b) σ) p)
      go true e = e
      go false e = refl

  good_visits : (b : B) (σ : List ℕ) → good_from ready after b σ ≡ true → visits ready after b σ ≡ all_after after b σ
  unfolding visits all_after
  good_visits b [] g = refl
  good_visits b (p ∷ σ) g =
      let h = good_parts ready after b p σ g in
      ap (λ c. visits ready after c σ) (visit_ready b p h.0) ∙ good_visits (after b p) σ h.1

  -- one place more
  pub visits_suc : (b : B) (j : ℕ) → visits ready after b (count 0 (suc j)) ≡ visit ready after (visits ready after b (count 0 j)) j
  visits_suc b j = ap (visits ready after b) (count_suc j) ∙ visits_snoc b (count 0 j) j

  pub good_suc : (b : B) (j : ℕ)
      → good_from ready after b (count 0 (suc j)) ≡ (good_from ready after b (count 0 j) && ready (visits ready after b (count 0 j)) j)
  good_suc b j = ap (good_from ready after b) (count_suc j) ∙ good_snoc b (count 0 j) j

  -- one pass more
  pub passes_suc : (n k : ℕ) (b : B) → visits ready after (passes ready after n k b) (count 0 n) ≡ passes ready after n (suc k) b
  unfolding passes
  passes_suc n zero b = refl
  passes_suc n (suc k) b = passes_suc n k (visits ready after b (count 0 n))

  passes_add : (n j k : ℕ) (b : B) → passes ready after n (j + k) b ≡ passes ready after n k (passes ready after n j b)
  unfolding passes
  passes_add n zero k b = rw (zero-add k)
  passes_add n (suc j) k b = rw (suc-add j k) (passes_add n j k (visits ready after b (count 0 n)))

  -- after a pass that changed nothing none does
  passes_still : (n k : ℕ) (b : B) → visits ready after b (count 0 n) ≡ b → passes ready after n k b ≡ b
  unfolding passes
  passes_still n zero b e = refl
  passes_still n (suc k) b e = rw e (passes_still n k b e)

-- x is in the list or it is not
in? : (x : ℕ) (l : List ℕ) → In x l ⊎ (In x l → ⊥)
in? x [] = inr (λ m. m)
in? x (y ∷ l) = ⊎_elim (λ e. inl (inl e)) (λ d. ⊎_elim (λ m. inl (inr m)) (λ n. inr (λ m. ⊎_elim d n m)) (in? x l)) (same? x y)

module _ {B : Type 0} {ready : B → ℕ → Bool} {after : B → ℕ → B} {Le : B → B → Type 0} (grow : Growing ready after Le) where
  -- ---- the places of a good order are ready after so many passes

  visit_grows : (b : B) (p : ℕ) → Le b (visit ready after b p)
  unfolding visit
  visit_grows b p = go (ready b p)
    where
      go : (c : Bool) → Le b (cond c (after b p) b)
      go true = grow.after_grows b p
      go false = grow.le_refl b

  visits_grows : (b : B) (σ : List ℕ) → Le b (visits ready after b σ)
  unfolding visits
  visits_grows b [] = grow.le_refl b
  visits_grows b (p ∷ σ) =
      let c = visit ready after b p in
      grow.le_trans b c (visits ready after c σ) (visit_grows b p) (visits_grows c σ)

  passes_grows : (n k : ℕ) (b : B) → Le b (passes ready after n k b)
  unfolding passes
  passes_grows n zero b = grow.le_refl b
  passes_grows n (suc k) b =
      let c = visits ready after b (count 0 n) in
      grow.le_trans b c (passes ready after n k c) (visits_grows b (count 0 n)) (passes_grows n k c)

  -- what is ready is taken in any pass over it
  visits_take : (σ : List ℕ) (b c : B) (p : ℕ) → Le b c → ready b p ≡ true → In p σ → Le (after b p) (visits ready after c σ)
  unfolding visits
  visits_take (q ∷ σ) b c p h r (inl e) =
      let d = visit ready after c q in
      grow.le_trans (after b p) d (visits ready after d σ)
      (subst (λ (u : ℕ). Le (after b p) (visit ready after c u)) e
      (rw (visit_ready ready after c p (grow.ready_mono b c p h r)) (grow.after_mono b c p h)))
      (visits_grows d σ)
  visits_take (q ∷ σ) b c p h r (inr m) =
      let d = visit ready after c q in
      visits_take σ b d p (grow.le_trans b c d h (visit_grows c q)) r m
  visits_take [] b c p h r x3 = elim x3 [ ]

  -- one pass fewer than it has places
  reach : (n p : ℕ) (σ : List ℕ) (b c : B) → good_from ready after b (p ∷ σ) ≡ true → Le b c → ((q : ℕ) → In q (p ∷ σ) → q < n)
      → (q : ℕ) → In q (p ∷ σ) → ready (passes ready after n (length σ) c) q ≡ true
  unfolding passes
  reach n p [] b c g h l q m =
      let r = (good_parts ready after b p [] g).0 in
      ⊎_elim (λ e. subst (λ (u : ℕ). ready c u ≡ true) (sym e) (grow.ready_mono b c p h r)) (λ i. absurd i) m
  reach n p (x ∷ σ) b c g h l q m =
      let r = good_parts ready after b p (x ∷ σ) g in
      let d = visits ready after c (count 0 n) in
      let k = l p (inl refl) in
      let t = passes ready after n (length σ) d in
      ⊎_elim
      (λ e. subst (λ (u : ℕ). ready t u ≡ true) (sym e)
      (grow.ready_mono b t p
      (grow.le_trans b c t h (grow.le_trans c d t (visits_grows c (count 0 n)) (passes_grows n (length σ) d))) r.0))
      (λ i. reach n x σ (after b p) d r.1 (visits_take (count 0 n) b c p h r.0 (in_count 0 n p (omega arith) (omega arith)))
      (λ u j. l u (inr j)) q i) m

  -- what is ready stays ready in later passes
  later : (n j k : ℕ) (b : B) (p : ℕ) → j ≤ k → ready (passes ready after n j b) p ≡ true → ready (passes ready after n k b) p ≡ true
  unfolding passes
  later n zero k b p h u = grow.ready_mono b (passes ready after n k b) p (passes_grows n k b) u
  later n (suc j) zero b p h u = absurd (omega arith)
  later n (suc j) (suc k) b p h u = later n j k (visits ready after b (count 0 n)) p (omega arith) u

  -- where all of a list are ready, it is a good order
  all_good_lem : (b : B) (σ : List ℕ) → ((p : ℕ) → In p σ → ready b p ≡ true) → good_from ready after b σ ≡ true
  all_good_lem b [] f = unfold good_from in refl
  all_good_lem b (p ∷ σ) f =
      good_cons ready after b p σ (f p (inl refl))
      (all_good_lem (after b p) σ (λ q m. grow.ready_mono b (after b p) q (grow.after_grows b p) (f q (inr m))))

  good_reached : (n k : ℕ) (b : B) (σ : List ℕ) → n ≤ k + 1 → Rearranges n σ → good_from ready after b σ ≡ true
      → good_from ready after (passes ready after n k b) (count 0 n) ≡ true
  good_reached n k b [] h r g =
      all_good_lem (passes ready after n k b) (count 0 n) (λ p m. let z = count_in_lem 0 n p m in let y = r.long in absurd (omega arith))
  good_reached n k b (x ∷ σ) h r g =
      all_good_lem (passes ready after n k b) (count 0 n)
      (λ p m. let y = r.long in
      later n (length σ) k b p (omega arith)
      (reach n x σ b b g (grow.le_refl b) r.below p (takes_has p (count 0 n) (x ∷ σ) (right_takes n (x ∷ σ) r) m)))

  -- ---- and where they are ready, there is a good order

  -- to what is good at c there is a list good at b that has its places, and besides only places below n
  abbrev Reached : ℕ → B → B → Type 0
  Reached n b c =
      (υ : List ℕ) → good_from ready after c υ ≡ true
      → (τ : List ℕ) × (good_from ready after b τ ≡ true) × ((p : ℕ) → In p υ → In p τ) × ((p : ℕ) → In p τ → In p υ ⊎ (p < n))

  reached_visit : (n : ℕ) (b c : B) (p : ℕ) → p < n → Reached n b c → Reached n b (visit ready after c p)
  unfolding visit
  reached_visit n b c p l f υ g = go (ready c p) refl g
    where
      go : (r : Bool) → ready c p ≡ r → good_from ready after (cond r (after c p) c) υ ≡ true
          → (τ : List ℕ) × (good_from ready after b τ ≡ true) × ((q : ℕ) → In q υ → In q τ) × ((q : ℕ) → In q τ → In q υ ⊎ (q < n))
      go false e g = f υ g
      go true e g =
          let s = f (p ∷ υ) (good_cons ready after c p υ e g) in
          (s.0, s.1, λ q m. s.2 q (inr m), λ q m. ⊎_elim (λ i. ⊎_elim (λ u. inr (omega arith)) (λ u. inl u) i) (λ i. inr i) (s.3 q m))

  reached_visits : (n : ℕ) (b c : B) (σ : List ℕ) → ((p : ℕ) → In p σ → p < n) → Reached n b c → Reached n b (visits ready after c σ)
  unfolding visits
  reached_visits n b c [] l f = f
  reached_visits n b c (p ∷ σ) l f =
      reached_visits n b (visit ready after c p) σ (λ q m. l q (inr m)) (reached_visit n b c p (l p (inl refl)) f)

  reached_passes : (n k : ℕ) (b c : B) → Reached n b c → Reached n b (passes ready after n k c)
  unfolding passes
  reached_passes n zero b c f = f
  reached_passes n (suc k) b c f =
      reached_passes n k b (visits ready after c (count 0 n))
      (reached_visits n b c (count 0 n) (λ p m. let z = count_in_lem 0 n p m in omega arith) f)

  -- a good list that has all of rem, and else only what is taken already, has a good order of rem in it
  cover : (τ rem : List ℕ) (b : B) → Distinct rem → ((p : ℕ) → In p τ → In p rem ⊎ (after b p ≡ b)) → ((p : ℕ) → In p rem → In p τ)
      → good_from ready after b τ ≡ true → (σ : List ℕ) × Takes rem σ × (good_from ready after b σ ≡ true)
  cover [] [] b d f h g = ([], refl, g)
  cover [] (x ∷ rem) b d f h g = absurd (h x (inl refl))
  cover (x ∷ τ) rem b d f h g = go (in? x rem) (cover τ)
    where
      both : (ready b x ≡ true) × (good_from ready after (after b x) τ ≡ true)
      both = good_parts ready after b x τ g

      next : (p : ℕ) → In p τ → (x ≡ p) ⊎ (x ≡ p → ⊥) → In p rem ⊎ (after b p ≡ b) → In p (without x rem) ⊎ (after (after b x) p ≡ after b x)
      next p m (inl e) i = inr (subst (λ (u : ℕ). after (after b x) u ≡ after b x) e (grow.after_twice b x))
      next p m (inr e) (inl i) = inl (without_keeps x p rem e i)
      next p m (inr e) (inr i) = inr (grow.after_swap b x p ∙ ap (λ c. after c x) i)

      in_tail : (p : ℕ) → (x ≡ p → ⊥) → In p (x ∷ τ) → In p τ
      in_tail p n (inl e) = absurd (n (sym e))
      in_tail p n (inr i) = i

      go : In x rem ⊎ (In x rem → ⊥)
          → ((rem : List ℕ) (b : B) → Distinct rem → ((p : ℕ) → In p τ → In p rem ⊎ (after b p ≡ b)) → ((p : ℕ) → In p rem → In p τ)
          → good_from ready after b τ ≡ true → (σ : List ℕ) × Takes rem σ × (good_from ready after b σ ≡ true))
          → (σ : List ℕ) × Takes rem σ × (good_from ready after b σ ≡ true)
      go (inl m) r =
          let s = r (without x rem) (after b x) (without_distinct x rem d) (λ p i. next p i (same? x p) (f p (inr i)))
          (λ p i. in_tail p (λ e. without_gone x rem d (subst (λ (u : ℕ). In u (without x rem)) (sym e) i)) (h p (without_in x p rem i))) both.1 in
          (x ∷ s.0, (m, s.1), good_cons ready after b x s.0 both.0 s.2)
      go (inr n) r =
          let e : after b x ≡ b = ⊎_elim (λ m. absurd (n m)) (λ q. q) (f x (inl refl)) in
          r rem b d (λ p i. f p (inr i)) (λ p i. in_tail p (λ q. n (subst (λ (u : ℕ). In u rem) (sym q) i)) (h p i))
          (subst (λ (c : B). good_from ready after c τ ≡ true) e both.1)

  reached_good : (n k : ℕ) (b : B) → good_from ready after (passes ready after n k b) (count 0 n) ≡ true
      → (σ : List ℕ) × Rearranges n σ × (good_from ready after b σ ≡ true)
  reached_good n k b g =
      let s = reached_passes n k b b (λ υ e. (υ, e, λ p m. m, λ p m. inl m)) (count 0 n) g in
      let r = cover s.0 (count 0 n) b (count_distinct 0 n)
      (λ p m. inl (⊎_elim (λ i. i) (λ l. in_count 0 n p (omega arith) (omega arith)) (s.3 p m))) s.2 s.1 in
      (r.0, takes_right n r.0 r.1, r.2)

  -- ---- the theorem

  -- after any passes, what is ready in turn has a good order
  any_passes : (n k : ℕ) (b : B) → good_from ready after (passes ready after n k b) (count 0 n) ≡ true → is_some (first_good ready after b n) ≡ true
  any_passes n k b g = let s = reached_good n k b g in good_first ready after b n s.0 s.1 s.2

  -- from n - 1 passes on, the places are ready in turn exactly where there is a good order
  pub enough_passes : (n k : ℕ) (b : B) → n ≤ k + 1
      → good_from ready after (passes ready after n k b) (count 0 n) ≡ is_some (first_good ready after b n)
  enough_passes n k b h =
      same (good_from ready after (passes ready after n k b) (count 0 n)) (is_some (first_good ready after b n)) (any_passes n k b)
      (λ t. let s = first_good_lem ready after b n t in good_reached n k b s.0 h s.1 s.2)

  -- a pass that changed nothing is the last
  pub still_passes : (n k : ℕ) (b : B) → visits ready after (passes ready after n k b) (count 0 n) ≡ passes ready after n k b
      → good_from ready after (passes ready after n k b) (count 0 n) ≡ is_some (first_good ready after b n)
  still_passes n k b e =
      ap (λ c. good_from ready after c (count 0 n)) (sym (passes_add ready after n k n b ∙ passes_still ready after n n (passes ready after n k b) e))
      ∙ enough_passes n (k + n) b (omega arith)

  -- ---- where they are ready, all have been taken

  -- one of them more changes nothing
  all_again : (b : B) (p : ℕ) (σ : List ℕ) → In p σ → all_after after (after b p) σ ≡ all_after after b σ
  unfolding all_after
  all_again b p (q ∷ σ) (inl e) =
      ap (λ c. all_after after c σ) (subst (λ (u : ℕ). after (after b p) u ≡ after b u) e (grow.after_twice b p))
  all_again b p (q ∷ σ) (inr m) = ap (λ c. all_after after c σ) (grow.after_swap b p q) ∙ all_again (after b q) p σ m
  all_again b p [] x' = elim x' [ ]

  all_visit : (b : B) (p : ℕ) (σ : List ℕ) → In p σ → all_after after (visit ready after b p) σ ≡ all_after after b σ
  unfolding visit
  all_visit b p σ m = go (ready b p)
    where
      go : (c : Bool) → all_after after (cond c (after b p) b) σ ≡ all_after after b σ
      go true = all_again b p σ m
      go false = refl

  all_visits : (b : B) (τ σ : List ℕ) → ((p : ℕ) → In p τ → In p σ) → all_after after (visits ready after b τ) σ ≡ all_after after b σ
  unfolding visits
  all_visits b [] σ f = refl
  all_visits b (p ∷ τ) σ f = all_visits (visit ready after b p) τ σ (λ q m. f q (inr m)) ∙ all_visit b p σ (f p (inl refl))

  all_passes : (n k : ℕ) (b : B) → all_after after (passes ready after n k b) (count 0 n) ≡ all_after after b (count 0 n)
  unfolding passes
  all_passes n zero b = refl
  all_passes n (suc k) b = all_passes n k (visits ready after b (count 0 n)) ∙ all_visits b (count 0 n) (count 0 n) (λ p m. m)

  pub good_passes : (n k : ℕ) (b : B) → good_from ready after (passes ready after n k b) (count 0 n) ≡ true
      → visits ready after (passes ready after n k b) (count 0 n) ≡ all_after after b (count 0 n)
  good_passes n k b g = good_visits ready after (passes ready after n k b) (count 0 n) g ∙ all_passes n k b

-- ---- what is taken stays taken, and taking it again changes nothing

module _ (T : Table) (body : List Call) (b : Bound) (p : ℕ) where
  abbrev next : ℕ → Bound
  next q = visit (ready_at T body) (after_at body) b q

  pub taken_visit : Taken T body b p → next p ≡ b
  unfolding visit
  taken_visit t = rw t.ready· t.still

  pub taken_after : ready_at T body b p ≡ true → Taken T body (next p) p
  taken_after r =
      let g = bound_growing T body in
      let e = visit_ready (ready_at T body) (after_at body) b p r in
      record {
        ready· = ap (λ (c : Bound). ready_at T body c p) e ∙ g.ready_mono b (after_at body b p) p (g.after_grows b p) r;
        still = ap (λ (c : Bound). after_at body c p) e ∙ g.after_twice b p ∙ sym e;
      }

  pub taken_stays : (q : ℕ) → Taken T body b p → Taken T body (next q) p
  unfolding visit
  taken_stays q t =
      let g = bound_growing T body in
      record {
        ready· = g.ready_mono b (next q) p (visit_grows g b q) t.ready·;
        still = go (ready_at T body b q);
      }
    where
      go : (c : Bool) → after_at body (cond c (after_at body b q) b) p ≡ cond c (after_at body b q) b
      go true = (bound_growing T body).after_swap b q p ∙ ap (λ (d : Bound). after_at body d q) t.still
      go false = t.still

-- ---- for the subgoals of a clause

module _ (T : Table) (body : List Call) (n k : ℕ) (b : Bound) where
  pub enough : n ≤ k + 1
      → clause.good_from T body (passes (ready_at T body) (after_at body) n k b) (count 0 n) ≡ is_some (first_good (ready_at T body) (after_at body) b n)
  enough h = enough_passes (bound_growing T body) n k b h

  pub settled : visits (ready_at T body) (after_at body) (passes (ready_at T body) (after_at body) n k b) (count 0 n)
      ≡ passes (ready_at T body) (after_at body) n k b
      → clause.good_from T body (passes (ready_at T body) (after_at body) n k b) (count 0 n) ≡ is_some (first_good (ready_at T body) (after_at body) b n)
  settled e = still_passes (bound_growing T body) n k b e

  -- after any passes, what is ready in turn has a good order
  pub early : clause.good_from T body (passes (ready_at T body) (after_at body) n k b) (count 0 n) ≡ true → is_some (first_good (ready_at T body) (after_at body) b n) ≡ true
  early g = any_passes (bound_growing T body) n k b g

  -- and all have run
  pub all_ran : clause.good_from T body (passes (ready_at T body) (after_at body) n k b) (count 0 n) ≡ true
      → visits (ready_at T body) (after_at body) (passes (ready_at T body) (after_at body) n k b) (count 0 n) ≡ ran body b (count 0 n)
  all_ran g = good_passes (bound_growing T body) n k b g

  pub one_more : visits (ready_at T body) (after_at body) (passes (ready_at T body) (after_at body) n k b) (count 0 n)
      ≡ passes (ready_at T body) (after_at body) n (suc k) b
  one_more = passes_suc (ready_at T body) (after_at body) n k b
