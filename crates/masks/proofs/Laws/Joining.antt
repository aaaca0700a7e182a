-- What the code of joining does, turn by turn, to the definitions, and what a success of the two operations means. Assumes nothing.
use mathlib.Core.Path.{◌≡◌, refl, sym, ap, ◌∙◌, subst}
use mathlib.Core.Bool.{Bool, true, ◌&&◌, ◌||◌}
use mathlib.Core.List.{List, [], ◌∷◌, ◌++◌, map, append-nil, append_assoc}
use Prim.Native.Nat.{ℕ, zero, suc, ◌+◌, ◌^◌, ◌≤◌, ◌<◌}
use native.Mathlib.Omega.{arith}
use native.Mathlib.Numerals.{add-one}
use native.Mathlib.Nat.{pow-le-pow_right}
use lib.Bits.{bit_or}
use lib.Dec.{ltb}
use lib.ListN.{length, get_or, take, replicate}
use lib.Seq.{take-suc, take-length}
use borrow.Author.Tests.{le-ltb, lt-ltb, ltb-false}
use Rattle.masks.specs.Limits.{max_arity, max_masks, all_patterns}
use Rattle.masks.specs.Lists.{has}
use Rattle.masks.specs.Constraint.{admits, is_written, in_range, written, unions, joint}
use Rattle.masks.specs.Set.{bit_at, Holds}
use Rattle.masks.specs.Outcome.{Outcome, refused, done, Answers}
use Rattle.masks.specs.declared.reply.Reply.{Reply}
use Rattle.masks.specs.Joining.{list_fault, or_else, fault, combined, unless, joining}
use Rattle.masks.specs.Unjoined.{reply, told}
use Rattle.masks.specs.declared.Unjoined.{Unjoined}
use Rattle.masks.specs.declared.Unjoined.TheVariants.{OutOfRange, TooMany, TooShort}
use Rattle.masks.specs.declared.Way.{Way}
use Rattle.masks.specs.declared.Way.TheVariants.{Choice, Joint}
use Rattle.masks.proofs.Laws.Logic.{by_bool}
use Rattle.masks.proofs.Laws.Lists.{all_suc, has_append}
use Rattle.masks.proofs.Laws.Constraint.{in_range_at, in_range_mono, choice_is_written_at, joint_is_written_at, admits_choice, admits_joint}
use Rattle.masks.proofs.Laws.Outcome.{answers_bytes, answers_number}
use Rattle.masks.proofs.Laws.Set.{bit_at_zero}
use Rattle.masks.proofs.Laws.Sets.{minimise_held}

-- ---- computed: a list of 21 masks is 5, also where they are out of range

pub long_first : list_fault 2 (replicate 21 2) ≡ 5
unfolding list_fault in_range
long_first = refl

-- ---- the joint: the unions of the first i masks of x with those of y are in

unions_snoc : (xs : List ℕ) (m : ℕ) (d : List ℕ) → unions (xs ++ (m ∷ [])) d ≡ unions xs d ++ map (bit_or m) d
unions_snoc [] m d = append-nil (map (bit_or m) d)
unions_snoc (x ∷ xs) m d =
    ap {B = List ℕ} (λ (l : List ℕ). map (bit_or x) d ++ l) (unions_snoc xs m d) ∙ sym (append_assoc (map (bit_or x) d) (unions xs d) (map (bit_or m) d))

pub joint_start : (x y : List ℕ) → Holds 0 (has (unions (take 0 x) y))
joint_start x y k = bit_at_zero k

pub joint_next : (word more : ℕ) (x y : List ℕ) (i : ℕ) → i < length x → Holds word (has (unions (take i x) y))
    → Holds more (λ k. bit_at word k || has (map (bit_or (get_or x i 0)) y) k) → Holds more (has (unions (take (i + 1) x) y))
joint_next word more x y i h f g k =
    let e : unions (take (i + 1) x) y ≡ unions (take i x) y ++ map (bit_or (get_or x i 0)) y = rw (add-one i, take-suc x i 0 h) (unions_snoc (take i x) (get_or x i 0) y) in
    g k ∙ ap (λ (a : Bool). a || has (map (bit_or (get_or x i 0)) y) k) (f k)
    ∙ sym (has_append (unions (take i x) y) (map (bit_or (get_or x i 0)) y) k)
    ∙ ap (λ (l : List ℕ). has l k) (sym e)

pub joint_held : (word : ℕ) (x y : List ℕ) (i : ℕ) → i ≡ length x → Holds word (has (unions (take i x) y))
    → written (bit_at word) all_patterns ≡ joint x y
unfolding joint
joint_held word x y i e f =
    minimise_held word (unions x y) (λ k. f k ∙ ap (λ (l : List ℕ). has (unions l y) k) (ap (λ (j : ℕ). take j x) e ∙ take-length x))

-- ---- the faults

pub power_le : (arity : ℕ) → arity ≤ max_arity → 2 ^ arity ≤ all_patterns
power_le arity h = pow-le-pow_right (omega arith) h

pub some_number : (e : Unjoined) (f : ℕ) → reply e ≡ told f → f ≡ 0 → ⊥
some_number e f h z = go e (ap (λ (r : Reply). r.number) h ∙ z)
  where
    go : (e : Unjoined) → (reply e).number ≡ 0 → ⊥
    go OutOfRange q = omega arith
    go TooMany q = omega arith
    go (TooShort e) q = omega arith

module _ (limit : ℕ) (l : List ℕ) where
  pub fault_long : max_masks < length l → 5 ≡ list_fault limit l
  unfolding list_fault
  fault_long h = rw (lt-ltb max_masks (length l) h)

  pub fault_mask : length l ≤ max_masks → (i : ℕ) → i < length l → limit ≤ get_or l i 0 → 4 ≡ list_fault limit l
  unfolding list_fault
  fault_mask h i k e =
      rw (le-ltb max_masks (length l) h)
      (by_bool (in_range limit l) (λ t. let b = in_range_at limit l i t k in absurd (omega arith)) (λ t. rw t))

  pub fault_none : length l ≤ max_masks → in_range limit l ≡ true → 0 ≡ list_fault limit l
  unfolding list_fault
  fault_none h t = rw (le-ltb max_masks (length l) h, t)

  pub no_fault : list_fault limit l ≡ 0 → in_range limit l ≡ true
  unfolding list_fault
  no_fault e =
      by_bool (in_range limit l) (λ t. t)
      (λ t. by_bool (ltb max_masks (length l))
      (λ s. let z : ◌≡◌ {A = ℕ} 5 0 = sym (rw s) ∙ e in absurd (omega arith))
      (λ s. let z : ◌≡◌ {A = ℕ} 4 0 = sym (rw (s, t)) ∙ e in absurd (omega arith)))

  -- the test over the first masks, as the loop makes it
  pub range_start : in_range limit (take 0 l) ≡ true
  unfolding in_range
  range_start = refl

  pub range_next : (i : ℕ) → i < length l → get_or l i 0 < limit → in_range limit (take i l) ≡ true → in_range limit (take (i + 1) l) ≡ true
  unfolding in_range
  range_next i h k t = all_suc (λ m. ltb m limit) 0 l i h ∙ rw (t, lt-ltb (get_or l i 0) limit k)

  pub range_end : (i : ℕ) → i ≡ length l → in_range limit (take i l) ≡ true → in_range limit l ≡ true
  range_end i e t = ap (in_range limit) (sym (ap (λ (j : ℕ). take j l) e ∙ take-length l)) ∙ t

module _ (arity : ℕ) (x y : List ℕ) where
  pub fault_arity : max_arity < arity → 4 ≡ fault arity x y
  unfolding fault
  fault_arity h = rw (lt-ltb max_arity arity h)

  pub fault_first : arity ≤ max_arity → (f : ℕ) → f ≡ list_fault (2 ^ arity) x → (f ≡ 0 → ⊥) → f ≡ fault arity x y
  unfolding fault
  fault_first h f e ne = rw (le-ltb max_arity arity h, ← e) (first f ne)
    where
      first : (f : ℕ) → (f ≡ 0 → ⊥) → f ≡ or_else f (list_fault (2 ^ arity) y)
      first zero n = absurd (n refl)
      first (suc f) n = refl

  pub fault_second : arity ≤ max_arity → list_fault (2 ^ arity) x ≡ 0 → list_fault (2 ^ arity) y ≡ fault arity x y
  unfolding fault
  fault_second h e = rw (le-ltb max_arity arity h, e)

  -- with none, both lists are of masks of the arity, and so of six positions
  fault_parts : fault arity x y ≡ 0 → (arity ≤ max_arity) × (list_fault (2 ^ arity) x ≡ 0) × (list_fault (2 ^ arity) y ≡ 0)
  unfolding fault
  fault_parts e =
      by_bool (ltb max_arity arity) (λ s. let z : ◌≡◌ {A = ℕ} 4 0 = sym (rw s) ∙ e in absurd (omega arith))
      (λ s. let b = both (list_fault (2 ^ arity) x) (list_fault (2 ^ arity) y) (sym (rw s) ∙ e) in (ltb-false max_arity arity s, b.0, b.1))
    where
      both : (f g : ℕ) → or_else f g ≡ 0 → (f ≡ 0) × (g ≡ 0)
      both zero g q = (refl, q)
      both (suc f) g q = absurd (omega arith)

  pub fault_range : fault arity x y ≡ 0 → (in_range (2 ^ arity) x ≡ true) × (in_range (2 ^ arity) y ≡ true)
  fault_range e = let p = fault_parts e in (no_fault (2 ^ arity) x p.1, no_fault (2 ^ arity) y p.2)

  pub fault_free : fault arity x y ≡ 0 → (in_range all_patterns x ≡ true) × (in_range all_patterns y ≡ true)
  fault_free e =
      let h = power_le arity (fault_parts e).0 in
      let p = fault_range e in
      (in_range_mono (2 ^ arity) all_patterns x h p.0, in_range_mono (2 ^ arity) all_patterns y h p.1)

  -- so the outcome is a refusal, or the masks
  module _ (way : Way) where
    pub joining_fault : (f : ℕ) → f ≡ fault arity x y → (f ≡ 0 → ⊥) → joining way arity x y ≡ refused f 0
    unfolding joining
    joining_fault f e ne = rw (← e) (go f ne)
      where
        go : (f : ℕ) → (f ≡ 0 → ⊥) → unless f (combined way x y) ≡ refused f 0
        go zero n = absurd (n refl)
        go (suc f) n = refl

    pub joining_done : fault arity x y ≡ 0 → joining way arity x y ≡ done 0 (combined way x y)
    unfolding joining
    joining_done e = rw e

-- ---- what a success means: the bytes written are a written form of the arity, and a pattern fits them just where document 01 says

-- "fitted by a pattern that fits either"; "by one that fits each"
abbrev pub fitted : Way → Bool → Bool → Bool
fitted Choice p q = p || q
fitted Joint p q = p && q

combined_is_written_at : (way : Way) (k : ℕ) (x y : List ℕ) → in_range (2 ^ k) x ≡ true → in_range (2 ^ k) y ≡ true → is_written (2 ^ k) (combined way x y) ≡ true
combined_is_written_at Choice k x y s t = choice_is_written_at (2 ^ k) x y s t
combined_is_written_at Joint k x y s t = joint_is_written_at k x y s t

admits_combined : (way : Way) (x y : List ℕ) → in_range all_patterns x ≡ true → in_range all_patterns y ≡ true
    → (a : ℕ) → admits (combined way x y) a ≡ fitted way (admits x a) (admits y a)
admits_combined Choice x y s t a = admits_choice x y s t a
admits_combined Joint x y s t a = admits_joint x y s t a

module _ (way : Way) (arity : ℕ) (x y : List ℕ) {out : List ℕ} {r : Reply} {after : List ℕ} where
  -- with reply 0 there was no fault, and what was written is what the lists combine to
  success : Answers (joining way arity x y) out r after → r.number ≡ 0 → (fault arity x y ≡ 0) × (take r.value after ≡ combined way x y)
  success a z = go (fault arity x y) refl
    where
      here : {o : Outcome} → joining way arity x y ≡ o → Answers o out r after
      here e = subst (λ (o : Outcome). Answers o out r after) e a

      go : (f : ℕ) → fault arity x y ≡ f → (fault arity x y ≡ 0) × (take r.value after ≡ combined way x y)
      go zero e = (e, answers_bytes (here (joining_done arity x y way e)) z)
      go (suc f) e =
          let n : suc f ≡ 0 = sym (answers_number (here (joining_fault arity x y way (suc f) (sym e) (λ q. omega arith)))) ∙ z in
          absurd (omega arith)

  pub joining_means : Answers (joining way arity x y) out r after → r.number ≡ 0
      → (is_written (2 ^ arity) (take r.value after) ≡ true) × ((a : ℕ) → admits (take r.value after) a ≡ fitted way (admits x a) (admits y a))
  joining_means b z =
      let s = success b z in
      let f = fault_range arity x y s.0 in
      let g = fault_free arity x y s.0 in (
        ap (is_written (2 ^ arity)) s.1 ∙ combined_is_written_at way arity x y f.0 f.1,
        λ a. ap (λ (c : List ℕ). admits c a) s.1 ∙ admits_combined way x y g.0 g.1 a,
      )
