-- What a book of n predicates lacks of a set: the lowest member from n on, found in the word that begins there. Assumes nothing.
use mathlib.Core.Path.{◌≡◌, refl, sym, ap, ◌∙◌, subst}
use mathlib.Core.Bool.{Bool, true, false, cond}
use mathlib.Core.Option.{Option, none, some, some-ne-none}
use Prim.Native.Nat.{ℕ, zero, suc, ◌+◌, ◌-◌, ◌^◌, ◌≤◌, ◌<◌}
use native.Mathlib.Omega.{arith}
use lib.Bits.{bit_or}
use lib.Count.{count_trailing_zeros}
use lib.Dec.{eqb}
use borrow.Author.Tests.{eqb-true, eqb-false}
use Rattle.masks.specs.Set.{bit_at, Holds}
use Rattle.book.specs.Limits.{max_predicates}
use Rattle.closing.specs.Close.{first_from, lacked}
use Rattle.masks.proofs.Laws.Logic.{by_bool, by_range, clash}
use Rattle.masks.proofs.Laws.Members.{lowest}
use Rattle.masks.proofs.Laws.Set.{bit_at_zero, bit_at_high, bit_at_or}

-- ---- the lowest chosen number from n on

pub first_from_none : (f : ℕ → Bool) (n d : ℕ) → first_from f n d ≡ none → (p : ℕ) → n ≤ p → p < n + d → f p ≡ false
first_from_none f n zero e p a b = absurd (omega arith)
first_from_none f n (suc d) e p a b = go (f n) refl (first_from_none f (suc n) d) e
  where
    go : (t : Bool) → f n ≡ t → (first_from f (suc n) d ≡ none → (p : ℕ) → suc n ≤ p → p < suc n + d → f p ≡ false)
        → cond t (some n) (first_from f (suc n) d) ≡ none → f p ≡ false
    go true t r e = absurd (some-ne-none n e)
    go false t r e = by_bool (eqb n p) (λ q. rw (← eqb-true n p q) t) (λ q. let ne = eqb-false n p q in r e p (omega arith) (omega arith))

pub none_first_from : (f : ℕ → Bool) (n d : ℕ) → ((p : ℕ) → n ≤ p → p < n + d → f p ≡ false) → first_from f n d ≡ none
none_first_from f n zero h = refl
none_first_from f n (suc d) h = rw (h n (omega arith) (omega arith)) (none_first_from f (suc n) d (λ p a b. h p (omega arith) (omega arith)))

first_from_cong : (f g : ℕ → Bool) (n d : ℕ) → ((p : ℕ) → n ≤ p → p < n + d → f p ≡ g p) → first_from f n d ≡ first_from g n d
first_from_cong f g n zero h = refl
first_from_cong f g n (suc d) h =
    rw (h n (omega arith) (omega arith)) (ap (λ (o : Option ℕ). cond (g n) (some n) o) (first_from_cong f g (suc n) d (λ p a b. h p (omega arith) (omega arith))))

first_from_some : (f : ℕ → Bool) (m n d : ℕ) → m < d → f (n + m) ≡ true → ((j : ℕ) → j < m → f (n + j) ≡ false) → first_from f n d ≡ some (n + m)
first_from_some f m n zero l t h = absurd (omega arith)
first_from_some f zero n (suc d) l t h = let e : n + 0 ≡ n = omega arith in rw (subst (λ (x : ℕ). f x ≡ true) e t) (ap some (sym e))
first_from_some f (suc m) n (suc d) l t h =
    let e : n + suc m ≡ suc n + m = omega arith in
    let z : n + 0 ≡ n = omega arith in
    rw (subst (λ (x : ℕ). f x ≡ false) z (h 0 (omega arith)))
    (first_from_some f m (suc n) d (omega arith) (subst (λ (x : ℕ). f x ≡ true) e t)
    (λ j k. let q : n + suc j ≡ suc n + j = omega arith in subst (λ (x : ℕ). f x ≡ false) q (h (suc j) (omega arith)))
    ∙ ap some (sym e))

-- ---- what a book of n predicates lacks

-- where the book has each of S, it lacks of both sets what it lacks of R
pub lacked_or : (S R n : ℕ) → lacked S n ≡ none → lacked R n ≡ lacked (bit_or S R) n
unfolding lacked
lacked_or S R n e =
    first_from_cong (bit_at R) (bit_at (bit_or S R)) n (max_predicates - n)
    (λ p a b. sym (bit_at_or S R p ∙ rw (first_from_none (bit_at S) n (max_predicates - n) e p a b)))

module _ (set n beyond : ℕ) (small : set < 2 ^ max_predicates) (holds : Holds beyond (λ k. bit_at set (n + k))) where
  pub lacked_lowest : beyond < 2 ^ max_predicates → (beyond ≡ 0 → ⊥) → lacked set n ≡ some (n + count_trailing_zeros max_predicates beyond)
  unfolding lacked
  lacked_lowest b z =
      let l = lowest max_predicates beyond b z in
      let m = count_trailing_zeros max_predicates beyond in
      let t : bit_at set (n + m) ≡ true = sym (holds m) ∙ l.member in
      by_range (n + m) max_predicates
      (λ h. first_from_some (bit_at set) m n (max_predicates - n) (omega arith) t (λ j k. sym (holds j) ∙ l.none j k))
      (λ h. clash t (bit_at_high max_predicates set (n + m) small h))

  pub lacked_none : beyond ≡ 0 → lacked set n ≡ none
  unfolding lacked
  lacked_none z =
      none_first_from (bit_at set) n (max_predicates - n)
      (λ p a b. let e : n + (p - n) ≡ p = omega arith in
      subst (λ (x : ℕ). bit_at set x ≡ false) e (sym (holds (p - n)) ∙ ap (λ (w : ℕ). bit_at w (p - n)) z ∙ bit_at_zero (p - n)))

-- where it lacks none, every member is a predicate of the book
pub member_known : (set n : ℕ) → set < 2 ^ max_predicates → lacked set n ≡ none → (p : ℕ) → bit_at set p ≡ true → p < n
unfolding lacked
member_known set n small e p t =
    by_range p n (λ h. h)
    (λ h. by_range p max_predicates
    (λ k. clash t (first_from_none (bit_at set) n (max_predicates - n) e p h (omega arith)))
    (λ k. clash t (bit_at_high max_predicates set p small k)))
