-- Modes made from what each predicate is given: they say of each predicate what it was given, they rise, and modes that rise are made again from
-- what they say. Assumes nothing.
use mathlib.Core.Path.{◌≡◌, refl, sym, ◌∙◌}
use mathlib.Core.Bool.{Bool, true}
use mathlib.Core.List.{List, [], ◌∷◌, ◌++◌}
use mathlib.Core.Option.{Option, none, some}
use Prim.Native.Nat.{ℕ, zero, suc, ◌≤◌, ◌<◌}
use native.Mathlib.Omega.{arith}
use lib.Dec.{ltb, leb}
use borrow.Author.Tests.{eq-eqb, ne_eqb, ltb-true, lt-ltb, le-leb}
use Rattle.masks.specs.Lists.{all, joined}
use Rattle.book.specs.Book.{Mode}
use Rattle.book.specs.Encode.{rises}
use Rattle.tables.specs.Table.{mode_of}
use Rattle.closing.specs.Close.{mode_with}
use Rattle.masks.proofs.Laws.Logic.{by_range, and_intro, and_left, and_right}
use Rattle.masks.proofs.Laws.Lists.{all_append}
use Rattle.tables.proofs.Laws.Modes.{mode_of_before, mode_of_joined, mode_of_over, rises_ext}

-- ---- one mode, and modes one after the other

mode_of_with : (q : ℕ) (o : Option (List ℕ)) → mode_of (mode_with q o) q ≡ o
unfolding mode_of
mode_of_with q none = refl
mode_of_with q (some masks) = rw (eq-eqb q q refl)

mode_of_other : (q : ℕ) (o : Option (List ℕ)) (p : ℕ) → (q ≡ p → ⊥) → mode_of (mode_with q o) p ≡ none
unfolding mode_of
mode_of_other q none p ne = refl
mode_of_other q (some masks) p ne = rw (ne_eqb q p ne)

-- ---- what the modes made say

module _ (f : ℕ → Option (List ℕ)) where
  pub mode_of_made : (n p : ℕ) → p < n → mode_of (joined (λ q. mode_with q (f q)) n) p ≡ f p
  mode_of_made n p h = mode_of_joined (λ q. mode_with q (f q)) p (λ q. mode_of_other q (f q) p) n h ∙ mode_of_with p (f p)

-- ---- a test of all of them

pub all_made : (t : Mode → Bool) (f : ℕ → Option (List ℕ)) (n : ℕ)
    → ((p : ℕ) (masks : List ℕ) → p < n → f p ≡ some masks → t (record { pred = p; masks = masks }) ≡ true)
    → all t (joined (λ q. mode_with q (f q)) n) ≡ true
all_made t f zero h = refl
all_made t f (suc n) h =
    all_append t (joined (λ q. mode_with q (f q)) n) (mode_with n (f n))
    ∙ and_intro (all_made t f n (λ p masks l e. h p masks (omega arith) e)) (last (f n) refl)
  where
    last : (o : Option (List ℕ)) → f n ≡ o → all t (mode_with n o) ≡ true
    last none e = refl
    last (some masks) e = and_intro (h n masks (omega arith) e) refl

-- ---- they rise

rises_with : (b n : ℕ) (o : Option (List ℕ)) (ms : List Mode) → b ≤ n → rises b ms ≡ true → all (λ (m : Mode). ltb m.pred n) ms ≡ true
    → rises b (ms ++ mode_with n o) ≡ true
rises_with b n none [] h r l = refl
rises_with b n (some masks) [] h r l = and_intro (le-leb b n h) refl
rises_with b n o (m ∷ ms) h r l =
    let k : m.pred < n = ltb-true m.pred n (and_left (ltb m.pred n) (all (λ (m : Mode). ltb m.pred n) ms) l) in
    and_intro (and_left (leb b m.pred) (rises (suc m.pred) ms) r)
    (rises_with (suc m.pred) n o ms (omega arith) (and_right (leb b m.pred) (rises (suc m.pred) ms) r)
    (and_right (ltb m.pred n) (all (λ (m : Mode). ltb m.pred n) ms) l))

pub made_rises : (f : ℕ → Option (List ℕ)) (n : ℕ) → rises 0 (joined (λ q. mode_with q (f q)) n) ≡ true
made_rises f zero = refl
made_rises f (suc n) =
    rises_with 0 n (f n) (joined (λ q. mode_with q (f q)) n) (omega arith) (made_rises f n)
    (all_made (λ (m : Mode). ltb m.pred n) f n (λ p masks l e. lt-ltb p n l))

-- ---- modes that rise are made again from what they say

pub made_back : (ms : List Mode) (n : ℕ) → rises 0 ms ≡ true → all (λ (m : Mode). ltb m.pred n) ms ≡ true
    → joined (λ q. mode_with q (mode_of ms q)) n ≡ ms
made_back ms n r t =
    rises_ext 0 0 (joined (λ q. mode_with q (mode_of ms q)) n) ms (made_rises (mode_of ms) n) r
    (λ p. by_range p n (mode_of_made (mode_of ms) n p)
    (λ h. mode_of_before (λ q. mode_with q (mode_of ms q)) p (λ q. mode_of_other q (mode_of ms q) p) n h ∙ sym (mode_of_over n ms p t h)))
