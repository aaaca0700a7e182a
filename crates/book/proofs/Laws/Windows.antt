-- Windows, k bytes of a list from a place on: their parts, what leaves them as they are, and one that is stored. Assumes nothing.
use mathlib.Core.Path.{◌≡◌, sym, ap, ◌∙◌}
use mathlib.Core.List.{List, [], ◌∷◌, ◌++◌, append_assoc}
use Prim.Native.Nat.{ℕ, zero, suc, ◌+◌, ◌-◌, ◌*◌, ◌≤◌, ◌<◌}
use native.Mathlib.Nat.{mul-le-mul_right, suc-mul}
use native.Mathlib.Omega.{arith}
use lib.Dec.{ltb}
use lib.ListN.{length, get_or, take, drop, length-append}
use lib.Seq.{take-nil, take-take, drop-drop, get_or-take, get_or-drop, drop_at, take_at, sets, sets-eq, length-take-le}
use borrow.Author.Tests.{ltb-true, ltb-false}
use Rattle.masks.proofs.Laws.Logic.{by_bool}
use Rattle.book.specs.Held.{window}

-- ---- a part of a window, and its elements

drop_take : (i n : ℕ) (l : List ℕ) → drop i (take n l) ≡ take (n - i) (drop i l)
drop_take zero n l = let e : n ≡ n - 0 = omega arith in ap (λ (k : ℕ). take k l) e
drop_take (suc i) zero l = let e : 0 ≡ 0 - suc i = omega arith in ap (λ (k : ℕ). take k (drop (suc i) l)) e
drop_take (suc i) (suc n) [] = sym (take-nil (suc n - suc i))
drop_take (suc i) (suc n) (x ∷ xs) =
    let e : n - i ≡ suc n - suc i = omega arith in drop_take i n xs ∙ ap (λ (k : ℕ). take k (drop i xs)) e

-- the bytes of a front stand where they stood
front_window : (n at k : ℕ) (l : List ℕ) → at + k ≤ n → window at k (take n l) ≡ window at k l
front_window n at k l h = ap (take k) (drop_take at n l) ∙ take-take k (n - at) (drop at l) (omega arith)

pub drop_window : (at i k : ℕ) (l : List ℕ) → drop i (window at (i + k) l) ≡ window (at + i) k l
drop_window at i k l =
    let e : i + k - i ≡ k = omega arith in
    drop_take i (i + k) (drop at l) ∙ ap (λ (m : ℕ). take m (drop i (drop at l))) e ∙ ap (take k) (drop-drop i at l)

pub get_or_window : (at k i : ℕ) (l : List ℕ) → i < k → get_or (window at k l) i 0 ≡ get_or l (at + i) 0
get_or_window at k i l h = get_or-take k (drop at l) i 0 h ∙ get_or-drop at l i 0

pub get_or_window_first : (at k : ℕ) (l : List ℕ) → 0 < k → get_or (window at k l) 0 0 ≡ get_or l at 0
get_or_window_first at k l h = let e : at + 0 ≡ at = omega arith in get_or_window at k 0 l h ∙ ap (λ (i : ℕ). get_or l i 0) e

-- ---- lists with the same windows

module _ (l m : List ℕ) where
  -- where a front is the same, so is what stands in it
  window_front : (at k n : ℕ) → at + k ≤ n → take n l ≡ take n m → window at k l ≡ window at k m
  window_front at k n h e = sym (front_window n at k l h) ∙ ap (window at k) e ∙ front_window n at k m h

  -- and where a back is
  pub drop_longer : (k n : ℕ) → n ≤ k → drop n l ≡ drop n m → drop k l ≡ drop k m
  drop_longer k n h e = back l ∙ ap (drop (k - n)) e ∙ sym (back m)
    where
      back : (s : List ℕ) → drop k s ≡ drop (k - n) (drop n s)
      back s = let q : k ≡ n + (k - n) = omega arith in ap (λ (i : ℕ). drop i s) q ∙ sym (drop-drop (k - n) n s)

  -- of an array of equal parts, all but part k
  pub window_others : (size k i : ℕ) → (i ≡ k → ⊥) → take (k * size) l ≡ take (k * size) m
      → drop (k * size + size) l ≡ drop (k * size + size) m → window (i * size) size l ≡ window (i * size) size m
  window_others size k i ne before behind =
      by_bool (ltb i k) (λ t. window_front (i * size) size (k * size) (next i k (ltb-true i k t)) before)
      (λ t. let le = ltb-false i k t in ap (take size) (drop_longer (i * size) (k * size + size) (next k i (omega arith)) behind))
    where
      next : (a b : ℕ) → a < b → a * size + size ≤ b * size
      next a b h = rw suc-mul at (mul-le-mul_right size h)

-- ---- a window that is stored

-- s is stored from a place on, and all else is as it was
pub record Stored (l now : List ℕ) (at n : ℕ) (s : List ℕ) : Type 0 where
  pub is : window at n now ≡ s
  pub before : take at now ≡ take at l
  pub behind : drop (at + n) now ≡ drop (at + n) l

pub stored_sets : (l : List ℕ) (at n : ℕ) (s : List ℕ) → length s ≡ n → at + n ≤ length l → Stored l (sets l at s) at n s
stored_sets l at n s e h =
    record {
      is = ap (window at n) split ∙ ap (take n) (rw append_assoc (drop_at (take at l) (s ++ drop (at + n) l) at front)) ∙ take_at s (drop (at + n) l) n e;
      before = ap (take at) split ∙ rw append_assoc (take_at (take at l) (s ++ drop (at + n) l) at front);
      behind = ap (drop (at + n)) split ∙ drop_at (take at l ++ s) (drop (at + n) l) (at + n) (length-append (take at l) s ∙ omega (arith, front));
    }
  where
    front : length (take at l) ≡ at
    front = length-take-le at l (omega arith)

    split : sets l at s ≡ take at l ++ s ++ drop (at + n) l
    split = sets-eq s l at (omega arith) ∙ ap (λ (k : ℕ). take at l ++ s ++ drop (at + k) l) e
