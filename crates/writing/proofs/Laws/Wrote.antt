-- Bytes written one run after another, and the room for them. Assumes nothing.
use mathlib.Core.Path.{◌≡◌, refl, sym, ap, ap₂, ◌∙◌}
use mathlib.Core.List.{List, [], ◌∷◌, ◌++◌}
use Prim.Native.Nat.{ℕ, ◌+◌, ◌≤◌}
use native.Mathlib.Omega.{arith}
use native.Mathlib.Nat.{add-zero}
use native.Mathlib.Numerals.{add-one}
use lib.ListN.{length, take, drop, set, length-append, length-take}
use lib.Seq.{sets, length-sets, sets-eq, take_at}
use Rattle.masks.proofs.Laws.Lists.{take_front, sets_append, sets_set}
use Rattle.writing.specs.Wrote.{Room, Wrote}

-- ---- one run after another

pub wrote_nil : (out : List ℕ) (at : ℕ) → Wrote out out at at []
wrote_nil out at = record { ends = sym (add-zero at); is = refl }

pub wrote_append : {a b c l k : List ℕ} {at n m : ℕ} → Wrote a b at n l → Wrote b c n m k → Wrote a c at m (l ++ k)
wrote_append {a} {b} {c} {l} {k} {at} {n} p q =
    record {
      ends = let e = p.ends in let f = q.ends in let g = length-append l k in omega arith;
      is = q.is ∙ ap₂ (λ (x : List ℕ) (i : ℕ). sets x i k) p.is p.ends ∙ sym (sets_append a at l k);
    }

-- the same bytes, otherwise told
pub wrote_as : {a b l k : List ℕ} {at n : ℕ} → l ≡ k → Wrote a b at n l → Wrote a b at n k
wrote_as e w = rw (← e) w

pub wrote_length : {a b l : List ℕ} {at n : ℕ} → Wrote a b at n l → length b ≡ length a
wrote_length {a} {b} {l} {at} w = ap length w.is ∙ length-sets a at l

-- a byte before a run, written when the run is
pub wrote_before : {a b c l : List ℕ} {at n m x : ℕ} → b ≡ sets a (at + 1) l → m ≡ at + 1 + length l → Wrote b c at n (x ∷ []) → Wrote a c at m (x ∷ l)
wrote_before {a} {l = l} {at} {x = x} e f w =
    record {
      ends = omega arith;
      is = w.is ∙ ap (λ (s : List ℕ). set s at x) e ∙ sets_set a at (at + 1) x l (omega arith) ∙ rw add-one;
    }

-- the front of what was written from the start
pub wrote_front : {a b l : List ℕ} {n : ℕ} → Wrote a b 0 n l → Room a 0 l → take n b ≡ l
wrote_front {a} {b} {l} {n} w r =
    let e = w.ends in
    ap (take n) (w.is ∙ sets-eq l a 0 r) ∙ take_at l (drop (0 + length l) a) n (omega arith)

-- ---- room for two runs is room for the first, and when that is written, for the second

pub room_first : (a : List ℕ) (at : ℕ) (l k : List ℕ) → Room a at (l ++ k) → Room a at l
room_first a at l k r = let e = length-append l k in omega arith

pub room_second : {a b l : List ℕ} {at n : ℕ} (k : List ℕ) → Wrote a b at n l → Room a at (l ++ k) → Room b n k
room_second {l = l} k w r =
    let e = w.ends in
    let f = wrote_length w in
    let g = length-append l k in
    omega arith

-- ---- as many of an array as its first n are

pub record Front {A : Type 0} (n k : ℕ) (l : List A) : Type 0 where
  pub fits : k ≤ length l
  pub size : k ≡ length (take k l)
  pub is : take k l ≡ take n l

pub front : {A : Type 0} (n : ℕ) {k : ℕ} (l : List A) → k ≡ length (take n l) → Front n k l
front n {k} l e =
    let t : take k l ≡ take n l = ap (λ (i : ℕ). take i l) e ∙ take_front n l in
    let f = length-take n l in
    record { fits = omega arith; size = e ∙ ap length (sym t); is = t }
