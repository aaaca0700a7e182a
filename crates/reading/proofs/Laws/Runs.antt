-- A loop over the records of a run: what is still to be read, after the records acc, comes to what the whole run comes to. Assumes nothing.
use mathlib.Core.Path.{◌≡◌, refl, sym, ap, ◌∙◌}
use mathlib.Core.Bool.{true, false}
use mathlib.Core.List.{List, [], ◌∷◌, ◌++◌}
use Prim.Native.Nat.{ℕ, zero, suc, ◌+◌, ◌-◌, ◌≤◌, ◌<◌}
use native.Mathlib.Omega.{arith}
use native.Mathlib.Numerals.{add-one}
use lib.ListN.{length, take, drop, set, length-append}
use lib.Seq.{take-suc-set}
use Rattle.book.specs.Format.{spelling, leads, mark_at, turn, Got, got, and_then, on_turn, many}
use Rattle.std.specs.Prelude.{Result, Ok, Err}
use Rattle.book.specs.declared.fault.Fault.TheVariants.{TooMany}
use Rattle.book.specs.declared.mark.Mark.{Mark}
use Rattle.book.specs.declared.mark.Phase.{Phase}
use Rattle.book.specs.declared.mark.Turn.{Turn}
use Rattle.book.specs.declared.mark.Turn.TheVariants.{Mine, Over, No}
use Rattle.book.proofs.Laws.Marks.{Sole, leads_two, leads_own, unled}
use Rattle.records.specs.declared.fault.FaultFromEnd.{FaultFromEnd}
use Rattle.records.specs.Read.{RunEnds, Reads, stops}
use Rattle.reading.specs.Stored.{Ends}
use Rattle.records.proofs.Laws.Reads.{reads_ok, then_bad, reads_map}

-- so far the n records acc were read, and these bytes are left of the whole
pub record Going {A : Type 0} (p : Phase) (item : List A → List ℕ → Got A) (room : ℕ) (whole : List ℕ) (n : ℕ) (left : List ℕ) (acc : List A) : Type 0 where
  pub turns : n ≤ room
  pub size : length acc ≡ n
  pub kept : many p item (room - n) acc left ≡ many p item room [] whole

-- a mark of a run leads the bytes; or the only one that the run has does not
module _ (p : Phase) (m : Mark) (s : List ℕ) where
  pub mine : turn p m ≡ Mine → leads (spelling m) s ≡ true → turn p (mark_at s) ≡ Mine
  mine own t = leads_own p m own s t

  pub not_mine : Sole p m → leads (spelling m) s ≡ false → turn p (mark_at s) ≡ Mine → ⊥
  not_mine sole t = unled p s (λ k e. ap (λ (j : Mark). leads (spelling j) s) (sole k e) ∙ t)

-- the end of a run, with whatever value it has
pub stops_reads : {A : Type 0} (p : Phase) (s : List ℕ) (a : A) {r : Result (Unit {0}) FaultFromEnd} → RunEnds p s r → Reads (λ u. s) r (λ u. a) (stops p a s)
stops_reads {A} p s a {r} w = let u = reads_map w (λ (k : ℕ). a) in record { is = u.is ∙ go (turn p (mark_at s)) }
  where
    go : (t : Turn) → and_then (on_turn {A = ℕ} t (got 0 s) 0 s) (λ k u. got a u) ≡ on_turn t (got a s) a s
    go Mine = refl
    go Over = refl
    go (No v) = refl

-- a mark that ends a run, by its two bytes
pub ends_at : (p : Phase) (a b : ℕ) (m : Mark) → ((t : List ℕ) → mark_at (a ∷ b ∷ t) ≡ m) → turn p m ≡ Over → Ends p (a ∷ b ∷ [])
ends_at p a b m is over t l = ap (λ (u : List ℕ). turn p (mark_at u)) (leads_two a b t l) ∙ ap (turn p) (is (drop 2 t)) ∙ over

module _ {A : Type 0} (p : Phase) (item : List A → List ℕ → Got A) (room : ℕ) (whole : List ℕ) where
  pub going_start : Going p item room whole 0 whole []
  going_start = record { turns = omega arith; size = refl; kept = let e : room - 0 ≡ room = omega arith in rw e }

  module _ {n : ℕ} {s : List ℕ} {acc : List A} (l : Going p item room whole n s acc) where
    -- "not one too many (5)"
    pub going_full : {W : Type 0} {then : W → List ℕ} {h : W → List A} → turn p (mark_at s) ≡ Mine → room ≤ n
        → Reads then (Err (record { fault = TooMany; left = length s })) h (many p item room [] whole)
    unfolding many
    going_full t h = let z : room - n ≡ 0 = omega arith in record { is = rw t at (rw z at l.kept) }

    one : turn p (mark_at s) ≡ Mine → n < room → many p item (room - n) acc s ≡ and_then (item acc s) (λ x r. many p item (room - (n + 1)) (acc ++ (x ∷ [])) r)
    unfolding many
    one t h = let e : room - n ≡ suc (room - (n + 1)) = omega arith in rw (e, t)

    module _ {V : Type 0} {left : V → List ℕ} (t : turn p (mark_at s) ≡ Mine) (h : n < room) {g : Result V FaultFromEnd} {f : V → A} (w : Reads left g f (item acc s)) where
      pub going_bad : {W : Type 0} {then : W → List ℕ} {k : W → List A} {e : FaultFromEnd} → g ≡ Err e → Reads then (Err e) k (many p item room [] whole)
      going_bad {W} {then} {k} e =
          let u = then_bad w (λ x r. many p item (room - (n + 1)) (acc ++ (x ∷ [])) r) {then = then} {h = k} e in
          record { is = u.is ∙ (sym (one t h) ∙ l.kept) }

      pub going_next : {v : V} {more : List A} → g ≡ Ok v → more ≡ acc ++ (f v ∷ []) → Going p item room whole (n + 1) (left v) more
      going_next {v} {more} e d =
          let step : many p item (room - (n + 1)) (acc ++ (f v ∷ [])) (left v) ≡ many p item (room - n) acc s =
          ap (λ (q : Got A). and_then q (λ x r. many p item (room - (n + 1)) (acc ++ (x ∷ [])) r)) (reads_ok w e) ∙ sym (one t h) in
          let long : length (acc ++ (f v ∷ [])) ≡ n + 1 = length-append acc (f v ∷ []) ∙ ap (λ (k : ℕ). k + 1) l.size in
          record {
            turns = omega arith;
            size = ap length d ∙ long;
            kept = ap (λ (k : List A). many p item (room - (n + 1)) k (left v)) d ∙ (step ∙ l.kept);
          }

    -- none of its records follows: the end of the run, or a fault
    module _ (other : turn p (mark_at s) ≡ Mine → ⊥) where
      pub going_stops : stops p acc s ≡ many p item room [] whole
      unfolding many
      going_stops = all (room - n) ∙ l.kept
        where
          same : (t : Turn) → (t ≡ Mine → ⊥) → (x y : Got (List A)) → on_turn t x acc s ≡ on_turn t y acc s
          same Mine q x y = absurd (q refl)
          same Over q x y = refl
          same (No v) q x y = refl

          all : (k : ℕ) → stops p acc s ≡ many p item k acc s
          all zero = same (turn p (mark_at s)) other _ _
          all (suc k) = same (turn p (mark_at s)) other _ _

      pub going_end : {r : Result (Unit {0}) FaultFromEnd} → RunEnds p s r → Reads (λ u. s) r (λ u. acc) (many p item room [] whole)
      going_end w = let u = stops_reads p s acc w in record { is = u.is ∙ going_stops }

pub take_more : (l : List ℕ) (n x : ℕ) → n < length l → take (n + 1) (set l n x) ≡ take n l ++ (x ∷ [])
take_more l n x h = rw (add-one, take-suc-set l n x h)
