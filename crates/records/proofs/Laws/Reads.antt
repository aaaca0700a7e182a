-- What an answer stands for, put together from parts: a byte, then what follows; a record; k bytes, one at a time. Assumes nothing.
use mathlib.Core.Path.{◌≡◌, refl, sym, ap, ◌∙◌, subst}
use mathlib.Core.Bool.{Bool, true, ◌||◌}
use mathlib.Core.List.{List, [], ◌∷◌, ◌++◌}
use Prim.Native.Nat.{ℕ, suc, ◌+◌, ◌-◌, ◌≤◌, ◌<◌}
use native.Mathlib.Omega.{arith}
use lib.Dec.{eqb, leb}
use lib.ListN.{length, drop, length-append}
use borrow.Author.Tests.{leb-true, le-leb, ltb-true, eqb-true, eqb-false, eq-eqb}
use Rattle.masks.proofs.Laws.Logic.{by_bool, same, or_left, or_right, or_case}
use Rattle.book.specs.Book.{subgoal_of}
use Rattle.book.specs.Format.{spelling, leads, allows, Got, got, bad, and_then, byte, bytes, fields, argument_in, subgoal}
use Rattle.book.specs.Held.{head_in, call_in}
use Rattle.std.specs.Prelude.{Result, Ok, Err, IsErrAnd}
use Rattle.std.specs.Borrow.{Bor}
use Rattle.book.specs.declared.mark.Mark.TheVariants.{Ng}
use Rattle.book.specs.declared.range.Range.{Range}
use Rattle.book.specs.declared.range.Range.TheVariants.{Below}
use Rattle.book.proofs.Laws.Got.{byte_inv}
use Rattle.records.specs.declared.fault.FaultFromEnd.{FaultFromEnd}
use Rattle.records.specs.Read.{value, rest, means, Reads}
use Rattle.records.specs.Stored.{ReadsCall}

-- ---- arguments

-- of the bytes from 254 on there are two
pub wildcard_is : (x : ℕ) → x ≤ 255 → leb 254 x ≡ (eqb x 254 || eqb x 255)
wildcard_is x h =
    same (leb 254 x) (eqb x 254 || eqb x 255)
    (λ t. let l = leb-true 254 x t in by_bool (eqb x 254) (λ e. or_left (eqb x 254) (eqb x 255) e)
    (λ e. or_right (eqb x 254) (eq-eqb x 255 (let n : x ≡ 254 → ⊥ = eqb-false x 254 e in omega arith))))
    (λ t. or_case (eqb x 254) (eqb x 255) t (λ e. let q = eqb-true x 254 e in le-leb 254 x (omega arith)) (λ e. let q = eqb-true x 255 e in le-leb 254 x (omega arith)))

-- ---- what was read, then what follows

-- a fault that is passed on
pub passed : {V E : Type 0} {e : E} (r : Result V E) → IsErrAnd r (λ y. y ≡ e) → r ≡ Err e
passed (Ok v) f = absurd f
passed {V} {E} (Err y) f = ap (λ (z : E). Err z) f

-- an answer is a fault or not
pub err_ok : {V P : Type 0} {r : Result V FaultFromEnd} {e : FaultFromEnd} {v : V} → r ≡ Err e → r ≡ Ok v → P
err_ok e d = absurd (cc)

module _ {V A : Type 0} {left : V → List ℕ} {r : Result V FaultFromEnd} {f : V → A} {g : Got A} (w : Reads left r f g) where
  -- what is said of an answer is said of what it is
  pub reads_ok : {v : V} → r ≡ Ok v → got (f v) (left v) ≡ g
  reads_ok {v} d = let u : Reads left (Ok v) f g = subst (λ (q : Result V FaultFromEnd). Reads left q f g) d w in u.is

  pub reads_err : {e : FaultFromEnd} → r ≡ Err e → bad e.fault e.left ≡ g
  reads_err {e} d = let u : Reads left (Err e) f g = subst (λ (q : Result V FaultFromEnd). Reads left q f g) d w in u.is

  -- a fault is one whatever is read; and the value may come with something else
  pub reads_fault : {W : Type 0} {then : W → List ℕ} {h : W → A} {e : FaultFromEnd} → r ≡ Err e → Reads then (Err e) h g
  reads_fault d = record { is = reads_err d }

  pub reads_as : {W : Type 0} {then : W → List ℕ} {h : W → A} {v : V} {u : W} → r ≡ Ok v → then u ≡ left v → h u ≡ f v → Reads then (Ok u) h g
  reads_as d p q = record { is = rw (p, q) (reads_ok d) }

  pub then_bad : {W B : Type 0} (k : A → List ℕ → Got B) {then : W → List ℕ} {h : W → B} {e : FaultFromEnd} → r ≡ Err e → Reads then (Err e) h (and_then g k)
  then_bad k d = record { is = ap (λ (q : Got A). and_then q k) (reads_err d) }

  pub then_next : {W B : Type 0} (k : A → List ℕ → Got B) {then : W → List ℕ} {h : W → B} {v : V} {q : Result W FaultFromEnd} → r ≡ Ok v
      → Reads then q h (k (f v) (left v)) → Reads then q h (and_then g k)
  then_next k d v = record { is = v.is ∙ ap (λ (p : Got A). and_then p k) (reads_ok d) }

  -- a value made of another
  pub reads_map : {B : Type 0} (m : A → B) → Reads left r (λ v. m (f v)) (and_then g (λ a t. got (m a) t))
  reads_map m = record { is = go r ∙ ap (λ (q : Got A). and_then q (λ a t. got (m a) t)) w.is }
    where
      go : (q : Result V FaultFromEnd) → means left q (λ v. m (f v)) ≡ and_then (means left q f) (λ a t. got (m a) t)
      go (Ok v) = refl
      go (Err e) = refl

  -- a value that is another where there is one
  pub reads_same : {h : V → A} → ((v : V) → r ≡ Ok v → h v ≡ f v) → Reads left r h g
  reads_same {h} e = record { is = go r e ∙ w.is }
    where
      go : (q : Result V FaultFromEnd) → ((v : V) → q ≡ Ok v → h v ≡ f v) → means left q h ≡ means left q f
      go (Ok v) d = ap (λ (a : A). got a (left v)) (d v refl)
      go (Err e) d = refl

-- a byte that was read is in its range
pub byte_allowed : (r : Range) (s : List ℕ) {q : Result (ℕ × Bor (List ℕ)) FaultFromEnd} {v : ℕ × Bor (List ℕ)} → Reads rest q value (byte r s) → q ≡ Ok v → allows r (value v) ≡ true
byte_allowed r s w d = (byte_inv r s (sym (reads_ok w d))).1

-- ---- k bytes, one at a time: what is still to be read, after those of acc, comes to what the whole comes to

pub record Left (r : Range) (k : ℕ) (whole : List ℕ) (i : ℕ) (left acc : List ℕ) : Type 0 where
  pub turns : i ≤ k
  pub size : length acc ≡ i
  pub kept : bytes r (k - i) acc left ≡ bytes r k [] whole

module _ (r : Range) (k : ℕ) (whole : List ℕ) where
  pub left_start : Left r k whole 0 whole []
  left_start = record { turns = omega arith; size = refl; kept = let e : k - 0 ≡ k = omega arith in rw e }

  module _ {i : ℕ} {s acc : List ℕ} (l : Left r k whole i s acc) where
    one : i < k → bytes r (k - i) acc s ≡ and_then (byte r s) (λ x t. bytes r (k - (i + 1)) (acc ++ (x ∷ [])) t)
    unfolding bytes
    one h = let e : k - i ≡ suc (k - (i + 1)) = omega arith in rw e

    module _ (h : i < k) {g : Result (ℕ × Bor (List ℕ)) FaultFromEnd} (w : Reads rest g value (byte r s)) where
      pub left_bad : {W : Type 0} {then : W → List ℕ} {f : W → List ℕ} {e : FaultFromEnd} → g ≡ Err e → Reads then (Err e) f (bytes r k [] whole)
      left_bad {W} {then} {f} e =
          let u = then_bad w (λ x t. bytes r (k - (i + 1)) (acc ++ (x ∷ [])) t) {then = then} {h = f} e in
          record { is = u.is ∙ (sym (one h) ∙ l.kept) }

      pub left_next : {v : ℕ × Bor (List ℕ)} → g ≡ Ok v → Left r k whole (i + 1) (rest v) (acc ++ (value v ∷ []))
      left_next {v} e =
          let step : bytes r (k - (i + 1)) (acc ++ (value v ∷ [])) (rest v) ≡ bytes r (k - i) acc s =
          ap (λ (q : Got ℕ). and_then q (λ y t. bytes r (k - (i + 1)) (acc ++ (y ∷ [])) t)) (reads_ok w e) ∙ sym (one h) in
          let long : length (acc ++ (value v ∷ [])) ≡ i + 1 = length-append acc (value v ∷ []) ∙ ap (λ (j : ℕ). j + 1) l.size in
          record { turns = omega arith; size = long; kept = step ∙ l.kept }

    pub left_end : {W : Type 0} {left : W → List ℕ} {v : W} → left v ≡ s → k ≤ i → Reads left (Ok v) (λ m. acc) (bytes r k [] whole)
    unfolding bytes
    left_end d h = let z : k - i ≡ 0 = omega arith in record { is = rw d (rw z at l.kept) }

-- what a predicate that was read is
pub predicate_known : (ar s : List ℕ) {g : Result (ℕ × Bor (List ℕ)) FaultFromEnd} {v : ℕ × Bor (List ℕ)} → Reads rest g value (byte (Below (length ar)) s) → g ≡ Ok v → value v < length ar
unfolding allows
predicate_known ar s {g} {v} w e = ltb-true (value v) (length ar) (byte_allowed (Below (length ar)) s w e)

-- ---- records

-- a subgoal by its mark
pub subgoal_reads : (ar s : List ℕ) (negated : Bool) {r : Result (ℕ × Bor (List ℕ)) FaultFromEnd} → leads (spelling Ng) s ≡ negated
    → ReadsCall r negated (fields (argument_in negated) ar (drop 2 s)) → Reads rest r (λ v. call_in (value v)) (subgoal ar [] s)
unfolding subgoal
subgoal_reads ar s negated t w =
    rw t (reads_same (reads_map w.reads (subgoal_of negated)) (λ v e. ap (λ (b : Bool). subgoal_of b (head_in (value v))) (w.sign v e)))
