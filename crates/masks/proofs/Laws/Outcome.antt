-- An outcome fixes the reply and every byte of the room: two answers that it allows are equal, a refusal leaves the room as it was, and a
-- success leaves every byte after the result. In a room that is large enough the answer tells the outcome whole. Assumes nothing.
use mathlib.Core.Path.{◌≡◌, refl, sym, ap, ap₂, ◌∙◌}
use mathlib.Core.Bool.{Bool, true, false}
use mathlib.Core.Logic.{◌⊎◌, inl, inr}
use mathlib.Core.List.{List, [], ◌∷◌, ◌++◌}
use Prim.Native.Nat.{ℕ, ◌+◌, ◌≤◌, ◌<◌}
use native.Mathlib.Omega.{arith}
use lib.Dec.{ltb}
use lib.ListN.{length, take, drop, length-append, length-drop}
use lib.Seq.{take_at, drop_at, length-take-le, sets, sets-eq}
use borrow.Author.Tests.{lt-ltb, le-ltb, ltb-false}
use Rattle.masks.specs.Outcome.{Outcome, refused, done, in_room, reply, left, Answers}
use Rattle.masks.specs.declared.reply.Reply.{Reply}
use Rattle.masks.proofs.Laws.Logic.{by_bool, clash}

-- ---- computed: two bytes in a room of one, and of three

pub too_short : left (done 0 (1 ∷ 2 ∷ [])) (7 ∷ []) ≡ 7 ∷ []
unfolding left
too_short = refl

pub long_enough : left (done 0 (1 ∷ 2 ∷ [])) (7 ∷ 8 ∷ 9 ∷ []) ≡ 1 ∷ 2 ∷ 9 ∷ []
unfolding left
long_enough = refl

-- ---- how an operation comes to answer: by a refusal, for want of room, or with the bytes stored

pub answers_refused : (number value : ℕ) (out : List ℕ) {r : Reply} → r ≡ record { number = number; value = value; rounds = 0 }
    → Answers (refused number value) out r out
unfolding reply in_room left
answers_refused number value out e = record { replies = e; leaves = refl }

module _ {n rounds : ℕ} {bytes out : List ℕ} (size : n ≡ length bytes) where
  pub answers_short : length out < n → Answers (done rounds bytes) out (record { number = 9; value = n; rounds = 0 }) out
  unfolding reply in_room left
  answers_short h =
      let t = lt-ltb (length out) (length bytes) (omega arith) in
      record { replies = rw (t, size); leaves = rw t }

  pub answers_done : {r : Reply} {after : List ℕ} → n ≤ length out → r ≡ record { number = 0; value = n; rounds = rounds } → after ≡ sets out 0 bytes
      → Answers (done rounds bytes) out r after
  unfolding reply in_room left
  answers_done h e w =
      let t = le-ltb (length out) (length bytes) (omega arith) in
      let k : 0 + length bytes ≡ length bytes = omega arith in
      record {
        replies = e ∙ rw (t, size);
        leaves = rw t (w ∙ sets-eq bytes out 0 (omega arith) ∙ ap (λ (i : ℕ). bytes ++ drop i out) k);
      }

-- ---- what holds of every answer

pub answers_unique : {o : Outcome} {out : List ℕ} {r s : Reply} {a b : List ℕ} → Answers o out r a → Answers o out s b → (r ≡ s) × (a ≡ b)
answers_unique x y = (x.replies ∙ sym y.replies, x.leaves ∙ sym y.leaves)

-- an outcome at a room: either nothing is stored, or the bytes are, and then the reply is 0 with their number
data Case (o : Outcome) (out : List ℕ) : Type 0 where
  nothing : left o out ≡ out → Case o out
  stored : (bytes : List ℕ) → length bytes ≤ length out → left o out ≡ bytes ++ drop (length bytes) out → (reply o (length out)).number ≡ 0
      → (reply o (length out)).value ≡ length bytes → Case o out

case : (o : Outcome) (out : List ℕ) → Case o out
unfolding reply in_room left
case (refused number value) out = nothing refl
case (done rounds bytes) out =
    by_bool (ltb (length out) (length bytes)) (λ t. nothing (rw t))
    (λ t. stored bytes (ltb-false (length out) (length bytes) t) (rw t) (rw t) (rw t))

module _ {o : Outcome} {out : List ℕ} {r : Reply} {after : List ℕ} (a : Answers o out r after) where
  -- the reply's number and value
  number_is : r.number ≡ (reply o (length out)).number
  number_is = ap (λ (x : Reply). x.number) a.replies

  value_is : r.value ≡ (reply o (length out)).value
  value_is = ap (λ (x : Reply). x.value) a.replies

  -- "On a refusal no output byte changes."
  pub answers_kept : (r.number ≡ 0 → ⊥) → after ≡ out
  answers_kept h = go (case o out)
    where
      go : Case o out → after ≡ out
      go (nothing e) = a.leaves ∙ e
      go (stored bytes l e n v) = absurd (h (number_is ∙ n))

  -- "On success the output is written from its start and the bytes after it stay."
  pub answers_rest : r.number ≡ 0 → drop r.value after ≡ drop r.value out
  answers_rest h = go (case o out)
    where
      go : Case o out → drop r.value after ≡ drop r.value out
      go (nothing e) = ap (drop r.value) (a.leaves ∙ e)
      go (stored bytes l e n v) =
          let w : r.value ≡ length bytes = value_is ∙ v in
          rw w (ap (drop (length bytes)) (a.leaves ∙ e) ∙ drop_at bytes (drop (length bytes) out) (length bytes) refl)

  pub answers_length : length after ≡ length out
  answers_length = go (case o out)
    where
      go : Case o out → length after ≡ length out
      go (nothing e) = ap {B = ℕ} length (a.leaves ∙ e)
      go (stored bytes l e n v) = ap {B = ℕ} length (a.leaves ∙ e) ∙ simp (length-append, length-drop) (omega arith)

-- the number of a refusal, and the bytes that a success wrote, are those of the outcome
pub answers_number : {number value : ℕ} {out : List ℕ} {r : Reply} {after : List ℕ} → Answers (refused number value) out r after → r.number ≡ number
unfolding reply in_room
answers_number a = ap (λ (x : Reply). x.number) a.replies

pub answers_bytes : {rounds : ℕ} {bytes out : List ℕ} {r : Reply} {after : List ℕ} → Answers (done rounds bytes) out r after → r.number ≡ 0
    → take r.value after ≡ bytes
unfolding reply in_room left
answers_bytes {rounds} {bytes} {out} {r} {after} a z =
    by_bool (ltb (length out) (length bytes))
    (λ t. let n : 9 ≡ 0 = sym (ap (λ (x : Reply). x.number) a.replies ∙ rw t) ∙ z in absurd (omega arith))
    (λ t. let v : r.value ≡ length bytes = ap (λ (x : Reply). x.value) a.replies ∙ rw t in
    let e : after ≡ bytes ++ drop (length bytes) out = a.leaves ∙ rw t in
    rw (v, e) (take_at bytes (drop (length bytes) out) (length bytes) refl))

pub answers_zero : {rounds : ℕ} {bytes out : List ℕ} {r : Reply} {after : List ℕ} → Answers (done rounds bytes) out r after → length bytes ≤ length out
    → r.number ≡ 0
unfolding reply in_room
answers_zero {rounds} {bytes} {out} {r} {after} a h =
    let t = le-ltb (length out) (length bytes) h in ap (λ (x : Reply). x.number) a.replies ∙ rw t

-- a result is answered by 0 or 9
pub answers_number_done : {rounds : ℕ} {bytes out : List ℕ} {r : Reply} {after : List ℕ} → Answers (done rounds bytes) out r after
    → (r.number ≡ 0) ⊎ (r.number ≡ 9)
unfolding reply in_room
answers_number_done {rounds} {bytes} {out} {r} {after} a =
    by_bool (ltb (length out) (length bytes)) (λ t. inr (ap (λ (x : Reply). x.number) a.replies ∙ rw t))
    (λ t. inl (ap (λ (x : Reply). x.number) a.replies ∙ rw t))

-- ---- in a room that is large enough

-- no refusal has number 0, and a result has from m to n bytes
abbrev pub Sized : ℕ → ℕ → Outcome → Type 0
Sized m n (refused number value) = number ≡ 0 → ⊥
Sized m n (done rounds bytes) = (m ≤ length bytes) × (length bytes ≤ n)

-- the bytes of a result stand at the front
pub record Told (m n : ℕ) (o : Outcome) (r : Reply) (after : List ℕ) : Type 0 where
  pub long : m ≤ length (take r.value after)
  pub most : r.value ≤ n
  pub fits : r.value ≤ length after
  pub size : r.value ≡ length (take r.value after)
  pub is : o ≡ done r.rounds (take r.value after)

module _ (m n : ℕ) {out : List ℕ} {r : Reply} {after : List ℕ} where
  pub refusal_told : (o : Outcome) → Sized m n o → Answers o out r after → length out ≡ n → (r.number ≡ 0 → ⊥) → o ≡ refused r.number r.value
  unfolding reply in_room
  refusal_told (refused number value) f a size h = sym (ap (λ (x : Reply). refused x.number x.value) a.replies)
  refusal_told (done rounds bytes) f a size h = absurd (h (answers_zero a (rw size f.1)))

  pub result_told : (o : Outcome) → Sized m n o → Answers o out r after → length out ≡ n → r.number ≡ 0 → Told m n o r after
  unfolding reply in_room
  result_told (refused number value) f a size h = absurd (f (sym (answers_number a) ∙ h))
  result_told (done rounds bytes) f a size h =
      let t = le-ltb (length out) (length bytes) (rw size f.1) in
      let e : r.rounds ≡ rounds = ap (λ (x : Reply). x.rounds) a.replies ∙ rw t in
      let v : r.value ≡ length bytes = ap (λ (x : Reply). x.value) a.replies ∙ rw t in
      let l : r.value ≤ length after = omega (arith, answers_length a) in
      let s = length-take-le r.value after l in
      record { long = omega arith; most = omega arith; fits = l; size = sym s; is = ap₂ done (sym e) (sym (answers_bytes a h)) }

-- ---- outcomes that are equal

is_done : Outcome → Bool
is_done (refused number value) = false
is_done (done rounds bytes) = true

bytes_of : Outcome → List ℕ
bytes_of (refused number value) = []
bytes_of (done rounds bytes) = bytes

pub refused_done : {P : Type 0} {number value rounds : ℕ} {bytes : List ℕ} → refused number value ≡ done rounds bytes → P
unfolding is_done
refused_done e = clash refl (sym (ap is_done e))

pub done_bytes : {rounds more : ℕ} {xs ys : List ℕ} → done rounds xs ≡ done more ys → xs ≡ ys
unfolding bytes_of
done_bytes e = ap bytes_of e
