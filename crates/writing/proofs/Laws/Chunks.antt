-- Bytes that come in chunks, and the loops over them: one writes them, one measures them. Assumes nothing.
use mathlib.Core.Path.{◌≡◌, refl, sym, ap, ◌∙◌}
use mathlib.Core.List.{List, [], ◌++◌}
use Prim.Native.Nat.{ℕ, zero, suc, ◌+◌, ◌*◌, ◌-◌, ◌≤◌, ◌<◌}
use native.Mathlib.Omega.{arith}
use native.Mathlib.Nat.{add-zero, mul-suc}
use native.Mathlib.Numerals.{add-one}
use lib.ListN.{length, length-append}
use Rattle.masks.specs.Lists.{joined}
use Rattle.writing.specs.Wrote.{Room, Wrote}
use Rattle.writing.proofs.Laws.Wrote.{wrote_nil, wrote_append, wrote_as, wrote_length}

-- ---- n chunks: f i are the bytes of the first i

pub record Chunks (n : ℕ) (f chunk : ℕ → List ℕ) (bytes : List ℕ) : Type 0 where
  pub none : f 0 ≡ []
  pub next : (i : ℕ) → i < n → f (i + 1) ≡ f i ++ chunk i
  pub whole : f n ≡ bytes

-- lists one after the other
pub joined_chunks : (chunk : ℕ → List ℕ) (n : ℕ) → Chunks n (joined chunk) chunk (joined chunk n)
joined_chunks chunk n = record { none = refl; next = λ i h. rw add-one; whole = refl }

module _ {n : ℕ} {f chunk : ℕ → List ℕ} {bytes : List ℕ} (s : Chunks n f chunk bytes) where
  next_length : (i : ℕ) → i < n → length (f (i + 1)) ≡ length (f i) + length (chunk i)
  next_length i h = ap length (s.next i h) ∙ length-append (f i) (chunk i)

  length_rises : (i k : ℕ) → i + k ≤ n → length (f i) ≤ length (f (i + k))
  length_rises i zero h = rw add-zero (omega arith)
  length_rises i (suc k) h =
      let e : i + suc k ≡ i + k + 1 = omega arith in
      let r = length_rises i k (omega arith) in
      let z = next_length (i + k) (omega arith) in
      rw e (omega arith)

  -- the bytes of the first i, with those that come next, are no more than all
  next_most : (i : ℕ) → i < n → length (f i) + length (chunk i) ≤ length bytes
  next_most i h =
      let e : i + 1 + (n - (i + 1)) ≡ n = omega arith in
      let a = rw e at (length_rises (i + 1) (n - (i + 1)) (omega arith)) in
      let b = next_length i h in
      let c = ap length s.whole in
      omega arith

-- ---- the loop that writes them: the first i are written

pub record Writing (n : ℕ) (f chunk : ℕ → List ℕ) (bytes out : List ℕ) (at i : ℕ) (now : List ℕ) (p : ℕ) : Type 0 where
  pub chunks : Chunks n f chunk bytes
  pub room : Room out at bytes
  pub most : i ≤ n
  pub wrote : Wrote out now at p (f i)

module _ {n : ℕ} {f chunk : ℕ → List ℕ} {bytes out : List ℕ} {at : ℕ} where
  pub writing_start : Chunks n f chunk bytes → Room out at bytes → Writing n f chunk bytes out at 0 out at
  writing_start s r = record { chunks = s; room = r; most = omega arith; wrote = wrote_as (sym s.none) (wrote_nil out at) }

  module _ {i p : ℕ} {now : List ℕ} (w : Writing n f chunk bytes out at i now p) where
    pub writing_length : length now ≡ length out
    writing_length = wrote_length w.wrote

    pub writing_room : i < n → Room now p (chunk i)
    writing_room h =
        let a = next_most w.chunks i h in
        let d = w.wrote.ends in
        let e = writing_length in
        let r = w.room in
        omega arith

    pub writing_next : {after : List ℕ} {q : ℕ} → i < n → Wrote now after p q (chunk i) → Writing n f chunk bytes out at (i + 1) after q
    writing_next h v =
        record {
          chunks = w.chunks;
          room = w.room;
          most = omega arith;
          wrote = wrote_as (sym (w.chunks.next i h)) (wrote_append w.wrote v);
        }

    -- a turn that has nothing to write
    pub writing_none : i < n → chunk i ≡ [] → Writing n f chunk bytes out at (i + 1) now p
    writing_none h e = writing_next h (wrote_as (sym e) (wrote_nil now p))

    pub writing_end : n ≤ i → Wrote out now at p bytes
    writing_end h = let m = w.most in let e : i ≡ n = omega arith in wrote_as (ap f e ∙ w.chunks.whole) w.wrote

-- ---- the loop that measures them: the first i are measured, each of at most k bytes

pub record Measuring (n : ℕ) (f chunk : ℕ → List ℕ) (bytes : List ℕ) (k i total : ℕ) : Type 0 where
  pub chunks : Chunks n f chunk bytes
  pub most : i ≤ n
  pub is : total ≡ length (f i)
  pub small : total ≤ k * i

module _ {n : ℕ} {f chunk : ℕ → List ℕ} {bytes : List ℕ} {k : ℕ} where
  pub measuring_start : Chunks n f chunk bytes → Measuring n f chunk bytes k 0 0
  measuring_start s = record { chunks = s; most = omega arith; is = sym (ap length s.none); small = omega arith }

  module _ {i total : ℕ} (m : Measuring n f chunk bytes k i total) where
    pub measuring_next : {more : ℕ} → i < n → more ≡ total + length (chunk i) → length (chunk i) ≤ k → Measuring n f chunk bytes k (i + 1) more
    measuring_next h e l =
        let a = next_length m.chunks i h in
        let b = m.is in
        let c = m.small in
        let d : k * (i + 1) ≡ k * i + k = rw add-one (mul-suc k i) in
        record { chunks = m.chunks; most = omega arith; is = omega arith; small = omega arith }

    pub measuring_end : n ≤ i → total ≡ length bytes
    measuring_end h =
        let a = m.most in
        let e : i ≡ n = omega arith in
        m.is ∙ ap length (ap f e ∙ m.chunks.whole)
