-- A call read into a word from the low end on: each argument is a byte above those before it. Assumes nothing.
use mathlib.Core.Path.{◌≡◌, refl, sym, ap, ap₂, ◌∙◌, subst}
use mathlib.Core.Bool.{Bool, true}
use mathlib.Core.List.{List, [], ◌∷◌, ◌++◌}
use Prim.Native.Nat.{ℕ, suc, ◌+◌, ◌*◌, ◌%◌, ◌^◌, min, ◌≤◌, ◌<◌}
use native.Mathlib.Nat.{mul_assoc, mul-le-mul_right}
use native.Mathlib.Omega.{arith}
use lib.Dec.{ltb}
use lib.ListN.{length, get_or, take}
use lib.Seq.{ext_get_or}
use lib.Pow.{are_bytes, pow-add, pow_mono, shl_exact}
use borrow.Author.Tests.{lt-ltb, ltb-true}
use Rattle.masks.specs.Limits.{max_arity}
use Rattle.masks.specs.Lists.{values}
use Rattle.masks.proofs.Laws.Logic.{and_intro, and_left, and_right}
use Rattle.masks.proofs.Laws.Lists.{length_values, get_or_values, take_values}
use Rattle.book.specs.Book.{Head}
use Rattle.book.specs.Format.{byte, fields}
use Rattle.book.specs.Held.{count_in, negated_in, byte_of, head_in}
use Rattle.std.specs.Prelude.{Result, Ok, Err}
use Rattle.std.specs.Borrow.{Bor}
use Rattle.book.specs.declared.range.Range.{Range}
use Rattle.book.specs.declared.range.Range.TheVariants.{Below}
use Rattle.book.proofs.Laws.Words.{word_of, byte_of_word_of}
use Rattle.records.specs.declared.fault.FaultFromEnd.{FaultFromEnd}
use Rattle.records.specs.Read.{value, rest, Reads}
use Rattle.records.specs.Stored.{arguments, ReadsCall}
use Rattle.records.proofs.Laws.Reads.{err_ok, then_bad, then_next, reads_map, reads_same, Left, left_start, left_bad, left_next, left_end}

-- ---- bytes in a word

-- a byte more is above all others
word_of_last : (l : List ℕ) (x : ℕ) → word_of (l ++ (x ∷ [])) ≡ word_of l + x * 2 ^ (8 * length l)
unfolding word_of
word_of_last [] x = omega arith
word_of_last (y ∷ l) x =
    let r = word_of_last l x in
    let e : 8 * suc (length l) ≡ 8 * length l + 8 = omega arith in
    let p : x * 2 ^ (8 * suc (length l)) ≡ x * 2 ^ (8 * length l) * 256 =
    ap (λ (k : ℕ). x * 2 ^ k) e ∙ ap (λ (k : ℕ). x * k) (pow-add 2 (8 * length l) 8) ∙ sym (mul_assoc x (2 ^ (8 * length l)) 256) in
    omega arith

word_of_less : (l : List ℕ) → are_bytes l ≡ true → word_of l < 2 ^ (8 * length l)
unfolding word_of
word_of_less [] b = omega arith
word_of_less (x ∷ l) b =
    let h = ltb-true x 256 (and_left (ltb x 256) (are_bytes l) b) in
    let less = word_of_less l (and_right (ltb x 256) (are_bytes l) b) in
    let e : 8 * suc (length l) ≡ 8 + 8 * length l = omega arith in
    rw (e, pow-add 2 8 (8 * length l)) (omega arith)

are_bytes_last : (l : List ℕ) (x : ℕ) → are_bytes l ≡ true → x < 256 → are_bytes (l ++ (x ∷ [])) ≡ true
are_bytes_last [] x b h = and_intro (lt-ltb x 256 h) refl
are_bytes_last (y ∷ l) x b h = and_intro (and_left (ltb y 256) (are_bytes l) b) (are_bytes_last l x (and_right (ltb y 256) (are_bytes l) b) h)

-- a word of shift bits with a byte above them
module _ (w shift x : ℕ) (h : shift ≤ 56) (l : w < 2 ^ shift) (b : x < 256) where
  pub byte_shifted : (x * 2 ^ shift) % 2 ^ 64 ≡ x * 2 ^ shift
  byte_shifted = shl_exact 8 shift 64 b (omega arith)

  pub byte_above : w + x * 2 ^ shift < 2 ^ 64
  byte_above =
      let m : x * 2 ^ shift ≤ 255 * 2 ^ shift = mul-le-mul_right (2 ^ shift) (omega arith) in
      let p = pow-add 2 8 shift in
      let q : 2 ^ (8 + shift) ≤ 2 ^ 64 = pow_mono {j = 64} (omega arith) in
      omega arith

-- the word of a call says the call
head_in_word : (p k n : ℕ) (args : List ℕ) → count_in k ≡ n → n ≤ max_arity → length args ≡ n → are_bytes (p ∷ k ∷ args) ≡ true
    → ◌≡◌ {A = Head} (head_in (word_of (p ∷ k ∷ args))) (record { pred = p; args = args })
head_in_word p k n args c few size b =
    let is = byte_of_word_of (p ∷ k ∷ args) b in
    let m : min n max_arity ≡ n = omega arith in
    ap₂ (λ (q : ℕ) (s : List ℕ). record { pred = q; args = s }) (is 0)
    (ap (λ (j : ℕ). take (count_in j) (values at max_arity)) (is 1)
    ∙ ap (λ (j : ℕ). take j (values at max_arity)) c
    ∙ take_values at n max_arity
    ∙ ap (values at) m
    ∙ ext_get_or 0 (values at n) args (length_values at n ∙ sym size)
    (λ j d.
    let e : 2 + j ≡ suc (suc j) = omega arith in
    get_or_values at 0 n j (omega (arith, length_values at n)) ∙ ap (byte_of (word_of (p ∷ k ∷ args))) e ∙ is (suc (suc j))))
  where
    at : ℕ → ℕ
    at j = byte_of (word_of (p ∷ k ∷ args)) (2 + j)

-- ---- the loop over the arguments

-- k is the byte with the number of arguments n
pub record Calling (r : Range) (p k n : ℕ) (whole : List ℕ) (i : ℕ) (left : List ℕ) (shift w : ℕ) : Type 0 where
  pub args : List ℕ
  pub left· : Left r n whole i left args
  pub bytes : are_bytes (p ∷ k ∷ args) ≡ true
  pub word : w ≡ word_of (p ∷ k ∷ args)
  pub place : shift ≡ 16 + 8 * i

module _ (r : Range) (p k n : ℕ) (whole : List ℕ) where
  pub calling_start : p < 256 → k < 256 → Calling r p k n whole 0 whole 16 (k * 256 + p)
  unfolding word_of
  calling_start bp bn =
      record {
        args = [];
        left· = left_start r n whole;
        bytes = and_intro (lt-ltb p 256 bp) (and_intro (lt-ltb k 256 bn) refl);
        word = omega arith;
        place = refl;
      }

  module _ {i : ℕ} {s : List ℕ} {shift w : ℕ} (c : Calling r p k n whole i s shift w) where
    size : 8 * length (p ∷ k ∷ c.args) ≡ shift
    size = let e = c.left·.size in let f = c.place in omega arith

    pub calling_less : w < 2 ^ shift
    calling_less = let l = word_of_less (p ∷ k ∷ c.args) c.bytes in rw c.word (subst (λ (j : ℕ). word_of (p ∷ k ∷ c.args) < 2 ^ j) size l)

    module _ (h : i < n) {g : Result (ℕ × Bor (List ℕ)) FaultFromEnd} (w· : Reads rest g value (byte r s)) where
      pub calling_bad : {negated : Bool} {e : FaultFromEnd} → g ≡ Err e → ReadsCall (Err e) negated (arguments r p n whole)
      unfolding arguments
      calling_bad e = record { reads = then_bad (left_bad r n whole c.left· h w· {then = rest} {f = λ j. []} e) _ refl; sign = λ v d. err_ok refl d }

      pub calling_next : {v : ℕ × Bor (List ℕ)} {more : ℕ} → g ≡ Ok v → value v < 256 → more ≡ w + value v * 2 ^ shift
          → Calling r p k n whole (i + 1) (rest v) (shift + 8) more
      calling_next {v} e b d =
          record {
            args = c.args ++ (value v ∷ []);
            left· = left_next r n whole c.left· h w· e;
            bytes = are_bytes_last (p ∷ k ∷ c.args) (value v) c.bytes b;
            word = d ∙ ap₂ (λ (a j : ℕ). a + value v * 2 ^ j) c.word (sym size) ∙ sym (word_of_last (p ∷ k ∷ c.args) (value v));
            place = let f = c.place in omega arith;
          }

    pub calling_end : {negated : Bool} {b : Bor (List ℕ)} → b.now ≡ s → (count_in k ≡ n) × (negated_in k ≡ negated) → n ≤ max_arity → n ≤ i
        → ReadsCall (Ok (w, b)) negated (arguments r p n whole)
    unfolding arguments
    calling_end {negated} {b} z counts few h =
        let e : length c.args ≡ n = (let t = c.left·.turns in let z = c.left·.size in omega arith) in
        let is : head_in w ≡ record { pred = p; args = c.args } = ap head_in c.word ∙ head_in_word p k n c.args counts.0 few e c.bytes in
        record {
          reads =
              reads_same (reads_map (left_end r n whole c.left· {left = rest} {v = (w, b)} z h) (λ (l : List ℕ). record { pred = p; args = l }))
              (λ v d. ap head_in (same v d) ∙ is);
          sign =
              λ v d.
              ap (λ (x : ℕ). negated_in (byte_of x 1)) (same v d ∙ c.word)
              ∙ ap negated_in (byte_of_word_of (p ∷ k ∷ c.args) c.bytes 1)
              ∙ counts.1;
        }
      where
        same : (v : ℕ × Bor (List ℕ)) → ◌≡◌ {A = Result (ℕ × Bor (List ℕ)) FaultFromEnd} (Ok (w, b)) (Ok v) → value v ≡ w
        same v d = cc

-- ---- a call

module _ (range : Range) (ar s : List ℕ) {g : Result (ℕ × Bor (List ℕ)) FaultFromEnd} (w : Reads rest g value (byte (Below (length ar)) s)) where
  pub call_none : {negated : Bool} {e : FaultFromEnd} → g ≡ Err e → ReadsCall (Err e) negated (fields range ar s)
  unfolding fields
  call_none e = record { reads = then_bad w _ e; sign = λ v d. err_ok refl d }

  pub call_read : {v : ℕ × Bor (List ℕ)} {c : Result (ℕ × Bor (List ℕ)) FaultFromEnd} {negated : Bool} → g ≡ Ok v
      → ReadsCall c negated (arguments range (value v) (get_or ar (value v) 0) (rest v)) → ReadsCall c negated (fields range ar s)
  unfolding fields arguments
  call_read e v = record { reads = then_next w _ e v.reads; sign = v.sign }
