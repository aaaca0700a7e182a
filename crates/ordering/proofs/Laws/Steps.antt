-- The loop over the arguments of a head, one argument at a time: what the first i of them bind. And how large a pattern is, and when it is the greatest.
-- Assumes nothing.
use mathlib.Core.Path.{◌≡◌, refl, sym, ap, ◌∙◌}
use mathlib.Core.Bool.{Bool, true, false, not, cond, ◌&&◌, ◌||◌}
use mathlib.Core.List.{List, [], ◌∷◌}
use Prim.Native.Nat.{ℕ, zero, suc, ◌+◌, ◌*◌, ◌/◌, ◌%◌, ◌^◌, ◌≤◌, ◌<◌}
use native.Mathlib.Nat.{pow-suc}
use native.Mathlib.Numerals.{add-one}
use native.Mathlib.Omega.{arith}
use lib.Dec.{eqb}
use lib.ListN.{length, get_or, set, take, length-take}
use lib.Pow.{pow_pos}
use lib.Seq.{take_all, get_or-take}
use borrow.Author.Tests.{lt-ltb, le-ltb, eqb-true, eqb-false, eq-eqb, ne_eqb}
use Rattle.masks.specs.Lists.{all}
use Rattle.masks.specs.Set.{bit_at}
use Rattle.masks.proofs.Laws.Logic.{by_bool}
use Rattle.book.specs.Book.{Call}
use Rattle.ordering.specs.Adorn.{variables, Bound, nothing, is_bound, bit, pattern_of, bind_var, bind_head, head_bound, known}
use Rattle.ordering.proofs.Laws.Adorn.{bit_small}

-- ---- a variable

pub var_set : (b : Bound) (v : ℕ) → v < variables → bind_var b v ≡ set b v true
unfolding bind_var
var_set b v h = rw (lt-ltb v variables h)

pub var_skip : (b : Bound) (v : ℕ) → variables ≤ v → bind_var b v ≡ b
unfolding bind_var
var_skip b v h = rw (le-ltb v variables h)

-- an array's first n, where they are
pub first_at : (n : ℕ) (l : List ℕ) (i : ℕ) → i < length (take n l) → get_or (take n l) i 0 ≡ get_or l i 0
first_at n l i h = let e = length-take n l in get_or-take n l i 0 (omega arith)

-- ---- binding at the bound positions of a head, one position more

pub head_suc : (l : List ℕ) (i : ℕ) → i < length l → (b : Bound) (a : ℕ)
    → bind_head b (take (suc i) l) a ≡ cond (bit_at a i) (bind_var (bind_head b (take i l) a) (get_or l i 0)) (bind_head b (take i l) a)
unfolding bind_head bit_at
head_suc [] i h b a = absurd (omega arith)
head_suc (u ∷ l) zero h b a = refl
head_suc (u ∷ l) (suc i) h b a = head_suc l i (omega arith) (cond (eqb (a % 2) 1) (bind_var b u) b) (a / 2)

-- the loop that binds: what the first i positions bind is bound
pub record Heading (pattern : ℕ) (args : List ℕ) (i : ℕ) (b : Bound) : Type 0 where
  pub bound : b ≡ head_bound (take i args) pattern

pub heading_start : (pattern : ℕ) (args : List ℕ) → Heading pattern args 0 nothing
unfolding head_bound bind_head
heading_start pattern args = record { bound = refl }

module _ {pattern i : ℕ} {args : List ℕ} {b : Bound} (w : Heading pattern args i b) where
  pub heading_next : i < length args → {b' : Bound} → b' ≡ cond (bit_at pattern i) (bind_var b (get_or args i 0)) b → Heading pattern args (i + 1) b'
  unfolding head_bound
  heading_next h e = record {
    bound =
        e
        ∙ ap (λ (c : Bound). cond (bit_at pattern i) (bind_var c (get_or args i 0)) c) w.bound
        ∙ rw add-one (sym (head_suc args i h nothing pattern));
  }

  pub heading_end : i ≡ length args → b ≡ head_bound args pattern
  heading_end e = w.bound ∙ ap (λ (l : List ℕ). head_bound l pattern) (take_all i args (omega arith))

-- ---- the pattern

-- k arguments have 2 ^ k patterns
pub pattern_small : (b : Bound) (k : ℕ) (l : List ℕ) → length l ≤ k → pattern_of b l < 2 ^ k
unfolding pattern_of
pattern_small b k [] h = pow_pos k
pattern_small b zero (v ∷ l) h = absurd (omega arith)
pattern_small b (suc k) (v ∷ l) h =
    let r = pattern_small b k l (omega arith) in
    let s = bit_small (is_bound b v) in
    rw (pow-suc 2 k) (omega arith)

-- every argument is bound where it is the greatest of so many positions
known_full : (b : Bound) (l : List ℕ) → eqb (pattern_of b l + 1) (2 ^ length l) ≡ all (is_bound b) l
unfolding pattern_of
known_full b [] = refl
known_full b (v ∷ l) =
    let r = known_full b l in
    let h = pattern_small b (length l) l (omega arith) in
    rw (pow-suc 2 (length l)) (go (is_bound b v) r h)
  where
    go : (c : Bool) → eqb (pattern_of b l + 1) (2 ^ length l) ≡ all (is_bound b) l → pattern_of b l < 2 ^ length l
        → eqb (pattern_of b l * 2 + bit c + 1) (2 ^ length l * 2) ≡ (c && all (is_bound b) l)
    go true r h =
        by_bool (eqb (pattern_of b l + 1) (2 ^ length l))
        (λ t. let e = eqb-true (pattern_of b l + 1) (2 ^ length l) t in eq-eqb (pattern_of b l * 2 + bit true + 1) (2 ^ length l * 2) (omega arith) ∙ sym t ∙ r)
        (λ t. let e = eqb-false (pattern_of b l + 1) (2 ^ length l) t in ne_eqb (pattern_of b l * 2 + bit true + 1) (2 ^ length l * 2) (λ d. e (omega arith)) ∙ sym t ∙ r)
    go false r h = ne_eqb (pattern_of b l * 2 + bit false + 1) (2 ^ length l * 2) (λ d. omega arith)

pub known_pattern : (b : Bound) (s : Call) → known b s ≡ (not s.negated || eqb (pattern_of b s.args + 1) (2 ^ length s.args))
unfolding known
known_pattern b s = ap (λ (c : Bool). not s.negated || c) (sym (known_full b s.args))
