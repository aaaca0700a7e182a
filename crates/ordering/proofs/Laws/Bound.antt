-- What is bound, in a word. An argument is a variable, a wildcard or a literal, so in a word with bit 31 set and bit 30 not its five lowest bits are the
-- place of a bit that tells whether it is bound, and setting that bit binds it. Bytes behind the last argument are cut off from a pattern, and are made
-- literals where all are bound. Assumes nothing.
use mathlib.Core.Path.{◌≡◌, refl, sym, ap, ap₂, ◌∙◌}
use mathlib.Core.Bool.{Bool, true, false, not, cond, ◌&&◌, ◌||◌, or-false, and-true, and-false}
use mathlib.Core.List.{List, [], ◌∷◌, ◌++◌}
use Prim.Native.Nat.{ℕ, zero, suc, ◌+◌, ◌*◌, ◌/◌, ◌%◌, ◌^◌, ◌≤◌, ◌<◌, min}
use native.Mathlib.Nat.{pow-suc, zero-mod}
use native.Mathlib.Omega.{arith}
use lib.Arith.{mod-mul}
use lib.Bits.{bit_and, bit_or, or_zero_r, or_add_and, and_mask, or_shr, or_mod}
use lib.Dec.{eqb, leb, ltb}
use lib.ListN.{length, get_or, set, take, length-set}
use lib.Pow.{pow_pos, shr-shr}
use lib.Seq.{get_or-set_same, get_or-set_other, ext_get_or}
use borrow.Author.Tests.{not-true, eqb-true, eqb-false, eq-eqb, ne_eqb, leb-true, lt-ltb, le-ltb}
use Rattle.masks.specs.Limits.{max_arity}
use Rattle.masks.specs.Lists.{all, values}
use Rattle.masks.specs.Set.{bit_at}
use Rattle.masks.proofs.Laws.Logic.{by_bool, by_range, and_intro, and_left, and_right, or_case, or_right}
use Rattle.masks.proofs.Laws.Lists.{length_values, values_cong, take_values, get_or_values, all_at, all_below, all_below_at}
use Rattle.masks.proofs.Laws.Set.{bit_at_shift, bit_at_high, bit_at_or, bit_at_more}
use Rattle.masks.proofs.Laws.Members.{bit_at_and}
use Rattle.book.specs.Format.{allows}
use Rattle.book.specs.Held.{count_in, byte_of, call_in}
use Rattle.book.specs.declared.range.Range.TheVariants.{Argument}
use Rattle.book.proofs.Laws.Held.{args_count, args_at}
use Rattle.ordering.specs.Adorn.{variables, Bound, nothing, literal, is_bound, bit, pattern_of, bind_var, bind_all}
use Rattle.ordering.specs.Held.{bound_of, Marked, marks, with_marks}
use Rattle.ordering.proofs.Laws.Adorn.{bit_small}
use Rattle.ordering.proofs.Laws.Steps.{var_set, var_skip}

-- ---- the variables of a word

bound_of_length : (w : ℕ) → length (bound_of w) ≡ variables
unfolding bound_of
bound_of_length w = length_values (bit_at w) variables

bound_of_at : (w v : ℕ) → v < variables → get_or (bound_of w) v false ≡ bit_at w v
unfolding bound_of
bound_of_at w v h = get_or_values (bit_at w) false variables v h

pub bound_of_cong : (w u : ℕ) → ((v : ℕ) → v < variables → bit_at w v ≡ bit_at u v) → bound_of w ≡ bound_of u
unfolding bound_of
bound_of_cong w u h = values_cong (bit_at w) (bit_at u) variables h

-- "A query has no head and starts with nothing bound."
pub bound_of_zero : bound_of 0 ≡ nothing
unfolding bound_of nothing bit_at
bound_of_zero = refl

-- one more
pub bound_more : (w v : ℕ) → v < variables → bound_of (bit_or w (2 ^ v)) ≡ bind_var (bound_of w) v
bound_more w v h =
    ext_get_or false (bound_of (bit_or w (2 ^ v))) (set (bound_of w) v true)
    (bound_of_length (bit_or w (2 ^ v)) ∙ sym (bound_of_length w) ∙ sym (length-set (bound_of w) v true))
    (λ i l. let n = bound_of_length (bit_or w (2 ^ v)) in bound_of_at (bit_or w (2 ^ v)) i (omega arith) ∙ bit_at_more w v i ∙ one i (omega arith))
    ∙ sym (var_set (bound_of w) v h)
  where
    one : (i : ℕ) → i < variables → (bit_at w i || eqb v i) ≡ get_or (set (bound_of w) v true) i false
    one i l =
        let n = bound_of_length w in
        by_bool (eqb v i)
        (λ t.
        let e = eqb-true v i t in
        or_right (bit_at w i) t ∙ sym (get_or-set_same (bound_of w) v true false (omega arith)) ∙ ap (λ (j : ℕ). get_or (set (bound_of w) v true) j false) e)
        (λ t.
        let ne = eqb-false v i t in
        ap (λ (b : Bool). bit_at w i || b) t ∙ or-false (bit_at w i) ∙ sym (bound_of_at w i l) ∙ sym (get_or-set_other (bound_of w) v i true false (λ e. ne (sym e))))

-- a bit that is none of a variable
bound_same : (w u : ℕ) → variables ≤ u → bound_of (bit_or w (2 ^ u)) ≡ bound_of w
bound_same w u h =
    bound_of_cong (bit_or w (2 ^ u)) w (λ v l. bit_at_more w u v ∙ ap (λ (b : Bool). bit_at w v || b) (ne_eqb u v (λ e. omega arith)) ∙ or-false (bit_at w v))

-- ---- an argument

arg_case : {P : Type 0} (x : ℕ) → allows Argument x ≡ true → (x < variables → P) → (x ≡ 254 → P) → (x ≡ literal → P) → P
unfolding allows
arg_case x t f g h =
    or_case (leb x 15) (eqb x 254 || eqb x 255) t (λ s. f (let l = leb-true x 15 s in omega arith))
    (λ s. or_case (eqb x 254) (eqb x 255) s (λ r. g (eqb-true x 254 r)) (λ r. h (eqb-true x 255 r)))

-- its bit is set where it is bound
mark_bound : (w x : ℕ) → Marked w → allows Argument x ≡ true → bit_at w (x % 32) ≡ is_bound (bound_of w) x
unfolding is_bound
mark_bound w x m t =
    arg_case x t
    (λ h.
    let e : x % 32 ≡ x = omega arith in
    rw (e, ne_eqb x literal (λ q. omega arith), lt-ltb x variables h) (sym (bound_of_at w x h)))
    (λ e. rw e m.wildcards)
    (λ e. rw e m.literals)

-- setting it binds it
mark_binds : (w x : ℕ) → allows Argument x ≡ true → bound_of (bit_or w (2 ^ (x % 32))) ≡ bind_var (bound_of w) x
mark_binds w x t =
    arg_case x t
    (λ h. let e : x % 32 ≡ x = omega arith in ap (λ (v : ℕ). bound_of (bit_or w (2 ^ v))) e ∙ bound_more w x h)
    (λ e. bound_same w (x % 32) (omega arith) ∙ sym (var_skip (bound_of w) x (omega arith)))
    (λ e. bound_same w (x % 32) (omega arith) ∙ sym (var_skip (bound_of w) x (omega arith)))

-- ---- the lowest bit of a word that is moved down

shift_test : (w n : ℕ) → eqb (w / 2 ^ n % 2) 1 ≡ bit_at w n
unfolding bit_at
shift_test w n = let e : n + 0 ≡ n = omega arith in bit_at_shift w n 0 ∙ ap (bit_at w) e

pub shift_true : (w n : ℕ) → w / 2 ^ n % 2 ≡ 1 → bit_at w n ≡ true
shift_true w n e = sym (shift_test w n) ∙ eq-eqb (w / 2 ^ n % 2) 1 e

pub shift_false : (w n : ℕ) → (w / 2 ^ n % 2 ≡ 1 → ⊥) → bit_at w n ≡ false
shift_false w n e = sym (shift_test w n) ∙ ne_eqb (w / 2 ^ n % 2) 1 e

pub shift_bit : (w n : ℕ) → w / 2 ^ n % 2 ≡ bit (bit_at w n)
shift_bit w n = digit (w / 2 ^ n % 2) (omega arith) ∙ ap bit (shift_test w n)
  where
    digit : (d : ℕ) → d < 2 → d ≡ bit (eqb d 1)
    digit zero h = refl
    digit (suc zero) h = refl
    digit (suc (suc d)) h = absurd (omega arith)

-- the bit of a place, or as many bits as there are arguments
pub power_is : (q p : ℕ) {r : ℕ} → r ≡ 2 ^ (q % 32) → q % 32 ≡ p → r ≡ 2 ^ p
power_is q p e f = e ∙ ap (λ (k : ℕ). 2 ^ k) f

-- ---- the pattern of a call: the bits of six bytes, cut to those of the arguments

marks_pattern : (w : ℕ) → Marked w → (l : List ℕ) → all (allows Argument) l ≡ true → marks w l ≡ pattern_of (bound_of w) l
unfolding marks pattern_of
marks_pattern w m [] t = refl
marks_pattern w m (x ∷ l) t =
    ap₂ (λ (n : ℕ) (b : Bool). n * 2 + bit b) (marks_pattern w m l (and_right (allows Argument x) (all (allows Argument) l) t))
    (mark_bound w x m (and_left (allows Argument x) (all (allows Argument) l) t))

marks_cut : (w n : ℕ) (l : List ℕ) → marks w l % 2 ^ n ≡ marks w (take n l)
unfolding marks
marks_cut w zero l = omega arith
marks_cut w (suc n) [] = zero-mod (2 ^ suc n)
marks_cut w (suc n) (x ∷ l) =
    let r = marks_cut w n l in
    let s = bit_small (bit_at w (x % 32)) in
    let p = pow-suc 2 n in
    let e = mod-mul (marks w l * 2 + bit (bit_at w (x % 32))) {m = 2 ^ n} {c = 2} (pow_pos n) (omega arith) in
    let h : (marks w l * 2 + bit (bit_at w (x % 32))) / 2 ≡ marks w l = omega arith in
    rw p (e ∙ ap (λ (q : ℕ). q % 2 ^ n * 2 + (marks w l * 2 + bit (bit_at w (x % 32))) % 2) h ∙ omega arith)

marks_six : (w : ℕ) (f : ℕ → ℕ) → marks w (values f 6) ≡ marks w (values f 3) + 8 * marks w (values (λ i. f (3 + i)) 3)
unfolding marks
marks_six w f = omega arith

-- the three lowest bytes of a word, as the code has them
module _ (u : ℕ) where
  low_0 : u % 32 ≡ byte_of u 0 % 32
  low_0 = omega arith

  low_1 : u / 2 ^ 8 % 32 ≡ byte_of u 1 % 32
  low_1 = omega arith

  low_2 : u / 2 ^ 16 % 32 ≡ byte_of u 2 % 32
  low_2 = omega arith

pub marks_three : (w u a b c : ℕ) → a ≡ bit (bit_at w (u % 32)) → b ≡ bit (bit_at w (u / 2 ^ 8 % 32)) → c ≡ bit (bit_at w (u / 2 ^ 16 % 32))
    → a + 2 * b + 4 * c ≡ marks w (values (byte_of u) 3)
unfolding marks
marks_three w u a b c ea eb ec =
    let one : (i j : ℕ) → i ≡ j → bit (bit_at w i) ≡ bit (bit_at w j) = λ i j e. ap (λ (n : ℕ). bit (bit_at w n)) e in
    let p = one (u % 32) (byte_of u 0 % 32) (low_0 u) in
    let q = one (u / 2 ^ 8 % 32) (byte_of u 1 % 32) (low_1 u) in
    let r = one (u / 2 ^ 16 % 32) (byte_of u 2 % 32) (low_2 u) in
    omega arith

pub with_three : (w u : ℕ) {a b c : ℕ} → a ≡ 2 ^ (u % 32) → b ≡ 2 ^ (u / 2 ^ 8 % 32) → c ≡ 2 ^ (u / 2 ^ 16 % 32)
    → bit_or (bit_or (bit_or w a) b) c ≡ with_marks w (values (byte_of u) 3)
unfolding with_marks
with_three w u ea eb ec =
    ap₂ bit_or
    (ap₂ bit_or (ap (bit_or w) (ea ∙ ap (λ (n : ℕ). 2 ^ n) (low_0 u))) (eb ∙ ap (λ (n : ℕ). 2 ^ n) (low_1 u)))
    (ec ∙ ap (λ (n : ℕ). 2 ^ n) (low_2 u))

-- the bytes of a word moved down
byte_of_shift : (s k i : ℕ) → byte_of (s / 2 ^ (8 * k)) i ≡ byte_of s (k + i)
byte_of_shift s k i =
    let e : 8 * k + 8 * i ≡ 8 * (k + i) = omega arith in
    ap (λ (x : ℕ). x % 256) (shr-shr s (8 * k) (8 * i)) ∙ ap (λ (j : ℕ). s / 2 ^ j % 256) e

-- the number of arguments as the code has it
abbrev pub counted : ℕ → ℕ
counted s = s / 2 ^ 8 % 8

-- the bytes of the arguments, and those that there are
abbrev arg_at : ℕ → ℕ → ℕ
arg_at s i = byte_of s (2 + i)

args_take : (s : ℕ) → take (counted s) (values (arg_at s) max_arity) ≡ (call_in s).args
args_take s = let e : counted s ≡ count_in (byte_of s 1) = omega arith in ap (λ (n : ℕ). take n (values (arg_at s) max_arity)) e

args_values : (s : ℕ) → (call_in s).args ≡ values (arg_at s) (min (counted s) max_arity)
args_values s = sym (args_take s) ∙ take_values (arg_at s) (counted s) max_arity

three_low : (s : ℕ) → values (byte_of (s / 2 ^ 16)) 3 ≡ values (arg_at s) 3
three_low s = values_cong (byte_of (s / 2 ^ 16)) (arg_at s) 3 (λ i h. byte_of_shift s 2 i)

three_high : (s : ℕ) → values (byte_of (s / 2 ^ 40)) 3 ≡ values (λ i. arg_at s (3 + i)) 3
three_high s = values_cong (byte_of (s / 2 ^ 40)) (λ i. arg_at s (3 + i)) 3 (λ i h. let e : 5 + i ≡ 2 + (3 + i) = omega arith in byte_of_shift s 5 i ∙ ap (byte_of s) e)

module _ (w s : ℕ) (m : Marked w) (t : all (allows Argument) (call_in s).args ≡ true) where
  pub pattern_three : counted s ≤ 3 → marks w (values (byte_of (s / 2 ^ 16)) 3) % 2 ^ counted s ≡ pattern_of (bound_of w) (call_in s).args
  pattern_three h =
      let e : min (counted s) 3 ≡ min (counted s) max_arity = omega arith in
      ap (λ (l : List ℕ). marks w l % 2 ^ counted s) (three_low s)
      ∙ marks_cut w (counted s) (values (arg_at s) 3)
      ∙ ap (marks w) (take_values (arg_at s) (counted s) 3 ∙ ap (values (arg_at s)) e ∙ sym (args_values s))
      ∙ marks_pattern w m (call_in s).args t

  pub pattern_six : (marks w (values (byte_of (s / 2 ^ 16)) 3) + 8 * marks w (values (byte_of (s / 2 ^ 40)) 3)) % 2 ^ counted s ≡ pattern_of (bound_of w) (call_in s).args
  pattern_six =
      ap₂ (λ (l k : List ℕ). (marks w l + 8 * marks w k) % 2 ^ counted s) (three_low s) (three_high s)
      ∙ ap (λ (x : ℕ). x % 2 ^ counted s) (sym (marks_six w (arg_at s)))
      ∙ marks_cut w (counted s) (values (arg_at s) max_arity)
      ∙ ap (marks w) (args_take s)
      ∙ marks_pattern w m (call_in s).args t

-- ---- all arguments of a call: the bits of six bytes, those behind the last argument made literals

-- the bytes behind n arguments
abbrev pub behind : ℕ → ℕ
behind n = (18446744073709486080 * 2 ^ (8 * n)) % 2 ^ 64

abbrev is_behind : ℕ → ℕ → Bool
is_behind n i = eqb (byte_of (behind n) (2 + i)) (cond (ltb i n) 0 255)

behind_byte : (n i : ℕ) → n < 8 → i < max_arity → byte_of (behind n) (2 + i) ≡ cond (ltb i n) 0 255
behind_byte n i h k =
    eqb-true (byte_of (behind n) (2 + i)) (cond (ltb i n) 0 255)
    (all_below_at (is_behind n) max_arity (all_below_at (λ j. all_below (is_behind j) max_arity) 8 refl n h) i k)

or_byte : (s u i : ℕ) → byte_of (bit_or s u) i ≡ bit_or (byte_of s i) (byte_of u i)
or_byte s u i = ap (λ (x : ℕ). x % 256) (or_shr s u (8 * i)) ∙ or_mod (s / 2 ^ (8 * i)) (u / 2 ^ (8 * i)) 8

or_full : (x : ℕ) → x < 256 → bit_or x 255 ≡ 255
or_full x h = let a : bit_and x 255 ≡ x % 256 = and_mask x 8 in let b = or_add_and x 255 in omega arith

padded_byte : (s n i : ℕ) → n < 8 → i < max_arity → arg_at (bit_or s (behind n)) i ≡ cond (ltb i n) (arg_at s i) literal
padded_byte s n i h k =
    or_byte s (behind n) (2 + i) ∙ ap (bit_or (arg_at s i)) (behind_byte n i h k) ∙ go (ltb i n)
  where
    go : (b : Bool) → bit_or (arg_at s i) (cond b 0 255) ≡ cond b (arg_at s i) literal
    go true = or_zero_r (arg_at s i)
    go false = or_full (arg_at s i) (omega arith)

binds_snoc : (b : Bound) (l : List ℕ) (x : ℕ) → bind_all b (l ++ (x ∷ [])) ≡ bind_var (bind_all b l) x
unfolding bind_all
binds_snoc b [] x = refl
binds_snoc b (y ∷ l) x = binds_snoc (bind_var b y) l x

marks_snoc : (w : ℕ) (l : List ℕ) (x : ℕ) → with_marks w (l ++ (x ∷ [])) ≡ bit_or (with_marks w l) (2 ^ (x % 32))
unfolding with_marks
marks_snoc w [] x = refl
marks_snoc w (y ∷ l) x = marks_snoc (bit_or w (2 ^ (y % 32))) l x

binds_padded : (w : ℕ) (f g : ℕ → ℕ) (n m : ℕ) → ((i : ℕ) → i < m → g i ≡ cond (ltb i n) (f i) literal) → ((i : ℕ) → i < m → i < n → allows Argument (f i) ≡ true)
    → bound_of (with_marks w (values g m)) ≡ bind_all (bound_of w) (values f (min n m))
unfolding with_marks bind_all
binds_padded w f g n zero p t = let e : min n 0 ≡ 0 = omega arith in ap (λ (j : ℕ). bind_all (bound_of w) (values f j)) (sym e)
binds_padded w f g n (suc m) p t =
    let r = binds_padded w f g n m (λ i h. p i (omega arith)) (λ i h. t i (omega arith)) in
    let u = with_marks w (values g m) in
    ap bound_of (marks_snoc w (values g m) (g m))
    ∙ by_range m n
    (λ h.
    let e : min n (suc m) ≡ suc m = omega arith in
    let d : min n m ≡ m = omega arith in
    let q : g m ≡ f m = p m (omega arith) ∙ rw (lt-ltb m n h) in
    ap (λ (x : ℕ). bound_of (bit_or u (2 ^ (x % 32)))) q
    ∙ mark_binds u (f m) (t m (omega arith) h)
    ∙ ap (λ (b : Bound). bind_var b (f m)) (r ∙ ap (λ (j : ℕ). bind_all (bound_of w) (values f j)) d)
    ∙ sym (binds_snoc (bound_of w) (values f m) (f m)) ∙ ap (λ (j : ℕ). bind_all (bound_of w) (values f j)) (sym e))
    (λ h.
    let e : min n m ≡ min n (suc m) = omega arith in
    let q : g m ≡ literal = p m (omega arith) ∙ rw (le-ltb m n h) in
    ap (λ (x : ℕ). bound_of (bit_or u (2 ^ (x % 32)))) q
    ∙ bound_same u 31 (omega arith) ∙ r ∙ ap (λ (j : ℕ). bind_all (bound_of w) (values f j)) e)

with_six : (w : ℕ) (f : ℕ → ℕ) → with_marks (with_marks w (values f 3)) (values (λ i. f (3 + i)) 3) ≡ with_marks w (values f 6)
unfolding with_marks
with_six w f = refl

-- a bit that is set stays set
marks_keep : (w k : ℕ) (l : List ℕ) → bit_at w k ≡ true → bit_at (with_marks w l) k ≡ true
unfolding with_marks
marks_keep w k [] t = t
marks_keep w k (x ∷ l) t = marks_keep (bit_or w (2 ^ (x % 32))) k l (bit_at_or w (2 ^ (x % 32)) k ∙ rw t)

pub literals_keep : (w : ℕ) (l : List ℕ) {r : ℕ} → r ≡ with_marks w l → bit_at w 31 ≡ true → bit_at r 31 ≡ true
literals_keep w l e t = rw e (marks_keep w 31 l t)

-- what six arguments come to, or three where there are no more
module _ (w s : ℕ) (t : all (allows Argument) (call_in s).args ≡ true) where
  abbrev padded : ℕ
  padded = bit_or s (behind (counted s))

  bytes_padded : (i : ℕ) → i < max_arity → arg_at padded i ≡ cond (ltb i (counted s)) (arg_at s i) literal
  bytes_padded i h = padded_byte s (counted s) i (omega arith) h

  args_allowed : (i : ℕ) → i < max_arity → i < counted s → allows Argument (arg_at s i) ≡ true
  args_allowed i h k =
      let n = args_count s in
      let l : i < length (call_in s).args = omega arith in
      rw (← args_at s i l) (all_at (allows Argument) 0 (call_in s).args i l t)

  binds : (k : ℕ) → k ≤ max_arity → min (counted s) k ≡ min (counted s) max_arity
      → bound_of (with_marks w (values (arg_at padded) k)) ≡ bind_all (bound_of w) (call_in s).args
  binds k h e =
      binds_padded w (arg_at s) (arg_at padded) (counted s) k (λ i l. bytes_padded i (omega arith)) (λ i l. args_allowed i (omega arith))
      ∙ ap (λ (j : ℕ). bind_all (bound_of w) (values (arg_at s) j)) e ∙ ap (bind_all (bound_of w)) (sym (args_values s))

  pub binds_three : {x : ℕ} → x ≡ with_marks w (values (byte_of (padded / 2 ^ 16)) 3) → counted s ≤ 3 → bound_of x ≡ bind_all (bound_of w) (call_in s).args
  binds_three e h = ap bound_of (e ∙ ap (with_marks w) (three_low padded)) ∙ binds 3 (omega arith) (omega arith)

  pub binds_six : {x y : ℕ} → x ≡ with_marks w (values (byte_of (padded / 2 ^ 16)) 3) → y ≡ with_marks x (values (byte_of (padded / 2 ^ 40)) 3)
      → bound_of y ≡ bind_all (bound_of w) (call_in s).args
  binds_six e f =
      ap bound_of (f ∙ ap₂ with_marks (e ∙ ap (with_marks w) (three_low padded)) (three_high padded) ∙ with_six w (arg_at padded))
      ∙ binds max_arity (omega arith) refl

-- ---- bits 30 and 31

-- a word of all bits but bit 30
abbrev pub clears : ℕ → Bool
clears c = all_below (bit_at c) variables && (bit_at c 31 && not (bit_at c 30))

module _ (c : ℕ) (t : clears c ≡ true) (x : ℕ) where
  pub cleared_bound : bound_of (bit_and x c) ≡ bound_of x
  cleared_bound =
      let here = and_left (all_below (bit_at c) variables) (bit_at c 31 && not (bit_at c 30)) t in
      bound_of_cong (bit_and x c) x
      (λ v h. bit_at_and x c v ∙ ap (λ (b : Bool). bit_at x v && b) (all_below_at (bit_at c) variables here v h) ∙ and-true (bit_at x v))

  pub cleared_marked : bit_at x 31 ≡ true → Marked (bit_and x c)
  cleared_marked h =
      let rest = and_right (all_below (bit_at c) variables) (bit_at c 31 && not (bit_at c 30)) t in
      record {
        literals = bit_at_and x c 31 ∙ and_intro h (and_left (bit_at c 31) (not (bit_at c 30)) rest);
        wildcards = bit_at_and x c 30 ∙ ap (λ (b : Bool). bit_at x 30 && b) (not-true (bit_at c 30) (and_right (bit_at c 31) (not (bit_at c 30)) rest)) ∙ and-false (bit_at x 30);
      }

-- a word with bit 31, not bit 30, and no variable, added to what is bound at the start
abbrev pub starts : ℕ → Bool
starts c = all_below (λ v. not (bit_at c v)) variables && (bit_at c 31 && not (bit_at c 30))

module _ (c : ℕ) (t : starts c ≡ true) (w : ℕ) where
  pub start_bound : bound_of (bit_or w c) ≡ bound_of w
  start_bound =
      let none = and_left (all_below (λ v. not (bit_at c v)) variables) (bit_at c 31 && not (bit_at c 30)) t in
      bound_of_cong (bit_or w c) w
      (λ v h.
      bit_at_or w c v
      ∙ ap (λ (b : Bool). bit_at w v || b) (not-true (bit_at c v) (all_below_at (λ u. not (bit_at c u)) variables none v h)) ∙ or-false (bit_at w v))

  pub start_marked : w < 2 ^ variables → Marked (bit_or w c)
  start_marked h =
      let rest = and_right (all_below (λ v. not (bit_at c v)) variables) (bit_at c 31 && not (bit_at c 30)) t in
      record {
        literals = bit_at_or w c 31 ∙ or_right (bit_at w 31) (and_left (bit_at c 31) (not (bit_at c 30)) rest);
        wildcards = bit_at_or w c 30
            ∙ ap₂ (λ (a b : Bool). a || b) (bit_at_high variables w 30 h (omega arith)) (not-true (bit_at c 30) (and_right (bit_at c 31) (not (bit_at c 30)) rest));
      }
