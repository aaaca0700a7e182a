-- Lines: their fields are the parts that std's `split` gives, and their inputs stand before the first window that is ` = `. Assumes nothing.
use mathlib.Core.Bool.{Bool, true, false, cond, not, ◌&&◌}
use mathlib.Core.Path.{◌≡◌, refl, sym, ap, ◌∙◌}
use mathlib.Core.List.{List, [], ◌∷◌}
use Prim.Native.Nat.{ℕ, zero, suc, ◌+◌, ◌≤◌, ◌<◌}
use native.Mathlib.Omega.{arith}
use lib.Dec.{eqb, ltb}
use lib.ListN.{length, take, drop}
use Rattle.std.proofs.Common.{Some, None}
use borrow.Author.Tests.{eqb-true, eq-eqb, lt-ltb}
use Rattle.std.proofs.lemmas.Bool.Decides.{same_from_decides, Decides-eqb, nat_tests}
use Rattle.std.proofs.lemmas.Iterator.{YieldsList}
use Rattle.std.proofs.lemmas.Iterator.Splits.{YieldsList-from_shown_while}
use Rattle.std.specs.Cmp.Lexicographic.{pointwise}
use Rattle.std.specs.List.{slice_split, onto_first, slice_get, position_or_len}
use Rattle.std.specs.Option.{unwrap_or}
use Rattle.std.specs.Slice.Iter.{windows_rest, windows_size, windows_steps}
use Rattle.lines.specs.Line.{before, beyond, field_of, starts_with, inputs_of}

-- ---- fields

field_none : (k : ℕ) → field_of k [] ≡ []
field_none zero = refl
field_none (suc k) = field_none k

onto_here : (x : ℕ) (parts : List (List ℕ)) → unwrap_or (slice_get (onto_first x parts) 0) [] ≡ x ∷ unwrap_or (slice_get parts 0) []
onto_here x [] = refl
onto_here x (part ∷ parts) = refl

onto_behind : (x : ℕ) (parts : List (List ℕ)) (k : ℕ) → slice_get (onto_first x parts) (suc k) ≡ slice_get parts (suc k)
onto_behind x [] k = refl
onto_behind x (part ∷ parts) k = refl

-- the parts of a line at its spaces are its fields; past the last, a field is empty
pub field_parts : (line : List ℕ) (k : ℕ) → unwrap_or (slice_get (slice_split (λ b. eqb b 32) line) k) [] ≡ field_of k line
field_parts [] zero = refl
field_parts [] (suc k) = sym (field_none k)
field_parts (x ∷ l) zero = go (field_parts l 0) (eqb x 32)
  where
    parts : List (List ℕ)
    parts = slice_split (λ b. eqb b 32) l

    go : unwrap_or (slice_get parts 0) [] ≡ before 32 l → (b : Bool) → unwrap_or (slice_get (cond b ([] ∷ parts) (onto_first x parts)) 0) [] ≡ cond b [] (x ∷ before 32 l)
    go h true = refl
    go h false = onto_here x parts ∙ ap (λ (t : List ℕ). x ∷ t) h
field_parts (x ∷ l) (suc k) = go (λ j. field_parts l j) (eqb x 32)
  where
    parts : List (List ℕ)
    parts = slice_split (λ b. eqb b 32) l

    go : ((j : ℕ) → unwrap_or (slice_get parts j) [] ≡ field_of j l) → (b : Bool)
        → unwrap_or (slice_get (cond b ([] ∷ parts) (onto_first x parts)) (suc k)) [] ≡ field_of k (cond b l (beyond 32 l))
    go h true = h k
    go h false = rw (onto_behind x parts k) (h (suc k))

-- ---- the beginning

-- std's test of a beginning
pub begins_same : (word line : List ℕ) → pointwise eqb word (take (length word) line) ≡ starts_with word line
begins_same [] line = refl
begins_same (w ∷ word) [] = refl
begins_same (w ∷ word) (x ∷ line) = go (begins_same word line) (eqb w x)
  where
    go : pointwise eqb word (take (length word) line) ≡ starts_with word line → (b : Bool)
        → (b && pointwise eqb word (take (length word) line)) ≡ cond b (starts_with word line) false
    go h true = h
    go h false = refl

-- ---- up to the results

-- the test of a window
abbrev pub is_mark : List ℕ → Bool
is_mark w = pointwise eqb w (32 ∷ 61 ∷ 32 ∷ [])

-- the windows of three bytes
abbrev pub threes : List ℕ → List (List ℕ)
threes [] = []
threes (x ∷ []) = []
threes (x ∷ y ∷ []) = []
threes (x ∷ y ∷ z ∷ l) = (x ∷ y ∷ z ∷ []) ∷ threes (y ∷ z ∷ l)

threes_none : (l : List ℕ) → length l < 3 → length (threes l) ≡ 0
threes_none [] h = refl
threes_none (x ∷ []) h = refl
threes_none (x ∷ y ∷ []) h = refl
threes_none (x ∷ y ∷ z ∷ l) h = absurd (omega arith)

threes_some : (l w : List ℕ) → 3 ≤ length l → w ≡ take 3 l → threes l ≡ w ∷ threes (drop 1 l)
threes_some [] w h e = absurd (omega arith)
threes_some (x ∷ []) w h e = absurd (omega arith)
threes_some (x ∷ y ∷ []) w h e = absurd (omega arith)
threes_some (x ∷ y ∷ z ∷ l) w h e = rw e

-- std's `windows` gives them
pub windows_threes : {s : _} (l : List ℕ) → windows_rest s ≡ l → windows_size s ≡ 3 → YieldsList (windows_steps {A = ℕ}) (λ w. w.now) s (threes l)
windows_threes {s} l e n =
    rw (← e)
    (YieldsList-from_shown_while windows_steps (λ w. w.now) (λ t. threes (windows_rest t)) (λ t. windows_size t ≡ 3)
    (λ s t h g. threes_none (windows_rest s) (omega (arith, g.1.0)))
    (λ s w t h g. (g.0 ∙ h, rw g.1.2 (threes_some (windows_rest s) w.now (omega (arith, g.1.0)) (rw h at g.1.1))))
    s n)

-- where the first ` = ` stands, or the end
abbrev pub found : ℕ → ℕ → ℕ → ℕ
found p n end = unwrap_or (cond (ltb p n) (Some p) None) end

-- a window that is no mark is passed
found_next : (p n end : ℕ) → found (suc p) (suc n) (suc end) ≡ suc (found p n end)
found_next p n end = let e : ltb (suc p) (suc n) ≡ ltb p n = grind (arith, nat_tests) in rw e (go (ltb p n))
  where
    go : (b : Bool) → unwrap_or (cond b (Some (suc p)) None) (suc end) ≡ suc (unwrap_or (cond b (Some p) None) end)
    go true = refl
    go false = refl

found_step : (b : Bool) (p n end : ℕ) (x : ℕ) (l : List ℕ) → found p n end ≡ length l → found (cond (not b) (1 + p) 0) (suc n) (suc end) ≡ length (cond b [] (x ∷ l))
found_step true p n end x l h = rw (lt-ltb 0 (suc n) (omega arith))
found_step false p n end x l h = let e : 1 + p ≡ suc p = omega arith in rw e (found_next p n end ∙ ap suc h)

short_one : (b : Bool) → cond b false false ≡ false
short_one true = refl
short_one false = refl

turned : (a b : ℕ) → eqb a b ≡ eqb b a
turned a b = same_from_decides (eqb a b) (eqb b a) (Decides-eqb a b) (λ t. sym (eqb-true b a t), λ e. eq-eqb b a (sym e))

marks_same : (x y z : ℕ) (l : List ℕ) → is_mark (x ∷ y ∷ z ∷ []) ≡ starts_with (32 ∷ 61 ∷ 32 ∷ []) (x ∷ y ∷ z ∷ l)
marks_same x y z l = rw (turned x 32, turned y 61, turned z 32, same (eqb 32 x) (eqb 61 y) (eqb 32 z))
  where
    same : (a b c : Bool) → (a && (b && (c && true))) ≡ cond a (cond b (cond c true false) false) false
    same true true true = refl
    same true true false = refl
    same true false c = refl
    same false b c = refl

pub results_found : (l : List ℕ) → found (position_or_len is_mark (threes l)) (length (threes l)) (length l) ≡ length (inputs_of l)
results_found [] = refl
results_found (x ∷ []) = rw (short_one (eqb 32 x))
results_found (x ∷ y ∷ []) = rw (short_one (eqb 61 y), short_one (eqb 32 x), short_one (eqb 32 y))
results_found (x ∷ y ∷ z ∷ l) =
    rw (marks_same x y z l) (found_step _ (position_or_len is_mark (threes (y ∷ z ∷ l))) _ _ x (inputs_of (y ∷ z ∷ l)) (results_found (y ∷ z ∷ l)))

pub take_inputs : (l : List ℕ) → take (length (inputs_of l)) l ≡ inputs_of l
take_inputs [] = refl
take_inputs (x ∷ l) = go (take_inputs l) (starts_with (32 ∷ 61 ∷ 32 ∷ []) (x ∷ l))
  where
    go : take (length (inputs_of l)) l ≡ inputs_of l → (b : Bool) → take (length (cond b [] (x ∷ inputs_of l))) (x ∷ l) ≡ cond b [] (x ∷ inputs_of l)
    go h true = refl
    go h false = ap (λ (t : List ℕ). x ∷ t) h
