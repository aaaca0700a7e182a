-- What a value that was read says of the bytes, and back, whatever is read: a byte, bytes, a run of records. Assumes nothing.
use mathlib.Core.Path.{◌≡◌, refl, sym, ap, ◌∙◌, subst}
use mathlib.Core.Logic.{◌⊎◌, inl, inr}
use mathlib.Core.Bool.{Bool, true, false, cond}
use mathlib.Core.List.{List, [], ◌∷◌, ◌++◌, append_assoc, append-nil}
use Prim.Native.Nat.{ℕ, zero, suc, ◌≤◌}
use native.Mathlib.Omega.{arith}
use lib.ListN.{length}
use Rattle.masks.specs.Lists.{all}
use Rattle.masks.proofs.Laws.Logic.{and_intro, and_left, and_right}
use Rattle.book.specs.Format.{Got, bad, got, and_then, byte, bytes, on_turn, many, turn, mark_at, allows, subgoal}
use Rattle.book.specs.Encode.{run}
use Rattle.book.specs.declared.fault.Fault.{Fault}
use Rattle.book.specs.declared.fault.Fault.TheVariants.{OutOfTurn, OutOfRange}
use Rattle.book.specs.declared.mark.Phase.{Phase}
use Rattle.book.specs.declared.mark.Phase.TheVariants.{Query}
use Rattle.book.specs.declared.mark.Turn.{Turn}
use Rattle.book.specs.declared.mark.Turn.TheVariants.{Mine, Over, No}
use Rattle.book.specs.declared.range.Range.{Range}

-- ---- computed: "in turn (3), not one too many (5)": PR behind a full query is out of turn

pub turn_before_room : many Query (subgoal []) 0 [] (80 ∷ 82 ∷ []) ≡ bad OutOfTurn 2
unfolding many mark_at
turn_before_room = refl

-- ---- what was read in two steps

pub bad_got : {A : Type 0} {f : Fault} {k : ℕ} {a : A} {r : List ℕ} {B : Type 0} → bad f k ≡ got a r → B
bad_got {A} {f} {k} {a} {r} e = let z : ◌≡◌ {A = ℕ} 0 1 = cc in absurd (omega arith)

pub then_inv : {A B : Type 0} (g : Got A) (f : A → List ℕ → Got B) {b : B} {r : List ℕ} → and_then g f ≡ got b r
    → (a : A) × (s : List ℕ) × (g ≡ got a s) × (f a s ≡ got b r)
then_inv (bad w k) f e = bad_got e
then_inv (got a s) f e = (a, s, refl, e)

pub then_got : {A B : Type 0} {g : Got A} (f : A → List ℕ → Got B) {a : A} {r : List ℕ} → g ≡ got a r → and_then g f ≡ f a r
then_got f e = rw e

pub got_value : {A : Type 0} {a b : A} {r s : List ℕ} → got a r ≡ got b s → a ≡ b
got_value e = cc

pub got_rest : {A : Type 0} {a b : A} {r s : List ℕ} → got a r ≡ got b s → r ≡ s
got_rest e = cc

-- what holds of the value read and the bytes left holds of what they are equal to
pub carry : {A : Type 0} (P : A → List ℕ → Type 0) {x a : A} {q r : List ℕ} → got x q ≡ got a r → P x q → P a r
carry P {x} {a} {q} {r} e t = subst (λ (l : List ℕ). P a l) (got_rest e) (subst (λ (y : _). P y q) (got_value e) t)

-- a test that has to hold, and one that must not
pub test_inv : {A : Type 0} (b : Bool) (a : A) (r : List ℕ) (f : Fault) (k : ℕ) {x : A} {s : List ℕ} → cond b (got a r) (bad f k) ≡ got x s
    → (b ≡ true) × (got a r ≡ got x s)
test_inv true a r f k e = (refl, e)
test_inv false a r f k e = bad_got e

-- ---- bytes

pub byte_inv : (r : Range) (s : List ℕ) {x : ℕ} {t : List ℕ} → byte r s ≡ got x t → (s ≡ x ∷ t) × (allows r x ≡ true)
byte_inv r [] e = bad_got e
byte_inv r (y ∷ s) {x} {t} e =
    let w = test_inv (allows r y) y s OutOfRange _ e in
    carry (λ (z : ℕ) (l : List ℕ). (y ∷ s ≡ z ∷ l) × (allows r z ≡ true)) w.1 (refl, w.0)

pub byte_got : (r : Range) (x : ℕ) (s : List ℕ) → allows r x ≡ true → byte r (x ∷ s) ≡ got x s
byte_got r x s t = rw t

pub bytes_got : (r : Range) (xs acc s : List ℕ) → all (allows r) xs ≡ true → bytes r (length xs) acc (xs ++ s) ≡ got (acc ++ xs) s
unfolding bytes
bytes_got r [] acc s t = rw append-nil
bytes_got r (x ∷ xs) acc s t =
    then_got (λ y u. bytes r (length xs) (acc ++ (y ∷ [])) u) (byte_got r x (xs ++ s) (and_left (allows r x) (all (allows r) xs) t))
    ∙ bytes_got r xs (acc ++ (x ∷ [])) s (and_right (allows r x) (all (allows r) xs) t)
    ∙ rw append_assoc

-- the bytes new, read after acc
record Line (r : Range) (k : ℕ) (acc s xs rest : List ℕ) : Type 0 where
  new : List ℕ
  size : length new ≡ k
  is : xs ≡ acc ++ new
  from : s ≡ new ++ rest
  good : all (allows r) new ≡ true

line : (r : Range) (k : ℕ) (acc s : List ℕ) {xs rest : List ℕ} → bytes r k acc s ≡ got xs rest → Line r k acc s xs rest
unfolding bytes
line r zero acc s e = record { new = []; size = refl; is = rw append-nil (sym (got_value e)); from = got_rest e; good = refl }
line r (suc k) acc s e =
    let w = then_inv (byte r s) (λ y t. bytes r k (acc ++ (y ∷ [])) t) e in
    let b = byte_inv r s w.2 in
    let v = line r k (acc ++ (w.0 ∷ [])) w.1 w.3 in
    record {
      new = w.0 ∷ v.new;
      size = ap suc v.size;
      is = v.is ∙ rw append_assoc;
      from = b.0 ∙ ap (λ (l : List ℕ). w.0 ∷ l) v.from;
      good = and_intro b.1 v.good;
    }

pub bytes_inv : (r : Range) (k : ℕ) (s : List ℕ) {xs rest : List ℕ} → bytes r k [] s ≡ got xs rest
    → (length xs ≡ k) × (s ≡ xs ++ rest) × (all (allows r) xs ≡ true)
bytes_inv r k s {xs} {rest} e =
    let v = line r k [] s e in
    let i : xs ≡ v.new = v.is in
    (ap length i ∙ v.size, v.from ∙ ap (λ (l : List ℕ). l ++ rest) (sym i), ap (all (allows r)) i ∙ v.good)

-- ---- runs of records

-- each of the records, given those before it
abbrev pub Each : {A : Type 0} → (List A → A → Type 0) → List A → List A → Type 0
Each P acc [] = Unit {0}
Each P acc (x ∷ xs) = P acc x × Each P (acc ++ (x ∷ [])) xs

module _ {A : Type 0} (t : A → Bool) where
  pub each_all : (acc xs : List A) → Each (λ (l : List A) (x : A). t x ≡ true) acc xs → all t xs ≡ true
  each_all acc [] e = refl
  each_all acc (x ∷ xs) e = and_intro e.0 (each_all (acc ++ (x ∷ [])) xs e.1)

  pub all_each : (acc xs : List A) → all t xs ≡ true → Each (λ (l : List A) (x : A). t x ≡ true) acc xs
  all_each acc [] e = tt
  all_each acc (x ∷ xs) e = (and_left (t x) (all t xs) e, all_each (acc ++ (x ∷ [])) xs (and_right (t x) (all t xs) e))

turn_inv : {A : Type 0} (t : Turn) {more : Got (List A)} {acc : List A} {s : List ℕ} {all· : List A} {r : List ℕ} {B : Type 0} → on_turn t more acc s ≡ got all· r
    → (t ≡ Mine → more ≡ got all· r → B) → (t ≡ Over → got acc s ≡ got all· r → B) → B
turn_inv Mine e f g = f refl e
turn_inv Over e f g = g refl e
turn_inv (No w) e f g = bad_got e

-- the records new, read after acc
record Ran {A : Type 0} (p : Phase) (P : List A → A → Type 0) (enc : A → List ℕ) (room : ℕ) (acc : List A) (s : List ℕ) (xs : List A) (r : List ℕ) : Type 0 where
  new : List A
  few : length new ≤ room
  is : xs ≡ acc ++ new
  from : s ≡ run enc new ++ r
  good : Each P acc new
  over : turn p (mark_at r) ≡ Over

-- the run xs, read from s
pub record Run {A : Type 0} (p : Phase) (P : List A → A → Type 0) (enc : A → List ℕ) (room : ℕ) (s : List ℕ) (xs : List A) (r : List ℕ) : Type 0 where
  pub few : length xs ≤ room
  pub from : s ≡ run enc xs ++ r
  pub good : Each P [] xs
  pub over : turn p (mark_at r) ≡ Over

-- another record of the run follows, or its end
abbrev pub Follows : Phase → List ℕ → Type 0
Follows p r = (turn p (mark_at r) ≡ Mine) ⊎ (turn p (mark_at r) ≡ Over)

module _ {A : Type 0} (p : Phase) (item : List A → List ℕ → Got A) (P : List A → A → Type 0) (enc : A → List ℕ) where
  follows : (leads : (a : A) (r : List ℕ) → turn p (mark_at (enc a ++ r)) ≡ Mine) (xs : List A) (r : List ℕ) → turn p (mark_at r) ≡ Over
      → Follows p (run enc xs ++ r)
  follows leads [] r o = inr o
  follows leads (x ∷ xs) r o = inl (rw append_assoc (leads x (run enc xs ++ r)))

  pub many_got : (leads : (a : A) (r : List ℕ) → turn p (mark_at (enc a ++ r)) ≡ Mine)
      (reads : (acc : List A) (a : A) (r : List ℕ) → P acc a → Follows p r → item acc (enc a ++ r) ≡ got a r)
      (room : ℕ) (acc xs : List A) (r : List ℕ) → length xs ≤ room → Each P acc xs → turn p (mark_at r) ≡ Over
      → many p item room acc (run enc xs ++ r) ≡ got (acc ++ xs) r
  unfolding many
  many_got leads reads zero acc [] r h t o = rw (o, append-nil)
  many_got leads reads (suc room) acc [] r h t o = rw (o, append-nil)
  many_got leads reads zero acc (x ∷ xs) r h t o = absurd (omega arith)
  many_got leads reads (suc room) acc (x ∷ xs) r h t o =
      rw (append_assoc, leads x (run enc xs ++ r), reads acc x (run enc xs ++ r) t.0 (follows leads xs r o))
      (many_got leads reads room (acc ++ (x ∷ [])) xs r (omega arith) t.1 o ∙ rw append_assoc)

  over_ran : (room : ℕ) (acc : List A) (s : List ℕ) {xs : List A} {r : List ℕ} → turn p (mark_at s) ≡ Over → got acc s ≡ got xs r → Ran p P enc room acc s xs r
  over_ran room acc s o e = record {
    new = [];
    few = omega arith;
    is = rw append-nil (sym (got_value e));
    from = got_rest e;
    good = tt;
    over = rw (← got_rest e) o;
  }

  module _ (reads : (acc : List A) (s : List ℕ) (a : A) (r : List ℕ) → turn p (mark_at s) ≡ Mine → item acc s ≡ got a r → (s ≡ enc a ++ r) × P acc a) where
    ran : (room : ℕ) (acc : List A) (s : List ℕ) {xs : List A} {r : List ℕ} → many p item room acc s ≡ got xs r → Ran p P enc room acc s xs r
    unfolding many
    ran zero acc s e = turn_inv (turn p (mark_at s)) e (λ t d. bad_got d) (λ t d. over_ran zero acc s t d)
    ran (suc room) acc s {xs} {r} e =
        turn_inv (turn p (mark_at s)) e
        (λ t d.
        let w = then_inv (item acc s) (λ a q. many p item room (acc ++ (a ∷ [])) q) d in
        let b = reads acc s w.0 w.1 t w.2 in
        let v : Ran p P enc room (acc ++ (w.0 ∷ [])) w.1 xs r = ran room (acc ++ (w.0 ∷ [])) w.1 w.3 in
        record {
          new = w.0 ∷ v.new;
          few = omega arith;
          is = v.is ∙ rw append_assoc;
          from = b.0 ∙ (ap (λ (l : List ℕ). enc w.0 ++ l) v.from ∙ sym (append_assoc (enc w.0) (run enc v.new) r));
          good = (b.1, v.good);
          over = v.over;
        })
        (λ t d. over_ran (suc room) acc s t d)

    pub many_inv : (room : ℕ) (s : List ℕ) (xs : List A) (r : List ℕ) → many p item room [] s ≡ got xs r → Run p P enc room s xs r
    many_inv room s xs r e =
        let v = ran room [] s e in
        let i : v.new ≡ xs = sym v.is in
        record {
          few = subst (λ (l : List A). length l ≤ room) i v.few;
          from = v.from ∙ ap (λ (l : List A). run enc l ++ r) i;
          good = subst (Each P []) i v.good;
          over = v.over;
        }
