-- Where the first fault of any bytes stands: 1 at their end, every other at a byte, but for a missing QU. By what reading is made of, with places as it counts
-- them, by the bytes left. Assumes nothing.
use mathlib.Core.Path.{◌≡◌, refl, subst}
use mathlib.Core.Bool.{Bool, true, false, cond}
use mathlib.Core.List.{List, [], ◌∷◌, ◌++◌}
use Prim.Native.Nat.{ℕ, zero, suc, ◌-◌, ◌^◌, ◌≤◌, ◌<◌}
use native.Mathlib.Omega.{arith}
use lib.Dec.{leb}
use lib.ListN.{length, get_or, drop}
use Rattle.masks.specs.Limits.{max_masks}
use Rattle.book.specs.Limits.{max_predicates, max_clauses, max_subgoals}
use Rattle.book.specs.Book.{Call, Mode, Clause, Book}
use Rattle.book.specs.Format.{Stands, allows, Got, bad, got, and_then, wrong, byte, bytes, on_turn, many, turn, mark_at, predicate, masks, mode_fields, mode, low, fields, argument_in, spelling, leads, subgoal, clause, query, rules, read_book, Judged, fault, book, judged, judge}
use Rattle.book.specs.declared.fault.Fault.{Fault}
use Rattle.book.specs.declared.fault.Fault.TheVariants.{PastEnd, NoMark, OutOfTurn, OutOfRange, TooMany, Clash}
use Rattle.book.specs.declared.mark.Mark.TheVariants.{Ng}
use Rattle.book.specs.declared.mark.Phase.{Phase}
use Rattle.book.specs.declared.mark.Phase.TheVariants.{Predicates, Modes, Clauses, Body, Query, Queries, PageQuery}
use Rattle.book.specs.declared.mark.Turn.{Turn}
use Rattle.book.specs.declared.mark.Turn.TheVariants.{Mine, Over, No}
use Rattle.book.specs.declared.range.Range.{Range}
use Rattle.book.specs.declared.range.Range.TheVariants.{Below, AtMost, NoWildcard}

-- ---- a fault from whose place on k bytes are left

abbrev pub Leaves : Fault → ℕ → Type 0
Leaves PastEnd k = k ≡ 0
Leaves NoMark k = 0 < k
Leaves OutOfTurn k = Unit {0}
Leaves OutOfRange k = 0 < k
Leaves TooMany k = 0 < k
Leaves Clash k = 0 < k

abbrev pub leaves_in : {A : Type 0} → Got A → Type 0
leaves_in (bad f k) = Leaves f k
leaves_in (got a s) = Unit {0}

pub record Standing {A : Type 0} (g : Got A) : Type 0 where
  pub leaves : leaves_in g

at_byte : {A : Type 0} (f : Fault) (x : ℕ) (s : List ℕ) → Standing {A = A} (wrong f (x ∷ s))
at_byte PastEnd x s = record { leaves = refl }
at_byte NoMark x s = record { leaves = omega arith }
at_byte OutOfTurn x s = record { leaves = tt }
at_byte OutOfRange x s = record { leaves = omega arith }
at_byte TooMany x s = record { leaves = omega arith }
at_byte Clash x s = record { leaves = omega arith }

past_end : {A : Type 0} → Standing {A = A} (bad PastEnd 0)
past_end = record { leaves = refl }

read : {A : Type 0} {a : A} {s : List ℕ} → Standing (got a s)
read = record { leaves = tt }

-- ---- what reading is made of

then_standing : {A B : Type 0} (g : Got A) (f : A → List ℕ → Got B) → Standing g → ((a : A) (t : List ℕ) → Standing (f a t)) → Standing (and_then g f)
then_standing (bad v k) f p q = record { leaves = p.leaves }
then_standing (got a s) f p q = q a s

test_standing : {A : Type 0} (b : Bool) {g h : Got A} → Standing g → Standing h → Standing (cond b g h)
test_standing true p q = p
test_standing false p q = q

byte_standing : (r : Range) (s : List ℕ) → Standing (byte r s)
byte_standing r [] = past_end
byte_standing r (x ∷ s) = test_standing (allows r x) read (at_byte OutOfRange x s)

bytes_standing : (r : Range) (k : ℕ) (acc s : List ℕ) → Standing (bytes r k acc s)
unfolding bytes
bytes_standing r zero acc s = read
bytes_standing r (suc k) acc s = then_standing (byte r s) _ (byte_standing r s) (λ x t. bytes_standing r k (acc ++ (x ∷ [])) t)

-- no record begins where nothing is left, and 3 is the only fault there
none_standing : {A : Type 0} (p : Phase) (more : Got A) (a : A) → Standing (on_turn (turn p (mark_at [])) more a [])
unfolding mark_at
none_standing Predicates more a = record { leaves = tt }
none_standing Modes more a = record { leaves = tt }
none_standing Clauses more a = record { leaves = tt }
none_standing Body more a = record { leaves = tt }
none_standing Query more a = record { leaves = tt }
none_standing Queries more a = record { leaves = tt }
none_standing PageQuery more a = record { leaves = tt }

turn_standing : {A : Type 0} (t : Turn) {more : Got A} (a : A) (x : ℕ) (s : List ℕ) → Standing more → Standing (on_turn t more a (x ∷ s))
turn_standing Mine a x s p = p
turn_standing Over a x s p = read
turn_standing (No f) a x s p = at_byte f x s

pub many_standing : {A : Type 0} (p : Phase) (item : List A → List ℕ → Got A) → ((acc : List A) (s : List ℕ) → Standing (item acc s)) → (room : ℕ) (acc : List A) (s : List ℕ)
    → Standing (many p item room acc s)
unfolding many
many_standing p item each zero acc [] = none_standing p _ acc
many_standing p item each zero acc (x ∷ s) = turn_standing (turn p (mark_at (x ∷ s))) acc x s (at_byte TooMany x s)
many_standing p item each (suc room) acc [] = none_standing p _ acc
many_standing p item each (suc room) acc (x ∷ s) =
    turn_standing (turn p (mark_at (x ∷ s))) acc x s (then_standing (item acc (x ∷ s)) _ (each acc (x ∷ s)) (λ a t. many_standing p item each room (acc ++ (a ∷ [])) t))

-- ---- the records

fields_standing : (r : Range) (ar s : List ℕ) → Standing (fields r ar s)
unfolding fields
fields_standing r ar s = then_standing (byte (Below (length ar)) s) _ (byte_standing _ s) (λ p t. then_standing (bytes r (get_or ar p 0) [] t) _ (bytes_standing r _ [] t) (λ args u. read))

predicate_standing : (acc s : List ℕ) → Standing (predicate acc s)
unfolding predicate
predicate_standing acc s = byte_standing _ (drop 2 s)

subgoal_standing : (ar : List ℕ) (acc : List Call) (s : List ℕ) → Standing (subgoal ar acc s)
unfolding subgoal
subgoal_standing ar acc s = let r = argument_in (leads (spelling Ng) s) in then_standing (fields r ar (drop 2 s)) _ (fields_standing r ar (drop 2 s)) (λ h t. read)

masks_standing : (k : ℕ) (s : List ℕ) → Standing (masks k s)
unfolding masks
masks_standing k s = then_standing (byte (AtMost max_masks) s) _ (byte_standing _ s) (λ n t. bytes_standing (Below k) n [] t)

mode_fields_standing : (ar : List ℕ) (b : ℕ) (s : List ℕ) → Standing (mode_fields ar b s)
unfolding mode_fields
mode_fields_standing ar b [] = past_end
mode_fields_standing ar b (x ∷ s) =
    then_standing (byte (Below (length ar)) (x ∷ s)) _ (byte_standing _ (x ∷ s))
    (λ p t. then_standing (masks (2 ^ get_or ar p 0) t) _ (masks_standing _ t) (λ ms u. test_standing (leb b p) read (at_byte Clash x s)))

mode_standing : (ar : List ℕ) (acc : List Mode) (s : List ℕ) → Standing (mode ar acc s)
unfolding mode
mode_standing ar acc s = mode_fields_standing ar (low acc) (drop 2 s)

clause_standing : (ar : List ℕ) (acc : List Clause) (s : List ℕ) → Standing (clause ar acc s)
unfolding clause
clause_standing ar acc s =
    then_standing (fields NoWildcard ar (drop 2 s)) _ (fields_standing NoWildcard ar (drop 2 s))
    (λ h t. then_standing (many Body (subgoal ar) max_subgoals [] t) _ (many_standing Body (subgoal ar) (subgoal_standing ar) max_subgoals [] t) (λ body u. read))

pub query_standing : (p : Phase) (ar s : List ℕ) → Standing (query p ar s)
unfolding query
query_standing p ar s = many_standing p (subgoal ar) (subgoal_standing ar) max_subgoals [] (drop 2 s)

-- ---- the book

rules_standing : (ar s : List ℕ) → Standing (rules ar s)
unfolding rules
rules_standing ar s =
    then_standing (many Modes (mode ar) (suc max_predicates) [] s) _ (many_standing Modes (mode ar) (mode_standing ar) (suc max_predicates) [] s)
    (λ ms t.
    then_standing (many Clauses (clause ar) max_clauses [] t) _ (many_standing Clauses (clause ar) (clause_standing ar) max_clauses [] t)
    (λ cs u. then_standing (query Query ar u) _ (query_standing Query ar u) (λ q v. read)))

book_standing : (s : List ℕ) → Standing (read_book s)
unfolding read_book
book_standing s =
    then_standing (many Predicates predicate max_predicates [] s) _ (many_standing Predicates predicate predicate_standing max_predicates [] s) (λ ar t. rules_standing ar t)

-- the same, counted from the start
pub stands : (f : Fault) (s : List ℕ) (x k : ℕ) → Leaves f k → Stands f (length (x ∷ s)) (length (x ∷ s) - k)
stands PastEnd s x k l = omega arith
stands NoMark s x k l = omega arith
stands OutOfTurn s x k l = omega arith
stands OutOfRange s x k l = omega arith
stands TooMany s x k l = omega arith
stands Clash s x k l = omega arith

abbrev stands_in : List ℕ → Judged → Type 0
stands_in s (fault f at) = Stands f (length s) at
stands_in s (book B) = Unit {0}

judge_stands : (s : List ℕ) → stands_in s (judge s)
unfolding judge read_book many mark_at
judge_stands [] = omega arith
judge_stands (x ∷ s) = go (read_book (x ∷ s)) (book_standing (x ∷ s))
  where
    go : (g : Got Book) → Standing g → stands_in (x ∷ s) (judged (x ∷ s) g)
    go (bad f k) p = stands f s x k p.leaves
    go (got B t) p = tt

pub fault_stands : (s : List ℕ) (f : Fault) (at : ℕ) → judge s ≡ fault f at → Stands f (length s) at
fault_stands s f at e = subst (stands_in s) e (judge_stands s)

-- so it is in the bytes or at their end
pub fault_place : (s : List ℕ) (f : Fault) (at : ℕ) → judge s ≡ fault f at → at ≤ length s
fault_place s f at e = go f (fault_stands s f at e)
  where
    go : (g : Fault) → Stands g (length s) at → at ≤ length s
    go PastEnd h = omega arith
    go NoMark h = omega arith
    go OutOfTurn h = h
    go OutOfRange h = omega arith
    go TooMany h = omega arith
    go Clash h = omega arith
