-- The first fault of a run is one of 1 to 5: 6 is a fault of MO records, which a run has none of. Assumes nothing.
use mathlib.Core.Path.{◌≡◌, subst}
use mathlib.Core.Bool.{Bool, true, false, cond}
use mathlib.Core.List.{List, [], ◌∷◌, ◌++◌}
use Prim.Native.Nat.{ℕ, zero, suc, ◌≤◌}
use native.Mathlib.Omega.{arith}
use lib.ListN.{length, get_or, drop}
use Rattle.book.specs.Limits.{max_subgoals, max_queries}
use Rattle.book.specs.Book.{Call}
use Rattle.book.specs.Format.{number, spelling, leads, turn, mark_at, allows, Got, bad, got, and_then, wrong, byte, bytes, on_turn, many, fields, argument_in, subgoal, query}
use Rattle.book.specs.declared.fault.Fault.{Fault}
use Rattle.book.specs.declared.fault.Fault.TheVariants.{OutOfRange}
use Rattle.book.specs.declared.mark.Mark.{Mark}
use Rattle.book.specs.declared.mark.Mark.TheVariants.{Pr, Mo, Cl, Sg, Ng, Qu, Other, Half, End}
use Rattle.book.specs.declared.mark.Phase.{Phase}
use Rattle.book.specs.declared.mark.Phase.TheVariants.{Queries, PageQuery}
use Rattle.book.specs.declared.mark.Turn.{Turn}
use Rattle.book.specs.declared.mark.Turn.TheVariants.{Mine, Over, No}
use Rattle.book.specs.declared.range.Range.{Range}
use Rattle.book.specs.declared.range.Range.TheVariants.{Below}
use Rattle.paging.specs.Run.{read_run, JudgedRun, faulty, queries, judged_run, judge_run}

-- ---- what is read has no fault, or one of these

abbrev five_in : {A : Type 0} → Got A → Type 0
five_in (bad f k) = number f ≤ 5
five_in (got a s) = Unit {0}

record Five {A : Type 0} (g : Got A) : Type 0 where
  five : five_in g

then_five : {A B : Type 0} (g : Got A) (f : A → List ℕ → Got B) → Five g → ((a : A) (t : List ℕ) → Five (f a t)) → Five (and_then g f)
then_five (bad v k) f p q = record { five = p.five }
then_five (got a s) f p q = q a s

read : {A : Type 0} {a : A} {s : List ℕ} → Five (got a s)
read = record { five = tt }

byte_five : (r : Range) (s : List ℕ) → Five (byte r s)
byte_five r [] = record { five = omega arith }
byte_five r (x ∷ s) = go (allows r x)
  where
    go : (b : Bool) → Five (cond b (got x s) (wrong OutOfRange (x ∷ s)))
    go true = read
    go false = record { five = omega arith }

bytes_five : (r : Range) (k : ℕ) (acc s : List ℕ) → Five (bytes r k acc s)
unfolding bytes
bytes_five r zero acc s = read
bytes_five r (suc k) acc s = then_five (byte r s) _ (byte_five r s) (λ x t. bytes_five r k (acc ++ (x ∷ [])) t)

subgoal_five : (ar : List ℕ) (acc : List Call) (s : List ℕ) → Five (subgoal ar acc s)
unfolding subgoal fields
subgoal_five ar acc s =
    let r = argument_in (leads (spelling Ng) s) in
    then_five (fields r ar (drop 2 s)) _
    (then_five (byte (Below (length ar)) (drop 2 s)) _ (byte_five _ (drop 2 s)) (λ p t. then_five (bytes r (get_or ar p 0) [] t) _ (bytes_five r _ [] t) (λ args u. read)))
    (λ h t. read)

-- ---- a run of records

abbrev five_at : Turn → Type 0
five_at Mine = Unit {0}
five_at Over = Unit {0}
five_at (No f) = number f ≤ 5

turns_five : (p : Phase) → five_at (turn p Pr) → five_at (turn p Mo) → five_at (turn p Cl) → five_at (turn p Sg) → five_at (turn p Ng) → five_at (turn p Qu) → five_at (turn p End)
    → five_at (turn p Other) → five_at (turn p Half) → (m : Mark) → five_at (turn p m)
turns_five p pr mo cl sg ng qu end other half Pr = pr
turns_five p pr mo cl sg ng qu end other half Mo = mo
turns_five p pr mo cl sg ng qu end other half Cl = cl
turns_five p pr mo cl sg ng qu end other half Sg = sg
turns_five p pr mo cl sg ng qu end other half Ng = ng
turns_five p pr mo cl sg ng qu end other half Qu = qu
turns_five p pr mo cl sg ng qu end other half End = end
turns_five p pr mo cl sg ng qu end other half Other = other
turns_five p pr mo cl sg ng qu end other half Half = half

queries_five : (m : Mark) → five_at (turn Queries m)
queries_five = turns_five Queries (omega arith) (omega arith) (omega arith) (omega arith) (omega arith) tt tt (omega arith) (omega arith)

page_query_five : (m : Mark) → five_at (turn PageQuery m)
page_query_five = turns_five PageQuery (omega arith) (omega arith) (omega arith) tt tt tt tt (omega arith) (omega arith)

module _ {A : Type 0} (p : Phase) (at : (m : Mark) → five_at (turn p m)) (item : List A → List ℕ → Got A) (each : (acc : List A) (s : List ℕ) → Five (item acc s)) where
  turn_five : (t : Turn) → five_at t → (more : Got (List A)) → Five more → (acc : List A) (s : List ℕ) → Five (on_turn t more acc s)
  turn_five Mine h more q acc s = q
  turn_five Over h more q acc s = read
  turn_five (No f) h more q acc s = record { five = h }

  many_five : (room : ℕ) (acc : List A) (s : List ℕ) → Five (many p item room acc s)
  unfolding many
  many_five zero acc s = turn_five (turn p (mark_at s)) (at (mark_at s)) _ (record { five = omega arith }) acc s
  many_five (suc room) acc s =
      turn_five (turn p (mark_at s)) (at (mark_at s)) _ (then_five (item acc s) _ (each acc s) (λ a t. many_five room (acc ++ (a ∷ [])) t)) acc s

-- ---- the run of a page

run_five : (ar s : List ℕ) → Five (read_run ar s)
unfolding read_run query
run_five ar s =
    many_five Queries queries_five (λ before t. query PageQuery ar t)
    (λ before t. many_five PageQuery page_query_five (subgoal ar) (subgoal_five ar) max_subgoals [] (drop 2 t)) max_queries [] s

abbrev five_of : JudgedRun → Type 0
five_of (faulty f at) = number f ≤ 5
five_of (queries qs) = Unit {0}

pub run_number : (ar s : List ℕ) (f : Fault) (at : ℕ) → judge_run ar s ≡ faulty f at → number f ≤ 5
unfolding judge_run
run_number ar s f at e = subst five_of e (go (read_run ar s) (run_five ar s))
  where
    go : (g : Got (List (List Call))) → Five g → five_of (judged_run s g)
    go (bad v k) p = p.five
    go (got qs t) p = tt
