-- What the reader's answers stand for. Assumes nothing.
use Rattle.std.specs.Prelude.{◌≡◌, Bool, ◌||◌, List, ℕ, Result, Ok, Err}
use Rattle.std.specs.Borrow.{Bor}
use Rattle.book.specs.Format.{spelling, leads, Got, bad, got, on_turn, turn, mark_at}
use Rattle.book.specs.declared.mark.Mark.TheVariants.{Sg, Ng}
use Rattle.book.specs.declared.mark.Phase.{Phase}
use Rattle.records.specs.declared.fault.FaultFromEnd.{FaultFromEnd}

-- what was read, and the bytes left after it
abbrev pub value : ℕ × Bor (List ℕ) → ℕ
value v = v.0

abbrev pub rest : ℕ × Bor (List ℕ) → List ℕ
rest v = v.1.now

-- the bytes left alone
abbrev pub alone : Bor (List ℕ) → List ℕ
alone s = s.now

-- what an answer comes to: a fault and how many bytes are left from its place on, or the value that f makes of what was read and the bytes left after it
abbrev pub means : {V A : Type 0} → (V → List ℕ) → Result V FaultFromEnd → (V → A) → Got A
means left (Ok v) f = got (f v) (left v)
means left (Err e) f = bad e.fault e.left

pub record Reads {V A : Type 0} (left : V → List ℕ) (r : Result V FaultFromEnd) (f : V → A) (g : Got A) : Type 0 where
  pub is : means left r f ≡ g

-- a run that no further record of its own follows: its end, with the value a, or a fault
abbrev pub stops : {A : Type 0} → Phase → A → List ℕ → Got A
stops p a s = on_turn (turn p (mark_at s)) (got a s) a s

-- the end of the run p is judged, where none of its records follows
abbrev pub RunEnds : Phase → List ℕ → Result (Unit {0}) FaultFromEnd → Type 0
RunEnds p s r = Reads {A = ℕ} (λ u. s) r (λ u. 0) (stops p 0 s)

-- a subgoal begins here, of either kind
abbrev pub leads_subgoal : List ℕ → Bool
leads_subgoal s = leads (spelling Sg) s || leads (spelling Ng) s
