-- Pages computed from the definitions. Assumes nothing.
use mathlib.Core.Path.{◌≡◌, refl}
use mathlib.Core.Bool.{true, false}
use mathlib.Core.List.{List, [], ◌∷◌, ◌++◌}
use Prim.Native.Nat.{ℕ}
use lib.ListN.{replicate}
use Rattle.masks.specs.Outcome.{refused, done}
use Rattle.book.specs.Book.{Call}
use Rattle.book.specs.Encode.{QU, SG, NG, CL, run}
use Rattle.book.specs.declared.fault.Fault.TheVariants.{PastEnd, NoMark, OutOfTurn, OutOfRange, TooMany}
use Rattle.book.proofs.Laws.Examples.{compute, k1_book}
use Rattle.choices.proofs.Laws.Examples.{compute_plan}
use Rattle.paging.specs.Run.{read_run, judge_run, faulty, queries}
use Rattle.paging.specs.Page.{answer, accepts, answers, paged, verdicts_of}

-- a subgoal of one argument
abbrev goal : ℕ → ℕ → Call
goal p x = record { negated = false; pred = p; args = x ∷ [] }

-- the arities of document 01's book
abbrev ar : List ℕ
ar = 1 ∷ 2 ∷ 1 ∷ 1 ∷ []

-- ---- a run: "a run of `QU` records with their subgoals", each by itself

pub run_reads : judge_run ar (QU ++ SG (2 ∷ 0 ∷ []) ++ QU ++ SG (3 ∷ 255 ∷ []) ++ NG (3 ∷ 255 ∷ []) ++ QU)
    ≡ queries ((goal 2 0 ∷ []) ∷ (goal 3 255 ∷ record { negated = true; pred = 3; args = 255 ∷ [] } ∷ []) ∷ [] ∷ [])
unfolding compute read_run judge_run
run_reads = refl

-- "An empty run"
pub run_empty : judge_run ar [] ≡ queries []
unfolding compute read_run judge_run
run_empty = refl

-- "by the book's rules, .. and places counted in the run": a subgoal before any query, a book's record, no mark, half of one, a byte out of range, one that
-- is not there
pub run_faults : judge_run ar (SG (2 ∷ 0 ∷ []) ++ QU) ∷ judge_run ar (QU ++ CL (2 ∷ 0 ∷ [])) ∷ judge_run ar (QU ++ (88 ∷ 88 ∷ [])) ∷ judge_run ar (QU ++ (81 ∷ []))
    ∷ judge_run ar (QU ++ QU ++ SG (2 ∷ 16 ∷ [])) ∷ judge_run ar (QU ++ SG (2 ∷ [])) ∷ []
    ≡ faulty OutOfTurn 0 ∷ faulty OutOfTurn 2 ∷ faulty NoMark 2 ∷ faulty PastEnd 3 ∷ faulty OutOfRange 7 ∷ faulty PastEnd 5 ∷ []
unfolding compute read_run judge_run
run_faults = refl

-- "with 5 for a 257th query", at its mark
pub run_257 : judge_run [] (run (λ (k : ℕ). QU) (replicate 257 0)) ≡ faulty TooMany 512
unfolding compute read_run judge_run
run_257 = refl

-- ---- "For each comes a byte 0 or 7 and, after 0, its `QO` record": of document 01's book, fault(H), which asks for what it is not given, low(255) and none

pub page_k1 : paged k1_book (queries ((goal 2 0 ∷ []) ∷ (goal 3 255 ∷ []) ∷ [] ∷ [])) ≡ done 0 (7 ∷ 0 ∷ 81 ∷ 79 ∷ 1 ∷ 0 ∷ 0 ∷ 81 ∷ 79 ∷ 0 ∷ [])
unfolding compute_plan answer answers
page_k1 = refl

pub verdicts_k1 : verdicts_of k1_book (queries ((goal 2 0 ∷ []) ∷ (goal 3 255 ∷ []) ∷ [] ∷ [])) ≡ false ∷ true ∷ true ∷ []
unfolding compute_plan accepts
verdicts_k1 = refl

pub page_fault : paged k1_book (faulty OutOfRange 7) ≡ refused 4 7
unfolding compute k1_book
page_fault = refl
