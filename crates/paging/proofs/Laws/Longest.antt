-- A page whose answer is as long as any: 256 times the query with eight subgoals of a predicate that asks for nothing. Assumes nothing.
use mathlib.Core.Path.{◌≡◌, refl}
use mathlib.Core.List.{List, [], ◌∷◌, ◌++◌}
use Prim.Native.Nat.{ℕ, zero, suc, ◌*◌}
use native.Mathlib.Omega.{arith}
use lib.ListN.{length, replicate, length-append}
use Rattle.masks.specs.Outcome.{done}
use Rattle.book.specs.Limits.{max_queries, longest_page}
use Rattle.book.specs.Book.{Call, no_call, Book}
use Rattle.book.specs.Format.{allows, book, judge}
use Rattle.book.specs.Encode.{PR, QU, run}
use Rattle.book.proofs.Laws.Examples.{compute}
use Rattle.choices.proofs.Laws.Examples.{compute_plan}
use Rattle.tables.specs.Table.{final}
use Rattle.paging.specs.Run.{enc_qu, FitRun}
use Rattle.paging.specs.Page.{answer, answers, paging}
use Rattle.paging.proofs.Laws.Run.{run_read}
use Rattle.paging.proofs.Laws.Page.{paging_queries}

-- one predicate without positions
abbrev small : Book
small = record { arities = 0 ∷ []; modes = []; clauses = []; query = [] }

small_valid : judge (PR (0 ∷ []) ++ QU) ≡ book small
unfolding compute
small_valid = refl

abbrev eight : List Call
eight = replicate 8 no_call

run_same : {A : Type 0} (f : A → List ℕ) (x : A) → length (f x) ≡ 12 → (n : ℕ) → length (run f (replicate n x)) ≡ 12 * n
run_same f x e zero = refl
run_same f x e (suc n) = let l = length-append (f x) (run f (replicate n x)) in let h = run_same f x e n in omega arith

answer_eight : length (answer (final small) eight) ≡ 12
unfolding compute_plan answer
answer_eight = refl

fits : FitRun small.arities (replicate max_queries eight)
unfolding allows
fits = record { few = refl; each = refl }

pub longest_page_lem : (s r bytes : List ℕ) × (paging s r ≡ done 0 bytes) × (length bytes ≡ longest_page)
unfolding answers
longest_page_lem = (
  PR (0 ∷ []) ++ QU,
  run enc_qu (replicate max_queries eight),
  answers (final small) (replicate max_queries eight),
  paging_queries (PR (0 ∷ []) ++ QU) small small_valid (run enc_qu (replicate max_queries eight)) (replicate max_queries eight)
      (run_read small.arities (replicate max_queries eight) fits),
  run_same (answer (final small)) eight answer_eight max_queries,
)
