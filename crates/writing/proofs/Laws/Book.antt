-- The bytes of a book, part after part. Assumes nothing.
use mathlib.Core.Path.{◌≡◌, refl, sym, ap, ◌∙◌}
use mathlib.Core.List.{List, ◌++◌}
use Prim.Native.Nat.{ℕ, ◌+◌, ◌*◌, min}
use native.Mathlib.Omega.{arith}
use lib.ListN.{length, take, length-append}
use Rattle.book.specs.Limits.{max_predicates, max_clauses}
use Rattle.book.specs.Format.{spelling}
use Rattle.book.specs.Encode.{run, enc_subgoal, encode}
use Rattle.book.specs.Held.{clause_at, book_in}
use Rattle.book.specs.declared.mark.Mark.TheVariants.{Qu}
use Rattle.writing.specs.Wrote.{Room, Wrote}
use Rattle.writing.proofs.Laws.Wrote.{wrote_as, wrote_append, room_first, room_second}
use Rattle.writing.proofs.Laws.Runs.{predicates_length, predicates_to, modes_to, clauses_to}

-- ---- from its query on, from its clauses on, and from its modes on

abbrev pub asked : List ℕ → List ℕ
asked rules = run enc_subgoal (clause_at rules max_clauses).body

abbrev from_query : List ℕ → List ℕ
from_query rules = spelling Qu ++ asked rules

abbrev from_clauses : ℕ → List ℕ → List ℕ
from_clauses clauses rules = clauses_to rules (min clauses max_clauses) ++ from_query rules

abbrev from_modes : List ℕ → ℕ → List ℕ → List ℕ
from_modes modes clauses rules = modes_to modes max_predicates ++ from_clauses clauses rules

-- ---- all of it

module _ (preds : ℕ) (arities modes : List ℕ) (clauses : ℕ) (rules : List ℕ) where
  abbrev book_bytes : List ℕ
  book_bytes = encode (book_in preds arities modes clauses rules)

  book_parts : book_bytes ≡ predicates_to arities preds ++ from_modes modes clauses rules
  unfolding encode book_in
  book_parts = refl

  book_sum : length book_bytes ≡ length (predicates_to arities preds) + length (from_modes modes clauses rules)
  book_sum = ap length book_parts ∙ length-append (predicates_to arities preds) (from_modes modes clauses rules)

  pub book_length_lem : length book_bytes
      ≡ 3 * length (take preds arities) + length (modes_to modes max_predicates) + length (clauses_to rules (min clauses max_clauses)) + 2 + length (asked rules)
  book_length_lem =
      let p = predicates_length (take preds arities) in
      let a = book_sum in
      let b = length-append (modes_to modes max_predicates) (from_clauses clauses rules) in
      let c = length-append (clauses_to rules (min clauses max_clauses)) (from_query rules) in
      omega arith

  -- where there is room for the book, there is for each part in its turn, and the parts are the book
  module _ (out : List ℕ) (r : Room out 0 book_bytes) where
    pub room_predicates : Room out 0 (predicates_to arities preds)
    room_predicates = let e = book_sum in omega arith

    module _ {out₁ : List ℕ} {a : ℕ} (p : Wrote out out₁ 0 a (predicates_to arities preds)) where
      at_modes : Room out₁ a (from_modes modes clauses rules)
      at_modes = room_second (from_modes modes clauses rules) p (rw book_parts at r)

      pub room_modes : Room out₁ a (modes_to modes max_predicates)
      room_modes = room_first out₁ a (modes_to modes max_predicates) (from_clauses clauses rules) at_modes

      module _ {out₂ : List ℕ} {b : ℕ} (m : Wrote out₁ out₂ a b (modes_to modes max_predicates)) where
        at_clauses : Room out₂ b (from_clauses clauses rules)
        at_clauses = room_second (from_clauses clauses rules) m at_modes

        pub room_clauses : Room out₂ b (clauses_to rules (min clauses max_clauses))
        room_clauses = room_first out₂ b (clauses_to rules (min clauses max_clauses)) (from_query rules) at_clauses

        module _ {out₃ : List ℕ} {c : ℕ} (k : Wrote out₂ out₃ b c (clauses_to rules (min clauses max_clauses))) where
          at_query : Room out₃ c (from_query rules)
          at_query = room_second (from_query rules) k at_clauses

          pub room_mark : Room out₃ c (spelling Qu)
          room_mark = room_first out₃ c (spelling Qu) (asked rules) at_query

          module _ {out₄ : List ℕ} {d : ℕ} (q : Wrote out₃ out₄ c d (spelling Qu)) where
            pub room_query : Room out₄ d (asked rules)
            room_query = room_second (asked rules) q at_query

            pub wrote_book : {out₅ : List ℕ} {e : ℕ} → Wrote out₄ out₅ d e (asked rules) → Wrote out out₅ 0 e book_bytes
            wrote_book s =
                wrote_as (sym book_parts) (wrote_append p (wrote_append m (wrote_append k (wrote_append q s))))
