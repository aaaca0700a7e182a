-- What a book that was read gives the rounds: its predicates, modes and clauses as they are lent. Assumes nothing.
use mathlib.Core.Path.{◌≡◌, sym, ap, ◌∙◌, subst}
use mathlib.Core.Bool.{true}
use mathlib.Core.List.{List}
use mathlib.Core.Option.{some}
use Prim.Native.Nat.{ℕ, ◌^◌, ◌≤◌, ◌<◌, min}
use native.Mathlib.Nat.{pow-le-pow_right}
use native.Mathlib.Omega.{arith}
use lib.ListN.{length, get_or}
use borrow.Author.Tests.{leb-true}
use Rattle.masks.specs.Limits.{all_patterns}
use Rattle.masks.specs.Set.{bit_at, Holds}
use Rattle.masks.proofs.Laws.Constraint.{in_range_mono}
use Rattle.book.specs.Limits.{max_predicates, max_clauses}
use Rattle.book.specs.Book.{Clause, Mode, Book}
use Rattle.book.specs.Encode.{WellFormed}
use Rattle.book.specs.Held.{clause_at, clauses_of, modes_of, masks_in, mode_bytes, book_in, book_of}
use Rattle.book.specs.Table.{table_in, LowModes}
use Rattle.book.specs.Sets.{callable, Owns, Known}
use Rattle.book.proofs.Laws.Held.{clauses_of_at, clauses_of_length}
use Rattle.tables.specs.Table.{mode_of, first_needs, start, defined}
use Rattle.tables.specs.Calls.{touched}
use Rattle.tables.proofs.Laws.Valid.{arity_low, masks_low, clause_own, clause_callable}
use Rattle.tables.proofs.Laws.Held.{mode_of_modes_of}
use Rattle.needs.specs.Sets.{some_in, Calling}
use Rattle.book.specs.declared.held.RuleBook.{RuleBook}
use Rattle.reading.specs.Judged.{BookHeld}
use Rattle.reading.proofs.Laws.Judged.{read_well}
use Rattle.needs.specs.Round.{Holding, Given, Held}
use Rattle.needs.proofs.Laws.Calls.{calling_touched}

-- ---- the clauses of a book in an array

module _ (B : Book) (rules : List ℕ) (clauses : ℕ) (is : B.clauses ≡ clauses_of rules clauses) where
  pub clauses_count : length B.clauses ≡ clauses
  clauses_count = ap length is ∙ clauses_of_length rules clauses

  pub clause_is : (d : Clause) (k : ℕ) → k < clauses → get_or B.clauses k d ≡ clause_at rules k
  clause_is d k h = ap (λ (cs : List Clause). get_or cs k d) is ∙ clauses_of_at rules d clauses k h

  pub known_clauses : WellFormed B → Known rules clauses
  known_clauses w =
      let n = clauses_count in
      let m = leb-true (length B.arities) max_predicates w.few_predicates in
      record {
        heads = λ k h.
            let l = subst (λ (c : Clause). c.head.pred < length B.arities) (clause_is (clause_at rules k) k h) (clause_own B w (clause_at rules k) k (omega arith)) in
            omega arith;
        bodies = λ k h. subst (λ (c : Clause). callable c.body ≡ true) (clause_is (clause_at rules k) k h) (clause_callable B w (clause_at rules k) k (omega arith));
      }

-- ---- a book as it is lent

module _ {B : Book} {preds : ℕ} {modes : List ℕ} {clauses : ℕ} {rules : List ℕ} (h : Held B preds modes clauses rules) where
  pub held_few : preds ≤ max_predicates
  held_few = let e = h.preds· in let l = leb-true (length B.arities) max_predicates h.well.few_predicates in omega arith

  held_count : length B.clauses ≡ clauses
  held_count = clauses_count B rules clauses h.clauses·

  pub held_known : Known rules clauses
  held_known = known_clauses B rules clauses h.clauses· h.well

  pub held_given : {own : List ℕ} → Owns rules clauses own → Given B rules own
  held_given {own} f =
      record {
        well = h.well;
        clauses· = ap (clauses_of rules) held_count ∙ sym h.clauses·;
        owns = subst (λ (n : ℕ). Owns rules n own) (sym held_count) f;
      }

  pub held_heads : (due : ℕ) → Holds due (defined (clauses_of rules clauses)) → Holds due (defined B.clauses)
  held_heads due f = subst (λ (cs : List Clause). Holds due (defined cs)) (sym h.clauses·) f

  pub held_calling : (callers : List ℕ) (changed due : ℕ) → Calling rules clauses callers
      → Holds due (λ p. some_in changed (λ q. bit_at (get_or callers q 0) p) max_predicates) → Holds due (touched (bit_at changed) B.clauses)
  held_calling callers changed due f g =
      subst (λ (cs : List Clause). Holds due (touched (bit_at changed) cs)) (sym h.clauses·)
      (calling_touched rules clauses callers changed due f held_known g)

  pub held_modes : LowModes modes
  held_modes p l e =
      let n : 2 ^ get_or B.arities p 0 ≤ all_patterns = pow-le-pow_right (omega arith) (arity_low B h.well p) in
      let m : mode_of B.modes p ≡ some (masks_in (mode_bytes modes p)) =
      ap (λ (ms : List Mode). mode_of ms p) h.modes· ∙ mode_of_modes_of modes p max_predicates l ∙ rw e in
      in_range_mono (2 ^ get_or B.arities p 0) all_patterns (masks_in (mode_bytes modes p)) n (masks_low B h.well p (masks_in (mode_bytes modes p)) m)

  pub held_start : (table : List ℕ) → table_in table preds ≡ first_needs (modes_of modes max_predicates) preds → table_in table (length B.arities) ≡ start B
  unfolding start
  held_start table e =
      ap (table_in table) h.preds· ∙ e ∙ ap (first_needs (modes_of modes max_predicates)) (sym h.preds·)
      ∙ ap (λ (ms : List Mode). first_needs ms (length B.arities)) (sym h.modes·)

-- ---- a book that was read

pub read_held : {s : List ℕ} {given : ℕ} {b : RuleBook} → BookHeld s given b → Holding (book_of b) b
unfolding book_in
read_held {b = b} r =
    record {
      well = read_well r;
      preds· = r.listed.each;
      modes· = λ i. modes_of b.modes max_predicates;
      few = r.few;
      clauses· = let e : min b.clauses max_clauses ≡ b.clauses = let f = r.few in omega arith in ap (clauses_of b.rules) e;
    }
