-- No valid book is longer than 6,986 bytes, and none is shorter than 2: a record has a greatest length, and there are no more MO than predicates. Assumes
-- nothing.
use mathlib.Core.Path.{◌≡◌, refl, ap}
use mathlib.Core.Bool.{Bool, true, false, cond}
use mathlib.Core.List.{List, [], ◌∷◌, ◌++◌}
use Prim.Native.Nat.{ℕ, zero, suc, ◌+◌, ◌*◌, ◌≤◌, ◌<◌}
use native.Mathlib.Omega.{arith}
use native.Mathlib.Nat.{mul-suc}
use lib.ListN.{length, get_or, take, length-append}
use lib.Seq.{length-take-le}
use borrow.Author.Tests.{leb-true}
use Rattle.masks.specs.Limits.{max_arity, max_masks}
use Rattle.masks.specs.Lists.{all}
use Rattle.masks.proofs.Laws.Logic.{and_left, and_right}
use Rattle.book.specs.Limits.{longest, shortest, max_predicates, max_clauses, max_subgoals}
use Rattle.book.specs.Book.{Call, Mode, Clause, Book}
use Rattle.book.specs.Format.{spelling, allows, Judged, fault, book, judge}
use Rattle.book.specs.Encode.{run, enc_predicate, enc_mode, enc_subgoal, enc_clause, encode, call_fits, mode_fits, clause_fits, WellFormed}
use Rattle.book.specs.declared.fault.Fault.{Fault}
use Rattle.book.specs.declared.mark.Mark.TheVariants.{Sg, Ng}
use Rattle.book.specs.declared.range.Range.TheVariants.{AtMost}
use Rattle.book.proofs.Laws.Trip.{head_size, call_size, mode_few, clause_head, clause_few, clause_goals, rising, judge_inv}

-- ---- the length of records

-- records of at most k bytes each
run_length : {A : Type 0} (t : A → Bool) (f : A → List ℕ) (k : ℕ) → ((x : A) → t x ≡ true → length (f x) ≤ k)
    → (xs : List A) → all t xs ≡ true → length (run f xs) ≤ k * length xs
run_length t f k h [] e = omega arith
run_length t f k h (x ∷ xs) e =
    let a = h x (and_left (t x) (all t xs) e) in
    let b = run_length t f k h xs (and_right (t x) (all t xs) e) in
    let c = length-append (f x) (run f xs) in
    let d : k * suc (length xs) ≡ k * length xs + k = mul-suc k (length xs) in
    omega arith

pub arities_at : (ar : List ℕ) → all (allows (AtMost max_arity)) ar ≡ true → (i : ℕ) → get_or ar i 0 ≤ max_arity
unfolding allows
arities_at [] t i = omega arith
arities_at (x ∷ ar) t zero = leb-true _ _ (and_left (allows (AtMost max_arity) x) (all (allows (AtMost max_arity)) ar) t)
arities_at (x ∷ ar) t (suc i) = arities_at ar (and_right (allows (AtMost max_arity) x) (all (allows (AtMost max_arity)) ar) t) i

-- of either kind
pub subgoal_size : (c : Call) → length (enc_subgoal c) ≡ 3 + length c.args
subgoal_size c = go c.negated
  where
    go : (n : Bool) → length (cond n (spelling Ng ++ (c.pred ∷ c.args)) (spelling Sg ++ (c.pred ∷ c.args))) ≡ 3 + length c.args
    go true = omega arith
    go false = omega arith

module _ (ar : List ℕ) (arity : (i : ℕ) → get_or ar i 0 ≤ max_arity) where
  subgoal_length : (c : Call) → call_fits ar c ≡ true → length (enc_subgoal c) ≤ 9
  subgoal_length c t =
      let n = subgoal_size c in
      let a = call_size ar c t in
      let b = arity c.pred in
      omega arith

  clause_length : (c : Clause) → clause_fits ar c ≡ true → length (enc_clause c) ≤ 81
  clause_length c t =
      let a = head_size ar c.head (clause_head ar c t) in
      let b = arity c.head.pred in
      let d = run_length (call_fits ar) enc_subgoal 9 subgoal_length c.body (clause_goals ar c t) in
      let e = clause_few ar c t in
      let f = length-append c.head.args (run enc_subgoal c.body) in
      omega arith

mode_length : (ar : List ℕ) (m : Mode) → mode_fits ar m ≡ true → length (enc_mode m) ≤ 24
unfolding allows
mode_length ar m t = let a : length m.masks ≤ max_masks = leb-true _ _ (mode_few ar m t) in omega arith

-- ---- the book

pub encode_length : (b : Book) → WellFormed b → (shortest ≤ length (encode b)) × (length (encode b) ≤ longest)
unfolding encode
encode_length b w =
    let ar = b.arities in
    let ms = b.modes in
    let cs = b.clauses in
    let low = arities_at ar w.arities_fit in
    let p = run_length (allows (AtMost max_arity)) enc_predicate 3 (λ a t. omega arith) ar w.arities_fit in
    let m = run_length (mode_fits ar) enc_mode 24 (mode_length ar) ms w.modes_fit in
    let c = run_length (clause_fits ar) enc_clause 81 (clause_length ar low) cs w.clauses_fit in
    let q = run_length (call_fits ar) enc_subgoal 9 (subgoal_length ar low) b.query w.query_fits in
    let few : length ar ≤ max_predicates = leb-true _ _ w.few_predicates in
    let r = rising ar 0 ms (omega arith) w.modes_fit w.modes_rise in
    let owned : length cs ≤ max_clauses = leb-true _ _ w.few_clauses in
    let asked : length b.query ≤ max_subgoals = leb-true _ _ w.few_asked in
    let e1 = length-append (run enc_predicate ar) (run enc_mode ms ++ (run enc_clause cs ++ (81 ∷ 85 ∷ run enc_subgoal b.query))) in
    let e2 = length-append (run enc_mode ms) (run enc_clause cs ++ (81 ∷ 85 ∷ run enc_subgoal b.query)) in
    let e3 = length-append (run enc_clause cs) (81 ∷ 85 ∷ run enc_subgoal b.query) in
    (omega arith, omega arith)

-- W6: "The longest book grows to 6,986 bytes"; document 01: "the shortest 2"
pub judge_length : (s : List ℕ) (b : Book) → judge s ≡ book b → (shortest ≤ length s) × (length s ≤ longest)
judge_length s b e =
    let w = judge_inv s b e in
    let l = encode_length b w.1 in
    let z = ap length w.0 in
    (omega arith, omega arith)

-- "which always hold a fault": above 6,986 bytes, and of them the first 6,987
pub long_faulty : (s : List ℕ) → longest < length s → (f : Fault) × (k : ℕ) × (judge s ≡ fault f k)
long_faulty s h = go (judge s) refl
  where
    go : (j : Judged) → judge s ≡ j → (f : Fault) × (k : ℕ) × (judge s ≡ fault f k)
    go (fault f k) e = (f, k, e)
    go (book b) e = let l = judge_length s b e in absurd (omega arith)

pub cut_faulty : (s : List ℕ) → longest < length s → (f : Fault) × (k : ℕ) × (judge (take (suc longest) s) ≡ fault f k)
cut_faulty s h = long_faulty (take (suc longest) s) (let l : length (take (suc longest) s) ≡ suc longest = length-take-le (suc longest) s h in omega arith)
