-- The bytes of a run of records, and how the runs of a book come in chunks: record by record, or a chunk for each member of a set. Assumes nothing.
use mathlib.Core.Path.{◌≡◌, refl, sym, ap, ap₂, ◌∙◌}
use mathlib.Core.Bool.{Bool, true, false, cond}
use mathlib.Core.List.{List, [], ◌∷◌, ◌++◌, append-nil}
use Prim.Native.Nat.{ℕ, zero, suc, ◌+◌, ◌*◌, ◌≤◌, min}
use native.Mathlib.Omega.{arith}
use native.Mathlib.Numerals.{add-one}
use lib.ListN.{length, get_or, take, drop, length-append, length-take, length-drop}
use lib.Seq.{take-suc, take-length, get_or-append_seam}
use Rattle.masks.specs.Limits.{max_masks}
use Rattle.masks.specs.Lists.{below, joined}
use Rattle.masks.specs.Set.{bit_at, members}
use Rattle.masks.proofs.Laws.Lists.{joined_cong}
use Rattle.masks.proofs.Laws.Loops.{Passed}
use Rattle.book.specs.Limits.{max_predicates}
use Rattle.book.specs.Book.{Call, no_call, Clause}
use Rattle.book.specs.Encode.{run, enc_predicate, enc_mode, enc_subgoal, enc_clause}
use Rattle.book.specs.Held.{mode_size, has_in, masks_in, mode_bytes, HaveMode, mode_at, modes_of, clause_at, clauses_of}
use Rattle.book.proofs.Laws.Encode.{run_append, run_joined}
use Rattle.book.proofs.Laws.Held.{modes_of_joined}
use Rattle.writing.proofs.Laws.Wrote.{front}
use Rattle.writing.proofs.Laws.Chunks.{Chunks}

pub run_snoc : {A : Type 0} (f : A → List ℕ) (xs : List A) (x : A) → run f (xs ++ (x ∷ [])) ≡ run f xs ++ f x
run_snoc f xs x = run_append f xs (x ∷ []) ∙ ap (λ (l : List ℕ). run f xs ++ l) (append-nil (f x))

-- ---- how long records are

pub predicates_length : (l : List ℕ) → length (run enc_predicate l) ≡ 3 * length l
predicates_length [] = refl
predicates_length (x ∷ l) = let e = predicates_length l in omega arith

pub clause_length : (c : Clause) → length (enc_clause c) ≡ 3 + length c.head.args + length (run enc_subgoal c.body)
clause_length c = let e = length-append c.head.args (run enc_subgoal c.body) in omega arith

-- ---- what is written record by record: the bytes of the first i records, and of record i

module _ (b : List ℕ) where
  abbrev pub bytes_to : ℕ → List ℕ
  bytes_to i = take i b

  abbrev pub byte_at : ℕ → List ℕ
  byte_at i = get_or b i 0 ∷ []

  pub bytes_chunks : {n : ℕ} → n ≡ length b → Chunks n bytes_to byte_at b
  bytes_chunks e = record { none = refl; next = λ i h. rw add-one (take-suc b i 0 (omega arith)); whole = ap bytes_to e ∙ take-length b }

-- the first k elements of a list
elements_chunks : {A : Type 0} (one : A → List ℕ) (l : List A) (d : A) {k : ℕ} {bytes : List ℕ} → k ≤ length l → run one (take k l) ≡ bytes
    → Chunks k (λ i. run one (take i l)) (λ i. one (get_or l i d)) bytes
elements_chunks one l d h w =
    record { none = refl; next = λ i q. rw (add-one, take-suc l i d (omega arith)) (run_snoc one (take i l) (get_or l i d)); whole = w }

module _ (arities : List ℕ) where
  abbrev pub predicates_to : ℕ → List ℕ
  predicates_to i = run enc_predicate (take i arities)

  abbrev pub predicate_at : ℕ → List ℕ
  predicate_at i = enc_predicate (get_or arities i 0)

-- as many predicates of an array as there are places for; n may be above that
pub predicates_chunks : (arities : List ℕ) (n : ℕ) {k : ℕ} → length arities ≡ max_predicates → k ≡ min n max_predicates
    → Chunks (length (take k arities)) (predicates_to (take k arities)) (predicate_at (take k arities)) (predicates_to arities n)
predicates_chunks arities n {k} e h =
    let z : k ≡ length (take n arities) = omega (arith, length-take n arities) in
    elements_chunks enc_predicate (take k arities) 0 (omega arith)
    (ap (run enc_predicate) (take-length (take k arities) ∙ (front n arities z).is))

module _ (body : List Call) where
  abbrev pub subgoals_to : ℕ → List ℕ
  subgoals_to i = run enc_subgoal (take i body)

  abbrev pub call_at : ℕ → Call
  call_at i = get_or body i no_call

  abbrev pub subgoal_at : ℕ → List ℕ
  subgoal_at i = enc_subgoal (call_at i)

  pub subgoals_chunks : {n : ℕ} → n ≡ length body → Chunks n subgoals_to subgoal_at (run enc_subgoal body)
  subgoals_chunks e = elements_chunks enc_subgoal body no_call (omega arith) (ap subgoals_to e ∙ ap (run enc_subgoal) (take-length body))

module _ (rules : List ℕ) where
  abbrev pub clauses_to : ℕ → List ℕ
  clauses_to i = run enc_clause (clauses_of rules i)

  abbrev pub clause_bytes_at : ℕ → List ℕ
  clause_bytes_at i = enc_clause (clause_at rules i)

  pub clauses_chunks : (n : ℕ) {k : ℕ} → k ≡ n → Chunks k clauses_to clause_bytes_at (clauses_to n)
  unfolding clauses_of
  clauses_chunks n e =
      record {
        none = refl;
        next = λ i h. rw add-one (run_snoc enc_clause (clauses_of rules i) (clause_at rules i));
        whole = ap clauses_to e;
      }

-- ---- the modes: a chunk for each predicate of the set of those that have MO

-- f of each number below n that p tells, one after the other
run_below : (f : ℕ → List ℕ) (p : ℕ → Bool) (n : ℕ) → joined (λ k. cond (p k) (f k) []) n ≡ run f (below p n)
run_below f p zero = refl
run_below f p (suc n) =
    ap₂ ◌++◌ (run_below f p n) (one (p n)) ∙ sym (run_append f (below p n) (cond (p n) (n ∷ []) []))
  where
    one : (b : Bool) → cond b (f n) [] ≡ run f (cond b (n ∷ []) [])
    one true = sym (append-nil (f n))
    one false = refl

-- the member that a loop over a set has come to
pub member_here : {word m : ℕ} {passed left others : List ℕ} → Passed word passed left → left ≡ m ∷ others → get_or (members word) (length passed) 0 ≡ m
member_here {m = m} {passed} {others = others} g e =
    ap (λ (l : List ℕ). get_or l (length passed) 0) (g.all ∙ ap (λ (l : List ℕ). passed ++ l) e) ∙ get_or-append_seam passed m others 0

module _ (modes : List ℕ) where
  abbrev pub modes_to : ℕ → List ℕ
  modes_to n = run enc_mode (modes_of modes n)

  -- the MO of predicate p, where it has one
  abbrev pub mode_bytes_at : ℕ → List ℕ
  mode_bytes_at p = enc_mode (record { pred = p; masks = masks_in (mode_bytes modes p) })

  module _ (given : ℕ) where
    abbrev pub members_to : ℕ → List ℕ
    members_to i = run mode_bytes_at (take i (members given))

    abbrev pub member_at : ℕ → List ℕ
    member_at i = mode_bytes_at (get_or (members given) i 0)

    modes_members : HaveMode modes given → run mode_bytes_at (members given) ≡ modes_to max_predicates
    unfolding mode_at members
    modes_members have =
        sym (ap (run enc_mode) (modes_of_joined modes max_predicates)
        ∙ run_joined enc_mode (mode_at modes) max_predicates
        ∙ joined_cong (λ p. run enc_mode (mode_at modes p)) (λ p. cond (bit_at given p) (mode_bytes_at p) []) max_predicates (λ p h. one p (have p h))
        ∙ run_below mode_bytes_at (bit_at given) max_predicates)
      where
        alone : (p : ℕ) (b : Bool) → run enc_mode (cond b (record { pred = p; masks = masks_in (mode_bytes modes p) } ∷ []) []) ≡ cond b (mode_bytes_at p) []
        alone p true = append-nil (mode_bytes_at p)
        alone p false = refl

        one : (p : ℕ) → bit_at given p ≡ has_in (mode_bytes modes p) → run enc_mode (mode_at modes p) ≡ cond (bit_at given p) (mode_bytes_at p) []
        one p e = rw e (alone p (has_in (mode_bytes modes p)))

    pub modes_chunks : HaveMode modes given → Chunks (length (members given)) members_to member_at (modes_to max_predicates)
    modes_chunks have =
        elements_chunks mode_bytes_at (members given) 0 (omega arith) (ap (run mode_bytes_at) (take-length (members given)) ∙ modes_members have)

  pub mode_few : (p : ℕ) {masks : List ℕ} → masks ≡ masks_in (mode_bytes modes p) → length masks ≤ max_masks
  mode_few p e =
      let b = mode_bytes modes p in
      let z = ap length e in
      let f = length-take (get_or b 1 0) (drop 2 b) in
      let g = length-drop 2 b in
      let h = length-take mode_size (drop (p * mode_size) modes) in
      omega arith
