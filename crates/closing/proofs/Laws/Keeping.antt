-- Dropping the clauses of chosen predicates, one clause at a time: those that stay stand from the start on, and the clauses still ahead are as they
-- were. Assumes nothing.
use mathlib.Core.Path.{◌≡◌, refl, sym, ap, ◌∙◌}
use mathlib.Core.Bool.{Bool, true, false, cond}
use mathlib.Core.List.{List, [], ◌∷◌, ◌++◌, append-nil}
use Prim.Native.Nat.{ℕ, ◌+◌, ◌≤◌, ◌<◌}
use native.Mathlib.Numerals.{add-one}
use native.Mathlib.Omega.{arith}
use Rattle.book.specs.Limits.{max_predicates, max_clauses}
use Rattle.book.specs.Book.{Clause}
use Rattle.book.specs.Held.{clause_at, clauses_of, StoredClause}
use Rattle.book.specs.Sets.{Known}
use Rattle.closing.specs.Close.{kept_clauses}
use Rattle.closing.specs.Held.{ClausesKept}
use Rattle.book.proofs.Laws.Held.{clauses_of_stored}
use Rattle.book.proofs.Laws.Sets.{head_low}

-- one clause more
pub kept_snoc : (chosen : ℕ → Bool) (cs : List Clause) (c : Clause)
    → kept_clauses chosen (cs ++ (c ∷ [])) ≡ kept_clauses chosen cs ++ cond (chosen c.head.pred) [] (c ∷ [])
unfolding kept_clauses
kept_snoc chosen [] c = refl
kept_snoc chosen (d ∷ cs) c = go (chosen d.head.pred) (kept_clauses chosen cs) (cond (chosen c.head.pred) [] (c ∷ [])) (kept_snoc chosen cs c)
  where
    go : (b : Bool) (ys zs : List Clause) {xs : List Clause} → xs ≡ ys ++ zs → cond b xs (d ∷ xs) ≡ cond b ys (d ∷ ys) ++ zs
    go true ys zs r = r
    go false ys zs r = ap {B = List Clause} (λ (t : List Clause). d ∷ t) r

-- the loop: of the first k clauses those that stay are now the first n
pub record Keeping (chosen : ℕ → Bool) (rules : List ℕ) (clauses k n : ℕ) (now : List ℕ) : Type 0 where
  pub most : k ≤ clauses
  pub few : n ≤ k
  pub is : clauses_of now n ≡ kept_clauses chosen (clauses_of rules k)
  pub ahead : (i : ℕ) → k ≤ i → clause_at now i ≡ clause_at rules i

pub keeping_start : (chosen : ℕ → Bool) (rules : List ℕ) (clauses : ℕ) → Keeping chosen rules clauses 0 0 rules
unfolding clauses_of kept_clauses
keeping_start chosen rules clauses = record { most = omega arith; few = omega arith; is = refl; ahead = λ i h. refl }

module _ {chosen : ℕ → Bool} {rules : List ℕ} {clauses k n : ℕ} {now : List ℕ} (m : Keeping chosen rules clauses k n now) where
  -- a turn: clause k is still the one that it was, and it is of predicate p
  module _ (h : k < clauses) {p : ℕ} (q : p ≡ (clause_at now k).head.pred) where
    abbrev here : clause_at now k ≡ clause_at rules k
    here = m.ahead k (omega arith)

    pub keeping_low : Known rules clauses → p < max_predicates
    keeping_low known = head_low k p known h (q ∙ ap (λ (c : Clause). c.head.pred) here)

    more : {b : Bool} → chosen p ≡ b → clauses_of now n ++ cond b [] (clause_at now k ∷ []) ≡ kept_clauses chosen (clauses_of rules (k + 1))
    unfolding clauses_of
    more e = rw (add-one, sym e, q, m.is, here) (sym (kept_snoc chosen (clauses_of rules k) (clause_at rules k)))

    -- it goes
    pub keeping_drop : chosen p ≡ true → Keeping chosen rules clauses (k + 1) n now
    keeping_drop e =
        let f = m.few in
        record { most = omega arith; few = omega arith; is = sym (append-nil (clauses_of now n)) ∙ more e; ahead = λ i l. m.ahead i (omega arith) }

    -- it stays, and is stored as clause n
    pub keeping_move : {after : List ℕ} → chosen p ≡ false → StoredClause now after n (clause_at now k)
        → Keeping chosen rules clauses (k + 1) (n + 1) after
    keeping_move e s =
        let f = m.few in
        record {
          most = omega arith;
          few = omega arith;
          is = clauses_of_stored s ∙ more e;
          ahead = λ i l. s.others i (λ z. omega arith) ∙ m.ahead i (omega arith);
        }

  pub keeping_end : clauses ≤ max_clauses → clauses ≤ k → ClausesKept chosen rules clauses now n
  keeping_end l h =
      let a = m.most in
      let f = m.few in
      let e : k ≡ clauses = omega arith in
      record { few = omega arith; is = m.is ∙ ap (λ (j : ℕ). kept_clauses chosen (clauses_of rules j)) e; query = m.ahead max_clauses (omega arith) }
