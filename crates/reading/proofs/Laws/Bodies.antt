-- The loop over subgoals, in a clause or in the query: their words stand one after the other in the rules, whichever of the two runs they are in; and
-- what the words of a clause say once they are stored. Assumes nothing.
use mathlib.Core.Path.{◌≡◌, refl, sym, ap, ap₂, ◌∙◌}
use mathlib.Core.Bool.{Bool, true, false}
use mathlib.Core.Logic.{⊎_elim}
use mathlib.Core.List.{List, [], ◌∷◌, ◌++◌, map, map-append, append_assoc}
use Prim.Native.Nat.{ℕ, zero, suc, ◌+◌, ◌-◌, ◌*◌, min, ◌≤◌, ◌<◌}
use native.Mathlib.Omega.{arith}
use lib.ListN.{length, get_or, drop, set, length-append, length-set, length-map, get_or-map}
use lib.Seq.{drop-append_seam, sets, length-sets, get_or-set_same, get_or-set_other, ext_get_or}
use Rattle.masks.specs.Lists.{values}
use Rattle.masks.proofs.Laws.Logic.{by_range, clash, false_of, or_left, or_right, or_case}
use Rattle.masks.proofs.Laws.Lists.{length_values, values_cong, get_or_values}
use Rattle.book.specs.Limits.{max_clauses, max_subgoals}
use Rattle.book.specs.Book.{Head, Call}
use Rattle.book.specs.Format.{spelling, leads, turn, Bodied, mark_at, many, subgoal}
use Rattle.book.specs.Encode.{enc_subgoal}
use Rattle.book.specs.Held.{head_in, call_in, clause_size, rules_size, clause_at, StoredClause}
use Rattle.std.specs.Prelude.{Result, Ok, Err}
use Rattle.std.specs.Borrow.{Bor}
use Rattle.book.specs.declared.fault.Fault.TheVariants.{TooMany}
use Rattle.book.specs.declared.mark.Mark.{Mark}
use Rattle.book.specs.declared.mark.Mark.TheVariants.{Sg, Ng}
use Rattle.book.specs.declared.mark.Phase.{Phase}
use Rattle.book.specs.declared.mark.Phase.TheVariants.{Body}
use Rattle.book.specs.declared.mark.Turn.TheVariants.{Mine}
use Rattle.book.proofs.Laws.Marks.{in_body, unled}
use Rattle.book.proofs.Laws.Trip.{own_inv}
use Rattle.records.specs.declared.fault.FaultFromEnd.{FaultFromEnd}
use Rattle.records.specs.Read.{RunEnds, value, rest, alone, Reads, stops, leads_subgoal}
use Rattle.records.proofs.Laws.Reads.{err_ok, reads_ok}
use Rattle.records.proofs.Laws.Stores.{sets_last}
use Rattle.reading.specs.Stored.{onward, ReadsBody}
use Rattle.reading.proofs.Laws.Runs.{Going, mine, stops_reads, going_start, going_full, going_bad, going_next, going_stops}

-- ---- a run of subgoals

-- a mark of either kind leads the bytes, or none does
module _ (p : Phase) (b : Bodied p) (s : List ℕ) where
  subgoal_here : leads_subgoal s ≡ true → turn p (mark_at s) ≡ Mine
  subgoal_here t = or_case (leads (spelling Sg) s) (leads (spelling Ng) s) t (mine p Sg s b.positive) (mine p Ng s b.negated)

  no_subgoal_here : leads_subgoal s ≡ false → turn p (mark_at s) ≡ Mine → ⊥
  no_subgoal_here t =
      let led : Mark → Bool = λ (j : Mark). leads (spelling j) s in
      unled p s
      (λ m e.
      ⊎_elim (λ d. ap led d ∙ false_of (λ h. clash (or_left (led Sg) (led Ng) h) t)) (λ d. ap led d ∙ false_of (λ h. clash (or_right (led Sg) h) t)) (b.sole m e))

-- ---- the loop

-- so far the n words were read, and are stored, and these bytes are behind
pub record Bodying (ar whole : List ℕ) (n : ℕ) (left : List ℕ) (base : ℕ) (before now : List ℕ) : Type 0 where
  pub words : List ℕ
  pub going : (p : Phase) → Bodied p → Going p (subgoal ar) max_subgoals whole n left (map call_in words)
  pub stored : now ≡ sets before (base + 2) words
  pub behind : List ℕ
  pub from : whole ≡ behind ++ left

-- what stands behind some bytes, by how long it is
end_of : (a s : List ℕ) {whole : List ℕ} → whole ≡ a ++ s → s ≡ drop (length whole - length s) whole
end_of a s {whole} e =
    let n : length whole ≡ length a + length s = ap length e ∙ length-append a s in
    let k : length whole - length s ≡ length a = omega arith in
    sym (ap (λ (i : ℕ). drop i whole) k ∙ ap (drop (length a)) e ∙ drop-append_seam a s)

module _ (ar whole : List ℕ) (k : ℕ) (before : List ℕ) where
  pub bodying_start : Bodying ar whole 0 whole (k * clause_size) before before
  bodying_start =
      record { words = []; going = λ p b. going_start p (subgoal ar) max_subgoals whole; stored = refl; behind = []; from = refl }

  module _ {n : ℕ} {s now : List ℕ} (l : Bodying ar whole n s (k * clause_size) before now) where
    pub bodying_few : n ≤ max_subgoals
    bodying_few = (l.going Body in_body).turns

    count : length l.words ≡ n
    count = sym (length-map l.words call_in) ∙ (l.going Body in_body).size

    -- a fault, of the run or of a subgoal
    faulty : {e : FaultFromEnd} → ((p : Phase) → Bodied p → Reads alone (Err e) (λ j. map call_in l.words) (many p (subgoal ar) max_subgoals [] whole))
        → ReadsBody ar whole k (Err e) before now
    faulty {e} w =
        record {
          words = l.words;
          few = let c = count in let t = bodying_few in omega arith;
          inside = λ a d. err_ok refl d;
          reads = λ p b. (w p b).is;
          stored = λ a d. err_ok refl d;
        }

    module _ (t : leads_subgoal s ≡ true) where
      pub bodying_full : max_subgoals ≤ n → ReadsBody ar whole k (Err (record { fault = TooMany; left = length s })) before now
      bodying_full h = faulty (λ p b. going_full p (subgoal ar) max_subgoals whole (l.going p b) (subgoal_here p b s t) h)

      module _ (h : n < max_subgoals) {g : Result (ℕ × Bor (List ℕ)) FaultFromEnd} (r : Reads rest g (λ v. call_in (value v)) (subgoal ar [] s)) where
        pub bodying_bad : {e : FaultFromEnd} → g ≡ Err e → ReadsBody ar whole k (Err e) before now
        unfolding subgoal
        bodying_bad e = faulty (λ p b. going_bad p (subgoal ar) max_subgoals whole (l.going p b) (subgoal_here p b s t) h r e)

        pub bodying_next : {v : ℕ × Bor (List ℕ)} → g ≡ Ok v → {after : List ℕ} → after ≡ set now (k * clause_size + 2 + n) (value v)
            → Bodying ar whole (n + 1) (rest v) (k * clause_size) before after
        unfolding subgoal
        bodying_next {v} e d =
            record {
              words = l.words ++ (value v ∷ []);
              going =
                  λ p b.
                  going_next p (subgoal ar) max_subgoals whole (l.going p b) (subgoal_here p b s t) h r e
                  (map-append call_in l.words (value v ∷ []));
              stored =
                  d
                  ∙ ap (λ (x : List ℕ). set x (k * clause_size + 2 + n) (value v)) l.stored
                  ∙ sets_last before (k * clause_size + 2) n l.words (value v) count;
              behind = l.behind ++ enc_subgoal (call_in (value v));
              from =
                  l.from
                  ∙ ap (λ (x : List ℕ). l.behind ++ x)
                  (own_inv Body in_body ar [] s (call_in (value v)) (rest v) (subgoal_here Body in_body s t) (sym (reads_ok r e))).0
                  ∙ sym (append_assoc l.behind (enc_subgoal (call_in (value v))) (rest v));
            }

    pub bodying_end : leads_subgoal s ≡ false → {b : Bor (List ℕ)} → b.now ≡ s → {after : List ℕ} → after ≡ set now (k * clause_size) n
        → ReadsBody ar whole k (Ok b) before after
    bodying_end t {b} z d =
        record {
          words = l.words;
          few = let c = count in let u = bodying_few in omega arith;
          inside = λ a e. rw (same a e, z) (end_of l.behind s l.from);
          reads =
              λ p i.
              ap (stops p (map call_in l.words)) z ∙ going_stops p (subgoal ar) max_subgoals whole (l.going p i) (no_subgoal_here p i s t);
          stored =
              λ a e.
              d ∙ ap₂ (λ (x : List ℕ) (y : ℕ). set x (k * clause_size) y) l.stored (sym count);
        }
      where
        same : (a : Bor (List ℕ)) → ◌≡◌ {A = Result (Bor (List ℕ)) FaultFromEnd} (Ok b) (Ok a) → a ≡ b
        same a e = cc

-- ---- what was read, once its end is judged

module _ {ar s : List ℕ} {k : ℕ} {g : Result (Bor (List ℕ)) FaultFromEnd} {before after : List ℕ} (w : ReadsBody ar s k g before after) (p : Phase) (b : Bodied p) where
  pub body_bad : {W : Type 0} {then : W → List ℕ} {f : W → List Call} {e : FaultFromEnd} → g ≡ Err e → Reads then (Err e) f (many p (subgoal ar) max_subgoals [] s)
  body_bad e = record { is = ap (λ (h : Result (Bor (List ℕ)) FaultFromEnd). onward p h (map call_in w.words)) (sym e) ∙ w.reads p b }

  pub body_next : {t : Bor (List ℕ)} → g ≡ Ok t → {r : Result (Unit {0}) FaultFromEnd} → RunEnds p t.now r
      → Reads (λ u. t.now) r (λ u. map call_in w.words) (many p (subgoal ar) max_subgoals [] s)
  body_next {t} e v =
      let u = stops_reads p t.now (map call_in w.words) v in
      record { is = u.is ∙ ap (λ (h : Result (Bor (List ℕ)) FaultFromEnd). onward p h (map call_in w.words)) (sym e) ∙ w.reads p b }

-- ---- the words of a clause

get_or_sets_out : (l : List ℕ) (at : ℕ) (xs : List ℕ) (q : ℕ) → (at ≤ q → at + length xs ≤ q) → get_or (sets l at xs) q 0 ≡ get_or l q 0
get_or_sets_out l at [] q h = refl
get_or_sets_out l at (x ∷ xs) q h =
    get_or_sets_out (set l at x) (suc at) xs q (λ i. let j = h (omega arith) in omega arith)
    ∙ get_or-set_other l at q x 0 (λ e. let j = h (omega arith) in omega arith)

get_or_sets_in : (l : List ℕ) (at : ℕ) (xs : List ℕ) (j : ℕ) → at + length xs ≤ length l → j < length xs → get_or (sets l at xs) (at + j) 0 ≡ get_or xs j 0
get_or_sets_in l at [] j r h = absurd (omega arith)
get_or_sets_in l at (x ∷ xs) zero r h =
    let e : at + 0 ≡ at = omega arith in
    ap (λ (i : ℕ). get_or (sets (set l at x) (suc at) xs) i 0) e
    ∙ get_or_sets_out (set l at x) (suc at) xs at (λ i. omega arith)
    ∙ get_or-set_same l at x 0 (omega arith)
get_or_sets_in l at (x ∷ xs) (suc j) r h =
    let e : at + suc j ≡ suc at + j = omega arith in
    ap (λ (i : ℕ). get_or (sets (set l at x) (suc at) xs) i 0) e ∙ get_or_sets_in (set l at x) (suc at) xs j (simp length-set (omega arith)) (omega arith)

-- subgoal j of clause k
abbrev call_at : List ℕ → ℕ → ℕ → Call
call_at rules k j = call_in (get_or rules (k * clause_size + 2 + j) 0)

-- where its words are the same, so is the clause
same_words : (rules after : List ℕ) (k : ℕ)
    → ((p : ℕ) → k * clause_size ≤ p → p < k * clause_size + clause_size → get_or after p 0 ≡ get_or rules p 0) → clause_at after k ≡ clause_at rules k
unfolding clause_at
same_words rules after k same =
    ap₂ (λ (h : Head) (b : List Call). record { head = h; body = b })
    (ap head_in (same (k * clause_size + 1) (omega arith) (omega arith)))
    (ap (λ (n : ℕ). values (call_at after k) (min n max_subgoals)) (same (k * clause_size) (omega arith) (omega arith))
    ∙ values_cong (call_at after k) (call_at rules k) (min (get_or rules (k * clause_size) 0) max_subgoals)
    (λ j h. ap call_in (same (k * clause_size + 2 + j) (omega arith) (omega arith))))

-- the subgoals and their number are stored: the head and the other clauses are as they were
pub body_stored : (before : List ℕ) (k : ℕ) (words : List ℕ) {after : List ℕ} → length before ≡ rules_size → k ≤ max_clauses → length words ≤ max_subgoals
    → after ≡ set (sets before (k * clause_size + 2) words) (k * clause_size) (length words)
    → StoredClause before after k (record { head = (clause_at before k).head; body = map call_in words })
unfolding clause_at
body_stored before k words {after} e low few is =
    record {
      is = ap₂ (λ (h : Head) (b : List Call). record { head = h; body = b }) (ap head_in (kept (at + 1) (λ i. omega arith) (λ q. omega arith))) body;
      others = λ i ne. same_words before after i (λ p l r. kept p (λ j. ne· i p ne l r j) (λ q. ne (omega arith)));
    }
  where
    at : ℕ
    at = k * clause_size

    ne· : (i p : ℕ) → (i ≡ k → ⊥) → i * clause_size ≤ p → p < i * clause_size + clause_size → k * clause_size + 2 ≤ p → k * clause_size + 2 + length words ≤ p
    ne· i p ne l r j = by_range i k (λ x. absurd (omega arith)) (λ x. omega arith)

    kept : (p : ℕ) → (k * clause_size + 2 ≤ p → k * clause_size + 2 + length words ≤ p) → (p ≡ k * clause_size → ⊥) → get_or after p 0 ≡ get_or before p 0
    kept p out ne =
        ap (λ (l : List ℕ). get_or l p 0) is
        ∙ get_or-set_other (sets before (k * clause_size + 2) words) (k * clause_size) p (length words) 0 ne
        ∙ get_or_sets_out before (k * clause_size + 2) words p out

    number : get_or after at 0 ≡ length words
    number =
        ap (λ (l : List ℕ). get_or l at 0) is
        ∙ get_or-set_same (sets before (at + 2) words) at (length words) 0 (simp length-sets (omega arith))

    each : (j : ℕ) → j < length words → call_at after k j ≡ call_in (get_or words j 0)
    each j h =
        ap call_in
        (ap (λ (l : List ℕ). get_or l (at + 2 + j) 0) is
        ∙ get_or-set_other (sets before (at + 2) words) at (at + 2 + j) (length words) 0 (λ q. omega arith)
        ∙ get_or_sets_in before (at + 2) words j (omega arith) h)

    body : values (call_at after k) (min (get_or after at 0) max_subgoals) ≡ map call_in words
    body =
        let m : min (length words) max_subgoals ≡ length words = omega arith in
        let long = length_values (call_at after k) (length words) in
        ap (λ (n : ℕ). values (call_at after k) (min n max_subgoals)) number
        ∙ ap (values (call_at after k)) m
        ∙ ext_get_or (call_in 0) (values (call_at after k) (length words)) (map call_in words) (long ∙ sym (length-map words call_in))
        (λ j h. get_or_values (call_at after k) (call_in 0) (length words) j (omega arith) ∙ each j (omega arith) ∙ sym (get_or-map call_in words j 0))

-- and the head before them
pub clause_stored : (before : List ℕ) (k w : ℕ) (words : List ℕ) {one after : List ℕ} → length before ≡ rules_size → k < max_clauses → length words ≤ max_subgoals
    → one ≡ set before (k * clause_size + 1) w → after ≡ set (sets one (k * clause_size + 2) words) (k * clause_size) (length words)
    → StoredClause before after k (record { head = head_in w; body = map call_in words })
unfolding clause_at
clause_stored before k w words {one} {after} e low few first is =
    let size : length one ≡ rules_size = ap length first ∙ simp length-set e in
    let b = body_stored one k words size (omega arith) few is in
    let head : get_or one (k * clause_size + 1) 0 ≡ w = ap (λ (l : List ℕ). get_or l (k * clause_size + 1) 0) first ∙ get_or-set_same before (k * clause_size + 1) w 0 (omega arith) in
    record {
      is = b.is ∙ ap (λ (x : ℕ). record { head = head_in x; body = map call_in words }) head;
      others =
          λ i ne.
          b.others i ne
          ∙ same_words before one i
          (λ p l r. ap (λ (m : List ℕ). get_or m p 0) first ∙ get_or-set_other before (k * clause_size + 1) p w 0 (λ q. ne (omega arith)));
    }
