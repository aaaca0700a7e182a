-- A book is its four runs, one after the other: a fault of one is the book's, and the four values make the book. Assumes nothing.
use mathlib.Core.Path.{◌≡◌, refl, sym, ap, ap₂, ◌∙◌}
use mathlib.Core.List.{List, []}
use Prim.Native.Nat.{ℕ, ◌-◌, min, ◌≤◌}
use native.Mathlib.Omega.{arith}
use lib.ListN.{length, take}
use mathlib.Core.Bool.{true, false}
use lib.Seq.{length-take-le}
use Rattle.masks.specs.Limits.{max_arity}
use Rattle.masks.specs.Lists.{all}
use Rattle.book.specs.Limits.{max_predicates, max_clauses}
use Rattle.book.specs.Book.{Call, Mode, Clause, Book}
use Rattle.book.specs.Format.{allows, spelling, leads, Got, many, predicate, clause, rules, read_book, fault, book, judged, judge}
use Rattle.book.specs.Encode.{enc_predicate, enc_clause}
use Rattle.book.specs.Held.{modes_of, clauses_of, clause_at, StoredClause, book_in}
use Rattle.std.specs.Prelude.{Result, Ok, Err}
use Rattle.std.specs.Borrow.{Bor}
use Rattle.book.specs.declared.mark.Mark.TheVariants.{Pr}
use Rattle.book.specs.declared.mark.Phase.TheVariants.{Predicates, Clauses, Query}
use Rattle.book.specs.declared.range.Range.TheVariants.{AtMost}
use Rattle.book.proofs.Laws.Marks.{sole_predicates, clauses_over_starts}
use Rattle.book.proofs.Laws.Got.{each_all, many_inv}
use Rattle.book.proofs.Laws.Trip.{PredicateFits, predicate_inv, ClauseFits, clause_inv}
use Rattle.book.proofs.Laws.Held.{clauses_of_before}
use Rattle.records.specs.declared.fault.FaultFromEnd.{FaultFromEnd}
use Rattle.records.specs.Read.{RunEnds, value, rest, alone, Reads}
use Rattle.reading.specs.declared.Reading.{Reading}
use Rattle.reading.specs.Stored.{ReadsPredicates, ReadsModes, ReadsClauses, ReadsQuery, ReadsRules}
use Rattle.reading.proofs.Laws.Runs.{Going, not_mine, going_end}
use Rattle.records.proofs.Laws.Reads.{err_ok, reads_ok, reads_err, reads_fault, reads_as, then_bad, then_next, reads_map}

-- an answer about the whole is the judgement of the bytes
module _ {V : Type 0} {left : V → List ℕ} (s : List ℕ) {q : Result V FaultFromEnd} {b : Book} (w : Reads left q (λ n. b) (read_book s)) where
  pub judged_book : {v : V} → q ≡ Ok v → judge s ≡ book b
  unfolding judge
  judged_book e = ap (judged s) (sym (reads_ok w e))

  pub judged_fault : {e : FaultFromEnd} → q ≡ Err e → judge s ≡ fault e.fault (length s - e.left)
  unfolding judge
  judged_fault {e} d = ap (judged s) (sym (reads_err w d))

pub none : Book
none = record { arities = []; modes = []; clauses = []; query = [] }

-- ---- the predicates

pub predicates_bad : {s : List ℕ} {e : FaultFromEnd} (arities : List ℕ) → Reads rest (Err e) (λ v. take (value v) arities) (many Predicates predicate max_predicates [] s)
    → ReadsPredicates s (Err e) arities
predicates_bad arities w = record { reads = w; listed = λ v d. err_ok refl d }

-- their run is over
module _ (whole arities : List ℕ) {n : ℕ} {s : List ℕ} (l : (length arities ≡ max_predicates) × Going Predicates predicate max_predicates whole n s (take n arities))
    (mark : leads (spelling Pr) s ≡ false) {g : Result (Unit {0}) FaultFromEnd} (w : RunEnds Predicates s g) where
  read_all : Reads (λ u. s) g (λ u. take n arities) (many Predicates predicate max_predicates [] whole)
  read_all = going_end Predicates predicate max_predicates whole l.1 (not_mine Predicates Pr s sole_predicates mark) w

  pub predicates_end_bad : {e : FaultFromEnd} → g ≡ Err e → ReadsPredicates whole (Err e) arities
  predicates_end_bad e = predicates_bad arities (reads_fault read_all e)

  pub predicates_end : {u : Unit {0}} → g ≡ Ok u → {end : Bor (List ℕ)} → end.now ≡ s → ReadsPredicates whole (Ok (n, end)) arities
  predicates_end e {end} z =
      record {
        reads = reads_as read_all e z refl;
        listed =
            λ v d.
            rw (same v d)
            (let long = l.0 in
            let few = l.1.turns in
            record { few = few; each = length-take-le n arities (omega arith) });
      }
    where
      same : (v : ℕ × Bor (List ℕ)) → ◌≡◌ {A = Result (ℕ × Bor (List ℕ)) FaultFromEnd} (Ok (n, end)) (Ok v) → value v ≡ n
      same v d = cc

-- ---- a book

module _ (s : List ℕ) {p : Result (ℕ × Bor (List ℕ)) FaultFromEnd} {arities : List ℕ} (w : ReadsPredicates s p arities) where
  -- the predicates have a fault
  pub whole_bad : {e : FaultFromEnd} → p ≡ Err e → judge s ≡ fault e.fault (length s - e.left)
  unfolding read_book
  whole_bad {e} d = judged_fault {left = alone} s {b = none} (then_bad w.reads _ d) refl

  module _ {v : ℕ × Bor (List ℕ)} (d : p ≡ Ok v) where
    pub whole_arities : (length (take (value v) arities) ≤ max_predicates) × (all (allows (AtMost max_arity)) (take (value v) arities) ≡ true)
    whole_arities =
        let r = many_inv Predicates predicate PredicateFits enc_predicate predicate_inv max_predicates s (take (value v) arities) (rest v) (sym (reads_ok w.reads d)) in
        (r.few, each_all (allows (AtMost max_arity)) [] (take (value v) arities) r.good)

    pub whole_next : {W : Type 0} {then : W → List ℕ} {q : Result W FaultFromEnd} {b : Book} → Reads then q (λ n. b) (rules (take (value v) arities) (rest v))
        → Reads then q (λ n. b) (read_book s)
    unfolding read_book
    whole_next x = then_next w.reads _ d x

-- ---- what follows the predicates

-- the book that is held, once the query is stored behind the clauses
held_is : (preds : ℕ) (arities modes : List ℕ) (n : ℕ) {rules after : List ℕ} {c : Clause} → n ≤ max_clauses → StoredClause rules after max_clauses c
    → book_in preds arities modes n after ≡ record { arities = take preds arities; modes = modes_of modes max_predicates; clauses = clauses_of rules n; query = c.body }
unfolding book_in
held_is preds arities modes n {rules} {after} {c} h st =
    let e : min n max_clauses ≡ n = omega arith in
    ap (λ (cs : List Clause). record { arities = take preds arities; modes = modes_of modes max_predicates; clauses = cs; query = (clause_at after max_clauses).body })
    (ap (clauses_of after) e ∙ clauses_of_before st n h)
    ∙ ap (λ (x : Clause). record { arities = take preds arities; modes = modes_of modes max_predicates; clauses = clauses_of rules n; query = x.body }) st.is

module _ (ar s : List ℕ) {m : Result (ℕ × Bor (List ℕ)) FaultFromEnd} {modes modes· : List ℕ} (w : ReadsModes ar s m modes modes·) (rules· : List ℕ) where
  -- the modes have a fault
  pub rules_unmoded : {e : FaultFromEnd} → m ≡ Err e → ReadsRules ar s (Err e) modes rules· modes· rules·
  unfolding rules
  rules_unmoded e = record { book = none; end = []; reads = then_bad w.reads _ e; is = λ v d. err_ok refl d; stored = λ v d. err_ok refl d }

  module _ {u : ℕ × Bor (List ℕ)} (e : m ≡ Ok u) {c : Result (ℕ × Bor (List ℕ)) FaultFromEnd} {one : List ℕ} (v : ReadsClauses ar (rest u) c rules· one) where
    abbrev item : List Clause → List ℕ → Got Clause
    item = clause ar

    read : Reads rest c (λ k. v.clauses) (many Clauses item max_clauses [] (rest u))
    read = v.reads

    -- the clauses have one
    pub rules_unclaused : {f : FaultFromEnd} → c ≡ Err f → ReadsRules ar s (Err f) modes rules· modes· one
    unfolding rules
    rules_unclaused d =
        record { book = none; end = []; reads = then_next w.reads _ e (then_bad read _ d); is = λ x g. err_ok refl g; stored = λ x g. err_ok refl g }

    module _ {x : ℕ × Bor (List ℕ)} (d : c ≡ Ok x) where
      -- the two bytes of QU are there
      pub rules_asked : 2 ≤ length (rest x)
      rules_asked =
          let g = sym (reads_ok read d) in
          let r = many_inv Clauses item (ClauseFits ar) enc_clause (clause_inv ar) max_clauses (rest u) v.clauses (rest x) g in
          let o = ap length (clauses_over_starts (rest x) r.over) in
          omega arith

      module _ {r : Result (Bor (List ℕ)) FaultFromEnd} {after : List ℕ} (q : ReadsQuery Query ar (rest x) r one after) where
        abbrev whole : List Call → Book
        whole goals = record { arities = ar; modes = w.modes; clauses = v.clauses; query = goals }

        asked : Reads alone r (λ n. whole q.goals) (rules ar s)
        unfolding rules
        asked = then_next w.reads _ e (then_next read _ d (reads_map q.reads whole))

        -- the query has one
        pub rules_unasked : {f : FaultFromEnd} → r ≡ Err f → ReadsRules ar s (Err f) modes rules· modes· after
        rules_unasked f =
            record { book = whole q.goals; end = []; reads = reads_fault asked f; is = λ y g. err_ok refl g; stored = λ y g. err_ok refl g }

        -- all is read
        pub rules_read : {end : Bor (List ℕ)} → r ≡ Ok end → length one ≡ length rules· → {preds : ℕ} → preds ≡ length ar
            → ReadsRules ar s (Ok (record { preds = preds; clauses = value x; with_mode = value u })) modes rules· modes· after
        rules_read {end} f long {preds} n =
            record {
              book = whole q.goals;
              end = end.now;
              reads = reads_as asked f refl refl;
              is =
                  λ y g.
                  rw (same y g)
                  (record { preds· = n; few = v.few x d; arities· = refl; given = w.given u e });
              stored =
                  λ y g room k arities a.
                  rw (same y g)
                  (held_is k arities modes· (value x) (v.few x d) (q.stored end f (long ∙ room.1))
                  ∙ ap (λ (l : List ℕ). record { arities = l; modes = modes_of modes· max_predicates; clauses = clauses_of one (value x); query = q.goals }) a
                  ∙ ap₂ (λ (ms : List Mode) (cs : List Clause). record { arities = ar; modes = ms; clauses = cs; query = q.goals })
                  (w.stored u e room.0) (v.stored x d room.1));
            }
          where
            same : (y : Reading) → ◌≡◌ {A = Result Reading FaultFromEnd} (Ok (record { preds = preds; clauses = value x; with_mode = value u })) (Ok y)
                → y ≡ record { preds = preds; clauses = value x; with_mode = value u }
            same y g = cc
