-- ROUND TRIP. The bytes of a well-formed book are judged to be that book, and bytes that are judged to be a book are its bytes, and it is well
-- formed: record by record, both ways, by the laws of reading. Assumes nothing.
use mathlib.Core.Path.{◌≡◌, refl, sym, ap, ◌∙◌}
use mathlib.Core.Logic.{⊎_elim}
use mathlib.Core.Bool.{Bool, true, false, cond, ◌&&◌}
use mathlib.Core.List.{List, [], ◌∷◌, ◌++◌, append_assoc, append-nil}
use Prim.Native.Nat.{ℕ, suc, ◌+◌, ◌^◌, ◌≤◌, ◌<◌}
use native.Mathlib.Omega.{arith}
use lib.Dec.{eqb, leb}
use lib.ListN.{length, get_or, drop}
use borrow.Author.Tests.{eqb-true, eq-eqb, leb-true, le-leb, ltb-true}
use Rattle.masks.specs.Limits.{max_arity, max_masks}
use Rattle.masks.specs.Lists.{all}
use Rattle.masks.proofs.Laws.Logic.{and_intro, and_left, and_right}
use Rattle.book.specs.Limits.{max_predicates, max_clauses, max_subgoals}
use Rattle.book.specs.Book.{Head, Call, subgoal_of, no_clause, Mode, Clause, Book}
use Rattle.book.specs.Format.{Got, bad, got, and_then, wrong, byte, bytes, many, turn, Bodied, mark_at, allows, low_from, low, spelling, leads, fields, argument_in, predicate, masks, mode_fields, mode, subgoal, clause, query, rules, read_book, book, judged, judge}
use Rattle.book.specs.Encode.{run, enc_predicate, enc_mode, enc_head, enc_subgoal, enc_clause, encode, fields_fit, head_fits, call_fits, mode_fits, rises, clause_fits, WellFormed}
use Rattle.book.specs.declared.fault.Fault.TheVariants.{Clash}
use Rattle.book.specs.declared.mark.Mark.{Mark}
use Rattle.book.specs.declared.mark.Mark.TheVariants.{Pr, Mo, Cl, Sg, Ng, Qu}
use Rattle.book.specs.declared.mark.Phase.{Phase}
use Rattle.book.specs.declared.mark.Phase.TheVariants.{Predicates, Modes, Clauses, Body, Query}
use Rattle.book.specs.declared.mark.Turn.TheVariants.{Mine, Over}
use Rattle.book.specs.declared.range.Range.{Range}
use Rattle.book.specs.declared.range.Range.TheVariants.{Below, AtMost, NoWildcard}
use Rattle.book.proofs.Laws.Marks.{sole_predicates, sole_modes, sole_clauses, Signed, in_body, in_query, own_leads, own_starts, sole_starts, clauses_over_starts, query_over_ends, clause_ends, clauses_end}
use Rattle.book.proofs.Laws.Got.{then_inv, then_got, test_inv, carry, byte_inv, byte_got, bytes_got, bytes_inv, Run, Each, Follows, each_all, all_each, many_got, many_inv}

-- ---- computed: "all PR, then all MO, then clauses, then one QU", of a book with one of each

pub in_turn : encode
    (record {
      arities = 0 ∷ [];
      modes = record { pred = 0; masks = [] } ∷ [];
      clauses = no_clause ∷ [];
      query = [];
    }) ≡ 80 ∷ 82 ∷ 0 ∷ 77 ∷ 79 ∷ 0 ∷ 0 ∷ 67 ∷ 76 ∷ 0 ∷ 81 ∷ 85 ∷ []
unfolding encode
in_turn = refl

-- ---- the fields of a head or a subgoal

module _ (r : Range) (ar : List ℕ) (p : ℕ) (args : List ℕ) (t : fields_fit r ar p args ≡ true) where
  abbrev rest· : Bool
  rest· = eqb (length args) (get_or ar p 0) && all (allows r) args

  fields_known : allows (Below (length ar)) p ≡ true
  fields_known = and_left (allows (Below (length ar)) p) rest· t

  fields_size : length args ≡ get_or ar p 0
  fields_size = eqb-true (length args) (get_or ar p 0) (and_left (eqb (length args) (get_or ar p 0)) (all (allows r) args) (and_right (allows (Below (length ar)) p) rest· t))

  pub fields_range : all (allows r) args ≡ true
  fields_range = and_right (eqb (length args) (get_or ar p 0)) (all (allows r) args) (and_right (allows (Below (length ar)) p) rest· t)

  fields_got : (s : List ℕ) → fields r ar (p ∷ (args ++ s)) ≡ got (record { pred = p; args = args }) s
  unfolding fields
  fields_got s = rw (byte_got (Below (length ar)) p (args ++ s) fields_known, ← fields_size, bytes_got r args [] s fields_range)

fields_inv : (r : Range) (ar s : List ℕ) (h : Head) (t : List ℕ) → fields r ar s ≡ got h t → (s ≡ enc_head h ++ t) × (fields_fit r ar h.pred h.args ≡ true)
unfolding fields
fields_inv r ar s h t e =
    let w = then_inv (byte (Below (length ar)) s) (λ p u. and_then (bytes r (get_or ar p 0) [] u) (λ args v. got (record { pred = p; args = args }) v)) e in
    let b = byte_inv (Below (length ar)) s w.2 in
    let v = then_inv (bytes r (get_or ar w.0 0) [] w.1) (λ args u. got (record { pred = w.0; args = args }) u) w.3 in
    let n = bytes_inv r (get_or ar w.0 0) w.1 v.2 in
    carry (λ (x : Head) (q : List ℕ). (s ≡ enc_head x ++ q) × (fields_fit r ar x.pred x.args ≡ true)) v.3 (
      b.0 ∙ ap (λ (l : List ℕ). w.0 ∷ l) n.1,
      and_intro b.1 (and_intro (eq-eqb _ _ n.0) n.2),
    )

-- of each by itself
module _ (ar : List ℕ) (h : Head) (t : head_fits ar h ≡ true) where
  pub head_known : allows (Below (length ar)) h.pred ≡ true
  head_known = fields_known NoWildcard ar h.pred h.args t

  pub head_size : length h.args ≡ get_or ar h.pred 0
  head_size = fields_size NoWildcard ar h.pred h.args t

module _ (ar : List ℕ) (c : Call) (t : call_fits ar c ≡ true) where
  pub call_known : allows (Below (length ar)) c.pred ≡ true
  call_known = fields_known (argument_in c.negated) ar c.pred c.args t

  pub call_size : length c.args ≡ get_or ar c.pred 0
  call_size = fields_size (argument_in c.negated) ar c.pred c.args t

-- ---- a predicate

abbrev pub PredicateFits : List ℕ → ℕ → Type 0
PredicateFits acc a = allows (AtMost max_arity) a ≡ true

predicate_got : (acc : List ℕ) (a : ℕ) (r : List ℕ) → PredicateFits acc a → predicate acc (enc_predicate a ++ r) ≡ got a r
unfolding predicate
predicate_got acc a r h = byte_got (AtMost max_arity) a r h

pub predicate_inv : (acc s : List ℕ) (a : ℕ) (r : List ℕ) → turn Predicates (mark_at s) ≡ Mine → predicate acc s ≡ got a r → (s ≡ enc_predicate a ++ r) × PredicateFits acc a
unfolding predicate
predicate_inv acc s a r t e =
    let b = byte_inv (AtMost max_arity) (drop 2 s) e in
    (sole_starts Predicates s sole_predicates t ∙ ap (λ (l : List ℕ). spelling Pr ++ l) b.0, b.1)

-- ---- a subgoal

abbrev pub SubgoalFits : List ℕ → List Call → Call → Type 0
SubgoalFits ar acc c = call_fits ar c ≡ true

subgoal_got : (ar : List ℕ) (acc : List Call) (c : Call) (r : List ℕ) → SubgoalFits ar acc c → subgoal ar acc (enc_subgoal c ++ r) ≡ got c r
unfolding subgoal
subgoal_got ar acc c r = go c.negated
  where
    go : (n : Bool) → fields_fit (argument_in n) ar c.pred c.args ≡ true
        → subgoal ar acc (enc_subgoal (record { negated = n; pred = c.pred; args = c.args }) ++ r) ≡ got (record { negated = n; pred = c.pred; args = c.args }) r
    go true h = then_got _ (fields_got (argument_in true) ar c.pred c.args h r)
    go false h = then_got _ (fields_got (argument_in false) ar c.pred c.args h r)

-- the fields of the one kind or the other, behind its mark
subgoal_inv : (n : Bool) (ar : List ℕ) (acc : List Call) (s : List ℕ) (c : Call) (r : List ℕ) → s ≡ spelling (cond n Ng Sg) ++ drop 2 s → subgoal ar acc s ≡ got c r
    → (s ≡ enc_subgoal c ++ r) × SubgoalFits ar acc c
unfolding subgoal
subgoal_inv n ar acc s c r t e =
    let w = then_inv (fields (argument_in n) ar (drop 2 s)) (λ h u. got (subgoal_of n h) u) (sym kind ∙ e) in
    let b = fields_inv (argument_in n) ar (drop 2 s) w.0 w.1 w.2 in
    carry (λ (x : Call) (q : List ℕ). (s ≡ enc_subgoal x ++ q) × SubgoalFits ar acc x) w.3 (
      t ∙ ap (λ (l : List ℕ). spelling (cond n Ng Sg) ++ l) b.0 ∙ spelt n w.0 w.1,
      b.1,
    )
  where
    led : (m : Bool) → s ≡ spelling (cond m Ng Sg) ++ drop 2 s → leads (spelling Ng) s ≡ m
    led true d = ap (leads (spelling Ng)) d
    led false d = ap (leads (spelling Ng)) d

    kind : subgoal ar acc s ≡ and_then (fields (argument_in n) ar (drop 2 s)) (λ h u. got (subgoal_of n h) u)
    kind = ap (λ (k : Bool). and_then (fields (argument_in k) ar (drop 2 s)) (λ h u. got (subgoal_of k h) u)) (led n t)

    spelt : (m : Bool) (h : Head) (u : List ℕ) → spelling (cond m Ng Sg) ++ (enc_head h ++ u) ≡ enc_subgoal (subgoal_of m h) ++ u
    spelt true h u = refl
    spelt false h u = refl

subgoal_from : (ar : List ℕ) (acc : List Call) (s : List ℕ) (c : Call) (r : List ℕ) → Signed (mark_at s) → s ≡ spelling (mark_at s) ++ drop 2 s → subgoal ar acc s ≡ got c r
    → (s ≡ enc_subgoal c ++ r) × SubgoalFits ar acc c
subgoal_from ar acc s c r k t e =
    let at : (m : Bool) → mark_at s ≡ cond m Ng Sg → s ≡ spelling (cond m Ng Sg) ++ drop 2 s = λ m d. t ∙ ap (λ (j : Mark). spelling j ++ drop 2 s) d in
    ⊎_elim (λ d. subgoal_inv false ar acc s c r (at false d) e) (λ d. subgoal_inv true ar acc s c r (at true d) e) k

-- ---- a run of subgoals, of a clause or of a query

module _ (p : Phase) (b : Bodied p) (ar : List ℕ) where
  -- the mark of either kind is in its turn
  own_subgoal : (c : Call) (r : List ℕ) → turn p (mark_at (enc_subgoal c ++ r)) ≡ Mine
  own_subgoal c r = go c.negated
    where
      go : (m : Bool) → turn p (mark_at (cond m (spelling Ng ++ (c.pred ∷ c.args)) (spelling Sg ++ (c.pred ∷ c.args)) ++ r)) ≡ Mine
      go true = own_leads p (c.pred ∷ (c.args ++ r)) Ng b.negated
      go false = own_leads p (c.pred ∷ (c.args ++ r)) Sg b.positive

  pub subgoals_got : (q : List Call) (r : List ℕ) → length q ≤ max_subgoals → all (call_fits ar) q ≡ true → turn p (mark_at r) ≡ Over
      → many p (subgoal ar) max_subgoals [] (run enc_subgoal q ++ r) ≡ got q r
  subgoals_got q r few fit over =
      many_got p (subgoal ar) (SubgoalFits ar) enc_subgoal own_subgoal (λ acc c u k f. subgoal_got ar acc c u k) max_subgoals [] q r few
      (all_each (call_fits ar) [] q fit) over

  -- one of them
  pub own_inv : (acc : List Call) (s : List ℕ) (c : Call) (r : List ℕ) → turn p (mark_at s) ≡ Mine → subgoal ar acc s ≡ got c r
      → (s ≡ enc_subgoal c ++ r) × SubgoalFits ar acc c
  own_inv acc s c r t e = subgoal_from ar acc s c r (b.sole (mark_at s) t) (own_starts p s t) e

  pub subgoals_inv : (s : List ℕ) (q : List Call) (r : List ℕ) → many p (subgoal ar) max_subgoals [] s ≡ got q r
      → Run p (SubgoalFits ar) enc_subgoal max_subgoals s q r
  subgoals_inv = many_inv p (subgoal ar) (SubgoalFits ar) enc_subgoal own_inv max_subgoals

-- ---- a mode

abbrev pub ModeFits : List ℕ → List Mode → Mode → Type 0
ModeFits ar acc m = (mode_fits ar m ≡ true) × (leb (low acc) m.pred ≡ true)

module _ (ar : List ℕ) (m : Mode) (t : mode_fits ar m ≡ true) where
  mode_fields_lem : (allows (AtMost max_masks) (length m.masks) && all (allows (Below (2 ^ get_or ar m.pred 0))) m.masks) ≡ true
  mode_fields_lem = and_right (allows (Below (length ar)) m.pred) (allows (AtMost max_masks) (length m.masks) && all (allows (Below (2 ^ get_or ar m.pred 0))) m.masks) t

  pub mode_known : allows (Below (length ar)) m.pred ≡ true
  mode_known = and_left (allows (Below (length ar)) m.pred) (allows (AtMost max_masks) (length m.masks) && all (allows (Below (2 ^ get_or ar m.pred 0))) m.masks) t

  pub mode_few : allows (AtMost max_masks) (length m.masks) ≡ true
  mode_few = and_left (allows (AtMost max_masks) (length m.masks)) (all (allows (Below (2 ^ get_or ar m.pred 0))) m.masks) mode_fields_lem

  pub mode_range : all (allows (Below (2 ^ get_or ar m.pred 0))) m.masks ≡ true
  mode_range = and_right (allows (AtMost max_masks) (length m.masks)) (all (allows (Below (2 ^ get_or ar m.pred 0))) m.masks) mode_fields_lem

masks_got : (ar : List ℕ) (m : Mode) (r : List ℕ) → mode_fits ar m ≡ true → masks (2 ^ get_or ar m.pred 0) (length m.masks ∷ (m.masks ++ r)) ≡ got m.masks r
unfolding masks
masks_got ar m r t =
    then_got _ (byte_got (AtMost max_masks) (length m.masks) (m.masks ++ r) (mode_few ar m t))
    ∙ bytes_got (Below (2 ^ get_or ar m.pred 0)) m.masks [] r (mode_range ar m t)

masks_inv : (k : ℕ) (s ms r : List ℕ) → masks k s ≡ got ms r
    → (s ≡ length ms ∷ (ms ++ r)) × (allows (AtMost max_masks) (length ms) ≡ true) × (all (allows (Below k)) ms ≡ true)
unfolding masks
masks_inv k s ms r e =
    let w = then_inv (byte (AtMost max_masks) s) (λ n t. bytes (Below k) n [] t) e in
    let y = byte_inv (AtMost max_masks) s w.2 in
    let z = bytes_inv (Below k) w.0 w.1 w.3 in (
      y.0 ∙ (ap (λ (l : List ℕ). w.0 ∷ l) z.1 ∙ ap (λ (n : ℕ). n ∷ (ms ++ r)) (sym z.0)),
      ap (allows (AtMost max_masks)) z.0 ∙ y.1,
      z.2,
    )

mode_got : (ar : List ℕ) (acc : List Mode) (m : Mode) (r : List ℕ) → ModeFits ar acc m → mode ar acc (enc_mode m ++ r) ≡ got m r
unfolding mode mode_fields
mode_got ar acc m r h =
    rw (byte_got (Below (length ar)) m.pred (length m.masks ∷ (m.masks ++ r)) (mode_known ar m h.0), masks_got ar m r h.0, h.1)

pub mode_inv : (ar : List ℕ) (acc : List Mode) (s : List ℕ) (m : Mode) (r : List ℕ) → turn Modes (mark_at s) ≡ Mine → mode ar acc s ≡ got m r → (s ≡ enc_mode m ++ r) × ModeFits ar acc m
unfolding mode mode_fields
mode_inv ar acc s m r t e =
    let d = drop 2 s in
    let last : ℕ → List ℕ → List ℕ → Got Mode = λ p ms u. cond (leb (low acc) p) (got (record { pred = p; masks = ms }) u) (wrong Clash d) in
    let w = then_inv (byte (Below (length ar)) d) (λ p u. and_then (masks (2 ^ get_or ar p 0) u) (last p)) e in
    let p = w.0 in
    let x = byte_inv (Below (length ar)) d w.2 in
    let v = then_inv (masks (2 ^ get_or ar p 0) w.1) (last p) w.3 in
    let y = masks_inv (2 ^ get_or ar p 0) w.1 v.0 v.1 v.2 in
    let g = test_inv (leb (low acc) p) (record { pred = p; masks = v.0 }) v.1 Clash (length d) v.3 in
    carry (λ (k : Mode) (l : List ℕ). (s ≡ enc_mode k ++ l) × ModeFits ar acc k) g.1 (
      sole_starts Modes s sole_modes t ∙ ap (λ (l : List ℕ). spelling Mo ++ l) (x.0 ∙ ap (λ (l : List ℕ). p ∷ l) y.0),
      (and_intro x.1 (and_intro y.1 y.2), g.0),
    )

-- ---- a clause

abbrev pub ClauseFits : List ℕ → List Clause → Clause → Type 0
ClauseFits ar acc c = clause_fits ar c ≡ true

module _ (ar : List ℕ) (c : Clause) (t : clause_fits ar c ≡ true) where
  abbrev goals : Bool
  goals = leb (length c.body) max_subgoals && all (call_fits ar) c.body

  rest : goals ≡ true
  rest = and_right (head_fits ar c.head) goals t

  pub clause_head : head_fits ar c.head ≡ true
  clause_head = and_left (head_fits ar c.head) goals t

  pub clause_few : length c.body ≤ max_subgoals
  clause_few = leb-true _ _ (and_left (leb (length c.body) max_subgoals) (all (call_fits ar) c.body) rest)

  pub clause_goals : all (call_fits ar) c.body ≡ true
  clause_goals = and_right (leb (length c.body) max_subgoals) (all (call_fits ar) c.body) rest

clause_got : (ar : List ℕ) (acc : List Clause) (c : Clause) (r : List ℕ) → ClauseFits ar acc c → turn Body (mark_at r) ≡ Over → clause ar acc (enc_clause c ++ r) ≡ got c r
unfolding clause
clause_got ar acc c r h o =
    let after = run enc_subgoal c.body ++ r in
    let bytes· : fields NoWildcard ar ((enc_head c.head ++ run enc_subgoal c.body) ++ r) ≡ got c.head after =
    ap (fields NoWildcard ar) (append_assoc (enc_head c.head) (run enc_subgoal c.body) r) ∙ fields_got NoWildcard ar c.head.pred c.head.args (clause_head ar c h) after in
    then_got _ bytes·
    ∙ then_got _ (subgoals_got Body in_body ar c.body r (clause_few ar c h) (clause_goals ar c h) o)

clause_reads : (ar : List ℕ) (acc : List Clause) (c : Clause) (r : List ℕ) → ClauseFits ar acc c → Follows Clauses r → clause ar acc (enc_clause c ++ r) ≡ got c r
clause_reads ar acc c r h f = clause_got ar acc c r h (⊎_elim (clause_ends (mark_at r)) (clauses_end (mark_at r)) f)

pub clause_inv : (ar : List ℕ) (acc : List Clause) (s : List ℕ) (c : Clause) (r : List ℕ) → turn Clauses (mark_at s) ≡ Mine → clause ar acc s ≡ got c r → (s ≡ enc_clause c ++ r) × ClauseFits ar acc c
unfolding clause
clause_inv ar acc s c r t e =
    let made : Head → List Call → List ℕ → Got Clause = λ h body u. got (record { head = h; body = body }) u in
    let w = then_inv (fields NoWildcard ar (drop 2 s)) (λ h q. and_then (many Body (subgoal ar) max_subgoals [] q) (made h)) e in
    let h = w.0 in
    let v = then_inv (many Body (subgoal ar) max_subgoals [] w.1) (made h) w.3 in
    let b = fields_inv NoWildcard ar (drop 2 s) h w.1 w.2 in
    let n = subgoals_inv Body in_body ar w.1 v.0 v.1 v.2 in
    let bytes· : drop 2 s ≡ (enc_head h ++ run enc_subgoal v.0) ++ v.1 = b.0 ∙ (ap (λ (l : List ℕ). enc_head h ++ l) n.from ∙ sym (append_assoc (enc_head h) (run enc_subgoal v.0) v.1)) in
    carry (λ (x : Clause) (l : List ℕ). (s ≡ enc_clause x ++ l) × ClauseFits ar acc x) v.3 (
      sole_starts Clauses s sole_clauses t ∙ ap (λ (l : List ℕ). spelling Cl ++ l) bytes·,
      and_intro b.1 (and_intro (le-leb _ _ n.few) (each_all (call_fits ar) [] v.0 n.good)),
    )

-- ---- MO records rise

pub low_last : (b : ℕ) (acc : List Mode) (m : Mode) → low_from b (acc ++ (m ∷ [])) ≡ suc m.pred
unfolding low_from
low_last b [] m = refl
low_last b (x ∷ acc) m = low_last (suc x.pred) acc m

module _ (ar : List ℕ) where
  modes_each : (acc ms : List Mode) → all (mode_fits ar) ms ≡ true → rises (low acc) ms ≡ true → Each (ModeFits ar) acc ms
  modes_each acc [] t u = tt
  modes_each acc (m ∷ ms) t u =
      let r : rises (low (acc ++ (m ∷ []))) ms ≡ true = rw (low_last 0 acc m) (and_right (leb (low acc) m.pred) (rises (suc m.pred) ms) u) in (
        (and_left (mode_fits ar m) (all (mode_fits ar) ms) t, and_left (leb (low acc) m.pred) (rises (suc m.pred) ms) u),
        modes_each (acc ++ (m ∷ [])) ms (and_right (mode_fits ar m) (all (mode_fits ar) ms) t) r,
      )

  each_modes : (acc ms : List Mode) → Each (ModeFits ar) acc ms → (all (mode_fits ar) ms ≡ true) × (rises (low acc) ms ≡ true)
  each_modes acc [] t = (refl, refl)
  each_modes acc (m ∷ ms) t =
      let r = each_modes (acc ++ (m ∷ [])) ms t.1 in
      let u : rises (suc m.pred) ms ≡ true = rw (low_last 0 acc m) at r.1 in
      (and_intro t.0.0 r.0, and_intro t.0.1 u)

  -- so there are no more of them than predicates
  pub rising : (b : ℕ) (ms : List Mode) → b ≤ length ar → all (mode_fits ar) ms ≡ true → rises b ms ≡ true → b + length ms ≤ length ar
  unfolding allows
  rising b [] h t u = omega arith
  rising b (m ∷ ms) h t u =
      let k : m.pred < length ar = ltb-true _ _ (mode_known ar m (and_left (mode_fits ar m) (all (mode_fits ar) ms) t)) in
      let l : b ≤ m.pred = leb-true _ _ (and_left (leb b m.pred) (rises (suc m.pred) ms) u) in
      let r = rising (suc m.pred) ms k (and_right (mode_fits ar m) (all (mode_fits ar) ms) t) (and_right (leb b m.pred) (rises (suc m.pred) ms) u) in
      omega arith

-- ---- what may follow a run

module _ (q : List Call) where
  abbrev asks : List ℕ
  asks = spelling Qu ++ run enc_subgoal q

  over_clauses : turn Clauses (mark_at asks) ≡ Over
  unfolding mark_at
  over_clauses = refl

  over_modes : (cs : List Clause) → turn Modes (mark_at (run enc_clause cs ++ asks)) ≡ Over
  unfolding mark_at
  over_modes [] = refl
  over_modes (c ∷ cs) = refl

  over_predicates : (ms : List Mode) (cs : List Clause) → turn Predicates (mark_at (run enc_mode ms ++ (run enc_clause cs ++ asks))) ≡ Over
  unfolding mark_at
  over_predicates [] [] = refl
  over_predicates [] (c ∷ cs) = refl
  over_predicates (m ∷ ms) cs = refl

over_query : turn Query (mark_at []) ≡ Over
unfolding mark_at
over_query = refl

-- ---- the book

read_got : (b : Book) → WellFormed b → read_book (encode b) ≡ got b []
unfolding read_book rules query encode low_from
read_got b w =
    let ar = b.arities in
    let ms = b.modes in
    let cs = b.clauses in
    let q = b.query in
    let few : length ar ≤ max_predicates = leb-true _ _ w.few_predicates in
    let fewer : length ms ≤ suc max_predicates = let r = rising ar 0 ms (omega arith) w.modes_fit w.modes_rise in omega arith in
    then_got _ (many_got Predicates predicate PredicateFits enc_predicate (λ a r. own_leads Predicates (a ∷ r) Pr refl) (λ acc a r k f. predicate_got acc a r k) max_predicates [] ar
    (run enc_mode ms ++ (run enc_clause cs ++ asks q)) few (all_each (allows (AtMost max_arity)) [] ar w.arities_fit) (over_predicates q ms cs))
    ∙ then_got _ (many_got Modes (mode ar) (ModeFits ar) enc_mode (λ m r. own_leads Modes (m.pred ∷ length m.masks ∷ (m.masks ++ r)) Mo refl) (λ acc m r k f. mode_got ar acc m r k)
    (suc max_predicates) [] ms (run enc_clause cs ++ asks q) fewer (modes_each ar [] ms w.modes_fit w.modes_rise) (over_modes q cs))
    ∙ then_got _ (many_got Clauses (clause ar) (ClauseFits ar) enc_clause (λ c r. own_leads Clauses ((enc_head c.head ++ run enc_subgoal c.body) ++ r) Cl refl) (clause_reads ar)
    max_clauses [] cs (asks q) (leb-true _ _ w.few_clauses) (all_each (clause_fits ar) [] cs w.clauses_fit) (over_clauses q))
    ∙ then_got _ (rw append-nil at (subgoals_got Query in_query ar q [] (leb-true _ _ w.few_asked) w.query_fits over_query))

pub read_inv : (s : List ℕ) (b : Book) (r : List ℕ) → read_book s ≡ got b r → (encode b ≡ s) × WellFormed b
unfolding read_book rules query encode low_from
read_inv s b r e =
    let made : List ℕ → List Mode → List Clause → List Call → List ℕ → Got Book = λ ar ms cs q t. got (record { arities = ar; modes = ms; clauses = cs; query = q }) t in
    let asked : List ℕ → List Mode → List Clause → List ℕ → Got Book = λ ar ms cs t. and_then (many Query (subgoal ar) max_subgoals [] (drop 2 t)) (made ar ms cs) in
    let ruled : List ℕ → List Mode → List ℕ → Got Book = λ ar ms t. and_then (many Clauses (clause ar) max_clauses [] t) (asked ar ms) in
    let moded : List ℕ → List ℕ → Got Book = λ ar t. and_then (many Modes (mode ar) (suc max_predicates) [] t) (ruled ar) in
    let w1 = then_inv (many Predicates predicate max_predicates [] s) moded e in
    let ar = w1.0 in
    let w2 = then_inv (many Modes (mode ar) (suc max_predicates) [] w1.1) (ruled ar) w1.3 in
    let ms = w2.0 in
    let w3 = then_inv (many Clauses (clause ar) max_clauses [] w2.1) (asked ar ms) w2.3 in
    let cs = w3.0 in
    let w4 = then_inv (many Query (subgoal ar) max_subgoals [] (drop 2 w3.1)) (made ar ms cs) w3.3 in
    let q = w4.0 in
    let a = many_inv Predicates predicate PredicateFits enc_predicate predicate_inv max_predicates s ar w1.1 w1.2 in
    let m = many_inv Modes (mode ar) (ModeFits ar) enc_mode (mode_inv ar) (suc max_predicates) w1.1 ms w2.1 w2.2 in
    let c = many_inv Clauses (clause ar) (ClauseFits ar) enc_clause (clause_inv ar) max_clauses w2.1 cs w3.1 w3.2 in
    let u = subgoals_inv Query in_query ar (drop 2 w3.1) q w4.1 w4.2 in
    let ends : drop 2 w3.1 ≡ run enc_subgoal q = u.from ∙ (ap (λ (l : List ℕ). run enc_subgoal q ++ l) (query_over_ends w4.1 u.over) ∙ append-nil (run enc_subgoal q)) in
    let query· : w3.1 ≡ asks q = clauses_over_starts w3.1 c.over ∙ ap (λ (l : List ℕ). spelling Qu ++ l) ends in
    let clauses· : w2.1 ≡ run enc_clause cs ++ asks q = c.from ∙ ap (λ (l : List ℕ). run enc_clause cs ++ l) query· in
    let modes· : w1.1 ≡ run enc_mode ms ++ (run enc_clause cs ++ asks q) = m.from ∙ ap (λ (l : List ℕ). run enc_mode ms ++ l) clauses· in
    let f = each_modes ar [] ms m.good in
    carry (λ (x : Book) (l : List ℕ). (encode x ≡ s) × WellFormed x) w4.3 (
      sym (a.from ∙ ap (λ (l : List ℕ). run enc_predicate ar ++ l) modes·),
      record {
        few_predicates = le-leb _ _ a.few;
        arities_fit = each_all (allows (AtMost max_arity)) [] ar a.good;
        modes_fit = f.0;
        modes_rise = f.1;
        few_clauses = le-leb _ _ c.few;
        clauses_fit = each_all (clause_fits ar) [] cs c.good;
        few_asked = le-leb _ _ u.few;
        query_fits = each_all (call_fits ar) [] q u.good;
      },
    )

pub judge_encode : (b : Book) → WellFormed b → judge (encode b) ≡ book b
unfolding judge
judge_encode b w = rw (read_got b w)

pub judge_inv : (s : List ℕ) (b : Book) → judge s ≡ book b → (encode b ≡ s) × WellFormed b
unfolding judge
judge_inv s b e = go (read_book s) refl e
  where
    go : (g : Got Book) → read_book s ≡ g → judged s g ≡ book b → (encode b ≡ s) × WellFormed b
    go (bad f k) d c = let z : ◌≡◌ {A = ℕ} 0 1 = cc in absurd (omega arith)
    go (got x r) d c = let z : x ≡ b = cc in read_inv s b r (d ∙ ap (λ (y : Book). got y r) z)

-- so well-formed books with the same bytes are the same book
pub encode_injective : (b c : Book) → WellFormed b → WellFormed c → encode b ≡ encode c → b ≡ c
encode_injective b c v w e = let z : book b ≡ book c = sym (judge_encode b v) ∙ ap judge e ∙ judge_encode c w in cc
