-- The patterns that the code stores beside the places of an order: each is that of its subgoal where all before it are taken. So an order as the code
-- holds it tells the calls of the first good order. Assumes nothing.
use mathlib.Core.Path.{◌≡◌, refl, sym, ap, ap₂, ◌∙◌}
use mathlib.Core.List.{List, [], ◌∷◌, ◌++◌, map, map-append}
use mathlib.Core.Option.{Option, none, some}
use Prim.Native.Nat.{ℕ, ◌+◌, ◌-◌, ◌^◌, ◌≤◌, ◌<◌, zero, suc}
use native.Mathlib.Numerals.{add-one}
use native.Mathlib.Omega.{arith}
use lib.Bits.{bit_xor}
use lib.ListN.{length, get_or, set, take, length-set}
use lib.Seq.{take-suc, take-suc-set}
use Rattle.masks.specs.Limits.{max_arity, all_patterns}
use Rattle.masks.specs.Lists.{values}
use Rattle.book.specs.Limits.{max_subgoals}
use Rattle.book.specs.Book.{Call, no_call}
use Rattle.book.specs.Held.{call_in}
use Rattle.book.specs.Table.{Table}
use Rattle.ordering.specs.Adorn.{Bound, pattern_of}
use Rattle.ordering.specs.Turns.{all_after}
use Rattle.ordering.specs.Good.{at, ready_at, after_at, ran, first_good}
use Rattle.ordering.specs.Asks.{Asked, asks, patterns_in}
use Rattle.ordering.specs.Held.{or_none, places_of, patterns_of, picked, PatternAt}
use Rattle.ordering.specs.declared.order.Order.{Order}
use Rattle.ordering.specs.declared.Pick.{Pick}
use Rattle.book.proofs.Laws.Held.{args_count}
use Rattle.ordering.proofs.Laws.Good.{greedy_is_first, first_below}
use Rattle.ordering.proofs.Laws.Asks.{asks_snoc, after_snoc}
use Rattle.ordering.proofs.Laws.Run.{Run, run_start, run_below, run_next, run_stuck, run_end}
use Rattle.ordering.proofs.Laws.Steps.{first_at, pattern_small}

-- ---- the patterns of an order, one place more

patterns_nil : (body : List Call) (b : Bound) → patterns_in body b [] ≡ []
unfolding asks
patterns_nil body b = refl

patterns_snoc : (body : List Call) (b : Bound) (σ : List ℕ) (p : ℕ)
    → patterns_in body b (σ ++ (p ∷ [])) ≡ patterns_in body b σ ++ (pattern_of (ran body b σ) (at body p).args ∷ [])
patterns_snoc body b σ p =
    ap (map (λ (x : Asked). x.pattern)) (asks_snoc body b σ p)
    ∙ map-append (λ (x : Asked). x.pattern) (asks body b σ) (record { pred = (at body p).pred; pattern = pattern_of (ran body b σ) (at body p).args } ∷ [])

-- ---- the patterns that are stored

-- i places are taken from b₀ on, and b is bound: the patterns beside them are those of their subgoals in their turn
pub record Turns (body : List Call) (b₀ : Bound) (i : ℕ) (b : Bound) (places patterns : List ℕ) : Type 0 where
  pub room : (length body ≤ length places) × (length body ≤ length patterns)
  pub taken : b ≡ ran body b₀ (take i places)
  pub told : take i patterns ≡ patterns_in body b₀ (take i places)

turns_start : (body : List Call) (b : Bound) (places patterns : List ℕ) → length body ≤ length places → length body ≤ length patterns
    → Turns body b 0 b places patterns
unfolding all_after
turns_start body b places patterns h k = record { room = (h, k); taken = refl; told = sym (patterns_nil body b) }

module _ {body : List Call} {b₀ b : Bound} {i : ℕ} {places patterns : List ℕ} (w : Turns body b₀ i b places patterns) where
  -- a place is taken: it is stored behind the others, and its pattern beside it
  turns_next : (t : Pick) → i < length body → PatternAt body b t → {b' : Bound} {places' patterns' : List ℕ} → b' ≡ after_at body b t.place
      → places' ≡ set places i t.place → patterns' ≡ set patterns i t.pattern → Turns body b₀ (i + 1) b' places' patterns'
  turns_next t h told eb ep ea =
      let p = t.place in
      let a = t.pattern in
      let l = w.room.0 in
      let m = w.room.1 in
      record {
        room = (rw (ep, length-set places i p) l, rw (ea, length-set patterns i a) m);
        taken =
            rw (eb, ep, add-one i, take-suc-set places i p (omega arith))
            (ap (λ (c : Bound). after_at body c p) w.taken ∙ sym (after_snoc body b₀ (take i places) p));
        told =
            rw (ep, ea, add-one i, take-suc-set places i p (omega arith), take-suc-set patterns i a (omega arith))
            (ap₂ (λ (l : List ℕ) (x : ℕ). l ++ (x ∷ [])) w.told (told ∙ ap (λ (c : Bound). pattern_of c (at body p).args) w.taken)
            ∙ sym (patterns_snoc body b₀ (take i places) p));
      }

-- ---- the loop

-- the run of the greedy rule, and the patterns beside its places
pub record Going (T : Table) (body : List Call) (b₀ : Bound) (i : ℕ) (b : Bound) (left : ℕ) (places patterns : List ℕ) : Type 0 where
  pub run : Run (ready_at T body) (after_at body) b₀ (length body) i b left places
  pub turns : Turns body b₀ i b places patterns

pub going_start : (T : Table) (body : List Call) (b₀ : Bound) {b : Bound} {left : ℕ} (places patterns : List ℕ) → b ≡ b₀ → left ≡ 2 ^ length body - 1
    → length body ≤ max_subgoals → length body ≤ length places → length body ≤ length patterns → Going T body b₀ 0 b left places patterns
going_start T body b₀ places patterns eb el h k l =
    rw (eb, el) (record { run = run_start b₀ (length body) places h k; turns = turns_start body b₀ places patterns k l })

module _ {T : Table} {body : List Call} {b₀ b : Bound} {i left : ℕ} {places patterns : List ℕ} (w : Going T body b₀ i b left places patterns) where
  -- the first place that is ready is taken, with its subgoal's pattern
  pub going_next : (t : Pick) → some t.place ≡ picked left (ready_at T body b) → PatternAt body b t → i < length body
      → {b' : Bound} {left' : ℕ} {places' patterns' : List ℕ} → b' ≡ after_at body b t.place → left' ≡ bit_xor left (2 ^ t.place)
      → places' ≡ set places i t.place → patterns' ≡ set patterns i t.pattern → Going T body b₀ (i + 1) b' left' places' patterns'
  going_next t e told h eb eu ep ea = record { run = run_next w.run e h eb eu ep; turns = turns_next w.turns t h told eb ep ea }

  -- it is one of the body's
  pub going_below : {p : ℕ} → some p ≡ picked left (ready_at T body b) → p < length body
  going_below e = run_below w.run e

  -- where no place is ready, no order is good
  pub going_stuck : none ≡ picked left (ready_at T body b) → i < length body → none ≡ first_good T body b₀
  going_stuck e h = run_stuck w.run e h ∙ greedy_is_first T body b₀

  pub going_end : (n : ℕ) → n ≡ length body → n ≡ i → some (take n places) ≡ first_good T body b₀
  going_end n e h = ap (λ (j : ℕ). some (take j places)) e ∙ sym (run_end w.run (omega arith)) ∙ greedy_is_first T body b₀

-- ---- the pattern beside a place

patterns_at : (body : List Call) (b : Bound) (σ : List ℕ) (i : ℕ) → i < length σ
    → get_or (patterns_in body b σ) i 0 ≡ pattern_of (ran body b (take i σ)) (at body (get_or σ i 0)).args
unfolding asks all_after
patterns_at body b [] i h = absurd (omega arith)
patterns_at body b (p ∷ σ) zero h = refl
patterns_at body b (p ∷ σ) (suc i) h = patterns_at body (after_at body b p) σ i (omega arith)

patterns_long : (body : List Call) (b : Bound) (σ : List ℕ) → length (patterns_in body b σ) ≡ length σ
unfolding asks
patterns_long body b [] = refl
patterns_long body b (p ∷ σ) = ap suc (patterns_long body (after_at body b p) σ)

-- of an order
pub pattern_beside : (body : List Call) (b : Bound) (o : Order) → patterns_of o ≡ patterns_in body b (places_of o) → (i : ℕ) → i < length (places_of o)
    → get_or o.patterns i 0 ≡ pattern_of (ran body b (take i (places_of o))) (at body (get_or (places_of o) i 0)).args
pattern_beside body b o e i h =
    let l = ap length e ∙ patterns_long body b (places_of o) in
    sym (first_at o.n o.patterns i (omega arith)) ∙ ap (λ (l : List ℕ). get_or l i 0) e ∙ patterns_at body b (places_of o) i h

-- ---- the places of the order that was found

module _ (T : Table) (body : List Call) (b : Bound) (o : Order) (e : some (places_of o) ≡ first_good T body b) where
  abbrev pub order : List ℕ
  order = or_none (first_good T body b)

  pub order_long : length (places_of o) ≡ length order
  order_long = ap (λ σ. length (or_none σ)) e

  pub order_at : (i : ℕ) → i < length (places_of o) → get_or o.places i 0 ≡ get_or order i 0
  order_at i h = sym (first_at o.n o.places i h) ∙ ap (λ σ. get_or (or_none σ) i 0) e

  pub order_below : (i : ℕ) → i < length (places_of o) → get_or o.places i 0 < length body
  order_below i h = let q = order_at i h in let l = order_long in let r = first_below T body b i (omega arith) in omega arith

  -- the pattern beside a place is that of the call there
  pub order_pattern : patterns_of o ≡ patterns_in body b (places_of o) → (i : ℕ) → i < length (places_of o)
      → get_or o.patterns i 0 ≡ pattern_of (ran body b (take i order)) (at body (get_or order i 0)).args
  order_pattern t i h =
      pattern_beside body b o t i h
      ∙ ap (λ (σ : Option (List ℕ)). pattern_of (ran body b (take i (or_none σ))) (at body (get_or (or_none σ) i 0)).args) e

  -- of a call that was read, with six arguments at most
  pub pattern_low : patterns_of o ≡ patterns_in body b (places_of o) → (i : ℕ) → i < length (places_of o) → (s : ℕ)
      → call_in s ≡ get_or body (get_or o.places i 0) no_call → get_or o.patterns i 0 < all_patterns
  unfolding at
  pattern_low t i h s q =
      let r = order_pattern t i h in
      let n = args_count s in
      let a : (call_in s).args ≡ (at body (get_or order i 0)).args = ap (λ (c : Call). c.args) (q ∙ ap (λ (p : ℕ). get_or body p no_call) (order_at i h)) in
      let l = pattern_small (ran body b (take i order)) max_arity (at body (get_or order i 0)).args (rw (← a) (omega arith)) in
      omega arith

-- ---- the calls of an order, one by one

pub asks_values : (body : List Call) (b : Bound) (σ : List ℕ) (i : ℕ) → i ≤ length σ
    → values (λ j. record { pred = (at body (get_or σ j 0)).pred; pattern = pattern_of (ran body b (take j σ)) (at body (get_or σ j 0)).args }) i
    ≡ asks body b (take i σ)
unfolding asks
asks_values body b σ zero h = refl
asks_values body b σ (suc i) h =
    rw (take-suc σ i 0 (omega arith), asks_snoc body b (take i σ) (get_or σ i 0))
    (ap (λ (l : List Asked). l ++ (record { pred = (at body (get_or σ i 0)).pred; pattern = pattern_of (ran body b (take i σ)) (at body (get_or σ i 0)).args } ∷ []))
    (asks_values body b σ i (omega arith)))
