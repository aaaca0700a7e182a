-- The calls of a body in its first good order, marked one after the other. Assumes nothing.
use mathlib.Core.Path.{◌≡◌, sym, ap, ap₂, ◌∙◌, subst}
use mathlib.Core.Bool.{true}
use mathlib.Core.List.{List}
use Prim.Native.Nat.{ℕ, ◌+◌, ◌^◌, ◌≤◌, ◌<◌}
use native.Mathlib.Numerals.{add-one}
use native.Mathlib.Omega.{arith}
use lib.Bits.{bit_or}
use lib.ListN.{length, get_or, set, take, length-set}
use lib.Seq.{take_all}
use Rattle.masks.specs.Lists.{values}
use Rattle.book.specs.Limits.{max_predicates}
use Rattle.book.specs.Book.{Call, no_call}
use Rattle.book.specs.Held.{call_in}
use Rattle.book.specs.Table.{Table}
use Rattle.book.specs.Sets.{callable}
use Rattle.ordering.specs.Adorn.{Bound, pattern_of}
use Rattle.ordering.specs.Good.{at, ran}
use Rattle.ordering.specs.Asks.{Asked, asks}
use Rattle.ordering.specs.Held.{places_of}
use Rattle.ordering.specs.declared.order.Order.{Order}
use Rattle.reach.specs.Marked.{Found, SomeFound, Marked, calls_by}
use Rattle.masks.proofs.Laws.Lists.{values_cong}
use Rattle.ordering.proofs.Laws.Run.{pred_read}
use Rattle.ordering.proofs.Laws.Patterns.{asks_values, order, order_long, order_at, order_below, order_pattern}
use Rattle.reach.proofs.Laws.Marked.{marked_nil, marked_append, marked_one}

-- ---- a call that is read at a place of an order

pub call_low : {body : List Call} {o : Order} → SomeFound body o → callable body ≡ true → (i : ℕ) → i < length (places_of o) → (s : ℕ) {p : ℕ}
    → call_in s ≡ get_or body (get_or o.places i 0) no_call → p ≡ (call_in s).pred → p < max_predicates
call_low {body} {o} f t i h s e d = let l = pred_read body _ e t (order_below f.0 body f.1 o f.2.first i h) in omega arith

-- ---- the loop: the first i calls are marked

-- a call as the order tells it
abbrev pub call_at : List Call → List ℕ → List ℕ → ℕ → Asked
call_at body places patterns i = record { pred = (at body (get_or places i 0)).pred; pattern = get_or patterns i 0 }

pub record Marking (body : List Call) (places patterns before : List ℕ) (n i : ℕ) (words : List ℕ) (names : ℕ) : Type 0 where
  pub most : i ≤ n
  pub size : length words ≡ max_predicates
  pub marked : Marked before words names (values (call_at body places patterns) i)

module _ {body : List Call} {places patterns before : List ℕ} {n : ℕ} where
  pub marking_start : length before ≡ max_predicates → Marking body places patterns before n 0 before 0
  marking_start e = record { most = omega arith; size = e; marked = marked_nil before }

  -- p is the predicate of the call at the next place, w its word with the pattern, and v the names with its own
  pub marking_next : {i : ℕ} {words : List ℕ} {names p w v : ℕ} (s : ℕ) → Marking body places patterns before n i words names
      → i < n → call_in s ≡ get_or body (get_or places i 0) no_call → p ≡ (call_in s).pred → p < max_predicates
      → w ≡ bit_or (get_or words p 0) (2 ^ get_or patterns i 0) → v ≡ bit_or names (2 ^ p)
      → Marking body places patterns before n (i + 1) (set words p w) v
  unfolding at
  marking_next {i} {words} {names} {p} {w} {v} s m h e d l f g =
      let z = m.size in
      let q : (at body (get_or places i 0)).pred ≡ p = sym (d ∙ ap (λ (c : Call). c.pred) e) in
      record {
        most = omega arith;
        size = length-set words p w ∙ z;
        marked = rw (add-one i, q, f, g) (marked_append m.marked (marked_one words p (get_or patterns i 0) (omega arith)));
      }

-- ---- at the end they are the calls of the order

module _ (T : Table) (body : List Call) (b : Bound) (o : Order) (found : Found T body b o) where
  pub marking_end : {before words : List ℕ} {names n i : ℕ} → Marking body o.places o.patterns before n i words names → n ≡ length (places_of o) → n ≤ i
      → Marked before words names (calls_by T body b)
  unfolding calls_by
  marking_end {before} {words} {names} {n} {i} m h d =
      let z = m.most in
      let e = found.first in
      let σ : List ℕ = order T body b o e in
      let l = order_long T body b o e in
      let F : ℕ → Asked = λ j. record { pred = (at body (get_or σ j 0)).pred; pattern = pattern_of (ran body b (take j σ)) (at body (get_or σ j 0)).args } in
      let same : (j : ℕ) → j < i → call_at body o.places o.patterns j ≡ F j =
      λ j k. ap₂ (λ (p a : ℕ). record { pred = (at body p).pred; pattern = a }) (order_at T body b o e j (omega arith)) (order_pattern T body b o e found.beside j (omega arith)) in
      subst (λ (l : List Asked). Marked before words names l)
      (values_cong (call_at body o.places o.patterns) F i same ∙ asks_values body b σ i (omega arith) ∙ ap (asks body b) (take_all i σ (omega arith)))
      m.marked
