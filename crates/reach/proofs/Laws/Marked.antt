-- Marks and the calls that they are of: none, one, and those of one list after those of another. Assumes nothing.
use mathlib.Core.Path.{◌≡◌, refl, sym, ap, ap₂, ◌∙◌, subst}
use mathlib.Core.Bool.{Bool, ◌&&◌, ◌||◌, or_assoc, or-false}
use mathlib.Core.List.{List, [], ◌∷◌, ◌++◌}
use mathlib.Core.Option.{none}
use Prim.Native.Nat.{ℕ, ◌^◌, ◌<◌}
use lib.Bits.{bit_or}
use lib.Dec.{eqb}
use lib.ListN.{length, get_or, set}
use Rattle.book.specs.Book.{Call, Head, Clause}
use Rattle.book.specs.Held.{head_in}
use Rattle.book.specs.Table.{Table}
use Rattle.ordering.specs.Adorn.{Bound, head_bound}
use Rattle.ordering.specs.Good.{first_good}
use Rattle.ordering.specs.Asks.{Asked, asks, called}
use Rattle.ordering.specs.Held.{or_none}
use Rattle.ordering.specs.declared.order.Order.{Order}
use Rattle.reach.specs.Marked.{marked_at, Marked, Found, calls_by}
use Rattle.masks.proofs.Laws.Lists.{any_append}
use Rattle.masks.proofs.Laws.Set.{bit_at_zero, bit_at_or, bit_at_power, eqb_comm}
use Rattle.book.proofs.Laws.Sets.{stored_more}

pub marked_nil : (words : List ℕ) → Marked words words 0 []
marked_nil words = record { marks = λ q b. sym (or-false (marked_at words q b)); names· = bit_at_zero }

pub marked_append : {before between after : List ℕ} {n m : ℕ} {xs ys : List Asked} → Marked before between n xs → Marked between after m ys
    → Marked before after (bit_or n m) (xs ++ ys)
marked_append {before} {n = n} {m} {xs} {ys} f g = record {
  marks = λ q b.
      g.marks q b
      ∙ ap (λ (x : Bool). x || called q b ys) (f.marks q b)
      ∙ or_assoc (marked_at before q b) (called q b xs) (called q b ys)
      ∙ ap (λ (x : Bool). marked_at before q b || x) (sym (any_append (λ (x : Asked). eqb x.pred q && eqb x.pattern b) xs ys));
  names· = λ q.
      bit_at_or n m q
      ∙ ap₂ (λ (x y : Bool). x || y) (f.names· q) (g.names· q)
      ∙ sym (any_append (λ (x : Asked). eqb x.pred q) xs ys);
}

-- pattern a of predicate p
pub marked_one : (words : List ℕ) (p a : ℕ) → p < length words
    → Marked words (set words p (bit_or (get_or words p 0) (2 ^ a))) (2 ^ p) (record { pred = p; pattern = a } ∷ [])
marked_one words p a h = record {
  marks = λ q b.
      stored_more words p a h q b
      ∙ ap (λ (x : Bool). marked_at words q b || (x && eqb a b)) (eqb_comm q p)
      ∙ ap (λ (x : Bool). marked_at words q b || x) (sym (or-false (eqb p q && eqb a b)));
  names· = λ q. bit_at_power p q ∙ eqb_comm q p ∙ sym (or-false (eqb p q));
}

-- the calls of a clause, by its head as it was read and what that binds
pub found_clause : (T : Table) (c : Clause) (a head : ℕ) {b : Bound} {o : Order} → head_in head ≡ c.head → b ≡ head_bound (head_in head).args a
    → Found T c.body b o → Found T c.body (head_bound c.head.args a) o
found_clause T c a head {o = o} e f = subst (λ (b : Bound). Found T c.body b o) (f ∙ ap (λ (h : Head). head_bound h.args a) e)

-- without an order there are no calls to mark
pub none_marks : (T : Table) (body : List Call) (b : Bound) (before : List ℕ) → none ≡ first_good T body b → Marked before before 0 (calls_by T body b)
unfolding calls_by asks
none_marks T body b before g = rw (← g) (marked_nil before)

-- where there is no such order, the clause has no calls
pub found_none : (T : Table) (c : Clause) (a head : ℕ) {b : Bound} → head_in head ≡ c.head → b ≡ head_bound (head_in head).args a
    → none ≡ first_good T c.body b → calls_by T c.body (head_bound c.head.args a) ≡ []
unfolding calls_by asks
found_none T c a head e f g =
    ap (λ (b : Bound). asks c.body b (or_none (first_good T c.body b))) (sym (f ∙ ap (λ (h : Head). head_bound h.args a) e))
    ∙ rw (← g) refl
