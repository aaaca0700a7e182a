-- How the code holds an order, and what is bound. Assumes nothing.
use Rattle.std.specs.Prelude.{◌≡◌, Bool, true, false, not, ◌&&◌, ◌||◌, List, [], ◌∷◌, ℕ, ◌+◌, ◌*◌, ◌%◌, ◌^◌, eqb, length, take}
use Rattle.std.specs.declared.option.Option as std
use Rattle.std.specs.declared.option.Option.TheVariants.{Some, None}
use Rattle.std.proofs.Math.Option.{Option, none, some}
use Rattle.std.specs.Int.Bits.{bit_or}
use Rattle.masks.specs.Lists.{values}
use Rattle.masks.specs.Set.{bit_at}
use Rattle.book.specs.Limits.{max_subgoals}
use Rattle.book.specs.Book.{Call}
use Rattle.ordering.specs.Adorn.{variables, Bound, bit, pattern_of}
use Rattle.ordering.specs.Orders.{find, count}
use Rattle.ordering.specs.Good.{at}
use Rattle.ordering.specs.declared.order.Order.{Order}
use Rattle.ordering.specs.declared.Pick.{Pick}

-- ---- an order

-- the places of an order: the first n that it holds
abbrev pub places_of : Order → List ℕ
places_of o = take o.n o.places

-- the patterns beside them
abbrev pub patterns_of : Order → List ℕ
patterns_of o = take o.n o.patterns

-- an order, if one was found
abbrev pub order_of : std.Option Order → Option (List ℕ)
order_of None = none
order_of (Some o) = some (places_of o)

-- the places of an order, if there is one
abbrev pub or_none : Option (List ℕ) → List ℕ
or_none none = []
or_none (some σ) = σ

-- ---- what is bound, in a word

-- variable v is bound where bit v is set
unfoldable pub bound_of : ℕ → Bound
bound_of word = values (bit_at word) variables

-- inside an order bit 31 is set, for literals, and bit 30 is not, for wildcards: an argument x, 0 to 15, 254 or 255, is bound where bit x % 32 is set
pub record Marked (word : ℕ) : Type 0 where
  pub literals : bit_at word 31 ≡ true
  pub wildcards : bit_at word 30 ≡ false

-- these bits of arguments, the first one lowest
unfoldable pub marks : ℕ → List ℕ → ℕ
marks word [] = 0
marks word (x ∷ xs) = marks word xs * 2 + bit (bit_at word (x % 32))

-- the word with these bits set
unfoldable pub with_marks : ℕ → List ℕ → ℕ
with_marks word [] = word
with_marks word (x ∷ xs) = with_marks (bit_or word (2 ^ (x % 32))) xs

-- ---- a turn

-- the first place of a word that passes, if there is one
unfoldable pub picked : ℕ → (ℕ → Bool) → Option ℕ
picked left passes = find (λ p. bit_at left p && passes p) (count 0 max_subgoals)

-- the place that was picked, if there is one
abbrev pub place_of : std.Option Pick → Option ℕ
place_of None = none
place_of (Some t) = some t.place

-- a subgoal whose pattern is a member of its predicate's set can run; a negated one where that is the greatest, with every argument bound
abbrev pub can_run : ℕ → Call → ℕ → Bool
can_run word s a = bit_at word a && (not s.negated || eqb (a + 1) (2 ^ length s.args))

-- the pattern is that of the subgoal at the place
abbrev pub PatternAt : List Call → Bound → Pick → Type 0
PatternAt body b t = t.pattern ≡ pattern_of b (at body t.place).args
