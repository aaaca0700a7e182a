-- The answer to one query: by the order that was found, if one was. Assumes nothing.
use mathlib.Core.Path.{◌≡◌, refl, ap, ◌∙◌}
use mathlib.Core.List.{List}
use Prim.Native.Nat.{◌≤◌}
use native.Mathlib.Omega.{arith}
use lib.ListN.{length}
use Rattle.std.specs.declared.option.Option as std
use Rattle.std.specs.declared.option.Option.TheVariants.{Some, None}
use Rattle.std.specs.Prelude.{is_some}
use Rattle.book.specs.Limits.{max_subgoals}
use Rattle.book.specs.Book.{Call}
use Rattle.book.specs.Table.{Table}
use Rattle.ordering.specs.Adorn.{nothing}
use Rattle.ordering.specs.Good as good
use Rattle.ordering.specs.Good.{first_good}
use Rattle.ordering.specs.Held.{order_of}
use Rattle.ordering.specs.declared.order.Order.{Order}
use Rattle.paging.specs.Page.{answered, answer, accepts}
use Rattle.paging.proofs.Laws.Page.{answer_length}

some_found : (o : std.Option Order) → is_some o ≡ good.is_some (order_of o)
some_found None = refl
some_found (Some o) = refl

-- the order is the query's first good one
module _ (T : Table) (q : List Call) (o : std.Option Order) (e : order_of o ≡ first_good T q nothing) where
  pub order_answer : answered (order_of o) ≡ answer T q
  unfolding answer
  order_answer = ap answered e

  pub order_accepts : is_some o ≡ accepts T q
  unfolding accepts
  order_accepts = some_found o ∙ ap good.is_some e

  pub order_room : length q ≤ max_subgoals → length (answered (order_of o)) ≤ 12
  order_room h = let l = answer_length T q in let d = ap length order_answer in omega arith
