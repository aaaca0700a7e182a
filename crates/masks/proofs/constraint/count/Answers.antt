-- `masks::constraint::count` meets its contract. A word of 64 bits has as many members as bits that are set. Assumes nothing.
use lib.Count.{ones-le}
use borrow.Author.Rules.{rules}
use Rattle.masks.proofs.Laws.Sets.{ones_members}
use Rattle.masks.proofs.constraint.count.Goals as goal

pub returns : goal.returns
returns c = record { value = ones_members c.args.set (search rules); upper_bound = ones-le 64 c.args.set (search rules) }
