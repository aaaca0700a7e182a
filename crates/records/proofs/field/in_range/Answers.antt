-- `records::field::in_range` meets its contract. Case by case; a byte from 254 on is 254 or 255. Assumes nothing.
use native.Mathlib.Omega.{arith}
use borrow.Author.Tests.{le-leb, lt-leb}
use Rattle.book.specs.Format.{allows}
use Rattle.records.proofs.Laws.Reads.{wildcard_is}
use Rattle.records.proofs.field.in_range.Goals as goal

pub returns-in-Below : goal.returns-in-Below
unfolding allows
returns-in-Below c = rw c.in-Below.is

pub returns-in-AtMost : goal.returns-in-AtMost
unfolding allows
returns-in-AtMost c = rw c.in-AtMost.is

pub returns-then-x-le-LAST_VARIABLE : goal.returns-then-x-le-LAST_VARIABLE
unfolding allows
returns-then-x-le-LAST_VARIABLE c = rw (c.in-Argument.is, le-leb c.args.x 15 c.if-x-le-LAST_VARIABLE.true)

pub returns-else-x-le-LAST_VARIABLE : goal.returns-else-x-le-LAST_VARIABLE
unfolding allows
returns-else-x-le-LAST_VARIABLE c = rw (c.in-Argument.is, lt-leb c.args.x 15 c.if-x-le-LAST_VARIABLE.false) (wildcard_is c.args.x (omega arith))

pub returns-then-x-le-LAST_VARIABLE-2 : goal.returns-then-x-le-LAST_VARIABLE-2
unfolding allows
returns-then-x-le-LAST_VARIABLE-2 c = rw (c.in-NoWildcard.is, le-leb c.args.x 15 c.if-x-le-LAST_VARIABLE-2.true)

pub returns-else-x-le-LAST_VARIABLE-2 : goal.returns-else-x-le-LAST_VARIABLE-2
unfolding allows
returns-else-x-le-LAST_VARIABLE-2 c = rw (c.in-NoWildcard.is, lt-leb c.args.x 15 c.if-x-le-LAST_VARIABLE-2.false)
