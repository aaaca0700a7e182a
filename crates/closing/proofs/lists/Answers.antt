-- `closing::lists` promises nothing; a word that has bit 0 is not 0. Assumes nothing.
use Rattle.std.proofs.Common.{arith}
use Rattle.std.proofs.lemmas.Nat.{le_or_r}
use Rattle.closing.proofs.lists.Goals as goal

pub ilog2-requires : goal.ilog2-requires
ilog2-requires c = let h = le_or_r c.args.set 1 in omega arith
