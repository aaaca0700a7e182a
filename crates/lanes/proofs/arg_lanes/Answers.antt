-- `lanes::arg_lanes` meets its contract: a literal is bound in all lanes, a variable in those of its word, a wildcard in none. Assumes nothing.
use native.Mathlib.Omega.{arith}
use Rattle.lanes.proofs.Laws.Steps.{arg_literal, arg_var, arg_other}
use Rattle.lanes.proofs.arg_lanes.Goals as goal

pub returns-then-v-eq-LITERAL : goal.returns-then-v-eq-LITERAL
returns-then-v-eq-LITERAL c = let args = c.args in arg_literal args.vars.now args.v (omega arith)

pub returns-then-v-le-LAST_VARIABLE : goal.returns-then-v-le-LAST_VARIABLE
returns-then-v-le-LAST_VARIABLE c =
    let args = c.args in
    arg_var args.vars.now args.v c.if-v-eq-LITERAL.false (omega arith)

pub returns : goal.returns
returns c = let args = c.args in arg_other args.vars.now args.v c.if-v-eq-LITERAL.false (omega arith)
