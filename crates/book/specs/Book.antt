-- Document 01: "A book holds predicates, mode alternatives, clauses and one query." Assumes nothing.
use Rattle.std.specs.Prelude.{Bool, false, List, [], ℕ}

-- The head of a clause: "predicate, one argument per position". "0 to 15 is a variable of that clause or query, 255 a literal, 254 a wildcard
-- (subgoals only)".
pub record Head : Type 0 where
  pub pred : ℕ
  pub args : List ℕ

-- A subgoal: the same, and document 02's W9: "The shared record of a subgoal gains this mark", that it says "not"
pub record Call : Type 0 where
  pub negated : Bool
  pub pred : ℕ
  pub args : List ℕ

-- the subgoal of a predicate and its arguments, negated or not
abbrev pub subgoal_of : Bool → Head → Call
subgoal_of negated h = record { negated = negated; pred = h.pred; args = h.args }

-- the head and the call that say nothing, for places where there is none
abbrev pub no_head : Head
no_head = record { pred = 0; args = [] }

abbrev pub no_call : Call
no_call = subgoal_of false no_head

-- "MO: predicate, n, n masks; n alternatives", in the order given
pub record Mode : Type 0 where
  pub pred : ℕ
  pub masks : List ℕ

-- "CL: a clause head", and the subgoals that follow it
pub record Clause : Type 0 where
  pub head : Head
  pub body : List Call

-- the clause that says nothing
abbrev pub no_clause : Clause
no_clause = record { head = no_head; body = [] }

-- the arity of each predicate, "numbered from 0"; modes, clauses and the subgoals of the query in the order given
pub record Book : Type 0 where
  pub arities : List ℕ
  pub modes : List Mode
  pub clauses : List Clause
  pub query : List Call

-- W1: "that query in place of the book's own"
abbrev pub with_query : Book → List Call → Book
with_query B q = record { arities = B.arities; modes = B.modes; clauses = B.clauses; query = q }
