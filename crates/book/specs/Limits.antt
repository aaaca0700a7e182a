-- Document 01, "Numbers": "At most 64 predicates, 64 clauses, 8 subgoals in a body or query". Arity and alternatives are in the crate `masks`.
-- Assumes nothing.
use Rattle.std.specs.Prelude.{ℕ}

abbrev pub max_predicates : ℕ
max_predicates = 64

abbrev pub max_clauses : ℕ
max_clauses = 64

abbrev pub max_subgoals : ℕ
max_subgoals = 8

-- W1: "A portal page asks up to 256 queries"
abbrev pub max_queries : ℕ
max_queries = 256

-- W6: "The longest book grows to 6,986 bytes"; document 01: "the shortest 2"
abbrev pub longest : ℕ
longest = 6986

abbrev pub shortest : ℕ
shortest = 2

-- "The longest plan is 53,259 bytes."
abbrev pub longest_plan : ℕ
longest_plan = 53259

-- three sizes that follow. No answer to a page is longer: for each of 256 queries 0, a mark, n and 8 places
abbrev pub longest_page : ℕ
longest_page = 3072

-- no image of a table is longer: for each of 64 predicates a mark, its number, n, 20 masks and W5's count
abbrev pub longest_table : ℕ
longest_table = 1600

-- no printed sheet is: a line has at most three times as many bytes as the record it comes from, and the rounds take at most seven
abbrev pub longest_sheet : ℕ
longest_sheet = 164584
