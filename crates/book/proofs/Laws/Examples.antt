-- Document 01's book of 45 bytes, the places of faults, and W9's subgoals that say "not", by computing. Assumes nothing.
use mathlib.Core.Path.{◌≡◌, refl}
use mathlib.Core.Bool.{Bool, true, false}
use mathlib.Core.List.{List, [], ◌∷◌, ◌++◌, map}
use Prim.Native.Nat.{ℕ}
use lib.ListN.{replicate}
use Rattle.book.specs.Book.{Call, Book}
use Rattle.book.specs.Format.{mark_at, allows, bytes, many, low_from, predicate, masks, mode_fields, mode, fields, subgoal, clause, query, rules, read_book, fault, book, judge}
use Rattle.book.specs.Encode.{PR, MO, CL, SG, NG, QU, run, encode}
use Rattle.book.specs.declared.fault.Fault.TheVariants.{PastEnd, NoMark, OutOfTurn, OutOfRange, TooMany, Clash}

unfoldable pub compute : Unit {0}
unfolding mark_at allows bytes many low_from predicate masks mode_fields mode fields subgoal clause query rules read_book judge encode
compute = tt

-- a subgoal, negated or not, of a predicate with arguments
abbrev goal : Bool → ℕ → List ℕ → Call
goal n p args = record { negated = n; pred = p; args = args }

-- "Clause: fault(H) :- low(V), volts(H,V). Query: fault(H), head(H)."
unfoldable pub k1_book : Book
k1_book = record {
  arities = 1 ∷ 2 ∷ 1 ∷ 1 ∷ [];
  modes = record { pred = 1; masks = 1 ∷ [] } ∷ record { pred = 3; masks = 1 ∷ [] } ∷ [];
  clauses = record {
    head = record { pred = 2; args = 0 ∷ [] };
    body = goal false 3 (1 ∷ []) ∷ goal false 1 (0 ∷ 1 ∷ []) ∷ [];
  } ∷ [];
  query = goal false 2 (0 ∷ []) ∷ goal false 0 (0 ∷ []) ∷ [];
}

pub k1 : judge (80 ∷ 82 ∷ 1 ∷ 80 ∷ 82 ∷ 2 ∷ 80 ∷ 82 ∷ 1 ∷ 80 ∷ 82 ∷ 1 ∷ 77 ∷ 79 ∷ 1 ∷ 1 ∷ 1 ∷ 77 ∷ 79 ∷ 3 ∷ 1 ∷ 1 ∷ 67 ∷ 76 ∷ 2 ∷ 0
    ∷ 83 ∷ 71 ∷ 3 ∷ 1 ∷ 83 ∷ 71 ∷ 1 ∷ 0 ∷ 1 ∷ 81 ∷ 85 ∷ 83 ∷ 71 ∷ 2 ∷ 0 ∷ 83 ∷ 71 ∷ 0 ∷ 0 ∷ []) ≡ book k1_book
unfolding compute k1_book
k1 = refl

-- "the shortest 2 (QU alone)"
pub shortest_book : judge (81 ∷ 85 ∷ []) ≡ book (record { arities = []; modes = []; clauses = []; query = [] })
unfolding compute
shortest_book = refl

-- ---- W2's places

-- one predicate of arity 1 and one of arity 2, six bytes, and what follows them
abbrev two : List ℕ → List ℕ
two rest = PR (1 ∷ []) ++ PR (2 ∷ []) ++ rest

-- "for 3 where the book ends without `QU`, it is the book's length"
no_query : judge (two (CL (0 ∷ 0 ∷ []))) ≡ fault OutOfTurn 10
unfolding compute
no_query = refl

empty : judge [] ≡ fault OutOfTurn 0
unfolding compute
empty = refl

-- "For 1 .. it is the book's length": in a mark, and in the fields of each record
past_end : map judge (
    two (81 ∷ [])
    ∷ two (PR [])
    ∷ two (MO (1 ∷ 2 ∷ 3 ∷ []))
    ∷ two (CL (1 ∷ 0 ∷ []))
    ∷ two (QU ++ SG (1 ∷ []))
    ∷ []
    ) ≡ fault PastEnd 7 ∷ fault PastEnd 8 ∷ fault PastEnd 11 ∷ fault PastEnd 10 ∷ fault PastEnd 11 ∷ []
unfolding compute
past_end = refl

-- "the mark's first byte for 2, 3 and 5": no mark; PR behind MO, SG behind PR, a second QU; a 65th PR, a 65th CL, a 9th SG
no_mark : judge (two (81 ∷ 79 ∷ [])) ≡ fault NoMark 6
unfolding compute
no_mark = refl

out_of_turn : map judge (two (MO (0 ∷ 0 ∷ []) ++ PR (1 ∷ [])) ∷ two (SG (0 ∷ 0 ∷ [])) ∷ two (QU ++ QU) ∷ []) ≡ fault OutOfTurn 10 ∷ fault OutOfTurn 6 ∷ fault OutOfTurn 8 ∷ []
unfolding compute
out_of_turn = refl

too_many : map judge (run PR (replicate 65 (0 ∷ [])) ∷ (PR (0 ∷ []) ++ run CL (replicate 65 (0 ∷ []))) ∷ two (QU ++ run SG (replicate 9 (0 ∷ 0 ∷ []))) ∷ []) ≡ fault TooMany 192 ∷ fault TooMany 195 ∷ fault TooMany 40 ∷ []
unfolding compute
too_many = refl

-- "the byte out of range for 4": an arity; a predicate of MO, CL and SG; n; a mask; an argument of CL and of SG
out_of_arity : judge (two (PR (7 ∷ []))) ≡ fault OutOfRange 8
unfolding compute
out_of_arity = refl

out_of_range : map judge (
    two (MO (2 ∷ []))
    ∷ two (CL (2 ∷ []))
    ∷ two (QU ++ SG (2 ∷ []))
    ∷ two (MO (1 ∷ 21 ∷ []))
    ∷ two (MO (1 ∷ 2 ∷ 3 ∷ 4 ∷ []))
    ∷ two (CL (1 ∷ 0 ∷ 254 ∷ []))
    ∷ two (QU ++ SG (1 ∷ 254 ∷ 16 ∷ []))
    ∷ []
    ) ≡ fault OutOfRange 8 ∷ fault OutOfRange 8 ∷ fault OutOfRange 10 ∷ fault OutOfRange 9 ∷ fault OutOfRange 11 ∷ fault OutOfRange 10 ∷ fault OutOfRange 12 ∷ []
unfolding compute
out_of_range = refl

-- "the predicate byte for 6": MO not rising, the same twice and a lower one
clash : map judge (two (MO (1 ∷ 0 ∷ []) ++ MO (1 ∷ 1 ∷ 0 ∷ [])) ∷ two (MO (1 ∷ 0 ∷ []) ++ MO (0 ∷ 0 ∷ [])) ∷ []) ≡ fault Clash 12 ∷ fault Clash 12 ∷ []
unfolding compute
clash = refl

-- W6: "the second ground for 6 is gone": MO and a clause for one predicate are a book
both : judge (two (MO (0 ∷ 1 ∷ 1 ∷ []) ++ CL (0 ∷ 0 ∷ []) ++ QU))
    ≡ book (record {
      arities = 1 ∷ 2 ∷ [];
      modes = record { pred = 0; masks = 1 ∷ [] } ∷ [];
      clauses = record { head = record { pred = 0; args = 0 ∷ [] }; body = [] } ∷ [];
      query = [];
    })
unfolding compute
both = refl

-- ---- W9's sixth mark

-- "`NG`, has the fields and turn of `SG`": of either kind a clause and the query have both, in any turn, and are written as they were read
abbrev signs : Book
signs = record {
  arities = 1 ∷ 2 ∷ [];
  modes = [];
  clauses = record { head = record { pred = 0; args = 0 ∷ [] }; body = goal true 1 (0 ∷ 255 ∷ []) ∷ goal false 1 (0 ∷ 254 ∷ []) ∷ [] } ∷ [];
  query = goal false 0 (3 ∷ []) ∷ goal true 0 (3 ∷ []) ∷ [];
}

both_signs : judge (two (CL (0 ∷ 0 ∷ []) ++ NG (1 ∷ 0 ∷ 255 ∷ []) ++ SG (1 ∷ 0 ∷ 254 ∷ []) ++ QU ++ SG (0 ∷ 3 ∷ []) ++ NG (0 ∷ 3 ∷ []))) ≡ book signs
unfolding compute
both_signs = refl

signs_written : encode signs ≡ two (CL (0 ∷ 0 ∷ []) ++ NG (1 ∷ 0 ∷ 255 ∷ []) ++ SG (1 ∷ 0 ∷ 254 ∷ []) ++ QU ++ SG (0 ∷ 3 ∷ []) ++ NG (0 ∷ 3 ∷ []))
unfolding compute
signs_written = refl

not_in_turn : map judge (two (NG (0 ∷ 0 ∷ [])) ∷ two (CL (0 ∷ 0 ∷ []) ++ MO []) ∷ two (QU ++ NG (1 ∷ 0 ∷ [])) ∷ []) ≡ fault OutOfTurn 6 ∷ fault OutOfTurn 10 ∷ fault PastEnd 12 ∷ []
unfolding compute
not_in_turn = refl

-- "254 in an `NG` is 4", at its byte; so is a predicate that is not there
not_any : map judge (two (QU ++ NG (1 ∷ 0 ∷ 254 ∷ [])) ∷ two (CL (0 ∷ 0 ∷ []) ++ NG (0 ∷ 254 ∷ []) ++ QU) ∷ two (QU ++ NG (2 ∷ [])) ∷ []) ≡ fault OutOfRange 12 ∷ fault OutOfRange 13 ∷ fault OutOfRange 10 ∷ []
unfolding compute
not_any = refl

-- "5 covers `SG` and `NG` together": eight of the one and a ninth of the other
abbrev eight : (List ℕ → List ℕ) → List ℕ
eight mark = run mark (replicate 8 (0 ∷ 0 ∷ []))

too_many_together : map judge (two (QU ++ eight SG ++ NG (0 ∷ 0 ∷ [])) ∷ two (CL (0 ∷ 0 ∷ []) ++ eight NG ++ SG (0 ∷ 0 ∷ [])) ∷ two (QU ++ eight NG ++ NG (0 ∷ 0 ∷ [])) ∷ []) ≡ fault TooMany 40 ∷ fault TooMany 42 ∷ fault TooMany 40 ∷ []
unfolding compute
too_many_together = refl
