-- W1: "One tally record, of queries accepted and turned away, is lent to each step and kept up to date; a call that succeeds starts it at zero, a refused one
-- doesn't touch it." Every definition computes. Assumes nothing.
use Rattle.std.specs.Prelude.{◌≡◌, Bool, true, false, cond, List, [], ◌∷◌, ℕ, ◌+◌, ◌<◌, ◌^◌, ltb, length}
use Rattle.masks.specs.Outcome.{Outcome, refused, done, Answers}
use Rattle.masks.specs.declared.reply.Reply.{Reply}
use Rattle.tally.specs.declared.Tally.{Tally}

-- there is room for one more on either side
abbrev pub Roomy : Tally → Type 0
Roomy t = (t.accepted + 1 < 2 ^ 64) × (t.turned_away + 1 < 2 ^ 64)

-- "of queries accepted and turned away": one more query, accepted or not
unfoldable pub tallied : Tally → Bool → Tally
tallied t true = record { accepted = t.accepted + 1; turned_away = t.turned_away }
tallied t false = record { accepted = t.accepted; turned_away = t.turned_away + 1 }

-- "kept up to date": one query after the other
unfoldable pub tally_from : Tally → List Bool → Tally
tally_from t [] = t
tally_from t (accepted ∷ rest) = tally_from (tallied t accepted) rest

abbrev pub zeroes : Tally
zeroes = record { accepted = 0; turned_away = 0 }

-- "a call that succeeds starts it at zero, a refused one doesn't touch it": what a call with outcome o, lent so much room, leaves of the tally old; the list
-- tells of each query whether it is accepted
unfoldable pub left_tally : Outcome → ℕ → List Bool → Tally → Tally
left_tally (refused number value) room each old = old
left_tally (done rounds bytes) room each old = cond (ltb room (length bytes)) old (tally_from zeroes each)

-- an operation with outcome o, lent the bytes out and the tally old, replies r and leaves the bytes after and the tally t
pub record Tallies (o : Outcome) (each : List Bool) (out : List ℕ) (old : Tally) (r : Reply) (after : List ℕ) (t : Tally) : Type 0 where
  pub answers : Answers o out r after
  pub tally· : t ≡ left_tally o (length out) each old
