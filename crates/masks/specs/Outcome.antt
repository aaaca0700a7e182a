-- What an operation answers, and what it leaves in the room lent to it: one shape for every operation of every crate. Assumes nothing.
use Rattle.std.specs.Prelude.{cond, List, ◌++◌, ◌≡◌, ℕ, ltb, length, drop, Result, Ok, Err}
use Rattle.masks.specs.declared.reply.Reply.{Reply}
use Rattle.masks.specs.declared.reply.TooShort.{TooShort}

-- What comes of an input, whatever the room: a refusal with its number and value, or a result of so many rounds (0 but for the analysis).
pub data Outcome : Type 0 where
  refused : (number value : ℕ) → Outcome
  done : (rounds : ℕ) (bytes : List ℕ) → Outcome

-- "9: the output is shorter than needed; bytes needed". "0: done; bytes written; the analysis also gives its rounds (0 at any refusal)": what a
-- result of n bytes and so many rounds is answered with in a room of so many bytes
unfoldable pub in_room : (n rounds room : ℕ) → Reply
in_room n rounds room = cond (ltb room n) (record { number = 9; value = n; rounds = 0 }) (record { number = 0; value = n; rounds = rounds })

-- what an outcome is answered with, in a room of so many bytes
unfoldable pub reply : Outcome → ℕ → Reply
reply (refused number value) room = record { number = number; value = value; rounds = 0 }
reply (done rounds bytes) room = in_room (length bytes) rounds room

-- "On a refusal no output byte changes. On success the output is written from its start and the bytes after it stay."
unfoldable pub left : Outcome → List ℕ → List ℕ
left (refused number value) out = out
left (done rounds bytes) out = cond (ltb (length out) (length bytes)) out (bytes ++ drop (length bytes) out)

-- an operation with outcome o, lent the bytes out, replies r and leaves the bytes after
pub record Answers (o : Outcome) (out : List ℕ) (r : Reply) (after : List ℕ) : Type 0 where
  pub replies : r ≡ reply o (length out)
  pub leaves : after ≡ left o out

-- ---- the code's answers, before they are replies

-- "9", with the "bytes needed"
abbrev pub nine : TooShort → Reply
nine e = record { number = 9; value = e.needed; rounds = 0 }

-- the reply, or that of an error
abbrev pub reply_of : {E : Type 0} → (E → Reply) → Result Reply E → Reply
reply_of refusal (Ok r) = r
reply_of refusal (Err e) = refusal e
