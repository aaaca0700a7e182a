-- Bytes written into the output from a place on. Assumes nothing.
use Rattle.std.specs.Prelude.{◌≡◌, List, ℕ, ◌+◌, ◌≤◌, length}
use Rattle.std.proofs.lemmas.List.Edits.{sets}

-- there is room for l from a place on
abbrev pub Room : List ℕ → ℕ → List ℕ → Type 0
Room out at l = at + length l ≤ length out

-- l stands there now, all else is as it was, and next is the place after it
pub record Wrote (before after : List ℕ) (at next : ℕ) (l : List ℕ) : Type 0 where
  pub ends : next ≡ at + length l
  pub is : after ≡ sets before at l
