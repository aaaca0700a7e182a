-- What is read of a call, and what the readers leave beside their answers: bytes in an array that is lent, which may have no room for them. Where it has
-- none, a store leaves it as it was. Assumes nothing.
use Rattle.std.specs.Prelude.{◌≡◌, Bool, List, [], ◌∷◌, ℕ, ◌*◌, ◌≤◌, ◌<◌, length, Result, Ok}
use Rattle.std.specs.Borrow.{Bor}
use Rattle.std.proofs.lemmas.List.Edits.{sets}
use Rattle.masks.specs.Limits.{max_masks}
use Rattle.book.specs.Limits.{max_predicates}
use Rattle.book.specs.Book.{Head, Mode}
use Rattle.book.specs.Format.{Got, got, and_then, bytes}
use Rattle.book.specs.Held.{head_in, call_in, mode_size, modes_size, StoredMode}
use Rattle.book.specs.declared.range.Range.{Range}
use Rattle.records.specs.declared.fault.FaultFromEnd.{FaultFromEnd}
use Rattle.records.specs.Read.{value, rest, alone, Reads}

-- ---- a call

-- what follows the predicate p of a call: n arguments
unfoldable pub arguments : Range → ℕ → ℕ → List ℕ → Got Head
arguments r p n s = and_then (bytes r n [] s) (λ args t. got (record { pred = p; args = args }) t)

-- a predicate and its arguments are read into the word of a call, which says of itself whether it is negated
pub record ReadsCall (r : Result (ℕ × Bor (List ℕ)) FaultFromEnd) (negated : Bool) (g : Got Head) : Type 0 where
  pub reads : Reads rest r (λ v. head_in (value v)) g
  pub sign : (v : ℕ × Bor (List ℕ)) → r ≡ Ok v → (call_in (value v)).negated ≡ negated

-- ---- bytes that are stored

-- bytes are read, and stored from a place on: where there is a fault, those before it
pub record ReadsBytes (r : Result (Bor (List ℕ)) FaultFromEnd) (start : ℕ) (before after : List ℕ) (g : Got (List ℕ)) : Type 0 where
  pub bytes : List ℕ
  pub reads : Reads alone r (λ t. bytes) g
  pub stored : after ≡ sets before start bytes

-- masks are read, and stored as those of predicate p: that it has MO, how many they are, and each
pub record ReadsMasks (r : Result (Bor (List ℕ)) FaultFromEnd) (p : ℕ) (before after : List ℕ) (g : Got (List ℕ)) : Type 0 where
  pub masks : List ℕ
  pub reads : Reads alone r (λ t. masks) g
  pub few : (t : Bor (List ℕ)) → r ≡ Ok t → length masks ≤ max_masks
  pub stored : (t : Bor (List ℕ)) → r ≡ Ok t → after ≡ sets before (p * mode_size) (1 ∷ length masks ∷ masks)

-- a mode is read, and stored where there is room for those of all predicates; what is answered is its predicate
pub record ReadsMode (r : Result (ℕ × Bor (List ℕ)) FaultFromEnd) (before after : List ℕ) (g : Got Mode) : Type 0 where
  pub masks : List ℕ
  pub reads : Reads rest r (λ v. record { pred = value v; masks = masks }) g
  pub few : (v : ℕ × Bor (List ℕ)) → r ≡ Ok v → value v < max_predicates
  pub stored : (v : ℕ × Bor (List ℕ)) → r ≡ Ok v → length before ≡ modes_size → StoredMode before after (value v) masks
