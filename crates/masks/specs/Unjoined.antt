-- The refusals of joining as replies: document 01, "Joining". Assumes nothing.
use Rattle.std.specs.Prelude.{◌≡◌, Result, Ok, Err, ℕ}
use Rattle.masks.specs.Outcome.{nine}
use Rattle.masks.specs.declared.reply.Reply.{Reply}
use Rattle.masks.specs.declared.Unjoined.{Unjoined}
use Rattle.masks.specs.declared.Unjoined.TheVariants.{OutOfRange, TooMany, TooShort}

-- "Arity over 6 or a mask out of range is 4, a list over 20 is 5, with the value 0; .. then 9", with the bytes needed
abbrev pub reply : Unjoined → Reply
reply OutOfRange = record { number = 4; value = 0; rounds = 0 }
reply TooMany = record { number = 5; value = 0; rounds = 0 }
reply (TooShort e) = nine e

-- the reply of the fault of this number
abbrev pub told : ℕ → Reply
told f = record { number = f; value = 0; rounds = 0 }

-- a trial has found the fault of this number; 0 is none
abbrev pub Finds : {A : Type 0} → Result A Unjoined → ℕ → Type 0
Finds (Ok a) f = f ≡ 0
Finds (Err e) f = reply e ≡ told f
