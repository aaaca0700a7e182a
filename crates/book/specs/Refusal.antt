-- The refusals of an operation on a book as replies: document 01, "Replies". Assumes nothing.
use Rattle.masks.specs.Outcome.{nine}
use Rattle.masks.specs.declared.reply.Reply.{Reply}
use Rattle.book.specs.Format.{number}
use Rattle.book.specs.declared.refusal.Refusal.{Refusal}
use Rattle.book.specs.declared.refusal.Refusal.TheVariants.{Fault, NoOrder, Lacks, TooShort}

-- the number and the value
abbrev pub reply : Refusal → Reply
reply (Fault e) = record { number = number e.fault; value = e.at; rounds = 0 }
reply NoOrder = record { number = 7; value = 0; rounds = 0 }
reply (Lacks p) = record { number = 8; value = p; rounds = 0 }
reply (TooShort e) = nine e
