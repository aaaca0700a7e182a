-- What reading a book comes to, and what the check answers. Assumes nothing.
use Rattle.std.specs.Prelude.{◌≡◌, List, ℕ, ◌-◌, ◌≤◌, length, take, Result, Ok, Err}
use Rattle.masks.specs.Set.{Holds}
use Rattle.masks.specs.declared.reply.Reply.{Reply}
use Rattle.book.specs.Limits.{max_predicates, max_clauses}
use Rattle.book.specs.Book.{Book}
use Rattle.book.specs.Format.{number, Judged, fault, book, judge}
use Rattle.book.specs.Held.{has_mode, modes_of, book_in, book_of}
use Rattle.book.specs.declared.held.RuleBook.{RuleBook}
use Rattle.book.specs.declared.fault.FaultAt.{FaultAt}
use Rattle.records.specs.declared.fault.FaultFromEnd.{FaultFromEnd}
use Rattle.reading.specs.declared.Reading.{Reading}

-- so many predicates are within the limits, and each has its place in an array of arities
pub record Listed (n : ℕ) (arities : List ℕ) : Type 0 where
  pub few : n ≤ max_predicates
  pub each : length (take n arities) ≡ n

-- "The check writes nothing and answers a valid book with 0 and the value 0"; a fault with its number and its place
abbrev pub checked : Judged → Reply
checked (fault f at) = record { number = number f; value = at; rounds = 0 }
checked (book b) = record { number = 0; value = 0; rounds = 0 }

-- what was read, or a fault with its offset in the bytes s
abbrev pub placed : List ℕ → Result Reading FaultFromEnd → Result Reading FaultAt
placed s (Ok r) = Ok r
placed s (Err e) = Err (record { fault = e.fault; at = length s - e.left })

-- the bytes s are read, whatever is stored: they are a book with so many predicates, or the fault is their first
abbrev pub Judges : List ℕ → Result Reading FaultAt → Type 0
Judges s (Ok r) = (B : Book) × (judge s ≡ book B) × (length B.arities ≡ r.preds)
Judges s (Err e) = judge s ≡ fault e.fault e.at

-- the bytes s are the book that the arrays hold, and the set has the predicates that have MO
pub record InArrays (s : List ℕ) (r : Reading) (arities modes rules : List ℕ) : Type 0 where
  pub is : judge s ≡ book (book_in r.preds arities modes r.clauses rules)
  pub listed : Listed r.preds arities
  pub few : r.clauses ≤ max_clauses
  pub given : Holds r.with_mode (has_mode (modes_of modes max_predicates))

-- the bytes s are read into the arrays lent
abbrev pub ReadsInto : List ℕ → Result Reading FaultAt → (arities modes rules : List ℕ) → Type 0
ReadsInto s (Ok r) arities modes rules = InArrays s r arities modes rules
ReadsInto s (Err e) arities modes rules = judge s ≡ fault e.fault e.at

-- the bytes s are the book that is held, and the set has the predicates that have MO
pub record BookHeld (s : List ℕ) (given· : ℕ) (b : RuleBook) : Type 0 where
  pub is : judge s ≡ book (book_of b)
  pub listed : Listed b.preds b.arities
  pub few : b.clauses ≤ max_clauses
  pub given : Holds given· (has_mode (modes_of b.modes max_predicates))

-- the bytes s are read into the room lent
abbrev pub BookRead : List ℕ → Result ℕ FaultAt → RuleBook → Type 0
BookRead s (Ok given) b = BookHeld s given b
BookRead s (Err e) b = judge s ≡ fault e.fault e.at
