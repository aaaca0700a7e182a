-- What bytes are judged to be, and what an operation on books comes to: the fault of the bytes, or what it makes of the book. Assumes nothing.
use mathlib.Core.Path.{◌≡◌, refl, ap}
use mathlib.Core.List.{List}
use Prim.Native.Nat.{ℕ, ◌-◌, ◌≤◌}
use native.Mathlib.Omega.{arith}
use Rattle.masks.specs.Outcome.{Outcome, refused}
use Rattle.book.specs.Book.{Book}
use Rattle.book.specs.Format.{number, place, Judged, fault, book, judge}
use Rattle.book.specs.Answer.{of_judged, on_book}
use Rattle.book.specs.declared.fault.Fault.{Fault}
use Rattle.book.specs.declared.fault.Fault.TheVariants.{PastEnd, NoMark, OutOfTurn, OutOfRange, TooMany, Clash}

-- ---- what bytes are judged to be

-- "1" to "6": no fault has number 0, which is no fault
pub number_range : (f : Fault) → (1 ≤ number f) × (number f ≤ 6)
number_range PastEnd = (omega arith, omega arith)
number_range NoMark = (omega arith, omega arith)
number_range OutOfTurn = (omega arith, omega arith)
number_range OutOfRange = (omega arith, omega arith)
number_range TooMany = (omega arith, omega arith)
number_range Clash = (omega arith, omega arith)

pub number_some : (f : Fault) → number f ≡ 0 → ⊥
number_some f e = let r = number_range f in omega arith

-- a place in n bytes is one whether counted from their start or from their end
pub place_inside : (f : Fault) {n at : ℕ} → at ≤ n → (place f n at ≤ n) × (n - place f n at ≡ place f 0 (n - at))
place_inside PastEnd h = (omega arith, omega arith)
place_inside NoMark h = (h, refl)
place_inside OutOfTurn h = (h, refl)
place_inside OutOfRange h = (h, refl)
place_inside TooMany h = (h, refl)
place_inside Clash h = (h, refl)

-- a string of bytes is one book
book_or : Book → Judged → Book
book_or d (fault f at) = d
book_or d (book B) = B

pub book_injective : (B C : Book) → book B ≡ book C → B ≡ C
unfolding book_or
book_injective B C e = ap (book_or B) e

-- ---- what comes of them

module _ (made : Book → Outcome) (s : List ℕ) where
  pub on_fault : (v : Fault) (at : ℕ) → fault v at ≡ judge s → refused (number v) at ≡ on_book made s
  unfolding on_book
  on_fault v at e = ap (of_judged made) e

  pub on_book_lem : (B : Book) → book B ≡ judge s → made B ≡ on_book made s
  unfolding on_book
  on_book_lem B e = ap (of_judged made) e
