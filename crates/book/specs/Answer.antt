-- What an operation on books comes to for any bytes. Assumes nothing.
use Rattle.std.specs.Prelude.{List, ℕ}
use Rattle.masks.specs.Outcome.{Outcome, refused}
use Rattle.book.specs.Book.{Book}
use Rattle.book.specs.Format.{number, Judged, fault, book, judge}

-- "the first fault found is given", with its number and place; a valid book gets what the operation makes of it
abbrev pub of_judged : (Book → Outcome) → Judged → Outcome
of_judged made (fault f at) = refused (number f) at
of_judged made (book B) = made B

unfoldable pub on_book : (Book → Outcome) → List ℕ → Outcome
on_book made s = of_judged made (judge s)
