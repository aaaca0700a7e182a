-- A book that is refused once it is read, for its fault or for a chosen predicate that it lacks. Assumes nothing.
use mathlib.Core.Path.{◌≡◌, refl, sym, ap, ◌∙◌}
use mathlib.Core.List.{List}
use mathlib.Core.Option.{Option, none, some}
use Prim.Native.Nat.{ℕ}
use lib.ListN.{length}
use Rattle.std.specs.Prelude.{Ok, Err}
use Rattle.masks.specs.Outcome.{Answers}
use Rattle.book.specs.Book.{Book}
use Rattle.book.specs.Format.{judge, book}
use Rattle.book.specs.Refusal.{reply}
use Rattle.book.specs.declared.refusal.Refusal.{Refusal}
use Rattle.book.specs.declared.refusal.Refusal.TheVariants.{Lacks}
use Rattle.closing.specs.Close.{lacked, closed, closing}
use Rattle.closing.specs.Held.{unless_lacking}
use Rattle.masks.proofs.Laws.Outcome.{answers_refused}
use Rattle.book.proofs.Laws.Answer.{on_book_lem}
use Rattle.closing.proofs.Laws.Outcome.{closed_lacks}

module _ (set n : ℕ) where
  -- nothing is lacking
  pub lacking_none : {u : Unit {0}} → Ok u ≡ unless_lacking (lacked set n) → lacked set n ≡ none
  lacking_none {u} e = go (lacked set n) e
    where
      go : (o : Option ℕ) → Ok u ≡ unless_lacking o → o ≡ none
      go none q = refl
      go (some p) q = absurd (cc)

  -- a predicate is, and that is what closing a book of so many answers
  pub lacking_some : (s out : List ℕ) (B : Book) {e : Refusal} → judge s ≡ book B → length B.arities ≡ n → Err e ≡ unless_lacking (lacked set n)
      → Answers (closing set s) out (reply e) out
  lacking_some s out B {e} is size d = go (lacked set n) refl d
    where
      go : (o : Option ℕ) → lacked set n ≡ o → Err e ≡ unless_lacking o → Answers (closing set s) out (reply e) out
      go none h q = absurd (cc)
      go (some p) h q = rw (← on_book_lem (closed set) s B (sym is), closed_lacks set B p (ap (lacked set) size ∙ h)) (answers_refused 8 p out (let l : e ≡ Lacks p = cc in ap reply l))
