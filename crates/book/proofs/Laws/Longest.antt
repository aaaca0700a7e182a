-- A book that attains the bound, by computing: 64 full MO and 64 full clauses. Assumes nothing.
use mathlib.Core.Path.{◌≡◌, refl}
use mathlib.Core.Bool.{false}
use lib.ListN.{length, replicate}
use Rattle.masks.specs.Limits.{max_arity, max_masks}
use Rattle.masks.specs.Lists.{values}
use Rattle.book.specs.Limits.{max_predicates, max_clauses, max_subgoals, longest}
use Rattle.book.specs.Book.{Head, Book, subgoal_of}
use Rattle.book.specs.Format.{allows}
use Rattle.book.specs.Encode.{encode, WellFormed}

compute : Unit {0}
unfolding allows encode
compute = tt

-- the last predicate, of six positions
abbrev full : Head
full = record { pred = 63; args = replicate max_arity 0 }

abbrev pub longest_book : Book
longest_book =
    record {
      arities = replicate max_predicates max_arity;
      modes = values (λ p. record { pred = p; masks = replicate max_masks 0 }) max_predicates;
      clauses = replicate max_clauses (record { head = full; body = replicate max_subgoals (subgoal_of false full) });
      query = replicate max_subgoals (subgoal_of false full);
    }

pub longest_well : WellFormed longest_book
unfolding compute
longest_well =
    record {
      few_predicates = refl;
      arities_fit = refl;
      modes_fit = refl;
      modes_rise = refl;
      few_clauses = refl;
      clauses_fit = refl;
      few_asked = refl;
      query_fits = refl;
    }

pub longest_length : length (encode longest_book) ≡ longest
unfolding compute
longest_length = refl
