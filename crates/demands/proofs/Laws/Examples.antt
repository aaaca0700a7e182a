-- Document 01's examples K1 to K12, and those of W3, W6, W9, W5 and W10, computed from the definitions. Assumes nothing.
use mathlib.Core.Path.{refl}
use Rattle.masks.specs.Constraint.{in_range, joint}
use Rattle.masks.specs.Joining.{list_fault, fault, joining}
use Rattle.book.specs.Answer.{on_book}
use Rattle.tables.specs.Image.{image}
use Rattle.printing.specs.Sheet.{sheet}
use Rattle.demands.specs.Demands.{examples, EachHolds, Attains, counter1, counter2}
use Rattle.book.proofs.Laws.Examples as reading
use Rattle.choices.proofs.Laws.Examples.{compute_plan}
use Rattle.printing.proofs.Laws.Examples.{compute_sheet}
use Rattle.depot.proofs.Laws.Examples.{compute_depot}

pub bench : EachHolds examples
unfolding reading.compute compute_plan compute_sheet compute_depot in_range joint list_fault fault joining on_book image sheet
bench =
    ((refl, refl, refl), (refl, ((refl, refl, refl), ((refl, refl, refl), ((refl, refl, refl), ((refl, refl, refl), (refl, (refl, ((refl, refl, refl), ((refl, refl, refl), ((refl, refl, refl), ((refl, refl, refl), ((refl, refl, refl), ((refl, refl, refl), ((refl, refl, refl), ((refl, refl, refl), ((refl, refl, refl), ((refl, refl, refl), ((refl, refl, refl), ((refl, refl, refl), ((refl, refl, refl), ((refl, refl, refl), ((refl, refl, refl), ((refl, refl, refl), ((refl, refl, refl), ((refl, refl, refl), ((refl, refl, refl), ((refl, refl, refl), ((refl, refl, refl), ((_, _, refl, refl, refl, refl, refl), ((_, _, refl, refl, refl, refl, refl), tt)))))))))))))))))))))))))))))))

-- W5's bound is attained
pub attained : Attains 2 counter1 × Attains 4 counter2
unfolding reading.compute compute_plan
attained = ((_, refl, refl, refl), (_, refl, refl, refl))
