-- `needs::settle` meets its contract. The loop's invariant, for whatever book is lent: the table is table k of the book, none before it was settled, the
-- patterns are those that it admits, and the predicates due are told. While a round changes something, k is less than the rounds. Assumes nothing.
use mathlib.Core.Path.{refl}
use Prim.Native.Nat.{◌<◌, ◌^◌}
use native.Mathlib.Numerals.{add-one}
use native.Mathlib.Omega.{arith}
use borrow.Author.Rules.{rules}
use Rattle.tables.proofs.Laws.Rounds.{rounds_few}
use Rattle.book.proofs.Laws.Sets.{cleared_zeros}
use Rattle.needs.proofs.Laws.AtRound.{at_round_start, at_round_final, at_round_rounds, at_round_kept, at_round_less, at_round_next}
use Rattle.needs.proofs.Laws.Settling.{held_few, held_known, held_given, held_heads, held_calling, held_modes, held_start}
use Rattle.needs.proofs.settle.Lts
use Rattle.needs.proofs.settle.Reads
use Rattle.needs.proofs.settle.Tie
use Rattle.needs.proofs.settle.Goals as goal

-- places that several goals come past
abbrev After-round-changed : Type 0
After-round-changed = Lts.After-round Tie.the-claims Reads.Pre Reads.Post goal.the-invariant-rounds goal.the-decreases-rounds Tie.handed_clauses

abbrev Else-changed-eq0 : Type 0
Else-changed-eq0 = Lts.Else1 Tie.the-claims Reads.Pre Reads.Post goal.the-invariant-rounds goal.the-decreases-rounds Tie.handed_clauses

pub own_clauses-due-requires : goal.own_clauses-due-requires
own_clauses-due-requires c = let p = c.requires in let h = p.0.1 in (h.few, held_known h, p.1)

pub first_table-requires : goal.first_table-requires
first_table-requires c = let p = c.requires in let h = p.0.1 in (held_few h, held_modes h, p.2, p.3)

pub put_callers-requires : goal.put_callers-requires
put_callers-requires c = let h = c.requires.0.1 in (h.few, held_known h, cleared_zeros)

pub rounds-init : goal.rounds-init
rounds-init c =
    let first = c.first_table in
    let own = c.own_clauses-due in
    λ B h.
    at_round_start B h.well _ _ own.result (held_start h _ first.ensures.masks) first.ensures.admitted (held_heads h own.result own.ensures.holds)

pub round-changed-requires : goal.round-changed-requires
round-changed-requires c =
    let b = c.requires.0 in
    let r = c.rounds.invariant b.0 b.1 in
    ((b.0, held_given b.1 c.own_clauses-due.ensures.owns, r.admitted, r.due·), refl)

small : (c : After-round-changed) → c.round-changed.result < 2 ^ 64
small c = search rules

pub returns-then-changed-eq0 : goal.returns-then-changed-eq0
returns-then-changed-eq0 c =
    let l = c.rounds in
    λ B h.
    let s = c.round-changed.ensures B (held_given h c.own_clauses-due.ensures.owns) (c.rounds.invariant B h).due· in
    record {
      owns = c.own_clauses-due.ensures.owns;
      final· = at_round_final B h.well l.k l.table.masks l.table.admits l.due (l.invariant B h) _ _ s c.if-changed-eq0.true;
      admitted = at_round_kept B h.well l.k l.table.masks l.table.admits l.due (l.invariant B h) _ _ s c.if-changed-eq0.true;
      rounds· = at_round_rounds B h.well l.k l.table.masks l.table.admits l.due (l.invariant B h) _ _ s c.if-changed-eq0.true;
    }

-- the round changed something
less : (c : Else-changed-eq0) → c.rounds.k < 4096
less c =
    let d = c.before in
    let b = d.requires.0 in
    let l = d.rounds in
    let k = at_round_less b.0 b.1.well l.k l.table.masks l.table.admits l.due (l.invariant b.0 b.1) _ _ (d.round-changed.ensures b.0 (held_given b.1 d.own_clauses-due.ensures.owns) (d.rounds.invariant b.0 b.1).due·) (small d) c.if-changed-eq0.false in
    let m = rounds_few b.0 b.1.well in
    omega arith

pub overflow_add-k : goal.overflow_add-k
overflow_add-k c = let l = less c.before.before.before.before in omega arith

pub rounds-smaller : goal.rounds-smaller
rounds-smaller c = let l = less c.before.before.before.before in omega arith

pub rounds-preserved : goal.rounds-preserved
rounds-preserved c =
    let d = c.before.before.before.before.before in
    let l = d.rounds in
    λ B h.
    rw (add-one, c.renew.ensures.admits)
    (at_round_next B h.well l.k l.table.masks l.table.admits l.due (l.invariant B h) _ _ (d.round-changed.ensures B (held_given h d.own_clauses-due.ensures.owns) (d.rounds.invariant B h).due·) (small d) c.if-changed-eq0.false c.renew.ensures.masks
    (held_calling h _ _ c.calling-due.result d.put_callers.ensures c.calling-due.ensures))
