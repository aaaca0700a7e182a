-- The loop over MO records: the modes of the predicates below low are those read so far, and no predicate from low on has any. Assumes nothing.
use mathlib.Core.Path.{◌≡◌, refl, sym, ap, ◌∙◌}
use mathlib.Core.Bool.{Bool, true, false, ◌||◌, or-false}
use mathlib.Core.List.{List, [], ◌∷◌, ◌++◌}
use Prim.Native.Nat.{ℕ, suc, ◌+◌, ◌^◌, ◌≤◌, ◌<◌}
use native.Mathlib.Omega.{arith}
use native.Mathlib.Numerals.{add-one}
use lib.Bits.{bit_or}
use lib.Dec.{eqb}
use lib.ListN.{length, drop, length-append}
use borrow.Author.Tests.{leb-true}
use Rattle.masks.specs.Lists.{any}
use Rattle.masks.specs.Set.{bit_at, Holds}
use Rattle.masks.proofs.Laws.Lists.{any_append}
use Rattle.masks.proofs.Laws.Set.{bit_at_zero, bit_at_more}
use Rattle.book.specs.Limits.{max_predicates}
use Rattle.book.specs.Book.{Mode}
use Rattle.book.specs.Format.{spelling, leads, low, low_from, mark_at, turn, many, mode, mode_fields}
use Rattle.book.specs.Encode.{enc_mode}
use Rattle.book.specs.Held.{NoModes, modes_size, mode_at, modes_of, has_mode}
use Rattle.std.specs.Prelude.{Result, Ok, Err}
use Rattle.std.specs.Borrow.{Bor}
use Rattle.book.specs.declared.mark.Mark.TheVariants.{Mo}
use Rattle.book.specs.declared.mark.Phase.TheVariants.{Modes}
use Rattle.book.specs.declared.mark.Turn.TheVariants.{Mine}
use Rattle.book.proofs.Laws.Marks.{sole_modes}
use Rattle.book.proofs.Laws.Trip.{ModeFits, mode_inv, low_last}
use Rattle.book.proofs.Laws.Held.{mode_at_others, modes_of_stored, modes_of_rest}
use Rattle.records.specs.declared.fault.FaultFromEnd.{FaultFromEnd}
use Rattle.records.specs.Read.{RunEnds, value, rest, Reads}
use Rattle.records.specs.Stored.{ReadsMode}
use Rattle.records.proofs.Laws.Reads.{err_ok, reads_ok, reads_fault, reads_as}
use Rattle.reading.specs.Stored.{ReadsModes}
use Rattle.reading.proofs.Laws.Runs.{Going, mine, not_mine, going_start, going_bad, going_next, going_end}

-- the set, and where there is room the array, have the modes read so far
pub record Moding (ar whole left : List ℕ) (b set : ℕ) (before now : List ℕ) : Type 0 where
  pub modes : List Mode
  pub most : b ≤ max_predicates
  pub count : ℕ
  pub fewer : count ≤ b
  pub going : Going Modes (mode ar) (suc max_predicates) whole count left modes
  pub least : low modes ≡ b
  pub given : Holds set (has_mode modes)
  pub size : length now ≡ length before
  pub stored : length before ≡ modes_size → modes_of now b ≡ modes
  pub above : length before ≡ modes_size → (p : ℕ) → b ≤ p → mode_at now p ≡ []

has_mode_last : (ms : List Mode) (m : Mode) (k : ℕ) → has_mode (ms ++ (m ∷ [])) k ≡ (has_mode ms k || eqb m.pred k)
unfolding has_mode
has_mode_last ms m k =
    any_append (λ (x : Mode). eqb x.pred k) ms (m ∷ [])
    ∙ ap (λ (b : Bool). any (λ (x : Mode). eqb x.pred k) ms || b) (or-false (eqb m.pred k))

module _ (ar whole before : List ℕ) where
  pub moding_start : NoModes before → Moding ar whole whole 0 0 before before
  unfolding modes_of low_from has_mode
  moding_start no· =
      record {
        modes = [];
        most = omega arith;
        count = 0;
        fewer = omega arith;
        going = going_start Modes (mode ar) (suc max_predicates) whole;
        least = refl;
        given = bit_at_zero;
        size = refl;
        stored = λ r. refl;
        above = λ r p l. no· p;
      }

  module _ {s : List ℕ} {b set : ℕ} {now : List ℕ} (l : Moding ar whole s b set before now) where
    room : l.count < suc max_predicates
    room = let a = l.most in let c = l.fewer in omega arith

    module _ (mark : leads (spelling Mo) s ≡ true) where
      t : turn Modes (mark_at s) ≡ Mine
      t = mine Modes Mo s refl mark

      module _ {g : Result (ℕ × Bor (List ℕ)) FaultFromEnd} {after : List ℕ} (w : ReadsMode g now after (mode_fields ar b (drop 2 s))) where
        reads : Reads rest g (λ v. record { pred = value v; masks = w.masks }) (mode ar l.modes s)
        unfolding mode
        reads = rw l.least w.reads

        pub moding_bad : {e : FaultFromEnd} → g ≡ Err e → ReadsModes ar whole (Err e) before after
        moding_bad e =
            record {
              modes = l.modes;
              reads = going_bad Modes (mode ar) (suc max_predicates) whole l.going t room reads e;
              given = λ v d. err_ok refl d;
              stored = λ v d. err_ok refl d;
            }

        module _ {v : ℕ × Bor (List ℕ)} (e : g ≡ Ok v) where
          abbrev p : ℕ
          p = value v

          -- the mode that was read
          abbrev m : Mode
          m = record { pred = p; masks = w.masks }

          read : (s ≡ enc_mode m ++ rest v) × ModeFits ar l.modes m
          read = mode_inv ar l.modes s m (rest v) t (sym (reads_ok reads e))

          rising : b ≤ p
          rising = let r : low l.modes ≤ p = leb-true _ _ read.1.1 in let z = l.least in omega arith

          -- the record has some bytes
          pub moding_on : length (rest v) < length s
          moding_on = let d = ap length read.0 in let f = length-append (enc_mode m) (rest v) in omega arith

          pub moding_next : {more : ℕ} → more ≡ bit_or set (2 ^ p) → length after ≡ length now → Moding ar whole (rest v) (p + 1) more before after
          moding_next {more} d same =
              let k = w.few v e in
              let r = rising in
              let c = l.fewer in
              record {
                modes = l.modes ++ (m ∷ []);
                most = omega arith;
                count = l.count + 1;
                fewer = omega arith;
                going = going_next Modes (mode ar) (suc max_predicates) whole l.going t room reads e refl;
                least = low_last 0 l.modes m ∙ sym (add-one p);
                given =
                    λ i.
                    ap (λ (x : ℕ). bit_at x i) d
                    ∙ bit_at_more set p i
                    ∙ ap (λ (x : Bool). x || eqb p i) (l.given i)
                    ∙ sym (has_mode_last l.modes m i);
                size = same ∙ l.size;
                stored =
                    λ r·.
                    modes_of_stored (w.stored v e (l.size ∙ r·)) b r (l.above r·) ∙ ap (λ (x : List Mode). x ++ (m ∷ [])) (l.stored r·);
                above =
                    λ r· i h.
                    mode_at_others (w.stored v e (l.size ∙ r·)) i (λ q. absurd (omega arith)) ∙ l.above r· i (omega arith);
              }

    module _ (mark : leads (spelling Mo) s ≡ false) {g : Result (Unit {0}) FaultFromEnd} (w : RunEnds Modes s g) where
      all : Reads (λ u. s) g (λ u. l.modes) (many Modes (mode ar) (suc max_predicates) [] whole)
      all = going_end Modes (mode ar) (suc max_predicates) whole l.going (not_mine Modes Mo s sole_modes mark) w

      pub moding_end_bad : {e : FaultFromEnd} → g ≡ Err e → ReadsModes ar whole (Err e) before now
      moding_end_bad e = record { modes = l.modes; reads = reads_fault all e; given = λ v d. err_ok refl d; stored = λ v d. err_ok refl d }

      pub moding_end : {u : Unit {0}} → g ≡ Ok u → {end : Bor (List ℕ)} → end.now ≡ s → ReadsModes ar whole (Ok (set, end)) before now
      moding_end e {end} z =
          let a = l.most in
          record {
            modes = l.modes;
            reads = reads_as all e z refl;
            given = λ v q. rw (same v q) l.given;
            stored = λ v q r. modes_of_rest now b max_predicates (omega arith) (l.above r) ∙ l.stored r;
          }
        where
          same : (v : ℕ × Bor (List ℕ)) → ◌≡◌ {A = Result (ℕ × Bor (List ℕ)) FaultFromEnd} (Ok (set, end)) (Ok v) → value v ≡ set
          same v d = cc
