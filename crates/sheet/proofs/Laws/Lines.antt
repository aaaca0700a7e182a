-- Lines, field by field, and the lines of an image, record by record. Assumes nothing.
use mathlib.Core.Path.{◌≡◌, refl, sym, ap, ap₂, ◌∙◌}
use mathlib.Core.List.{List, [], ◌∷◌, ◌++◌, append-nil, append_assoc}
use Prim.Native.Nat.{ℕ, zero, suc, ◌+◌, ◌-◌, ◌≤◌, ◌<◌}
use native.Mathlib.Omega.{arith}
use native.Mathlib.Numerals.{add-one}
use lib.ListN.{length, get_or, take, drop, length-append, length-drop}
use lib.Seq.{take-suc, take_all, take-length}
use borrow.Author.Tests.{lt-ltb, le-ltb}
use Rattle.book.specs.Encode.{run}
use Rattle.writing.specs.Wrote.{Room, Wrote}
use Rattle.printing.specs.Sheet.{after, field, slashed, line, listing}
use Rattle.sheet.specs.Records.{listed_count, listed_in, trail_in, line_in, lines_in}
use Rattle.writing.proofs.Laws.Wrote.{wrote_append, wrote_as, wrote_length, room_first, room_second}
use Rattle.writing.proofs.Laws.Chunks.{Chunks}
use Rattle.writing.proofs.Laws.Runs.{run_snoc}

-- ---- a run of numbers, each after what parts it from the one before

module _ (part l : List ℕ) where
  abbrev pub fields_to : ℕ → List ℕ
  fields_to i = run (after part) (take i l)

  abbrev pub field_at : ℕ → List ℕ
  field_at i = after part (get_or l i 0)

  pub fields_chunks : Chunks (length l) fields_to field_at (run (after part) l)
  fields_chunks =
      record {
        none = refl;
        next = λ i h. rw (add-one, take-suc l i 0 h) (run_snoc (after part) (take i l) (get_or l i 0));
        whole = ap (run (after part)) (take-length l);
      }

-- fields are listed, or what stands for none is
pub listing_some : (none l : List ℕ) → (length l ≡ 0 → ⊥) → listing none l ≡ run field l
listing_some none [] h = absurd (h refl)
listing_some none (x ∷ l) h = refl

pub listing_none : (none l : List ℕ) → length l ≡ 0 → listing none l ≡ none
listing_none none [] h = refl
listing_none none (x ∷ l) h = absurd (omega arith)

-- ---- a line: its letter, its fields, and a newline

module _ {a b : List ℕ} {letter at p : ℕ} (fields : List ℕ) (w : Wrote a b at p (letter ∷ [])) (r : Room a at (line letter fields)) where
  -- where the letter is written, there is room for the fields, and where they are, for the newline
  pub room_fields : Room b p fields
  room_fields = let f = room_second (fields ++ (10 ∷ [])) w r in let e = length-append fields (10 ∷ []) in omega arith

  pub room_newline : {c : List ℕ} {q : ℕ} → Wrote b c p q fields → Room c q (10 ∷ [])
  room_newline v = room_second (10 ∷ []) v (room_second (fields ++ (10 ∷ [])) w r)

pub wrote_line : {a b c d fields : List ℕ} {letter at p q n : ℕ} → Wrote a b at p (letter ∷ []) → Wrote b c p q fields → Wrote c d q n (10 ∷ [])
    → Wrote a d at n (line letter fields)
wrote_line u v w = wrote_append u (wrote_append v w)

-- ---- the first record of an image

module _ (lead trail : ℕ) (s : List ℕ) where
  -- it ends where the image does, or before
  pub listed_most : 3 + lead + trail ≤ length s → 3 + lead + trail + listed_count lead trail s ≤ length s
  listed_most h = omega arith

  -- the fields that lead, those listed and those that trail, as the code lends them
  abbrev lead_part : List ℕ
  lead_part = take (2 + lead - 2) (drop 2 s)

  abbrev listed_part : ℕ → List ℕ
  listed_part n = take (3 + lead + n - (3 + lead)) (drop (3 + lead) s)

  abbrev trail_part : ℕ → List ℕ
  trail_part n = take (3 + lead + n + trail - (3 + lead + n)) (drop (3 + lead + n) s)

  lead_part_lem : lead_part ≡ take lead (drop 2 s)
  lead_part_lem = let e : 2 + lead - 2 ≡ lead = omega arith in rw e

  module _ {n : ℕ} (size : n ≡ listed_count lead trail s) where
    listed_part_lem : listed_part n ≡ listed_in lead trail s
    listed_part_lem = let e : 3 + lead + n - (3 + lead) ≡ listed_count lead trail s = omega arith in ap (λ (k : ℕ). take k (drop (3 + lead) s)) e

    trail_part_lem : trail_part n ≡ trail_in lead trail s
    trail_part_lem =
        let e : 3 + lead + n + trail - (3 + lead + n) ≡ trail = omega arith in
        ap₂ (λ (k i : ℕ). take k (drop (3 + lead + i) s)) e size

  -- its line is written part after part, where there is room
  module _ (none : List ℕ) where
    abbrev leads : List ℕ
    leads = run field (take lead (drop 2 s))

    abbrev lists : List ℕ
    lists = listing none (listed_in lead trail s)

    abbrev trails : List ℕ
    trails = run slashed (trail_in lead trail s)

    abbrev pub fields_in : List ℕ
    fields_in = leads ++ (lists ++ trails)

    lead_wrote : {a b : List ℕ} {at p : ℕ} → Wrote a b at p (run field lead_part) → Wrote a b at p leads
    lead_wrote w = wrote_as (ap (run field) lead_part_lem) w

    listed_wrote : {a b : List ℕ} {at p n : ℕ} → n ≡ listed_count lead trail s → Wrote a b at p (listing none (listed_part n)) → Wrote a b at p lists
    listed_wrote size w = wrote_as (ap (listing none) (listed_part_lem size)) w

    pub wrote_fields : {a b c d : List ℕ} {at p q r n : ℕ} → n ≡ listed_count lead trail s → Wrote a b at p (run field lead_part)
        → Wrote b c p q (listing none (listed_part n)) → Wrote c d q r (run slashed (trail_part n)) → Wrote a d at r fields_in
    wrote_fields size u v w = wrote_append (lead_wrote u) (wrote_append (listed_wrote size v) (wrote_as (ap (run slashed) (trail_part_lem size)) w))

    module _ {a b : List ℕ} {letter at p : ℕ} (u : Wrote a b at p (letter ∷ [])) (room : Room a at (line_in letter lead none trail s)) where
      pub room_lead : Room b p (run field lead_part)
      room_lead =
          let f = room_first b p leads (lists ++ trails) (room_fields fields_in u room) in
          let e = ap (λ (l : List ℕ). length (run field l)) lead_part_lem in
          omega arith

      module _ {c : List ℕ} {q n : ℕ} (size : n ≡ listed_count lead trail s) (v : Wrote b c p q (run field lead_part)) where
        behind_lead : Room c q (lists ++ trails)
        behind_lead = room_second (lists ++ trails) (lead_wrote v) (room_fields fields_in u room)

        pub room_listed : Room c q (listing none (listed_part n))
        room_listed =
            let f = room_first c q lists trails behind_lead in
            let e = ap (λ (l : List ℕ). length (listing none l)) (listed_part_lem size) in
            omega arith

        pub room_trail : {d : List ℕ} {r : ℕ} → Wrote c d q r (listing none (listed_part n)) → Room d r (run slashed (trail_part n))
        room_trail w =
            let f = room_second trails (listed_wrote size w) behind_lead in
            let e = ap (λ (l : List ℕ). length (run slashed l)) (trail_part_lem size) in
            omega arith

-- ---- the lines of an image

-- what is left of an image from a place on, as the code lends it
pub from : (i : ℕ) (s : List ℕ) → take (length s - i) (drop i s) ≡ drop i s
from i s = let e = length-drop i s in take_all (length s - i) (drop i s) (omega arith)

module _ (letter lead : ℕ) (none : List ℕ) (trail : ℕ) where
  pub lines_next : (k : ℕ) (s : List ℕ) → 3 + lead + trail ≤ length s
      → lines_in letter lead none trail (suc k) s
      ≡ line_in letter lead none trail s ++ lines_in letter lead none trail k (drop (3 + lead + trail + listed_count lead trail s) s)
  unfolding lines_in
  lines_next k s h = rw (le-ltb (length s) (3 + lead + trail) h)

  pub lines_end : (k : ℕ) (s : List ℕ) → length s < 3 + lead + trail → lines_in letter lead none trail k s ≡ []
  unfolding lines_in
  lines_end zero s h = refl
  lines_end (suc k) s h = rw (lt-ltb (length s) (3 + lead + trail) h)

-- the loop over them: what is written so far, with the lines of the records that are left, is the whole
pub record Lining (letter lead : ℕ) (none : List ℕ) (trail : ℕ) (whole out : List ℕ) (at : ℕ) (now : List ℕ) (p : ℕ) (rest : List ℕ) : Type 0 where
  pub room : Room out at whole
  pub done : List ℕ
  pub wrote : Wrote out now at p done
  pub fuel : ℕ
  pub enough : length rest ≤ fuel
  pub is : done ++ lines_in letter lead none trail fuel rest ≡ whole

module _ {letter lead trail at p : ℕ} {none whole out now rest : List ℕ} (w : Lining letter lead none trail whole out at now p rest) where
  lining_length : length now ≡ length out
  lining_length = wrote_length w.wrote

  pub lining_end : length rest < 3 + lead + trail → Wrote out now at p whole
  lining_end h =
      let e = lines_end letter lead none trail w.fuel rest h in
      wrote_as (sym (append-nil w.done) ∙ ap (λ (t : List ℕ). w.done ++ t) (sym e) ∙ w.is) w.wrote

  -- the next record's line is written where there is room, and then the records after it are left
  module _ (h : 3 + lead + trail ≤ length rest) where
    abbrev line· : List ℕ
    line· = line_in letter lead none trail rest

    abbrev more : ℕ → List ℕ
    more n = lines_in letter lead none trail (w.fuel - 1) (drop (3 + lead + trail + n) rest)

    going : w.done ++ (line· ++ more (listed_count lead trail rest)) ≡ whole
    going =
        let f = w.enough in
        let e : suc (w.fuel - 1) ≡ w.fuel = omega arith in
        let d = ap (λ (k : ℕ). lines_in letter lead none trail k rest) (sym e) ∙ lines_next letter lead none trail (w.fuel - 1) rest h in
        ap (λ (t : List ℕ). w.done ++ t) (sym d) ∙ w.is

    pub lining_room : Room now p line·
    lining_room =
        let m = more (listed_count lead trail rest) in
        let e = ap length going in
        let f = length-append w.done (line· ++ m) in
        let g = length-append line· m in
        let r = w.room in
        let d = w.wrote.ends in
        let l = lining_length in
        omega arith

    pub lining_next : {after left : List ℕ} {q n : ℕ} → n ≡ listed_count lead trail rest → left ≡ drop (3 + lead + trail + n) rest → Wrote now after p q line·
        → Lining letter lead none trail whole out at after q left
    lining_next {n = n} size e v =
        let f = w.enough in
        let l = ap length e ∙ length-drop (3 + lead + trail + n) rest in
        record {
          room = w.room;
          done = w.done ++ line·;
          wrote = wrote_append w.wrote v;
          fuel = w.fuel - 1;
          enough = omega arith;
          is = append_assoc w.done line· _ ∙ ap (λ (t : List ℕ). w.done ++ (line· ++ lines_in letter lead none trail (w.fuel - 1) t)) e ∙ ap (λ (n : ℕ). w.done ++ (line· ++ more n)) size ∙ going;
        }
