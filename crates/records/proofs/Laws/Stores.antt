-- Stores into an array that may have no room for them, and what they leave where it has: bytes read one at a time stand one after the other, and masks
-- behind the two bytes of a mode are that mode's. Assumes nothing.
use mathlib.Core.Path.{◌≡◌, refl, sym, ap, ◌∙◌, subst}
use mathlib.Core.Bool.{cond}
use mathlib.Core.List.{List, [], ◌∷◌, ◌++◌, append_assoc}
use Prim.Native.Nat.{ℕ, suc, ◌+◌, ◌-◌, ◌*◌, ◌^◌, ◌≤◌, ◌<◌}
use native.Mathlib.Omega.{arith}
use lib.ListN.{length, get_or, take, drop, set, length-append}
use lib.Seq.{sets, take-take, drop-drop, sets-eq, take_at, drop_at, length-take-le}
use borrow.Author.Tests.{leb-true, le-leb, lt-leb}
use Rattle.masks.specs.Limits.{max_masks}
use Rattle.masks.proofs.Laws.Lists.{sets_append}
use Rattle.book.specs.Limits.{max_predicates}
use Rattle.book.specs.Book.{Mode}
use Rattle.book.specs.Format.{allows, byte, bytes, masks, mode_fields}
use Rattle.book.specs.Held.{mode_size, modes_size, has_in, masks_in, mode_at, StoredMode}
use Rattle.std.specs.Prelude.{Result, Ok, Err}
use Rattle.std.specs.Borrow.{Bor}
use Rattle.book.specs.declared.fault.Fault.TheVariants.{Clash}
use Rattle.book.specs.declared.range.Range.{Range}
use Rattle.book.specs.declared.range.Range.TheVariants.{Below, AtMost}
use Rattle.book.proofs.Laws.Windows.{window_others}
use Rattle.book.proofs.Laws.Got.{bytes_inv}
use Rattle.records.specs.declared.fault.FaultFromEnd.{FaultFromEnd}
use Rattle.records.specs.Read.{value, rest, alone, Reads}
use Rattle.records.specs.Stored.{ReadsBytes, ReadsMasks, ReadsMode}
use Rattle.records.proofs.Laws.Reads.{byte_allowed, err_ok, reads_ok, then_bad, then_next, predicate_known, Left, left_start, left_bad, left_next, left_end}

-- ---- stores

-- one store behind those of xs
pub sets_last : {A : Type 0} (l : List A) (at n : ℕ) (xs : List A) (x : A) → length xs ≡ n → set (sets l at xs) (at + n) x ≡ sets l at (xs ++ (x ∷ []))
sets_last l at n xs x e = ap (λ (k : ℕ). set (sets l at xs) (at + k) x) (sym e) ∙ sym (sets_append l at xs (x ∷ []))

-- ---- bytes, one at a time

pub record Laying (r : Range) (k : ℕ) (whole : List ℕ) (i : ℕ) (left : List ℕ) (start : ℕ) (before now : List ℕ) : Type 0 where
  pub bytes : List ℕ
  pub left· : Left r k whole i left bytes
  pub stored : now ≡ sets before start bytes

module _ (r : Range) (k : ℕ) (whole : List ℕ) (start : ℕ) (before : List ℕ) where
  pub laying_start : Laying r k whole 0 whole start before before
  laying_start = record { bytes = []; left· = left_start r k whole; stored = refl }

  module _ {i : ℕ} {s now : List ℕ} (l : Laying r k whole i s start before now) where
    module _ (h : i < k) {g : Result (ℕ × Bor (List ℕ)) FaultFromEnd} (w : Reads rest g value (byte r s)) where
      pub laying_bad : {e : FaultFromEnd} → g ≡ Err e → ReadsBytes (Err e) start before now (bytes r k [] whole)
      laying_bad e = record { bytes = l.bytes; reads = left_bad r k whole l.left· h w e; stored = l.stored }

      pub laying_next : {v : ℕ × Bor (List ℕ)} → g ≡ Ok v → {after : List ℕ} → after ≡ set now (start + i) (value v)
          → Laying r k whole (i + 1) (rest v) start before after
      laying_next {v} e d =
          record {
            bytes = l.bytes ++ (value v ∷ []);
            left· = left_next r k whole l.left· h w e;
            stored = d ∙ ap (λ (m : List ℕ). set m (start + i) (value v)) l.stored ∙ sets_last before start i l.bytes (value v) l.left·.size;
          }

    pub laying_end : k ≤ i → {b : Bor (List ℕ)} → b.now ≡ s → ReadsBytes (Ok b) start before now (bytes r k [] whole)
    laying_end h e = record { bytes = l.bytes; reads = left_end r k whole l.left· e h; stored = l.stored }

-- ---- a mode

-- the masks behind the two bytes of a mode
module _ (k p : ℕ) (s : List ℕ) {g : Result (ℕ × Bor (List ℕ)) FaultFromEnd} (w : Reads rest g value (byte (AtMost max_masks) s)) (before : List ℕ) where
  pub none_laid : {e : FaultFromEnd} → g ≡ Err e → ReadsMasks (Err e) p before before (masks k s)
  unfolding masks
  none_laid e = record { masks = []; reads = then_bad w _ e; few = λ i d. err_ok refl d; stored = λ i d. err_ok refl d }

  pub masks_laid : {v : ℕ × Bor (List ℕ)} → g ≡ Ok v → {one two after : List ℕ} → one ≡ set before (p * mode_size) 1 → two ≡ set one (p * mode_size + 1) (value v)
      → {r : Result (Bor (List ℕ)) FaultFromEnd} → ReadsBytes r (p * mode_size + 2) two after (bytes (Below k) (value v) [] (rest v))
      → ReadsMasks r p before after (masks k s)
  unfolding masks allows
  masks_laid {v} e {one} {two} {after} a b {r} l =
      record { masks = l.bytes; reads = then_next w _ e l.reads; few = λ i d. rw (size d) few; stored = λ i d. l.stored ∙ laid d }
    where
      few : value v ≤ max_masks
      few = leb-true (value v) max_masks (byte_allowed (AtMost max_masks) s w e)

      size : {i : Bor (List ℕ)} → r ≡ Ok i → length l.bytes ≡ value v
      size d = (bytes_inv (Below k) (value v) (rest v) (sym (reads_ok l.reads d))).0

      laid : {i : Bor (List ℕ)} → r ≡ Ok i → sets two (p * mode_size + 2) l.bytes ≡ sets before (p * mode_size) (1 ∷ length l.bytes ∷ l.bytes)
      laid d =
          let x : p * mode_size + 1 ≡ suc (p * mode_size) = omega arith in
          let y : p * mode_size + 2 ≡ suc (suc (p * mode_size)) = omega arith in
          rw (b, a, x, y, size d)

-- where there is room for the modes of all predicates, they are the predicate's
mode_stored : (before : List ℕ) (p : ℕ) (masks : List ℕ) → length before ≡ modes_size → p < max_predicates → length masks ≤ max_masks
    → StoredMode before (sets before (p * mode_size) (1 ∷ length masks ∷ masks)) p masks
unfolding mode_at
mode_stored before p masks e h few =
    record {
      is =
          ap (λ (d : List ℕ). held (take mode_size d)) (ap (drop at) split ∙ drop_at (take at before) (new ++ rest) at front)
          ∙ ap (λ (l : List ℕ). record { pred = p; masks = l } ∷ []) (take-take n max_masks (masks ++ rest) few ∙ take_at masks rest n refl);
      others = λ i ne. window_others after before mode_size p i ne (ap (take at) split ∙ take_at (take at before) (new ++ rest) at front) behind;
    }
  where
    at : ℕ
    at = p * mode_size

    n : ℕ
    n = length masks

    new : List ℕ
    new = 1 ∷ length masks ∷ masks

    after : List ℕ
    after = sets before (p * mode_size) (1 ∷ length masks ∷ masks)

    rest : List ℕ
    rest = drop (p * mode_size + suc (suc (length masks))) before

    held : List ℕ → List Mode
    held b = cond (has_in b) (record { pred = p; masks = masks_in b } ∷ []) []

    front : length (take at before) ≡ at
    front = length-take-le at before (omega arith)

    split : after ≡ take at before ++ (new ++ rest)
    split = sets-eq new before at (omega arith) ∙ append_assoc (take at before) new rest

    behind : drop (at + mode_size) after ≡ drop (at + mode_size) before
    behind =
        let q : at + mode_size ≡ at + suc (suc n) + (max_masks - n) = omega arith in
        let long : length (take at before ++ new) ≡ at + suc (suc n) = length-append (take at before) new ∙ omega (arith, front) in
        let back : drop (at + suc (suc n)) after ≡ rest = ap (drop (at + suc (suc n))) (sets-eq new before at (omega arith)) ∙ drop_at (take at before ++ new) rest (at + suc (suc n)) long in
        ap (λ (j : ℕ). drop j after) q
        ∙ sym (drop-drop (max_masks - n) (at + suc (suc n)) after)
        ∙ ap (drop (max_masks - n)) back
        ∙ drop-drop (max_masks - n) (at + suc (suc n)) before
        ∙ ap (λ (j : ℕ). drop j before) (sym q)

module _ (ar : List ℕ) (b : ℕ) (s : List ℕ) {g : Result (ℕ × Bor (List ℕ)) FaultFromEnd} (w : Reads rest g value (byte (Below (length ar)) s)) (before : List ℕ) where
  pub mode_none : {e : FaultFromEnd} → g ≡ Err e → ReadsMode (Err e) before before (mode_fields ar b s)
  unfolding mode_fields
  mode_none e = record { masks = []; reads = then_bad w _ e; few = λ v d. err_ok refl d; stored = λ v d. err_ok refl d }

  module _ {u : ℕ × Bor (List ℕ)} (e : g ≡ Ok u) {k : ℕ} (size : k ≡ 2 ^ get_or ar (value u) 0) {h : Result (Bor (List ℕ)) FaultFromEnd} {after : List ℕ}
      (v : ReadsMasks h (value u) before after (masks k (rest u))) where
    sized : Reads alone h (λ n. v.masks) (masks (2 ^ get_or ar (value u) 0) (rest u))
    sized = subst (λ (j : ℕ). Reads alone h (λ n. v.masks) (masks j (rest u))) size v.reads

    pub mode_unlaid : {f : FaultFromEnd} → h ≡ Err f → ReadsMode (Err f) before after (mode_fields ar b s)
    unfolding mode_fields
    mode_unlaid d =
        record { masks = v.masks; reads = then_next w _ e (then_bad sized _ d); few = λ q n. err_ok refl n; stored = λ q n. err_ok refl n }

    module _ {end : Bor (List ℕ)} (d : h ≡ Ok end) where
      pub mode_clash : value u < b → ReadsMode (Err (record { fault = Clash; left = length s })) before after (mode_fields ar b s)
      unfolding mode_fields
      mode_clash l =
          record {
            masks = v.masks;
            reads = then_next w _ e (then_next sized _ d (record { is = rw (lt-leb b (value u) l) }));
            few = λ q m. err_ok refl m;
            stored = λ q m. err_ok refl m;
          }

      pub mode_laid : length ar ≤ max_predicates → b ≤ value u → ReadsMode (Ok (value u, end)) before after (mode_fields ar b s)
      unfolding mode_fields
      mode_laid few l =
          record {
            masks = v.masks;
            reads = then_next w _ e (then_next sized _ d (record { is = rw (le-leb b (value u) l) }));
            few = λ q m. subst (λ (j : ℕ). j < max_predicates) (same q m) below;
            stored =
                λ q m room.
                subst (λ (j : ℕ). StoredMode before after j v.masks) (same q m)
                (rw (v.stored end d) (mode_stored before (value u) v.masks room below (v.few end d)));
          }
        where
          below : value u < max_predicates
          below = let i = predicate_known ar s w e in omega arith

          same : (q : ℕ × Bor (List ℕ)) → ◌≡◌ {A = Result (ℕ × Bor (List ℕ)) FaultFromEnd} (Ok (value u, end)) (Ok q) → value u ≡ value q
          same q m = cc
