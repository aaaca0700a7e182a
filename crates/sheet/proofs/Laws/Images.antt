-- The lines of an image are those of what it is the image of: a record is found by the number of its fields that lead, the number that it lists and the
-- number of those that trail, and what is behind it are the other records. Assumes nothing.
use mathlib.Core.Path.{◌≡◌, refl, sym, ap, ap₂, ◌∙◌}
use mathlib.Core.List.{List, [], ◌∷◌, ◌++◌, append_assoc, append-nil}
use Prim.Native.Nat.{ℕ, zero, suc, ◌+◌, ◌≤◌}
use native.Mathlib.Omega.{arith}
use lib.ListN.{length, take, drop, length-append}
use lib.Seq.{take_at, drop_at, drop-drop, get_or_at}
use Rattle.masks.specs.Lists.{joined}
use Rattle.book.specs.Encode.{run}
use Rattle.book.specs.Table.{Table, entry}
use Rattle.tables.specs.Image.{row, count_of, rows}
use Rattle.choices.specs.Plan.{Row, enc_query, enc_row}
use Rattle.printing.specs.Sheet.{field, slashed, line, listing, none·, constraint_line, query_line, order_line}
use Rattle.sheet.specs.Records.{listed_count, listed_in, trail_in, line_in, lines_in}
use Rattle.masks.proofs.Laws.Lists.{joined_cong}
use Rattle.book.proofs.Laws.Encode.{run_joined}
use Rattle.sheet.proofs.Laws.Lines.{lines_next, lines_end}

-- ---- the first record: its mark, the fields that lead, how many it lists and those, those that trail, and the rest behind it

module _ (m₀ m₁ : ℕ) (lead listed trail rest : List ℕ) (n t : ℕ) (size : length lead ≡ n) (ends : length trail ≡ t) where
  abbrev bytes : List ℕ
  bytes = m₀ ∷ m₁ ∷ (lead ++ (length listed ∷ (listed ++ (trail ++ rest))))

  head : List ℕ
  head = m₀ ∷ m₁ ∷ (lead ++ (length listed ∷ []))

  head_size : length head ≡ 3 + n
  unfolding head
  head_size = omega (arith, length-append lead (length listed ∷ []))

  parted : bytes ≡ head ++ (listed ++ (trail ++ rest))
  unfolding head
  parted = sym (ap (λ (l : List ℕ). m₀ ∷ m₁ ∷ l) (append_assoc lead (length listed ∷ []) (listed ++ (trail ++ rest))))

  pub count_first : listed_count n t bytes ≡ length listed
  count_first =
      omega (
        arith,
        get_or_at (m₀ ∷ m₁ ∷ lead) (length listed) (listed ++ (trail ++ rest)) 0 (2 + n) (omega arith),
        length-append lead (length listed ∷ (listed ++ (trail ++ rest))),
        length-append listed (trail ++ rest),
        length-append trail rest,
      )

  behind : drop (3 + n) bytes ≡ listed ++ (trail ++ rest)
  behind = ap (drop (3 + n)) parted ∙ drop_at head (listed ++ (trail ++ rest)) (3 + n) head_size

  listed_first : listed_in n t bytes ≡ listed
  listed_first = ap₂ take count_first behind ∙ take_at listed (trail ++ rest) (length listed) refl

  -- from behind those listed on
  behind_listed : drop (3 + n + listed_count n t bytes) bytes ≡ trail ++ rest
  behind_listed =
      rw count_first
      (ap (drop (3 + n + length listed)) (parted ∙ sym (append_assoc head listed (trail ++ rest)))
      ∙ drop_at (head ++ listed) (trail ++ rest) (3 + n + length listed) (length-append head listed ∙ ap (λ (k : ℕ). k + length listed) head_size))

  trail_first : trail_in n t bytes ≡ trail
  trail_first = ap (take t) behind_listed ∙ take_at trail rest t ends

  pub line_first : (letter : ℕ) (none : List ℕ) → line_in letter n none t bytes ≡ line letter (run field lead ++ (listing none listed ++ run slashed trail))
  line_first letter none =
      rw (take_at lead (length listed ∷ (listed ++ (trail ++ rest))) n size, listed_first, trail_first)

  pub rest_first : drop (3 + n + t + listed_count n t bytes) bytes ≡ rest
  rest_first =
      let e : 3 + n + t + listed_count n t bytes ≡ 3 + n + listed_count n t bytes + t = omega arith in
      ap (λ (k : ℕ). drop k bytes) e ∙ sym (drop-drop t (3 + n + listed_count n t bytes) bytes) ∙ ap (drop t) behind_listed ∙ drop_at trail rest t ends

-- ---- records of one kind, one after the other

module _ {A : Type 0} (enc : A → List ℕ) (m₀ m₁ n t : ℕ) (lead listed trail : A → List ℕ)
    (form : (a : A) → enc a ≡ m₀ ∷ m₁ ∷ (lead a ++ (length (listed a) ∷ (listed a ++ trail a))))
    (size : (a : A) → length (lead a) ≡ n) (ends : (a : A) → length (trail a) ≡ t) where
  run_form : (a : A) (l : List A) → run enc (a ∷ l) ≡ bytes m₀ m₁ (lead a) (listed a) (trail a) (run enc l) n t (size a) (ends a)
  run_form a l =
      ap (λ (s : List ℕ). s ++ run enc l) (form a)
      ∙ ap (λ (s : List ℕ). m₀ ∷ m₁ ∷ s)
      (append_assoc (lead a) (length (listed a) ∷ (listed a ++ trail a)) (run enc l)
      ∙ ap (λ (s : List ℕ). lead a ++ (length (listed a) ∷ s)) (append_assoc (listed a) (trail a) (run enc l)))

  record_long : (a : A) (l : List A) → 3 + n + t + length (run enc l) ≤ length (run enc (a ∷ l))
  record_long a l =
      omega (
        arith,
        ap length (run_form a l),
        length-append (lead a) (length (listed a) ∷ (listed a ++ (trail a ++ run enc l))),
        length-append (listed a) (trail a ++ run enc l),
        length-append (trail a) (run enc l),
        size a,
        ends a,
      )

  -- as many lines as are asked for are enough
  module _ (letter : ℕ) (none : List ℕ) (line_of : A → List ℕ)
      (same : (a : A) → line letter (run field (lead a) ++ (listing none (listed a) ++ run slashed (trail a))) ≡ line_of a) where
    pub lines_run : (l : List A) (k : ℕ) → length (run enc l) ≤ k → lines_in letter n none t k (run enc l) ≡ run line_of l
    lines_run [] k h = lines_end letter n none t k [] (omega arith)
    lines_run (a ∷ l) zero h = absurd (omega (arith, record_long a l))
    lines_run (a ∷ l) (suc k) h =
        lines_next letter n none t k (run enc (a ∷ l)) (omega (arith, record_long a l))
        ∙ ap (λ (s : List ℕ). line_in letter n none t s ++ lines_in letter n none t k (drop (3 + n + t + listed_count n t s) s)) (run_form a l)
        ∙ ap₂ {C = List ℕ} ◌++◌ (line_first m₀ m₁ (lead a) (listed a) (trail a) (run enc l) n t (size a) (ends a) letter none ∙ same a)
        (ap (lines_in letter n none t k) (rest_first m₀ m₁ (lead a) (listed a) (trail a) (run enc l) n t (size a) (ends a))
        ∙ lines_run l k (omega (arith, record_long a l)))

-- ---- the image of a table

-- a record for each number below n
run_each : (f : ℕ → List ℕ) (n : ℕ) → run f (joined (λ p. p ∷ []) n) ≡ joined f n
run_each f n = run_joined f (λ p. p ∷ []) n ∙ joined_cong (λ p. f p ++ []) f n (λ p l. append-nil (f p))

module _ (arities : List ℕ) (T : Table) where
  abbrev row_at : ℕ → List ℕ
  row_at p = row p (entry T p) (count_of arities T p)

  abbrev pub line_at : ℕ → List ℕ
  line_at p = constraint_line p (entry T p) (count_of arities T p)

  pub lines_rows : (n : ℕ) → lines_in 67 1 none· 1 (length (rows arities T n)) (rows arities T n) ≡ joined line_at n
  unfolding constraint_line
  lines_rows n =
      rw (← run_each row_at n)
      (lines_run row_at 67 78 1 1 (λ p. p ∷ []) (entry T) (λ p. count_of arities T p ∷ []) (λ p. refl) (λ p. refl) (λ p. refl) 67 none· line_at
      (λ p. rw (append-nil (field p), append-nil (slashed (count_of arities T p)))) (joined (λ p. p ∷ []) n) _ (omega arith)
      ∙ run_each line_at n)

-- ---- the image of a plan

-- a list that prints nothing where it is empty, and nothing that trails
listing_nil : (xs : List ℕ) → listing [] xs ++ [] ≡ run field xs
listing_nil [] = refl
listing_nil (x ∷ xs) = append-nil (run field (x ∷ xs))

pub lines_orders : (rs : List Row) → lines_in 79 2 [] 0 (length (run enc_row rs)) (run enc_row rs) ≡ run order_line rs
unfolding order_line
lines_orders rs =
    lines_run enc_row 67 79 2 0 (λ r. r.clause· ∷ r.pattern ∷ []) (λ r. r.places) (λ r. [])
    (λ r. ap (λ (l : List ℕ). 67 ∷ 79 ∷ r.clause· ∷ r.pattern ∷ length r.places ∷ l) (sym (append-nil r.places))) (λ r. refl) (λ r. refl) 79 [] order_line
    (λ r. rw (listing_nil r.places, append-nil (field r.pattern), append_assoc (field r.clause·) (field r.pattern) (run field r.places))) rs _ (omega arith)

module _ (σ rest : List ℕ) where
  pub line_query : line_in 81 0 [] 0 (enc_query σ ++ rest) ≡ query_line σ
  unfolding query_line
  line_query = line_first 81 79 [] σ [] rest 0 0 refl refl 81 [] ∙ ap (line 81) (listing_nil σ)

  pub behind_query : drop (3 + listed_count 0 0 (enc_query σ ++ rest)) (enc_query σ ++ rest) ≡ rest
  behind_query = rest_first 81 79 [] σ [] rest 0 0 refl refl
