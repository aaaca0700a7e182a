-- What the arrays of a book hold: what is read from one, what a store makes of it, and lists of so many clauses or modes, which are the first n
-- values of a function. Assumes nothing.
use mathlib.Core.Path.{◌≡◌, refl, sym, ap, ap₂, ◌∙◌}
use mathlib.Core.Bool.{Bool, true, false, not, cond, ◌&&◌, ◌||◌, or-false}
use mathlib.Core.List.{List, [], ◌∷◌, ◌++◌}
use Prim.Native.Nat.{ℕ, zero, suc, ◌+◌, ◌-◌, ◌*◌, ◌^◌, min, ◌≤◌, ◌<◌}
use native.Mathlib.Numerals.{add-one}
use native.Mathlib.Omega.{arith}
use lib.Bits.{bit_or}
use lib.Dec.{eqb, ltb}
use lib.ListN.{length, get_or, take, drop, replicate, length-take, length-drop}
use lib.Seq.{take-take, get_or-take, sets, length-sets}
use borrow.Author.Tests.{eqb-true, eqb-false, eq-eqb, ne_eqb, ltb-true, ltb-false}
use Rattle.std.specs.List.{CopiedTo, SameBelow, SameFrom}
use Rattle.masks.specs.Limits.{max_arity, max_masks}
use Rattle.masks.specs.Lists.{any, values, joined}
use Rattle.masks.specs.Set.{bit_at}
use Rattle.masks.proofs.Laws.Set.{bit_at_zero, bit_at_more}
use Rattle.masks.proofs.Laws.Logic.{by_bool, same, and_intro, and_left, and_right, or_right}
use Rattle.masks.proofs.Laws.Lists.{take_front, length_values, values_cong, get_or_values, joined_cong, joined_cut, any_joined, joined_any}
use Rattle.book.specs.Limits.{max_predicates, max_subgoals}
use Rattle.book.specs.Book.{Head, Call, Mode, Clause}
use Rattle.book.specs.Held.{window, count_in, byte_of, head_in, call_in, clause_size, clause_at, clauses_of, StoredClause, mode_size, has_in, masks_in, mode_bytes, has_mode, HaveMode, mode_at, modes_of, StoredMode}
use Rattle.book.proofs.Laws.Windows.{drop_window, get_or_window, get_or_window_first, window_others, drop_longer, Stored, stored_sets}

-- ---- a clause

-- subgoal j of clause k
abbrev call_at : List ℕ → ℕ → ℕ → Call
call_at rules k j = call_in (get_or rules (k * clause_size + 2 + j) 0)

-- the number of a call's arguments, and each of them
module _ (w : ℕ) where
  abbrev arg_at : ℕ → ℕ
  arg_at i = byte_of w (2 + i)

  pub args_count : length (call_in w).args ≡ min (count_in (byte_of w 1)) max_arity
  args_count = let t = length-take (count_in (byte_of w 1)) (values arg_at max_arity) in let v = length_values arg_at max_arity in omega arith

  pub args_at : (i : ℕ) → i < length (call_in w).args → get_or (call_in w).args i 0 ≡ byte_of w (2 + i)
  args_at i h =
      let l = args_count in
      get_or-take (count_in (byte_of w 1)) (values arg_at max_arity) i 0 (omega arith) ∙ get_or_values arg_at 0 max_arity i (omega arith)

-- the number of its subgoals, and each of them
module _ (rules : List ℕ) (k : ℕ) where
  pub clause_at_count : length (clause_at rules k).body ≡ min (get_or rules (k * clause_size) 0) max_subgoals
  unfolding clause_at
  clause_at_count = length_values (call_at rules k) (min (get_or rules (k * clause_size) 0) max_subgoals)

  pub clause_at_few : length (clause_at rules k).body ≤ max_subgoals
  clause_at_few = let e = clause_at_count in omega arith

  pub clause_at_body : (d : Call) (j : ℕ) → j < length (clause_at rules k).body → get_or (clause_at rules k).body j d ≡ call_at rules k j
  unfolding clause_at
  clause_at_body d j h = get_or_values (call_at rules k) d (min (get_or rules (k * clause_size) 0) max_subgoals) j (let n = clause_at_count in omega arith)

-- where the words of two clauses are the same, so are the clauses
pub clause_at_same : (rules after : List ℕ) (k i : ℕ) → ((j : ℕ) → j < clause_size → get_or after (i * clause_size + j) 0 ≡ get_or rules (k * clause_size + j) 0)
    → clause_at after i ≡ clause_at rules k
unfolding clause_at
clause_at_same rules after k i same =
    ap₂ (λ (h : Head) (b : List Call). record { head = h; body = b }) (ap head_in (same 1 (omega arith)))
    (ap (λ (n : ℕ). values (call_at after i) (min n max_subgoals)) count
    ∙ values_cong (call_at after i) (call_at rules k) (min (get_or rules (k * clause_size) 0) max_subgoals)
    (λ j h.
    let e : i * clause_size + (2 + j) ≡ i * clause_size + 2 + j = omega arith in
    let f : k * clause_size + (2 + j) ≡ k * clause_size + 2 + j = omega arith in
    ap call_in (ap (λ (p : ℕ). get_or after p 0) (sym e) ∙ same (2 + j) (omega arith) ∙ ap (λ (p : ℕ). get_or rules p 0) f)))
  where
    count : get_or after (i * clause_size) 0 ≡ get_or rules (k * clause_size) 0
    count =
        let e : i * clause_size + 0 ≡ i * clause_size = omega arith in
        let f : k * clause_size + 0 ≡ k * clause_size = omega arith in
        ap (λ (p : ℕ). get_or after p 0) (sym e) ∙ same 0 (omega arith) ∙ ap (λ (p : ℕ). get_or rules p 0) f

-- the loop that copies a clause over another: the first i words are copied, and all but the other's are as they were
-- the words of a clause are copied, and the others are as they were
pub moved_clause : (rules now : List ℕ) (from to n : ℕ) → n ≡ clause_size → CopiedTo rules now (from * clause_size) (to * clause_size) n
    → SameBelow rules now (to * clause_size) → SameFrom rules now (to * clause_size + n) → StoredClause rules now to (clause_at rules from)
moved_clause rules now from to n e copied below behind =
    record {
      is = clause_at_same rules now from to
          (λ j l.
          let q : from * clause_size + (to * clause_size + j - to * clause_size) ≡ from * clause_size + j = omega arith in
          copied (to * clause_size + j) 0 (omega arith) (omega arith) ∙ ap (λ (i : ℕ). get_or rules i 0) q);
      others = λ k other.
          clause_at_same rules now k k
          (λ j l.
          by_bool (ltb k to) (λ t. let h = ltb-true k to t in below (k * clause_size + j) 0 (omega arith))
          (λ t. let h = ltb-false k to t in behind (k * clause_size + j) 0 (omega (arith, other))));
    }

-- ---- the first n clauses

pub clauses_of_length : (rules : List ℕ) (n : ℕ) → length (clauses_of rules n) ≡ n
unfolding clauses_of
clauses_of_length rules n = length_values (clause_at rules) n

pub clauses_of_at : (rules : List ℕ) (d : Clause) (n i : ℕ) → i < n → get_or (clauses_of rules n) i d ≡ clause_at rules i
unfolding clauses_of
clauses_of_at rules d n i h = get_or_values (clause_at rules) d n i h

pub clauses_of_kept : (rules after : List ℕ) (n : ℕ) → ((i : ℕ) → i < n → clause_at after i ≡ clause_at rules i) → clauses_of after n ≡ clauses_of rules n
unfolding clauses_of
clauses_of_kept rules after n h = values_cong (clause_at after) (clause_at rules) n h

module _ {rules after : List ℕ} {k : ℕ} {c : Clause} (s : StoredClause rules after k c) where
  pub clauses_of_before : (n : ℕ) → n ≤ k → clauses_of after n ≡ clauses_of rules n
  clauses_of_before n h = clauses_of_kept rules after n (λ i l. s.others i (λ e. omega arith))

  pub clauses_of_stored : clauses_of after (k + 1) ≡ clauses_of rules k ++ (c ∷ [])
  unfolding clauses_of
  clauses_of_stored = rw add-one (ap₂ (λ (b : List Clause) (x : Clause). b ++ (x ∷ [])) (clauses_of_before k (omega arith)) s.is)

-- ---- modes

-- a number of bytes and the bytes, behind the first of a window
pub masks_in_window : (l : List ℕ) (at n : ℕ) (s : List ℕ) → s ≡ window (at + 2) n l → take (get_or l (at + 1) 0) s ≡ masks_in (window at (2 + n) l)
masks_in_window l at n s e = ap₂ (λ (k : ℕ) (r : List ℕ). take k r) (sym (get_or_window at (2 + n) 1 l (omega arith))) (e ∙ sym (drop_window at 2 n l))

-- the same bytes lent where they stand, at most n of them
pub masks_in_part : (l : List ℕ) (at n k : ℕ) → at + 2 + n ≤ length l → k ≡ min (get_or l (at + 1) 0) n
    → take (at + 2 + k - (at + 2)) (drop (at + 2) l) ≡ masks_in (window at (2 + n) l)
masks_in_part l at n k h e =
    let s = window (at + 2) n l in
    let m = get_or l (at + 1) 0 in
    let d = length-drop (at + 2) l in
    let p : at + 2 + k - (at + 2) ≡ k = omega arith in
    let q : k ≡ length (take m s) = omega (arith, length-take m s, length-take n (drop (at + 2) l)) in
    rw p (sym (take-take k n (drop (at + 2) l) (omega arith)) ∙ ap (λ (i : ℕ). take i s) q ∙ take_front m s ∙ masks_in_window l at n s refl)

-- a mode that is stored: whether there is one, the number of its masks, and the masks
pub stored_masks : (modes : List ℕ) (p : ℕ) (masks : List ℕ) → length masks ≤ max_masks → p * mode_size + mode_size ≤ length modes
    → StoredMode modes (sets modes (p * mode_size) (1 ∷ length masks ∷ masks)) p masks
unfolding mode_at
stored_masks modes p masks few room =
    record {
      is = go (get_or (mode_bytes after p) 0 0) (masks_in (mode_bytes after p)) first all;
      others = λ i ne. window_others after modes mode_size p i ne s.before (drop_longer after modes (at + mode_size) (at + (2 + n)) (omega arith) s.behind);
    }
  where
    at : ℕ
    at = p * mode_size

    n : ℕ
    n = length masks

    after : List ℕ
    after = sets modes at (1 ∷ n ∷ masks)

    s : Stored modes after at (2 + n) (1 ∷ n ∷ masks)
    s = stored_sets modes at (2 + n) (1 ∷ n ∷ masks) (omega arith) (omega arith)

    first : get_or (mode_bytes after p) 0 0 ≡ 1
    first = get_or_window_first at mode_size after (omega arith) ∙ sym (get_or_window_first at (2 + n) after (omega arith)) ∙ ap (λ (b : List ℕ). get_or b 0 0) s.is

    count : get_or after (at + 1) 0 ≡ n
    count = sym (get_or_window at (2 + n) 1 after (omega arith)) ∙ ap (λ (b : List ℕ). get_or b 1 0) s.is

    all : masks_in (mode_bytes after p) ≡ masks
    all =
        let e : at + 2 + n - (at + 2) ≡ n = omega arith in
        sym (masks_in_part after at max_masks n (omega (arith, length-sets modes at (1 ∷ n ∷ masks))) (omega (arith, count)))
        ∙ ap (λ (k : ℕ). take k (drop (at + 2) after)) e ∙ sym (drop_window at 2 n after) ∙ ap (drop 2) s.is

    one : List ℕ → List Mode
    one m = record { pred = p; masks = m } ∷ []

    go : (b : ℕ) (m : List ℕ) → b ≡ 1 → m ≡ masks → cond (not (eqb b 0)) (one m) [] ≡ one masks
    go b m e f = rw (e, f)

-- the other predicates' modes are as they were
pub mode_at_others : {modes after : List ℕ} {p : ℕ} {masks : List ℕ} → StoredMode modes after p masks → (i : ℕ) → (i ≡ p → ⊥) → mode_at after i ≡ mode_at modes i
unfolding mode_at
mode_at_others s i ne = ap (λ (b : List ℕ). cond (has_in b) (record { pred = i; masks = masks_in b } ∷ []) []) (s.others i ne)

get_or_zeros : (n i : ℕ) → ◌≡◌ {A = ℕ} (get_or (replicate n 0) i 0) 0
get_or_zeros zero i = refl
get_or_zeros (suc n) zero = refl
get_or_zeros (suc n) (suc i) = get_or_zeros n i

pub mode_at_zeros : (n p : ℕ) → mode_at (replicate n 0) p ≡ []
unfolding mode_at
mode_at_zeros n p =
    let e : get_or (mode_bytes (replicate n 0) p) 0 0 ≡ 0 =
    get_or_window_first (p * mode_size) mode_size (replicate n 0) (omega arith) ∙ get_or_zeros n (p * mode_size) in
    rw e

-- ---- the modes of the first n predicates

pub modes_of_joined : (modes : List ℕ) (n : ℕ) → modes_of modes n ≡ joined (mode_at modes) n
unfolding modes_of
modes_of_joined modes zero = refl
modes_of_joined modes (suc n) = ap (λ (l : List Mode). l ++ mode_at modes n) (modes_of_joined modes n)

modes_of_kept : (modes after : List ℕ) (n : ℕ) → ((i : ℕ) → i < n → mode_at after i ≡ mode_at modes i) → modes_of after n ≡ modes_of modes n
modes_of_kept modes after n h = modes_of_joined after n ∙ joined_cong (mode_at after) (mode_at modes) n h ∙ sym (modes_of_joined modes n)

pub modes_of_rest : (modes : List ℕ) (b n : ℕ) → b ≤ n → ((i : ℕ) → b ≤ i → mode_at modes i ≡ []) → modes_of modes n ≡ modes_of modes b
modes_of_rest modes b n h f = modes_of_joined modes n ∙ joined_cut (mode_at modes) b n h f ∙ sym (modes_of_joined modes b)

pub modes_of_stored : {modes after : List ℕ} {p : ℕ} {masks : List ℕ} → StoredMode modes after p masks → (b : ℕ) → b ≤ p
    → ((i : ℕ) → b ≤ i → mode_at modes i ≡ []) → modes_of after (p + 1) ≡ modes_of modes b ++ (record { pred = p; masks = masks } ∷ [])
unfolding modes_of
modes_of_stored {modes} {after} {p} s b h f =
    rw add-one
    (ap₂ (λ (x y : List Mode). x ++ y) (modes_of_kept modes after p (λ i l. mode_at_others s i (λ e. omega arith)) ∙ modes_of_rest modes b p h f) s.is)

-- predicate p has a mode where its bytes say so
module _ (modes : List ℕ) (p : ℕ) where
  abbrev is_of : Mode → Bool
  is_of m = eqb m.pred p

  at_one : (i : ℕ) → any is_of (mode_at modes i) ≡ (has_in (mode_bytes modes i) && eqb i p)
  unfolding mode_at
  at_one i = go (has_in (mode_bytes modes i))
    where
      go : (b : Bool) → any is_of (cond b (record { pred = i; masks = masks_in (mode_bytes modes i) } ∷ []) []) ≡ (b && eqb i p)
      go true = or-false (eqb i p)
      go false = refl

pub has_mode_modes_of : (modes : List ℕ) (n p : ℕ) → p < n → has_mode (modes_of modes n) p ≡ has_in (mode_bytes modes p)
unfolding has_mode
has_mode_modes_of modes n p h =
    ap (any (is_of modes p)) (modes_of_joined modes n)
    ∙ same (any (is_of modes p) (joined (mode_at modes) n)) (has_in (mode_bytes modes p))
    (λ t.
    let r = joined_any (is_of modes p) (mode_at modes) n t in
    let b : (has_in (mode_bytes modes r.0) && eqb r.0 p) ≡ true = sym (at_one modes p r.0) ∙ r.2 in
    rw (← eqb-true r.0 p (and_right (has_in (mode_bytes modes r.0)) (eqb r.0 p) b)) (and_left (has_in (mode_bytes modes r.0)) (eqb r.0 p) b))
    (λ t. any_joined (is_of modes p) (mode_at modes) n p h (at_one modes p p ∙ and_intro t (eq-eqb p p refl)))

-- ---- the loop that makes the set of predicates with MO: those below p are in it

pub record Having (modes : List ℕ) (p set· : ℕ) : Type 0 where
  pub most : p ≤ max_predicates
  pub below : (q : ℕ) → q < p → bit_at set· q ≡ has_in (mode_bytes modes q)
  pub behind : (q : ℕ) → p ≤ q → bit_at set· q ≡ false

pub having_start : (modes : List ℕ) → Having modes 0 0
having_start modes = record { most = omega arith; below = λ q h. absurd (omega arith); behind = λ q h. bit_at_zero q }

module _ {modes : List ℕ} {p set· : ℕ} (h : p < max_predicates) (g : Having modes p set·) where
  -- p's own, where the next set has it or not
  having_next : (next : ℕ) → bit_at next p ≡ has_in (mode_bytes modes p) → ((q : ℕ) → (q ≡ p → ⊥) → bit_at next q ≡ bit_at set· q) → Having modes (p + 1) next
  having_next next own others =
      record {
        most = omega arith;
        below = λ q l.
            by_bool (eqb q p) (λ t. rw (eqb-true q p t) own) (λ t. let ne = eqb-false q p t in others q ne ∙ g.below q (omega (arith, ne)));
        behind = λ q l. others q (λ e. omega arith) ∙ g.behind q (omega arith);
      }

  pub having_one : has_in (mode_bytes modes p) ≡ true → Having modes (p + 1) (bit_or set· (2 ^ p))
  having_one e =
      having_next (bit_or set· (2 ^ p)) (bit_at_more set· p p ∙ or_right (bit_at set· p) (eq-eqb p p refl) ∙ sym e)
      (λ q ne. bit_at_more set· p q ∙ ap (λ (b : Bool). bit_at set· q || b) (ne_eqb p q (λ f. ne (sym f))) ∙ or-false (bit_at set· q))

  pub having_none : has_in (mode_bytes modes p) ≡ false → Having modes (p + 1) set·
  having_none e = having_next set· (g.behind p (omega arith) ∙ sym e) (λ q ne. refl)

pub having_end : {modes : List ℕ} {p set· : ℕ} → max_predicates ≤ p → Having modes p set· → HaveMode modes set·
having_end h g q l = g.below q (omega arith)
