-- A tally grows by one a query, so that it says how many are accepted and how many are not; and how a call comes to its promise. Assumes nothing.
use mathlib.Core.Path.{◌≡◌, refl, sym, ap, ap₂, ◌∙◌}
use mathlib.Core.Bool.{Bool, true, false}
use mathlib.Core.List.{List, [], ◌∷◌, ◌++◌}
use Prim.Native.Nat.{ℕ, zero, suc, ◌+◌, ◌≤◌, ◌<◌}
use native.Mathlib.Omega.{arith}
use lib.Dec.{ltb}
use lib.ListN.{length, get_or, take}
use lib.Seq.{take-suc}
use borrow.Author.Tests.{lt-ltb, le-ltb}
use Rattle.masks.specs.Lists.{how_many}
use Rattle.masks.specs.Outcome.{Outcome, refused, done, in_room, reply, Answers}
use Rattle.masks.specs.declared.reply.Reply.{Reply}
use Rattle.masks.proofs.Laws.Logic.{by_bool}
use Rattle.masks.proofs.Laws.Counts.{how_many_yes, how_many_no}
use Rattle.masks.proofs.Laws.Outcome.{answers_unique}
use Rattle.tally.specs.Tallied.{tallied, tally_from, zeroes, left_tally, Tallies}
use Rattle.tally.specs.declared.Tally.{Tally}

-- ---- computed: of three queries, the second turned away, in room enough and in too little

abbrev pub old : Tally
old = record { accepted = 11; turned_away = 22 }

pub from_zero : left_tally (done 0 (7 ∷ [])) 1 (true ∷ false ∷ true ∷ []) old ≡ record { accepted = 2; turned_away = 1 }
unfolding left_tally tally_from tallied
from_zero = refl

pub kept_at_nine : left_tally (done 0 (7 ∷ [])) 0 (true ∷ false ∷ true ∷ []) old ≡ old
unfolding left_tally
kept_at_nine = refl

-- ---- counts

-- one more of the accepted, or of those turned away
module _ (t : Tally) {accepted : Bool} {a n : ℕ} where
  pub one_accepted : accepted ≡ true → a ≡ t.accepted + 1 → n ≡ t.turned_away → record { accepted = a; turned_away = n } ≡ tallied t accepted
  unfolding tallied
  one_accepted b d e = rw (b, d, e)

  pub one_turned_away : accepted ≡ false → a ≡ t.accepted → n ≡ t.turned_away + 1 → record { accepted = a; turned_away = n } ≡ tallied t accepted
  unfolding tallied
  one_turned_away b d e = rw (b, d, e)

-- no more than n on either side
abbrev pub AtMost : ℕ → Tally → Type 0
AtMost n t = (t.accepted ≤ n) × (t.turned_away ≤ n)

pub tallied_at_most : {n : ℕ} (t : Tally) (b : Bool) → AtMost n t → AtMost (n + 1) (tallied t b)
unfolding tallied
tallied_at_most t true h = (omega arith, omega arith)
tallied_at_most t false h = (omega arith, omega arith)

pub tally_append : (t : Tally) (a b : List Bool) → tally_from t (a ++ b) ≡ tally_from (tally_from t a) b
unfolding tally_from
tally_append t [] b = refl
tally_append t (x ∷ a) b = tally_append (tallied t x) a b

-- each query is on one side
pub tally_sum : (t : Tally) (each : List Bool) → (tally_from t each).accepted + (tally_from t each).turned_away ≡ t.accepted + t.turned_away + length each
unfolding tally_from tallied
tally_sum t [] = omega arith
tally_sum t (true ∷ each) = let h = tally_sum (tallied t true) each in omega arith
tally_sum t (false ∷ each) = let h = tally_sum (tallied t false) each in omega arith

-- those accepted are as many as it says
pub tally_accepted : (each : List Bool) (d : Bool) (n : ℕ) → n ≤ length each → (tally_from zeroes (take n each)).accepted ≡ how_many (λ i. get_or each i d) n
unfolding tally_from tallied how_many
tally_accepted each d zero h = refl
tally_accepted each d (suc n) h =
    let last = get_or each n d in
    let so_far = tally_from zeroes (take n each) in
    ap (λ (l : List Bool). (tally_from zeroes l).accepted) (take-suc each n d h)
    ∙ ap (λ (t : Tally). t.accepted) (tally_append zeroes (take n each) (last ∷ []))
    ∙ by_bool last
    (λ e. ap (λ (b : Bool). (tallied so_far b).accepted) e ∙ one so_far ∙ ap suc (tally_accepted each d n (omega arith)) ∙ sym (how_many_yes (λ i. get_or each i d) n e))
    (λ e. ap (λ (b : Bool). (tallied so_far b).accepted) e ∙ none so_far ∙ tally_accepted each d n (omega arith) ∙ sym (how_many_no (λ i. get_or each i d) n e))
  where
    one : (t : Tally) → (tallied t true).accepted ≡ suc t.accepted
    one t = omega arith

    none : (t : Tally) → (tallied t false).accepted ≡ t.accepted
    none t = refl

-- ---- a call's promise: by a refusal, for want of room, or done

module _ {each : List Bool} {out after : List ℕ} {old : Tally} {r : Reply} where
  pub tallies_refused : (number value : ℕ) → Answers (refused number value) out r after → Tallies (refused number value) each out old r after old
  unfolding left_tally
  tallies_refused number value a = record { answers = a; tally· = refl }

  -- the tally is what it was, field by field
  pub tallies_short : (rounds : ℕ) (bytes : List ℕ) {t : Tally} → length out < length bytes → Answers (done rounds bytes) out r after
      → t.accepted ≡ old.accepted → t.turned_away ≡ old.turned_away → Tallies (done rounds bytes) each out old r after t
  unfolding left_tally
  tallies_short rounds bytes h a d e =
      record {
        answers = a;
        tally· = rw (lt-ltb (length out) (length bytes) h) (ap₂ (λ (x y : ℕ). record { accepted = x; turned_away = y }) d e);
      }

  pub tallies_done : (rounds : ℕ) (bytes : List ℕ) {t : Tally} → length bytes ≤ length out → Answers (done rounds bytes) out r after
      → t ≡ tally_from zeroes each → Tallies (done rounds bytes) each out old r after t
  unfolding left_tally
  tallies_done rounds bytes h a e = record { answers = a; tally· = rw (le-ltb (length out) (length bytes) h) e }

-- ---- what holds of every call

-- "a refused one doesn't touch it"
pub tallies_kept : (o : Outcome) {each : List Bool} {out : List ℕ} {old : Tally} {r : Reply} {after : List ℕ} {t : Tally} → Tallies o each out old r after t → (r.number ≡ 0 → ⊥) → t ≡ old
unfolding left_tally reply in_room
tallies_kept (refused number value) w z = w.tally·
tallies_kept (done rounds bytes) {out = out} w z =
    by_bool (ltb (length out) (length bytes)) (λ e. w.tally· ∙ rw e) (λ e. absurd (z (ap (λ (x : Reply). x.number) w.answers.replies ∙ rw e)))

-- "a call that succeeds starts it at zero"
pub tallies_told : {rounds : ℕ} {bytes : List ℕ} {each : List Bool} {out : List ℕ} {old : Tally} {r : Reply} {after : List ℕ} {t : Tally}
    → Tallies (done rounds bytes) each out old r after t → r.number ≡ 0 → t ≡ tally_from zeroes each
unfolding left_tally reply in_room
tallies_told {bytes = bytes} {out = out} w z =
    by_bool (ltb (length out) (length bytes))
    (λ e. let n : ◌≡◌ {A = ℕ} 9 0 = sym (ap (λ (x : Reply). x.number) w.answers.replies ∙ rw e) ∙ z in absurd (omega arith))
    (λ e. w.tally· ∙ rw e)

-- two results that a call may have are equal: its reply, every byte, and the tally
pub tallies_unique : {o : Outcome} {each : List Bool} {out : List ℕ} {old : Tally} {r s : Reply} {a b : List ℕ} {t u : Tally} → Tallies o each out old r a t → Tallies o each out old s b u
    → (r ≡ s) × (a ≡ b) × (t ≡ u)
tallies_unique x y = let e = answers_unique x.answers y.answers in (e.0, e.1, x.tally· ∙ sym y.tally·)
