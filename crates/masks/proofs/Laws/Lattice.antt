-- On constraints in written form the choice and the joint obey the laws of 'or' and 'and': at each pattern they are those laws, and written
-- forms that admit the same patterns are equal. Assumes nothing.
use mathlib.Core.Path.{◌≡◌, refl, ◌∙◌}
use mathlib.Core.Bool.{true, ◌&&◌, ◌||◌, and_comm, or_comm, and_assoc, or_assoc, and_self, or_self, and-or_distrib_left, or-and_distrib_left}
use mathlib.Core.List.{List}
use Prim.Native.Nat.{ℕ}
use Rattle.masks.specs.Limits.{all_patterns}
use Rattle.masks.specs.Mask.{within}
use Rattle.masks.specs.Constraint.{admits, in_range, is_written, choice, joint, ill, trivial}
use Rattle.masks.proofs.Laws.Constraint.{canonical, written_in_range, choice_is_written, joint_is_written, admits_choice, admits_joint}

-- c is in written form, whatever its arity
abbrev pub Written : List ℕ → Type 0
Written c = is_written all_patterns c ≡ true

equal : (c d : List ℕ) → Written c → Written d → ((a : ℕ) → admits c a ≡ admits d a) → c ≡ d
equal c d wc wd f = canonical all_patterns c d wc wd (λ a h. f a)

module _ (c d : List ℕ) (wc : Written c) (wd : Written d) where
  at_choice : (a : ℕ) → admits (choice c d) a ≡ (admits c a || admits d a)
  at_choice = admits_choice c d (written_in_range all_patterns c wc) (written_in_range all_patterns d wd)

  at_joint : (a : ℕ) → admits (joint c d) a ≡ (admits c a && admits d a)
  at_joint = admits_joint c d (written_in_range all_patterns c wc) (written_in_range all_patterns d wd)

module _ (c d : List ℕ) (wc : Written c) (wd : Written d) where
  pub choice_comm : choice c d ≡ choice d c
  choice_comm =
      equal (choice c d) (choice d c) (choice_is_written c d) (choice_is_written d c)
      (λ a. simp (at_choice c d wc wd, at_choice d c wd wc) (or_comm (admits c a) (admits d a)))

  pub joint_comm : joint c d ≡ joint d c
  joint_comm =
      equal (joint c d) (joint d c) (joint_is_written c d) (joint_is_written d c)
      (λ a. simp (at_joint c d wc wd, at_joint d c wd wc) (and_comm (admits c a) (admits d a)))

module _ (c d e : List ℕ) (wc : Written c) (wd : Written d) (we : Written e) where
  pub choice_assoc : choice (choice c d) e ≡ choice c (choice d e)
  choice_assoc =
      equal (choice (choice c d) e) (choice c (choice d e)) (choice_is_written (choice c d) e) (choice_is_written c (choice d e))
      (λ a. simp (at_choice (choice c d) e (choice_is_written c d) we, at_choice c (choice d e) wc (choice_is_written d e), at_choice c d wc wd, at_choice d e wd we)
      (or_assoc (admits c a) (admits d a) (admits e a)))

  pub joint_assoc : joint (joint c d) e ≡ joint c (joint d e)
  joint_assoc =
      equal (joint (joint c d) e) (joint c (joint d e)) (joint_is_written (joint c d) e) (joint_is_written c (joint d e))
      (λ a. simp (at_joint (joint c d) e (joint_is_written c d) we, at_joint c (joint d e) wc (joint_is_written d e), at_joint c d wc wd, at_joint d e wd we)
      (and_assoc (admits c a) (admits d a) (admits e a)))

  pub joint_over_choice : joint c (choice d e) ≡ choice (joint c d) (joint c e)
  joint_over_choice =
      equal (joint c (choice d e)) (choice (joint c d) (joint c e)) (joint_is_written c (choice d e)) (choice_is_written (joint c d) (joint c e))
      (λ a. simp (at_joint c (choice d e) wc (choice_is_written d e), at_choice (joint c d) (joint c e) (joint_is_written c d) (joint_is_written c e))
      (simp (at_choice d e wd we, at_joint c d wc wd, at_joint c e wc we)
      (and-or_distrib_left (admits c a) (admits d a) (admits e a))))

  pub choice_over_joint : choice c (joint d e) ≡ joint (choice c d) (choice c e)
  choice_over_joint =
      equal (choice c (joint d e)) (joint (choice c d) (choice c e)) (choice_is_written c (joint d e)) (joint_is_written (choice c d) (choice c e))
      (λ a. simp (at_choice c (joint d e) wc (joint_is_written d e), at_joint (choice c d) (choice c e) (choice_is_written c d) (choice_is_written c e))
      (simp (at_joint d e wd we, at_choice c d wc wd, at_choice c e wc we)
      (or-and_distrib_left (admits c a) (admits d a) (admits e a))))

module _ (c : List ℕ) (wc : Written c) where
  pub choice_idem : choice c c ≡ c
  choice_idem = equal (choice c c) c (choice_is_written c c) wc (λ a. at_choice c c wc wc a ∙ or_self (admits c a))

  pub joint_idem : joint c c ≡ c
  joint_idem = equal (joint c c) c (joint_is_written c c) wc (λ a. at_joint c c wc wc a ∙ and_self (admits c a))

  -- ill is the choice's unit and trivial the joint's, on either side
  ill_written : Written ill
  unfolding is_written in_range
  ill_written = refl

  trivial_written : Written trivial
  unfolding is_written in_range
  trivial_written = refl

  pub choice_ill_left : choice ill c ≡ c
  unfolding admits
  choice_ill_left = equal (choice ill c) c (choice_is_written ill c) wc (λ a. at_choice ill c ill_written wc a)

  pub choice_ill_right : choice c ill ≡ c
  choice_ill_right = choice_comm c ill wc ill_written ∙ choice_ill_left

  pub joint_trivial_left : joint trivial c ≡ c
  unfolding admits within
  joint_trivial_left = equal (joint trivial c) c (joint_is_written trivial c) wc (λ a. at_joint trivial c trivial_written wc a)

  pub joint_trivial_right : joint c trivial ≡ c
  joint_trivial_right = joint_comm c trivial wc trivial_written ∙ joint_trivial_left
