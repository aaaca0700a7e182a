-- The bytes of a book, and the books that have bytes. Every definition computes. Assumes nothing.
use Rattle.std.specs.Prelude.{◌≡◌, Bool, true, cond, ◌&&◌, List, [], ◌∷◌, ◌++◌, ℕ, suc, ◌^◌, eqb, leb, length, get_or}
use Rattle.masks.specs.Limits.{max_arity, max_masks}
use Rattle.masks.specs.Lists.{all}
use Rattle.book.specs.Limits.{max_predicates, max_clauses, max_subgoals}
use Rattle.book.specs.Book.{Head, Call, Mode, Clause, Book}
use Rattle.book.specs.Format.{spelling, allows, argument_in}
use Rattle.book.specs.declared.mark.Mark.TheVariants.{Pr, Mo, Cl, Sg, Ng, Qu}
use Rattle.book.specs.declared.range.Range.{Range}
use Rattle.book.specs.declared.range.Range.TheVariants.{Below, AtMost, NoWildcard}

-- ---- "A book is a run of records, each led by a two-byte mark in ASCII"

-- a record: its mark, and its fields
abbrev pub PR : List ℕ → List ℕ
PR fields = spelling Pr ++ fields

abbrev pub MO : List ℕ → List ℕ
MO fields = spelling Mo ++ fields

abbrev pub CL : List ℕ → List ℕ
CL fields = spelling Cl ++ fields

abbrev pub SG : List ℕ → List ℕ
SG fields = spelling Sg ++ fields

abbrev pub NG : List ℕ → List ℕ
NG fields = spelling Ng ++ fields

abbrev pub QU : List ℕ
QU = spelling Qu

-- one record after another
abbrev pub run : {A : Type 0} → (A → List ℕ) → List A → List ℕ
run f [] = []
run f (x ∷ xs) = f x ++ run f xs

-- "PR: arity"
abbrev pub enc_predicate : ℕ → List ℕ
enc_predicate a = PR (a ∷ [])

-- "MO: predicate, n, n masks"
abbrev pub enc_mode : Mode → List ℕ
enc_mode m = MO (m.pred ∷ length m.masks ∷ m.masks)

-- "predicate, one argument per position"
abbrev pub enc_head : Head → List ℕ
enc_head h = h.pred ∷ h.args

-- "SG", or "NG" with the same fields
abbrev pub enc_subgoal : Call → List ℕ
enc_subgoal c = cond c.negated (NG (c.pred ∷ c.args)) (SG (c.pred ∷ c.args))

-- "CL", then its subgoals
abbrev pub enc_clause : Clause → List ℕ
enc_clause c = CL (enc_head c.head ++ run enc_subgoal c.body)

-- "all PR, then all MO, then clauses, then one QU"
unfoldable pub encode : Book → List ℕ
encode b =
    run enc_predicate b.arities
    ++ (run enc_mode b.modes ++ (run enc_clause b.clauses ++ (QU ++ run enc_subgoal b.query)))

-- ---- the books that keep to the limits

-- a predicate of the book, and as many arguments as its arity, each in its range
abbrev pub fields_fit : Range → List ℕ → ℕ → List ℕ → Bool
fields_fit r ar p args = allows (Below (length ar)) p && (eqb (length args) (get_or ar p 0) && all (allows r) args)

abbrev pub head_fits : List ℕ → Head → Bool
head_fits ar h = fields_fit NoWildcard ar h.pred h.args

abbrev pub call_fits : List ℕ → Call → Bool
call_fits ar c = fields_fit (argument_in c.negated) ar c.pred c.args

-- a predicate of the book, at most 20 alternatives, each a mask of its positions
abbrev pub mode_fits : List ℕ → Mode → Bool
mode_fits ar m =
    allows (Below (length ar)) m.pred
    && (allows (AtMost max_masks) (length m.masks) && all (allows (Below (2 ^ get_or ar m.pred 0))) m.masks)

-- "MO records rise strictly by predicate", none below b
abbrev pub rises : ℕ → List Mode → Bool
rises b [] = true
rises b (m ∷ ms) = leb b m.pred && rises (suc m.pred) ms

-- a head, and at most 8 subgoals
abbrev pub clause_fits : List ℕ → Clause → Bool
clause_fits ar c = head_fits ar c.head && (leb (length c.body) max_subgoals && all (call_fits ar) c.body)

pub record WellFormed (b : Book) : Type 0 where
  pub few_predicates : leb (length b.arities) max_predicates ≡ true
  pub arities_fit : all (allows (AtMost max_arity)) b.arities ≡ true
  pub modes_fit : all (mode_fits b.arities) b.modes ≡ true
  pub modes_rise : rises 0 b.modes ≡ true
  pub few_clauses : leb (length b.clauses) max_clauses ≡ true
  pub clauses_fit : all (clause_fits b.arities) b.clauses ≡ true
  pub few_asked : leb (length b.query) max_subgoals ≡ true
  pub query_fits : all (call_fits b.arities) b.query ≡ true
