-- Marks, and whose turn it is: the bytes at one of the six marks are its two, and a run has those for its own that the table of turns
-- tells so. Assumes nothing.
use mathlib.Core.Path.{◌≡◌, refl, ap, ◌∙◌, subst}
use mathlib.Core.Logic.{◌⊎◌, inl, inr, ⊎_elim}
use mathlib.Core.Bool.{Bool, true, false, cond, false≢true}
use mathlib.Core.List.{List, [], ◌∷◌, ◌++◌}
use Prim.Native.Nat.{ℕ}
use lib.Dec.{eqb}
use lib.ListN.{drop}
use borrow.Author.Tests.{eqb-true}
use Rattle.masks.proofs.Laws.Logic.{clash, and_left, and_right}
use Rattle.book.specs.Format.{spelling, leads, unmarked, mark_at, column, turn, Bodied}
use Rattle.book.specs.declared.fault.Fault.TheVariants.{PastEnd, NoMark}
use Rattle.book.specs.declared.mark.Mark.{Mark}
use Rattle.book.specs.declared.mark.Mark.TheVariants.{Pr, Mo, Cl, Sg, Ng, Qu, Other, Half, End}
use Rattle.book.specs.declared.mark.Phase.{Phase}
use Rattle.book.specs.declared.mark.Phase.TheVariants.{Predicates, Modes, Clauses, Body, Query, Queries, PageQuery}
use Rattle.book.specs.declared.mark.Turn.{Turn}
use Rattle.book.specs.declared.mark.Turn.TheVariants.{Mine, Over, No}

-- ---- what the bytes begin with

pub leads_two : (a b : ℕ) (s : List ℕ) → leads (a ∷ b ∷ []) s ≡ true → s ≡ a ∷ b ∷ drop 2 s
leads_two a b [] t = absurd (false≢true t)
leads_two a b (x ∷ []) t = absurd (false≢true t)
leads_two a b (x ∷ y ∷ s) t =
    let p = eqb-true x a (and_left (eqb x a) (eqb y b) t) in
    let q = eqb-true y b (and_right (eqb x a) (eqb y b) t) in
    rw (p, q)

-- by cases on the six tests
pick : (P : Mark → Type 0) (a b c d e f : Bool) {m : Mark} → (a ≡ true → P Pr) → (b ≡ true → P Mo) → (c ≡ true → P Cl) → (d ≡ true → P Sg) → (e ≡ true → P Ng)
    → (f ≡ true → P Qu) → P m → P (cond a Pr (cond b Mo (cond c Cl (cond d Sg (cond e Ng (cond f Qu m))))))
pick P true b c d e f p q r s t u v = p refl
pick P false true c d e f p q r s t u v = q refl
pick P false false true d e f p q r s t u v = r refl
pick P false false false true e f p q r s t u v = s refl
pick P false false false false true f p q r s t u v = t refl
pick P false false false false false true p q r s t u v = u refl
pick P false false false false false false p q r s t u v = v

module _ (P : Mark → Type 0) (s : List ℕ) where
  pub by_mark : (leads (spelling Pr) s ≡ true → P Pr) → (leads (spelling Mo) s ≡ true → P Mo) → (leads (spelling Cl) s ≡ true → P Cl)
      → (leads (spelling Sg) s ≡ true → P Sg) → (leads (spelling Ng) s ≡ true → P Ng) → (leads (spelling Qu) s ≡ true → P Qu) → P (unmarked s) → P (mark_at s)
  unfolding mark_at
  by_mark p q r t u v w =
      pick P (leads (spelling Pr) s) (leads (spelling Mo) s) (leads (spelling Cl) s) (leads (spelling Sg) s) (leads (spelling Ng) s) (leads (spelling Qu) s) p q r t u v w

-- the two bytes of a mark, and the rest
abbrev pub Spelt : List ℕ → Mark → Type 0
Spelt s Pr = s ≡ spelling Pr ++ drop 2 s
Spelt s Mo = s ≡ spelling Mo ++ drop 2 s
Spelt s Cl = s ≡ spelling Cl ++ drop 2 s
Spelt s Sg = s ≡ spelling Sg ++ drop 2 s
Spelt s Ng = s ≡ spelling Ng ++ drop 2 s
Spelt s Qu = s ≡ spelling Qu ++ drop 2 s
Spelt s Other = Unit {0}
Spelt s Half = Unit {0}
Spelt s End = s ≡ []

pub spelt : (s : List ℕ) → Spelt s (mark_at s)
spelt s = by_mark (Spelt s) s (leads_two 80 82 s) (leads_two 77 79 s) (leads_two 67 76 s) (leads_two 83 71 s) (leads_two 78 71 s) (leads_two 81 85 s) (none s)
  where
    none : (t : List ℕ) → Spelt t (unmarked t)
    none [] = refl
    none (x ∷ []) = tt
    none (x ∷ y ∷ t) = tt

-- ---- a row of the table of turns

module _ (P : Mark → Type 0) (m : Mark) {pr mo cl sg qu end t : Turn} where
  by_column : column m pr mo cl sg qu end ≡ t → (pr ≡ t → P Pr) → (mo ≡ t → P Mo) → (cl ≡ t → P Cl) → (sg ≡ t → P Sg × P Ng) → (qu ≡ t → P Qu)
      → (end ≡ t → P End) → (No NoMark ≡ t → P Other) → (No PastEnd ≡ t → P Half) → P m
  by_column e = go m e
    where
      go : (k : Mark) → column k pr mo cl sg qu end ≡ t → (pr ≡ t → P Pr) → (mo ≡ t → P Mo) → (cl ≡ t → P Cl) → (sg ≡ t → P Sg × P Ng) → (qu ≡ t → P Qu)
          → (end ≡ t → P End) → (No NoMark ≡ t → P Other) → (No PastEnd ≡ t → P Half) → P k
      go Pr e a b c d f g h i = a e
      go Mo e a b c d f g h i = b e
      go Cl e a b c d f g h i = c e
      go Sg e a b c d f g h i = (d e).0
      go Ng e a b c d f g h i = (d e).1
      go Qu e a b c d f g h i = f e
      go End e a b c d f g h i = g e
      go Other e a b c d f g h i = h e
      go Half e a b c d f g h i = i e

-- an entry of another kind
abbrev mine : Turn → Bool
mine Mine = true
mine Over = false
mine (No f) = false

abbrev over : Turn → Bool
over Mine = false
over Over = true
over (No f) = false

not_mine : {P : Type 0} (t : Turn) → mine t ≡ false → t ≡ Mine → P
not_mine t n e = clash (ap mine e) n

not_over : {P : Type 0} (t : Turn) → over t ≡ false → t ≡ Over → P
not_over t n e = clash (ap over e) n

-- ---- the marks of a run: those that the table of turns tells as its own

-- m alone is
abbrev pub Sole : Phase → Mark → Type 0
Sole p m = (k : Mark) → turn p k ≡ Mine → k ≡ m

pub sole_predicates : Sole Predicates Pr
sole_predicates k e = by_column (λ (j : Mark). j ≡ Pr) k e (λ q. refl) (not_mine _ refl) (not_mine _ refl) (not_mine _ refl) (not_mine _ refl) (not_mine _ refl) (not_mine _ refl) (not_mine _ refl)

pub sole_modes : Sole Modes Mo
sole_modes k e = by_column (λ (j : Mark). j ≡ Mo) k e (not_mine _ refl) (λ q. refl) (not_mine _ refl) (not_mine _ refl) (not_mine _ refl) (not_mine _ refl) (not_mine _ refl) (not_mine _ refl)

pub sole_clauses : Sole Clauses Cl
sole_clauses k e = by_column (λ (j : Mark). j ≡ Cl) k e (not_mine _ refl) (not_mine _ refl) (λ q. refl) (not_mine _ refl) (not_mine _ refl) (not_mine _ refl) (not_mine _ refl) (not_mine _ refl)

pub sole_queries : Sole Queries Qu
sole_queries k e = by_column (λ (j : Mark). j ≡ Qu) k e (not_mine _ refl) (not_mine _ refl) (not_mine _ refl) (not_mine _ refl) (λ q. refl) (not_mine _ refl) (not_mine _ refl) (not_mine _ refl)

-- SG and NG are, and no other mark
abbrev pub Signed : Mark → Type 0
Signed m = (m ≡ Sg) ⊎ (m ≡ Ng)

signed : (p : Phase) → mine (turn p Pr) ≡ false → mine (turn p Mo) ≡ false → mine (turn p Cl) ≡ false → mine (turn p Qu) ≡ false → mine (turn p End) ≡ false
    → mine (turn p Other) ≡ false → mine (turn p Half) ≡ false → (k : Mark) → turn p k ≡ Mine → Signed k
signed p pr mo cl qu end other half Pr e = not_mine _ pr e
signed p pr mo cl qu end other half Mo e = not_mine _ mo e
signed p pr mo cl qu end other half Cl e = not_mine _ cl e
signed p pr mo cl qu end other half Sg e = inl refl
signed p pr mo cl qu end other half Ng e = inr refl
signed p pr mo cl qu end other half Qu e = not_mine _ qu e
signed p pr mo cl qu end other half End e = not_mine _ end e
signed p pr mo cl qu end other half Other e = not_mine _ other e
signed p pr mo cl qu end other half Half e = not_mine _ half e

pub in_body : Bodied Body
in_body = record { positive = refl; negated = refl; sole = signed Body refl refl refl refl refl refl refl }

pub in_query : Bodied Query
in_query = record { positive = refl; negated = refl; sole = signed Query refl refl refl refl refl refl refl }

pub in_page : Bodied PageQuery
in_page = record { positive = refl; negated = refl; sole = signed PageQuery refl refl refl refl refl refl refl }

-- the clauses end at QU, and the query at the end of the bytes, as the queries of a page do
clauses_over : (m : Mark) → turn Clauses m ≡ Over → m ≡ Qu
clauses_over m e = by_column (λ (k : Mark). k ≡ Qu) m e (not_over _ refl) (not_over _ refl) (not_over _ refl) (not_over _ refl) (λ q. refl) (not_over _ refl) (not_over _ refl) (not_over _ refl)

query_over : (m : Mark) → turn Query m ≡ Over → m ≡ End
query_over m e = by_column (λ (k : Mark). k ≡ End) m e (not_over _ refl) (not_over _ refl) (not_over _ refl) (not_over _ refl) (not_over _ refl) (λ q. refl) (not_over _ refl) (not_over _ refl)

queries_over : (m : Mark) → turn Queries m ≡ Over → m ≡ End
queries_over m e = by_column (λ (k : Mark). k ≡ End) m e (not_over _ refl) (not_over _ refl) (not_over _ refl) (not_over _ refl) (not_over _ refl) (λ q. refl) (not_over _ refl) (not_over _ refl)

-- what may follow a clause ends its body
pub clause_ends : (m : Mark) → turn Clauses m ≡ Mine → turn Body m ≡ Over
clause_ends m e = ap (turn Body) (sole_clauses m e)

pub clauses_end : (m : Mark) → turn Clauses m ≡ Over → turn Body m ≡ Over
clauses_end m e = ap (turn Body) (clauses_over m e)

-- and what may follow a query of a page, the subgoals of that
pub page_query_ends : (m : Mark) → turn Queries m ≡ Mine → turn PageQuery m ≡ Over
page_query_ends m e = ap (turn PageQuery) (sole_queries m e)

pub queries_end : (m : Mark) → turn Queries m ≡ Over → turn PageQuery m ≡ Over
queries_end m e = ap (turn PageQuery) (queries_over m e)

-- ---- the bytes at a mark whose turn it is

spelt_at : (s : List ℕ) {m : Mark} → mark_at s ≡ m → Spelt s m
spelt_at s e = subst (Spelt s) e (spelt s)

pub clauses_over_starts : (s : List ℕ) → turn Clauses (mark_at s) ≡ Over → s ≡ spelling Qu ++ drop 2 s
clauses_over_starts s e = spelt_at s (clauses_over (mark_at s) e)

pub query_over_ends : (s : List ℕ) → turn Query (mark_at s) ≡ Over → s ≡ []
query_over_ends s e = spelt_at s (query_over (mark_at s) e)

pub queries_over_ends : (s : List ℕ) → turn Queries (mark_at s) ≡ Over → s ≡ []
queries_over_ends s e = spelt_at s (queries_over (mark_at s) e)

-- ---- the two bytes of a mark, whichever of the six it is

abbrev known : Mark → Bool
known Pr = true
known Mo = true
known Cl = true
known Sg = true
known Ng = true
known Qu = true
known Other = false
known Half = false
known End = false

-- by cases on the six
by_known : (P : Mark → Type 0) → P Pr → P Mo → P Cl → P Sg → P Ng → P Qu → (m : Mark) → known m ≡ true → P m
by_known P a b c d e f Pr t = a
by_known P a b c d e f Mo t = b
by_known P a b c d e f Cl t = c
by_known P a b c d e f Sg t = d
by_known P a b c d e f Ng t = e
by_known P a b c d e f Qu t = f
by_known P a b c d e f Other t = absurd (false≢true t)
by_known P a b c d e f Half t = absurd (false≢true t)
by_known P a b c d e f End t = absurd (false≢true t)

signed_known : (m : Mark) → Signed m → known m ≡ true
signed_known m = ⊎_elim (λ e. ap known e) (λ e. ap known e)

-- a mark of a run is one of them
own_known : (p : Phase) (m : Mark) → turn p m ≡ Mine → known m ≡ true
own_known Predicates m e = ap known (sole_predicates m e)
own_known Modes m e = ap known (sole_modes m e)
own_known Clauses m e = ap known (sole_clauses m e)
own_known Body m e = signed_known m (in_body.sole m e)
own_known Query m e = signed_known m (in_query.sole m e)
own_known Queries m e = ap known (sole_queries m e)
own_known PageQuery m e = signed_known m (in_page.sole m e)

module _ (s : List ℕ) where
  mark_starts : (m : Mark) → known m ≡ true → Spelt s m → s ≡ spelling m ++ drop 2 s
  mark_starts = by_known (λ (m : Mark). Spelt s m → s ≡ spelling m ++ drop 2 s) (λ t. t) (λ t. t) (λ t. t) (λ t. t) (λ t. t) (λ t. t)

  mark_led : (m : Mark) → known m ≡ true → leads (spelling m) s ≡ true → s ≡ spelling m ++ drop 2 s
  mark_led =
      by_known (λ (m : Mark). leads (spelling m) s ≡ true → s ≡ spelling m ++ drop 2 s) (leads_two 80 82 s) (leads_two 77 79 s) (leads_two 67 76 s)
      (leads_two 83 71 s) (leads_two 78 71 s) (leads_two 81 85 s)

  mark_leads : (m : Mark) → known m ≡ true → leads (spelling m) (spelling m ++ s) ≡ true
  mark_leads = by_known (λ (m : Mark). leads (spelling m) (spelling m ++ s) ≡ true) refl refl refl refl refl refl

  mark_read : (m : Mark) → known m ≡ true → mark_at (spelling m ++ s) ≡ m
  unfolding mark_at
  mark_read = by_known (λ (m : Mark). mark_at (spelling m ++ s) ≡ m) refl refl refl refl refl refl

-- ---- bytes that begin with a mark of a run, and bytes that do not

module _ (p : Phase) (s : List ℕ) where
  pub own_starts : turn p (mark_at s) ≡ Mine → s ≡ spelling (mark_at s) ++ drop 2 s
  own_starts e = mark_starts s (mark_at s) (own_known p (mark_at s) e) (spelt s)

  pub sole_starts : {m : Mark} → Sole p m → turn p (mark_at s) ≡ Mine → s ≡ spelling m ++ drop 2 s
  sole_starts f e = own_starts e ∙ ap (λ (k : Mark). spelling k ++ drop 2 s) (f (mark_at s) e)

  pub own_leads : (m : Mark) → turn p m ≡ Mine → turn p (mark_at (spelling m ++ s)) ≡ Mine
  own_leads m e = ap (turn p) (mark_read s m (own_known p m e)) ∙ e

  pub unled : ((m : Mark) → turn p m ≡ Mine → leads (spelling m) s ≡ false) → turn p (mark_at s) ≡ Mine → ⊥
  unled f e =
      let m = mark_at s in
      clash (ap (leads (spelling m)) (own_starts e) ∙ mark_leads (drop 2 s) m (own_known p m e)) (f m e)

pub leads_own : (p : Phase) (m : Mark) → turn p m ≡ Mine → (s : List ℕ) → leads (spelling m) s ≡ true → turn p (mark_at s) ≡ Mine
leads_own p m e s t = ap (λ (l : List ℕ). turn p (mark_at l)) (mark_led s m (own_known p m e) t) ∙ own_leads p (drop 2 s) m e
