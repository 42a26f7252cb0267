-- Leaders of nonterminals, and the candidates among which they are. `same` says of two terms that a lens gives them
-- equal marks, and `plain` of a place of a constructor that a child there may be replaced by one with an equal mark.
use Rattle.std.specs.Prelude.{◌≡◌, ◌⊎◌, ◌↔◌, ℕ, suc, ⊤, Bool, MatchBool, List, [], ◌∷◌, AllPairs, Contains}
use Rattle.std.specs.declared.cmp.Ordering.TheVariants.{Less}
use Rattle.sig_core.specs.declared.ids.ConId.{ConId}
use Rattle.term_core.specs.declared.tree.Tree.{Tree}
use Rattle.term_core.specs.Terms.{node, size, term_cmp}
use Rattle.grammar_core.specs.declared.ids.NtId.{NtId}
use Rattle.grammar_core.specs.declared.production.Nonterminal.{Nonterminal}
use Rattle.grammar_core.specs.declared.production.Production.{Production}
use Rattle.grammar_core.specs.Grammars.{Lang, productions_of}

-- t is of n, and no earlier term of n has its mark
pub record IsLeader (grammar : List Nonterminal) (same : Tree → Tree → Type 0) (n : NtId) (t : Tree) : Type 0 where
  pub member : Lang grammar n t
  pub first : (u : Tree) → Lang grammar n u → term_cmp u t ≡ Less → same u t → ⊥

-- each child, of which the first has place i, is a leader of its nonterminal at a plain place, and of its language elsewhere
abbrev pub AreChosen : List Nonterminal → (Tree → Tree → Type 0) → (ℕ → Bool) → ℕ → List Tree → List NtId → Type 0
AreChosen grammar same plain i [] [] = ⊤
AreChosen grammar same plain i [] (m ∷ args) = ⊥
AreChosen grammar same plain i (kid ∷ kids) [] = ⊥
AreChosen grammar same plain i (kid ∷ kids) (m ∷ args) = MatchBool (plain i) (IsLeader grammar same m kid) (Lang grammar m kid) × AreChosen grammar same plain (suc i) kids args

-- t has size k, and a production of n makes it of such children
pub record IsCandidate (grammar : List Nonterminal) (same : Tree → Tree → Type 0) (plain : ConId → ℕ → Bool) (n : NtId) (k : ℕ) (t : Tree) : Type 0 where
  pub sized : size t ≡ k
  pub production : Production
  pub stands : Contains (productions_of grammar n) production
  pub kids : List Tree
  pub is : t ≡ node production.con kids
  pub children : AreChosen grammar same (plain production.con) 0 kids production.args

-- exactly the candidates of n of size k, each before those after it
pub record AreCandidates (grammar : List Nonterminal) (same : Tree → Tree → Type 0) (plain : ConId → ℕ → Bool) (n : NtId) (k : ℕ) (terms : List Tree) : Type 0 where
  pub ascending : AllPairs (λ t u. term_cmp t u ≡ Less) terms
  pub exact : (t : Tree) → Contains terms t ↔ IsCandidate grammar same plain n k t

-- no leader of n before t has its mark
abbrev pub NoLeaderBefore : List Nonterminal → (Tree → Tree → Type 0) → NtId → Tree → Type 0
NoLeaderBefore grammar same n t = (l : Tree) → IsLeader grammar same n l → term_cmp l t ≡ Less → same l t → ⊥

-- the leaders are exactly the candidates that no leader before them equals in mark
abbrev pub LeadersAmongCandidates : List Nonterminal → (Tree → Tree → Type 0) → (ConId → ℕ → Bool) → Type 0
LeadersAmongCandidates grammar same plain = (n : NtId) (t : Tree) → IsLeader grammar same n t ↔ (IsCandidate grammar same plain n (size t) t × NoLeaderBefore grammar same n t)

-- l is t or before it
abbrev pub IsNotAfter : Tree → Tree → Type 0
IsNotAfter l t = (term_cmp l t ≡ Less) ⊎ (l ≡ t)

-- l is a leader of n with the mark of t, and not after t
pub record IsLeaderOf (grammar : List Nonterminal) (same : Tree → Tree → Type 0) (n : NtId) (t l : Tree) : Type 0 where
  pub leader : IsLeader grammar same n l
  pub is_same : same l t
  pub not_after : IsNotAfter l t

-- no term of a nonterminal is without a leader
abbrev pub NoneWithoutLeader : List Nonterminal → (Tree → Tree → Type 0) → Type 0
NoneWithoutLeader grammar same = (n : NtId) (t : Tree) → Lang grammar n t → ¬ ((l : Tree) → ¬ IsLeaderOf grammar same n t l)

-- an earlier term of n has the mark of t
abbrev pub HasEarlier : List Nonterminal → (Tree → Tree → Type 0) → NtId → Tree → Type 0
HasEarlier grammar same n t = (u : Tree) × Lang grammar n u × (term_cmp u t ≡ Less) × same u t

-- where it can be told whether a term has such an earlier one, each term has a leader
abbrev pub EachHasLeader : List Nonterminal → (Tree → Tree → Type 0) → Type 0
EachHasLeader grammar same = (n : NtId) → ((t : Tree) → Lang grammar n t → HasEarlier grammar same n t ⊎ ¬ HasEarlier grammar same n t) →
    (t : Tree) → Lang grammar n t → (l : Tree) × IsLeaderOf grammar same n t l
