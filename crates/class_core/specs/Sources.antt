-- Where the children of a candidate come from, and candidates as ids.
use Rattle.std.specs.Prelude.{◌≡◌, ◌↔◌, ℕ, suc, ◌<◌, ◌≤◌, ⊤, Bool, true, false, if◌then◌else◌, List, [], ◌∷◌, length, map, All, Contains}
use Rattle.sig_core.specs.Signatures.{Declarations}
use Rattle.sig_core.specs.declared.ids.ConId.{ConId}
use Rattle.term_core.specs.declared.ids.TermId.{TermId}
use Rattle.term_core.specs.declared.tree.Tree.{Tree}
use Rattle.term_core.specs.Banks.{IsLive, tree_of}
use Rattle.term_core.specs.Terms.{node, size}
use Rattle.grammar_core.specs.declared.ids.NtId.{NtId}
use Rattle.grammar_core.specs.declared.production.Nonterminal.{Nonterminal}
use Rattle.grammar_core.specs.declared.production.Production.{Production}
use Rattle.grammar_core.specs.Languages.{IsGrammarOf}
use Rattle.lens_core.specs.Lenses.{HasPlace, IsCongruent, IsSameness}
use Rattle.size_core.specs.Lists.{IsAscending, StandFor}
use Rattle.size_core.specs.declared.sources.Source.{Source}
use Rattle.class_core.specs.Leaders.{AreChosen, IsCandidate}
use Rattle.class_core.specs.Standing.{HasOtherPlace}

-- the leaders of n at a plain place, and all its terms elsewhere
pub record IsSourceAt (leaders lists : List (List (List TermId))) (is_plain : Bool) (n : NtId) (source : Source) : Type 0 where
  pub levels : source.levels.now ≡ (if is_plain then leaders else lists)
  pub nt : source.nt ≡ n

-- a source for each of these nonterminals, of which the first has place i
abbrev pub AreSourcesAt : List (List (List TermId)) → List (List (List TermId)) → (ℕ → Bool) → ℕ → List NtId → List Source → Type 0
AreSourcesAt leaders lists plain i [] [] = ⊤
AreSourcesAt leaders lists plain i [] (s ∷ sources) = ⊥
AreSourcesAt leaders lists plain i (n ∷ args) [] = ⊥
AreSourcesAt leaders lists plain i (n ∷ args) (s ∷ sources) = IsSourceAt leaders lists (plain i) n s × AreSourcesAt leaders lists plain (suc i) args sources

-- each place of the production is one of its constructor in the signature
abbrev pub HasPlaces : Declarations → Production → Type 0
HasPlaces sig production = (i : ℕ) → i < length production.args → HasPlace sig production.con i

-- t has size k, and the production makes it of leaders at plain places and of terms elsewhere
pub record IsChosenBy (grammar : List Nonterminal) (same : Tree → Tree → Type 0) (plain : ConId → ℕ → Bool) (production : Production) (k : ℕ) (t : Tree) : Type 0 where
  pub kids : List Tree
  pub is : t ≡ node production.con kids
  pub children : AreChosen grammar same (plain production.con) 0 kids production.args
  pub sized : size t ≡ k

-- one of the productions makes it
abbrev pub IsChosenByOne : List Nonterminal → (Tree → Tree → Type 0) → (ConId → ℕ → Bool) → List Production → ℕ → Tree → Type 0
IsChosenByOne grammar same plain productions k t = (p : Production) × Contains productions p × IsChosenBy grammar same plain p k t

-- a place of the production is not plain
abbrev pub HasOther : (ConId → ℕ → Bool) → Production → Type 0
HasOther plain production = (i : ℕ) × (i < length production.args) × (plain production.con i ≡ false)

abbrev pub ArePlain : (ConId → ℕ → Bool) → Production → Type 0
ArePlain plain production = (i : ℕ) → i < length production.args → plain production.con i ≡ true

abbrev pub SomeHasOther : (ConId → ℕ → Bool) → List Production → Type 0
SomeHasOther plain productions = (p : Production) × Contains productions p × HasOther plain p

-- where some place is not plain, the lists have all terms of the sizes up to k
abbrev pub ListsServe : List Nonterminal → List Tree → (ConId → ℕ → Bool) → List (List (List TermId)) → ℕ → Type 0
ListsServe grammar bank plain lists k = HasOtherPlace grammar plain → StandFor grammar bank lists × (k ≤ length lists)

-- live ids of exactly the candidates of n of size k, each before those after it
pub record AreCandidateIds (grammar : List Nonterminal) (bank : List Tree) (same : Tree → Tree → Type 0) (plain : ConId → ℕ → Bool) (n : NtId) (k : ℕ) (ids : List TermId) : Type 0 where
  pub live : All (IsLive bank) ids
  pub ascending : IsAscending bank ids
  pub exact : (t : Tree) → Contains (map (tree_of bank) ids) t ↔ IsCandidate grammar same plain n k t

-- the grammar is of the signature, and marks keep the law of a lens there
pub record KeepsLaw (sig : Declarations) (grammar : List Nonterminal) (same : Tree → Tree → Type 0) (plain : ConId → ℕ → Bool) : Type 0 where
  pub grammar_fits : IsGrammarOf sig grammar
  pub equals : IsSameness sig same
  pub congruent : IsCongruent sig plain same
