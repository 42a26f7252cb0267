-- Lists of terms by size.
use Rattle.std.specs.Prelude.{◌≡◌, ◌↔◌, ℕ, ◌-◌, ◌≤◌, List, [], length, map, slice_index_or, All, AllPairs, Contains}
use Rattle.std.specs.List.{AllZip}
use Rattle.std.specs.declared.cmp.Ordering.TheVariants.{Less}
use Rattle.term_core.specs.declared.ids.TermId.{TermId}
use Rattle.term_core.specs.declared.tree.Tree.{Tree}
use Rattle.term_core.specs.Banks.{IsLive, Keeps, tree_of}
use Rattle.term_core.specs.Terms.{node, size, term_cmp}
use Rattle.grammar_core.specs.declared.ids.NtId.{NtId}
use Rattle.grammar_core.specs.declared.production.Nonterminal.{Nonterminal}
use Rattle.grammar_core.specs.declared.production.Production.{Production}
use Rattle.grammar_core.specs.Grammars.{IsKnown, Lang, Reaches, productions_of, start}

-- the ids of a nonterminal at a size, of levels by size from 1 upwards
abbrev pub list_at : List (List (List TermId)) → NtId → ℕ → List TermId
list_at levels n k = slice_index_or (slice_index_or levels (k - 1) []) n.0 []

-- each id's term is before those of the ids after it
abbrev pub IsAscending : List Tree → List TermId → Type 0
IsAscending bank ids = AllPairs (λ a b. term_cmp (tree_of bank a) (tree_of bank b) ≡ Less) ids

-- exactly the terms that P says of size k, each before those after it
pub record AreOfSize (P : Tree → Type 0) (k : ℕ) (terms : List Tree) : Type 0 where
  pub ascending : AllPairs (λ t u. term_cmp t u ≡ Less) terms
  pub exact : (t : Tree) → Contains terms t ↔ (P t × (size t ≡ k))

-- live ids of exactly the terms that P says of size k, each before those after it
pub record IsListOf (bank : List Tree) (P : Tree → Type 0) (k : ℕ) (ids : List TermId) : Type 0 where
  pub live : All (IsLive bank) ids
  pub ascending : IsAscending bank ids
  pub exact : (t : Tree) → Contains (map (tree_of bank) ids) t ↔ (P t × (size t ≡ k))

-- the list of all terms of n of size k
abbrev pub IsListOfSize : List Nonterminal → List Tree → NtId → ℕ → List TermId → Type 0
IsListOfSize grammar bank n k = IsListOf bank (Lang grammar n) k

-- at each size up to the last, all terms of n of that size
abbrev pub AreListsOf : List Nonterminal → List Tree → NtId → List (List (List TermId)) → Type 0
AreListsOf grammar bank n levels = (k : ℕ) → 1 ≤ k → k ≤ length levels → IsListOfSize grammar bank n k (list_at levels n k)

-- the levels are those of the grammar, in the bank: the lists of each nonterminal that the start leads to
abbrev pub StandFor : List Nonterminal → List Tree → List (List (List TermId)) → Type 0
StandFor grammar bank levels = (n : NtId) → Reaches grammar start n → AreListsOf grammar bank n levels

-- one more level: of each nonterminal that the start leads to, all terms of size k
pub record IsLevel (grammar : List Nonterminal) (bank : List Tree) (k : ℕ) (level : List (List TermId)) : Type 0 where
  pub all : length level ≡ length grammar
  pub lists : (n : NtId) → IsKnown grammar n → Reaches grammar start n → IsListOfSize grammar bank n k (slice_index_or level n.0 [])

-- t is of size k, and the production makes it of children of its nonterminals
pub record IsMadeBy (grammar : List Nonterminal) (production : Production) (k : ℕ) (t : Tree) : Type 0 where
  pub kids : List Tree
  pub children : AllZip (λ kid m. Lang grammar m kid) kids production.args
  pub is : t ≡ node production.con kids
  pub sized : size t ≡ k

-- one of the productions makes it
abbrev pub IsMadeByOne : List Nonterminal → List Production → ℕ → Tree → Type 0
IsMadeByOne grammar productions k t = (p : Production) × Contains productions p × IsMadeBy grammar p k t

-- lists that stand for a bank stand for each that has the same terms under the same ids, and perhaps more
abbrev pub ListsStay : Type 0
ListsStay = (grammar : List Nonterminal) (old new : List Tree) (levels : List (List (List TermId))) → Keeps old new → StandFor grammar old levels → StandFor grammar new levels

-- a term that a production makes is in the list of its own size
abbrev pub MadeIsListed : Type 0
MadeIsListed = (grammar : List Nonterminal) (bank : List Tree) (levels : List (List (List TermId))) → StandFor grammar bank levels
    → (n : NtId) → Reaches grammar start n → (p : Production) → Contains (productions_of grammar n) p
    → (k : ℕ) (t : Tree) → IsMadeBy grammar p k t → k ≤ length levels → Contains (map (tree_of bank) (list_at levels n k)) t
