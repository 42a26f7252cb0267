-- How many candidates there are, and how many looks that makes.
use Rattle.std.specs.Prelude.{◌≡◌, ℕ, suc, ◌<◌, Bool, List, [], length, sum, sum_by, slice_index, slice_index_or}
use Rattle.sig_core.specs.declared.ids.ConId.{ConId}
use Rattle.term_core.specs.declared.tree.Tree.{Tree}
use Rattle.grammar_core.specs.declared.ids.NtId.{NtId}
use Rattle.grammar_core.specs.declared.production.Nonterminal.{Nonterminal}
use Rattle.grammar_core.specs.Grammars.{Reaches, start}
use Rattle.lens_core.specs.Lenses.{risen}
use Rattle.class_core.specs.Leaders.{AreCandidates}

-- for each of the first nonterminals, as many as count says, its candidates of size k; none where the start doesn't lead to it
pub record AreCandidateLists (grammar : List Nonterminal) (same : Tree → Tree → Type 0) (plain : ConId → ℕ → Bool) (k count : ℕ) (lists : List (List Tree)) : Type 0 where
  pub all : length lists ≡ count
  pub each : (n : NtId) → n.0 < count → Reaches grammar start n → AreCandidates grammar same plain n k (slice_index_or lists n.0 [])
  pub none : (n : NtId) → n.0 < count → ¬ Reaches grammar start n → slice_index_or lists n.0 [] ≡ []

-- how many candidates of size k the nonterminals have together that the start leads to
pub record IsCandidateCount (grammar : List Nonterminal) (same : Tree → Tree → Type 0) (plain : ConId → ℕ → Bool) (k count : ℕ) : Type 0 where
  pub lists : List (List Tree)
  pub are : AreCandidateLists grammar same plain k (length grammar) lists
  pub is : count ≡ sum_by length lists

-- the looks rose by one for each candidate of size k
pub record LooksAtEach (grammar : List Nonterminal) (same : Tree → Tree → Type 0) (plain : ConId → ℕ → Bool) (k old new : ℕ) : Type 0 where
  pub count : ℕ
  pub counted : IsCandidateCount grammar same plain k count
  pub looks : new ≡ risen old count

-- the number of looks up to the size last: one for each candidate, or the last number of 64 bits where there are more
pub record IsLooks (grammar : List Nonterminal) (same : Tree → Tree → Type 0) (plain : ConId → ℕ → Bool) (last looks : ℕ) : Type 0 where
  pub counts : List ℕ
  pub all : length counts ≡ last
  pub counted : (k : ℕ) → k < last → IsCandidateCount grammar same plain (suc k) (slice_index counts k)
  pub total : looks ≡ risen 0 (sum counts)

-- there is one number of looks
abbrev pub OneLooks : List Nonterminal → (Tree → Tree → Type 0) → (ConId → ℕ → Bool) → Type 0
OneLooks grammar same plain = (last a b : ℕ) → IsLooks grammar same plain last a → IsLooks grammar same plain last b → a ≡ b

-- before the first size it is 0
abbrev pub NoLooks : List Nonterminal → (Tree → Tree → Type 0) → (ConId → ℕ → Bool) → Type 0
NoLooks grammar same plain = IsLooks grammar same plain 0 0

-- a size adds its candidates
abbrev pub LooksRise : List Nonterminal → (Tree → Tree → Type 0) → (ConId → ℕ → Bool) → Type 0
LooksRise grammar same plain = (last old new : ℕ) → IsLooks grammar same plain last old → LooksAtEach grammar same plain (suc last) old new → IsLooks grammar same plain (suc last) new
