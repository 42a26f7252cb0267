-- Which of some terms are kept, by their marks, and how a level of leaders is made nonterminal by nonterminal.
use Rattle.std.specs.Prelude.{◌≡◌, ◌⊎◌, ◌↔◌, ℕ, ◌<◌, Bool, true, false, List, [], length, slice_index_or, sum_by, AllPairs, Contains}
use Rattle.std.specs.BTreeSet.{BTreeSet, contains}
use Rattle.std.specs.declared.cmp.Ordering.{Ordering}
use Rattle.std.specs.declared.cmp.Ordering.TheVariants.{Less}
use Rattle.sig_core.specs.declared.ids.ConId.{ConId}
use Rattle.term_core.specs.declared.ids.TermId.{TermId}
use Rattle.term_core.specs.declared.tree.Tree.{Tree}
use Rattle.term_core.specs.Terms.{term_cmp}
use Rattle.grammar_core.specs.declared.ids.NtId.{NtId}
use Rattle.grammar_core.specs.declared.production.Nonterminal.{Nonterminal}
use Rattle.grammar_core.specs.Grammars.{Reaches, start}
use Rattle.lens_core.specs.Lenses.{risen}
use Rattle.size_core.specs.Lists.{IsListOf}
use Rattle.class_core.specs.Leaders.{AreCandidates, IsLeader, IsNotAfter}
use Rattle.class_core.specs.Looks.{AreCandidateLists}

-- of the terms, in their order, those are kept whose mark neither the old set has nor a term that was kept before; the
-- new set has their marks too
pub record AreFirst {Mark : Type 0} (has_mark : Tree → Mark → Type 0) (same : Tree → Tree → Type 0) (cmp : Mark → Mark → Ordering) (old new : BTreeSet Mark) (terms kept : List Tree) : Type 0 where
  pub ascending : AllPairs (λ t u. term_cmp t u ≡ Less) kept
  pub among : (t : Tree) → Contains kept t → Contains terms t
  pub fresh : (t : Tree) → Contains kept t → (m : Mark) × has_mark t m × (contains cmp old m ≡ false)
  pub apart : (t u : Tree) → Contains kept t → Contains kept u → same t u → t ≡ u
  pub covered : (t : Tree) → Contains terms t → (m : Mark) × has_mark t m
      × ((contains cmp old m ≡ true) ⊎ ((l : Tree) × Contains kept l × same l t × IsNotAfter l t))
  pub marks : (t : Tree) (m : Mark) → has_mark t m
      → (contains cmp new m ≡ true) ↔ ((contains cmp old m ≡ true) ⊎ ((l : Tree) × Contains kept l × same l t))

-- the looks rose by the number of candidates of n of size k
pub record LooksAtAll (grammar : List Nonterminal) (same : Tree → Tree → Type 0) (plain : ConId → ℕ → Bool) (n : NtId) (k : ℕ) (old new : ℕ) : Type 0 where
  pub terms : List Tree
  pub candidates : AreCandidates grammar same plain n k terms
  pub looks : new ≡ risen old (length terms)

-- the other sets are as they were
abbrev pub SameElsewhere : {Mark : Type 0} → NtId → List (BTreeSet Mark) → List (BTreeSet Mark) → Type 0
SameElsewhere {Mark} n old new = (m : ℕ) (d : BTreeSet Mark) → (m ≡ n.0 → ⊥) → slice_index_or new m d ≡ slice_index_or old m d

-- the looks rose by the number of candidates of n of size k where the start leads to n, and else by none
pub record LooksAt (grammar : List Nonterminal) (same : Tree → Tree → Type 0) (plain : ConId → ℕ → Bool) (n : NtId) (k : ℕ) (old new : ℕ) : Type 0 where
  pub terms : List Tree
  pub candidates : Reaches grammar start n → AreCandidates grammar same plain n k terms
  pub none : ¬ Reaches grammar start n → terms ≡ []
  pub looks : new ≡ risen old (length terms)

-- the looks rose by one for each candidate of size k of the first nonterminals, as many as count says
pub record LooksAtFirst (grammar : List Nonterminal) (same : Tree → Tree → Type 0) (plain : ConId → ℕ → Bool) (k count old new : ℕ) : Type 0 where
  pub lists : List (List Tree)
  pub are : AreCandidateLists grammar same plain k count lists
  pub looks : new ≡ risen old (sum_by length lists)

-- one more level: of each nonterminal that the start leads to, the leaders of size k
pub record IsLeaderLevel (grammar : List Nonterminal) (bank : List Tree) (same : Tree → Tree → Type 0) (k : ℕ) (level : List (List TermId)) : Type 0 where
  pub all : length level ≡ length grammar
  pub lists : (n : NtId) → n.0 < length grammar → Reaches grammar start n → IsListOf bank (IsLeader grammar same n) k (slice_index_or level n.0 [])
