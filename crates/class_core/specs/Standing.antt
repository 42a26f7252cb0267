-- What leaders that are kept stand for: a grammar, a bank and a lens.
use Rattle.std.specs.Prelude.{◌≡◌, ◌⊎◌, ◌↔◌, ℕ, ◌<◌, ◌≤◌, Bool, true, false, List, length, slice_index_or, Contains}
use Rattle.std.specs.BTreeSet.{BTreeSet, contains}
use Rattle.std.specs.declared.cmp.Ordering.{Ordering}
use Rattle.sig_core.specs.declared.ids.ConId.{ConId}
use Rattle.term_core.specs.declared.ids.TermId.{TermId}
use Rattle.term_core.specs.declared.tree.Tree.{Tree}
use Rattle.term_core.specs.Terms.{size}
use Rattle.grammar_core.specs.declared.ids.NtId.{NtId}
use Rattle.grammar_core.specs.declared.production.Nonterminal.{Nonterminal}
use Rattle.grammar_core.specs.declared.production.Production.{Production}
use Rattle.grammar_core.specs.Grammars.{Reaches, productions_of, start}
use Rattle.size_core.specs.Lists.{IsListOf, StandFor, list_at}
use Rattle.lens_core.specs.declared.lens.Lens.{Ghosts as LensOf}
use Rattle.class_core.specs.Leaders.{IsLeader}
use Rattle.class_core.specs.declared.classes.Classes.{Classes}

-- some production of a nonterminal that the start leads to has a place that is not plain
pub record HasOtherPlace (grammar : List Nonterminal) (plain : ConId → ℕ → Bool) : Type 0 where
  pub nonterminal : NtId
  pub reached : Reaches grammar start nonterminal
  pub production : Production
  pub stands : Contains (productions_of grammar nonterminal) production
  pub place : ℕ
  pub within : place < length production.args
  pub other : plain production.con place ≡ false

-- where some place is not plain, the lists stand for the grammar and the bank, up to size k
abbrev pub ListsStand : List Nonterminal → List Tree → (ConId → ℕ → Bool) → List (List (List TermId)) → ℕ → Type 0
ListsStand grammar bank plain lists k = HasOtherPlace grammar plain → StandFor grammar bank lists × (length lists ≡ k)

-- at each size up to the last, the leaders of n of that size
abbrev pub AreLeadersOf : List Nonterminal → List Tree → (Tree → Tree → Type 0) → NtId → List (List (List TermId)) → Type 0
AreLeadersOf grammar bank same n levels = (k : ℕ) → 1 ≤ k → k ≤ length levels → IsListOf bank (IsLeader grammar same n) k (list_at levels n k)

-- the same of each nonterminal that the start leads to
abbrev pub LeadersStand : List Nonterminal → List Tree → (Tree → Tree → Type 0) → List (List (List TermId)) → Type 0
LeadersStand grammar bank same levels = (n : NtId) → Reaches grammar start n → AreLeadersOf grammar bank same n levels

-- the set has the mark of a term exactly where a leader of n, of a size up to k, has it
abbrev pub KnowsLeaders : {Mark : Type 0} → List Nonterminal → (Tree → Mark → Type 0) → (Tree → Tree → Type 0) → (Mark → Mark → Ordering) → NtId → ℕ → BTreeSet Mark → Type 0
KnowsLeaders {Mark} grammar has_mark same cmp n k set = (t : Tree) (m : Mark) → has_mark t m
    → (contains cmp set m ≡ true) ↔ ((l : Tree) × IsLeader grammar same n l × (size l ≤ k) × same l t)

-- the set of n knows its leaders, where the start leads to n
abbrev pub KnowsAt : {Mark : Type 0} → List Nonterminal → (Tree → Mark → Type 0) → (Tree → Tree → Type 0) → (Mark → Mark → Ordering) → NtId → ℕ → List (BTreeSet Mark) → Type 0
KnowsAt {Mark} grammar has_mark same cmp n k sets = (d : BTreeSet Mark) → Reaches grammar start n → KnowsLeaders grammar has_mark same cmp n k (slice_index_or sets n.0 d)

-- each set knows the leaders of its nonterminal, where the start leads to it
abbrev pub AllKnow : {Mark : Type 0} → List Nonterminal → (Tree → Mark → Type 0) → (Tree → Tree → Type 0) → (Mark → Mark → Ordering) → ℕ → List (BTreeSet Mark) → Type 0
AllKnow grammar has_mark same cmp k sets = (n : NtId) → n.0 < length sets → KnowsAt grammar has_mark same cmp n k sets

-- the leaders and the sets of their marks are those of the grammar, in the bank
pub record AreClasses {Mark : Type 0} (grammar : List Nonterminal) (bank : List Tree) (has_mark : Tree → Mark → Type 0) (same : Tree → Tree → Type 0) (cmp : Mark → Mark → Ordering) (leaders : List (List (List TermId))) (sets : List (BTreeSet Mark)) : Type 0 where
  pub leads : LeadersStand grammar bank same leaders
  pub know : AllKnow grammar has_mark same cmp (length leaders) sets
  pub sets_stand : ((length leaders ≡ 0) × (length sets ≡ 0)) ⊎ (length sets ≡ length grammar)

module _ {L Mark : Type 0} where
  -- the lens that the classes are seen through
  abbrev pub lens_of : Classes L Mark → L
  lens_of classes = classes.lens

  -- the leaders by size, from 1, and nonterminal
  abbrev pub leaders_of : Classes L Mark → List (List (List TermId))
  leaders_of classes = classes.leaders

  -- the greatest size whose leaders are there
  abbrev pub grown_of : Classes L Mark → ℕ
  grown_of classes = length classes.leaders

  -- the classes stand for the grammar and the bank, through their lens; where no size is grown yet, for any
  abbrev pub ClassesStand : LensOf L Mark → (Mark → Mark → Ordering) → List Nonterminal → List Tree → Classes L Mark → Type 0
  ClassesStand lens cmp grammar bank classes = AreClasses grammar bank (lens.has_mark classes.lens) (lens.same_mark classes.lens) cmp classes.leaders classes.marks.items
