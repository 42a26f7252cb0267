-- A search through the leaders of the start, size by size.
use Rattle.std.specs.Prelude.{◌≡◌, ◌+◌, ◌<◌, ◌≤◌, ℕ, Option, Some, None, MatchOption, List}
use Rattle.std.specs.declared.cmp.Ordering.{Ordering}
use Rattle.std.specs.declared.cmp.Ordering.TheVariants.{Less}
use Rattle.term_core.specs.declared.ids.TermId.{TermId}
use Rattle.term_core.specs.declared.tree.Tree.{Tree}
use Rattle.term_core.specs.Banks.{IsLive, tree_of}
use Rattle.term_core.specs.Terms.{size, term_cmp}
use Rattle.grammar_core.specs.Grammars.{start}
use Rattle.lens_core.specs.declared.lens.Lens.{Ghosts as LensOf}
use Rattle.lens_core.specs.Meanings.{KeepsMeaning}
use Rattle.problem_core.specs.Problems.{Parts, Solves}
use Rattle.class_core.specs.declared.classes.Classes.{Classes}
use Rattle.class_core.specs.Leaders.{IsLeader}
use Rattle.class_core.specs.Looks.{IsLooks}
use Rattle.class_core.specs.Standing.{ClassesStand, ListsStand, grown_of, lens_of}
use Rattle.solve_core.specs.Pruning.{IsLeadingSolution, IsFirstLeading}

-- no leader of the start of size k solves
abbrev pub NoneOfSize : Parts → ℕ → (Tree → Tree → Type 0) → ℕ → Type 0
NoneOfSize problem h same k = (t : Tree) → IsLeader problem.grammar same start t → size t ≡ k → ¬ Solves problem h t

-- and none of a lesser size
abbrev pub NoneBelow : Parts → ℕ → (Tree → Tree → Type 0) → ℕ → Type 0
NoneBelow problem h same k = (t : Tree) → IsLeader problem.grammar same start t → size t < k → ¬ Solves problem h t

-- t is a leader of the start of size k that solves, and none of those is before it
pub record IsFirstOfSize (problem : Parts) (h : ℕ) (same : Tree → Tree → Type 0) (k : ℕ) (t : Tree) : Type 0 where
  pub leader : IsLeader problem.grammar same start t
  pub sized : size t ≡ k
  pub solves : Solves problem h t
  pub first : (u : Tree) → IsLeader problem.grammar same start u → size u ≡ k → Solves problem h u → ¬ (term_cmp u t ≡ Less)

-- a live id of the first leader of size k that solves, or nothing where none does
abbrev pub IsFoundOfSize : Parts → ℕ → (Tree → Tree → Type 0) → ℕ → List Tree → Option TermId → Type 0
IsFoundOfSize problem h same k bank found =
    MatchOption found (NoneOfSize problem h same k) (λ id. IsLive bank id × IsFirstOfSize problem h same k (tree_of bank id))

-- the first of the least size that has one is the first solution among the leaders
abbrev pub FoundIsFirst : Parts → (Tree → Tree → Type 0) → Type 0
FoundIsFirst problem same = (h n k : ℕ) (t : Tree) → k ≤ n → NoneBelow problem h same k → IsFirstOfSize problem h same k t → IsFirstLeading problem h n same t

-- and where no size within the bound has one, none of the leaders is a solution
abbrev pub NoneFoundIsNone : Parts → (Tree → Tree → Type 0) → Type 0
NoneFoundIsNone problem same = (h n k : ℕ) → n < k → NoneBelow problem h same k → (t : Tree) → ¬ IsLeadingSolution problem h n same t

-- the last size that a search goes to: that of the term which it finds, or the bound
abbrev pub last_size : ℕ → Option Tree → ℕ
last_size n None = n
last_size n (Some t) = size t

module _ {L Mark : Type 0} where
  -- the classes and the lists are the problem's in the bank, as far as they are grown, and the lens can go on
  pub record AreGrown (lens : LensOf L Mark) (cmp : Mark → Mark → Ordering) (problem : Parts) (bank : List Tree) (classes : Classes L Mark) (lists : List (List (List TermId))) : Type 0 where
    pub signature : lens.is_for (lens_of classes) problem.signature
    pub fits : lens.fits (lens_of classes) bank
    pub stands : ClassesStand lens cmp problem.grammar bank classes
    pub lists_stand : ListsStand problem.grammar bank (lens.is_plain (lens_of classes)) lists (grown_of classes)

  -- all sizes below k are searched through a lens that began as `first`, and no leader of them solves
  pub record AreSearched (lens : LensOf L Mark) (problem : Parts) (h : ℕ) (first : L) (classes : Classes L Mark) (k : ℕ) : Type 0 where
    pub meaning : KeepsMeaning lens first (lens_of classes)
    pub looks : IsLooks problem.grammar (lens.same_mark first) (lens.is_plain first) (grown_of classes) (lens.looked (lens_of classes))
    pub next : k ≡ grown_of classes + 1
    pub none : NoneBelow problem h (lens.same_mark first) k
