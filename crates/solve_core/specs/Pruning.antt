-- The search among leaders.
use Rattle.std.specs.Prelude.{◌≡◌, ◌↔◌, ℕ, Option, MatchOption, All}
use Rattle.std.specs.declared.cmp.Ordering.TheVariants.{Less}
use Rattle.sig_core.specs.declared.ids.TypeId.{TypeId}
use Rattle.term_core.specs.declared.tree.Tree.{Tree}
use Rattle.term_core.specs.Terms.{term_cmp}
use Rattle.grammar_core.specs.Grammars.{Lang, nonterminal_at, start}
use Rattle.grammar_core.specs.Languages.{IsGrammarOf}
use Rattle.problem_core.specs.Problems.{Parts, Solves, IsSolution, IsFirst, IsAnswer}
use Rattle.problem_core.specs.Soundness.{IsSound}
use Rattle.class_core.specs.Leaders.{IsLeader, LeadersAmongCandidates}
use Rattle.class_core.specs.Looks.{OneLooks}
use Rattle.eval_core.specs.Alikeness.{AreAlike, AllFlow, IsConstraintOn}
use Rattle.eval_core.specs.Lenses.{hands_on}

-- of two terms of the start that are the same both solve, or neither
abbrev pub SolvesAlike : Parts → ℕ → (Tree → Tree → Type 0) → Type 0
SolvesAlike problem h same = (t u : Tree) → Lang problem.grammar start t → Lang problem.grammar start u → same t u → Solves problem h t ↔ Solves problem h u

-- a solution that is a leader of the start
pub record IsLeadingSolution (problem : Parts) (h n : ℕ) (same : Tree → Tree → Type 0) (t : Tree) : Type 0 where
  pub solution : IsSolution problem h n t
  pub leader : IsLeader problem.grammar same start t

-- and none is before it
pub record IsFirstLeading (problem : Parts) (h n : ℕ) (same : Tree → Tree → Type 0) (t : Tree) : Type 0 where
  pub leading : IsLeadingSolution problem h n same t
  pub first : (u : Tree) → IsLeadingSolution problem h n same u → ¬ (term_cmp u t ≡ Less)

-- the first solution among the leaders of the start, or nothing where none of them is one
abbrev pub IsLeadingAnswer : Parts → ℕ → ℕ → (Tree → Tree → Type 0) → Option Tree → Type 0
IsLeadingAnswer problem h n same answer = MatchOption answer ((t : Tree) → ¬ IsLeadingSolution problem h n same t) (IsFirstLeading problem h n same)

-- where terms that are the same solve alike, the first solution is a leader of the start
abbrev pub FirstIsLeader : Parts → (Tree → Tree → Type 0) → Type 0
FirstIsLeader problem same = (h n : ℕ) (t : Tree) → SolvesAlike problem h same → IsFirst problem h n t → IsLeader problem.grammar same start t

-- and the answer is what the search among leaders finds
abbrev pub LeadersAnswer : Parts → (Tree → Tree → Type 0) → Type 0
LeadersAnswer problem same = (h n : ℕ) (answer : Option Tree) → SolvesAlike problem h same → IsLeadingAnswer problem h n same answer ↔ IsAnswer problem h n answer

-- the type of the start's terms
abbrev pub wanted_type : Parts → TypeId
wanted_type problem = (nonterminal_at problem.grammar start).owner

-- rules that pass data flow, a grammar of the signature, and constraints on terms of the start's type
pub record IsFit (problem : Parts) : Type 0 where
  pub flows : AllFlow problem
  pub grammar : IsGrammarOf problem.signature problem.grammar
  pub constraints : All (IsConstraintOn problem.signature (wanted_type problem)) problem.constraints

-- the parts of a sound problem are fit
abbrev pub SoundIsFit : Type 0
SoundIsFit = (problem : Parts) → IsSound problem → IsFit problem

-- the answer within a height is the first solution among the leaders by alikeness up to the height
abbrev pub AlikeLeadersAnswer : Type 0
AlikeLeadersAnswer = (problem : Parts) (h n : ℕ) (answer : Option Tree) → IsFit problem →
    IsLeadingAnswer problem h n (AreAlike problem h) answer ↔ IsAnswer problem h n answer

-- leaders by alikeness are the candidates, made from leaders at places that hand on, that no leader before them is alike to
abbrev pub AlikeLeadersAmongCandidates : Type 0
AlikeLeadersAmongCandidates = (problem : Parts) (bound : ℕ) → IsFit problem → LeadersAmongCandidates problem.grammar (AreAlike problem bound) (hands_on problem)

-- there is one number of looks up to each size
abbrev pub OneAlikeLooks : Type 0
OneAlikeLooks = (problem : Parts) (bound : ℕ) → OneLooks problem.grammar (AreAlike problem bound) (hands_on problem)
