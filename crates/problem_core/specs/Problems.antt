-- Problems, their solutions and their answer.
use Rattle.std.specs.Prelude.{◌≡◌, ◌≤◌, ℕ, Option, MatchOption, List, All}
use Rattle.std.specs.declared.cmp.Ordering.TheVariants.{Less}
use Rattle.problem_core.specs.declared.parts.Constraint.{Constraint}
use Rattle.problem_core.specs.declared.parts.Info.{Info}
use Rattle.rule_core.specs.declared.rule.Rule.{Rule}
use Rattle.term_core.specs.declared.tree.Tree.{Tree}
use Rattle.sig_core.specs.Signatures.{Declarations}
use Rattle.term_core.specs.Terms.{size, term_cmp}
use Rattle.grammar_core.specs.declared.production.Nonterminal.{Nonterminal}
use Rattle.grammar_core.specs.Grammars.{Lang, start}
use Rattle.rule_core.specs.Instances.{Fact}
use Rattle.problem_core.specs.Derivations.{Within}

-- what a problem is made of; the start is the grammar's first nonterminal
pub record Parts : Type 0 where
  pub infos : List Info
  pub signature : Declarations
  pub rules : List Rule
  pub grammar : List Nonterminal
  pub wanted : List ℕ
  pub constraints : List Constraint

-- the constraint, with t in place of the wanted function
abbrev pub fact_on : Tree → Constraint → Fact
fact_on t constraint = record { relation = constraint.relation; term = t; args = constraint.args }

abbrev pub Solves : Parts → ℕ → Tree → Type 0
Solves problem h t = All (λ constraint. Within problem.signature problem.rules h (fact_on t constraint)) problem.constraints

pub record IsSolution (problem : Parts) (h n : ℕ) (t : Tree) : Type 0 where
  pub member : Lang problem.grammar start t
  pub small : size t ≤ n
  pub solves : Solves problem h t

-- t is a solution, and none is before it
pub record IsFirst (problem : Parts) (h n : ℕ) (t : Tree) : Type 0 where
  pub solution : IsSolution problem h n t
  pub first : (u : Tree) → IsSolution problem h n u → ¬ (term_cmp u t ≡ Less)

-- the first solution, or nothing where there is none
abbrev pub IsAnswer : Parts → ℕ → ℕ → Option Tree → Type 0
IsAnswer problem h n answer = MatchOption answer ((t : Tree) → ¬ IsSolution problem h n t) (IsFirst problem h n)
