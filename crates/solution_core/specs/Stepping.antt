-- The constraints of a problem, derived on a term one after the other.
use Rattle.std.specs.Prelude.{◌≡◌, ℕ, Some, option_map, List, [], map, slice_get, All}
use Rattle.sig_core.specs.Signatures.{Declarations}
use Rattle.term_core.specs.declared.tree.Tree.{Tree}
use Rattle.term_core.specs.Banks.{IsLive}
use Rattle.rule_core.specs.declared.rule.Rule.{Rule}
use Rattle.problem_core.specs.declared.parts.Constraint.{Constraint}
use Rattle.problem_core.specs.Problems.{fact_on}
use Rattle.deriv_core.specs.declared.parts.Step.{Step}
use Rattle.deriv_core.specs.Steps.{TreeStep, step_fact}
use Rattle.extract_core.specs.Additions.{Adds, AddsEach}
use Rattle.extract_core.specs.Tidiness.{IsTidy}

-- the steps are on terms of the bank
abbrev pub AreLive : List Tree → List Step → Type 0
AreLive bank steps = All (λ (step : Step). IsLive bank step.node) steps

-- the first derivations of the constraints on the term were added to no steps, and the steps of these numbers have them
pub record DeriveEach (sig : Declarations) (rules : List Rule) (height : ℕ) (t : Tree) (constraints : List Constraint) (steps : List TreeStep) (derived : List ℕ) : Type 0 where
  pub tidy : IsTidy sig rules steps
  pub adds : AddsEach (Adds sig rules height) [] (map (fact_on t) constraints) steps
  pub facts : map (λ k. option_map (step_fact sig) (slice_get steps k)) derived ≡ map Some (map (fact_on t) constraints)
