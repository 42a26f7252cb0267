-- The law of valid lists of steps.
use Rattle.std.specs.Prelude.{◌≡◌, ℕ, Some, List, slice_get}
use Rattle.rule_core.specs.declared.rule.Rule.{Rule}
use Rattle.sig_core.specs.Signatures.{Declarations}
use Rattle.problem_core.specs.Derivations.{Within}
use Rattle.deriv_core.specs.Steps.{TreeStep, IsValid, step_fact}

-- the fact of each step of a valid list has a derivation within the bound
abbrev pub ValidIsWithin : Type 0
ValidIsWithin = (sig : Declarations) (rules : List Rule) (bound : ℕ) (steps : List TreeStep) → IsValid sig rules bound steps →
    (k : ℕ) (step : TreeStep) → slice_get steps k ≡ Some step → Within sig rules bound (step_fact sig step)
