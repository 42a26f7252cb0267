-- What has been stated so far fits together, so that it makes a problem in the end.
use Rattle.std.specs.Prelude.{◌≡◌, ◌≤◌, Bool, false, Option, Some, None, List, [], length, All}
use Rattle.sig_core.specs.Signatures.{Declarations}
use Rattle.sig_core.specs.WellFormed.{IsWellFormed}
use Rattle.problem_core.specs.declared.parts.Constraint.{Constraint}
use Rattle.problem_core.specs.Soundness.{HasFreeNames, HasShortNames, IsShort, IsSoundConstraint, IsSoundGrammar, IsSoundRule, wanted_type}
use Rattle.name_core.specs.States.{State, Wanted}

-- Constraints come after the function that is wanted, and fit its type, which is that of its grammar. So does the end.
abbrev pub IsSoundWanted : Declarations → List Constraint → Bool → Option Wanted → Type 0
IsSoundWanted sig constraints is_over None = (constraints ≡ []) × (is_over ≡ false)
IsSoundWanted sig constraints is_over (Some wanted) =
    IsShort wanted.name × IsSoundGrammar sig wanted.grammar × (wanted_type wanted.grammar ≡ wanted.type) × All (IsSoundConstraint sig wanted.type) constraints

pub record IsSoundState (s : State) : Type 0 where
  pub signature : IsWellFormed s.signature
  pub names : HasShortNames s.signature
  pub free_names : HasFreeNames s.signature
  pub few_rules : length s.rules ≤ 16384
  pub rules : All (IsSoundRule s.signature) s.rules
  pub few_constraints : length s.constraints ≤ 1024
  pub wanted : IsSoundWanted s.signature s.constraints s.is_over s.wanted
