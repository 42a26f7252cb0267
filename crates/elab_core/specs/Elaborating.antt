-- What an elaborator stands for, and what it answers.
use Rattle.std.specs.Prelude.{◌≡◌, ℕ, Bool, true, false, Option, Some, None, option_map, Result, Ok, Err}
use Rattle.sexpr_core.specs.declared.form.Sexpr.{Sexpr}
use Rattle.problem_core.specs.Problems.{Parts}
use Rattle.syntax_core.specs.declared.fault.Fault.{Fault}
use Rattle.elab_core.specs.declared.elaborator.Standing.{Standing}
use Rattle.elab_core.specs.declared.elaborator.Standing.TheVariants as standing
use Rattle.sort_core.specs.declared.error.ElabError.{ElabError}
use Rattle.sort_core.specs.declared.error.ElabError.TheVariants as error
use Rattle.state_core.specs.Commands.{Outcome, stands, refused, step}
use Rattle.elab_core.specs.Judging.{closed}
use Rattle.making_core.specs.Soundness.{IsSoundState}

-- the outcome of the commands so far; none once memory was wanted
abbrev pub outcome_in : Standing → Option Outcome
outcome_in (standing.Stated s) = Some (stands s)
outcome_in (standing.Refused fault) = Some (refused fault)
outcome_in standing.Spent = None

-- what has been stated makes a problem
abbrev pub IsSoundStanding : Standing → Type 0
IsSoundStanding (standing.Stated s) = IsSoundState s
IsSoundStanding (standing.Refused fault) = Unit {0}
IsSoundStanding standing.Spent = Unit {0}

abbrev pub next : Option Outcome → Sexpr → Option Outcome
next outcome form = option_map (λ o. step o form) outcome

-- no command was refused
abbrev pub has_stood : Outcome → Bool
has_stood (stands s) = true
has_stood (refused fault) = false

abbrev pub is_standing : Option Outcome → Bool
is_standing None = false
is_standing (Some outcome) = has_stood outcome

-- what stands after a form that isn't taken: it or one before it is refused, or memory was wanted now or before
abbrev pub IsNotTaken : Option Outcome → Sexpr → Option Outcome → ElabError → Type 0
IsNotTaken old form new (error.Fault fault) = (new ≡ next old form) × (new ≡ Some (refused fault))
IsNotTaken old form new error.Memory = new ≡ None

abbrev pub standing_after : ElabError → Standing
standing_after (error.Fault fault) = standing.Refused fault
standing_after error.Memory = standing.Spent

-- after this outcome the form is refused by this, or memory was wanted
abbrev pub IsRefusedAfter : Option Outcome → Sexpr → ElabError → Type 0
IsRefusedAfter old form (error.Fault fault) = next old form ≡ Some (refused fault)
IsRefusedAfter old form error.Memory = Unit {0}

abbrev pub answered : Result Parts Fault → Result Parts ElabError
answered (Ok problem) = Ok problem
answered (Err fault) = Err (error.Fault fault)

-- what the commands have made in the end: a problem, the refusal that is due, or want of memory
abbrev pub made : ℕ → Option Outcome → Result Parts ElabError
made end None = Err error.Memory
made end (Some outcome) = answered (closed end outcome)

-- the first refusal, if there was one
abbrev pub fault_of : Outcome → Option Fault
fault_of (stands s) = None
fault_of (refused fault) = Some fault

abbrev pub fault_in : Option Outcome → Option Fault
fault_in None = None
fault_in (Some outcome) = fault_of outcome
