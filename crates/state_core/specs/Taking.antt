-- A command that is taken, and one that is refused.
use Rattle.std.specs.Prelude.{◌≡◌, true, None, Ok, Err}
use Rattle.std.specs.Option.{option_map_or}
use Rattle.sexpr_core.specs.declared.form.Sexpr.{Sexpr}
use Rattle.sort_core.specs.declared.error.ElabError.{ElabError}
use Rattle.sort_core.specs.declared.error.ElabError.TheVariants as error
use Rattle.syntax_core.specs.declared.commands.Head.{Head}
use Rattle.name_core.specs.Faults.{first}
use Rattle.making_core.specs.Making.{added}
use Rattle.name_core.specs.States.{State}
use Rattle.making_core.specs.Soundness.{IsSoundState}
use Rattle.state_core.specs.Commands.{may_come, faults_in, command_fault, judged, Outcome, refused}

-- the outcome is this refusal, or memory was wanted
abbrev pub IsRefusal : Outcome → ElabError → Type 0
IsRefusal outcome (error.Fault fault) = outcome ≡ refused fault
IsRefusal outcome error.Memory = Unit {0}

-- the form is judged as this command, which may come
pub record IsJudgedAs (s : State) (h : Head) (form : Sexpr) : Type 0 where
  pub come : may_come s h ≡ true
  pub is : judged s form ≡ option_map_or Err (command_fault s h form) (Ok h)

-- a command that has no fault was added, and what has been stated still fits
pub record IsTaken (old : State) (h : Head) (form : Sexpr) (new : State) : Type 0 where
  pub fine : first (faults_in old h form) ≡ None
  pub is_added : new ≡ added old h form
  pub sound : IsSoundState new
