-- The next command of a file: added to what has been stated, or refused.
use Rattle.std.specs.Prelude.{ℕ, Bool, not, ◌&&◌, is_some, if◌then◌else◌, Option, Some, None, Result, Ok, Err, List, [], ◌++◌}
use Rattle.std.specs.Option.{option_map_or}
use Rattle.sexpr_core.specs.declared.form.Sexpr.{Sexpr}
use Rattle.sexpr_core.specs.Access.{place_of, symbol_of}
use Rattle.syntax_core.specs.declared.commands.Head.{Head}
use Rattle.syntax_core.specs.declared.commands.Head.TheVariants as head
use Rattle.syntax_core.specs.declared.fault.Fault.{Fault}
use Rattle.syntax_core.specs.Commands.{head_named}
use Rattle.syntax_core.specs.Shapes.{first_item, refusal}
use Rattle.syntax_core.specs.Syntax.{functions_of}
use Rattle.name_core.specs.Faults.{first, shapes}
use Rattle.name_core.specs.Limits.{limits}
use Rattle.making_core.specs.Making.{added}
use Rattle.name_core.specs.Names.{names}
use Rattle.making_core.specs.Rules.{functions_flow}
use Rattle.sort_core.specs.Sorts.{sorts}
use Rattle.name_core.specs.States.{State}

-- the command may come next: declarations before the `synth-fun`, constraints after it, then the `check-synth`
abbrev pub may_come : State → Head → Bool
may_come s head.SetInfo = not s.is_over
may_come s head.DeclareTermTypes = not (is_some s.wanted)
may_come s head.DefineFunsRec = not (is_some s.wanted)
may_come s head.SynthFun = not (is_some s.wanted)
may_come s head.Constraint = is_some s.wanted && not s.is_over
may_come s head.CheckSynth = is_some s.wanted && not s.is_over

-- the rules that fail data flow
abbrev pub flow : State → Head → Sexpr → List Fault
flow s head.DefineFunsRec form = functions_flow s.signature (functions_of form)
flow s _ form = []

-- the bad nodes of a command of right shape that has come in its order
abbrev pub faults_in : State → Head → Sexpr → List Fault
faults_in s h form = limits s h form ++ names s h form ++ sorts s h form ++ flow s h form

-- the first bad node of the first pass that finds one; each pass is for commands in which no earlier one does
abbrev pub command_fault : State → Head → Sexpr → Option Fault
command_fault s h form =
    if may_come s h then first (shapes form ++ faults_in s h form)
    else Some (refusal (place_of form) 12)

-- a judged command: why it is refused, or its word
abbrev pub word_fault : State → Sexpr → Sexpr → Option (List ℕ) → Result Head Fault
word_fault s form word None = Err (refusal (place_of form) 10)
word_fault s form word (Some name) = option_map_or (λ h. option_map_or Err (command_fault s h form) (Ok h)) (head_named name) (Err (refusal (place_of word) 11))

abbrev pub judged_from : State → Sexpr → Option Sexpr → Result Head Fault
judged_from s form None = Err (refusal (place_of form) 10)
judged_from s form (Some word) = word_fault s form word (symbol_of word)

-- the command that the form is after what has been stated, or why it is refused
abbrev pub judged : State → Sexpr → Result Head Fault
judged s form = judged_from s form (first_item form)

-- what has been stated, or the first refusal
pub data Outcome : Type 0 where
  stands : State → Outcome
  refused : Fault → Outcome

abbrev pub outcome_of : State → Sexpr → Result Head Fault → Outcome
outcome_of s form (Ok h) = stands (added s h form)
outcome_of s form (Err fault) = refused fault

abbrev pub step : Outcome → Sexpr → Outcome
step (stands s) form = outcome_of s form (judged s form)
step (refused fault) form = refused fault
