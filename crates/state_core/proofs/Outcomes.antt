-- A command that is taken or refused, as a step.
use Rattle.std.proofs.Common.{◌≡◌, true, ◌++◌, Option, Some, None, Ok, Err, refl, sym, ap, ap₂, ◌∙◌, if◌then◌else◌}
use Rattle.std.specs.Option.{option_map_or, option_or}
use Rattle.sexpr_core.specs.declared.form.Sexpr.{Sexpr}
use Rattle.sexpr_core.specs.Access.{place_of}
use Rattle.syntax_core.specs.declared.commands.Head.{Head}
use Rattle.syntax_core.specs.declared.fault.Fault.{Fault}
use Rattle.syntax_core.specs.Shapes.{refusal}
use Rattle.sort_core.specs.declared.error.ElabError.{ElabError}
use Rattle.sort_core.specs.declared.error.ElabError.TheVariants as error
use Rattle.state_core.specs.Taking.{IsJudgedAs, IsRefusal, IsTaken}
use Rattle.sort_core.specs.Errors.{IsDue}
use Rattle.name_core.specs.Faults.{first, shapes}
use Rattle.state_core.specs.Commands.{command_fault, faults_in, may_come, outcome_of, refused, stands, step}
use Rattle.name_core.specs.States.{State}
use Rattle.name_core.proofs.Firsts.{first-append}

pub fault_is : (s : State) (h : Head) (form : Sexpr) (o p : Option Fault) → may_come s h ≡ true → first (shapes form) ≡ o → first (faults_in s h form) ≡ p → command_fault s h form ≡ option_or o p
fault_is s h form o p come e f =
    ap (λ b. if b then first (shapes form ++ faults_in s h form) else Some (refusal (place_of form) 12)) come ∙ first-append (shapes form) (faults_in s h form) ∙ ap₂ option_or e f

pub taken : (s : State) (h : Head) (form : Sexpr) (new : State) → IsJudgedAs s h form → first (shapes form) ≡ None → IsTaken s h form new → step (stands s) form ≡ stands new
taken s h form new j shape t =
    let fine : command_fault s h form ≡ None = fault_is s h form None None j.come shape t.fine in
    ap (outcome_of s form) (j.is ∙ ap (λ (o : Option Fault). option_map_or Err o (Ok h)) fine) ∙ ap stands (sym t.is_added)

refused_by : (s : State) (h : Head) (form : Sexpr) (fault : Fault) → IsJudgedAs s h form → command_fault s h form ≡ Some fault → step (stands s) form ≡ refused fault
refused_by s h form fault j e = ap (outcome_of s form) (j.is ∙ ap (λ (o : Option Fault). option_map_or Err o (Ok h)) e)

pub misshapen : (s : State) (h : Head) (form : Sexpr) (fault : Fault) → IsJudgedAs s h form → first (shapes form) ≡ Some fault → step (stands s) form ≡ refused fault
misshapen s h form fault j e = refused_by s h form fault j (fault_is s h form (Some fault) (first (faults_in s h form)) j.come e refl)

pub due : (s : State) (h : Head) (form : Sexpr) (error : ElabError) → IsJudgedAs s h form → first (shapes form) ≡ None → IsDue (first (faults_in s h form)) error → IsRefusal (step (stands s) form) error
due s h form (error.Fault fault) j shape d = refused_by s h form fault j (fault_is s h form None (Some fault) j.come shape d)
due s h form error.Memory j shape d = tt
