-- What stands after a form that is not taken.
use Rattle.std.proofs.Common.{Option, refl, sym}
use Rattle.sexpr_core.specs.declared.form.Sexpr.{Sexpr}
use Rattle.sort_core.specs.declared.error.ElabError.{ElabError}
use Rattle.sort_core.specs.declared.error.ElabError.TheVariants as error
use Rattle.elab_core.specs.Elaborating.{IsNotTaken, IsRefusedAfter, IsSoundStanding, outcome_in, standing_after}
use Rattle.state_core.specs.Commands.{Outcome}

pub not_taken : (old : Option Outcome) (form : Sexpr) (error : ElabError) → IsRefusedAfter old form error → IsNotTaken old form (outcome_in (standing_after error)) error
not_taken old form (error.Fault fault) d = (sym d, refl)
not_taken old form error.Memory d = refl

pub no_state : (error : ElabError) → IsSoundStanding (standing_after error)
no_state (error.Fault fault) = tt
no_state error.Memory = tt
