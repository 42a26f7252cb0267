use Rattle.std.proofs.Common.{Option, sym, subst}
use Rattle.elab_core.specs.declared.elaborator.Standing.{Standing}
use Rattle.elab_core.specs.Elaborating.{IsNotTaken, IsRefusedAfter, IsSoundStanding, outcome_in}
use Rattle.state_core.specs.Commands.{Outcome}
use Rattle.elab_core.proofs.Outcomes.{no_state, not_taken}
use Rattle.elab_core.proofs.elaborator.Elaborator.command.Goals as goal

pub invariant_of-self-in-Err : goal.invariant_of-self-in-Err
invariant_of-self-in-Err c = subst IsSoundStanding (sym c.standing_after.ensures) (no_state c.in-Err.error)

pub returns-in-Err-clause-err : goal.returns-in-Err-clause-err
returns-in-Err-clause-err c =
    let P : Option Outcome → Type 0 = λ o. IsRefusedAfter o c.args.form.now c.in-Err.error in
    let Q : Standing → Type 0 = λ s. IsNotTaken c.args.self.now c.args.form.now (outcome_in s) c.in-Err.error in
    let due : P c.args.self.now = subst P c.self.view_is c.in-Err.ensures.err in
    subst Q (sym c.standing_after.ensures) (not_taken c.args.self.now c.args.form.now c.in-Err.error due)
