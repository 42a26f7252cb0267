use Rattle.std.proofs.Common.{subst}
use Rattle.sig_core.specs.WellFormed.{IsWellFormed}
use Rattle.syntax_core.specs.Syntax.{functions_of}
use Rattle.name_core.specs.States.{State}
use Rattle.sort_core.specs.Relations.{declared_with}
use Rattle.state_core.proofs.FunctionsTaken.{functions_taken}
use Rattle.state_core.proofs.stated.StatedParts.define_functions.Goals as goal

pub returns-in-Ok-clause-ok : goal.returns-in-Ok-clause-ok
returns-in-Ok-clause-ok c =
    let well : IsWellFormed (declared_with c.args.self.now.signature (functions_of c.args.form.now)) =
    subst (λ (s : State). IsWellFormed s.signature) c.in-Ok.ensures.added c.in-Ok.ensures.well_formed in
    functions_taken c.args.self.now c.put_functions.new.self c.args.form.now c.requires.come c.requires.sound c.requires.shape c.requires.small c.in-Ok.ensures.fine c.in-Ok.ensures.added well
