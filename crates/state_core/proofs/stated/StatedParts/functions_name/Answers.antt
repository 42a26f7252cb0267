use Rattle.std.proofs.Common.{None, ap, refl, sym}
use Rattle.name_core.specs.States.{State}
use Rattle.state_core.proofs.stated.StatedParts.functions_name.Goals as goal

-- the names of functions are looked for whatever is wanted
pub returns : goal.returns
returns c =
    let s : State = record c.args.self.now { wanted = None } in
    c.name_fault.ensures s (ap (λ (t : State). t.signature) (sym c.self.view_is)) refl
