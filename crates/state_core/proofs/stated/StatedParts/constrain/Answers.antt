use Rattle.state_core.proofs.Soundings.{constraints_taken}
use Rattle.state_core.proofs.stated.StatedParts.constrain.Goals as goal

pub returns-in-Ok-clause-ok : goal.returns-in-Ok-clause-ok
returns-in-Ok-clause-ok c =
    constraints_taken c.args.self.now c.put_examples.new.self c.args.form.now c.requires.wanted c.requires.sound c.in-Ok.ensures.fine c.in-Ok.ensures.added
