use Rattle.marks_core.specs.Tables.{probes_in}
use Rattle.marks_core.proofs.Tabled.{one_more_list}
use Rattle.marks_core.proofs.probe.probes_of.Goals as goal

pub loop-number-preserved : goal.loop-number-preserved
loop-number-preserved c =
    one_more_list (probes_in c.args.signature.now c.args.owner c.args.examples.now) c.loop-number.probes c.put_probes.new.probes c.loop-number.number c.loop-number.invariant c.in_ok-put_probes.ensures
