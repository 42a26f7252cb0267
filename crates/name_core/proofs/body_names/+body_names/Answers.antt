use Rattle.std.proofs.Common.{◌∙◌}
use Rattle.name_core.specs.Names.{node_names}
use Rattle.name_core.proofs.Noding.{onward}
use Rattle.name_core.proofs.body_names.+body_names.Goals as goal

pub body_name-returns-in_ok-bodies_name-in-None : goal.body_name-returns-in_ok-bodies_name-in-None
body_name-returns-in_ok-bodies_name-in-None t c =
    onward (node_names c.args.relations.now c.args.scope.now) c.in-Fork.fork c.args.around.now c.as_slice-pairs.result.now c.as_slice.result.now c.args.body.now c.as_slice-bodies.result.now
    c.in_ok-fault-in-Fork.field-0 c.in_ok-bodies_name-in-None.field-0
    c.in-Fork.is c.as_slice-pairs.ensures c.as_slice-bodies.ensures (c.as_slice.ensures ∙ c.in_ok-inside-in-None.ensures)
    c.in_ok-fault-in-Fork.ensures c.in-None.is c.in_ok-bodies_name-in-None.ensures
