use Rattle.std.proofs.Common.{◌≡◌, drop}
use Rattle.std.specs.List.{flat_map}
use Rattle.name_core.specs.Bodies.{bound_after}
use Rattle.name_core.specs.Faults.{first}
use Rattle.name_core.specs.Names.{node_names}
use Rattle.name_core.proofs.body_names.existentials_name.Given as goal

-- the first fault is among what is left
abbrev pub invariant-loop-pair : goal.invariant-loop-pair
invariant-loop-pair l =
    first (flat_map (node_names l.relations l.scope) (bound_after l.inside (drop l.pair-index l.pairs))) ≡ first (flat_map (node_names l.relations l.scope) (bound_after l.around l.pairs))
