use Rattle.std.proofs.Common.{◌≡◌, drop}
use Rattle.std.specs.List.{flat_map}
use Rattle.syntax_core.specs.declared.syntax.Body.{Body}
use Rattle.name_core.specs.Bodies.{nodes_within}
use Rattle.name_core.specs.Faults.{first}
use Rattle.name_core.specs.Names.{node_names}
use Rattle.name_core.proofs.body_names.+body_names.Given as goal

-- the first fault is among what is left
abbrev pub invariant-bodies_name-loop-body : goal.invariant-bodies_name-loop-body
invariant-bodies_name-loop-body l =
    first (flat_map (λ (b : Body). flat_map (node_names l.relations l.scope) (nodes_within b l.around)) (drop l.body-index l.bodies))
    ≡ first (flat_map (λ (b : Body). flat_map (node_names l.relations l.scope) (nodes_within b l.around)) l.bodies)
