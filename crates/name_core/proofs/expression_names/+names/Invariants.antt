use Rattle.std.proofs.Common.{◌≡◌, List, map, drop}
use Rattle.std.specs.List.{flat_map}
use Rattle.syntax_core.specs.declared.fault.Fault.{Fault}
use Rattle.name_core.specs.Faults.{first}
use Rattle.name_core.specs.Names.{expression_names}
use Rattle.name_core.proofs.expression_names.+names.Given as goal

-- the first fault is among what is left
abbrev pub invariant-expressions_name-loop-e : goal.invariant-expressions_name-loop-e
invariant-expressions_name-loop-e l =
    first (flat_map (λ (faults : List Fault). faults) (map (expression_names l.relations l.scope) (drop l.e-index l.es)))
    ≡ first (flat_map (λ (faults : List Fault). faults) (map (expression_names l.relations l.scope) l.es))
