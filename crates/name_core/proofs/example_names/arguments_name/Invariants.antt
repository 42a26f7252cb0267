use Rattle.std.proofs.Common.{◌≡◌, drop}
use Rattle.std.specs.List.{flat_map}
use Rattle.name_core.specs.Faults.{first}
use Rattle.name_core.specs.Names.{argument_names}
use Rattle.name_core.proofs.example_names.arguments_name.Given as goal

-- the first fault is among what is left
abbrev pub invariant-loop-arg : goal.invariant-loop-arg
invariant-loop-arg l = first (flat_map (argument_names l.wanted) (drop l.arg-index l.args)) ≡ first (flat_map (argument_names l.wanted) l.args)
