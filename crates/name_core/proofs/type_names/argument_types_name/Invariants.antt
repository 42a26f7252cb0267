use Rattle.std.proofs.Common.{◌≡◌, drop, ◌++◌}
use Rattle.std.specs.List.{flat_map}
use Rattle.name_core.specs.Faults.{first}
use Rattle.name_core.specs.Names.{texts, unknown_name}
use Rattle.name_core.proofs.type_names.argument_types_name.Given as goal

-- the first fault is among what is left
abbrev pub invariant-loop-name : goal.invariant-loop-name
invariant-loop-name l = first (flat_map (unknown_name (l.signature.types ++ texts l.types)) (drop l.name-index l.names)) ≡ first (flat_map (unknown_name (l.signature.types ++ texts l.types)) l.names)
