use Rattle.std.proofs.Common.{◌≡◌, drop}
use Rattle.std.specs.List.{flat_map}
use Rattle.name_core.specs.Faults.{first}
use Rattle.name_core.specs.Names.{definition_names}
use Rattle.name_core.proofs.function_names.definitions_name.Given as goal

-- the first fault is among what is left
abbrev pub invariant-loop-function : goal.invariant-loop-function
invariant-loop-function l = first (flat_map (definition_names l.signature l.relations) (drop l.function-index l.functions)) ≡ first (flat_map (definition_names l.signature l.relations) l.functions)
