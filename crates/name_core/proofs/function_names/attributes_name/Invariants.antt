use Rattle.std.proofs.Common.{◌≡◌, take, drop}
use Rattle.name_core.specs.Faults.{first, found, found_after}
use Rattle.name_core.specs.Names.{attribute_names}
use Rattle.name_core.proofs.function_names.attributes_name.Given as goal

-- the first fault is among what is left
abbrev pub invariant-loop-k : goal.invariant-loop-k
invariant-loop-k l = first (found_after (attribute_names l.params) (take l.k l.names) (drop l.k l.names)) ≡ first (found (attribute_names l.params) l.names)
