use Rattle.std.proofs.Common.{◌≡◌, drop}
use Rattle.std.specs.List.{flat_map}
use Rattle.name_core.specs.Faults.{first}
use Rattle.name_core.specs.Limits.{long_name}
use Rattle.name_core.proofs.function_limits.names_limit.Given as goal

-- the first fault is among what is left
abbrev pub invariant-loop-name : goal.invariant-loop-name
invariant-loop-name l = first (flat_map long_name (drop l.name-index l.names)) ≡ first (flat_map long_name l.names)
