use Rattle.std.proofs.Common.{◌≡◌, take, drop}
use Rattle.name_core.specs.Faults.{first, found, found_after}
use Rattle.name_core.specs.Names.{parameter_names}
use Rattle.name_core.proofs.function_names.parameters_name.Given as goal

-- the first fault is among what is left
abbrev pub invariant-loop-k : goal.invariant-loop-k
invariant-loop-k l = first (found_after (parameter_names l.signature) (take l.k l.params) (drop l.k l.params)) ≡ first (found (parameter_names l.signature) l.params)
