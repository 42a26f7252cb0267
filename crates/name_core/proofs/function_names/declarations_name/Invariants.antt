use Rattle.std.proofs.Common.{◌≡◌, take, drop}
use Rattle.name_core.specs.Faults.{first, found, found_after}
use Rattle.name_core.specs.Names.{declaration_names}
use Rattle.name_core.proofs.function_names.declarations_name.Given as goal

-- the first fault is among what is left
abbrev pub invariant-loop-k : goal.invariant-loop-k
invariant-loop-k l = first (found_after (declaration_names l.signature) (take l.k l.functions) (drop l.k l.functions)) ≡ first (found (declaration_names l.signature) l.functions)
