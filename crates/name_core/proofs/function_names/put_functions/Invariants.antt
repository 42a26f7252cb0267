use Rattle.std.proofs.Common.{◌≡◌, ◌++◌, drop}
use Rattle.name_core.specs.Names.{function_names}
use Rattle.name_core.proofs.function_names.put_functions.Given as goal

-- what is left makes the rest
abbrev pub invariant-loop-function : goal.invariant-loop-function
invariant-loop-function l = l.out ++ function_names (drop l.function-index l.functions) ≡ l.fn.out ++ function_names l.functions
