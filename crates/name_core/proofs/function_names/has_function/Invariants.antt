use Rattle.std.proofs.Common.{◌≡◌, drop}
use Rattle.name_core.specs.Names.{has, function_names}
use Rattle.name_core.proofs.function_names.has_function.Given as goal

-- what is left decides
abbrev pub invariant-loop-function : goal.invariant-loop-function
invariant-loop-function l = has (function_names (drop l.function-index l.functions)) l.name ≡ has (function_names l.functions) l.name
