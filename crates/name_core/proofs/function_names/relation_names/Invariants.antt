use Rattle.std.proofs.Common.{◌≡◌, ◌++◌, drop}
use Rattle.sig_core.specs.WellFormed.{relation_names}
use Rattle.name_core.proofs.function_names.relation_names.Given as goal

-- what is left makes the rest
abbrev pub invariant-loop-number : goal.invariant-loop-number
invariant-loop-number l = l.names ++ relation_names (drop l.number l.signature.relations) ≡ relation_names l.signature.relations
