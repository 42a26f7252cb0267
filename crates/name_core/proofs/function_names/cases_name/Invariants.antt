use Rattle.std.proofs.Common.{◌≡◌, drop}
use Rattle.std.specs.List.{flat_map}
use Rattle.name_core.specs.Faults.{first}
use Rattle.name_core.specs.Names.{case_names}
use Rattle.name_core.proofs.function_names.cases_name.Given as goal

-- the first fault is among what is left
abbrev pub invariant-loop-case : goal.invariant-loop-case
invariant-loop-case l = first (flat_map (case_names l.signature l.relations l.scope) (drop l.case-index l.cases)) ≡ first (flat_map (case_names l.signature l.relations l.scope) l.cases)
