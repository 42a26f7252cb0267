use Rattle.std.proofs.Common.{◌≡◌, drop}
use Rattle.std.specs.List.{flat_map}
use Rattle.name_core.specs.Faults.{first}
use Rattle.name_core.specs.Names.{expression_names}
use Rattle.name_core.proofs.body_names.atoms_name.Given as goal

-- the first fault is among what is left
abbrev pub invariant-loop-atom : goal.invariant-loop-atom
invariant-loop-atom l = first (flat_map (expression_names l.relations l.scope) (drop l.atom-index l.atoms)) ≡ first (flat_map (expression_names l.relations l.scope) l.atoms)
