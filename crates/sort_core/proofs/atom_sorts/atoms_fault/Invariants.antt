use Rattle.std.proofs.Common.{◌≡◌, Some, drop}
use Rattle.std.specs.List.{flat_map}
use Rattle.name_core.specs.Faults.{first}
use Rattle.sort_core.specs.Sorts.{atom_faults}
use Rattle.sort_core.proofs.atom_sorts.atoms_fault.Given as goal

-- the first fault is among what is left
abbrev pub invariant-loop-atom : goal.invariant-loop-atom
invariant-loop-atom l =
    first (flat_map (atom_faults l.signature (Some l.con) l.slots) (drop l.atom-index l.atoms)) ≡ first (flat_map (atom_faults l.signature (Some l.con) l.slots) l.atoms)
