use Rattle.std.proofs.Common.{◌≡◌, drop}
use Rattle.std.specs.List.{flat_map}
use Rattle.name_core.specs.Faults.{first}
use Rattle.sort_core.specs.Sorts.{production_faults}
use Rattle.sort_core.proofs.grammar_sorts.productions_fault.Given as goal

-- the first fault is among what is left
abbrev pub invariant-loop-form : goal.invariant-loop-form
invariant-loop-form l = first (flat_map (production_faults l.signature l.pairs l.owner) (drop l.form-index l.forms)) ≡ first (flat_map (production_faults l.signature l.pairs l.owner) l.forms)
