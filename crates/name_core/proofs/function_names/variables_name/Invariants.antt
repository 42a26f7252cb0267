use Rattle.std.proofs.Common.{◌≡◌, take, drop, List, ◌++◌}
use Rattle.sexpr_core.specs.declared.form.Atom.{Atom}
use Rattle.name_core.specs.Faults.{first, found, found_after}
use Rattle.name_core.specs.Names.{texts, unfit_name}
use Rattle.name_core.proofs.function_names.variables_name.Given as goal

-- the first fault is among what is left
abbrev pub invariant-loop-k : goal.invariant-loop-k
invariant-loop-k l = first (found_after (λ (before : List Atom) (variable : Atom). unfit_name (l.scope ++ texts before) variable) (take l.k l.variables) (drop l.k l.variables)) ≡ first (found (λ (before : List Atom) (variable : Atom). unfit_name (l.scope ++ texts before) variable) l.variables)
