use Rattle.std.proofs.Common.{◌≡◌, take, drop, List, ◌++◌}
use Rattle.sexpr_core.specs.declared.form.Atom.{Atom}
use Rattle.name_core.specs.Faults.{first, found, found_after}
use Rattle.name_core.specs.Names.{sort_names, taken_name, texts}
use Rattle.name_core.proofs.type_names.each_type_name.Given as goal

-- the first fault is among what is left
abbrev pub invariant-loop-k : goal.invariant-loop-k
invariant-loop-k l = first (found_after (λ (before : List Atom) (name : Atom). taken_name (l.signature.types ++ texts before ++ sort_names) name) (take l.k l.names) (drop l.k l.names)) ≡ first (found (λ (before : List Atom) (name : Atom). taken_name (l.signature.types ++ texts before ++ sort_names) name) l.names)
