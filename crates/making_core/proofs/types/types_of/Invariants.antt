use Rattle.std.proofs.Common.{◌≡◌, ◌++◌, map, drop}
use Rattle.syntax_core.specs.Syntax.{atom_of}
use Rattle.sort_core.specs.Relations.{type_named}
use Rattle.making_core.proofs.types.types_of.Given as goal

-- what is left makes the rest
abbrev pub invariant-loop-form : goal.invariant-loop-form
invariant-loop-form l =
    l.types ++ map (λ form. type_named l.signature (atom_of form).bytes) (drop l.form-index l.forms) ≡ map (λ form. type_named l.signature (atom_of form).bytes) l.forms
