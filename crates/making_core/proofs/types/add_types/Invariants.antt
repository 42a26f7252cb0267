use Rattle.std.proofs.Common.{◌≡◌, ◌++◌, map, drop}
use Rattle.syntax_core.specs.Syntax.{pair_of}
use Rattle.making_core.specs.Fitting.{TypesFit}
use Rattle.name_core.specs.Names.{texts}
use Rattle.making_core.proofs.types.add_types.Given as goal

-- what is left fits, and makes the rest
abbrev pub invariant-loop-form : goal.invariant-loop-form
invariant-loop-form l =
    (record l.signature { types = l.signature.types ++ texts (map (λ form. (pair_of form).name) (drop l.form-index l.forms)) }
    ≡ record l.initial.signature { types = l.initial.signature.types ++ texts (map (λ form. (pair_of form).name) l.forms) })
    × TypesFit l.signature (texts (map (λ form. (pair_of form).name) (drop l.form-index l.forms)))
