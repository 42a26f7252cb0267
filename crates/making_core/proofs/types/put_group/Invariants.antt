use Rattle.std.proofs.Common.{◌≡◌, ◌++◌, map, drop}
use Rattle.syntax_core.specs.Syntax.{pattern_of}
use Rattle.making_core.specs.Making.{constructor_of}
use Rattle.making_core.proofs.types.put_group.Given as goal

-- what is left makes the rest
abbrev pub invariant-loop-form : goal.invariant-loop-form
invariant-loop-form l =
    l.out ++ map (λ form. constructor_of l.signature l.owner.0 (pattern_of form)) (drop l.form-index l.forms)
    ≡ l.fn.out ++ map (λ form. constructor_of l.signature l.owner.0 (pattern_of form)) l.forms
