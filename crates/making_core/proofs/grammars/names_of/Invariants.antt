use Rattle.std.proofs.Common.{◌≡◌, ◌++◌, map, drop}
use Rattle.syntax_core.specs.Syntax.{pair_of}
use Rattle.name_core.specs.Names.{names_in}
use Rattle.making_core.proofs.grammars.names_of.Given as goal

-- what is left makes the rest
abbrev pub invariant-loop-form : goal.invariant-loop-form
invariant-loop-form l = l.names ++ names_in (map pair_of (drop l.form-index l.forms)) ≡ names_in (map pair_of l.forms)
