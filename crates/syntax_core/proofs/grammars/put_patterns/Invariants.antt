use Rattle.std.proofs.Common.{◌≡◌, ◌++◌, map, drop}
use Rattle.syntax_core.specs.Syntax.{pattern_of}
use Rattle.syntax_core.proofs.grammars.put_patterns.Given as goal

-- what is left makes the rest
abbrev pub invariant-loop-form : goal.invariant-loop-form
invariant-loop-form l = l.out ++ map pattern_of (drop l.form-index l.forms) ≡ l.fn.out ++ map pattern_of l.forms
