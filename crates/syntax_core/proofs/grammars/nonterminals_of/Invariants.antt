use Rattle.std.proofs.Common.{◌≡◌, ◌++◌, map, drop}
use Rattle.syntax_core.specs.Syntax.{pair_of}
use Rattle.syntax_core.proofs.grammars.nonterminals_of.Given as goal

-- what is left makes the rest
abbrev pub invariant-loop-form : goal.invariant-loop-form
invariant-loop-form l = l.pairs ++ map pair_of (drop l.form-index l.forms) ≡ map pair_of l.forms
