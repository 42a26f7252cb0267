use Rattle.std.proofs.Common.{◌≡◌, drop}
use Rattle.problem_core.specs.Texts.{term_name}
use Rattle.problem_core.proofs.names.term_name.Given as goal

abbrev pub invariant-loop-param : goal.invariant-loop-param
invariant-loop-param l = term_name l.params ≡ term_name (drop l.param-index l.params)
