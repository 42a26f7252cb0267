use Rattle.std.proofs.Common.{drop}
use Rattle.problem_core.specs.Texts.{var_form}
use Rattle.problem_core.proofs.Loops.{Left}
use Rattle.problem_core.proofs.rule_texts.put_vars.Given as goal

abbrev pub invariant-loop-place : goal.invariant-loop-place
invariant-loop-place l = Left (var_form) l.vars l.place (drop l.place l.vars) l.fn.out l.out
