use Rattle.std.proofs.Common.{drop}
use Rattle.problem_core.specs.Texts.{param_form}
use Rattle.problem_core.proofs.Loops.{Left}
use Rattle.problem_core.proofs.rule_texts.put_params.Given as goal

abbrev pub invariant-loop-place : goal.invariant-loop-place
invariant-loop-place l = Left (param_form l.signature) l.params l.place (drop l.place l.params) l.fn.out l.out
