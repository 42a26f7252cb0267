use Rattle.std.proofs.Common.{drop}
use Rattle.problem_core.specs.Texts.{production_form}
use Rattle.problem_core.proofs.Loops.{Left}
use Rattle.problem_core.proofs.grammar_texts.put_productions.Given as goal

abbrev pub invariant-loop-place : goal.invariant-loop-place
invariant-loop-place l = Left (production_form l.signature l.grammar) l.productions l.place (drop l.place l.productions) l.fn.out l.out
