use Rattle.std.proofs.Common.{drop}
use Rattle.problem_core.specs.Texts.{productions_form}
use Rattle.problem_core.proofs.Loops.{Left}
use Rattle.problem_core.proofs.grammar_texts.put_groups.Given as goal

abbrev pub invariant-loop-n : goal.invariant-loop-n
invariant-loop-n l = Left (productions_form l.signature l.grammar) l.grammar l.n (drop l.n l.grammar) l.fn.out l.out
