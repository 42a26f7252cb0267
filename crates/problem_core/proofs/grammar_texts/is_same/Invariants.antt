use Rattle.std.proofs.Common.{◌≡◌, drop}
use Rattle.problem_core.specs.Texts.{same_grammar}
use Rattle.problem_core.proofs.grammar_texts.is_same.Given as goal

abbrev pub invariant-loop-n : goal.invariant-loop-n
invariant-loop-n l = same_grammar l.grammar l.other ≡ same_grammar (drop l.n l.grammar) (drop l.n l.other)
