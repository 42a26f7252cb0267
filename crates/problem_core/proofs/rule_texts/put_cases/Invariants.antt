use Rattle.std.proofs.Common.{drop}
use Rattle.rule_core.specs.Rulebooks.{rules_of}
use Rattle.problem_core.specs.Texts.{case_form}
use Rattle.problem_core.proofs.Loops.{Left}
use Rattle.problem_core.proofs.rule_texts.put_cases.Given as goal

abbrev pub invariant-loop-k : goal.invariant-loop-k
invariant-loop-k l = Left (case_form l.signature) (rules_of l.rulebook l.relation) l.k (drop l.k (rules_of l.rulebook l.relation)) l.fn.out l.out
