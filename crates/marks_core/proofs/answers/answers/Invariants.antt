use Rattle.std.proofs.Common.{◌≡◌, take}
use Rattle.term_core.specs.Banks.{tree_of}
use Rattle.eval_core.specs.Evaluations.{StandsFor}
use Rattle.marks_core.specs.Marking.{AreAnswers}
use Rattle.marks_core.proofs.answers.answers.Given as goal

abbrev pub invariant-loop-probe : goal.invariant-loop-probe
invariant-loop-probe l = record {
  answered : AreAnswers l.fn.evaluator.signature l.fn.evaluator.rules l.height (tree_of l.bank l.id) (take l.probe-index l.probes) l.answers;
  signature : l.evaluator.signature ≡ l.fn.evaluator.signature;
  rules : l.evaluator.rules ≡ l.fn.evaluator.rules;
  stands : StandsFor l.evaluator l.bank;
}
