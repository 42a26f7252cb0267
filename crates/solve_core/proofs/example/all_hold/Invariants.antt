use Rattle.std.proofs.Common.{◌≡◌, take, All}
use Rattle.term_core.specs.Banks.{tree_of}
use Rattle.eval_core.specs.Evaluations.{StandsFor}
use Rattle.solve_core.specs.Examples.{HoldsOn}
use Rattle.solve_core.proofs.example.all_hold.Given as goal

abbrev pub invariant-loop-example : goal.invariant-loop-example
invariant-loop-example l = record {
  hold : All (HoldsOn l.fn.evaluator.signature l.fn.evaluator.rules l.height (tree_of l.bank l.id)) (take l.example-index l.examples);
  signature : l.evaluator.signature ≡ l.fn.evaluator.signature;
  rules : l.evaluator.rules ≡ l.fn.evaluator.rules;
  stands : StandsFor l.evaluator l.bank;
}
