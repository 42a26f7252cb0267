use Rattle.term_core.specs.Banks.{tree_of}
use Rattle.eval_core.proofs.Rightness.{found_outcomes}
use Rattle.eval_core.proofs.evaluator.Evaluator.fresh_outcomes.Goals as goal

pub returns-clause-outcomes : goal.returns-clause-outcomes
returns-clause-outcomes c =
    found_outcomes c.self.view_is c.self.invariant c.args.height c.args.relation (tree_of c.args.bank.now c.args.id) c.args.inputs.now c.requires.inputs c.find.result c.find.ensures.outcomes
