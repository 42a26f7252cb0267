use Rattle.std.proofs.Common.{◌∙◌}
use Rattle.term_core.specs.Banks.{tree_of}
use Rattle.eval_core.specs.Outcomes.{AreOutcomes}
use Rattle.marks_core.proofs.Answered.{outcomes_of_same, zip_more}
use Rattle.marks_core.proofs.answers.answers.Goals as goal

pub loop-probe-preserved : goal.loop-probe-preserved
loop-probe-preserved c =
    let old = c.args.evaluator.now in
    let tree = tree_of c.args.bank.now c.args.id in
    let height = c.args.height in
    let probe = c.probe-item.result in
    let found : AreOutcomes old.signature old.rules height probe.relation tree probe.inputs c.in_ok-outcomes.outcomes =
    outcomes_of_same c.loop-probe.evaluator.signature old.signature c.loop-probe.evaluator.rules old.rules height c.relation.result probe.relation tree c.inputs.result.now probe.inputs c.in_ok-outcomes.outcomes
    c.loop-probe.invariant.signature c.loop-probe.invariant.rules c.relation.ensures c.inputs.ensures c.in_ok-outcomes.ensures.outcomes in
    record {
      answered = zip_more (λ p outcomes. AreOutcomes old.signature old.rules height p.relation tree p.inputs outcomes) c.args.probes.now c.loop-probe.answers c.push.new.self c.loop-probe.probe-index probe c.in_ok-outcomes.outcomes
          c.loop-probe-test.true c.probe-item.is c.in_ok-push.ensures.ok c.loop-probe.invariant.answered found;
      signature = c.fresh_outcomes.ensures.signature ∙ c.loop-probe.invariant.signature;
      rules = c.fresh_outcomes.ensures.rules ∙ c.loop-probe.invariant.rules;
      stands = c.fresh_outcomes.ensures.stands;
    }
