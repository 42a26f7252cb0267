use Rattle.std.proofs.Common.{length, slice_get, refl, sym, ap, ◌∙◌, below_more, arith}
use Rattle.std.proofs.lemmas.Option.{slice_get_read}
use Rattle.problem_core.specs.Problems.{fact_on}
use Rattle.answer_core.specs.Answers.{tree_answer}
use Rattle.answer_core.specs.Facts.{is_found}
use Rattle.answer_core.specs.Verdicts.{Meets, derived_fact}
use Rattle.answer_core.proofs.Judging.{is_met, is_unmet}
use Rattle.answer_core.proofs.checking.first_unmet.Goals as goal

pub returns-then-not-is_met : goal.returns-then-not-is_met
returns-then-not-is_met c =
    let problem = c.args.problem.now in
    let answer = tree_answer c.args.answer.now in
    let items = c.constraints-constraint-items.result.now in
    let k = c.loop-number.number in
    let at = ap (λ cs. slice_get cs k) (sym c.constraints-constraint-items.ensures.value) ∙ slice_get_read items (length items) k c.constraint-item.result refl c.loop-number-test.true c.constraint-item.is in
    let tested = c.is_met.ensures ∙ ap (λ s. is_found (derived_fact s answer k) (fact_on answer.term c.constraint-item.result)) c.signature.ensures.value in record {
      there = omega (arith, ap length c.constraints-constraint-items.ensures.value, c.loop-number-test.true);
      before = c.loop-number.invariant;
      unmet = is_unmet problem answer k c.constraint-item.result at c.is_met.result tested c.if-not-is_met.true;
    }

pub loop-number-preserved : goal.loop-number-preserved
loop-number-preserved c =
    let problem = c.args.problem.now in
    let answer = tree_answer c.args.answer.now in
    let items = c.constraints-constraint-items.result.now in
    let k = c.loop-number.number in
    let at = ap (λ cs. slice_get cs k) (sym c.constraints-constraint-items.ensures.value) ∙ slice_get_read items (length items) k c.constraint-item.result refl c.loop-number-test.true c.constraint-item.is in
    let tested = c.is_met.ensures ∙ ap (λ s. is_found (derived_fact s answer k) (fact_on answer.term c.constraint-item.result)) c.signature.ensures.value in
    below_more (Meets problem answer) k c.loop-number.invariant (is_met problem answer k c.constraint-item.result at c.is_met.result tested c.if-not-is_met.false)
