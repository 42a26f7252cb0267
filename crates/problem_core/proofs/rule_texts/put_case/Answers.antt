use Rattle.problem_core.proofs.Forms.{case_text}
use Rattle.problem_core.proofs.Loops.{pieces5}
use Rattle.problem_core.proofs.rule_texts.put_case.Goals as goal

pub returns : goal.returns
returns c = pieces5 c.args.out.now _ _ _ _ _ c.in_ok-push.ensures.ok c.in_ok-put_pattern.ensures c.in_ok-push-2.ensures.ok c.in_ok-put_body.ensures c.in_ok-push-3.ensures.ok (case_text c.args.signature.now c.args.rule.now)
