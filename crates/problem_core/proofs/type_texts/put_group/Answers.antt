use Rattle.problem_core.proofs.Forms.{group_text}
use Rattle.problem_core.proofs.Loops.{pieces3}
use Rattle.problem_core.proofs.type_texts.put_group.Goals as goal

pub returns : goal.returns
returns c = pieces3 c.args.out.now _ _ _ c.in_ok-push.ensures.ok c.in_ok-put_constructors.ensures c.in_ok-push-2.ensures.ok (group_text c.args.signature.now c.args.t)
