use Rattle.problem_core.proofs.Forms.{pair_text}
use Rattle.problem_core.proofs.Loops.{pieces4}
use Rattle.problem_core.proofs.expr_texts.put_pair.Goals as goal

pub returns : goal.returns
returns c = pieces4 c.args.out.now _ _ _ _ c.in_ok-push.ensures.ok c.in_ok-put_symbol.ensures.ok c.in_ok-put_next.ensures c.in_ok-push-2.ensures.ok (pair_text c.args.name.now c.args.sort.now)
