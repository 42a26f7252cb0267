use Rattle.problem_core.proofs.Forms.{type_text}
use Rattle.problem_core.proofs.Loops.{pieces3}
use Rattle.problem_core.proofs.type_texts.put_type_name.Goals as goal

pub returns : goal.returns
returns c = pieces3 c.args.out.now _ _ _ c.in_ok-push.ensures.ok c.in_ok-put_symbol.ensures.ok c.in_ok-append.ensures.ok (type_text c.args.name.now)
