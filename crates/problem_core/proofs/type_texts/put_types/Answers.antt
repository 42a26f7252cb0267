use Rattle.problem_core.proofs.Forms.{types_text}
use Rattle.problem_core.proofs.Loops.{pieces7}
use Rattle.problem_core.proofs.type_texts.put_types.Goals as goal

pub returns : goal.returns
returns c = pieces7 c.args.out.now _ _ _ _ _ _ _ c.in_ok-push.ensures.ok c.in_ok-put_symbol.ensures.ok c.in_ok-append.ensures.ok c.in_ok-put_type_names.ensures c.in_ok-append-2.ensures.ok c.in_ok-put_groups.ensures c.in_ok-append-3.ensures.ok (types_text c.args.signature.now)
