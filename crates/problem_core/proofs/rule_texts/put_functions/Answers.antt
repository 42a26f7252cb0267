use Rattle.problem_core.proofs.Forms.{functions_text}
use Rattle.problem_core.proofs.Loops.{pieces7}
use Rattle.problem_core.proofs.rule_texts.put_functions.Goals as goal

pub returns : goal.returns
returns c = pieces7 c.args.out.now _ _ _ _ _ _ _ c.in_ok-push.ensures.ok c.in_ok-put_symbol.ensures.ok c.in_ok-append.ensures.ok c.in_ok-put_decls.ensures c.in_ok-append-2.ensures.ok c.in_ok-put_defs.ensures c.in_ok-append-3.ensures.ok (functions_text c.args.signature.now c.args.rulebook.now)
