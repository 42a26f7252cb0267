use Rattle.problem_core.proofs.Forms.{grammar_text}
use Rattle.problem_core.proofs.Loops.{pieces5}
use Rattle.problem_core.proofs.grammar_texts.put_nonterminals.Goals as goal

pub returns : goal.returns
returns c = pieces5 c.args.out.now _ _ _ _ _ c.in_ok-append.ensures.ok c.in_ok-put_names.ensures c.in_ok-append-2.ensures.ok c.in_ok-put_groups.ensures c.in_ok-push.ensures.ok (grammar_text c.args.signature.now c.args.grammar.now)
