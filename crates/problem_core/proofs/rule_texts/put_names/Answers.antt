use Rattle.problem_core.specs.Texts.{names_where}
use Rattle.problem_core.specs.Modes.{is_of}
use Rattle.problem_core.proofs.Forms.{names_text}
use Rattle.problem_core.proofs.Loops.{pieces3}
use Rattle.problem_core.proofs.rule_texts.put_names.Goals as goal

pub returns : goal.returns
returns c = pieces3 c.args.out.now _ _ _ c.in_ok-push.ensures.ok c.in_ok-put_names_of_mode.ensures c.in_ok-push-2.ensures.ok (names_text (names_where (is_of c.args.mode) c.args.params.now))
