use Rattle.std.proofs.Common.{◌++◌, ◌∷◌, ◌∙◌, sym, ap}
use Rattle.sig_core.specs.Names.{symbol_text}
use Rattle.problem_core.specs.Texts.{next_text, symbol_form}
use Rattle.problem_core.proofs.Forms.{symbol}
use Rattle.problem_core.proofs.Loops.{one_more}
use Rattle.problem_core.proofs.rule_texts.put_kid_names.Goals as goal

pub loop-name-preserved : goal.loop-name-preserved
loop-name-preserved c =
    one_more (λ name. next_text (symbol_form name)) c.args.names.now c.loop-name.name-index c.name-item.result c.args.out.now c.loop-name-test.true c.loop-name.invariant
    (c.in_ok-put_next.ensures ∙ ap (λ name. c.loop-name.out ++ 32 ∷ symbol_text name) (c.as_slice.ensures ∙ c.name-item.is) ∙ ap (λ text. c.loop-name.out ++ 32 ∷ text) (sym (symbol _)))
