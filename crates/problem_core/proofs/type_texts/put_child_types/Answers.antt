use Rattle.std.proofs.Common.{◌++◌, ◌∷◌, ◌∙◌, sym, ap}
use Rattle.sig_core.specs.Names.{symbol_text}
use Rattle.problem_core.specs.Texts.{next_text, symbol_form, type_name}
use Rattle.problem_core.proofs.Forms.{symbol}
use Rattle.problem_core.proofs.Loops.{one_more}
use Rattle.problem_core.proofs.type_texts.put_child_types.Goals as goal

pub loop-id-preserved : goal.loop-id-preserved
loop-id-preserved c =
    one_more (λ t. next_text (symbol_form (type_name c.args.signature.now t))) c.args.types.now c.loop-id.id-index _ c.args.out.now c.loop-id-test.true c.loop-id.invariant
    (c.in_ok-put_next.ensures ∙ ap (λ name. c.loop-id.out ++ 32 ∷ symbol_text name) c.type_name.ensures ∙ ap (λ text. c.loop-id.out ++ 32 ∷ text) (sym (symbol _)))
