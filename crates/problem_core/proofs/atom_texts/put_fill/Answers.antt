use Rattle.std.proofs.Common.{◌++◌, ◌∷◌, ◌∙◌, ap}
use Rattle.sig_core.specs.Names.{symbol_text}
use Rattle.problem_core.proofs.Forms.{fill_text}
use Rattle.problem_core.proofs.Loops.{pieces6}
use Rattle.problem_core.proofs.atom_texts.put_fill.Goals as goal

pub returns : goal.returns
returns c = pieces6 c.args.out.now _ _ _ _ _ _ c.in_ok-push.ensures.ok (c.in_ok-put_symbol.ensures.ok ∙ ap (λ name. c.push.new.self ++ symbol_text name) c.name_of.ensures)
    (c.in_ok-put_next.ensures ∙ ap (λ name. c.put_symbol.new.out ++ 32 ∷ symbol_text name) c.slot_name.ensures)
    c.in_ok-push-2.ensures.ok c.in_ok-put_expr.ensures c.in_ok-push-3.ensures.ok (fill_text c.args.signature.now c.args.rule.now c.args.slot c.args.e.now)
