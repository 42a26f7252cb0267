use Rattle.std.proofs.Common.{◌++◌, ◌∙◌, map, ap}
use Rattle.sexpr_core.specs.Texts.{form_text, joined}
use Rattle.sig_core.specs.Names.{symbol_text}
use Rattle.problem_core.specs.Texts.{param_form}
use Rattle.problem_core.proofs.Forms.{decl_text}
use Rattle.problem_core.proofs.Loops.{pieces7}
use Rattle.problem_core.proofs.rule_texts.put_decl.Goals as goal

pub returns : goal.returns
returns c = pieces7 c.args.out.now _ _ _ _ _ _ _ c.in_ok-push.ensures.ok (c.in_ok-put_symbol.ensures.ok ∙ ap (λ n. c.push.new.self ++ symbol_text n) c.as_slice.ensures) c.in_ok-append.ensures.ok
    (c.in_ok-put_params.ensures ∙ ap (λ ps. c.append.new.self ++ joined (map form_text (map (param_form c.args.signature.now) ps))) c.as_slice-2.ensures)
    c.in_ok-push-2.ensures.ok c.in_ok-put_next.ensures c.in_ok-push-3.ensures.ok (decl_text c.args.signature.now c.args.relation.now)
