use Rattle.std.proofs.Common.{◌+◌, ◌++◌, ◌∷◌, [], ◌∙◌, sym, ap}
use Rattle.std.specs.List.{flat_map}
use Rattle.sig_core.specs.Names.{symbol_text}
use Rattle.sexpr_core.specs.Texts.{form_text}
use Rattle.expr_core.specs.Names.{operator_name}
use Rattle.problem_core.specs.Texts.{expr_form, next_text}
use Rattle.problem_core.proofs.Forms.{operation_text}
use Rattle.problem_core.proofs.expr_texts.+put_expr.Goals as goal

pub put_expr-returns-in_ok-put_operation-in-Apply : goal.put_expr-returns-in_ok-put_operation-in-Apply
put_expr-returns-in_ok-put_operation-in-Apply t c =
    let form = expr_form c.args.signature.now c.args.rule.now in
    c.in_ok-put_operation-in-Apply.ensures
    ∙ ap (λ kids. c.args.out.now ++ 40 ∷ (symbol_text (operator_name c.in-Apply.op) ++ (flat_map (λ e. next_text (form e)) kids ++ 41 ∷ []))) c.as_slice.ensures
    ∙ ap (λ text. c.args.out.now ++ text) (sym (ap (λ e. form_text (form e)) c.in-Apply.is ∙ operation_text c.args.signature.now c.args.rule.now c.in-Apply.op c.in-Apply.kids))
