use Rattle.std.proofs.Common.{◌++◌, ◌∙◌, ap}
use Rattle.sexpr_core.specs.Texts.{form_text}
use Rattle.rule_core.specs.Rulebooks.{rules_of}
use Rattle.problem_core.specs.Texts.{is_input, is_output, names_form, names_where, params_of}
use Rattle.problem_core.proofs.Forms.{def_text}
use Rattle.problem_core.proofs.Loops.{pieces9}
use Rattle.problem_core.proofs.rule_texts.put_def.Goals as goal

pub returns : goal.returns
returns c = pieces9 c.args.out.now _ _ _ _ _ _ _ _ _ c.in_ok-push.ensures.ok c.in_ok-put_symbol.ensures.ok c.in_ok-push-2.ensures.ok c.in_ok-put_match.ensures
    c.in_ok-append.ensures.ok (c.in_ok-put_names.ensures ∙ ap (λ params. c.append.new.self ++ form_text (names_form (names_where is_input params))) c.params_of-params.ensures)
    c.in_ok-append-2.ensures.ok (c.in_ok-put_names-2.ensures ∙ ap (λ params. c.append-2.new.self ++ form_text (names_form (names_where is_output params))) c.params_of-params.ensures)
    c.in_ok-push-3.ensures.ok (def_text c.args.signature.now (params_of c.args.signature.now c.args.relation) (rules_of c.args.rulebook.now c.args.relation))
