use Rattle.std.proofs.Common.{ℕ, List, ◌∷◌, [], ◌++◌, ◌∙◌, map, ap, refl}
use Rattle.std.specs.List.{flat_map}
use Rattle.sig_core.specs.declared.signature.Param.{Param}
use Rattle.sig_core.specs.declared.value.Value.{Value}
use Rattle.sig_core.specs.Names.{symbol_text}
use Rattle.sexpr_core.specs.Texts.{form_text}
use Rattle.problem_core.specs.Texts.{constraint_form, literal_form, next_text, params_of, symbol_form, with_term}
use Rattle.problem_core.proofs.Forms.{constraint_text}
use Rattle.problem_core.proofs.Loops.{pieces2, pieces6}
use Rattle.problem_core.proofs.printing.put_constraint.Goals as goal

pub returns : goal.returns
returns c =
    let text : List Param → List Value → List ℕ = λ ps values. c.put_symbol-2.new.out ++ flat_map next_text (with_term (map (λ (p : Param). p.kind) ps) (symbol_form c.args.wanted.now) (map literal_form values)) in
    pieces2 c.args.out.now (form_text (constraint_form c.args.signature.now c.args.wanted.now c.args.constraint.now)) (10 ∷ [])
    (pieces6 c.args.out.now _ _ _ _ _ _ c.in_ok-push.ensures.ok c.in_ok-put_symbol.ensures.ok c.in_ok-append.ensures.ok
    (c.in_ok-put_symbol-2.ensures.ok ∙ ap (λ name. c.append.new.self ++ symbol_text name) c.relation_name.ensures)
    (c.in_ok-put_args.ensures ∙ ap (λ ps. text ps c.as_slice.result.now) c.params_of.ensures ∙ ap (λ values. text (params_of c.args.signature.now c.args.constraint.now.relation) values) c.as_slice.ensures)
    c.in_ok-append-2.ensures.ok (constraint_text c.args.signature.now c.args.wanted.now c.args.constraint.now))
    c.in_ok-push-2.ensures.ok refl
