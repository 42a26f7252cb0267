use Rattle.std.proofs.Common.{ℕ, List, ◌++◌, ◌∙◌, map, ap}
use Rattle.std.specs.List.{flat_map}
use Rattle.sig_core.specs.declared.signature.Param.{Param}
use Rattle.sig_core.specs.Names.{symbol_text}
use Rattle.sig_core.specs.Signatures.{woven}
use Rattle.expr_core.specs.declared.expr.Expr.{Expr}
use Rattle.problem_core.specs.Texts.{expr_form, next_text, params_of, symbol_form, who_name, with_term}
use Rattle.problem_core.proofs.Forms.{call_text}
use Rattle.problem_core.proofs.Loops.{pieces4}
use Rattle.problem_core.proofs.atom_texts.put_call.Goals as goal

pub returns : goal.returns
returns c =
    let sig = c.args.signature.now in
    let call = c.args.call.now in
    let kinds = map (λ (p : Param). p.kind) in
    let form = expr_form sig c.args.rule.now in
    let text : List Param → List ℕ → List Expr → List Expr → List ℕ = λ ps term inputs outputs. c.put_symbol.new.out ++ flat_map next_text (with_term (kinds ps) (symbol_form term) (map form (woven (kinds ps) inputs outputs))) in
    let params = params_of sig call.relation in
    let who = who_name sig c.args.rule.now call.who in
    pieces4 c.args.out.now _ _ _ _ c.in_ok-push.ensures.ok (c.in_ok-put_symbol.ensures.ok ∙ ap (λ name. c.push.new.self ++ symbol_text name) c.relation_name.ensures)
    (c.in_ok-put_args.ensures ∙ ap (λ ps. text ps c.who_name-term.result.now c.as_slice.result.now c.as_slice-2.result.now) c.params_of.ensures
    ∙ ap (λ term. text params term c.as_slice.result.now c.as_slice-2.result.now) c.who_name-term.ensures
    ∙ ap (λ inputs. text params who inputs c.as_slice-2.result.now) c.as_slice.ensures ∙ ap (λ outputs. text params who call.inputs outputs) c.as_slice-2.ensures)
    c.in_ok-push-2.ensures.ok (call_text sig c.args.rule.now call)
