use Rattle.std.proofs.Common.{◌≡◌, ◌++◌, ◌∙◌, length, map, ap, arith}
use Rattle.sexpr_core.specs.Texts.{form_text, joined}
use Rattle.problem_core.specs.Texts.{atoms_form, var_form}
use Rattle.problem_core.proofs.Forms.{exists_text}
use Rattle.problem_core.proofs.Loops.{pieces7}
use Rattle.problem_core.proofs.rule_texts.put_body.Goals as goal

pub returns : goal.returns
returns c =
    let some : length c.as_slice-vars.result.now ≡ 0 → ⊥ = grind (arith, c.is_empty.ensures, c.if-is_empty.false) in
    pieces7 c.args.out.now _ _ _ _ _ _ _ c.in_ok-push.ensures.ok c.in_ok-put_symbol.ensures.ok c.in_ok-append.ensures.ok
    (c.in_ok-put_vars.ensures ∙ ap (λ vars. c.append.new.self ++ joined (map form_text (map var_form vars))) c.as_slice-vars.ensures)
    c.in_ok-append-2.ensures.ok c.in_ok-put_atoms.ensures c.in_ok-push-2.ensures.ok
    (exists_text c.args.rule.now.more (atoms_form c.args.signature.now c.args.rule.now) (λ e. some (ap length c.as_slice-vars.ensures ∙ e)))
