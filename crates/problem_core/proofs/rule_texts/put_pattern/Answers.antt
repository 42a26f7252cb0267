use Rattle.std.proofs.Common.{◌≡◌, ◌++◌, ◌∙◌, length, ap, arith}
use Rattle.std.specs.List.{flat_map}
use Rattle.sig_core.specs.Names.{symbol_text}
use Rattle.problem_core.specs.Texts.{next_text, symbol_form}
use Rattle.problem_core.proofs.Forms.{pattern_applied}
use Rattle.problem_core.proofs.Loops.{pieces4}
use Rattle.problem_core.proofs.rule_texts.put_pattern.Goals as goal

pub returns : goal.returns
returns c =
    let some : length c.as_slice-kids.result.now ≡ 0 → ⊥ = grind (arith, c.is_empty.ensures, c.if-is_empty.false) in
    pieces4 c.args.out.now _ _ _ _ c.in_ok-push.ensures.ok (c.in_ok-put_symbol.ensures.ok ∙ ap (λ name. c.push.new.self ++ symbol_text name) c.constructor_name-name.ensures)
    (c.in_ok-put_kid_names.ensures ∙ ap (λ names. c.put_symbol-2.new.out ++ flat_map (λ name. next_text (symbol_form name)) names) c.as_slice-kids.ensures) c.in_ok-push-2.ensures.ok
    (pattern_applied c.args.signature.now c.args.rule.now (λ e. some (ap length c.as_slice-kids.ensures ∙ e)))
