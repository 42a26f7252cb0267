use Rattle.std.proofs.Common.{◌≡◌, ◌++◌, ◌∙◌, OnOk, length, sym, ap, subst, arith}
use Rattle.std.proofs.lemmas.Bool.{eqb-true}
use Rattle.sig_core.specs.Names.{symbol_text}
use Rattle.problem_core.specs.Texts.{next_text, symbol_form, type_name}
use Rattle.std.specs.List.{flat_map}
use Rattle.problem_core.proofs.Forms.{constructor_alone, constructor_applied}
use Rattle.problem_core.proofs.Loops.{pieces4}
use Rattle.problem_core.proofs.type_texts.put_constructor.Goals as goal

pub returns-then-is_empty : goal.returns-then-is_empty
returns-then-is_empty c =
    let none : length c.args.constructor.now.args ≡ 0 = ap length (sym c.as_slice-types.ensures) ∙ eqb-true (length c.as_slice-types.result.now) 0 (sym c.is_empty.ensures ∙ c.if-is_empty.true) in
    subst (λ text. OnOk c.put_symbol.result (c.put_symbol.new.out ≡ c.args.out.now ++ text))
    (ap symbol_text c.as_slice.ensures ∙ sym (constructor_alone c.args.signature.now c.args.constructor.now none)) c.put_symbol.ensures.ok

pub returns : goal.returns
returns c =
    let some : length c.as_slice-types.result.now ≡ 0 → ⊥ = grind (arith, c.is_empty.ensures, c.if-is_empty.false) in
    pieces4 c.args.out.now _ _ _ _ c.in_ok-push.ensures.ok (c.in_ok-put_symbol.ensures.ok ∙ ap (λ name. c.push.new.self ++ symbol_text name) c.as_slice-2.ensures)
    (c.in_ok-put_child_types.ensures ∙ ap (λ types. c.put_symbol-2.new.out ++ flat_map (λ t. next_text (symbol_form (type_name c.args.signature.now t))) types) c.as_slice-types.ensures) c.in_ok-push-2.ensures.ok
    (constructor_applied c.args.signature.now c.args.constructor.now (λ e. some (ap length c.as_slice-types.ensures ∙ e)))
