use Rattle.std.proofs.Common.{◌≡◌, ◌++◌, ◌∙◌, length, ap, arith}
use Rattle.std.specs.List.{flat_map}
use Rattle.sig_core.specs.Names.{symbol_text}
use Rattle.grammar_core.specs.Grammars.{nonterminal_at}
use Rattle.problem_core.specs.Texts.{next_text, symbol_form}
use Rattle.problem_core.proofs.Forms.{production_applied}
use Rattle.problem_core.proofs.Loops.{pieces4}
use Rattle.problem_core.proofs.grammar_texts.put_production.Goals as goal

pub returns : goal.returns
returns c =
    let some : length c.as_slice-args.result.now ≡ 0 → ⊥ = grind (arith, c.is_empty.ensures, c.if-is_empty.false) in
    pieces4 c.args.out.now _ _ _ _ c.in_ok-push.ensures.ok (c.in_ok-put_symbol.ensures.ok ∙ ap (λ name. c.push.new.self ++ symbol_text name) c.constructor_name-name.ensures)
    (c.in_ok-put_children.ensures ∙ ap (λ args. c.put_symbol-2.new.out ++ flat_map (λ n. next_text (symbol_form (nonterminal_at c.args.grammar.now n).name)) args) c.as_slice-args.ensures) c.in_ok-push-2.ensures.ok
    (production_applied c.args.signature.now c.args.grammar.now c.args.production.now (λ e. some (ap length c.as_slice-args.ensures ∙ e)))
