use Rattle.std.proofs.Common.{◌∷◌, ◌++◌, ◌∙◌, map, ap}
use Rattle.sig_core.specs.Names.{symbol_text}
use Rattle.sexpr_core.specs.Texts.{form_text, joined}
use Rattle.grammar_core.specs.Grammars.{nonterminal_at}
use Rattle.problem_core.specs.Texts.{production_form, type_name}
use Rattle.problem_core.proofs.Forms.{productions_text}
use Rattle.problem_core.proofs.Loops.{pieces6}
use Rattle.problem_core.proofs.grammar_texts.put_group.Goals as goal

pub returns : goal.returns
returns c = pieces6 c.args.out.now _ _ _ _ _ _ c.in_ok-push.ensures.ok
    (c.in_ok-put_symbol.ensures.ok ∙ ap (λ name. c.push.new.self ++ symbol_text name) (c.as_slice.ensures ∙ c.name.ensures))
    (c.in_ok-put_next.ensures ∙ ap (λ name. c.put_symbol.new.out ++ 32 ∷ symbol_text name) (c.type_name.ensures ∙ ap (type_name c.args.signature.now) c.owner.ensures))
    c.in_ok-append.ensures.ok
    (c.in_ok-put_productions.ensures ∙ ap (λ ps. c.append.new.self ++ joined (map form_text (map (production_form c.args.signature.now c.args.grammar.now) ps))) c.productions.ensures)
    c.in_ok-append-2.ensures.ok (productions_text c.args.signature.now c.args.grammar.now (nonterminal_at c.args.grammar.now c.args.nt))
