use Rattle.std.proofs.Common.{◌∷◌, ◌++◌, ◌∙◌, ap}
use Rattle.sig_core.specs.Names.{symbol_text}
use Rattle.problem_core.specs.Texts.{type_name}
use Rattle.problem_core.proofs.Forms.{synth_text}
use Rattle.problem_core.proofs.Loops.{pieces7}
use Rattle.problem_core.proofs.grammar_texts.put_synth.Goals as goal

pub returns : goal.returns
returns c = pieces7 c.args.out.now _ _ _ _ _ _ _ c.in_ok-push.ensures.ok c.in_ok-put_symbol.ensures.ok c.in_ok-put_next.ensures c.in_ok-append.ensures.ok
    (c.in_ok-put_next-2.ensures ∙ ap (λ name. c.append.new.self ++ 32 ∷ symbol_text name) (c.type_name.ensures ∙ ap (type_name c.args.signature.now) c.owner.ensures))
    c.in_ok-put_grammar.ensures c.in_ok-push-2.ensures.ok (synth_text c.args.signature.now c.args.grammar.now c.args.wanted.now)
