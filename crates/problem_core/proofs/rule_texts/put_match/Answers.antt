use Rattle.std.proofs.Common.{◌++◌, ◌∷◌, ◌∙◌, ap}
use Rattle.sig_core.specs.Names.{symbol_text}
use Rattle.problem_core.specs.Texts.{term_name}
use Rattle.problem_core.proofs.Forms.{match_text}
use Rattle.problem_core.proofs.Loops.{pieces6}
use Rattle.rule_core.specs.Rulebooks.{rules_of}
use Rattle.problem_core.proofs.rule_texts.put_match.Goals as goal

pub returns : goal.returns
returns c = pieces6 c.args.out.now _ _ _ _ _ _ c.in_ok-push.ensures.ok c.in_ok-put_symbol.ensures.ok
    (c.in_ok-put_next.ensures ∙ ap (λ name. c.put_symbol.new.out ++ 32 ∷ symbol_text name) (c.term_name.ensures ∙ ap term_name c.params_of.ensures))
    c.in_ok-append.ensures.ok c.in_ok-put_cases.ensures c.in_ok-append-2.ensures.ok (match_text c.args.signature.now _ (rules_of c.args.rulebook.now c.args.relation))
