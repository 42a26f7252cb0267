use Rattle.std.proofs.Common.{◌≡◌, ◌++◌, [], ◌∷◌, ◌+◌, map, drop, ap, ◌∙◌}
use Rattle.sexpr_core.specs.declared.form.Atom.{Atom}
use Rattle.sexpr_core.specs.declared.form.Sexpr.{Sexpr}
use Rattle.grammar_core.specs.declared.ids.NtId.{NtId}
use Rattle.syntax_core.specs.Syntax.{atom_of}
use Rattle.sort_core.specs.Opens.{number_named}
use Rattle.sort_core.proofs.Dues.{made_more}
use Rattle.making_core.proofs.grammars.children_of.Goals as goal

pub loop-form-preserved : goal.loop-form-preserved
loop-form-preserved c =
    let child : Sexpr → NtId = λ arg. record { 0 = number_named c.args.nonterminals.now (atom_of arg).bytes } in
    let xs = c.args.forms.now in
    let i = c.loop-form.form-index in
    let named : c.nonterminal_named.result ≡ child c.form-item.result =
    c.nonterminal_named.ensures ∙ ap (λ n. record { 0 = number_named c.args.nonterminals.now n }) (c.as_slice.ensures ∙ ap (λ (a : Atom). a.bytes) c.in_ok-name.ensures) in
    ap (λ o. o ++ map child (drop (i + 1) xs)) (c.in_ok-push.ensures.ok ∙ ap (λ m. c.loop-form.made ++ m ∷ []) named)
    ∙ made_more child c.loop-form.made xs i c.form-item.result _ c.loop-form-test.true c.form-item.is c.loop-form.invariant
