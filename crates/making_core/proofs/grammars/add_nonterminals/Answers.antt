use Rattle.std.proofs.Common.{◌+◌, List, map, drop, sym, ap, subst, ◌∙◌}
use Rattle.grammar_core.specs.declared.production.Nonterminal.{Nonterminal}
use Rattle.syntax_core.specs.declared.syntax.Pair.{Pair}
use Rattle.syntax_core.specs.Syntax.{pair_of}
use Rattle.making_core.specs.Fitting.{NonterminalsFit, with_nonterminals}
use Rattle.making_core.proofs.NextItems.{next_made}
use Rattle.making_core.proofs.grammars.add_nonterminals.Goals as goal

pub add_nonterminal-requires : goal.add_nonterminal-requires
add_nonterminal-requires c =
    let P : List Pair → Type 0 = NonterminalsFit c.args.signature.now c.loop-form.grammar in
    (subst P (next_made pair_of c.args.forms.now c.loop-form.form-index c.form-item.result c.loop-form-test.true c.form-item.is) c.loop-form.invariant.1).0

pub loop-form-preserved : goal.loop-form-preserved
loop-form-preserved c =
    let sig = c.args.signature.now in
    let rest : List Pair = map pair_of (drop (c.loop-form.form-index + 1) c.args.forms.now) in
    let P : List Pair → Type 0 = NonterminalsFit sig c.loop-form.grammar in
    let Q : List Nonterminal → Type 0 = λ g. NonterminalsFit sig g rest in
    let next = next_made pair_of c.args.forms.now c.loop-form.form-index c.form-item.result c.loop-form-test.true c.form-item.is in
    let added = c.in_ok-add_nonterminal.ensures in (
      ap (λ g. with_nonterminals sig g rest) added ∙ sym (ap (with_nonterminals sig c.loop-form.grammar) next) ∙ c.loop-form.invariant.0,
      subst Q (sym added) (subst P next c.loop-form.invariant.1).1,
    )
