use Rattle.std.proofs.Common.{◌≡◌, subst, take, sym, refl, ◌∙◌}
use Rattle.std.proofs.lemmas.List.{take_all}
use Rattle.std.proofs.lemmas.List.Elements.{All-more, All-same}
use Rattle.rule_core.specs.Flow.{TakesInputs}
use Rattle.rule_core.proofs.handing.rule_hands_on.Goals as goal

pub loop-atom-preserved : goal.loop-atom-preserved
loop-atom-preserved c =
    let takes = TakesInputs c.args.signature.now c.args.rule.now c.args.child in
    let here = c.atom_hands_on.ensures.0 c.if-not-atom_hands_on.false in
    All-more takes c.as_slice-atom-items.result.now c.loop-atom.atom-index c.atom-item.result c.loop-atom-test.true c.loop-atom.invariant (subst takes c.atom-item.is here)

pub returns : goal.returns
returns c =
    let takes = TakesInputs c.args.signature.now c.args.rule.now c.args.child in
    let items = c.as_slice-atom-items.result.now in
    let whole : c.args.rule.now.atoms ≡ take c.loop-atom.atom-index items = sym c.as_slice-atom-items.ensures ∙ sym (take_all c.loop-atom.atom-index items c.loop-atom-test.false) in
    (λ _. All-same takes c.args.rule.now.atoms (take c.loop-atom.atom-index items) whole c.loop-atom.invariant, λ _. refl)
