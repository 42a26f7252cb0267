use Rattle.std.proofs.Common.{◌∙◌, map, take, ap, sym, subst, arith}
use Rattle.grammar_core.specs.declared.ids.NtId.{NtId}
use Rattle.grammar_core.specs.declared.production.Production.{Production}
use Rattle.grammar_core.specs.Grammars.{IsKnown}
use Rattle.grammar_core.specs.Refusals.{with_production}
use Rattle.grammar_core.specs.Whole.{nonterminal_for}
use Rattle.grammar_core.proofs.Filling.{constructor_of, fill_more, number_known, production_of}
use Rattle.grammar_core.proofs.Keeping.{written}
use Rattle.grammar_core.proofs.whole.fill.Goals as goal

pub index_mut-nonterminal-requires : goal.index_mut-nonterminal-requires
index_mut-nonterminal-requires c =
    let sig = c.args.signature.now in
    let con = c.constructor-constructor.result.now in
    let fine = constructor_of sig c.constructors-k-end.ensures.well_formed c.loop-k.k con c.constructor-constructor.ensures in
    let known : IsKnown c.loop-k.nonterminals.items (nonterminal_for c.args.first con.owner) = subst (λ g. IsKnown g (nonterminal_for c.args.first con.owner)) (sym c.loop-k.invariant) (number_known sig c.args.first con.owner (take c.loop-k.k sig.constructors) c.requires.declared fine.owner) in
    let at = c.from-place.ensures ∙ ap (λ (m : NtId). m.0) c.nonterminal_for.ensures in
    omega (arith, known, at, c.loop-k.nonterminals.ok.0)

pub loop-k-preserved : goal.loop-k-preserved
loop-k-preserved c =
    let sig = c.args.signature.now in
    let con = c.constructor-constructor.result.now in
    let items = c.loop-k.nonterminals.items in
    let n : NtId = nonterminal_for c.args.first con.owner in
    let p : Production = production_of c.args.first c.loop-k.k con in
    let fine = constructor_of sig c.constructors-k-end.ensures.well_formed c.loop-k.k con c.constructor-constructor.ensures in
    let known : IsKnown items n = subst (λ g. IsKnown g n) (sym c.loop-k.invariant) (number_known sig c.args.first con.owner (take c.loop-k.k sig.constructors) c.requires.declared fine.owner) in
    let made = c.in_ok-made.ensures ∙ ap (λ ts. record { con = record { 0 = c.loop-k.k }; args = map (nonterminal_for c.args.first) ts }) c.as_slice.ensures in
    let at = c.from-place.ensures ∙ ap (λ (m : NtId). m.0) c.nonterminal_for.ensures in
    written items n c.from-place.result c.index_mut-nonterminal.result.now p c.in_ok-made.made c.push.new.self known at c.index_mut-nonterminal.ensures.value made c.in_ok-push.ensures.ok
    ∙ ap (λ g. with_production g n p) c.loop-k.invariant ∙ sym (fill_more sig c.args.first c.requires.declared c.constructors-k-end.ensures.well_formed c.loop-k.k con c.constructor-constructor.ensures)
