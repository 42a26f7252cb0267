use Rattle.std.proofs.Common.{◌≡◌, ◌<◌, ◌∙◌, [], All, ap, sym, subst}
use Rattle.std.specs.Cmp.Lexicographic.{bytes_decides}
use Rattle.std.proofs.lemmas.List.{get_or-map, length-map, take_all}
use Rattle.std.proofs.lemmas.List.Elements.{All-more}
use Rattle.grammar_core.specs.Grammars.{blank, names_of, Nonterminal}
use Rattle.grammar_core.proofs.Naming.{stands, stands_not, not_both}
use Rattle.grammar_core.proofs.parts.has_name.Goals as goal

pub returns-then-eq : goal.returns-then-eq
returns-then-eq c =
    let grammar = c.args.grammar.now in
    let item = c.nonterminal-item.result in
    let k = c.loop-nonterminal.nonterminal-index in
    let name = get_or-map (λ (n : Nonterminal). n.name) grammar k item [] c.loop-nonterminal-test.true ∙ ap (λ (n : Nonterminal). n.name) (sym c.nonterminal-item.is) ∙ sym c.as_slice.ensures in
    stands (names_of grammar) c.args.name.now k (subst (λ n. k < n) (sym (length-map grammar (λ (n : Nonterminal). n.name))) c.loop-nonterminal-test.true) (name ∙ (bytes_decides c.as_slice.result.now c.args.name.now).0 (sym c.if-eq.ensures))

pub loop-nonterminal-preserved : goal.loop-nonterminal-preserved
loop-nonterminal-preserved c =
    All-more (λ n. n.name ≡ c.args.name.now → ⊥) c.args.grammar.now c.loop-nonterminal.nonterminal-index c.nonterminal-item.result c.loop-nonterminal-test.true c.loop-nonterminal.invariant
    (λ e. not_both (sym c.if-eq.ensures) ((bytes_decides c.as_slice.result.now c.args.name.now).1 (c.as_slice.ensures ∙ ap (λ (n : Nonterminal). n.name) c.nonterminal-item.is ∙ e)))

pub returns : goal.returns
returns c =
    let grammar = c.args.grammar.now in
    let all = subst (All (λ (n : Nonterminal). n.name ≡ c.args.name.now → ⊥)) (take_all c.loop-nonterminal.nonterminal-index grammar c.loop-nonterminal-test.false) c.loop-nonterminal.invariant in
    stands_not (names_of grammar) c.args.name.now (λ k h e.
    (let within = subst (λ n. k < n) (length-map grammar (λ (n : Nonterminal). n.name)) h in
    all k blank within (sym (get_or-map (λ (n : Nonterminal). n.name) grammar k blank [] within) ∙ e)))
