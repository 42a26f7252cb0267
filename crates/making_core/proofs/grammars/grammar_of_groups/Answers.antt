use Rattle.std.proofs.Common.{◌≡◌, ℕ, List, [], map, ap, ap₂, ◌∙◌}
use Rattle.sexpr_core.specs.declared.form.Sexpr.{Sexpr}
use Rattle.grammar_core.specs.declared.production.Nonterminal.{Nonterminal}
use Rattle.syntax_core.specs.declared.syntax.Pair.{Pair}
use Rattle.syntax_core.specs.Syntax.{items_at, nonterminals_of, pair_of}
use Rattle.making_core.specs.Fitting.{with_groups, with_nonterminals}
use Rattle.name_core.specs.Names.{names_in}
use Rattle.making_core.proofs.Filled.{grammar_made, group_productions}
use Rattle.making_core.proofs.grammars.grammar_of_groups.Goals as goal

pub returns : goal.returns
returns c =
    let sig = c.args.signature.now in
    let form = c.args.form.now in
    let pairs : List Pair = nonterminals_of form in
    let names : c.as_slice.result.now ≡ names_in pairs = c.as_slice.ensures ∙ c.in_ok-names.ensures ∙ ap (λ (fs : List Sexpr). names_in (map pair_of fs)) c.items_at.ensures in
    let begun : c.add_nonterminals.new.grammar ≡ with_nonterminals sig [] pairs =
    c.in_ok-add_nonterminals.ensures ∙ ap₂ (λ (g : List Nonterminal) (fs : List Sexpr). with_nonterminals sig g (map pair_of fs)) c.new-grammar.ensures.empty c.items_at-2.ensures in
    c.in_ok-add_groups.ensures
    ∙ ap (λ (g : List Nonterminal). with_groups g 0 (map (group_productions sig c.as_slice.result.now) c.items_at-3.result.now)) begun
    ∙ ap₂ (λ (ns : List (List ℕ)) (gs : List Sexpr). with_groups (with_nonterminals sig [] pairs) 0 (map (group_productions sig ns) gs)) names c.items_at-3.ensures
    ∙ grammar_made sig (names_in pairs) pairs (items_at 5 form) c.requires.as_many
