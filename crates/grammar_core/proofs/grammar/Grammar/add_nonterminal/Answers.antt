use Rattle.std.proofs.Common.{◌≡◌, ◌<◌, ◌∙◌, ◌∷◌, ◌++◌, [], None, length, nat_eq, is_some, ap, sym, subst, arith}
use Rattle.sig_core.specs.Names.{place_of}
use Rattle.grammar_core.specs.Grammars.{Nonterminal, names_of}
use Rattle.grammar_core.specs.Kept.{IsKept}
use Rattle.grammar_core.specs.Languages.{IsGrammarOf}
use Rattle.grammar_core.specs.Limits.{KeepsLimits}
use Rattle.grammar_core.specs.Marks.{with_place}
use Rattle.grammar_core.proofs.Keeping.{IsKept-with_nonterminal, KeepsLimits-with_nonterminal}
use Rattle.grammar_core.proofs.Naming.{absent}
use Rattle.grammar_core.proofs.OfSignature.{kept_with_nonterminal}
use Rattle.grammar_core.proofs.grammar.Grammar.add_nonterminal.Goals as goal

pub invariant_of-self-2 : goal.invariant_of-self-2
invariant_of-self-2 c =
    let grammar = c.self.inside.nonterminals.items in
    let count : c.len-2.result ≡ length grammar = c.len-2.ensures ∙ c.self.inside.nonterminals.ok.0 in
    let room : length grammar < 256 = omega (arith, c.len.ensures, c.self.inside.nonterminals.ok.0, c.if-len-ge256.false) in
    let nonterminals = c.in_ok-push_both.ensures.nonterminals ∙ ap (λ (n : Nonterminal). grammar ++ n ∷ []) c.in_ok-made.ensures in
    subst (λ marks. IsKept c.push_both.new.nonterminals.items c.self.inside.count marks) (sym c.in_ok-push_both.ensures.marks)
    (subst (λ g. IsKept g c.self.inside.count (with_place c.self.inside.marks (nat_eq c.len-2.result 0))) (sym nonterminals)
    (IsKept-with_nonterminal grammar c.self.inside.count c.self.inside.marks c.args.name.now c.args.owner (nat_eq c.len-2.result 0) c.self.invariant room (ap (λ k. nat_eq k 0) count)))

pub returns-clause-of_signature : goal.returns-clause-of_signature
returns-clause-of_signature c =
    let grammar = c.self.inside.nonterminals.items in
    let nonterminals = c.in_ok-push_both.ensures.nonterminals ∙ ap (λ (n : Nonterminal). grammar ++ n ∷ []) c.in_ok-made.ensures in
    λ sig all. subst (IsGrammarOf sig) (sym nonterminals) (kept_with_nonterminal sig grammar c.args.name.now c.args.owner c.self.invariant.fine.known (subst (IsGrammarOf sig) (sym c.self.view_is) all))

pub returns-clause-limits : goal.returns-clause-limits
returns-clause-limits c =
    let grammar = c.self.inside.nonterminals.items in
    let room : length grammar < 256 = omega (arith, c.len.ensures, c.self.inside.nonterminals.ok.0, c.if-len-ge256.false) in
    let fresh : place_of (names_of grammar) c.args.name.now ≡ None = absent (place_of (names_of grammar) c.args.name.now) (c.if-has_name.ensures ∙ ap (λ g. is_some (place_of (names_of g) c.args.name.now)) c.as_slice.ensures.value) in
    let nonterminals = c.in_ok-push_both.ensures.nonterminals ∙ ap (λ (n : Nonterminal). grammar ++ n ∷ []) c.in_ok-made.ensures in
    λ limits. subst KeepsLimits (sym nonterminals) (KeepsLimits-with_nonterminal grammar c.args.name.now c.args.owner fresh room (subst KeepsLimits (sym c.self.view_is) limits))
