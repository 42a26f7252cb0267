use Rattle.std.proofs.Common.{◌≡◌, ℕ, List, ap, ◌∙◌}
use Rattle.sig_core.specs.declared.ids.TypeId.{TypeId}
use Rattle.sexpr_core.specs.declared.form.Atom.{Atom}
use Rattle.sexpr_core.specs.Access.{item_of}
use Rattle.grammar_core.specs.declared.production.Nonterminal.{Nonterminal}
use Rattle.syntax_core.specs.Syntax.{atom_of}
use Rattle.making_core.specs.Making.{grammar_of}
use Rattle.sort_core.specs.Relations.{type_named}
use Rattle.name_core.specs.States.{Wanted}
use Rattle.state_core.proofs.wanting.wanted_of.Goals as goal

pub grammar_of-requires-clause-owner : goal.grammar_of-requires-clause-owner
grammar_of-requires-clause-owner c =
    c.type_named-owner.ensures ∙ ap (type_named c.args.signature.now) (c.as_slice.ensures ∙ ap (λ (a : Atom). a.bytes) (c.in_ok-found.ensures ∙ ap atom_of c.item_of-2.ensures))

pub returns : goal.returns
returns c =
    let sig = c.args.signature.now in
    let form = c.args.form.now in
    let make : List ℕ → TypeId → List Nonterminal → Wanted = λ n t g. record { name = n; type = t; grammar = g } in
    let name : c.in_ok-copy.field-0 ≡ (atom_of (item_of 1 form)).bytes = c.in_ok-copy.ensures ∙ ap (λ (a : Atom). a.bytes) (c.in_ok-name.ensures ∙ ap atom_of c.item_of.ensures) in
    let owner : c.type_named-owner.result ≡ type_named sig (atom_of (item_of 3 form)).bytes =
    c.type_named-owner.ensures ∙ ap (type_named sig) (c.as_slice.ensures ∙ ap (λ (a : Atom). a.bytes) (c.in_ok-found.ensures ∙ ap atom_of c.item_of-2.ensures)) in
    let grammar : c.in_ok-grammar_of.field-0 ≡ grammar_of sig form = c.in_ok-grammar_of.ensures in
    ap (λ n. make n c.type_named-owner.result c.in_ok-grammar_of.field-0) name ∙ ap (λ t. make (atom_of (item_of 1 form)).bytes t c.in_ok-grammar_of.field-0) owner
    ∙ ap (λ g. make (atom_of (item_of 1 form)).bytes (type_named sig (atom_of (item_of 3 form)).bytes) g) grammar
