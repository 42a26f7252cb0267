use Rattle.std.proofs.Common.{◌≡◌, map, ap, ap₂, ◌∙◌}
use Rattle.sexpr_core.specs.declared.form.Atom.{Atom}
use Rattle.sexpr_core.specs.declared.form.Sexpr.{Sexpr}
use Rattle.sexpr_core.specs.Access.{others_of}
use Rattle.grammar_core.specs.declared.ids.NtId.{NtId}
use Rattle.grammar_core.specs.Refusals.{production_refusal}
use Rattle.syntax_core.specs.Syntax.{atom_of, name_of}
use Rattle.sort_core.specs.Branches.{constructor_named}
use Rattle.sort_core.specs.Opens.{number_named}
use Rattle.making_core.proofs.NextItems.{where_none}
use Rattle.making_core.proofs.grammars.add_production.Goals as goal

pub want_of_memory-requires : goal.want_of_memory-requires
want_of_memory-requires c =
    let sig = c.args.signature.now in
    let child : Sexpr → NtId = λ arg. record { 0 = number_named c.args.nonterminals.now (atom_of arg).bytes } in
    let con : c.constructor_named-con.result ≡ constructor_named sig (name_of c.args.form.now).bytes =
    c.constructor_named-con.ensures ∙ ap (constructor_named sig) (c.as_slice.ensures ∙ ap (λ (a : Atom). a.bytes) c.in_ok-name.ensures) in
    let args : c.as_slice-2.result.now ≡ map child (others_of c.args.form.now) = c.as_slice-2.ensures ∙ c.in_ok-args.ensures ∙ ap (map child) c.others_of.ensures in
    where_none _ (ap₂ (λ k ks. production_refusal c.args.grammar.now sig c.args.nt k ks) con args ∙ c.requires.fits.accepted) c.in-Err.ensures.accepted
