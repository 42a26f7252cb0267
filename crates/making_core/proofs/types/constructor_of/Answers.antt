use Rattle.std.proofs.Common.{◌≡◌, ℕ, List, map, ap, ap₂, ◌∙◌}
use Rattle.sig_core.specs.declared.ids.TypeId.{TypeId}
use Rattle.sig_core.specs.declared.signature.Constructor.{Constructor}
use Rattle.sexpr_core.specs.declared.form.Atom.{Atom}
use Rattle.sexpr_core.specs.declared.form.Sexpr.{Sexpr}
use Rattle.sexpr_core.specs.Access.{others_of}
use Rattle.syntax_core.specs.Syntax.{atom_of, name_of}
use Rattle.name_core.specs.Names.{texts}
use Rattle.sort_core.specs.Relations.{type_named}
use Rattle.making_core.proofs.Terms.{types_of_texts}
use Rattle.making_core.proofs.types.constructor_of.Goals as goal

pub returns : goal.returns
returns c =
    let sig = c.args.signature.now in
    let form = c.args.form.now in
    let make : List ℕ → List TypeId → Constructor = λ n ts. record { name = n; owner = c.args.owner; args = ts } in
    let f : Sexpr → TypeId = λ form. type_named sig (atom_of form).bytes in
    let name : c.in_ok-copy.field-0 ≡ (name_of form).bytes = c.in_ok-copy.ensures ∙ ap (λ (a : Atom). a.bytes) c.in_ok-name.ensures in
    let args : c.in_ok-types_of.field-0 ≡ map (type_named sig) (texts (map atom_of (others_of form))) =
    c.in_ok-types_of.ensures ∙ ap (map f) c.others_of.ensures ∙ types_of_texts sig (others_of form) in
    ap₂ make name args
