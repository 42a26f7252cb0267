use Rattle.std.proofs.Common.{List, ◌++◌, map, ap₂, ◌∙◌}
use Rattle.std.specs.List.{flat_map}
use Rattle.sexpr_core.specs.declared.form.Atom.{Atom}
use Rattle.sig_core.specs.WellFormed.{constructor_names}
use Rattle.syntax_core.specs.declared.syntax.Pattern.{Pattern}
use Rattle.name_core.specs.Faults.{first, found}
use Rattle.name_core.specs.Names.{sort_names, taken_name, texts, unknown_name}
use Rattle.name_core.proofs.type_names.types_name.Goals as goal

pub returns : goal.returns
returns c =
    c.declared_name.ensures
    ∙ ap₂ (λ (types : List Atom) (cons : List Pattern). first (found (λ (before : List Atom) (name : Atom). taken_name (c.args.signature.now.types ++ texts before ++ sort_names) name) types
    ++ found (λ (before : List Pattern) (con : Pattern). taken_name (constructor_names c.args.signature.now.constructors ++ map (λ (k : Pattern). k.name.bytes) before) con.name
    ++ flat_map (unknown_name (c.args.signature.now.types ++ texts types)) con.variables) cons)) c.in_ok-types.ensures c.in_ok-constructors.ensures
