-- What declarations declare.
use Rattle.std.specs.Prelude.{ℕ, if◌then◌else◌, Option, option_map, option_and_then, List, ◌++◌, map, slice_get, codes}
use Rattle.std.specs.List.{find}
use Rattle.sig_core.specs.declared.ids.TypeId.{TypeId}
use Rattle.sig_core.specs.declared.signature.Constructor.{Constructor}
use Rattle.sig_core.specs.declared.signature.Kind.{Kind}
use Rattle.sig_core.specs.declared.signature.Kind.TheVariants.{Term, Input, Output}
use Rattle.sig_core.specs.declared.signature.Param.{Param}
use Rattle.sig_core.specs.declared.signature.Relation.{Relation}
use Rattle.sig_core.specs.declared.value.Sort.{Sort}
use Rattle.sig_core.specs.declared.value.Sort.TheVariants as sort
use Rattle.sig_core.specs.Names.{same_name}
use Rattle.sig_core.specs.Signatures.{Declarations}
use Rattle.sexpr_core.specs.declared.form.Atom.{Atom}
use Rattle.syntax_core.specs.declared.syntax.Function.{Function}
use Rattle.syntax_core.specs.declared.syntax.Pair.{Pair}
use Rattle.name_core.specs.Names.{has, is_plain, texts}
use Rattle.sort_core.specs.Opens.{number_named}

abbrev pub type_named : Declarations → List ℕ → TypeId
type_named sig name = record { 0 = number_named sig.types name }

-- `Int`, or else Bool
abbrev pub sort_named : List ℕ → Sort
sort_named name = if same_name (codes "Int") name then sort.Int else sort.Bool

-- the name of the sort or type that the pair with this name has
abbrev pub sort_of_pair : List Pair → List ℕ → Option (List ℕ)
sort_of_pair pairs name = option_map (λ pair. pair.sort.bytes) (find (λ pair. same_name pair.name.bytes name) pairs)

-- the type of the k-th child of a constructor
abbrev pub child_type : Option Constructor → ℕ → Option TypeId
child_type con k = option_and_then (λ c. slice_get c.args k) con

-- a parameter is a term, or an input where `:input` has it, or else an output
abbrev pub kind_of : Declarations → List Atom → Pair → Kind
kind_of sig inputs pair =
    if is_plain pair then (if has (texts inputs) pair.name.bytes then Input (sort_named pair.sort.bytes) else Output (sort_named pair.sort.bytes))
    else Term (type_named sig pair.sort.bytes)

abbrev pub param_of : Declarations → List Atom → Pair → Param
param_of sig inputs pair = record { name = pair.name.bytes; kind = kind_of sig inputs pair }

abbrev pub relation_of : Declarations → Function → Relation
relation_of sig f = record { name = f.declaration.name.bytes; params = map (param_of sig f.definition.inputs) f.declaration.params }

-- the signature with the relations of these functions
abbrev pub declared_with : Declarations → List Function → Declarations
declared_with sig functions = record sig { relations = sig.relations ++ map (relation_of sig) functions }
