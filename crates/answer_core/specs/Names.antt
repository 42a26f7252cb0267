-- The nodes of a form that are wrong by their names: a constructor or a relation that is unknown, at its symbol, and a
-- constructor whose children are of a wrong number or type, at the term or at the form of the node.
use Rattle.std.specs.Prelude.{ℕ, zero, suc, Bool, true, not, nat_lt, if◌then◌else◌, Option, Some, None, is_none, option_map, option_and_then, List, [], ◌∷◌, ◌++◌, map, drop, slice_get}
use Rattle.std.specs.List.{flat_map}
use Rattle.std.specs.Option.{option_map_or}
use lib.Pointwise.{pointwise}
use Rattle.sig_core.specs.declared.ids.TypeId.{TypeId}
use Rattle.sig_core.specs.declared.ids.ConId.{ConId}
use Rattle.sig_core.specs.declared.ids.RelId.{RelId}
use Rattle.sig_core.specs.declared.signature.Constructor.{Constructor}
use Rattle.sig_core.specs.Names as names
use Rattle.sig_core.specs.Signatures.{Declarations, owner_of}
use Rattle.sig_core.specs.WellFormed.{constructor_names, relation_names}
use Rattle.term_core.specs.declared.tree.Tree.{Tree}
use Rattle.term_core.specs.Terms.{type_of}
use Rattle.grammar_core.specs.Refusals.{same_type}
use Rattle.sexpr_core.specs.declared.form.Sexpr.{Sexpr}
use Rattle.sexpr_core.specs.Access.{place_of, parts_of, item_of, others_of}
use Rattle.answer_core.specs.declared.kinds.Kind.{Kind}
use Rattle.answer_core.specs.declared.kinds.Kind.TheVariants as kind
use Rattle.answer_core.specs.Numbers.{text_of, number_of}
use Rattle.answer_core.specs.Shapes.{bad_if, deepest}

-- the constructor that the symbol names
abbrev pub constructor_at : Declarations → Sexpr → Option ConId
constructor_at sig symbol = option_map (λ place. record { 0 = place }) (names.place_of (constructor_names sig.constructors) (text_of symbol))

-- the relation that the symbol names
abbrev pub relation_at : Declarations → Sexpr → Option RelId
relation_at sig symbol = option_map (λ place. record { 0 = place }) (names.place_of (relation_names sig.relations) (text_of symbol))

abbrev pub args_in : Option Constructor → List TypeId
args_in None = []
args_in (Some c) = c.args

-- the types of a constructor's children
abbrev pub args_of : Declarations → ConId → List TypeId
args_of sig con = args_in (slice_get sig.constructors con.0)

-- a child without a type fits everywhere
abbrev pub fits_type : TypeId → Option TypeId → Bool
fits_type want type = option_map_or (same_type want) type true

-- of a form whose constructor the symbol names and whose children have these types, if they have one
unfoldable pub head_misnamed : Declarations → Sexpr → Sexpr → List (Option TypeId) → List ℕ
head_misnamed sig form symbol types =
    option_map_or (λ con. bad_if (not (pointwise fits_type (args_of sig con) types)) form) (constructor_at sig symbol) (place_of symbol ∷ [])

-- the type of a term, if its constructor is known
abbrev pub term_type : Declarations → Sexpr → Option TypeId
term_type sig form = option_and_then (owner_of sig) (constructor_at sig (item_of 0 form))

-- of a term, which is followed to this depth of lists
unfoldable pub term_misnamed : ℕ → Declarations → Sexpr → List ℕ
term_misnamed zero sig form = head_misnamed sig form (item_of 0 form) (map (term_type sig) (others_of form))
term_misnamed (suc depth) sig form =
    head_misnamed sig form (item_of 0 form) (map (term_type sig) (others_of form)) ++ flat_map (term_misnamed depth sig) (others_of form)

-- the type of the earlier node that the numeral names, if it is below the number of its own form
abbrev pub kid_type : Declarations → List Tree → ℕ → Sexpr → Option TypeId
kid_type sig nodes number kid = if nat_lt (number_of kid) number then option_and_then (type_of sig) (slice_get nodes (number_of kid)) else None

abbrev pub node_misnamed : Declarations → List Tree → Sexpr → List ℕ
node_misnamed sig nodes form = head_misnamed sig form (item_of 2 form) (map (kid_type sig nodes (number_of (item_of 1 form))) (drop 3 (parts_of form)))

-- the nodes of a form of the kind after the forms of these nodes
abbrev pub misnamed : Declarations → List Tree → Kind → Sexpr → List ℕ
misnamed sig nodes kind.Term form = term_misnamed deepest sig (item_of 1 form)
misnamed sig nodes kind.Node form = node_misnamed sig nodes form
misnamed sig nodes kind.Step form = bad_if (is_none (relation_at sig (item_of 2 form))) (item_of 2 form)
misnamed sig nodes _ form = []
