-- A signature of one constant, and of one relation with an input and an output.
use Rattle.std.specs.Prelude.{[], ◌∷◌, codes}
use Rattle.sig_core.specs.declared.ids.TypeId.{TypeId}
use Rattle.sig_core.specs.declared.signature.Constructor.{Constructor}
use Rattle.sig_core.specs.declared.signature.Relation.{Relation}
use Rattle.sig_core.specs.Signatures.{Declarations}
use Rattle.example_relations.specs.Relations.{unary_params}

abbrev pub the_type : TypeId
the_type = record { 0 = 0 }

abbrev pub the_constant : Constructor
the_constant = record { name = codes "$loop"; owner = the_type; args = [] }

-- of a term, an input and an output
abbrev pub gives : Relation
gives = record { name = codes "S"; params = unary_params the_type }

abbrev pub one_constructor : Declarations
one_constructor = record { types = codes "E" ∷ []; constructors = the_constant ∷ []; relations = [] }

abbrev pub loops : Declarations
loops = record { types = codes "E" ∷ []; constructors = the_constant ∷ []; relations = gives ∷ [] }
