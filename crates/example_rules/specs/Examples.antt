-- A small signature: two types, constructors of sums and of choices by a condition, and two relations.
use Rattle.std.specs.Prelude.{[], ◌∷◌, codes}
use Rattle.sig_core.specs.declared.ids.TypeId.{TypeId}
use Rattle.sig_core.specs.declared.signature.Constructor.{Constructor}
use Rattle.sig_core.specs.declared.signature.Relation.{Relation}
use Rattle.sig_core.specs.Signatures.{Declarations}
use Rattle.example_relations.specs.Relations.{constant_params, unary_params}

abbrev pub the_type : TypeId
the_type = record { 0 = 0 }

-- the type of conditions, of which no constructor makes terms
abbrev pub condition_type : TypeId
condition_type = record { 0 = 1 }

abbrev pub plus : Constructor
plus = record { name = codes "$+"; owner = the_type; args = the_type ∷ the_type ∷ [] }

abbrev pub choice : Constructor
choice = record { name = codes "$if"; owner = the_type; args = condition_type ∷ the_type ∷ the_type ∷ [] }

-- of a term and an output
abbrev pub gives : Relation
gives = record { name = codes "U"; params = constant_params the_type }

-- of a term, an input and an output
abbrev pub maps : Relation
maps = record { name = codes "S"; params = unary_params the_type }

abbrev pub two_types : Declarations
two_types = record { types = codes "E" ∷ codes "B" ∷ []; constructors = []; relations = [] }

abbrev pub two_constructors : Declarations
two_constructors = record { types = codes "E" ∷ codes "B" ∷ []; constructors = plus ∷ choice ∷ []; relations = [] }

abbrev pub example : Declarations
example = record { types = codes "E" ∷ codes "B" ∷ []; constructors = plus ∷ choice ∷ []; relations = gives ∷ maps ∷ [] }
