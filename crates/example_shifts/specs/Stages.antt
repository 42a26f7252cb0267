-- The signature of the shifts, as it grows.
use Rattle.std.specs.Prelude.{[], ◌∷◌, codes}
use Rattle.sig_core.specs.declared.signature.Relation.{Relation}
use Rattle.sig_core.specs.Signatures.{Declarations}
use Rattle.example_relations.specs.Relations.{unary_params}
use Rattle.eval_core.specs.ShiftExample.{expression, shifts}

-- of a term, an input and an output
abbrev pub gives_relation : Relation
gives_relation = record { name = codes "gives"; params = unary_params expression }

-- with both constants
abbrev pub constants : Declarations
constants = record {
  types = codes "E" ∷ [];
  constructors = record { name = codes "0"; owner = expression; args = [] } ∷ record { name = codes "x"; owner = expression; args = [] } ∷ [];
  relations = [];
}

-- with all constructors
abbrev pub constructed : Declarations
constructed = record shifts { relations = [] }
