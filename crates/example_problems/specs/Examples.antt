-- A small language: one type, two constants, pairs, and a relation of a term and a number.
use Rattle.std.specs.Prelude.{ℕ, pos, [], ◌∷◌, codes}
use Rattle.sig_core.specs.declared.ids.ConId.{ConId}
use Rattle.sig_core.specs.declared.ids.RelId.{RelId}
use Rattle.sig_core.specs.declared.ids.TypeId.{TypeId}
use Rattle.sig_core.specs.declared.value.Value.TheVariants as value
use Rattle.sig_core.specs.declared.signature.Relation.{Relation}
use Rattle.sig_core.specs.Signatures.{Declarations}
use Rattle.example_relations.specs.Relations.{constant_params}
use Rattle.expr_core.specs.declared.expr.Expr.TheVariants.{Lit}
use Rattle.rule_core.specs.declared.rule.Atom.TheVariants.{Fill}
use Rattle.rule_core.specs.declared.rule.Rule.{Rule}
use Rattle.problem_core.specs.declared.parts.Constraint.{Constraint}

abbrev pub the_type : TypeId
the_type = record { 0 = 0 }

-- of a term and an output
abbrev pub gives : Relation
gives = record { name = codes "S"; params = constant_params the_type }

abbrev pub constants : Declarations
constants = record { types = codes "E" ∷ []; constructors = record { name = codes "$a"; owner = the_type; args = [] } ∷ record { name = codes "$c"; owner = the_type; args = [] } ∷ []; relations = [] }

abbrev pub with_pairs : Declarations
with_pairs = record {
  types = codes "E" ∷ [];
  constructors = record { name = codes "$a"; owner = the_type; args = [] } ∷ record { name = codes "$c"; owner = the_type; args = [] } ∷ record { name = codes "$p"; owner = the_type; args = the_type ∷ the_type ∷ [] } ∷ [];
  relations = [];
}

abbrev pub example : Declarations
example = record with_pairs { relations = gives ∷ [] }

abbrev pub the_relation : RelId
the_relation = record { 0 = 0 }

-- the constant gives the value
abbrev pub gives_value : ConId → ℕ → Rule
gives_value constant n = record { relation = the_relation; con = constant; kid_names = []; more = []; atoms = Fill 0 (Lit (value.Int (pos n))) ∷ [] }

-- the value is wanted
abbrev pub wanted_value : ℕ → Constraint
wanted_value n = record { relation = the_relation; args = value.Int (pos n) ∷ [] }
