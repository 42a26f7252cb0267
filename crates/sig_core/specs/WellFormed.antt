-- What is true of every signature.
use Rattle.std.specs.Prelude.{◌≡◌, ℕ, ◌<◌, ◌≤◌, false, List, [], ◌∷◌, map, length, All, AllPairs}
use Rattle.sig_core.specs.declared.ids.TypeId.{TypeId}
use Rattle.sig_core.specs.declared.signature.Constructor.{Constructor}
use Rattle.sig_core.specs.declared.signature.Kind.{Kind}
use Rattle.sig_core.specs.declared.signature.Kind.TheVariants.{Term, Input, Output}
use Rattle.sig_core.specs.declared.signature.Param.{Param}
use Rattle.sig_core.specs.declared.signature.Relation.{Relation}
use Rattle.sig_core.specs.Names.{AreDistinct, is_reserved}
use Rattle.sig_core.specs.Signatures.{Declarations}

-- the type is one of the first `types`
abbrev pub IsDeclared : ℕ → TypeId → Type 0
IsDeclared types t = t.0 < types

-- the types of the terms among these kinds
abbrev pub term_types : List Kind → List TypeId
term_types [] = []
term_types (Term t ∷ ks) = t ∷ term_types ks
term_types (Input s ∷ ks) = term_types ks
term_types (Output s ∷ ks) = term_types ks

abbrev pub names_of_params : List Param → List (List ℕ)
names_of_params params = map (λ p. p.name) params

-- exactly one parameter is a term, of a declared type; the names are distinct and not reserved
pub record IsRelation (types : ℕ) (relation : Relation) : Type 0 where
  pub term : TypeId
  pub one_term : term_types (map (λ p. p.kind) relation.params) ≡ term ∷ []
  pub declared : IsDeclared types term
  pub distinct : AreDistinct (names_of_params relation.params)
  pub free : All (λ name. is_reserved name ≡ false) (names_of_params relation.params)

-- the owner and the types of the children are declared
pub record IsConstructor (types : ℕ) (constructor : Constructor) : Type 0 where
  pub owner : IsDeclared types constructor.owner
  pub args : All (IsDeclared types) constructor.args

-- no constructor has an owner below that of an earlier one
abbrev pub OwnersRise : List Constructor → Type 0
OwnersRise constructors = AllPairs (λ c d. c.owner.0 ≤ d.owner.0) constructors

abbrev pub constructor_names : List Constructor → List (List ℕ)
constructor_names constructors = map (λ c. c.name) constructors

abbrev pub relation_names : List Relation → List (List ℕ)
relation_names relations = map (λ r. r.name) relations

pub record IsWellFormed (sig : Declarations) : Type 0 where
  pub few_types : length sig.types ≤ 256
  pub few_constructors : length sig.constructors ≤ 4096
  pub few_relations : length sig.relations ≤ 256
  pub few_args : All (λ c. length c.args ≤ 16) sig.constructors
  pub few_params : All (λ r. length r.params ≤ 32) sig.relations
  pub distinct_types : AreDistinct sig.types
  pub distinct_constructors : AreDistinct (constructor_names sig.constructors)
  pub distinct_relations : AreDistinct (relation_names sig.relations)
  pub constructors : All (IsConstructor (length sig.types)) sig.constructors
  pub relations : All (IsRelation (length sig.types)) sig.relations
  pub rising : OwnersRise sig.constructors
