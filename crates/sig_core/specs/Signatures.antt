-- A signature, and what it says of relations and constructors.
use Rattle.std.specs.Prelude.{ℕ, Option, Some, None, List, [], ◌∷◌, map, slice_get}
use Rattle.sig_core.specs.declared.value.Sort.{Sort}
use Rattle.sig_core.specs.declared.ids.TypeId.{TypeId}
use Rattle.sig_core.specs.declared.ids.ConId.{ConId}
use Rattle.sig_core.specs.declared.ids.RelId.{RelId}
use Rattle.sig_core.specs.declared.signature.Constructor.{Constructor}
use Rattle.sig_core.specs.declared.signature.Kind.{Kind}
use Rattle.sig_core.specs.declared.signature.Kind.TheVariants.{Term, Input, Output}
use Rattle.sig_core.specs.declared.signature.Param.{Param}
use Rattle.sig_core.specs.declared.signature.Relation.{Relation}
use Rattle.sig_core.specs.Lists.{numbers_from}

-- the names of the types, the constructors and the relations, each in order of the file
pub record Declarations : Type 0 where
  pub types : List (List ℕ)
  pub constructors : List Constructor
  pub relations : List Relation

abbrev pub params_in : Option Relation → List Param
params_in None = []
params_in (Some relation) = relation.params

-- the kinds of a relation's parameters, in order
abbrev pub kinds_of : Declarations → RelId → List Kind
kinds_of sig r = map (λ p. p.kind) (params_in (slice_get sig.relations r.0))

-- the sorts of the parameters that are not terms
abbrev pub plain_sorts : List Kind → List Sort
plain_sorts [] = []
plain_sorts (Term t ∷ ks) = plain_sorts ks
plain_sorts (Input s ∷ ks) = s ∷ plain_sorts ks
plain_sorts (Output s ∷ ks) = s ∷ plain_sorts ks

-- of one item for each parameter that is not a term: those of inputs, and those of outputs
abbrev pub inputs_of : {X : Type 0} → List Kind → List X → List X
inputs_of (Term t ∷ ks) xs = inputs_of ks xs
inputs_of (Input s ∷ ks) (x ∷ xs) = x ∷ inputs_of ks xs
inputs_of (Output s ∷ ks) (x ∷ xs) = inputs_of ks xs
inputs_of _ _ = []

abbrev pub outputs_of : {X : Type 0} → List Kind → List X → List X
outputs_of (Term t ∷ ks) xs = outputs_of ks xs
outputs_of (Input s ∷ ks) (x ∷ xs) = outputs_of ks xs
outputs_of (Output s ∷ ks) (x ∷ xs) = x ∷ outputs_of ks xs
outputs_of _ _ = []

-- inputs and outputs put in order of the parameters
abbrev pub woven : {X : Type 0} → List Kind → List X → List X → List X
woven (Term t ∷ ks) is os = woven ks is os
woven (Input s ∷ ks) (i ∷ is) os = i ∷ woven ks is os
woven (Output s ∷ ks) is (o ∷ os) = o ∷ woven ks is os
woven _ _ _ = []

-- the slots of the inputs, and those of the outputs
abbrev pub input_slots : List Kind → List ℕ
input_slots ks = inputs_of ks (numbers_from 0 (plain_sorts ks))

abbrev pub output_slots : List Kind → List ℕ
output_slots ks = outputs_of ks (numbers_from 0 (plain_sorts ks))

-- the type of a relation's term
abbrev pub term_type : List Kind → Option TypeId
term_type [] = None
term_type (Term t ∷ ks) = Some t
term_type (_ ∷ ks) = term_type ks

abbrev pub owner_in : Option Constructor → Option TypeId
owner_in None = None
owner_in (Some c) = Some c.owner

-- the type of a constructor's terms
abbrev pub owner_of : Declarations → ConId → Option TypeId
owner_of sig con = owner_in (slice_get sig.constructors con.0)
