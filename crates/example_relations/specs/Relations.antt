-- The parameters of relations of a term, up to two inputs and an output.
use Rattle.std.specs.Prelude.{List, [], ◌∷◌, codes}
use Rattle.sig_core.specs.declared.ids.TypeId.{TypeId}
use Rattle.sig_core.specs.declared.value.Sort.{Sort}
use Rattle.sig_core.specs.declared.value.Sort.TheVariants as sort
use Rattle.sig_core.specs.declared.signature.Kind.TheVariants.{Term, Input, Output}
use Rattle.sig_core.specs.declared.signature.Param.{Param}

abbrev pub constant_params : TypeId → List Param
constant_params ty = record { name = codes "t"; kind = Term ty } ∷ record { name = codes "r"; kind = Output sort.Int } ∷ []

abbrev pub unary_params : TypeId → List Param
unary_params ty = record { name = codes "t"; kind = Term ty } ∷ record { name = codes "x"; kind = Input sort.Int } ∷ record { name = codes "r"; kind = Output sort.Int } ∷ []

abbrev pub binary_params : TypeId → Sort → List Param
binary_params ty output = record { name = codes "t"; kind = Term ty } ∷ record { name = codes "x"; kind = Input sort.Int } ∷ record { name = codes "y"; kind = Input sort.Int } ∷ record { name = codes "r"; kind = Output output } ∷ []
