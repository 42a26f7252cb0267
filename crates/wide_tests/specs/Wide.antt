-- Relations with several inputs and outputs over the types and constructors of the small signature.
use Rattle.std.specs.Prelude.{[], ◌∷◌, codes}
use Rattle.sig_core.specs.declared.value.Sort.TheVariants as sort
use Rattle.sig_core.specs.declared.signature.Kind.TheVariants.{Term, Input, Output}
use Rattle.sig_core.specs.declared.signature.Relation.{Relation}
use Rattle.sig_core.specs.Signatures.{Declarations}
use Rattle.example_rules.specs.Examples.{the_type, plus, choice}

-- of a term, two inputs and an output
abbrev pub sums : Relation
sums = record {
  name = codes "E.Sem";
  params = record { name = codes "t"; kind = Term the_type } ∷ record { name = codes "x"; kind = Input sort.Int } ∷ record { name = codes "y"; kind = Input sort.Int } ∷ record { name = codes "r"; kind = Output sort.Int } ∷ [];
}

-- of a term, an output, an input and an output
abbrev pub splits : Relation
splits = record {
  name = codes "P";
  params = record { name = codes "t"; kind = Term the_type } ∷ record { name = codes "q"; kind = Output sort.Int } ∷ record { name = codes "x"; kind = Input sort.Int } ∷ record { name = codes "r"; kind = Output sort.Int } ∷ [];
}

abbrev pub wide : Declarations
wide = record { types = codes "E" ∷ codes "B" ∷ []; constructors = plus ∷ choice ∷ []; relations = sums ∷ splits ∷ [] }
