-- What a signature refuses to add, and what stands after an item is added.
use Rattle.std.specs.Prelude.{ℕ, ◌||◌, nat_lt, if◌then◌else◌, Option, Some, None, is_some, List, [], ◌∷◌, ◌++◌, length, codes}
use Rattle.sig_core.specs.declared.ids.TypeId.{TypeId}
use Rattle.sig_core.specs.declared.signature.Constructor.{Constructor}
use Rattle.sig_core.specs.declared.signature.Relation.{Relation}
use Rattle.sig_core.specs.declared.signature.SigError.{SigError}
use Rattle.sig_core.specs.declared.signature.SigError.TheVariants.{Twice, Limit}
use Rattle.sig_core.specs.Names.{same_name, place_of, is_reserved}
use Rattle.sig_core.specs.Signatures.{Declarations}
use Rattle.sig_core.specs.WellFormed.{constructor_names, relation_names}

-- the name stands already, or is that of a sort; or 256 types stand
abbrev pub type_refusal : Declarations → List ℕ → Option SigError
type_refusal sig name =
    if is_some (place_of sig.types name) || (same_name name (codes "Int") || same_name name (codes "Bool")) then Some Twice
    else if nat_lt (length sig.types) 256 then None else Some (Limit 5)

-- the name stands already; or 4,096 constructors stand; or there are more than 16 arguments
abbrev pub constructor_refusal : Declarations → List ℕ → List TypeId → Option SigError
constructor_refusal sig name args =
    if is_some (place_of (constructor_names sig.constructors) name) then Some Twice
    else if nat_lt (length sig.constructors) 4096 then (if nat_lt 16 (length args) then Some (Limit 7) else None) else Some (Limit 6)

-- the name stands already or is reserved; or 256 relations stand; or there are more than 32 parameters
abbrev pub relation_refusal : Declarations → Relation → Option SigError
relation_refusal sig relation =
    if is_some (place_of (relation_names sig.relations) relation.name) || is_reserved relation.name then Some Twice
    else if nat_lt (length sig.relations) 256 then (if nat_lt 32 (length relation.params) then Some (Limit 9) else None) else Some (Limit 8)

abbrev pub with_type : Declarations → List ℕ → Declarations
with_type sig name = record sig { types = sig.types ++ name ∷ [] }

abbrev pub with_constructor : Declarations → Constructor → Declarations
with_constructor sig constructor = record sig { constructors = sig.constructors ++ constructor ∷ [] }

abbrev pub with_relation : Declarations → Relation → Declarations
with_relation sig relation = record sig { relations = sig.relations ++ relation ∷ [] }
