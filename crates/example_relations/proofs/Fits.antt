-- Relations that fit each signature that has the type of their terms.
use Rattle.std.proofs.Common.{◌≡◌, ◌<◌, ℕ, false, List, [], ◌∷◌, All, refl}
use Rattle.std.specs.Prelude.{codes}
use Rattle.sig_core.specs.declared.ids.TypeId.{TypeId}
use Rattle.sig_core.specs.declared.value.Sort.{Sort}
use Rattle.sig_core.specs.Names.{is_reserved}
use Rattle.sig_core.specs.WellFormed.{IsRelation}
use Rattle.example_relations.specs.Relations.{binary_params, constant_params, unary_params}
use Rattle.example_relations.proofs.Names.{distinct_by_test, free_by_test}

pub constant_free : All (λ name. is_reserved name ≡ false) (codes "t" ∷ codes "r" ∷ [])
unfolding is_reserved
constant_free = free_by_test (codes "t" ∷ codes "r" ∷ []) refl

pub constant_fits : (types : ℕ) (ty : TypeId) (name : List ℕ) → ty.0 < types → IsRelation types (record { name = name; params = constant_params ty })
constant_fits types ty name low = record {
  term = ty;
  one_term = refl;
  declared = low;
  distinct = distinct_by_test (codes "t" ∷ codes "r" ∷ []) refl;
  free = constant_free;
}

pub unary_free : All (λ name. is_reserved name ≡ false) (codes "t" ∷ codes "x" ∷ codes "r" ∷ [])
unfolding is_reserved
unary_free = free_by_test (codes "t" ∷ codes "x" ∷ codes "r" ∷ []) refl

pub unary_fits : (types : ℕ) (ty : TypeId) (name : List ℕ) → ty.0 < types → IsRelation types (record { name = name; params = unary_params ty })
unary_fits types ty name low = record {
  term = ty;
  one_term = refl;
  declared = low;
  distinct = distinct_by_test (codes "t" ∷ codes "x" ∷ codes "r" ∷ []) refl;
  free = unary_free;
}

pub binary_free : All (λ name. is_reserved name ≡ false) (codes "t" ∷ codes "x" ∷ codes "y" ∷ codes "r" ∷ [])
unfolding is_reserved
binary_free = free_by_test (codes "t" ∷ codes "x" ∷ codes "y" ∷ codes "r" ∷ []) refl

pub binary_fits : (types : ℕ) (ty : TypeId) (output : Sort) (name : List ℕ) → ty.0 < types → IsRelation types (record { name = name; params = binary_params ty output })
binary_fits types ty output name low = record {
  term = ty;
  one_term = refl;
  declared = low;
  distinct = distinct_by_test (codes "t" ∷ codes "x" ∷ codes "y" ∷ codes "r" ∷ []) refl;
  free = binary_free;
}
