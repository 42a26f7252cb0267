-- A signature stays well formed as it grows.
use Rattle.std.proofs.Common.{◌≡◌, ℕ, ◌<◌, ◌≤◌, Bool, true, false, ◌||◌, List, [], ◌∷◌, ◌++◌, length, Option, Some, None, All, refl, if◌then◌else◌, arith}
use Rattle.std.specs.Prelude.{nat_lt, is_some}
use Rattle.std.proofs.lemmas.Bool.{ltb-true}
use Rattle.std.proofs.lemmas.List.{length-append, map-append}
use Rattle.std.proofs.lemmas.List.Elements.{All-push, All-weaker, All-get_or}
use Rattle.std.proofs.lemmas.List.Quantifiers.{all_pairs_push}
use Rattle.sig_core.specs.declared.signature.Constructor.{Constructor}
use Rattle.sig_core.specs.declared.signature.Relation.{Relation}
use Rattle.sig_core.specs.declared.signature.SigError.{SigError}
use Rattle.sig_core.specs.Names.{place_of}
use Rattle.sig_core.specs.Signatures.{Declarations}
use Rattle.sig_core.specs.WellFormed.{IsDeclared, IsRelation, IsConstructor, IsWellFormed, constructor_names, relation_names}
use Rattle.sig_core.specs.Refusals.{type_refusal, constructor_refusal, relation_refusal, with_type, with_constructor, with_relation}
use Rattle.sig_core.proofs.NameLemmas.{AreDistinct-push}

-- a chain of tests that refuses nothing has passed the first
passed : (b : Bool) (e : SigError) (rest : Option SigError) → (if b then Some e else rest) ≡ None → (b ≡ false) × (rest ≡ None)
passed true e rest h = absurd (cc)
passed false e rest h = (refl, h)

below_by : (n most : ℕ) (b : Bool) (e : SigError) (rest : Option SigError) → nat_lt n most ≡ b → (if b then rest else Some e) ≡ None → (n < most) × (rest ≡ None)
below_by n most true e rest t h = (ltb-true n most t, h)
below_by n most false e rest t h = absurd (cc)

below : (n most : ℕ) (e : SigError) (rest : Option SigError) → (if nat_lt n most then rest else Some e) ≡ None → (n < most) × (rest ≡ None)
below n most e rest h = below_by n most (nat_lt n most) e rest refl h

at_most : (n most : ℕ) (e : SigError) → (if nat_lt most n then Some e else None) ≡ None → n ≤ most
at_most n most e h = grind arith

unknown : {A : Type 0} (o : Option A) (b : Bool) → (is_some o || b) ≡ false → o ≡ None
unknown None b h = refl
unknown (Some x) b h = absurd (cc)

unknown_alone : {A : Type 0} (o : Option A) → is_some o ≡ false → o ≡ None
unknown_alone None h = refl
unknown_alone (Some x) h = absurd (cc)

IsConstructor-more : (n m : ℕ) → n ≤ m → (c : Constructor) → IsConstructor n c → IsConstructor m c
IsConstructor-more n m le c k = record {
  owner = omega arith;
  args = All-weaker (IsDeclared n) (IsDeclared m) (λ t h. omega arith) c.args k.args;
}

IsRelation-more : (n m : ℕ) → n ≤ m → (r : Relation) → IsRelation n r → IsRelation m r
IsRelation-more n m le r k = record { term = k.term; one_term = k.one_term; declared = omega arith; distinct = k.distinct; free = k.free }

pub is_none : {A : Type 0} (o : Option A) → ((x : A) → o ≡ Some x → ⊥) → o ≡ None
is_none None h = refl
is_none (Some x) h = absurd (h x refl)

-- a type was added
pub IsWellFormed-with_type : (sig : Declarations) (name : List ℕ) → IsWellFormed sig → type_refusal sig name ≡ None → IsWellFormed (with_type sig name)
IsWellFormed-with_type sig name w h =
    let first = passed _ _ _ h in
    let second = below (length sig.types) 256 _ None first.1 in
    let more : length sig.types ≤ length (sig.types ++ name ∷ []) = omega (arith, length-append sig.types (name ∷ [])) in
    record {
      few_types = omega (arith, length-append sig.types (name ∷ []), second.0);
      distinct_types = AreDistinct-push sig.types name (unknown (place_of sig.types name) _ first.0) w.distinct_types;
      constructors = All-weaker (IsConstructor (length sig.types)) _ (IsConstructor-more _ _ more) sig.constructors w.constructors;
      relations = All-weaker (IsRelation (length sig.types)) _ (IsRelation-more _ _ more) sig.relations w.relations;
      few_constructors = w.few_constructors;
      few_relations = w.few_relations;
      few_args = w.few_args;
      few_params = w.few_params;
      distinct_constructors = w.distinct_constructors;
      distinct_relations = w.distinct_relations;
      rising = w.rising;
    }

-- a constructor was added, whose types are declared, and whose owner is below that of no earlier one
pub IsWellFormed-with_constructor : (sig : Declarations) (made : Constructor) → IsWellFormed sig → constructor_refusal sig made.name made.args ≡ None →
    IsConstructor (length sig.types) made → All (λ c. c.owner.0 ≤ made.owner.0) sig.constructors → IsWellFormed (with_constructor sig made)
IsWellFormed-with_constructor sig made w h built rise =
    let first = passed _ _ _ h in
    let second = below (length sig.constructors) 4096 _ _ first.1 in
    record {
      few_constructors = omega (arith, length-append sig.constructors (made ∷ []), second.0);
      few_args = All-push (λ c. length c.args ≤ 16) sig.constructors made w.few_args (at_most _ _ _ second.1);
      distinct_constructors = rw (map-append (λ (c : Constructor). c.name) sig.constructors (made ∷ [])) (AreDistinct-push (constructor_names sig.constructors) made.name (unknown_alone _ first.0) w.distinct_constructors);
      constructors = All-push (IsConstructor (length sig.types)) sig.constructors made w.constructors built;
      rising = all_pairs_push (λ c d. c.owner.0 ≤ d.owner.0) sig.constructors made w.rising (λ k d l. All-get_or (λ c. c.owner.0 ≤ made.owner.0) sig.constructors k d l rise);
      few_types = w.few_types;
      few_relations = w.few_relations;
      few_params = w.few_params;
      distinct_types = w.distinct_types;
      distinct_relations = w.distinct_relations;
      relations = w.relations;
    }

-- a relation was added, whose parameters are as they should be
pub IsWellFormed-with_relation : (sig : Declarations) (relation : Relation) → IsWellFormed sig → relation_refusal sig relation ≡ None →
    IsRelation (length sig.types) relation → IsWellFormed (with_relation sig relation)
IsWellFormed-with_relation sig relation w h fits =
    let first = passed _ _ _ h in
    let second = below (length sig.relations) 256 _ _ first.1 in
    record {
      few_relations = omega (arith, length-append sig.relations (relation ∷ []), second.0);
      few_params = All-push (λ r. length r.params ≤ 32) sig.relations relation w.few_params (at_most _ _ _ second.1);
      distinct_relations = rw (map-append (λ (r : Relation). r.name) sig.relations (relation ∷ [])) (AreDistinct-push (relation_names sig.relations) relation.name (unknown _ _ first.0) w.distinct_relations);
      relations = All-push (IsRelation (length sig.types)) sig.relations relation w.relations fits;
      few_types = w.few_types;
      few_constructors = w.few_constructors;
      few_args = w.few_args;
      distinct_types = w.distinct_types;
      distinct_constructors = w.distinct_constructors;
      constructors = w.constructors;
      rising = w.rising;
    }
