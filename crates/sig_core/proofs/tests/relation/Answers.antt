use Rattle.std.proofs.Common.{◌≡◌, ◌<◌, ℕ, false, List, [], ◌∷◌, length, refl, arith}
use Rattle.std.specs.Prelude.{codes}
use Rattle.std.proofs.lemmas.List.{length-append}
use Rattle.std.proofs.lemmas.List.Elements.{All-cons, All-nil}
use Rattle.sig_core.specs.declared.ids.TypeId.{TypeId}
use Rattle.sig_core.specs.declared.signature.Kind.TheVariants.{Term}
use Rattle.sig_core.specs.Names.{is_reserved}
use Rattle.sig_core.specs.WellFormed.{IsRelation}
use Rattle.sig_core.proofs.tests.relation.Goals as goal

free : is_reserved (codes "t") ≡ false
unfolding is_reserved
free = refl

one_param : (types : ℕ) (owner : TypeId) (relation : List ℕ) → owner.0 < types → IsRelation types (record { name = relation; params = record { name = codes "t"; kind = Term owner } ∷ [] })
one_param types owner relation low = record {
  term = owner;
  one_term = refl;
  declared = low;
  distinct = λ i j d l m. absurd (omega arith);
  free = All-cons (λ name. is_reserved name ≡ false) (codes "t") [] free (All-nil (λ name. is_reserved name ≡ false));
}

pub add_relation-requires : goal.add_relation-requires
add_relation-requires c =
    let added = c.in_ok-owner.ensures.added in
    let low : c.in_ok-owner.owner.0 < length c.add_type.new.self.types = rw (added.0, added.1) (omega (arith, length-append c.new-signature.result.types (codes "E" ∷ []))) in
    rw c.in_ok-relation.ensures (one_param (length c.add_type.new.self.types) c.in_ok-owner.owner (codes "S") low)
