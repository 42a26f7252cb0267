-- The names of a signature are found again.
use Rattle.std.proofs.Common.{◌≡◌, ℕ, ◌<◌, true, not, nat_eq, List, [], ◌∷◌, map, length, get_or, slice_get, Option, Some, None, All, option_map, refl, sym, ap, subst, ◌∙◌, arith}
use Rattle.std.specs.Option.{option_map_or}
use lib.Pointwise.{pointwise}
use Rattle.std.specs.Cmp.Lexicographic.{bytes_decides}
use Rattle.std.proofs.lemmas.Bool.Decides.{nat_tests}
use Rattle.std.proofs.lemmas.List.{get_or-map, length-map}
use Rattle.std.proofs.lemmas.List.Quantifiers.{position-Some}
use Rattle.std.proofs.lemmas.Option.{get_or_from_slice_get, slice_get_within}
use Rattle.sig_core.specs.declared.ids.ConId.{ConId}
use Rattle.sig_core.specs.declared.ids.RelId.{RelId}
use Rattle.sig_core.specs.declared.ids.TypeId.{TypeId}
use Rattle.sig_core.specs.declared.signature.Constructor.{Constructor}
use Rattle.sig_core.specs.declared.signature.Relation.{Relation}
use Rattle.sig_core.specs.Names.{place_of, same_name, AreDistinct}
use Rattle.sig_core.specs.Signatures.{Declarations}
use Rattle.sig_core.specs.WellFormed.{constructor_names, relation_names, IsWellFormed}
use Rattle.sig_core.proofs.NameLemmas.{other_name}
use Rattle.sexpr_core.specs.declared.form.Sexpr.{Sexpr}
use Rattle.sexpr_core.specs.Access as access
use Rattle.answer_core.specs.AnswerText.{constructor_name, relation_name}
use Rattle.answer_core.specs.Names.{args_of, constructor_at, fits_type, head_misnamed, relation_at}
use Rattle.answer_core.specs.Numbers.{text_of}
use Rattle.answer_core.specs.Shapes.{bad_if}
use Rattle.answer_laws.specs.Names.{CanBeSpelled, HasSpelledNames}

-- a name of distinct ones is found in its place
one_place : (names : List (List ℕ)) (k i : ℕ) (name : List ℕ) → AreDistinct names → k < length names → i < length names → get_or names k [] ≡ name → get_or names i [] ≡ name → i ≡ k
one_place names k i name apart h l e f = same_number (λ less. apart i k [] less h (f ∙ sym e)) (λ less. apart k i [] less l (e ∙ sym f)) where
  same_number : (i < k → ⊥) → (k < i → ⊥) → i ≡ k
  same_number p q = grind arith

place_by : (names : List (List ℕ)) (k : ℕ) (name : List ℕ) (found : Option ℕ) → AreDistinct names → k < length names → get_or names k [] ≡ name → place_of names name ≡ found → found ≡ Some k
place_by names k name None apart h e p = absurd (other_name names name p k [] h e)
place_by names k name (Some i) apart h e p =
    let there = position-Some (same_name name) names i [] p in
    ap Some (one_place names k i name apart h there.0 e (sym ((bytes_decides name (get_or names i [])).0 there.1)))

pub place_is : (names : List (List ℕ)) (k : ℕ) (name : List ℕ) → AreDistinct names → k < length names → get_or names k [] ≡ name → place_of names name ≡ Some k
place_is names k name apart h e = place_by names k name (place_of names name) apart h e refl

-- of items with names
named : {X : Type 0} (name_of : X → List ℕ) (items : List X) (k : ℕ) (item : X) → slice_get items k ≡ Some item → (k < length (map name_of items)) × (get_or (map name_of items) k [] ≡ name_of item)
named name_of items k item at =
    let within : k < length items = slice_get_within items k item at in
    (omega (arith, within, length-map items name_of), get_or-map name_of items k item [] within ∙ ap name_of (get_or_from_slice_get items k item item at))

module _ (sig : Declarations) (formed : IsWellFormed sig) where
  pub constructor_found : (form : Sexpr) (con : ConId) (c : Constructor) → slice_get sig.constructors con.0 ≡ Some c → text_of form ≡ c.name → constructor_at sig form ≡ Some con
  constructor_found form con c at e =
      let there = named (λ (x : Constructor). x.name) sig.constructors con.0 c at in
      ap (λ name. option_map (λ place. record { 0 = place }) (place_of (constructor_names sig.constructors) name)) e
      ∙ ap (option_map (λ place. record { 0 = place })) (place_is (constructor_names sig.constructors) con.0 c.name formed.distinct_constructors there.0 there.1)

  pub relation_found : (form : Sexpr) (relation : RelId) (r : Relation) → slice_get sig.relations relation.0 ≡ Some r → text_of form ≡ r.name → relation_at sig form ≡ Some relation
  relation_found form relation r at e =
      let there = named (λ (x : Relation). x.name) sig.relations relation.0 r at in
      ap (λ name. option_map (λ place. record { 0 = place }) (place_of (relation_names sig.relations) name)) e
      ∙ ap (option_map (λ place. record { 0 = place })) (place_is (relation_names sig.relations) relation.0 r.name formed.distinct_relations there.0 there.1)

spelled_at : {X : Type 0} (P : X → Type 0) (xs : List X) (k : ℕ) (x : X) → All P xs → slice_get xs k ≡ Some x → P x
spelled_at P xs k x all at = subst P (get_or_from_slice_get xs k x x at) (all k x (slice_get_within xs k x at))

module _ (sig : Declarations) (names : HasSpelledNames sig) where
  constructor_by : (k : ℕ) (found : Option Constructor) → slice_get sig.constructors k ≡ found → CanBeSpelled (constructor_name found)
  constructor_by k None e = refl
  constructor_by k (Some c) e = spelled_at (λ (x : Constructor). CanBeSpelled x.name) sig.constructors k c names.constructors e

  pub constructor_spelled : (con : ConId) → CanBeSpelled (constructor_name (slice_get sig.constructors con.0))
  constructor_spelled con = constructor_by con.0 (slice_get sig.constructors con.0) refl

  relation_by : (k : ℕ) (found : Option Relation) → slice_get sig.relations k ≡ found → CanBeSpelled (relation_name found)
  relation_by k None e = refl
  relation_by k (Some r) e = spelled_at (λ (x : Relation). CanBeSpelled x.name) sig.relations k r names.relations e

  pub relation_spelled : (relation : RelId) → CanBeSpelled (relation_name (slice_get sig.relations relation.0))
  relation_spelled relation = relation_by relation.0 (slice_get sig.relations relation.0) refl

-- a known constructor with children that fit is good
pub head_good : (sig : Declarations) (form symbol : Sexpr) (types : List (Option TypeId)) (con : ConId) → constructor_at sig symbol ≡ Some con → pointwise fits_type (args_of sig con) types ≡ true → head_misnamed sig form symbol types ≡ []
unfolding head_misnamed
head_good sig form symbol types con found fit =
    ap (λ o. option_map_or (λ con. bad_if (not (pointwise fits_type (args_of sig con) types)) form) o (access.place_of symbol ∷ [])) found ∙ ap (λ b. bad_if (not b) form) fit

pub type_fits : (u : TypeId) → fits_type u (Some u) ≡ true
type_fits u = same u.0 where
  same : (n : ℕ) → nat_eq n n ≡ true
  same n = grind (arith, nat_tests)
