use Rattle.std.proofs.Common.{◌≡◌, ◌<◌, ℕ, false, [], ◌∷◌, All, refl, arith}
use Rattle.std.specs.Prelude.{codes}
use Rattle.sig_core.specs.Names.{is_reserved}
use Rattle.sig_core.specs.WellFormed.{IsRelation}
use Rattle.example_relations.proofs.Names.{distinct_by_test, free_by_test}
use Rattle.example_rules.specs.Examples.{the_type}
use Rattle.wide_tests.specs.Wide.{sums, splits}
use Rattle.wide_tests.proofs.wide.wide.Goals as goal

sums_free : All (λ name. is_reserved name ≡ false) (codes "t" ∷ codes "x" ∷ codes "y" ∷ codes "r" ∷ [])
unfolding is_reserved
sums_free = free_by_test (codes "t" ∷ codes "x" ∷ codes "y" ∷ codes "r" ∷ []) refl

sums_fits : (types : ℕ) → 0 < types → IsRelation types sums
sums_fits types low = record {
  term = the_type;
  one_term = refl;
  declared = low;
  distinct = distinct_by_test (codes "t" ∷ codes "x" ∷ codes "y" ∷ codes "r" ∷ []) refl;
  free = sums_free;
}

splits_free : All (λ name. is_reserved name ≡ false) (codes "t" ∷ codes "q" ∷ codes "x" ∷ codes "r" ∷ [])
unfolding is_reserved
splits_free = free_by_test (codes "t" ∷ codes "q" ∷ codes "x" ∷ codes "r" ∷ []) refl

splits_fits : (types : ℕ) → 0 < types → IsRelation types splits
splits_fits types low = record {
  term = the_type;
  one_term = refl;
  declared = low;
  distinct = distinct_by_test (codes "t" ∷ codes "q" ∷ codes "x" ∷ codes "r" ∷ []) refl;
  free = splits_free;
}

pub add_relation-requires : goal.add_relation-requires
add_relation-requires c = rw (c.in_ok-sum_relation.ensures, c.in_ok-signature.ensures) (sums_fits 2 (omega arith))

pub add_relation-requires-2 : goal.add_relation-requires-2
add_relation-requires-2 c = rw (c.in_ok-split_relation.ensures, c.in_ok-add_relation.ensures.added.1, c.in_ok-signature.ensures) (splits_fits 2 (omega arith))
