use Rattle.std.proofs.Common.{◌<◌, arith}
use Rattle.std.specs.Prelude.{codes}
use Rattle.example_relations.proofs.Fits.{constant_fits, unary_fits}
use Rattle.example_rules.specs.Examples.{the_type}
use Rattle.example_rules.proofs.language.example.Goals as goal

pub add_relation-requires : goal.add_relation-requires
add_relation-requires c =
    let two : 0 < 2 = omega arith in
    rw (c.in_ok-gives.ensures, c.in_ok-signature.ensures) (constant_fits 2 the_type (codes "U") two)

pub add_relation-requires-2 : goal.add_relation-requires-2
add_relation-requires-2 c =
    let two : 0 < 2 = omega arith in
    rw (c.in_ok-maps.ensures, c.in_ok-add_relation.ensures.added.1, c.in_ok-signature.ensures) (unary_fits 2 the_type (codes "S") two)
