use Rattle.std.proofs.Common.{◌<◌, arith}
use Rattle.std.specs.Prelude.{codes}
use Rattle.example_relations.proofs.Fits.{constant_fits}
use Rattle.example_problems.specs.Examples.{the_type}
use Rattle.example_problems.proofs.language.example.Goals as goal

pub add_relation-requires : goal.add_relation-requires
add_relation-requires c =
    let one : 0 < 1 = omega arith in
    rw (c.in_ok-gives.ensures, c.in_ok-signature.ensures) (constant_fits 1 the_type (codes "S") one)
