use Rattle.std.proofs.Common.{◌<◌, arith}
use Rattle.std.specs.Prelude.{codes}
use Rattle.example_relations.proofs.Fits.{unary_fits}
use Rattle.example_loops.specs.Loops.{the_type}
use Rattle.example_loops.proofs.language.loops.Goals as goal

pub add_relation-requires : goal.add_relation-requires
add_relation-requires c =
    let one : 0 < 1 = omega arith in
    rw (c.in_ok-gives.ensures, c.in_ok-signature.ensures) (unary_fits 1 the_type (codes "S") one)
