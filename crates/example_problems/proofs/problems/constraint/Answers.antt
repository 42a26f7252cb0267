use Rattle.std.proofs.Common.{sym, subst, arith}
use Rattle.problem_core.specs.Soundness.{IsSoundConstraint}
use Rattle.example_problems.specs.Examples.{example, the_type}
use Rattle.example_problems.proofs.Sound.{constraint_sound}
use Rattle.example_problems.proofs.problems.constraint.Goals as goal

pub returns : goal.returns
returns c = subst (IsSoundConstraint example the_type) (sym c.in_ok-constraint.ensures) (constraint_sound c.args.value (omega (arith, c.ranges.value.fits)))
