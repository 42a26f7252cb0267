use Rattle.std.proofs.Common.{◌≤◌, length, subst, arith}
use Rattle.sig_core.specs.WellFormed.{IsWellFormed}
use Rattle.example_problems.specs.Examples.{example}
use Rattle.example_problems.proofs.Sound.{example_sound}
use Rattle.example_problems.proofs.problems.problem_over.Goals as goal

pub new-requires : goal.new-requires
new-requires c =
    let fine : IsWellFormed example = subst IsWellFormed c.requires.signature c.types-types.ensures.well_formed in
    let few : length c.in-Ok-constraints.constraints ≤ 9 = omega (arith, c.in-Ok-constraints.ensures.count, c.requires.few) in
    rw (c.new-infos.ensures, c.new-wanted.ensures, c.requires.signature)
    (example_sound c.in-Ok.rules c.args.grammar c.in-Ok-constraints.constraints fine c.in-Ok.ensures.sound c.in-Ok.ensures.few c.requires.grammar c.requires.wanted c.in-Ok-constraints.ensures.sound few)
