use Rattle.std.proofs.Common.{length}
use Rattle.problem_core.proofs.printing.+put_args.Given as goal

abbrev pub decreases-put_args : goal.decreases-put_args
decreases-put_args l = length l.params.now
