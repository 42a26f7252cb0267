use Rattle.std.proofs.Common.{length}
use Rattle.problem_core.proofs.names.+name_of_slot.Given as goal

abbrev pub decreases-name_of_slot : goal.decreases-name_of_slot
decreases-name_of_slot l = length l.params.now
