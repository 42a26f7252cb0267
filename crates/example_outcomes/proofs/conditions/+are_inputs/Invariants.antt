use Rattle.std.proofs.Common.{length}
use Rattle.example_outcomes.proofs.conditions.+are_inputs.Given as goal

abbrev pub decreases-are_inputs : goal.decreases-are_inputs
decreases-are_inputs l = length l.params.now
