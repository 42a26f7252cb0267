use Rattle.std.proofs.Common.{◌*◌, ◌+◌, map, take}
use Rattle.deriv_core.specs.declared.parts.StepId.{StepId}
use Rattle.term_core.specs.Banks.{tree_of}
use Rattle.rule_core.specs.Instances.{calls_of, call_fact}
use Rattle.deriv_core.specs.Steps.{tree_steps}
use Rattle.extract_core.specs.Additions.{Adds, AddsCalls}
use Rattle.extract_core.specs.Growth.{Grow}
use Rattle.extract_core.specs.Places.{ArePlaces, number_in}
use Rattle.extract_core.proofs.derivation.+add.Given as goal

abbrev pub decreases-add : goal.decreases-add
decreases-add l = 3 * l.height

abbrev pub decreases-add_call : goal.decreases-add_call
decreases-add_call l = 3 * l.height + 1

abbrev pub decreases-add_calls : goal.decreases-add_calls
decreases-add_calls l = 3 * l.height + 2

-- the facts of the calls so far are added
abbrev pub invariant-add_calls-loop-atom : goal.invariant-add_calls-loop-atom
invariant-add_calls-loop-atom l =
    Grow l.fn.evaluator l.evaluator l.bank l.height l.fn.steps l.steps
    × AddsCalls (Adds l.fn.evaluator.signature l.fn.evaluator.rules l.height) l.fn.evaluator.signature (tree_steps l.bank l.fn.steps)
    (map (call_fact l.fn.evaluator.signature (tree_of l.bank l.id) l.slots) (calls_of (take l.atom-index l.atom-items))) (tree_steps l.bank l.steps) (map (λ (p : StepId). p.0) l.premises)
    × ArePlaces l.fn.evaluator.signature l.steps (number_in l.places)
