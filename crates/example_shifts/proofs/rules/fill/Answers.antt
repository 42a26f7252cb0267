use Rattle.std.proofs.Common.{◌≡◌, None, [], ◌∷◌}
use Rattle.std.proofs.lemmas.List.Elements.{All-cons, All-nil}
use Rattle.rule_core.specs.declared.rule.Rule.{Rule}
use Rattle.rule_core.specs.Flow.{flow_fault}
use Rattle.eval_core.specs.ShiftExample.{shift_rule, shifts, x_rule, zero_rule}
use Rattle.example_shifts.proofs.rules.fill.Goals as goal

abbrev Flows : Rule → Type 0
Flows rule = flow_fault shifts rule ≡ None

pub returns-clause-flows : goal.returns-clause-flows
returns-clause-flows c =
    All-cons Flows zero_rule (x_rule ∷ shift_rule ∷ []) c.in_ok-add_zero.ensures.flows
    (All-cons Flows x_rule (shift_rule ∷ []) c.in_ok-add_x.ensures.flows
    (All-cons Flows shift_rule [] c.in_ok-add_shift.ensures.flows (All-nil Flows)))
