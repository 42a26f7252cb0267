use Rattle.std.proofs.Common.{◌≡◌, None, OnOk, sym, subst}
use Rattle.rule_core.specs.Flow.{flow_fault}
use Rattle.rule_core.specs.Rulebooks.{IsRuleOf}
use Rattle.eval_core.specs.ShiftExample.{shifts}
use Rattle.example_shifts.proofs.Fitting.{shift_fits}
use Rattle.example_shifts.proofs.rules.add_shift.Goals as goal

pub add-requires-clause-rule : goal.add-requires-clause-rule
add-requires-clause-rule c = subst (IsRuleOf shifts) (sym c.in_ok-rule.ensures) shift_fits

pub returns-clause-flows : goal.returns-clause-flows
returns-clause-flows c = subst (λ rule. OnOk c.add.result (flow_fault shifts rule ≡ None)) c.in_ok-rule.ensures c.add.ensures.flows
