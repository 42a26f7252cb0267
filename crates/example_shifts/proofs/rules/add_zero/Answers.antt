use Rattle.std.proofs.Common.{sym, subst}
use Rattle.rule_core.specs.Rulebooks.{IsRuleOf}
use Rattle.eval_core.specs.ShiftExample.{shifts}
use Rattle.example_shifts.proofs.Fitting.{zero_fits}
use Rattle.example_shifts.proofs.rules.add_zero.Goals as goal

pub add-requires-clause-rule : goal.add-requires-clause-rule
add-requires-clause-rule c = subst (IsRuleOf shifts) (sym c.in_ok-rule.ensures) zero_fits
