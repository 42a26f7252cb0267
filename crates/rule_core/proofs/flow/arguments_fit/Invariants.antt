use Rattle.std.proofs.Common.{◌≡◌, map, drop, All}
use Rattle.sig_core.specs.declared.signature.Param.{Param}
use lib.Pointwise.{pointwise}
use Rattle.rule_core.specs.Flow.{has_sort}
use Rattle.rule_core.specs.Modes.{sorts_of}
use Rattle.rule_core.specs.Rulebooks.{IsSmall}
use Rattle.rule_core.proofs.flow.arguments_fit.Given as goal

abbrev pub invariant-loop-param : goal.invariant-loop-param
invariant-loop-param l = (All IsSmall l.rest) × (pointwise (has_sort l.scope) l.rest (sorts_of l.mode (map (λ (p : Param). p.kind) (drop l.param-index l.params))) ≡ pointwise (has_sort l.scope) l.arguments (sorts_of l.mode (map (λ (p : Param). p.kind) l.params)))
