use Rattle.std.proofs.Common.{◌≡◌, option_map, drop}
use Rattle.elab_core.specs.Judging.{after}
use Rattle.elab_core.proofs.judge.judge_all.Given as goal

-- what is left gives what the whole gives
abbrev pub invariant-loop-k : goal.invariant-loop-k
invariant-loop-k l = option_map (λ outcome. after outcome (drop l.k l.forms)) l.elaborator ≡ option_map (λ outcome. after outcome l.forms) l.fn.elaborator
