use Rattle.std.proofs.Common.{◌≡◌, ℕ, drop}
use Rattle.syntax_core.specs.declared.syntax.Function.{Function}
use Rattle.name_core.specs.Faults.{first, found_from}
use Rattle.name_core.specs.Limits.{declaration_limits}
use Rattle.name_core.proofs.function_limits.declarations_limit.Given as goal

-- the first fault is among what is left
abbrev pub invariant-loop-function : goal.invariant-loop-function
invariant-loop-function l =
    first (found_from (λ (n : ℕ) (f : Function). declaration_limits n f.declaration) l.next (drop l.function-index l.functions))
    ≡ first (found_from (λ (n : ℕ) (f : Function). declaration_limits n f.declaration) l.number l.functions)
