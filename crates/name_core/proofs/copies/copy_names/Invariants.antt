use Rattle.std.proofs.Common.{◌≡◌, ◌++◌, drop}
use Rattle.name_core.proofs.copies.copy_names.Given as goal

-- what is left makes the rest
abbrev pub invariant-loop-name : goal.invariant-loop-name
invariant-loop-name l = l.copy ++ drop l.name-index l.names ≡ l.names
