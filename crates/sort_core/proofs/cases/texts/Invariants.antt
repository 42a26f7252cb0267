use Rattle.std.proofs.Common.{◌≡◌, ◌++◌, drop}
use Rattle.name_core.specs.Names.{texts}
use Rattle.sort_core.proofs.cases.texts.Given as goal

-- what is left makes the rest
abbrev pub invariant-loop-symbol : goal.invariant-loop-symbol
invariant-loop-symbol l = l.names ++ texts (drop l.symbol-index l.symbols) ≡ texts l.symbols
