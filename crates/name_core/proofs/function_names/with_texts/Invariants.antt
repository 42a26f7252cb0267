use Rattle.std.proofs.Common.{◌≡◌, ◌++◌, drop}
use Rattle.name_core.specs.Names.{texts}
use Rattle.name_core.proofs.function_names.with_texts.Given as goal

-- what is left makes the rest
abbrev pub invariant-loop-symbol : goal.invariant-loop-symbol
invariant-loop-symbol l = l.all ++ texts (drop l.symbol-index l.symbols) ≡ l.names ++ texts l.symbols
