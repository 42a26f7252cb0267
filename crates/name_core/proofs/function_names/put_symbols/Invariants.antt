use Rattle.std.proofs.Common.{◌≡◌, ◌++◌, take}
use Rattle.name_core.proofs.function_names.put_symbols.Given as goal

-- the first are put
abbrev pub invariant-loop-symbol : goal.invariant-loop-symbol
invariant-loop-symbol l = l.out ≡ l.fn.out ++ take l.symbol-index l.symbols
