use Rattle.std.proofs.Common.{◌≡◌, drop}
use Rattle.name_core.specs.Names.{has, texts}
use Rattle.name_core.proofs.type_names.has_symbol.Given as goal

-- what is left decides
abbrev pub invariant-loop-symbol : goal.invariant-loop-symbol
invariant-loop-symbol l = has (texts (drop l.symbol-index l.symbols)) l.name ≡ has (texts l.symbols) l.name
