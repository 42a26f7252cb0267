use Rattle.std.proofs.Common.{◌≡◌, drop, map}
use Rattle.syntax_core.specs.declared.syntax.Pattern.{Pattern}
use Rattle.name_core.specs.Names.{has}
use Rattle.name_core.proofs.type_names.has_constructor.Given as goal

-- what is left decides
abbrev pub invariant-loop-constructor : goal.invariant-loop-constructor
invariant-loop-constructor l = has (map (λ (c : Pattern). c.name.bytes) (drop l.constructor-index l.constructors)) l.name ≡ has (map (λ (c : Pattern). c.name.bytes) l.constructors) l.name
