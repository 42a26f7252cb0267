use Rattle.std.proofs.Common.{◌≡◌, take, drop, List, ◌++◌, map}
use Rattle.std.specs.List.{flat_map}
use Rattle.sig_core.specs.WellFormed.{constructor_names}
use Rattle.syntax_core.specs.declared.syntax.Pattern.{Pattern}
use Rattle.name_core.specs.Faults.{first, found, found_after}
use Rattle.name_core.specs.Names.{taken_name, texts, unknown_name}
use Rattle.name_core.proofs.type_names.each_constructor_name.Given as goal

-- the first fault is among what is left
abbrev pub invariant-loop-k : goal.invariant-loop-k
invariant-loop-k l = first (found_after (λ (before : List Pattern) (con : Pattern). taken_name (constructor_names l.signature.constructors ++ map (λ (c : Pattern). c.name.bytes) before) con.name ++ flat_map (unknown_name (l.signature.types ++ texts l.types)) con.variables) (take l.k l.constructors) (drop l.k l.constructors)) ≡ first (found (λ (before : List Pattern) (con : Pattern). taken_name (constructor_names l.signature.constructors ++ map (λ (c : Pattern). c.name.bytes) before) con.name ++ flat_map (unknown_name (l.signature.types ++ texts l.types)) con.variables) l.constructors)
