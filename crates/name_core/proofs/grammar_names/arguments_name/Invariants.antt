use Rattle.std.proofs.Common.{◌≡◌, drop}
use Rattle.std.specs.List.{flat_map}
use Rattle.sig_core.specs.WellFormed.{constructor_names}
use Rattle.name_core.specs.Faults.{first}
use Rattle.name_core.specs.Names.{names_in, unhad_name}
use Rattle.name_core.proofs.grammar_names.arguments_name.Given as goal

-- the first fault is among what is left
abbrev pub invariant-loop-form : goal.invariant-loop-form
invariant-loop-form l = first (flat_map (unhad_name (names_in l.nonterminals) (constructor_names l.signature.constructors)) (drop l.form-index l.forms)) ≡ first (flat_map (unhad_name (names_in l.nonterminals) (constructor_names l.signature.constructors)) l.forms)
