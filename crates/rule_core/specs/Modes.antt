-- The parameters of a relation by mode.
use Rattle.std.specs.Prelude.{Option, Some, None, List}
use Rattle.std.specs.List.{filter_map}
use Rattle.sig_core.specs.declared.value.Sort.{Sort}
use Rattle.sig_core.specs.declared.signature.Kind.{Kind}
use Rattle.sig_core.specs.declared.signature.Kind.TheVariants as kind
use Rattle.rule_core.specs.declared.flow.Mode.{Mode}
use Rattle.rule_core.specs.declared.flow.Mode.TheVariants.{Input, Output}

-- the sort of a parameter of the mode
abbrev pub sort_in_mode : Mode → Kind → Option Sort
sort_in_mode Input (kind.Input s) = Some s
sort_in_mode Output (kind.Output s) = Some s
sort_in_mode _ _ = None

-- the sorts of the parameters of the mode, in order
abbrev pub sorts_of : Mode → List Kind → List Sort
sorts_of mode kinds = filter_map (sort_in_mode mode) kinds
