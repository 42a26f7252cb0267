-- The modes of parameters.
use Rattle.std.specs.Prelude.{Bool}
use Rattle.sig_core.specs.declared.signature.Kind.{Kind}
use Rattle.problem_core.specs.declared.names.Mode.{Mode}
use Rattle.problem_core.specs.declared.names.Mode.TheVariants.{Input, Output}
use Rattle.problem_core.specs.Texts.{is_input, is_output}

abbrev pub is_of : Mode → Kind → Bool
is_of Input kind = is_input kind
is_of Output kind = is_output kind
