use Rattle.std.proofs.Common.{◌∙◌, sym}
use Rattle.name_core.specs.Names.{is_plain}
use Rattle.name_core.proofs.Having.{has-filter}
use Rattle.name_core.proofs.function_names.has_plain.Goals as goal

pub returns : goal.returns
returns c = c.any_plain.ensures ∙ sym (has-filter is_plain c.args.params.now c.args.name.now)
