use Rattle.std.proofs.Common.{◌∙◌, not, sym}
use Rattle.syntax_core.specs.declared.syntax.Pair.{Pair}
use Rattle.name_core.specs.Names.{is_plain}
use Rattle.name_core.proofs.Having.{has-filter}
use Rattle.name_core.proofs.function_names.has_term.Goals as goal

pub returns : goal.returns
returns c = c.any_term.ensures ∙ sym (has-filter (λ (pair : Pair). not (is_plain pair)) c.args.params.now c.args.name.now)
