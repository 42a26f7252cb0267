use Rattle.std.proofs.Common.{◌≡◌, None, length, sym, ◌∙◌, arith}
use Rattle.syntax_core.specs.declared.commands.Head.TheVariants as head
use Rattle.syntax_core.specs.Syntax.{items_at}
use Rattle.name_core.specs.Faults.{first}
use Rattle.state_core.specs.Commands.{faults_in}
use Rattle.state_core.proofs.Groupings.{as_many_types, of_word}
use Rattle.state_core.proofs.stated.StatedParts.take_terms.Goals as goal

pub declare_terms-requires-clause-groups : goal.declare_terms-requires-clause-groups
declare_terms-requires-clause-groups c =
    let form = c.args.form.now in
    let fine : first (faults_in c.args.self.now head.DeclareTermTypes form) ≡ None = sym c.in_ok-fault.ensures ∙ c.in-None.is in
    let same : length (items_at 2 form) ≡ length (items_at 1 form) = as_many_types form (of_word c.args.self.now head.DeclareTermTypes form c.requires.judged c.requires.shape fine) in
    omega (arith, same)
