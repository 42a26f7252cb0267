use Rattle.std.proofs.Common.{◌∙◌, sym, ap}
use Rattle.std.specs.Prelude.{option_and_then}
use Rattle.sexpr_core.specs.Access.{symbol_of}
use Rattle.syntax_core.specs.Shapes.IsNoCommand.{unknown, out_of_order, misshapen}
use Rattle.syntax_core.specs.Shapes.{refusal}
use Rattle.syntax_core.proofs.shapes.command_head.Goals as goal

pub returns-in_default-head_named-clause-fault : goal.returns-in_default-head_named-clause-fault
returns-in_default-head_named-clause-fault c earlier stands =
    unknown c.in-Some.first.now c.in-Some-symbol.name.now (sym c.in-Some.ensures) (sym c.in-Some-symbol.ensures) (sym c.in_default-head_named.ensures)
    (c.refusal-in_default-head_named.ensures ∙ ap (λ place. refusal place 11) c.place-in_default-head_named.ensures)

pub returns-then-not-takes-clause-fault : goal.returns-then-not-takes-clause-fault
returns-then-not-takes-clause-fault c earlier stands =
    out_of_order c.in-Some-symbol.name.now c.in-Some-head_named.command
    (ap (λ o. option_and_then symbol_of o) (sym c.in-Some.ensures) ∙ sym c.in-Some-symbol.ensures)
    (sym c.in-Some-head_named.ensures) (sym (c.takes.ensures earlier stands) ∙ c.if-not-takes.true)
    (c.refusal-then-not-takes.ensures ∙ ap (λ place. refusal place 12) c.place-then-not-takes.ensures)

pub returns-in-Some-misfit-clause-fault : goal.returns-in-Some-misfit-clause-fault
returns-in-Some-misfit-clause-fault c earlier stands =
    misshapen c.in-Some-symbol.name.now c.in-Some-head_named.command c.in-Some-misfit.place
    (ap (λ o. option_and_then symbol_of o) (sym c.in-Some.ensures) ∙ sym c.in-Some-symbol.ensures)
    (sym c.in-Some-head_named.ensures) (sym (c.takes.ensures earlier stands) ∙ c.if-not-takes.false)
    c.in-Some-misfit.ensures.shape c.refusal-in-Some-misfit.ensures
