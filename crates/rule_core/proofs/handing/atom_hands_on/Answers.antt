use Rattle.std.proofs.Common.{◌≡◌, sym, ◌∙◌}
use lib.Pointwise.{pointwise}
use Rattle.sig_core.specs.Signatures.{kinds_of, input_slots}
use Rattle.rule_core.specs.Flow.{names_slot}
use Rattle.rule_core.proofs.Slotted.{all_named, all_names}
use Rattle.rule_core.proofs.handing.atom_hands_on.Goals as goal

pub returns-else-not-is_on : goal.returns-else-not-is_on
returns-else-not-is_on c =
    let inputs = c.in-Call.call.inputs in
    let slots = input_slots (kinds_of c.args.signature.now c.args.rule.now.relation) in
    let said : c.takes_inputs.result ≡ pointwise names_slot inputs slots = rw (c.as_slice.ensures, c.params_of.ensures) at c.takes_inputs.ensures in
    rw c.in-Call.is (λ h on. all_named inputs slots (sym said ∙ h), λ takes. said ∙ (rw (takes (sym c.if-not-is_on.ensures)) (all_names slots)))
