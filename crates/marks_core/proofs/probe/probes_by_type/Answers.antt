use Rattle.std.proofs.Common.{◌≡◌, ◌∙◌, ap₂}
use Rattle.sig_core.specs.declared.ids.TypeId.{TypeId}
use Rattle.marks_core.specs.Tables.{probes_at, probes_for}
use Rattle.marks_core.proofs.Tabled.{one_more, probes_of_type}
use Rattle.marks_core.proofs.probe.probes_by_type.Goals as goal

pub loop-number-preserved : goal.loop-number-preserved
loop-number-preserved c =
    let problem = c.args.problem.now in
    let type : TypeId = record { 0 = c.loop-number.number } in
    let found : c.in_ok-probes.probes ≡ probes_for problem c.loop-number.number =
    c.in_ok-probes.ensures ∙ ap₂ (λ sig examples. probes_at sig type examples) c.signature-signature.ensures.value (c.as_slice.ensures ∙ c.in_ok-examples.ensures) ∙ probes_of_type problem type in
    one_more (probes_for problem) c.loop-number.lists c.push.new.self c.loop-number.number c.in_ok-probes.probes c.loop-number.invariant found c.in_ok-push.ensures.ok
