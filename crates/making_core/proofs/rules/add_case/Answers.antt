use Rattle.std.proofs.Common.{◌≤◌, length, sym, subst, arith}
use Rattle.sig_core.specs.Texts.{IsPart}
use Rattle.making_core.specs.Rules.{case_rules}
use Rattle.making_core.proofs.Parts.{grown_by_part}
use Rattle.making_core.proofs.rules.add_case.Goals as goal

pub returns-in-Err-clause-part : goal.returns-in-Err-clause-part
returns-in-Err-clause-part c =
    let count = c.loop-branch.invariant.count in
    let grown : length c.args.rulebook.now ≤ length c.loop-branch.rulebook = omega (arith, count) in
    subst (λ rules. IsPart c.args.rulebook.now rules (case_rules c.args.signature.now c.args.case.now)) (sym c.in-Err.ensures.unchanged)
    (grown_by_part c.args.rulebook.now c.loop-branch.rulebook _ _ c.loop-branch.invariant.made grown)
