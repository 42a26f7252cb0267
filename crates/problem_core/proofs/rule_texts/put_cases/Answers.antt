use Rattle.std.proofs.Common.{◌≡◌, ◌≤◌, ◌+◌, ◌∙◌, Some, nat_eq, length, drop, slice_get, sym, ap, arith}
use Rattle.std.specs.Option.{option_copied}
use Rattle.std.proofs.lemmas.List.{drop_all}
use Rattle.std.proofs.lemmas.Option.{slice_get_within}
use Rattle.sig_core.proofs.SignatureLemmas.{is_none}
use Rattle.rule_core.specs.declared.rule.Rule.{Rule}
use Rattle.rule_core.specs.Rulebooks.{rules_of}
use Rattle.problem_core.specs.Texts.{case_form}
use Rattle.problem_core.proofs.Kept.{kept_few, none_left}
use Rattle.problem_core.proofs.Loops.{drop_at, put_all, put_one}
use Rattle.problem_core.proofs.rule_texts.put_cases.Goals as goal

pub loop-k-preserved : goal.loop-k-preserved
loop-k-preserved c =
    let rules = rules_of c.args.rulebook.now c.args.relation in
    let k = c.loop-k.k in
    let rule = c.in-Some.rule.now in
    let is : slice_get rules k ≡ Some rule = sym c.in-Some.ensures in
    put_one (case_form c.args.signature.now) rules k rule (drop k rules) (drop (k + 1) rules) c.args.out.now c.loop-k.out c.put_gap.new.out c.put_case.new.out
    (drop_at rules k rule (slice_get_within rules k rule is) is) c.loop-k.invariant c.in_ok-put_gap.ensures c.in_ok-put_case.ensures

pub returns-after-loop-k : goal.returns-after-loop-k
returns-after-loop-k c =
    let all = c.args.rulebook.now in
    let rules = rules_of all c.args.relation in
    let k = c.loop-k.k in
    let few : length rules ≤ length all = kept_few (λ (rule : Rule). nat_eq rule.relation.0 c.args.relation.0) all in
    put_all (case_form c.args.signature.now) rules k (drop k rules) c.args.out.now c.loop-k.out
    (drop_all k rules (omega (arith, few, c.len-k-end.ensures.value, c.loop-k-test.false))) c.loop-k.invariant

pub returns-in_default : goal.returns-in_default
returns-in_default c =
    let rules = rules_of c.args.rulebook.now c.args.relation in
    let k = c.loop-k.k in
    put_all (case_form c.args.signature.now) rules k (drop k rules) c.args.out.now c.loop-k.out
    (none_left rules k (sym c.of_relation.ensures ∙ ap option_copied (is_none c.of_relation.result c.in_default.not-Some))) c.loop-k.invariant
