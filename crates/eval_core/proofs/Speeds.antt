-- Terms with the same outputs at other heights are not alike.
use Rattle.std.proofs.Common.{◌≡◌, [], ◌∷◌, All, refl, sym, ◌∙◌, subst, arith}
use Rattle.std.proofs.lemmas.List.Elements.{All-head, All-from_recursion}
use Rattle.expr_core.proofs.Equations.{value-Slot}
use Rattle.term_core.specs.declared.tree.Tree.{Tree}
use Rattle.rule_core.specs.Instances.{Holds, Fact, calls_of}
use Rattle.problem_core.specs.Derivations.{Within, CallMeets}
use Rattle.problem_core.proofs.Nodes.{follows, listed-node}
use Rattle.eval_core.specs.ShiftExample.{expression, int}
use Rattle.eval_core.specs.SlowExample.{slow_con, fast_con, semantics, helper, speeds, call_helper, slow_rule, fast_rule, helper_rule, speed_problem, slow, fast}
use Rattle.eval_core.specs.Alikeness.{IsAlike}
use Rattle.eval_core.proofs.Shifts.{only_one}

abbrev pub gives_four : Tree → Fact
gives_four t = record { relation = semantics; term = t; args = int 4 ∷ int 4 ∷ [] }

pub fast_within : Within speeds speed_problem.rules 1 (gives_four fast)
fast_within = follows speeds speed_problem.rules (Within speeds speed_problem.rules 0) semantics fast_con [] 0 fast_rule (int 4 ∷ int 4 ∷ []) refl
    (record { sorted = refl; in_range = refl; holds = All-from_recursion (Holds (int 4 ∷ int 4 ∷ [])) fast_rule.atoms ((int 4, refl, value-Slot (int 4 ∷ int 4 ∷ []) 0), tt) }) tt

helper_within : Within speeds speed_problem.rules 1 (record { relation = helper; term = slow; args = int 4 ∷ int 4 ∷ [] })
helper_within = follows speeds speed_problem.rules (Within speeds speed_problem.rules 0) helper slow_con [] 0 (helper_rule slow_con) (int 4 ∷ int 4 ∷ []) refl
    (record { sorted = refl; in_range = refl; holds = All-from_recursion (Holds (int 4 ∷ int 4 ∷ [])) (helper_rule slow_con).atoms ((int 4, refl, value-Slot (int 4 ∷ int 4 ∷ []) 0), tt) }) tt

pub slow_within : Within speeds speed_problem.rules 2 (gives_four slow)
slow_within = follows speeds speed_problem.rules (Within speeds speed_problem.rules 1) semantics slow_con [] 0 slow_rule (int 4 ∷ int 4 ∷ int 4 ∷ []) refl
    (record { sorted = refl; in_range = refl; holds = All-from_recursion (Holds (int 4 ∷ int 4 ∷ int 4 ∷ [])) slow_rule.atoms (tt, ((int 4, refl, value-Slot (int 4 ∷ int 4 ∷ int 4 ∷ []) 2), tt)) })
    ((record { relation = helper; term = slow; args = int 4 ∷ int 4 ∷ [] }, simp value-Slot, helper_within), tt)

not_at_once : ¬ Within speeds speed_problem.rules 1 (gives_four slow)
not_at_once d =
    let is_rule : slow_rule ≡ d.rule = only_one slow_rule d.rule d.number (sym (listed-node speed_problem.rules semantics slow_con [] d.number) ∙ d.listed) in
    let P = CallMeets (Within speeds speed_problem.rules 0) speeds slow d.slots in
    let meets : P call_helper = All-head P call_helper [] (subst (λ r. All P (calls_of r.atoms)) (sym is_rule) d.calls) in
    meets.2

pub heights_differ : ¬ IsAlike speed_problem expression 2 slow fast
heights_differ alike =
    not_at_once ((alike.same semantics (record { relation = semantics; args = int 4 ∷ int 4 ∷ [] }) (int 4 ∷ []) refl (0, omega arith, refl) refl 1 (omega arith)).1 fast_within)
