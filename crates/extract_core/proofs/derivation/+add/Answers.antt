use Rattle.std.proofs.Common.{◌≡◌, ◌+◌, ◌-◌, [], ◌∷◌, ◌++◌, map, take, length, slice_get, All, OnOk, sym, ap, ap₂, ◌∙◌, subst, arith}
use Rattle.std.proofs.lemmas.List.Elements.{All-contains}
use Rattle.std.proofs.lemmas.List.{append-nil}
use Rattle.rule_core.specs.declared.rule.Atom.{Atom}
use Rattle.rule_core.specs.Instances.{calls_of, call_fact}
use Rattle.rule_core.specs.Rulebooks.{rules_for}
use Rattle.term_core.specs.Banks.{tree_of}
use Rattle.problem_core.specs.Derivations.{CallMeets, Within}
use Rattle.deriv_core.specs.declared.parts.Step.{Step}
use Rattle.deriv_core.specs.declared.parts.StepId.{StepId}
use Rattle.deriv_core.specs.Facts.{tree_fact}
use Rattle.deriv_core.specs.Steps.{tree_steps}
use Rattle.extract_core.specs.Additions.{Adds, AddsCalls}
use Rattle.extract_core.specs.Lookups.{IsCallFact}
use Rattle.extract_core.proofs.CallLists.{calls_more, call_there, no_call}
use Rattle.extract_core.proofs.Adding.{calls_none}
use Rattle.extract_core.specs.Places.{ArePlaces, IsPut, fact_of, number_in}
use Rattle.extract_core.proofs.Growing as g
use Rattle.extract_core.proofs.Placing.{found_has, none_lacks, put_placed, pushed_placed}
use Rattle.extract_core.proofs.Searching.{serves_on}
use Rattle.extract_core.proofs.derivation.+add.Goals as goal
use Rattle.extract_core.proofs.derivation.+add.Goals.{add_calls-in-Call+in_ok-premise+in_ok-push, add_calls-in_default}

pub add-returns-in-Some-clause-added : goal.add-returns-in-Some-clause-added
add-returns-in-Some-clause-added t c =
    let steps = tree_steps c.args.bank.now c.args.steps.now in
    let fact = tree_fact c.args.bank.now c.args.fact.now in
    g.known_added c.args.evaluator.now.signature c.args.evaluator.now.rules c.args.height fact steps c.in-Some.number
    (found_has c.args.evaluator.now.signature c.args.bank.now c.len.ensures.each_once c.args.steps.now c.requires.ready.live (number_in c.args.places.now) c.requires.places c.args.fact.now c.requires.live c.in-Some.number c.in-Some.ensures)

pub add-add_calls-requires : goal.add-add_calls-requires
add-add_calls-requires t c =
    let e = c.args.evaluator.now in
    let bank = c.args.bank.now in
    let fact = tree_fact bank c.args.fact.now in
    let serves = c.in_ok-below.ensures.serves in
    let both = serves_on e c.least_height.new.evaluator c.first_instance.new.evaluator bank serves c.in_ok-first.ensures.serves in
    let positive = g.least_positive e.signature e.rules fact c.in_ok-below.field-0 c.in_ok-below.ensures.least in
    let low = c.in_ok-below.ensures.low in
    let listed = ap₂ (λ rs d. slice_get (rules_for rs fact.relation d) c.in_ok-first.first.number) (sym c.rulebook-rulebook.ensures.rules) (sym c.con.ensures) ∙ sym c.in-Some-rule.ensures in
    let first = g.first_before e c.least_height.new.evaluator bank (c.in_ok-below.field-0 - 1) fact c.in_ok-first.first.number c.in_ok-first.first.slots serves c.in_ok-first.ensures.first in
    let meet = g.calls_meet e.signature e.rules (c.in_ok-below.field-0 - 1) fact c.in_ok-first.first.number c.in-Some-rule.rule.now c.in_ok-first.first.slots first listed in
    let slots = subst (λ s. All (CallMeets (Within e.signature e.rules (c.in_ok-below.field-0 - 1)) e.signature fact.term s) (calls_of c.in-Some-rule.rule.now.atoms)) (sym c.as_slice-slots.ensures) meet in (
      omega arith,
      (
        g.ready_served e c.first_instance.new.evaluator bank c.args.steps.now c.requires.ready both,
        (
          c.requires.live,
          (
            g.all_meet_after e c.first_instance.new.evaluator bank (c.in_ok-below.field-0 - 1) fact.term c.as_slice-slots.result.now (calls_of c.in-Some-rule.rule.now.atoms) both slots,
            (omega arith, subst (λ s. ArePlaces s c.args.steps.now (number_in c.args.places.now)) (sym both.signature) c.requires.places),
          ),
        ),
      ),
    )

pub add-returns-clause-grow : goal.add-returns-clause-grow
add-returns-clause-grow t c =
    let e = c.args.evaluator.now in
    let e2 = c.first_instance.new.evaluator in
    let bank = c.args.bank.now in
    let fact = tree_fact bank c.args.fact.now in
    let old = c.args.steps.now in
    let mid = c.add_calls.new.steps in
    let rule = c.in-Some-rule.rule.now in
    let number = c.in_ok-first.first.number in
    let slots = c.in_ok-first.first.slots in
    let below = c.in_ok-below.field-0 - 1 in
    let ps = map (λ (p : StepId). p.0) c.in_ok-premises.premises in
    let serves = c.in_ok-below.ensures.serves in
    let both = serves_on e c.least_height.new.evaluator e2 bank serves c.in_ok-first.ensures.serves in
    let lacks = none_lacks e.signature bank c.len.ensures.each_once old c.requires.ready.live (number_in c.args.places.now) c.requires.places c.args.fact.now c.requires.live c.in_default.ensures in
    let listed = ap₂ (λ rs d. slice_get (rules_for rs fact.relation d) number) (sym c.rulebook-rulebook.ensures.rules) (sym c.con.ensures) ∙ sym c.in-Some-rule.ensures in
    let first = g.first_before e c.least_height.new.evaluator bank below fact number slots serves c.in_ok-first.ensures.first in
    let grow = g.grow_before e e2 c.add_calls.new.evaluator bank below old mid both c.in_ok-premises.ensures.grow in
    let calls = subst (λ s. AddsCalls (Adds e.signature e.rules below) e.signature (tree_steps bank old) (map (call_fact e.signature fact.term s) (calls_of rule.atoms)) (tree_steps bank mid) ps) c.as_slice-slots.ensures
    (g.calls_before e e2 bank below fact.term c.as_slice-slots.result.now (calls_of rule.atoms) (tree_steps bank old) (tree_steps bank mid) ps both c.in_ok-premises.ensures.added) in
    let pushed = subst (λ n. OnOk c.push.result (c.push.new.self ≡ mid ++ record { relation = c.args.fact.now.relation; node = c.args.fact.now.node; rule = n; values = slots; premises = c.in_ok-premises.premises } ∷ [])) c.from.ensures c.push.ensures.added in
    g.grow_new e c.add_calls.new.evaluator bank c.args.fact.now old mid c.push.new.self c.in_ok-below.field-0 c.args.height number rule slots c.in_ok-premises.premises c.push.result
    c.requires.live lacks c.in_ok-below.ensures.least c.in_ok-below.ensures.low first listed grow calls c.push.result c.push.new.self pushed c.push.ensures.unchanged

pub add-returns-clause-added : goal.add-returns-clause-added
add-returns-clause-added t c =
    let e = c.args.evaluator.now in
    let e2 = c.first_instance.new.evaluator in
    let bank = c.args.bank.now in
    let fact = tree_fact bank c.args.fact.now in
    let old = c.args.steps.now in
    let mid = c.add_calls.new.steps in
    let rule = c.in-Some-rule.rule.now in
    let number = c.in_ok-first.first.number in
    let slots = c.in_ok-first.first.slots in
    let below = c.in_ok-below.field-0 - 1 in
    let ps = map (λ (p : StepId). p.0) c.in_ok-premises.premises in
    let serves = c.in_ok-below.ensures.serves in
    let both = serves_on e c.least_height.new.evaluator e2 bank serves c.in_ok-first.ensures.serves in
    let lacks = none_lacks e.signature bank c.len.ensures.each_once old c.requires.ready.live (number_in c.args.places.now) c.requires.places c.args.fact.now c.requires.live c.in_default.ensures in
    let listed = ap₂ (λ rs d. slice_get (rules_for rs fact.relation d) number) (sym c.rulebook-rulebook.ensures.rules) (sym c.con.ensures) ∙ sym c.in-Some-rule.ensures in
    let first = g.first_before e c.least_height.new.evaluator bank below fact number slots serves c.in_ok-first.ensures.first in
    let grow = g.grow_before e e2 c.add_calls.new.evaluator bank below old mid both c.in_ok-premises.ensures.grow in
    let calls = subst (λ s. AddsCalls (Adds e.signature e.rules below) e.signature (tree_steps bank old) (map (call_fact e.signature fact.term s) (calls_of rule.atoms)) (tree_steps bank mid) ps) c.as_slice-slots.ensures
    (g.calls_before e e2 bank below fact.term c.as_slice-slots.result.now (calls_of rule.atoms) (tree_steps bank old) (tree_steps bank mid) ps both c.in_ok-premises.ensures.added) in
    let pushed = subst (λ n. OnOk c.push.result (c.push.new.self ≡ mid ++ record { relation = c.args.fact.now.relation; node = c.args.fact.now.node; rule = n; values = slots; premises = c.in_ok-premises.premises } ∷ [])) c.from.ensures c.push.ensures.added in
    g.added_new e c.add_calls.new.evaluator bank c.args.fact.now old mid c.push.new.self c.in_ok-below.field-0 c.args.height number rule slots c.in_ok-premises.premises c.push.result
    c.requires.live lacks c.in_ok-below.ensures.least c.in_ok-below.ensures.low first listed grow calls c.push.result c.push.new.self pushed c.push.ensures.id

pub add_call-returns-clause-added : goal.add_call-returns-clause-added
add_call-returns-clause-added t c =
    let e = c.args.evaluator.now in
    let bank = c.args.bank.now in
    let term = tree_of bank c.args.id in
    let found = (subst (IsCallFact bank (call_fact c.signature.result.now term c.args.slots.now c.args.call.now)) c.in-Some.is c.in_ok-fact.ensures).1 in
    g.call_added e.signature e.rules c.args.height term c.args.slots.now c.args.call.now (tree_fact bank c.in-Some.fact) (tree_steps bank c.args.steps.now) (tree_steps bank c.add.new.steps) c.add.result
    (ap (λ s. call_fact s term c.args.slots.now c.args.call.now) (sym c.signature.ensures) ∙ found) c.add.ensures.added

pub add_calls-add_call-requires : goal.add_calls-add_call-requires
add_calls-add_call-requires t c =
    let e = c.args.evaluator.now in
    let bank = c.args.bank.now in
    let l = c.loop-atom in
    let term = tree_of bank c.args.id in
    let there = call_there c.as_slice-atom-items.result.now l.atom-index c.atom-item.result c.in-Call.call c.loop-atom-test.true c.atom-item.is c.in-Call.is in
    let meets = All-contains (CallMeets (Within e.signature e.rules c.args.height) e.signature term c.args.slots.now) (calls_of c.as_slice-atom-items.result.now) c.in-Call.call
    (subst (λ atoms. All (CallMeets (Within e.signature e.rules c.args.height) e.signature term c.args.slots.now) (calls_of atoms)) (sym c.as_slice-atom-items.ensures) c.requires.calls) there in (
      omega arith,
      (
        g.ready_after e l.evaluator bank c.args.height c.args.steps.now l.steps l.invariant.0,
        (
          c.requires.live,
          (
            g.meets_after e l.evaluator bank c.args.height term c.args.slots.now c.in-Call.call l.invariant.0.serves meets,
            (c.requires.low, subst (λ s. ArePlaces s l.steps (number_in l.places)) (sym l.invariant.0.serves.signature) l.invariant.2),
          ),
        ),
      ),
    )

pub add_calls-loop-atom-preserved : goal.add_calls-loop-atom-preserved
add_calls-loop-atom-preserved t c =
    let e = c.args.evaluator.now in
    let bank = c.args.bank.now in
    let l = c.loop-atom in
    let term = tree_of bank c.args.id in
    let more = calls_more c.as_slice-atom-items.result.now l.atom-index c.atom-item.result c.loop-atom-test.true c.atom-item.is in
    elim c.match-atom.branch [
      | add_calls-in-Call+in_ok-premise+in_ok-push w ↦ rw (w.evaluator-is, w.steps-is, w.premises-is, w.places-is)
          (let both = g.loop_call e l.evaluator w.add_call.new.evaluator bank c.args.steps.now l.steps w.add_call.new.steps c.args.height term c.args.slots.now (calls_of (take l.atom-index c.as_slice-atom-items.result.now))
          (calls_of (take (l.atom-index + 1) c.as_slice-atom-items.result.now)) w.in-Call.call l.premises w.push.new.self w.in_ok-premise.premise
          l.invariant.0 l.invariant.1 w.in_ok-premise.ensures.grow w.in_ok-premise.ensures.added
          (more ∙ ap (λ (a : Atom). calls_of (take l.atom-index c.as_slice-atom-items.result.now) ++ calls_of (a ∷ [])) w.in-Call.is) w.in_ok-push.ensures.ok in
          (both.0, both.1, subst (λ s. ArePlaces s w.add_call.new.steps (number_in w.add_call.new.places)) l.invariant.0.serves.signature w.in_ok-premise.ensures.places))
      | add_calls-in_default w ↦ rw (w.evaluator-is, w.steps-is, w.premises-is, w.places-is) (
        l.invariant.0,
        subst (λ cs. AddsCalls (Adds e.signature e.rules c.args.height) e.signature (tree_steps bank c.args.steps.now) (map (call_fact e.signature term c.args.slots.now) cs) (tree_steps bank l.steps) (map (λ (p : StepId). p.0) l.premises))
            (sym (more ∙ ap (λ cs. calls_of (take l.atom-index c.as_slice-atom-items.result.now) ++ cs) (no_call c.atom-item.result w.in_default.not-Call) ∙ append-nil (calls_of (take l.atom-index c.as_slice-atom-items.result.now)))) l.invariant.1,
        l.invariant.2,
      )
    ]

pub add-returns-in-Some-clause-grow : goal.add-returns-in-Some-clause-grow
add-returns-in-Some-clause-grow t c =
    g.grow_none c.args.evaluator.now c.args.evaluator.now c.args.bank.now c.args.height c.args.steps.now c.requires.ready (g.serves_itself c.args.evaluator.now c.args.bank.now c.args.steps.now c.requires.ready)

pub add-returns-in_err-below-clause-grow : goal.add-returns-in_err-below-clause-grow
add-returns-in_err-below-clause-grow t c = g.grow_none c.args.evaluator.now c.least_height.new.evaluator c.args.bank.now c.args.height c.args.steps.now c.requires.ready c.in_err-below.ensures.serves

pub add-returns-in_err-first-clause-grow : goal.add-returns-in_err-first-clause-grow
add-returns-in_err-first-clause-grow t c =
    g.grow_none c.args.evaluator.now c.first_instance.new.evaluator c.args.bank.now c.args.height c.args.steps.now c.requires.ready
    (serves_on c.args.evaluator.now c.least_height.new.evaluator c.first_instance.new.evaluator c.args.bank.now c.in_ok-below.ensures.serves c.in_err-first.ensures.serves)

pub add-returns-in_err-premises-clause-grow : goal.add-returns-in_err-premises-clause-grow
add-returns-in_err-premises-clause-grow t c =
    let e = c.args.evaluator.now in
    let e2 = c.first_instance.new.evaluator in
    let e3 = c.add_calls.new.evaluator in
    let bank = c.args.bank.now in
    let below = c.in_ok-below.field-0 - 1 in
    let both = serves_on e c.least_height.new.evaluator e2 bank c.in_ok-below.ensures.serves c.in_ok-first.ensures.serves in
    let low = c.in_ok-below.ensures.low in
    g.grow_rises e e3 bank below c.args.height c.args.steps.now c.add_calls.new.steps (omega arith) (g.grow_before e e2 e3 bank below c.args.steps.now c.add_calls.new.steps both c.in_err-premises.ensures.grow)

pub add-returns-in_err-put-clause-grow : goal.add-returns-in_err-put-clause-grow
add-returns-in_err-put-clause-grow t c =
    let e = c.args.evaluator.now in
    let e2 = c.first_instance.new.evaluator in
    let e3 = c.add_calls.new.evaluator in
    let bank = c.args.bank.now in
    let below = c.in_ok-below.field-0 - 1 in
    let both = serves_on e c.least_height.new.evaluator e2 bank c.in_ok-below.ensures.serves c.in_ok-first.ensures.serves in
    let low = c.in_ok-below.ensures.low in
    g.grow_rises e e3 bank below c.args.height c.args.steps.now c.add_calls.new.steps (omega arith) (g.grow_before e e2 e3 bank below c.args.steps.now c.add_calls.new.steps both c.in_ok-premises.ensures.grow)

pub add-returns-clause-places : goal.add-returns-clause-places
add-returns-clause-places t c =
    let e = c.args.evaluator.now in
    let e2 = c.first_instance.new.evaluator in
    let e3 = c.add_calls.new.evaluator in
    let bank = c.args.bank.now in
    let mid = c.add_calls.new.steps in
    let old = number_in c.add_calls.new.places in
    let new = number_in c.put.new.places in
    let both = serves_on e c.least_height.new.evaluator e2 bank c.in_ok-below.ensures.serves c.in_ok-first.ensures.serves in
    let step : Step = record { relation = c.args.fact.now.relation; node = c.args.fact.now.node; rule = c.from.result; values = c.in_ok-first.first.slots; premises = c.in_ok-premises.premises } in
    let is_put : IsPut old (fact_of e.signature step) (length mid) new =
    subst (λ s. IsPut old (fact_of s step) (length mid) new) (c.signature.ensures ∙ c.in_ok-premises.ensures.grow.serves.signature ∙ both.signature)
    (subst (λ n. IsPut old (fact_of c.signature.result.now step) n new) c.len-2.ensures c.in_ok-put.ensures) in
    let placed : ArePlaces e.signature mid old = subst (λ s. ArePlaces s mid old) both.signature c.in_ok-premises.ensures.places in
    pushed_placed c.push.result e.signature mid c.push.new.self step new (put_placed e.signature mid step old new is_put placed) c.push.ensures.added

pub add_call-returns-in_err-fact-clause-grow : goal.add_call-returns-in_err-fact-clause-grow
add_call-returns-in_err-fact-clause-grow t c =
    g.grow_none c.args.evaluator.now c.args.evaluator.now c.args.bank.now c.args.height c.args.steps.now c.requires.ready (g.serves_itself c.args.evaluator.now c.args.bank.now c.args.steps.now c.requires.ready)

pub add_calls-loop-atom-init : goal.add_calls-loop-atom-init
add_calls-loop-atom-init t c =
    let e = c.args.evaluator.now in
    let bank = c.args.bank.now in
    let steps = tree_steps bank c.args.steps.now in (
      g.grow_none e e bank c.args.height c.args.steps.now c.requires.ready (g.serves_itself e bank c.args.steps.now c.requires.ready),
      subst (λ ps. AddsCalls (Adds e.signature e.rules c.args.height) e.signature steps [] steps (map (λ (p : StepId). p.0) ps)) (sym c.new-premises.ensures) (calls_none (Adds e.signature e.rules c.args.height) e.signature steps),
      c.requires.places,
    )

pub add_calls-returns-in_err-premise-clause-grow : goal.add_calls-returns-in_err-premise-clause-grow
add_calls-returns-in_err-premise-clause-grow t c =
    g.grow_on c.args.evaluator.now c.loop-atom.evaluator c.add_call.new.evaluator c.args.bank.now c.args.height c.args.steps.now c.loop-atom.steps c.add_call.new.steps c.loop-atom.invariant.0 c.in_err-premise.ensures.grow

pub add_calls-returns-in_err-push-clause-grow : goal.add_calls-returns-in_err-push-clause-grow
add_calls-returns-in_err-push-clause-grow t c =
    g.grow_on c.args.evaluator.now c.loop-atom.evaluator c.add_call.new.evaluator c.args.bank.now c.args.height c.args.steps.now c.loop-atom.steps c.add_call.new.steps c.loop-atom.invariant.0 c.in_ok-premise.ensures.grow
