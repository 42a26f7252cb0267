use Rattle.std.proofs.Common.{rules as std_rules, ◌≡◌, ◌-◌, ◌+◌, ◌<◌, ◌≤◌, ◌++◌, [], ◌∷◌, suc, List, length, drop, filter, nat_le, All, Contains, Result, Ok, Err, OnOk, sym, ap, ◌∙◌, subst, arith}
use Rattle.std.specs.List.{flat_map}
use Rattle.std.proofs.lemmas.List.{take_all, drop_all, drop_more}
use Rattle.std.proofs.lemmas.List.Elements.{All-weaker}
use Rattle.std.proofs.lemmas.Option.{slice_get_within, get_or_from_slice_get}
use Rattle.std.proofs.lemmas.Result.{IfOk-weaker}
use Rattle.rule_core.specs.declared.rule.Rule.{Rule}
use Rattle.rule_core.specs.Instances.{term_at}
use Rattle.rule_core.specs.Rulebooks.{rules_for}
use Rattle.term_core.specs.Banks.{tree_of}
use Rattle.eval_core.specs.declared.outcome.Outcome.{Outcome}
use Rattle.eval_core.specs.declared.run.Run.{Run}
use Rattle.eval_core.specs.declared.table.Key.{Key}
use Rattle.eval_core.specs.declared.table.Kept.{Kept}
use Rattle.eval_core.specs.Evaluations.{IsTrueOf}
use Rattle.eval_core.specs.Merging.{merged}
use Rattle.eval_core.specs.Outcomes.{AreInputs}
use Rattle.eval_core.specs.Runs.{after_atoms, after_call, first_run, outcomes_at, outcomes_of_rule}
use Rattle.eval_core.specs.Searches.{IsReady, IsReadyFor}
use Rattle.eval_core.specs.Tables.{entry_of, IsKept}
use Rattle.eval_core.proofs.Heights.{IsLow, runs_low, outcomes_at-zero, outcomes_at-suc}
use Rattle.eval_core.proofs.Lists.{at_item}
use Rattle.eval_core.proofs.Readiness.{HaveFlow, first_flow, all_ready, next_flow}
use Rattle.eval_core.proofs.Rightness.{IsListed, are_right, listed}
use Rattle.eval_core.proofs.RunLists.{no_callee, more_pieces, next_atom, no_atoms, one_run}
use Rattle.eval_core.proofs.TableLemmas.{grown_true, cut_entry, made_entry}
use Rattle.eval_core.proofs.search.Search.+outcomes.Goals as goal

on_ok : {A B : Type 0} (r : Result A B) (P : Type 0) → P → OnOk r P
on_ok (Ok a) P p = p
on_ok (Err e) P p = tt

pub after_atom-after_call-requires : goal.after_atom-after_call-requires
after_atom-after_call-requires t c =
    let own = c.args.self.now in
    (search std_rules, (c.requires.accepted, (c.requires.live, (c.requires.table, subst (λ a. All (IsReady own.signature.now a) c.args.runs) c.in-Call.is c.requires.ready))))

pub after_call-returns-in_default-clause-runs : goal.after_call-returns-in_default-clause-runs
after_call-returns-in_default-clause-runs t c =
    let own = c.args.self.now in
    no_callee (outcomes_at own.signature.now own.rulebook.now c.args.below) (term_at (tree_of own.bank.now c.args.id) c.args.call.now.who) c.args.call.now c.args.runs c.new-next.result c.in_default.ensures c.new-next.ensures

pub after_call-put_call-requires : goal.after_call-put_call-requires
after_call-put_call-requires t c =
    let own = c.args.self.now in (
      search std_rules,
      (
        c.requires.accepted,
        (
          c.in-Some.ensures.0,
          (
            c.loop-run.invariant.1,
            at_item (IsReadyFor own.signature.now c.args.call.now) c.args.runs c.as_slice-run-items.result.now c.loop-run.run-index c.run-item.result c.as_slice-run-items.ensures c.loop-run-test.true c.run-item.is c.requires.ready,
          ),
        ),
      ),
    )

pub after_call-loop-run-preserved : goal.after_call-loop-run-preserved
after_call-loop-run-preserved t c =
    let own = c.args.self.now in (
      more_pieces (after_call (outcomes_at own.signature.now own.rulebook.now c.args.below) (tree_of own.bank.now c.in-Some.callee) c.args.call.now)
          c.as_slice-run-items.result.now c.loop-run.run-index c.run-item.result c.loop-run.next c.put_call.new.next c.loop-run-test.true c.run-item.is c.in_ok-put_call.ensures.runs c.loop-run.invariant.0,
      c.in_ok-put_call.ensures.table,
    )

pub find-put_rule-requires : goal.find-put_rule-requires
find-put_rule-requires t c =
    let own = c.args.self.now in
    let is : IsListed own.signature.now own.rulebook.now c.args.relation c.con-con.result c.in-Some.rule.now = listed own.signature.now own.rulebook.now c.args.relation c.con-con.result c.loop-k.k c.in-Some.rule.now c.requires.accepted (sym c.in-Some.ensures) in
    let positive = c.requires.positive in
    (search std_rules, (c.requires.accepted, (c.requires.live, (c.loop-k.invariant.1, (is.accepted, (subst (λ r. AreInputs own.signature.now r c.args.inputs.now) (sym is.relation) c.requires.inputs, omega arith))))))

pub find-loop-k-preserved : goal.find-loop-k-preserved
find-loop-k-preserved t c =
    let own = c.args.self.now in
    let rules = rules_for own.rulebook.now c.args.relation c.con-con.result in (
      more_pieces (outcomes_of_rule own.signature.now (outcomes_at own.signature.now own.rulebook.now (c.args.height - 1)) (tree_of own.bank.now c.args.id) c.args.inputs.now)
          rules c.loop-k.k c.in-Some.rule.now c.loop-k.found c.put_rule.new.found (slice_get_within rules c.loop-k.k c.in-Some.rule.now (sym c.in-Some.ensures))
          (sym (get_or_from_slice_get rules c.loop-k.k c.in-Some.rule.now c.in-Some.rule.now (sym c.in-Some.ensures))) c.in_ok-put_rule.ensures.outcomes c.loop-k.invariant.0,
      c.in_ok-put_rule.ensures.table,
    )

pub find-returns-clause-outcomes : goal.find-returns-clause-outcomes
find-returns-clause-outcomes t c =
    let own = c.args.self.now in
    let tree = tree_of own.bank.now c.args.id in
    let below = c.args.height - 1 in
    let answers = outcomes_at own.signature.now own.rulebook.now in
    let rules = rules_for own.rulebook.now c.args.relation c.con-con.result in
    let positive = c.requires.positive in
    let up : suc below ≡ c.args.height = omega arith in
    let count : c.count-k-end.result ≡ length rules = c.count-k-end.ensures in
    let ends : c.count-k-end.result ≤ c.loop-k.k = c.loop-k-test.false in
    let of_rules = λ (list : List Rule). merged (flat_map (outcomes_of_rule own.signature.now (answers below) tree c.args.inputs.now) list) in
    IfOk-weaker c.merge.result (λ list. list ≡ merged c.loop-k.found) (λ list. list ≡ answers c.args.height c.args.relation tree c.args.inputs.now)
    (λ list e. e ∙ ap merged c.loop-k.invariant.0 ∙ ap of_rules (take_all c.loop-k.k rules (omega arith)) ∙ ap (λ con. of_rules (rules_for own.rulebook.now c.args.relation con)) c.con-con.ensures
    ∙ sym (outcomes_at-suc own.signature.now own.rulebook.now below c.args.relation tree c.args.inputs.now) ∙ ap (λ h. answers h c.args.relation tree c.args.inputs.now) up) c.merge.ensures

pub outcomes-returns-then-height-eq0-clause-outcomes : goal.outcomes-returns-then-height-eq0-clause-outcomes
outcomes-returns-then-height-eq0-clause-outcomes t c =
    let own = c.args.self.now in
    c.new.ensures ∙ sym (ap (λ h. outcomes_at own.signature.now own.rulebook.now h c.args.relation (tree_of own.bank.now c.args.id) c.args.inputs.now) c.if-height-eq0.true
    ∙ outcomes_at-zero own.signature.now own.rulebook.now c.args.relation (tree_of own.bank.now c.args.id) c.args.inputs.now)

pub outcomes-returns-in-Some-clause-outcomes : goal.outcomes-returns-in-Some-clause-outcomes
outcomes-returns-in-Some-clause-outcomes t c =
    let own = c.args.self.now in
    let key = c.in_ok-key.key in
    let kept = c.in-Some.kept.now in
    let of_key = λ (k : Key). outcomes_at own.signature.now own.rulebook.now c.args.height k.relation (tree_of own.bank.now k.term) k.inputs in
    IfOk-weaker c.cut.result (λ list. list ≡ filter (λ (o : Outcome). nat_le o.height c.args.height) kept.outcomes) (λ list. list ≡ outcomes_at own.signature.now own.rulebook.now c.args.height c.args.relation (tree_of own.bank.now c.args.id) c.args.inputs.now)
    (λ list e. e ∙ cut_entry own.signature.now own.rulebook.now c.requires.accepted own.bank.now c.args.table.now key kept c.args.height c.requires.table c.in-Some.ensures.listed c.in-Some.ensures.reaches ∙ ap of_key c.in_ok-key.ensures) c.cut.ensures

pub outcomes-returns-in-Some-clause-kept : goal.outcomes-returns-in-Some-clause-kept
outcomes-returns-in-Some-clause-kept t c =
    let kept = c.in-Some.kept.now in
    let one : IsKept c.args.table.now c.args.relation c.args.id c.args.inputs.now c.args.height = record {
      reach = kept.height;
      outcomes = kept.outcomes;
      listed = subst (λ (k : Key). Contains c.args.table.now (entry_of (k, kept))) c.in_ok-key.ensures c.in-Some.ensures.listed;
      reaches = c.in-Some.ensures.reaches;
    } in
    on_ok c.cut.result (1 ≤ c.args.height → IsKept c.args.table.now c.args.relation c.args.id c.args.inputs.now c.args.height) (λ _. one)

pub outcomes-returns-clause-kept : goal.outcomes-returns-clause-kept
outcomes-returns-clause-kept t c =
    let kept : Kept = record { height = c.args.height; outcomes = c.in_ok-copy_of.field-0 } in
    λ _. record {
      reach = c.args.height;
      outcomes = c.in_ok-copy_of.field-0;
      listed = subst (λ (k : Key). Contains c.put.new.self (entry_of (k, kept))) c.in_ok-key.ensures c.in_ok-put.ensures.ok.there;
      reaches = omega arith;
    }

pub outcomes-returns-clause-table : goal.outcomes-returns-clause-table
outcomes-returns-clause-table t c =
    let own = c.args.self.now in
    let kept : Kept = record { height = c.args.height; outcomes = c.in_ok-copy_of.field-0 } in
    let one : IsTrueOf own.signature.now own.rulebook.now own.bank.now (entry_of (c.in_ok-key.key, kept)) =
    subst (λ (k : Key). IsTrueOf own.signature.now own.rulebook.now own.bank.now (entry_of (k, kept))) (sym c.in_ok-key.ensures)
    (made_entry own.signature.now own.rulebook.now c.requires.accepted own.bank.now c.args.relation c.args.id c.args.inputs.now c.args.height c.in_ok-copy_of.field-0 c.requires.live c.requires.inputs
    (c.in_ok-copy_of.ensures ∙ c.as_slice.ensures ∙ c.in_ok-outcomes.ensures.outcomes)) in
    grown_true own.signature.now own.rulebook.now c.requires.accepted own.bank.now _ c.put.new.self (entry_of (c.in_ok-key.key, kept)) c.in_ok-put.ensures.ok c.in_ok-outcomes.ensures.table one

pub put_rule-put_outcomes-requires : goal.put_rule-put_outcomes-requires
put_rule-put_outcomes-requires t c =
    let own = c.args.self.now in
    let below : c.args.below < 4294967295 = c.requires.below in
    let low = runs_low own.signature.now own.rulebook.now c.args.below (tree_of own.bank.now c.args.id) c.args.inputs.now c.args.rule.now in
    subst (All (λ (run : Run). run.height < 4294967295)) (sym (c.as_slice.ensures ∙ c.in_ok-runs.ensures.runs))
    (All-weaker (IsLow c.args.below) (λ (run : Run). run.height < 4294967295) (λ run l. omega arith) _ low)

pub runs-loop-atom-init : goal.runs-loop-atom-init
runs-loop-atom-init t c =
    let own = c.args.self.now in
    let first = first_run own.signature.now c.args.rule.now c.args.inputs.now in
    let answers = outcomes_at own.signature.now own.rulebook.now c.args.below in
    let tree = tree_of own.bank.now c.args.id in
    let only : c.push.new.self ≡ first ∷ [] = c.in_ok-push.ensures.ok ∙ ap (λ runs. runs ++ c.in_ok-first.field-0 ∷ []) c.new-runs.ensures ∙ ap (λ run. run ∷ []) c.in_ok-first.ensures in
    let atoms = sym c.as_slice-atom-items.ensures in (
      subst (λ some. flat_map (after_atoms answers tree some) c.push.new.self ≡ after_atoms answers tree c.args.rule.now.atoms first) atoms (one_run answers tree c.args.rule.now.atoms first c.push.new.self only),
      subst (λ some. HaveFlow own.signature.now c.args.rule.now some c.push.new.self) atoms (subst (HaveFlow own.signature.now c.args.rule.now c.args.rule.now.atoms) (sym only) (first_flow own.signature.now c.args.rule.now c.args.inputs.now c.requires.rule.flows c.requires.inputs)),
      c.requires.table,
    )

pub runs-after_atom-requires : goal.runs-after_atom-requires
runs-after_atom-requires t c =
    let own = c.args.self.now in
    let items = c.as_slice-atom-items.result.now in
    let i = c.loop-atom.atom-index in
    let here : drop i items ≡ c.atom-item.result ∷ drop (i + 1) items = drop_more items i c.atom-item.result c.loop-atom-test.true ∙ ap (λ a. a ∷ drop (i + 1) items) (sym c.atom-item.is) in (
      search std_rules,
      (
        c.requires.accepted,
        (
          c.requires.live,
          (
            c.loop-atom.invariant.2,
            all_ready own.signature.now c.args.rule.now c.atom-item.result (drop (i + 1) items) c.loop-atom.runs (subst (λ some. HaveFlow own.signature.now c.args.rule.now some c.loop-atom.runs) here c.loop-atom.invariant.1),
          ),
        ),
      ),
    )

pub runs-loop-atom-preserved : goal.runs-loop-atom-preserved
runs-loop-atom-preserved t c =
    let own = c.args.self.now in
    let answers = outcomes_at own.signature.now own.rulebook.now c.args.below in
    let tree = tree_of own.bank.now c.args.id in
    let items = c.as_slice-atom-items.result.now in
    let i = c.loop-atom.atom-index in
    let here : drop i items ≡ c.atom-item.result ∷ drop (i + 1) items = drop_more items i c.atom-item.result c.loop-atom-test.true ∙ ap (λ a. a ∷ drop (i + 1) items) (sym c.atom-item.is) in (
      next_atom answers tree items i c.atom-item.result c.loop-atom.runs c.in_ok-runs.runs
          (after_atoms answers tree c.args.rule.now.atoms (first_run own.signature.now c.args.rule.now c.args.inputs.now)) c.loop-atom-test.true c.atom-item.is c.in_ok-runs.ensures.runs c.loop-atom.invariant.0,
      subst (HaveFlow own.signature.now c.args.rule.now (drop (i + 1) items)) (sym c.in_ok-runs.ensures.runs)
          (next_flow own.signature.now own.rulebook.now c.args.below answers (are_right own.signature.now own.rulebook.now c.requires.accepted c.args.below) c.args.rule.now tree c.atom-item.result (drop (i + 1) items) c.loop-atom.runs
          (subst (λ some. HaveFlow own.signature.now c.args.rule.now some c.loop-atom.runs) here c.loop-atom.invariant.1)),
      c.in_ok-runs.ensures.table,
    )

pub runs-returns-clause-runs : goal.runs-returns-clause-runs
runs-returns-clause-runs t c =
    let own = c.args.self.now in
    let answers = outcomes_at own.signature.now own.rulebook.now c.args.below in
    let tree = tree_of own.bank.now c.args.id in
    let atoms = c.as_slice-atom-items.result.now in
    let ends : length atoms ≤ c.loop-atom.atom-index = c.loop-atom-test.false in
    sym (no_atoms answers tree c.loop-atom.runs) ∙ ap (λ rest. flat_map (after_atoms answers tree rest) c.loop-atom.runs) (sym (drop_all c.loop-atom.atom-index atoms ends)) ∙ c.loop-atom.invariant.0
