use Rattle.std.proofs.Common.{◌≡◌, Bool, true, false, take, refl, sym, ap, ◌∙◌}
use Rattle.std.proofs.lemmas.List.{take_all}
use Rattle.std.proofs.lemmas.List.Elements.{All-get_or, All-more, All-same}
use Rattle.tables.specs.Tables.{places}
use Rattle.rule_core.specs.Flow.{HandsOnAt}
use Rattle.rule_core.specs.Numbers.{is_with}
use Rattle.rule_core.proofs.Handed.{handed_by_number, handed_by_rule}
use Rattle.rule_core.proofs.rulebook.Rulebook.hands_on.Goals as goal

pub loop-number-preserved : goal.loop-number-preserved
loop-number-preserved c =
    All-more (HandsOnAt c.args.signature.now c.args.self.now c.args.i) c.list_at-number-items.result.now c.loop-number.number-index 0 c.loop-number-test.true c.loop-number.invariant
    (c.hands_on_by.ensures.0 c.if-not-hands_on_by.false)

pub returns-then-not-hands_on_by : goal.returns-then-not-hands_on_by
returns-then-not-hands_on_by c =
    let rules = c.args.self.now in
    let at = HandsOnAt c.args.signature.now rules c.args.i in
    let numbers = places (is_with c.args.con.0) 0 rules in
    let are : c.list_at-number-items.result.now ≡ numbers =
    c.list_at-number-items.ensures ∙ c.self.invariant.1.of_constructors c.args.con.0 ∙ ap (places (is_with c.args.con.0) 0) c.self.view_is in (
      λ (e : ◌≡◌ {A = Bool} false true). absurd (cc),
      λ h.
          let here = All-get_or at c.list_at-number-items.result.now c.loop-number.number-index 0 c.loop-number-test.true
          (All-same at c.list_at-number-items.result.now numbers are (handed_by_number c.args.signature.now rules c.args.con c.args.i h)) in
          let said : c.hands_on_by.result ≡ true = c.hands_on_by.ensures.1 here in
          cc,
    )

pub returns : goal.returns
returns c =
    let rules = c.args.self.now in
    let at = HandsOnAt c.args.signature.now rules c.args.i in
    let items = c.list_at-number-items.result.now in
    let numbers = places (is_with c.args.con.0) 0 rules in
    let are : numbers ≡ take c.loop-number.number-index items =
    sym (c.list_at-number-items.ensures ∙ c.self.invariant.1.of_constructors c.args.con.0 ∙ ap (places (is_with c.args.con.0) 0) c.self.view_is)
    ∙ sym (take_all c.loop-number.number-index items c.loop-number-test.false) in (
      λ _. handed_by_rule c.args.signature.now rules c.args.con c.args.i (All-same at numbers (take c.loop-number.number-index items) are c.loop-number.invariant),
      λ _. refl,
    )
