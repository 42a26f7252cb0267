use Rattle.std.proofs.Common.{◌≡◌, ◌<◌, ◌+◌, ◌∙◌, length, All, ap, sym, subst, arith}
use Rattle.grammar_core.specs.declared.production.Production.{Production}
use Rattle.grammar_core.specs.Grammars.{IsKnown, Leads, nonterminal_at, production_count}
use Rattle.grammar_core.specs.Languages.{IsGrammarOf, IsProductionOf}
use Rattle.grammar_core.specs.Limits.{KeepsLimits}
use Rattle.grammar_core.specs.Kept.{IsKept}
use Rattle.grammar_core.specs.Marks.{IsClosed, IsClosedBut, MarksReached}
use Rattle.grammar_core.specs.WellFormed.{AllKnown}
use Rattle.grammar_core.proofs.Keeping.{IsGrammar-with_production, IsKept-with_production, KeepsLimits-with_production, all_led, closed_but, same_length, written}
use Rattle.grammar_core.proofs.OfSignature.{kept_with_production}
use Rattle.grammar_core.proofs.grammar.Grammar.add_production.Goals as goal

pub follow-requires : goal.follow-requires
follow-requires c =
    let grammar = c.self.inside.nonterminals.items in
    let n = c.args.nt in
    let made : Production = record { con = c.args.con; args = c.args.args.now } in
    let known : IsKnown grammar n = omega (arith, ap length c.self.view_is, c.requires.nonterminal) in
    let args : All (IsKnown grammar) c.args.args.now = subst (λ g. All (IsKnown g) c.args.args.now) (sym c.self.view_is) c.requires.args in
    let changed = written grammar n c.from-place.result c.index_mut-nonterminal.result.now made c.in_ok-made.made c.push.new.self known c.from-place.ensures c.index_mut-nonterminal.ensures.value c.in_ok-made.ensures c.in_ok-push.ensures.ok in
    let seen = sym (c.as_slice-2.ensures.value ∙ changed) in
    let long = same_length grammar n known made in record {
      fine = c.self.invariant.marked;
      known = subst (λ g. AllKnown g g) seen (IsGrammar-with_production grammar n known made args c.self.invariant.fine).known;
      size = subst (λ g. length c.self.inside.marks.flags ≡ length g) seen (c.self.invariant.size ∙ sym long);
      nonterminal = subst (λ g. IsKnown g n) seen (omega (arith, known, long));
      args = subst (λ g. All (IsKnown g) c.args.args.now) seen (λ k d h. omega (arith, args k d h, long));
      leads = subst (λ g. All (Leads g n) c.args.args.now) seen (all_led grammar n known made);
      closed = subst (λ g. IsClosedBut g c.self.inside.marks.flags n c.args.args.now) seen (closed_but grammar n known made c.self.inside.marks.flags c.self.invariant.closed);
    }

pub invariant_of-self-2 : goal.invariant_of-self-2
invariant_of-self-2 c =
    let grammar = c.self.inside.nonterminals.items in
    let made : Production = record { con = c.args.con; args = c.args.args.now } in
    let known : IsKnown grammar c.args.nt = omega (arith, ap length c.self.view_is, c.requires.nonterminal) in
    let args : All (IsKnown grammar) c.args.args.now = subst (λ g. All (IsKnown g) c.args.args.now) (sym c.self.view_is) c.requires.args in
    let changed = written grammar c.args.nt c.from-place.result c.index_mut-nonterminal.result.now made c.in_ok-made.made c.push.new.self known c.from-place.ensures c.index_mut-nonterminal.ensures.value c.in_ok-made.ensures c.in_ok-push.ensures.ok in
    let seen = c.as_slice-2.ensures.value ∙ changed in
    let old = c.self.inside.marks in
    let new = c.follow.new.self in
    let reached = subst (λ g. MarksReached g old.flags → MarksReached g new.flags) seen c.follow.ensures.reached in
    let closed = subst (λ g. IsClosed g new.flags) seen c.follow.ensures.closed in
    subst (λ g. IsKept g (c.self.inside.count + 1) new) (sym changed)
    (IsKept-with_production grammar c.args.nt known made c.self.inside.count old new c.self.invariant args c.follow.ensures.fine c.follow.ensures.size c.follow.ensures.kept reached closed)

pub returns-clause-of_signature : goal.returns-clause-of_signature
returns-clause-of_signature c =
    let sig = c.args.signature.now in
    let grammar = c.self.inside.nonterminals.items in
    let made : Production = record { con = c.args.con; args = c.args.args.now } in
    let known : IsKnown grammar c.args.nt = omega (arith, ap length c.self.view_is, c.requires.nonterminal) in
    let args : All (IsKnown grammar) c.args.args.now = subst (λ g. All (IsKnown g) c.args.args.now) (sym c.self.view_is) c.requires.args in
    let changed = written grammar c.args.nt c.from-place.result c.index_mut-nonterminal.result.now made c.in_ok-made.made c.push.new.self known c.from-place.ensures c.index_mut-nonterminal.ensures.value c.in_ok-made.ensures c.in_ok-push.ensures.ok in
    let fits : IsProductionOf sig grammar (nonterminal_at grammar c.args.nt).owner made = subst (λ g. IsProductionOf sig g (nonterminal_at g c.args.nt).owner made) c.as_slice.ensures.value (sym c.makes.ensures ∙ c.if-not-makes.false) in
    λ all. subst (IsGrammarOf sig) (sym changed) (kept_with_production sig grammar c.args.nt known made c.self.invariant.fine.known args fits (subst (IsGrammarOf sig) (sym c.self.view_is) all))

pub returns-clause-limits : goal.returns-clause-limits
returns-clause-limits c =
    let grammar = c.self.inside.nonterminals.items in
    let made : Production = record { con = c.args.con; args = c.args.args.now } in
    let known : IsKnown grammar c.args.nt = omega (arith, ap length c.self.view_is, c.requires.nonterminal) in
    let changed = written grammar c.args.nt c.from-place.result c.index_mut-nonterminal.result.now made c.in_ok-made.made c.push.new.self known c.from-place.ensures c.index_mut-nonterminal.ensures.value c.in_ok-made.ensures c.in_ok-push.ensures.ok in
    let room : production_count grammar < 4096 = omega (arith, c.self.invariant.counted, c.if-self-ge4096.false) in
    λ limits. subst KeepsLimits (sym changed) (KeepsLimits-with_production grammar c.args.nt known made room (subst KeepsLimits (sym c.self.view_is) limits))
