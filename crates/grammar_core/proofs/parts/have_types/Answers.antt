use Rattle.std.proofs.Common.{◌+◌, ◌<◌, ◌∙◌, ◌&&◌, length, drop, get_or, ap, sym, arith, nat_eq}
use lib.Pointwise.{pointwise}
use Rattle.std.proofs.lemmas.List.{get_or_read}
use Rattle.sig_core.specs.declared.ids.TypeId.{TypeId}
use Rattle.grammar_core.specs.declared.ids.NtId.{NtId}
use Rattle.grammar_core.specs.Grammars.{blank, nonterminal_at, Nonterminal}
use Rattle.grammar_core.specs.Refusals.{same_type}
use Rattle.grammar_core.proofs.Marking.{differs}
use Rattle.grammar_core.proofs.Pointwise.{pointwise_at}
use Rattle.grammar_core.proofs.parts.have_types.Goals as goal

pub returns-then-ne : goal.returns-then-ne
returns-then-ne c =
    let grammar = c.args.grammar.now in
    let types = c.args.types.now in
    let args = c.args.args.now in
    let i = c.loop-i.i in
    let t : TypeId = get_or types i (record { 0 = 0 }) in
    let n : NtId = get_or args i (record { 0 = 0 }) in
    let fits = λ (t : TypeId) (n : NtId). same_type t (nonterminal_at grammar n).owner in
    let in_types : i < length types = c.loop-i-test.true in
    let in_args : i < length args = omega arith in
    let within : c.from.result < length grammar = omega (arith, c.from.ensures, c.requires i (record { 0 = 0 }) in_args) in
    let read = c.index-grammar-from.is ∙ sym c.index-grammar-from.is ∙ get_or_read grammar c.from.result c.index-grammar-from.result within c.index-grammar-from.is blank ∙ ap (λ k. get_or grammar k blank) c.from.ensures in
    let other = sym (ap (λ (x : Nonterminal). nat_eq t.0 x.owner.0) (sym c.index-grammar-from.is ∙ read)) ∙ differs _ c.ne.result c.if-ne.true c.ne.ensures in
    sym (sym c.loop-i.invariant ∙ pointwise_at fits types args i (record { 0 = 0 }) (record { 0 = 0 }) in_types in_args ∙ ap (λ b. b && pointwise fits (drop (i + 1) types) (drop (i + 1) args)) other)
