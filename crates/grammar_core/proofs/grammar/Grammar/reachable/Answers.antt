use Rattle.std.proofs.Common.{◌<◌, ◌∙◌, length, ap, sym, subst, refl, arith}
use Rattle.grammar_core.specs.Grammars.{Reaches, start}
use Rattle.grammar_core.proofs.Keeping.{marks_tell}
use Rattle.grammar_core.proofs.grammar.Grammar.reachable.Goals as goal

pub returns : goal.returns
returns c =
    let marks = c.self.inside.marks in
    let some : 0 < length c.self.inside.nonterminals.items = omega (arith, ap length c.self.view_is, c.requires) in (
      λ h. subst (λ g. Reaches g start c.args.nt) c.self.view_is (c.self.invariant.reached c.args.nt (sym c.has.ensures ∙ h)),
      λ h. c.has.ensures ∙ marks_tell c.self.inside.nonterminals.items c.self.inside.count marks c.self.invariant some (subst (λ g. Reaches g start c.args.nt) (sym c.self.view_is) h) refl,
    )
