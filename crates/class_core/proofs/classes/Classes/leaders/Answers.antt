use Rattle.std.proofs.Common.{◌∙◌, ap, sym, subst}
use Rattle.size_core.specs.Lists.{IsListOf, list_at}
use Rattle.class_core.specs.Leaders.{IsLeader}
use Rattle.class_core.proofs.classes.Classes.leaders.Goals as goal

pub returns-clause-exact : goal.returns-clause-exact
returns-clause-exact g c = λ grammar bank stands reached high.
    subst (IsListOf bank (IsLeader grammar (g.L.Lens.same_mark c.args.self.now.lens) c.args.nt) c.args.size) (sym (c.ids_at.ensures ∙ ap (λ levels. list_at levels c.args.nt c.args.size) c.as_slice.ensures))
    (stands.leads c.args.nt reached c.args.size c.requires high)
