use Rattle.std.proofs.Common.{◌∙◌, ap, sym, subst}
use Rattle.size_core.specs.Lists.{IsListOfSize, list_at}
use Rattle.size_core.proofs.lists.SizeLists.list.Goals as goal

pub returns-clause-exact : goal.returns-clause-exact
returns-clause-exact c = λ grammar bank stands reached high.
    subst (IsListOfSize grammar bank c.args.nt c.args.size) (sym (c.ids_at.ensures ∙ ap (λ levels. list_at levels c.args.nt c.args.size) (c.as_slice.ensures ∙ c.self.view_is)))
    (stands c.args.nt reached c.args.size c.requires high)
