use Rattle.std.proofs.Common.{◌∙◌, sym}
use Rattle.sig_core.specs.Names.{same_name}
use Rattle.sig_core.proofs.NameLemmas.{position-map}
use Rattle.sig_core.proofs.names.NameTable.place.Goals as goal

pub returns-clause-value : goal.returns-clause-value
returns-clause-value c = rw (← c.self.view_is) (c.get_index_of.ensures.index ∙ sym (position-map (same_name c.args.name.now) (λ name. name.items) c.self.inside.names.keys))
