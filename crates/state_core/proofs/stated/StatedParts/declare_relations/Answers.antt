use Rattle.std.proofs.Common.{[], map, refl, subst, sym}
use Rattle.std.proofs.lemmas.List.{append-nil}
use Rattle.sig_core.specs.WellFormed.{relation_names}
use Rattle.making_core.specs.Fitting.{RelationsFit}
use Rattle.sort_core.specs.Relations.{relation_of}
use Rattle.name_core.specs.States.{State}
use Rattle.making_core.proofs.Declaring.{relations_fit}
use Rattle.state_core.proofs.stated.StatedParts.declare_relations.Goals as goal

pub add_relations-requires : goal.add_relations-requires
add_relations-requires c =
    let sig = c.args.self.now.signature in
    let P : State → Type 0 = λ s. RelationsFit s.signature (map (relation_of s.signature) c.args.functions.now) in
    subst P (sym c.self.view_is) (relations_fit sig sig [] c.args.functions.now _ refl (sym (append-nil (relation_names sig.relations))) refl c.requires.limits c.requires.names c.requires.sorts)
