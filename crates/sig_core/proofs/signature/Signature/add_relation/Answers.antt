use Rattle.std.proofs.Common.{◌≡◌, [], ◌∷◌, ◌++◌, ◌∙◌, sym, ap, None}
use Rattle.std.proofs.lemmas.List.{map-append}
use Rattle.sig_core.specs.declared.signature.Relation.{Relation}
use Rattle.sig_core.specs.Signatures.{Declarations}
use Rattle.sig_core.specs.Refusals.{relation_refusal}
use Rattle.sig_core.proofs.SignatureLemmas.{is_none, IsWellFormed-with_relation}
use Rattle.sig_core.proofs.signature.Signature.add_relation.Goals as goal

pub invariant_of-self-2 : goal.invariant_of-self-2
invariant_of-self-2 c =
    let inside = c.self.inside in
    let sig : Declarations = record { types = inside.types; constructors = inside.constructors; relations = inside.relations } in
    let fine : relation_refusal sig c.args.relation ≡ None = rw (← c.self.view_is) at (sym c.relation_refusal.ensures ∙ is_none c.relation_refusal.result c.in_default.not-Some) in
    let key = c.in_ok-key.ensures in
    let pushed = c.in_ok-push_named.ensures.ok in
    let fits = rw (← c.self.view_is) at c.requires in
    rw (pushed.0, pushed.1, key) (
      IsWellFormed-with_relation sig c.args.relation c.self.invariant.0 fine fits,
      c.self.invariant.1,
      c.self.invariant.2,
      ap (λ names. names ++ c.args.relation.name ∷ []) c.self.invariant.3 ∙ sym (map-append (λ (r : Relation). r.name) inside.relations (c.args.relation ∷ [])),
    )
