use Rattle.std.proofs.Common.{◌≡◌, [], ◌∷◌, ◌++◌, ◌∙◌, sym, ap, None}
use Rattle.std.proofs.lemmas.List.{map-append}
use Rattle.sig_core.specs.declared.signature.Constructor.{Constructor}
use Rattle.sig_core.specs.Signatures.{Declarations}
use Rattle.sig_core.specs.Refusals.{constructor_refusal}
use Rattle.sig_core.proofs.SignatureLemmas.{is_none, IsWellFormed-with_constructor}
use Rattle.sig_core.proofs.signature.Signature.add_constructor.Goals as goal

pub invariant_of-self-2 : goal.invariant_of-self-2
invariant_of-self-2 c =
    let inside = c.self.inside in
    let sig : Declarations = record { types = inside.types; constructors = inside.constructors; relations = inside.relations } in
    let made : Constructor = record { name = c.args.name.now; owner = c.args.owner; args = c.args.args.now } in
    let fine : constructor_refusal sig c.args.name.now c.args.args.now ≡ None = rw (← c.self.view_is) at (sym c.constructor_refusal.ensures ∙ is_none c.constructor_refusal.result c.in_default.not-Some) in
    let kept = c.in_ok-made.ensures in
    let key = c.in_ok-key.ensures in
    let pushed = c.in_ok-push_named.ensures.ok in
    let known = rw (← c.self.view_is) at c.requires in
    rw (pushed.0, pushed.1, kept, key) (
      IsWellFormed-with_constructor sig made c.self.invariant.0 fine (record { owner = known.owner; args = known.args }) known.rising,
      c.self.invariant.1,
      ap (λ names. names ++ made.name ∷ []) c.self.invariant.2 ∙ sym (map-append (λ (c : Constructor). c.name) inside.constructors (made ∷ [])),
      c.self.invariant.3,
    )
