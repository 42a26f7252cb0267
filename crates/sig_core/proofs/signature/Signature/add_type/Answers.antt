use Rattle.std.proofs.Common.{◌≡◌, ◌∙◌, sym, None}
use Rattle.sig_core.specs.Signatures.{Declarations}
use Rattle.sig_core.specs.Refusals.{type_refusal}
use Rattle.sig_core.proofs.SignatureLemmas.{is_none, IsWellFormed-with_type}
use Rattle.sig_core.proofs.signature.Signature.add_type.Goals as goal

pub invariant_of-self-2 : goal.invariant_of-self-2
invariant_of-self-2 c =
    let inside = c.self.inside in
    let sig : Declarations = record { types = inside.types; constructors = inside.constructors; relations = inside.relations } in
    let fine : type_refusal sig c.args.name.now ≡ None = rw (← c.self.view_is) at (sym c.type_refusal.ensures ∙ is_none c.type_refusal.result c.in_default.not-Some) in
    let kept = c.in_ok-kept.ensures in
    let key = c.in_ok-key.ensures in
    let pushed = c.in_ok-push_named.ensures.ok in
    rw (pushed.0, pushed.1, kept, key) (IsWellFormed-with_type sig c.args.name.now c.self.invariant.0 fine, rw c.self.invariant.1, c.self.invariant.2, c.self.invariant.3)
