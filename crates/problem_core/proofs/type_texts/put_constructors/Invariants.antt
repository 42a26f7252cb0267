use Rattle.std.specs.Prelude.{◌≤◌, drop, filter, nat_eq}
use Rattle.sig_core.specs.declared.signature.Constructor.{Constructor}
use Rattle.problem_core.specs.Texts.{constructor_form}
use Rattle.problem_core.proofs.Loops.{Left}
use Rattle.problem_core.proofs.type_texts.put_constructors.Given as goal

abbrev pub invariant-loop-k : goal.invariant-loop-k
invariant-loop-k l =
    let of_type = λ (c : Constructor). nat_eq c.owner.0 l.t in
    (l.place ≤ l.k) × Left (constructor_form l.signature) (filter of_type l.signature.constructors) l.place (filter of_type (drop l.k l.signature.constructors)) l.fn.out l.out
