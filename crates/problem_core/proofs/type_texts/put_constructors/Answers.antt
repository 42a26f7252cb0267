use Rattle.std.proofs.Common.{◌≡◌, ◌<◌, ◌+◌, ◌∷◌, length, drop, ap, arith}
use Rattle.std.specs.Prelude.{filter, nat_eq}
use Rattle.std.proofs.lemmas.Bool.{eq-eqb, ne_eqb}
use Rattle.std.proofs.lemmas.List.{drop_all}
use Rattle.sig_core.specs.declared.signature.Constructor.{Constructor}
use Rattle.problem_core.specs.Texts.{constructor_form}
use Rattle.problem_core.proofs.Kept.{kept_at, left_out, put_kept, put_none}
use Rattle.problem_core.proofs.Loops.{drop_at, put_all}
use Rattle.problem_core.proofs.type_texts.put_constructors.Goals as goal
use Rattle.problem_core.proofs.type_texts.put_constructors.Goals.{then-constructor-t+in_ok-put_gap+in_ok-put_constructor, else-constructor-t}

pub loop-k-preserved : goal.loop-k-preserved
loop-k-preserved c =
    let xs = c.args.signature.now.constructors in
    let i = c.loop-k.k in
    let x = c.constructor-constructor.result.now in
    let form = constructor_form c.args.signature.now in
    let of_type = λ (d : Constructor). nat_eq d.owner.0 c.args.t in
    let within : i < length xs = omega (arith, c.constructors-k-end.ensures.value, c.loop-k-test.true) in
    let here : drop i xs ≡ x ∷ drop (i + 1) xs = drop_at xs i x within c.constructor-constructor.ensures in
    elim c.if-constructor-t.branch [
      | then-constructor-t+in_ok-put_gap+in_ok-put_constructor w ↦ (
        omega (arith, c.loop-k.invariant.0, w.place-is),
        put_kept form (filter of_type xs) c.loop-k.place x (filter of_type (drop i xs)) (filter of_type (drop (i + 1) xs)) c.args.out.now c.loop-k.out w.put_gap.new.out w.put_constructor.new.out
            (kept_at of_type x (drop i xs) (drop (i + 1) xs) here (eq-eqb x.owner.0 c.args.t w.if-constructor-t.true)) c.loop-k.invariant.1 w.in_ok-put_gap.ensures w.in_ok-put_constructor.ensures w.place-is w.out-is,
      )
      | else-constructor-t w ↦ (
        omega (arith, c.loop-k.invariant.0, w.place-is),
        put_none form (filter of_type xs) c.loop-k.place (filter of_type (drop i xs)) (filter of_type (drop (i + 1) xs)) c.args.out.now c.loop-k.out
            (left_out of_type x (drop i xs) (drop (i + 1) xs) here (ne_eqb x.owner.0 c.args.t w.if-constructor-t.false)) c.loop-k.invariant.1 w.place-is w.out-is,
      )
    ]

pub returns : goal.returns
returns c =
    let xs = c.args.signature.now.constructors in
    let k = c.loop-k.k in
    let of_type = λ (d : Constructor). nat_eq d.owner.0 c.args.t in
    put_all (constructor_form c.args.signature.now) (filter of_type xs) c.loop-k.place (filter of_type (drop k xs)) c.args.out.now c.loop-k.out
    (ap (filter of_type) (drop_all k xs (omega (arith, c.constructors-k-end.ensures.value, c.loop-k-test.false)))) c.loop-k.invariant.1
