use Rattle.std.proofs.Common.{◌≡◌, Some, take, length, slice_get, sym, ap, subst, arith}
use Rattle.std.specs.Map.{lookup}
use Rattle.std.proofs.lemmas.List.{take_all, length-take-le}
use Rattle.std.proofs.lemmas.Option.{slice_get_within}
use Rattle.deriv_core.specs.contracts.parts.FactPartialEq.TheImpl.{ghosts as fact_equality}
use Rattle.extract_core.specs.Places.{ArePlaces, IsPut, fact_of, number_in}
use Rattle.extract_core.proofs.Placing.{none_placed, put_placed, take_push}
use Rattle.extract_core.proofs.places.places_of.Goals as goal

pub loop-number-preserved : goal.loop-number-preserved
loop-number-preserved c =
    let sig = c.args.signature.now in
    let steps = c.args.steps.now in
    let n = c.loop-number.number in
    let step = c.in-Some.step.now in
    let at : slice_get steps n ≡ Some step = sym c.in-Some.ensures in
    let within = slice_get_within steps n step at in
    let count : length (take n steps) ≡ n = length-take-le n steps (omega arith) in
    let is_put : IsPut (number_in c.loop-number.places) (fact_of sig step) (length (take n steps)) (number_in c.put.new.places) =
    subst (λ m. IsPut (number_in c.loop-number.places) (fact_of sig step) m (number_in c.put.new.places)) (sym count) c.in_ok-put.ensures in
    subst (λ some. ArePlaces sig some (number_in c.put.new.places)) (sym (take_push steps n step at))
    (put_placed sig (take n steps) step (number_in c.loop-number.places) (number_in c.put.new.places) is_put c.loop-number.invariant)

pub loop-number-init : goal.loop-number-init
loop-number-init c = none_placed c.args.signature.now (number_in c.new-places.result) (λ fact. ap (λ es. lookup (fact_equality.eq fact) es) c.new-places.ensures.empty)

pub returns : goal.returns
returns c =
    let steps = c.args.steps.now in
    subst (λ some. ArePlaces c.args.signature.now some (number_in c.loop-number.places)) (take_all c.loop-number.number steps (omega arith)) c.loop-number.invariant
