-- Terms of the shifts.
use Rattle.std.proofs.Common.{◌≡◌, ◌<◌, ℕ, zero, suc, [], ◌∷◌, refl, arith}
use Rattle.std.proofs.lemmas.List.Sums.{sum_by-cons}
use Rattle.sig_core.specs.declared.ids.ConId.{ConId}
use Rattle.term_core.specs.Terms.{node, size}
use Rattle.term_core.specs.Typings.{HasType, IsTermOf}
use Rattle.term_core.proofs.Order.{size-node}
use Rattle.term_core.proofs.Typing.{typed_by}
use Rattle.eval_core.specs.ShiftExample.{expression, shift_con, shifts, x_con, zero_con}

zero_typed : HasType shifts expression (node zero_con [])
zero_typed = typed_by shifts expression zero_con [] (record { constructor = _; stands = refl; owner = refl; children = tt })

x_typed : HasType shifts expression (node x_con [])
x_typed = typed_by shifts expression x_con [] (record { constructor = _; stands = refl; owner = refl; children = tt })

constant_typed : (n : ℕ) → n < 2 → HasType shifts expression (node (record { 0 = n }) [])
constant_typed zero low = zero_typed
constant_typed (suc zero) low = x_typed
constant_typed (suc (suc n)) low = absurd (omega arith)

pub constant_is_term : (con : ConId) → con.0 < 2 → IsTermOf shifts (node con [])
constant_is_term con low = (expression, constant_typed con.0 low)

pub shift_is_term : (con : ConId) → con.0 < 2 → IsTermOf shifts (node shift_con (node con [] ∷ []))
shift_is_term con low = (expression, typed_by shifts expression shift_con (node con [] ∷ []) (record { constructor = _; stands = refl; owner = refl; children = (constant_typed con.0 low, tt) }))

pub constant_small : (con : ConId) → size (node con []) ≡ 1
constant_small con = size-node con []

pub shift_small : (con : ConId) → size (node shift_con (node con [] ∷ [])) ≡ 2
shift_small con =
    let one = constant_small con in
    let whole = size-node shift_con (node con [] ∷ []) in
    let kids = sum_by-cons (λ n. n) (size (node con [])) [] in
    omega (arith, whole, kids, one)
