-- Rules that were added in part.
use Rattle.std.proofs.Common.{◌≡◌, ◌<◌, ◌≤◌, ◌+◌, ℕ, List, [], ◌∷◌, ◌++◌, length, drop, get_or, refl, sym, ap, ap₂, ◌∙◌, append_assoc, length-append, arith}
use Rattle.std.specs.List.{flat_map}
use Rattle.sig_core.specs.Texts.{IsPart}
use Rattle.rule_core.specs.declared.rule.Rule.{Rule}
use Rattle.sort_core.proofs.Dues.{here_then}

-- what grew, and with more grows to all rules, grew by a first part of them
pub grown_by_part : (old new rest rules : List Rule) → new ++ rest ≡ old ++ rules → length old ≤ length new → IsPart old new rules
grown_by_part [] new rest rules e h = record { done = new; rest = rest; grows = refl; splits = e }
grown_by_part (x ∷ old) [] rest rules e h = absurd (omega (arith, h))
grown_by_part (x ∷ old) (y ∷ new) rest rules e h =
    let tails : new ++ rest ≡ old ++ rules = cc in
    let heads : y ≡ x = cc in
    let shorter : length old ≤ length new = omega (arith, h) in
    let p = grown_by_part old new rest rules tails shorter in
    record { done = p.done; rest = p.rest; grows = ap₂ (λ z zs. z ∷ zs) heads p.grows; splits = p.splits }

-- a first part of what the item with number i makes, after all that the items before it make
pub part_among : {X : Type 0} (make : X → List Rule) (xs : List X) (i : ℕ) (x : X) (old mid new rules : List Rule) →
    i < length xs → x ≡ get_or xs i x → mid ++ flat_map make (drop i xs) ≡ old ++ rules → length old ≤ length mid → IsPart mid new (make x) → IsPart old new rules
part_among make xs i x old mid new rules within is made grown p =
    let more = flat_map make (drop (i + 1) xs) in
    let left : flat_map make (drop i xs) ≡ make x ++ more = ap (flat_map make) (here_then xs i x within is) in
    let whole : new ++ (p.rest ++ more) ≡ old ++ rules =
    ap (λ ys. ys ++ (p.rest ++ more)) p.grows
    ∙ append_assoc mid p.done (p.rest ++ more)
    ∙ ap (λ ys. mid ++ ys) (sym (append_assoc p.done p.rest more) ∙ ap (λ ys. ys ++ more) p.splits ∙ sym left)
    ∙ made in
    let size : length new ≡ length mid + length p.done = ap length p.grows ∙ length-append mid p.done in
    let longer : length old ≤ length new = omega (arith, grown, size) in
    grown_by_part old new (p.rest ++ more) rules whole longer
