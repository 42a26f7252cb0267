-- Places that rise within bounds, and faults that stand in order within bounds.
use Rattle.std.proofs.Common.{◌≡◌, ℕ, ◌+◌, ◌*◌, ◌<◌, ◌≤◌, ◌⊎◌, inl, inr, Bool, true, false, List, [], ◌∷◌, ◌++◌, map, arith}
use Rattle.std.specs.Prelude.{All, AllPairs}
use Rattle.std.proofs.lemmas.Bool.{cases_lt}
use Rattle.std.proofs.lemmas.List.Elements.{All-nil, All-cons, All-weaker}
use Rattle.std.proofs.lemmas.List.Kept.{AllPairs-cons}
use Rattle.syntax_core.specs.declared.fault.Fault.{Fault}
use Rattle.syntax_core.specs.Shapes.{refusal}
use Rattle.name_core.specs.Faults.{bad_if}
use Rattle.elab_laws.specs.Places.{AreInOrder, IsBefore, Rise, further_left, lesser_limit, lesser_reason}

no_later : (n : ℕ) → n < 0 → ⊥
no_later n h = omega arith

pub AllPairs-nil : {X : Type 0} (R : X → X → Type 0) → AllPairs R []
AllPairs-nil R i j d before within = absurd (no_later j within)

-- the places rise, from the one bound on and below the other
abbrev pub Within : ℕ → List ℕ → ℕ → Type 0
Within low [] high = low ≤ high
Within low (x ∷ xs) high = (low ≤ x) × Within (x + 1) xs high

pub bounds : (low : ℕ) (xs : List ℕ) (high : ℕ) → Within low xs high → low ≤ high
bounds low [] high h = h
bounds low (x ∷ xs) high h = let more = bounds (x + 1) xs high h.1 in let here = h.0 in omega (arith, more, here)

pub from_lower : (low lower : ℕ) (xs : List ℕ) (high : ℕ) → lower ≤ low → Within low xs high → Within lower xs high
from_lower low lower [] high less h = omega (arith, less, h)
from_lower low lower (x ∷ xs) high less h = let here = h.0 in (omega (arith, less, here), h.1)

pub to_higher : (low : ℕ) (xs : List ℕ) (high higher : ℕ) → high ≤ higher → Within low xs high → Within low xs higher
to_higher low [] high higher less h = omega (arith, less, h)
to_higher low (x ∷ xs) high higher less h = (h.0, to_higher (x + 1) xs high higher less h.1)

pub joined : (low : ℕ) (xs : List ℕ) (middle : ℕ) (ys : List ℕ) (high : ℕ) → Within low xs middle → Within middle ys high → Within low (xs ++ ys) high
joined low [] middle ys high h k = from_lower middle low ys high h k
joined low (x ∷ xs) middle ys high h k = (h.0, joined (x + 1) xs middle ys high h.1 k)

pub parted : (low : ℕ) (xs ys : List ℕ) (high : ℕ) → Within low (xs ++ ys) high → (middle : ℕ) × Within low xs middle × Within middle ys high
parted low [] ys high h = (low, omega arith, h)
parted low (x ∷ xs) ys high h = let more = parted (x + 1) xs ys high h.1 in (more.0, (h.0, more.1), more.2)

above : (low : ℕ) (xs : List ℕ) (high : ℕ) → Within low xs high → All (λ y. low ≤ y) xs
above low [] high h = All-nil (λ y. low ≤ y)
above low (x ∷ xs) high h =
    let here = h.0 in
    All-cons (λ y. low ≤ y) x xs here
    (All-weaker (λ y. x + 1 ≤ y) (λ y. low ≤ y) (λ y more. omega (arith, here, more)) xs (above (x + 1) xs high h.1))

pub rise : (low : ℕ) (xs : List ℕ) (high : ℕ) → Within low xs high → Rise xs
rise low [] high h = AllPairs-nil (λ one other. one < other)
rise low (x ∷ xs) high h =
    AllPairs-cons (λ one other. one < other) x xs
    (All-weaker (λ y. x + 1 ≤ y) (λ y. x < y) (λ y more. omega (arith, more)) xs (above (x + 1) xs high h.1)) (rise (x + 1) xs high h.1)

-- Faults. Each has a rank, by its place, then its reason, then its limit.

abbrev pub rank : Fault → ℕ
rank f = 65536 * f.place + (256 * f.reason + f.limit)

abbrev pub Ordered : ℕ → List Fault → ℕ → Type 0
Ordered low [] high = low ≤ high
Ordered low (f ∷ fs) high = (low ≤ rank f) × (f.reason < 256) × (f.limit < 256) × Ordered (rank f + 1) fs high

pub ordered_lower : (low lower : ℕ) (fs : List Fault) (high : ℕ) → lower ≤ low → Ordered low fs high → Ordered lower fs high
ordered_lower low lower [] high less h = omega (arith, less, h)
ordered_lower low lower (f ∷ fs) high less h = let here = h.0 in (omega (arith, less, here), h.1, h.2, h.3)

pub ordered_higher : (low : ℕ) (fs : List Fault) (high higher : ℕ) → high ≤ higher → Ordered low fs high → Ordered low fs higher
ordered_higher low [] high higher less h = omega (arith, less, h)
ordered_higher low (f ∷ fs) high higher less h = (h.0, h.1, h.2, ordered_higher (rank f + 1) fs high higher less h.3)

pub ordered_joined : (low : ℕ) (fs : List Fault) (middle : ℕ) (gs : List Fault) (high : ℕ) → Ordered low fs middle → Ordered middle gs high → Ordered low (fs ++ gs) high
ordered_joined low [] middle gs high h k = ordered_lower middle low gs high h k
ordered_joined low (f ∷ fs) middle gs high h k = (h.0, h.1, h.2, ordered_joined (rank f + 1) fs middle gs high h.3 k)

record IsRanked (low : ℕ) (f : Fault) : Type 0 where
  from : low ≤ rank f
  reason : f.reason < 256
  limit : f.limit < 256

ranked : (low : ℕ) (fs : List Fault) (high : ℕ) → Ordered low fs high → All (IsRanked low) fs
ranked low [] high h = All-nil (IsRanked low)
ranked low (f ∷ fs) high h =
    let here = h.0 in
    All-cons (IsRanked low) f fs (record { from = here; reason = h.1; limit = h.2 })
    (All-weaker (IsRanked (rank f + 1)) (IsRanked low) (λ g r. let more = r.from in record { from = omega (arith, here, more); reason = r.reason; limit = r.limit }) fs
    (ranked (rank f + 1) fs high h.3))

least_number : (m n : ℕ) → m ≤ n → n ≤ m → m ≡ n
least_number m n h k = omega (arith, h, k)

by_limit : (f g : Fault) → f.place ≡ g.place → f.reason ≡ g.reason → rank f + 1 ≤ rank g → IsBefore f g
by_limit f g p r more = lesser_limit p r (omega (arith, p, r, more))

by_reason : (f g : Fault) → f.place ≡ g.place → g.limit < 256 → rank f + 1 ≤ rank g → (f.reason < g.reason) ⊎ (g.reason ≤ f.reason) → IsBefore f g
by_reason f g p l more (inl less) = lesser_reason p less
by_reason f g p l more (inr not_less) = by_limit f g p (least_number f.reason g.reason (omega (arith, p, l, more)) not_less) more

by_place : (f g : Fault) → g.reason < 256 → g.limit < 256 → rank f + 1 ≤ rank g → (f.place < g.place) ⊎ (g.place ≤ f.place) → IsBefore f g
by_place f g r l more (inl less) = further_left less
by_place f g r l more (inr not_less) = by_reason f g (least_number f.place g.place (omega (arith, r, l, more)) not_less) l more (cases_lt f.reason g.reason)

pub in_order : (low : ℕ) (fs : List Fault) (high : ℕ) → Ordered low fs high → AreInOrder fs
in_order low [] high h = AllPairs-nil IsBefore
in_order low (f ∷ fs) high h =
    AllPairs-cons IsBefore f fs
    (All-weaker (IsRanked (rank f + 1)) (IsBefore f) (λ g r. by_place f g r.reason r.limit r.from (cases_lt f.place g.place)) fs (ranked (rank f + 1) fs high h.3))
    (in_order (rank f + 1) fs high h.3)

-- nodes at rising places, each with one reason
pub ordered_nodes : (reason low : ℕ) (xs : List ℕ) (high : ℕ) → reason < 255 → Within low xs high →
    Ordered (65536 * low) (map (λ place. refusal place reason) xs) (65536 * high)
ordered_nodes reason low [] high r h = omega (arith, h)
ordered_nodes reason low (x ∷ xs) high r h =
    let here = h.0 in (
      omega (arith, here),
      omega (arith, r),
      omega arith,
      ordered_lower (65536 * (x + 1)) (rank (refusal x reason) + 1) (map (λ place. refusal place reason) xs) (65536 * high) (omega (arith, r)) (ordered_nodes reason (x + 1) xs high r h.1),
    )

-- a node that may be bad by one reason
pub ordered_if : (test : Bool) (reason place low high : ℕ) → reason < 256 → low ≤ 65536 * place + 256 * reason → 65536 * place + 256 * reason < high → Ordered low (bad_if test reason place) high
ordered_if true reason place low high r from to = (omega (arith, from), r, omega arith, omega (arith, to))
ordered_if false reason place low high r from to = omega (arith, from, to)
