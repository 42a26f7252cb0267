-- Things that stand one after the other within bounds, and the faults that are found in each of them.
use Rattle.std.proofs.Common.{◌≡◌, ℕ, suc, ◌+◌, ◌*◌, ◌<◌, ◌≤◌, List, [], ◌∷◌, ◌++◌, map, drop, slice_get, Some, refl, arith}
use Rattle.std.specs.Prelude.{All}
use Rattle.std.specs.List.{flat_map}
use Rattle.std.proofs.lemmas.List.Elements.{All-nil, All-cons, All-head, All-tail}
use Rattle.sexpr_core.specs.declared.form.Sexpr.{Sexpr}
use Rattle.sexpr_core.specs.Access.{place_of, parts_of}
use Rattle.syntax_core.specs.declared.fault.Fault.{Fault}
use Rattle.name_core.specs.Faults.{found_after, found_from}
use Rattle.elab_laws.specs.Places.{places_in}
use Rattle.elab_laws.proofs.Rising.{Ordered, bounds, from_lower, ordered_joined, ordered_lower, parted}
use Rattle.elab_laws.proofs.SpelledPlaces.{SpanAll, Spans, level_within}

-- each stands within bounds of its own, which lie one after the other
abbrev pub Chain : {X : Type 0} → (ℕ → X → ℕ → Type 0) → ℕ → List X → ℕ → Type 0
Chain In low [] high = low ≤ high
Chain In low (x ∷ xs) high = (from : ℕ) × (to : ℕ) × (low ≤ from) × In from x to × Chain In to xs high

pub chain_lower : {X : Type 0} (In : ℕ → X → ℕ → Type 0) (low lower : ℕ) (xs : List X) (high : ℕ) → lower ≤ low → Chain In low xs high → Chain In lower xs high
chain_lower In low lower [] high less h = omega (arith, less, h)
chain_lower In low lower (x ∷ xs) high less h = let here = h.2 in (h.0, h.1, omega (arith, less, here), h.3, h.4)

pub chain_higher : {X : Type 0} (In : ℕ → X → ℕ → Type 0) (low : ℕ) (xs : List X) (high higher : ℕ) → high ≤ higher → Chain In low xs high → Chain In low xs higher
chain_higher In low [] high higher more h = omega (arith, more, h)
chain_higher In low (x ∷ xs) high higher more h = (h.0, h.1, h.2, h.3, chain_higher In h.1 xs high higher more h.4)

pub chain_joined : {X : Type 0} (In : ℕ → X → ℕ → Type 0) (low : ℕ) (xs : List X) (middle : ℕ) (ys : List X) (high : ℕ) → Chain In low xs middle → Chain In middle ys high → Chain In low (xs ++ ys) high
chain_joined In low [] middle ys high h k = chain_lower In middle low ys high h k
chain_joined In low (x ∷ xs) middle ys high h k = (h.0, h.1, h.2, h.3, chain_joined In h.1 xs middle ys high h.4 k)

pub chain_map : {X Y : Type 0} (In : ℕ → X → ℕ → Type 0) (Out : ℕ → Y → ℕ → Type 0) (read : X → Y) → ((low : ℕ) (x : X) (high : ℕ) → In low x high → Out low (read x) high) →
    (low : ℕ) (xs : List X) (high : ℕ) → Chain In low xs high → Chain Out low (map read xs) high
chain_map In Out read each low [] high h = h
chain_map In Out read each low (x ∷ xs) high h = (h.0, h.1, h.2, each h.0 x h.1 h.3, chain_map In Out read each h.1 xs high h.4)

pub chain_flat : {X Y : Type 0} (In : ℕ → X → ℕ → Type 0) (Out : ℕ → Y → ℕ → Type 0) (read : X → List Y) → ((low : ℕ) (x : X) (high : ℕ) → In low x high → Chain Out low (read x) high) →
    (low : ℕ) (xs : List X) (high : ℕ) → Chain In low xs high → Chain Out low (flat_map read xs) high
chain_flat In Out read each low [] high h = h
chain_flat In Out read each low (x ∷ xs) high h =
    chain_joined Out low (read x) h.1 (flat_map read xs) high (chain_lower Out h.0 low (read x) h.1 h.2 (each h.0 x h.1 h.3)) (chain_flat In Out read each h.1 xs high h.4)

-- Forms.

pub spans_chain : (low : ℕ) (forms : List Sexpr) (high : ℕ) → SpanAll low forms high → Chain Spans low forms high
spans_chain low [] high h = h
spans_chain low (form ∷ forms) high h =
    let both = parted low (places_in form) (flat_map places_in forms) high h in
    (low, both.0, omega arith, both.1, spans_chain both.0 forms high both.2)

-- forms of which each is such a one
abbrev pub Such : (Sexpr → Type 0) → ℕ → Sexpr → ℕ → Type 0
Such Q low form high = Q form × Spans low form high

pub such_chain : (Q : Sexpr → Type 0) (low : ℕ) (forms : List Sexpr) (high : ℕ) → All Q forms → SpanAll low forms high → Chain (Such Q) low forms high
such_chain Q low [] high all h = h
such_chain Q low (form ∷ forms) high all h =
    let both = parted low (places_in form) (flat_map places_in forms) high h in
    (low, both.0, omega arith, (All-head Q form forms all, both.1), such_chain Q both.0 forms high (All-tail Q form forms all) both.2)

pub all_at : (Q : Sexpr → Type 0) (forms : List Sexpr) → ((k : ℕ) (form : Sexpr) → slice_get forms k ≡ Some form → Q form) → All Q forms
all_at Q [] each = All-nil Q
all_at Q (form ∷ forms) each = All-cons Q form forms (each 0 form refl) (all_at Q forms (λ k f at. each (suc k) f at))

-- a form's node, and what stands in it
pub span_place : (low : ℕ) (form : Sexpr) (high : ℕ) → Spans low form high → (low ≤ place_of form) × (place_of form < high)
span_place low form high h =
    let level = level_within low form high h in
    let most = bounds (place_of form + 1) (flat_map places_in (parts_of form)) high level.1 in
    (level.0, omega (arith, most))

pub span_parts : (low : ℕ) (form : Sexpr) (high : ℕ) → Spans low form high → SpanAll low (parts_of form) high
span_parts low form high h =
    let level = level_within low form high h in
    let here = level.0 in
    from_lower (place_of form + 1) low (flat_map places_in (parts_of form)) high (omega (arith, here)) level.1

pub span_others : (low : ℕ) (forms : List Sexpr) (high : ℕ) → SpanAll low forms high → SpanAll low (drop 1 forms) high
span_others low [] high h = h
span_others low (form ∷ forms) high h =
    let both = parted low (places_in form) (flat_map places_in forms) high h in
    from_lower both.0 low (flat_map places_in forms) high (bounds low (places_in form) both.0 both.1) both.2

-- Faults.

-- faults at places within these bounds, in order
abbrev pub InOrder : ℕ → List Fault → ℕ → Type 0
InOrder low faults high = Ordered (65536 * low) faults (65536 * high)

pub order_lower : (low lower : ℕ) (faults : List Fault) (high : ℕ) → lower ≤ low → InOrder low faults high → InOrder lower faults high
order_lower low lower faults high less h = ordered_lower (65536 * low) (65536 * lower) faults (65536 * high) (omega (arith, less)) h

pub order_joined : (low : ℕ) (fs : List Fault) (middle : ℕ) (gs : List Fault) (high : ℕ) → InOrder low fs middle → InOrder middle gs high → InOrder low (fs ++ gs) high
order_joined low fs middle gs high h k = ordered_joined (65536 * low) fs (65536 * middle) gs (65536 * high) h k

pub nothing : (low high : ℕ) → low ≤ high → InOrder low [] high
nothing low high h = omega (arith, h)

pub faults_each : {X : Type 0} (In : ℕ → X → ℕ → Type 0) (find : X → List Fault) → ((low : ℕ) (x : X) (high : ℕ) → In low x high → InOrder low (find x) high) →
    (low : ℕ) (xs : List X) (high : ℕ) → Chain In low xs high → InOrder low (flat_map find xs) high
faults_each In find each low [] high h = nothing low high h
faults_each In find each low (x ∷ xs) high h =
    order_joined low (find x) h.1 (flat_map find xs) high (order_lower h.0 low (find x) h.1 h.2 (each h.0 x h.1 h.3)) (faults_each In find each h.1 xs high h.4)

pub faults_from : {X : Type 0} (In : ℕ → X → ℕ → Type 0) (find : ℕ → X → List Fault) → ((n low : ℕ) (x : X) (high : ℕ) → In low x high → InOrder low (find n x) high) →
    (n low : ℕ) (xs : List X) (high : ℕ) → Chain In low xs high → InOrder low (found_from find n xs) high
faults_from In find each n low [] high h = nothing low high h
faults_from In find each n low (x ∷ xs) high h =
    order_joined low (find n x) h.1 (found_from find (n + 1) xs) high (order_lower h.0 low (find n x) h.1 h.2 (each n h.0 x h.1 h.3)) (faults_from In find each (n + 1) h.1 xs high h.4)

pub faults_after : {X : Type 0} (In : ℕ → X → ℕ → Type 0) (find : List X → X → List Fault) → ((before : List X) (low : ℕ) (x : X) (high : ℕ) → In low x high → InOrder low (find before x) high) →
    (before : List X) (low : ℕ) (xs : List X) (high : ℕ) → Chain In low xs high → InOrder low (found_after find before xs) high
faults_after In find each before low [] high h = nothing low high h
faults_after In find each before low (x ∷ xs) high h =
    order_joined low (find before x) h.1 (found_after find (before ++ x ∷ []) xs) high (order_lower h.0 low (find before x) h.1 h.2 (each before h.0 x h.1 h.3))
    (faults_after In find each (before ++ x ∷ []) h.1 xs high h.4)
