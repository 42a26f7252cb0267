-- Induction over bodies, and the existentials around their leaves.
use Rattle.std.proofs.Common.{ℕ, ◌+◌, ◌≤◌, ◌++◌, List, [], ◌∷◌, map, length, subst, sym, arith}
use Rattle.std.specs.Prelude.{All}
use Rattle.std.specs.List.{flat_map}
use Rattle.std.proofs.lemmas.List.{length-append}
use Rattle.std.proofs.lemmas.List.Elements.{All-nil, All-cons, All-head, All-tail, All-append, All-weaker}
use Rattle.sig_core.specs.Lists.{greatest}
use Rattle.syntax_core.specs.declared.syntax.Body.{Body, map-Body, roll-Body}
use Rattle.syntax_core.specs.declared.syntax.Body.TheVariants.{Fork, Leaf, rolls-Fork, rolls-Leaf}
use Rattle.syntax_core.specs.declared.syntax.Body.TheOpen.{Body-F, Scope-F}
use Rattle.syntax_core.specs.declared.syntax.Body.TheFolds.{ind-Body}
use Rattle.syntax_core.specs.declared.syntax.Leaf as leaf
use Rattle.syntax_core.specs.declared.syntax.Pair.{Pair}
use Rattle.syntax_core.specs.declared.syntax.Scope.{Scope, map-Scope, roll-Scope}
use Rattle.name_core.specs.Bodies.{Branch, branches_within, width}
use Rattle.name_core.proofs.Branchings.{branches-Leaf, branches-Fork, width-Fork, width-Leaf}
use Rattle.making_core.proofs.ExpInduction.{each}

layer : (P : Body → Type 0) → ((scope : Scope) → All P scope.bodies → P (Fork scope)) → ((l : leaf.Leaf) → P (Leaf l))
    → (y : Body-F ((b : Body) × P b) ((s : Scope) × All P s.bodies))
    → P (roll-Body (map-Body ((b : Body) × P b) ((s : Scope) × All P s.bodies) Body Scope (λ b. b.0) (λ s. s.0) y))
layer P fork lone (Body-F.Fork s) = subst P (sym (rolls-Fork s.0)) (fork s.0 s.1)
layer P fork lone (Body-F.Leaf l) = subst P (sym (rolls-Leaf l)) (lone l)

inside : (P : Body → Type 0) → (y : Scope-F ((b : Body) × P b) ((s : Scope) × All P s.bodies))
    → All P (roll-Scope (map-Scope ((b : Body) × P b) ((s : Scope) × All P s.bodies) Body Scope (λ b. b.0) (λ s. s.0) y)).bodies
inside P y = each P y.bodies

-- P holds of each body, if it holds of a fork where it holds of the bodies in it
pub by_bodies : (P : Body → Type 0) → ((scope : Scope) → All P scope.bodies → P (Fork scope)) → ((l : leaf.Leaf) → P (Leaf l)) → (b : Body) → P b
by_bodies P fork lone =
    ind-Body P (λ s. All P s.bodies)
    (λ x y is. subst (λ z. P (roll-Body z)) is (layer P fork lone y))
    (λ x y is. subst (λ z. All P (roll-Scope z).bodies) is (inside P y))

pub All-flat_map : {X Y : Type 0} (P : Y → Type 0) (f : X → List Y) (xs : List X) → All (λ x. All P (f x)) xs → All P (flat_map f xs)
All-flat_map P f [] h = All-nil P
All-flat_map P f (x ∷ xs) h = All-append P (f x) (flat_map f xs) (All-head (λ x. All P (f x)) x xs h) (All-flat_map P f xs (All-tail (λ x. All P (f x)) x xs h))

-- no branch has more existentials around it than the body is wide
abbrev IsAround : ℕ → Branch → Type 0
IsAround n branch = length branch.around ≤ n

abbrev AreAround : Body → Type 0
AreAround b = (around : List Pair) → All (IsAround (length around + width b)) (branches_within b around)

around_each : (around : List Pair) (n : ℕ) (bodies : List Body) → All AreAround bodies → length around + greatest (map width bodies) ≤ n
    → All (λ (b : Body). All (IsAround n) (branches_within b around)) bodies
around_each around n [] h bound = All-nil (λ (b : Body). All (IsAround n) (branches_within b around))
around_each around n (b ∷ bs) h bound =
    All-cons (λ (b : Body). All (IsAround n) (branches_within b around)) b bs
    (All-weaker (IsAround (length around + width b)) (IsAround n) (λ branch is. omega (arith, is, bound)) (branches_within b around) (All-head AreAround b bs h around))
    (around_each around n bs (All-tail AreAround b bs h) (omega (arith, bound)))

around_fork : (scope : Scope) → All AreAround scope.bodies → AreAround (Fork scope)
around_fork scope h around =
    let wide = width-Fork scope in
    let n = length around + width (Fork scope) in
    subst (All (IsAround n)) (sym (branches-Fork scope around))
    (All-flat_map (IsAround n) (λ b. branches_within b (around ++ scope.pairs)) scope.bodies
    (around_each (around ++ scope.pairs) n scope.bodies h (omega (arith, wide, length-append around scope.pairs))))

around_leaf : (l : leaf.Leaf) → AreAround (Leaf l)
around_leaf l around =
    let n = length around + width (Leaf l) in
    let wide = width-Leaf l in
    subst (All (IsAround n)) (sym (branches-Leaf l around))
    (All-cons (IsAround n) (record { around = around; leaf = l }) [] (omega (arith, wide)) (All-nil (IsAround n)))

pub are_around : (b : Body) → AreAround b
are_around = by_bodies AreAround around_fork around_leaf

-- no branch of a whole body has more existentials than the body is wide
pub no_more_around : (b : Body) → All (λ (branch : Branch). length branch.around ≤ width b) (branches_within b [])
no_more_around b =
    All-weaker (IsAround (length {A = Pair} [] + width b)) (λ (branch : Branch). length branch.around ≤ width b) (λ branch h. omega (arith, h)) (branches_within b []) (are_around b [])
