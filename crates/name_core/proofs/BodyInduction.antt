-- Induction over bodies.
use Rattle.std.proofs.Common.{List, [], ◌∷◌, map, All, subst, sym}
use Rattle.std.proofs.lemmas.List.Elements.{All-nil, All-cons}
use Rattle.syntax_core.specs.declared.syntax.Body.{Body, map-Body, roll-Body}
use Rattle.syntax_core.specs.declared.syntax.Body as body
use Rattle.syntax_core.specs.declared.syntax.Body.TheVariants.{rolls-Fork, rolls-Leaf}
use Rattle.syntax_core.specs.declared.syntax.Body.TheOpen.{Body-F}
use Rattle.syntax_core.specs.declared.syntax.Body.TheFolds.{ind-Body}
use Rattle.syntax_core.specs.declared.syntax.Leaf.{Leaf}
use Rattle.syntax_core.specs.declared.syntax.Scope.{Scope}

each : {X : Type 0} (P : X → Type 0) → (es : List ((x : X) × P x)) → All P (map (λ e. e.0) es)
each P [] = All-nil P
each P (e ∷ es) = All-cons P e.0 (map (λ e. e.0) es) e.1 (each P es)

layer : (P : Body → Type 0) → ((l : Leaf) → P (body.Leaf l)) → ((scope : Scope) → All P scope.bodies → P (body.Fork scope)) →
    (y : Body-F ((e : Body) × P e) ((s : Scope) × All P s.bodies)) →
    P (roll-Body (map-Body ((e : Body) × P e) ((s : Scope) × All P s.bodies) Body Scope (λ e. e.0) (λ e. e.0) y))
layer P leaf fork (Body-F.Fork scope) = subst P (sym (rolls-Fork scope.0)) (fork scope.0 scope.1)
layer P leaf fork (Body-F.Leaf l) = subst P (sym (rolls-Leaf l)) (leaf l)

-- P holds of each body, if it holds of a leaf, and of a fork where it holds of the bodies
pub by_bodies : (P : Body → Type 0) → ((l : Leaf) → P (body.Leaf l)) → ((scope : Scope) → All P scope.bodies → P (body.Fork scope)) → (b : Body) → P b
by_bodies P leaf fork =
    ind-Body P (λ s. All P s.bodies)
    (λ x y is. subst (λ z. P (roll-Body z)) is (layer P leaf fork y))
    (λ x y is. subst (λ z. All P z.bodies) is (each P y.bodies))
