-- The branches and the width of each kind of body.
use Rattle.std.proofs.Common.{◌≡◌, ◌+◌, ◌++◌, List, [], ◌∷◌, map, length, rules, refl, ap, ◌∙◌}
use Rattle.std.specs.List.{flat_map}
use Rattle.sig_core.specs.Lists.{greatest}
use Rattle.syntax_core.specs.declared.syntax.Body.{Body, the_lemmas}
use Rattle.syntax_core.specs.declared.syntax.Body as body
use Rattle.syntax_core.specs.declared.syntax.Leaf.{Leaf}
use Rattle.syntax_core.specs.declared.syntax.Pair.{Pair}
use Rattle.syntax_core.specs.declared.syntax.Scope.{Scope}
use Rattle.name_core.specs.Bodies.{branches_within, width}

pub branches-Leaf : (l : Leaf) (around : List Pair) → branches_within (body.Leaf l) around ≡ record { around = around; leaf = l } ∷ []
branches-Leaf l around = search (rules, the_lemmas)

pub width-Leaf : (l : Leaf) → width (body.Leaf l) ≡ 0
width-Leaf l = search (rules, the_lemmas)

pub width-Fork : (scope : Scope) → width (body.Fork scope) ≡ length scope.pairs + greatest (map width scope.bodies)
width-Fork scope = search (rules, the_lemmas)

flat_map-map : (around : List Pair) (bodies : List Body) →
    flat_map (λ branches. branches around) (map branches_within bodies) ≡ flat_map (λ b. branches_within b around) bodies
flat_map-map around [] = refl
flat_map-map around (b ∷ bs) = ap (λ more. branches_within b around ++ more) (flat_map-map around bs)

branches-fork : (scope : Scope) (around : List Pair) → branches_within (body.Fork scope) around ≡ flat_map (λ branches. branches (around ++ scope.pairs)) (map branches_within scope.bodies)
branches-fork scope around = search (rules, the_lemmas)

pub branches-Fork : (scope : Scope) (around : List Pair) → branches_within (body.Fork scope) around ≡ flat_map (λ b. branches_within b (around ++ scope.pairs)) scope.bodies
branches-Fork scope around = branches-fork scope around ∙ flat_map-map (around ++ scope.pairs) scope.bodies

pub ruleset branchings = (branches-Leaf, branches-Fork, width-Leaf, width-Fork)
