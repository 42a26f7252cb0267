-- The first fault of the nodes of each kind of body.
use Rattle.std.proofs.Common.{◌≡◌, ◌++◌, Option, None, List, [], ◌∷◌, map, refl, sym, ap, ◌∙◌, rules}
use Rattle.std.proofs.lemmas.Grind.{flat_map-append}
use Rattle.std.specs.List.{flat_map}
use Rattle.std.specs.Option.{option_or}
use Rattle.syntax_core.specs.declared.fault.Fault.{Fault}
use Rattle.syntax_core.specs.declared.syntax.Body.{Body, the_lemmas}
use Rattle.syntax_core.specs.declared.syntax.Body as body
use Rattle.syntax_core.specs.declared.syntax.Leaf.{Leaf}
use Rattle.syntax_core.specs.declared.syntax.Pair.{Pair}
use Rattle.syntax_core.specs.declared.syntax.Scope.{Scope}
use Rattle.name_core.specs.Bodies.{Node, bound_after, leaf, nodes_within}
use Rattle.name_core.specs.Faults.{first}
use Rattle.name_core.proofs.Firsts.{first-append}

nodes-Leaf : (l : Leaf) (around : List Pair) → nodes_within (body.Leaf l) around ≡ leaf around l ∷ []
nodes-Leaf l around = search (rules, the_lemmas)

nodes-fork : (scope : Scope) (around : List Pair) → nodes_within (body.Fork scope) around ≡
    bound_after around scope.pairs ++ flat_map (λ nodes. nodes (around ++ scope.pairs)) (map nodes_within scope.bodies)
nodes-fork scope around = search (rules, the_lemmas)

-- what is found in the nodes of bodies, body by body
by_bodies : (find : Node → List Fault) (around : List Pair) (bodies : List Body) →
    flat_map find (flat_map (λ nodes. nodes around) (map nodes_within bodies)) ≡ flat_map (λ b. flat_map find (nodes_within b around)) bodies
by_bodies find around [] = refl
by_bodies find around (b ∷ bs) =
    flat_map-append find (nodes_within b around) (flat_map (λ nodes. nodes around) (map nodes_within bs))
    ∙ ap (λ more. flat_map find (nodes_within b around) ++ more) (by_bodies find around bs)

append_nil : (xs : List Fault) → xs ++ [] ≡ xs
append_nil [] = refl
append_nil (x ∷ xs) = ap (λ ys. x ∷ ys) (append_nil xs)

pub first-Leaf : (find : Node → List Fault) (l : Leaf) (around : List Pair) → first (flat_map find (nodes_within (body.Leaf l) around)) ≡ first (find (leaf around l))
first-Leaf find l around = ap (λ ns. first (flat_map find ns)) (nodes-Leaf l around) ∙ ap first (append_nil (find (leaf around l)))

pub first-Fork : (find : Node → List Fault) (scope : Scope) (around : List Pair) → first (flat_map find (nodes_within (body.Fork scope) around)) ≡
    option_or (first (flat_map find (bound_after around scope.pairs))) (first (flat_map (λ b. flat_map find (nodes_within b (around ++ scope.pairs))) scope.bodies))
first-Fork find scope around =
    let inner = flat_map (λ nodes. nodes (around ++ scope.pairs)) (map nodes_within scope.bodies) in
    ap (λ ns. first (flat_map find ns)) (nodes-fork scope around)
    ∙ ap first (flat_map-append find (bound_after around scope.pairs) inner)
    ∙ first-append (flat_map find (bound_after around scope.pairs)) (flat_map find inner)
    ∙ ap (λ fs. option_or (first (flat_map find (bound_after around scope.pairs))) (first fs)) (by_bodies find (around ++ scope.pairs) scope.bodies)

pub ruleset nodings = (first-Leaf, first-Fork)

-- where no pair of a fork has a fault, the first is among its bodies
pub onward : (find : Node → List Fault) (fork : Scope) (around pairs inside : List Pair) (whole : Body) (bodies : List Body) (o r : Option Fault) →
    whole ≡ body.Fork fork → pairs ≡ fork.pairs → bodies ≡ fork.bodies → inside ≡ around ++ pairs →
    o ≡ first (flat_map find (bound_after around pairs)) → o ≡ None →
    r ≡ first (flat_map (λ (b : Body). flat_map find (nodes_within b inside)) bodies) → r ≡ first (flat_map find (nodes_within whole around))
onward find fork around pairs inside whole bodies o r is_whole is_pairs is_bodies is_inside is_o none is_r =
    let without : first (flat_map find (bound_after around fork.pairs)) ≡ None = sym (ap (λ p. first (flat_map find (bound_after around p))) is_pairs) ∙ sym is_o ∙ none in
    is_r ∙ ap (λ z. first (flat_map (λ (b : Body). flat_map find (nodes_within b z)) bodies)) (is_inside ∙ ap (λ p. around ++ p) is_pairs)
    ∙ ap (λ bs. first (flat_map (λ (b : Body). flat_map find (nodes_within b (around ++ fork.pairs))) bs)) is_bodies
    ∙ sym (ap (λ x. first (flat_map find (nodes_within x around))) is_whole ∙ first-Fork find fork around
    ∙ ap (λ q. option_or q (first (flat_map (λ (b : Body). flat_map find (nodes_within b (around ++ fork.pairs))) fork.bodies))) without)
