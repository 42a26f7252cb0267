-- The walk finds what the definition says.
use Rattle.std.proofs.Common.{◌≡◌, ◌+◌, ℕ, List, [], ◌∷◌, ◌++◌, map, length, All, refl, sym, ap, ap₂, ◌∙◌, arith, rules}
use Rattle.std.proofs.lemmas.List.{length-append}
use Rattle.std.proofs.lemmas.List.Elements.{All-head, All-tail}
use Rattle.std.proofs.lemmas.List.Folds.{flat_map-map}
use Rattle.std.proofs.lemmas.List.Sums.{sum_by-cons}
use Rattle.std.specs.List.{flat_map}
use Rattle.std.specs.Option.{option_or}
use Rattle.syntax_core.specs.declared.fault.Fault.{Fault}
use Rattle.syntax_core.specs.declared.syntax.Body.{Body, the_lemmas}
use Rattle.syntax_core.specs.declared.syntax.Body as body
use Rattle.syntax_core.specs.declared.syntax.Function.{Function}
use Rattle.syntax_core.specs.declared.syntax.Leaf.{Leaf}
use Rattle.syntax_core.specs.declared.syntax.Pair.{Pair}
use Rattle.syntax_core.specs.declared.syntax.Scope.{Scope}
use Rattle.name_core.specs.Bodies.{Node, Site, bound, bound_after, branches_of, branches_within, leaf, leaf_count, nodes_of, nodes_within, rule_count, sites_of}
use Rattle.name_core.specs.Faults.{first, found, found_after, found_from, past}
use Rattle.name_core.specs.Limits.{case_limits, declaration_limits, functions_limits, long_name, node_limits, pair_limits, pairs_limits}
use Rattle.name_core.specs.Walks.{bodies_limits, body_limits, counted, rules_of_body, rules_of_site, site_limits, sites_limits, total}
use Rattle.name_core.proofs.BodyInduction.{by_bodies}
use Rattle.name_core.proofs.Branchings.{branches-Leaf, branches-Fork}
use Rattle.name_core.proofs.Firsts.{first-append}
use Rattle.name_core.proofs.Numbering.{append_nil, counted-append, found_after-counted, total-append}
use Rattle.name_core.proofs.Walking.{limits-Fork, limits-Leaf, rules-Fork, rules-Leaf}

pub nodes-Leaf : (l : Leaf) (around : List Pair) → nodes_within (body.Leaf l) around ≡ leaf around l ∷ []
nodes-Leaf l around = search (rules, the_lemmas)

nodes-fork : (scope : Scope) (around : List Pair) → nodes_within (body.Fork scope) around ≡
    bound_after around scope.pairs ++ flat_map (λ nodes. nodes (around ++ scope.pairs)) (map nodes_within scope.bodies)
nodes-fork scope around = search (rules, the_lemmas)

pub nodes-Fork : (scope : Scope) (around : List Pair) → nodes_within (body.Fork scope) around ≡
    bound_after around scope.pairs ++ flat_map (λ b. nodes_within b (around ++ scope.pairs)) scope.bodies
nodes-Fork scope around =
    nodes-fork scope around
    ∙ ap (λ more. bound_after around scope.pairs ++ more) (flat_map-map (λ (nodes : List Pair → List Node). nodes (around ++ scope.pairs)) nodes_within scope.bodies)

-- Nodes, of which the leaves are counted.

abbrev leaves : Node → ℕ
leaves (bound around pair) = 0
leaves (leaf around l) = 1

abbrev node_at : ℕ → ℕ → Node → List Fault
node_at params rules (bound around pair) = pair_limits 64 10 (params + length around) pair
node_at params rules (leaf around l) = past 16384 11 rules l.place

leaf_count-total : (nodes : List Node) → leaf_count nodes ≡ total leaves nodes
leaf_count-total [] = refl
leaf_count-total (bound around pair ∷ nodes) = let more : leaf_count nodes ≡ total leaves nodes = leaf_count-total nodes in omega arith
leaf_count-total (leaf around l ∷ nodes) = ap (λ n. 1 + n) (leaf_count-total nodes)

node_alike : (params rules : ℕ) (before : List Node) (node : Node) → node_limits params rules before node ≡ node_at params (rules + total leaves before) node
node_alike params rules before (bound around pair) = refl
node_alike params rules before (leaf around l) = ap (λ n. past 16384 11 (rules + n) l.place) (leaf_count-total before)

-- finding alike after the same items
found_alike : {X : Type 0} (find other : List X → X → List Fault) → ((before : List X) (x : X) → find before x ≡ other before x) →
    (before xs : List X) → found_after find before xs ≡ found_after other before xs
found_alike find other alike before [] = refl
found_alike find other alike before (x ∷ xs) =
    ap (λ here. here ++ found_after find (before ++ x ∷ []) xs) (alike before x)
    ∙ ap (λ more. other before x ++ more) (found_alike find other alike (before ++ x ∷ []) xs)

nodes_counted : (params rules : ℕ) (nodes : List Node) → found (node_limits params rules) nodes ≡ counted leaves (node_at params) rules nodes
nodes_counted params rules nodes =
    let none : rules + 0 ≡ rules = omega arith in
    found_alike (node_limits params rules) (λ before node. node_at params (rules + total leaves before) node) (node_alike params rules) [] nodes
    ∙ found_after-counted leaves (node_at params) rules [] nodes
    ∙ ap (λ n. counted leaves (node_at params) n nodes) none

bound_leaves : (around pairs : List Pair) → total leaves (bound_after around pairs) ≡ 0
bound_leaves around [] = refl
bound_leaves around (pair ∷ pairs) = let more : total leaves (bound_after (around ++ pair ∷ []) pairs) ≡ 0 = bound_leaves (around ++ pair ∷ []) pairs in omega arith

bound_counted : (params rules : ℕ) (around pairs : List Pair) → counted leaves (node_at params) rules (bound_after around pairs) ≡ pairs_limits 64 10 (params + length around) pairs
bound_counted params rules around [] = refl
bound_counted params rules around (pair ∷ pairs) =
    let longer : length (around ++ pair ∷ []) ≡ length around + 1 = length-append around (pair ∷ []) in
    let same : params + length (around ++ pair ∷ []) ≡ (params + length around) + 1 = omega arith in
    let none : rules + 0 ≡ rules = omega arith in
    ap (λ more. pair_limits 64 10 (params + length around) pair ++ more)
    (ap (λ n. counted leaves (node_at params) n (bound_after (around ++ pair ∷ []) pairs)) none
    ∙ bound_counted params rules (around ++ pair ∷ []) pairs
    ∙ ap (λ n. pairs_limits 64 10 n pairs) same)

-- what the walk has to do with a body
record Agrees (b : Body) : Type 0 where
  limits : (params rules : ℕ) (around : List Pair) → counted leaves (node_at params) rules (nodes_within b around) ≡ body_limits (params + length around) rules b
  count : (around : List Pair) → total leaves (nodes_within b around) ≡ rules_of_body b
  branches : (around : List Pair) → length (branches_within b around) ≡ rules_of_body b

agrees-Leaf : (l : Leaf) → Agrees (body.Leaf l)
agrees-Leaf l = record {
  limits = λ params rules around.
      ap (counted leaves (node_at params) rules) (nodes-Leaf l around) ∙ append_nil (past 16384 11 rules l.place) ∙ sym (limits-Leaf (params + length around) rules l);
  count = λ around. ap (total leaves) (nodes-Leaf l around) ∙ sym (rules-Leaf l);
  branches = λ around. ap length (branches-Leaf l around) ∙ sym (rules-Leaf l);
}

bodies_count : (around : List Pair) (bodies : List Body) → All Agrees bodies → total leaves (flat_map (λ b. nodes_within b around) bodies) ≡ total rules_of_body bodies
bodies_count around [] all = refl
bodies_count around (b ∷ bs) all =
    total-append leaves (nodes_within b around) (flat_map (λ x. nodes_within x around) bs)
    ∙ ap₂ (λ m n. m + n) ((All-head Agrees b bs all).count around) (bodies_count around bs (All-tail Agrees b bs all))

bodies_branches : (around : List Pair) (bodies : List Body) → All Agrees bodies → length (flat_map (λ b. branches_within b around) bodies) ≡ total rules_of_body bodies
bodies_branches around [] all = refl
bodies_branches around (b ∷ bs) all =
    length-append (branches_within b around) (flat_map (λ x. branches_within x around) bs)
    ∙ ap₂ (λ m n. m + n) ((All-head Agrees b bs all).branches around) (bodies_branches around bs (All-tail Agrees b bs all))

bodies_counted : (params rules : ℕ) (around : List Pair) (bodies : List Body) → All Agrees bodies →
    counted leaves (node_at params) rules (flat_map (λ b. nodes_within b around) bodies) ≡ bodies_limits (params + length around) rules bodies
bodies_counted params rules around [] all = refl
bodies_counted params rules around (b ∷ bs) all =
    let here : Agrees b = All-head Agrees b bs all in
    counted-append leaves (node_at params) rules (nodes_within b around) (flat_map (λ x. nodes_within x around) bs)
    ∙ ap₂ (λ xs n. xs ++ counted leaves (node_at params) (rules + n) (flat_map (λ x. nodes_within x around) bs)) (here.limits params rules around) (here.count around)
    ∙ ap (λ more. body_limits (params + length around) rules b ++ more) (bodies_counted params (rules + rules_of_body b) around bs (All-tail Agrees b bs all))

zero_plus : (n : ℕ) → 0 + n ≡ n
zero_plus n = omega arith

agrees-Fork : (scope : Scope) → All Agrees scope.bodies → Agrees (body.Fork scope)
agrees-Fork scope all = record {
  limits = λ params rules around.
      let longer : length (around ++ scope.pairs) ≡ length around + length scope.pairs = length-append around scope.pairs in
      let same : params + length (around ++ scope.pairs) ≡ (params + length around) + length scope.pairs = omega arith in
      let none : total leaves (bound_after around scope.pairs) ≡ 0 = bound_leaves around scope.pairs in
      let start : rules + total leaves (bound_after around scope.pairs) ≡ rules = omega arith in
      ap (counted leaves (node_at params) rules) (nodes-Fork scope around)
      ∙ counted-append leaves (node_at params) rules (bound_after around scope.pairs) (flat_map (λ b. nodes_within b (around ++ scope.pairs)) scope.bodies)
      ∙ ap₂ (λ xs n. xs ++ counted leaves (node_at params) n (flat_map (λ b. nodes_within b (around ++ scope.pairs)) scope.bodies)) (bound_counted params rules around scope.pairs) start
      ∙ ap (λ more. pairs_limits 64 10 (params + length around) scope.pairs ++ more)
      (bodies_counted params rules (around ++ scope.pairs) scope.bodies all ∙ ap (λ n. bodies_limits n rules scope.bodies) same)
      ∙ sym (limits-Fork (params + length around) rules scope);
  count = λ around.
      ap (total leaves) (nodes-Fork scope around)
      ∙ total-append leaves (bound_after around scope.pairs) (flat_map (λ b. nodes_within b (around ++ scope.pairs)) scope.bodies)
      ∙ ap (λ n. n + total leaves (flat_map (λ b. nodes_within b (around ++ scope.pairs)) scope.bodies)) (bound_leaves around scope.pairs)
      ∙ zero_plus (total leaves (flat_map (λ b. nodes_within b (around ++ scope.pairs)) scope.bodies))
      ∙ bodies_count (around ++ scope.pairs) scope.bodies all ∙ sym (rules-Fork scope);
  branches = λ around.
      ap length (branches-Fork scope around) ∙ bodies_branches (around ++ scope.pairs) scope.bodies all ∙ sym (rules-Fork scope);
}

agrees : (b : Body) → Agrees b
agrees = by_bodies Agrees agrees-Leaf agrees-Fork

-- a case makes as many rules as its body has leaves
pub rules_of_branches : (site : Site) → length (branches_of site.case) ≡ rules_of_site site
rules_of_branches site = (agrees site.case.body).branches []

case_alike : (rules : ℕ) (site : Site) → case_limits rules site ≡ site_limits rules site
case_alike rules site =
    let none : length site.function.declaration.params + 0 ≡ length site.function.declaration.params = omega arith in
    ap (λ more. flat_map long_name site.case.pattern.variables ++ more)
    (nodes_counted (length site.function.declaration.params) rules (nodes_of site.case)
    ∙ (agrees site.case.body).limits (length site.function.declaration.params) rules []
    ∙ ap (λ n. body_limits n rules site.case.body) none)

pub rule_count-total : (sites : List Site) → rule_count sites ≡ total rules_of_site sites
rule_count-total [] = refl
rule_count-total (site ∷ sites) =
    sum_by-cons (λ (s : Site). length (branches_of s.case)) site sites ∙ ap₂ (λ m n. m + n) (rules_of_branches site) (rule_count-total sites)

pub sites_alike : (rules : ℕ) (sites : List Site) → found (λ before site. case_limits (rules + rule_count before) site) sites ≡ sites_limits rules sites
sites_alike rules sites =
    let none : rules + 0 ≡ rules = omega arith in
    found_alike (λ before site. case_limits (rules + rule_count before) site) (λ before site. site_limits (rules + total rules_of_site before) site)
    (λ before site. ap (λ n. case_limits (rules + n) site) (rule_count-total before) ∙ case_alike (rules + total rules_of_site before) site) [] sites
    ∙ found_after-counted rules_of_site site_limits rules [] sites
    ∙ ap (λ n. counted rules_of_site site_limits n sites) none

pub first-functions : (relations rules : ℕ) (functions : List Function) → first (functions_limits relations rules functions) ≡
    option_or (first (found_from (λ (n : ℕ) (f : Function). declaration_limits n f.declaration) relations functions)) (first (sites_limits rules (sites_of functions)))
first-functions relations rules functions =
    first-append (found_from (λ (n : ℕ) (f : Function). declaration_limits n f.declaration) relations functions) (found (λ before site. case_limits (rules + rule_count before) site) (sites_of functions))
    ∙ ap (λ more. option_or (first (found_from (λ (n : ℕ) (f : Function). declaration_limits n f.declaration) relations functions)) (first more)) (sites_alike rules (sites_of functions))

pub ruleset first_functions = (first-functions)
