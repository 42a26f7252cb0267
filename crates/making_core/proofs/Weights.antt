-- The atoms of a rule have no more nodes than the command that they are read from.
use Rattle.std.proofs.Common.{◌≡◌, ℕ, zero, suc, ◌+◌, ◌≤◌, Bool, true, false, Option, Some, None, List, [], ◌∷◌, ◌++◌, map, drop, slice_get, refl, sym, ap, subst, rules, arith}
use Rattle.std.specs.Prelude.{sum, unwrap_or, codes, All, if◌then◌else◌}
use Rattle.std.specs.List.{flat_map}
use Rattle.std.specs.Option.{option_map_or}
use Rattle.std.proofs.lemmas.List.Elements.{All-nil, All-cons, All-head, All-tail, All-weaker}
use Rattle.sexpr_core.specs.declared.form.Atom.{Atom}
use Rattle.sexpr_core.specs.declared.form.Nest.{Nest}
use Rattle.sexpr_core.specs.declared.form.Sexpr.{Sexpr, the_lemmas}
use Rattle.sexpr_core.specs.declared.form.Sexpr as sexpr
use Rattle.sexpr_core.specs.Access.{parts_of, item_of, others_of}
use Rattle.sexpr_core.specs.Sizes.{node_count, nodes}
use Rattle.syntax_core.specs.declared.syntax.Body.{Body}
use Rattle.syntax_core.specs.declared.syntax.Body as body
use Rattle.syntax_core.specs.declared.syntax.Case.{Case}
use Rattle.syntax_core.specs.declared.syntax.Exp.{Exp}
use Rattle.syntax_core.specs.declared.syntax.Exp as exp
use Rattle.syntax_core.specs.declared.syntax.Function.{Function}
use Rattle.syntax_core.specs.declared.syntax.Pair.{Pair}
use Rattle.syntax_core.specs.Syntax.{application_of, begins, body_of, case_of, conjuncts_of, deepest, expression_of, expression_of_nest, function_of, functions_from, functions_of, leaf_of, negated_numeral, pairs_of}
use Rattle.name_core.specs.Bodies.{Branch, branches_of, branches_within}
use Rattle.making_core.proofs.BranchWidths.{All-flat_map}
use Rattle.name_core.proofs.Branchings.{branches-Leaf, branches-Fork}
use Rattle.making_core.proofs.Counts.{count-Apply, count-Negative, count-Numeral, count-Symbol, exp_count, sum-first}
use Rattle.making_core.proofs.FormInduction.{by_items}
use Rattle.making_core.proofs.ShapedForms.{parts-Keyword, parts-List, parts-Numeral, parts-Symbol, parts-Text, read-Keyword, read-List, read-Numeral, read-Symbol, read-Text}

-- how many nodes expressions have
abbrev pub weight : List Exp → ℕ
weight es = sum (map exp_count es)

pub weight-first : (e : Exp) (es : List Exp) → weight (e ∷ es) ≡ exp_count e + weight es
weight-first e es = sum-first (exp_count e) (map exp_count es)

weight-append : (es fs : List Exp) → weight (es ++ fs) ≡ weight es + weight fs
weight-append [] fs = omega arith
weight-append (e ∷ es) fs =
    let left = weight-first e (es ++ fs) in
    let right = weight-first e es in
    let more = weight-append es fs in
    omega (arith, left, right, more)

-- Forms.

count-List : (n : Nest) → node_count (sexpr.List n) ≡ 1 + sum (map node_count n.items)
count-List n = search (rules, the_lemmas)

one-Symbol : (a : Atom) → node_count (sexpr.Symbol a) ≡ 1
one-Symbol a = search (rules, the_lemmas)

one-Numeral : (a : Atom) → node_count (sexpr.Numeral a) ≡ 1
one-Numeral a = search (rules, the_lemmas)

one-Text : (a : Atom) → node_count (sexpr.Text a) ≡ 1
one-Text a = search (rules, the_lemmas)

one-Keyword : (a : Atom) → node_count (sexpr.Keyword a) ≡ 1
one-Keyword a = search (rules, the_lemmas)

nodes_sum : (forms : List Sexpr) → nodes forms ≡ sum (map node_count forms)
nodes_sum [] = refl
nodes_sum (form ∷ forms) =
    let first = sum-first (node_count form) (map node_count forms) in
    let more = nodes_sum forms in
    omega (arith, first, more)

pub few_parts : (form : Sexpr) → nodes (parts_of form) ≤ node_count form
few_parts = by_items (λ form. nodes (parts_of form) ≤ node_count form)
    (λ a. let is = ap nodes (parts-Symbol a) in omega (arith, is))
    (λ a. let is = ap nodes (parts-Numeral a) in omega (arith, is))
    (λ a. let is = ap nodes (parts-Text a) in omega (arith, is))
    (λ a. let is = ap nodes (parts-Keyword a) in omega (arith, is))
    (λ n h. let is = ap nodes (parts-List n) in let whole = count-List n in let all = nodes_sum n.items in omega (arith, is, whole, all))

picked : (forms : List Sexpr) (k : ℕ) (form : Sexpr) (n : ℕ) → nodes forms ≤ n → node_count form ≤ n → node_count (unwrap_or (slice_get forms k) form) ≤ n
picked [] k form n all whole = whole
picked (f ∷ fs) zero form n all whole = omega (arith, all)
picked (f ∷ fs) (suc k) form n all whole = picked fs k form n (omega (arith, all)) whole

pub item_count : (k : ℕ) (form : Sexpr) → node_count (item_of k form) ≤ node_count form
item_count k form = picked (parts_of form) k form (node_count form) (few_parts form) (omega arith)

rest_count : (forms : List Sexpr) → nodes (drop 1 forms) ≤ nodes forms
rest_count [] = omega arith
rest_count (f ∷ fs) = omega arith

others_count : (form : Sexpr) → nodes (others_of form) ≤ node_count form
others_count form = let few = few_parts form in let rest = rest_count (parts_of form) in omega (arith, few, rest)

-- Expressions.

read_items : (forms : List Sexpr) → All (λ form. exp_count (expression_of form) ≤ node_count form) forms → weight (map expression_of forms) ≤ nodes forms
read_items [] h = omega arith
read_items (f ∷ fs) h =
    let here = All-head (λ form. exp_count (expression_of form) ≤ node_count form) f fs h in
    let later = read_items fs (All-tail (λ form. exp_count (expression_of form) ≤ node_count form) f fs h) in
    let first = weight-first (expression_of f) (map expression_of fs) in
    omega (arith, here, later, first)

rest_weight : (es : List Exp) → weight (drop 1 es) ≤ weight es
rest_weight [] = omega arith
rest_weight (e ∷ es) = let first = weight-first e es in omega (arith, first)

read_nest : (place : ℕ) (es : List Exp) → exp_count (expression_of_nest (record { place = place; items = es })) ≤ 1 + weight es
read_nest place es = by (negated_numeral es)
  where
    by : (o : Option Atom) → exp_count (option_map_or (λ numeral. exp.Negative (record { place = place; numeral = numeral })) o (exp.Apply (application_of place es))) ≤ 1 + weight es
    by (Some numeral) = let one = count-Negative (record { place = place; numeral = numeral }) in omega (arith, one)
    by None = let whole = count-Apply (application_of place es) in let rest = rest_weight es in omega (arith, whole, rest)

pub read_count : (form : Sexpr) → exp_count (expression_of form) ≤ node_count form
read_count = by_items (λ form. exp_count (expression_of form) ≤ node_count form)
    (λ a. let is = ap exp_count (read-Symbol a) in let one = one-Symbol a in let e = count-Symbol a in omega (arith, is, one, e))
    (λ a. let is = ap exp_count (read-Numeral a) in let one = one-Numeral a in let e = count-Numeral a in omega (arith, is, one, e))
    (λ a. let is = ap exp_count (read-Text a) in let one = one-Text a in let e = count-Symbol a in omega (arith, is, one, e))
    (λ a. let is = ap exp_count (read-Keyword a) in let one = one-Keyword a in let e = count-Symbol a in omega (arith, is, one, e))
    (λ n h. let is = ap exp_count (read-List n) in let whole = count-List n in let all = nodes_sum n.items in
    let nest = read_nest n.place (map expression_of n.items) in let items = read_items n.items h in omega (arith, is, whole, all, nest, items))

-- Leaves.

weight_each : (read : Sexpr → List Exp) → ((form : Sexpr) → weight (read form) ≤ node_count form) → (forms : List Sexpr) → weight (flat_map read forms) ≤ nodes forms
weight_each read bound [] = omega arith
weight_each read bound (f ∷ fs) =
    let both = weight-append (read f) (flat_map read fs) in
    let here = bound f in
    let later = weight_each read bound fs in
    omega (arith, both, here, later)

alone : (form : Sexpr) → weight (expression_of form ∷ []) ≤ node_count form
alone form = let first = weight-first (expression_of form) [] in let count = read_count form in omega (arith, first, count)

pub conjuncts_count : (depth : ℕ) (form : Sexpr) → weight (conjuncts_of depth form) ≤ node_count form
unfolding conjuncts_of
conjuncts_count zero form = alone form
conjuncts_count (suc depth) form = by (begins (codes "and") form) (weight_each (conjuncts_of depth) (λ f. conjuncts_count depth f) (others_of form))
  where
    by : (b : Bool) → weight (flat_map (conjuncts_of depth) (others_of form)) ≤ nodes (others_of form) →
        weight (if b then flat_map (conjuncts_of depth) (others_of form) else expression_of form ∷ []) ≤ node_count form
    by true each =
        let others = others_count form in
        omega (arith, each, others)
    by false each = alone form

-- Branches.

-- the atoms of a branch have at most so many nodes
abbrev pub IsLight : ℕ → Branch → Type 0
IsLight n branch = weight branch.leaf.atoms ≤ n

abbrev AreLight : ℕ → List Pair → Body → Type 0
AreLight n around b = All (IsLight n) (branches_within b around)

lighter : (m n : ℕ) (branches : List Branch) → m ≤ n → All (IsLight m) branches → All (IsLight n) branches
lighter m n branches le = All-weaker (IsLight m) (IsLight n) (λ branch h. omega (arith, h, le)) branches

light_leaf : (depth : ℕ) (form : Sexpr) (around : List Pair) → AreLight (node_count form) around (body.Leaf (leaf_of depth form))
light_leaf depth form around =
    subst (All (IsLight (node_count form))) (sym (branches-Leaf (leaf_of depth form) around))
    (All-cons (IsLight (node_count form)) (record { around = around; leaf = leaf_of depth form }) [] (conjuncts_count depth form) (All-nil (IsLight (node_count form))))

light_each : (read : Sexpr → Body) (around : List Pair) → ((form : Sexpr) → AreLight (node_count form) around (read form)) → (n : ℕ) (forms : List Sexpr) → nodes forms ≤ n →
    All (λ (b : Body). All (IsLight n) (branches_within b around)) (map read forms)
light_each read around light n [] bound = All-nil (λ (b : Body). All (IsLight n) (branches_within b around))
light_each read around light n (f ∷ fs) bound =
    All-cons (λ (b : Body). All (IsLight n) (branches_within b around)) (read f) (map read fs)
    (lighter (node_count f) n (branches_within (read f) around) (omega (arith, bound)) (light f))
    (light_each read around light n fs (omega (arith, bound)))

light_fork : (pairs : List Pair) (bodies : List Body) (around : List Pair) (n : ℕ) → All (λ (b : Body). All (IsLight n) (branches_within b (around ++ pairs))) bodies →
    AreLight n around (body.Fork (record { pairs = pairs; bodies = bodies }))
light_fork pairs bodies around n h =
    subst (All (IsLight n)) (sym (branches-Fork (record { pairs = pairs; bodies = bodies }) around))
    (All-flat_map (IsLight n) (λ b. branches_within b (around ++ pairs)) bodies h)

pub light_body : (depth : ℕ) (form : Sexpr) (around : List Pair) → All (IsLight (node_count form)) (branches_within (body_of depth form) around)
unfolding body_of
light_body zero form around = light_leaf zero form around
light_body (suc depth) form around = by (λ f around. light_body depth f around) (begins (codes "exists") form) (begins (codes "or") form)
  where
    by : ((f : Sexpr) (around : List Pair) → AreLight (node_count f) around (body_of depth f)) → (exists or : Bool) → AreLight (node_count form) around
        (if exists then body.Fork (record { pairs = pairs_of (item_of 1 form); bodies = body_of depth (item_of 2 form) ∷ [] })
        else if or then body.Fork (record { pairs = []; bodies = map (body_of depth) (others_of form) })
        else body.Leaf (leaf_of (suc depth) form))
    by light true or =
        let n = node_count form in
        let within = around ++ pairs_of (item_of 1 form) in
        light_fork (pairs_of (item_of 1 form)) (body_of depth (item_of 2 form) ∷ []) around n
        (All-cons (λ (b : Body). All (IsLight n) (branches_within b within)) (body_of depth (item_of 2 form)) []
        (lighter (node_count (item_of 2 form)) n (branches_within (body_of depth (item_of 2 form)) within) (item_count 2 form) (light (item_of 2 form) within))
        (All-nil (λ (b : Body). All (IsLight n) (branches_within b within))))
    by light false true =
        let n = node_count form in
        light_fork [] (map (body_of depth) (others_of form)) around n
        (light_each (body_of depth) (around ++ []) (λ f. light f (around ++ [])) n (others_of form) (others_count form))
    by light false false = light_leaf (suc depth) form around

-- Functions.

-- the rules of the cases have atoms of at most so many nodes
abbrev pub HasLightCases : ℕ → Function → Type 0
HasLightCases n f = All (λ case. All (IsLight n) (branches_of case)) f.definition.cases

light_cases : (n : ℕ) (forms : List Sexpr) → nodes forms ≤ n → All (λ (case : Case). All (IsLight n) (branches_of case)) (map case_of forms)
light_cases n [] bound = All-nil (λ (case : Case). All (IsLight n) (branches_of case))
light_cases n (f ∷ fs) bound =
    let inner = item_count 1 f in
    All-cons (λ (case : Case). All (IsLight n) (branches_of case)) (case_of f) (map case_of fs)
    (lighter (node_count (item_of 1 f)) n (branches_of (case_of f)) (omega (arith, bound, inner)) (light_body deepest (item_of 1 f) []))
    (light_cases n fs (omega (arith, bound)))

light_definition : (n : ℕ) (declaration definition : Sexpr) → node_count definition ≤ n → HasLightCases n (function_of declaration definition)
light_definition n declaration definition bound =
    let one = item_count 1 definition in
    let two = item_count 2 (item_of 1 definition) in
    let parts = few_parts (item_of 2 (item_of 1 definition)) in
    light_cases n (parts_of (item_of 2 (item_of 1 definition))) (omega (arith, bound, one, two, parts))

light_from : (n : ℕ) (declarations definitions : List Sexpr) → nodes definitions ≤ n → All (HasLightCases n) (functions_from declarations definitions)
light_from n [] definitions bound = All-nil (HasLightCases n)
light_from n (d ∷ ds) [] bound = All-nil (HasLightCases n)
light_from n (d ∷ ds) (e ∷ es) bound =
    All-cons (HasLightCases n) (function_of d e) (functions_from ds es) (light_definition n d e (omega (arith, bound))) (light_from n ds es (omega (arith, bound)))

pub light_functions : (form : Sexpr) → All (HasLightCases (node_count form)) (functions_of form)
light_functions form =
    let two = item_count 2 form in
    let parts = few_parts (item_of 2 form) in
    light_from (node_count form) (parts_of (item_of 1 form)) (parts_of (item_of 2 form)) (omega (arith, two, parts))
