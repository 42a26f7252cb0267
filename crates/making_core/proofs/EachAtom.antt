-- What holds of tokens and of conjuncts that are no `and` holds of each atom of a command's functions, where the command is of
-- right shape and nests at most 200 lists.
use Rattle.std.proofs.Common.{◌≡◌, ◌≤◌, ℕ, zero, suc, Bool, true, false, List, [], ◌∷◌, ◌++◌, map, length, slice_get, Option, Some, None, refl, sym, ap, subst, ◌∙◌, arith}
use Rattle.std.specs.Prelude.{All, nat_eq, nat_le, codes, unwrap_or, if◌then◌else◌}
use Rattle.std.specs.List.{flat_map}
use Rattle.std.specs.Option.{option_map_or}
use Rattle.std.proofs.lemmas.List.Elements.{All-cons, All-head, All-nil, All-tail}
use Rattle.sig_core.specs.Names.{same_name}
use Rattle.sexpr_core.specs.declared.form.Sexpr.{Sexpr}
use Rattle.sexpr_core.specs.Access.{items_of, symbol_of, parts_of, item_of, others_of}
use Rattle.sexpr_core.specs.Sizes.{nesting}
use Rattle.syntax_core.specs.declared.roles.Due.TheVariants.{One, Many}
use Rattle.syntax_core.specs.declared.roles.Role.TheVariants as role
use Rattle.syntax_core.specs.declared.syntax.Body.{Body}
use Rattle.syntax_core.specs.declared.syntax.Body as body
use Rattle.syntax_core.specs.declared.syntax.Case.{Case}
use Rattle.syntax_core.specs.declared.syntax.Exp.{Exp}
use Rattle.syntax_core.specs.declared.syntax.Function.{Function}
use Rattle.syntax_core.specs.declared.syntax.Pair.{Pair}
use Rattle.syntax_core.specs.Roles.{after_symbol, are_headed, are_of_definition, are_of_match, due_in, due_in_conjunct, due_in_exists, fits_role, is_conjunct, name_at_front}
use Rattle.syntax_core.specs.Shapes.{HasShape}
use Rattle.syntax_core.specs.Syntax.{begins, body_of, case_of, conjuncts_of, deepest, expression_of, function_of, functions_from, leaf_of, pairs_of}
use Rattle.name_core.specs.Bodies.{Branch, branches_of, branches_within}
use Rattle.name_core.proofs.Branchings.{branches-Fork, branches-Leaf}
use Rattle.making_core.proofs.BranchWidths.{All-flat_map}
use Rattle.making_core.proofs.FormInduction.{by_items}
use Rattle.making_core.proofs.ShapedForms.{Nests, after_first, at_each, conjunct_shape, due_next, false_true, fit_of, headed_list, item_nests, item_shape, items_nest, list_item, parts-Keyword, parts-List, parts-Numeral, parts-Symbol, parts-Text, parts_nest, passes_parts, second_of, third_of}

-- P holds of the atoms of a branch
abbrev pub HasAtoms : (Exp → Type 0) → Branch → Type 0
HasAtoms P branch = All P branch.leaf.atoms

-- it holds of the atoms of a case's rules, and of those of a function's
abbrev pub HasRules : (Exp → Type 0) → Case → Type 0
HasRules P case = All (HasAtoms P) (branches_of case)

abbrev pub HasCases : (Exp → Type 0) → Function → Type 0
HasCases P f = All (HasRules P) f.definition.cases

-- P holds of tokens, and of conjuncts that are no `and`
pub record HoldsOfConjuncts (P : Exp → Type 0) : Type 0 where
  pub tokens : (form : Sexpr) → nesting form ≤ 0 → P (expression_of form)
  pub others : (form : Sexpr) → HasShape (One role.Conjunct) form → begins (codes "and") form ≡ false → P (expression_of form)

-- Conjuncts.

each_conjunct : (P : Exp → Type 0) (depth : ℕ) (forms : List Sexpr) → ((form : Sexpr) → HasShape (One role.Conjunct) form → nesting form ≤ depth → All P (conjuncts_of depth form)) →
    All (λ (item : Sexpr). HasShape (One role.Conjunct) item × (nesting item ≤ depth)) forms → All (λ (form : Sexpr). All P (conjuncts_of depth form)) forms
each_conjunct P depth [] holds h = All-nil (λ (form : Sexpr). All P (conjuncts_of depth form))
each_conjunct P depth (f ∷ fs) holds h =
    let Q : Sexpr → Type 0 = λ item. HasShape (One role.Conjunct) item × (nesting item ≤ depth) in
    let here : HasShape (One role.Conjunct) f × (nesting f ≤ depth) = All-head Q f fs h in
    All-cons (λ (form : Sexpr). All P (conjuncts_of depth form)) f fs (holds f here.0 here.1) (each_conjunct P depth fs holds (All-tail Q f fs h))

conjuncts_hold : (P : Exp → Type 0) → HoldsOfConjuncts P → (depth : ℕ) (form : Sexpr) → HasShape (One role.Conjunct) form → nesting form ≤ depth → All P (conjuncts_of depth form)
unfolding conjuncts_of
conjuncts_hold P c zero form shape nests = All-cons P (expression_of form) [] (c.tokens form nests) (All-nil P)
conjuncts_hold P c (suc depth) form shape nests = by (λ f shape nests. conjuncts_hold P c depth f shape nests) (begins (codes "and") form) refl
  where
    by : ((f : Sexpr) → HasShape (One role.Conjunct) f → nesting f ≤ depth → All P (conjuncts_of depth f)) → (b : Bool) → begins (codes "and") form ≡ b →
        All P (if b then flat_map (conjuncts_of depth) (others_of form) else expression_of form ∷ [])
    by inner true is =
        let due : (k : ℕ) → due_in (One role.Conjunct) (parts_of form) (suc k) ≡ One role.Conjunct =
        λ k. ap (λ b. if b then after_symbol role.Conjunct (suc k) else after_symbol role.Expression (suc k)) is ∙ due_next role.Conjunct k in
        All-flat_map P (conjuncts_of depth) (others_of form)
        (each_conjunct P depth (others_of form) inner
        (after_first (One role.Conjunct) depth (parts_of form) (λ k item at. subst (λ d. HasShape d item) (due k) (item_shape shape (suc k) item at)) (parts_nest form depth nests)))
    by inner false is = All-cons P (expression_of form) [] (c.others form shape is) (All-nil P)

-- Bodies.

three : (others : List Sexpr) → nat_eq (length others) 2 ≡ true → (item : Sexpr) × (slice_get others 1 ≡ Some item)
three [] h = absurd (cc)
three (a ∷ []) h = absurd (cc)
three (a ∷ b ∷ others) h = (b, refl)

headed_by : (first : Sexpr) (others : List Sexpr) (o : Option (List ℕ)) → symbol_of first ≡ o →
    option_map_or (λ name. if same_name (codes "exists") name then nat_eq (length others) 2 else (if same_name (codes "or") name then nat_le 1 (length others) else is_conjunct name (length others))) o true ≡ true →
    same_name (codes "exists") (unwrap_or o []) ≡ true → (item : Sexpr) × (slice_get others 1 ≡ Some item)
headed_by first others None is h named = absurd (false_true named)
headed_by first others (Some name) is h named =
    three others (sym (ap (λ b. if b then nat_eq (length others) 2 else (if same_name (codes "or") name then nat_le 1 (length others) else is_conjunct name (length others))) named) ∙ h)

exists_items : (items : List Sexpr) → are_headed role.Body items ≡ true → same_name (codes "exists") (name_at_front items) ≡ true → (item : Sexpr) × (slice_get items 2 ≡ Some item)
exists_items [] h named = absurd (false_true h)
exists_items (first ∷ others) h named = headed_by first others (symbol_of first) refl h named

-- an `exists` has a body
exists_body : (form : Sexpr) → fits_role role.Body form ≡ true → begins (codes "exists") form ≡ true → (item : Sexpr) × (slice_get (parts_of form) 2 ≡ Some item)
exists_body = by_items (λ form. fits_role role.Body form ≡ true → begins (codes "exists") form ≡ true → (item : Sexpr) × (slice_get (parts_of form) 2 ≡ Some item))
    (λ a fit named. absurd (false_true (sym (ap (λ items. same_name (codes "exists") (name_at_front items)) (parts-Symbol a)) ∙ named)))
    (λ a fit named. absurd (false_true (sym (ap (λ items. same_name (codes "exists") (name_at_front items)) (parts-Numeral a)) ∙ named)))
    (λ a fit named. absurd (false_true (sym (ap (λ items. same_name (codes "exists") (name_at_front items)) (parts-Text a)) ∙ named)))
    (λ a fit named. absurd (false_true (sym (ap (λ items. same_name (codes "exists") (name_at_front items)) (parts-Keyword a)) ∙ named)))
    (λ n all fit named.
    let headed : are_headed role.Body n.items ≡ true = headed_list role.Body n fit in
    let found = exists_items n.items headed (sym (ap (λ items. same_name (codes "exists") (name_at_front items)) (parts-List n)) ∙ named) in
    (found.0, ap (λ items. slice_get items 2) (parts-List n) ∙ found.1))

leaf_holds : (P : Exp → Type 0) (depth : ℕ) (form : Sexpr) (around : List Pair) → All P (conjuncts_of depth form) → All (HasAtoms P) (branches_within (body.Leaf (leaf_of depth form)) around)
leaf_holds P depth form around h =
    subst (All (HasAtoms P)) (sym (branches-Leaf (leaf_of depth form) around))
    (All-cons (HasAtoms P) (record { around = around; leaf = leaf_of depth form }) [] h (All-nil (HasAtoms P)))

token_holds : (P : Exp → Type 0) → HoldsOfConjuncts P → (form : Sexpr) → nesting form ≤ 0 → All P (conjuncts_of zero form)
unfolding conjuncts_of
token_holds P c form nests = All-cons P (expression_of form) [] (c.tokens form nests) (All-nil P)

fork_holds : (P : Exp → Type 0) (pairs : List Pair) (bodies : List Body) (around : List Pair) → All (λ (b : Body). All (HasAtoms P) (branches_within b (around ++ pairs))) bodies →
    All (HasAtoms P) (branches_within (body.Fork (record { pairs = pairs; bodies = bodies })) around)
fork_holds P pairs bodies around h =
    subst (All (HasAtoms P)) (sym (branches-Fork (record { pairs = pairs; bodies = bodies }) around))
    (All-flat_map (HasAtoms P) (λ b. branches_within b (around ++ pairs)) bodies h)

abbrev IsBodyIn : ℕ → Sexpr → Type 0
IsBodyIn d form = HasShape (One role.Body) form × Nests d form

bodies_hold : (P : Exp → Type 0) (d : ℕ) (read : Sexpr → Body) (around : List Pair) → ((f : Sexpr) → HasShape (One role.Body) f → Nests d f → All (HasAtoms P) (branches_within (read f) around)) →
    (forms : List Sexpr) → All (IsBodyIn d) forms → All (λ (b : Body). All (HasAtoms P) (branches_within b around)) (map read forms)
bodies_hold P d read around holds [] h = All-nil (λ (b : Body). All (HasAtoms P) (branches_within b around))
bodies_hold P d read around holds (f ∷ fs) h =
    let here : IsBodyIn d f = All-head (IsBodyIn d) f fs h in
    All-cons (λ (b : Body). All (HasAtoms P) (branches_within b around)) (read f) (map read fs) (holds f here.0 here.1)
    (bodies_hold P d read around holds fs (All-tail (IsBodyIn d) f fs h))

body_holds : (P : Exp → Type 0) → HoldsOfConjuncts P → (depth : ℕ) (form : Sexpr) (around : List Pair) → HasShape (One role.Body) form → nesting form ≤ depth → All (HasAtoms P) (branches_within (body_of depth form) around)
unfolding body_of
body_holds P c zero form around shape nests = leaf_holds P zero form around (token_holds P c form nests)
body_holds P c (suc depth) form around shape nests =
    by (λ f around shape nests. body_holds P c depth f around shape nests) (begins (codes "exists") form) refl (begins (codes "or") form) refl
  where
    inside : All (Nests depth) (parts_of form)
    inside = parts_nest form depth nests

    by : ((f : Sexpr) (around : List Pair) → HasShape (One role.Body) f → Nests depth f → All (HasAtoms P) (branches_within (body_of depth f) around)) →
        (exists : Bool) → begins (codes "exists") form ≡ exists → (or : Bool) → begins (codes "or") form ≡ or →
        All (HasAtoms P) (branches_within
        (if exists then body.Fork (record { pairs = pairs_of (item_of 1 form); bodies = body_of depth (item_of 2 form) ∷ [] })
        else if or then body.Fork (record { pairs = []; bodies = map (body_of depth) (others_of form) })
        else body.Leaf (leaf_of (suc depth) form)) around)
    by holds true is or _ =
        let third = exists_body form (fit_of shape) is in
        let due : due_in (One role.Body) (parts_of form) 2 ≡ One role.Body = ap (λ b. if b then due_in_exists 2 else (if begins (codes "or") form then after_symbol role.Body 2 else due_in_conjunct (name_at_front (parts_of form)) 2)) is in
        let shaped : HasShape (One role.Body) third.0 = subst (λ d. HasShape d third.0) due (item_shape shape 2 third.0 third.1) in
        let same : third.0 ≡ item_of 2 form = sym (ap (λ o. unwrap_or o form) third.1) in
        let around_it : List Pair = around ++ pairs_of (item_of 1 form) in
        fork_holds P (pairs_of (item_of 1 form)) (body_of depth (item_of 2 form) ∷ []) around
        (All-cons (λ (b : Body). All (HasAtoms P) (branches_within b around_it)) (body_of depth (item_of 2 form)) []
        (holds (item_of 2 form) around_it (subst (HasShape (One role.Body)) same shaped) (subst (Nests depth) same (at_each (Nests depth) (parts_of form) 2 third.0 inside third.1)))
        (All-nil (λ (b : Body). All (HasAtoms P) (branches_within b around_it))))
    by holds false is true named =
        let due : (k : ℕ) → due_in (One role.Body) (parts_of form) (suc k) ≡ One role.Body =
        λ k. ap (λ b. if b then due_in_exists (suc k) else (if begins (codes "or") form then after_symbol role.Body (suc k) else due_in_conjunct (name_at_front (parts_of form)) (suc k))) is
        ∙ ap (λ b. if b then after_symbol role.Body (suc k) else due_in_conjunct (name_at_front (parts_of form)) (suc k)) named ∙ due_next role.Body k in
        fork_holds P [] (map (body_of depth) (others_of form)) around
        (bodies_hold P depth (body_of depth) (around ++ []) (λ f. holds f (around ++ [])) (others_of form)
        (after_first (One role.Body) depth (parts_of form) (λ k item at. subst (λ d. HasShape d item) (due k) (item_shape shape (suc k) item at)) inside))
    by holds false is false named = leaf_holds P (suc depth) form around (conjuncts_hold P c (suc depth) form (conjunct_shape form shape is named) nests)

-- Cases and functions.

case_holds : (P : Exp → Type 0) → HoldsOfConjuncts P → (form : Sexpr) → HasShape (One role.Case) form → Nests deepest form → HasRules P (case_of form)
case_holds P c form shape nests =
    let second = list_item 2 1 form (fit_of shape) (omega arith) in
    let shaped : HasShape (One role.Body) second.0 = item_shape shape 1 second.0 second.1 in
    body_holds P c deepest (item_of 1 form) [] (subst (HasShape (One role.Body)) (sym (ap (λ o. unwrap_or o form) second.1)) shaped) (item_nests deepest 1 form nests)

cases_hold : (P : Exp → Type 0) → HoldsOfConjuncts P → (forms : List Sexpr) → ((k : ℕ) (form : Sexpr) → slice_get forms k ≡ Some form → HasShape (One role.Case) form) → All (Nests deepest) forms → All (HasRules P) (map case_of forms)
cases_hold P c [] shaped nests = All-nil (HasRules P)
cases_hold P c (f ∷ fs) shaped nests =
    All-cons (HasRules P) (case_of f) (map case_of fs) (case_holds P c f (shaped 0 f refl) (All-head (Nests deepest) f fs nests))
    (cases_hold P c fs (λ k form at. shaped (suc k) form at) (All-tail (Nests deepest) f fs nests))

match_holds : (P : Exp → Type 0) → HoldsOfConjuncts P → (form : Sexpr) → HasShape (One role.Match) form → Nests deepest form → All (HasRules P) (map case_of (parts_of (item_of 2 form)))
match_holds P c form shape nests =
    let third = third_of (parts_of form) (passes_parts are_of_match (items_of form) (fit_of shape)) in
    let shaped : HasShape (Many role.Case) third.0 = item_shape shape 2 third.0 third.1 in
    let same : third.0 ≡ item_of 2 form = sym (ap (λ o. unwrap_or o form) third.1) in
    cases_hold P c (parts_of (item_of 2 form)) (item_shape (subst (HasShape (Many role.Case)) same shaped)) (items_nest deepest (item_of 2 form) (item_nests deepest 2 form nests))

definition_holds : (P : Exp → Type 0) → HoldsOfConjuncts P → (declaration form : Sexpr) → HasShape (One role.Definition) form → Nests deepest form → HasCases P (function_of declaration form)
definition_holds P c declaration form shape nests =
    let second = second_of (parts_of form) (passes_parts are_of_definition (items_of form) (fit_of shape)) in
    let shaped : HasShape (One role.Match) second.0 = item_shape shape 1 second.0 second.1 in
    let same : second.0 ≡ item_of 1 form = sym (ap (λ o. unwrap_or o form) second.1) in
    match_holds P c (item_of 1 form) (subst (HasShape (One role.Match)) same shaped) (item_nests deepest 1 form nests)

-- it holds of the atoms of functions whose definitions are of right shape
pub definitions_hold : (P : Exp → Type 0) → HoldsOfConjuncts P → (declarations definitions : List Sexpr) → ((k : ℕ) (form : Sexpr) → slice_get definitions k ≡ Some form → HasShape (One role.Definition) form) →
    All (Nests deepest) definitions → All (HasCases P) (functions_from declarations definitions)
definitions_hold P c [] definitions shaped nests = All-nil (HasCases P)
definitions_hold P c (d ∷ ds) [] shaped nests = All-nil (HasCases P)
definitions_hold P c (d ∷ ds) (e ∷ es) shaped nests =
    All-cons (HasCases P) (function_of d e) (functions_from ds es) (definition_holds P c d e (shaped 0 e refl) (All-head (Nests deepest) e es nests))
    (definitions_hold P c ds es (λ k form at. shaped (suc k) form at) (All-tail (Nests deepest) e es nests))
