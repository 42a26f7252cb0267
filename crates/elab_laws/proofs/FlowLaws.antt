-- No rule of a command that passes the tests of shape, limits, names and sorts has an atom that doesn't fit.
use Rattle.std.proofs.Common.{◌≡◌, ℕ, ◌+◌, ◌<◌, Bool, true, false, Option, Some, None, is_some, List, [], ◌∷◌, ◌++◌, map, length, slice_get, refl, sym, ap, ap₂, subst, ◌∙◌, rules, arith}
use Rattle.std.specs.Prelude.{not, ◌||◌, All, unwrap_or, if◌then◌else◌}
use Rattle.std.specs.List.{flat_map}
use Rattle.std.specs.Option.{option_map_or}
use Rattle.std.proofs.lemmas.List.{append-nil, length-append, length-map, map-append}
use Rattle.std.proofs.lemmas.List.Elements.{All-nil, All-cons, All-head, All-tail, All-append}
use Rattle.sig_core.specs.declared.ids.RelId.{RelId}
use Rattle.sig_core.specs.declared.signature.Kind.{Kind}
use Rattle.sig_core.specs.declared.signature.Kind.TheVariants.{Term, Input, Output}
use Rattle.sig_core.specs.declared.signature.Param.{Param}
use Rattle.sig_core.specs.declared.signature.Relation.{Relation}
use Rattle.sig_core.specs.declared.ids.TypeId.{TypeId}
use Rattle.sig_core.specs.declared.value.Sort.{Sort}
use Rattle.sig_core.specs.Names.{place_of}
use Rattle.sig_core.specs.Refusals.{with_relation}
use Rattle.sig_core.specs.Signatures.{Declarations, input_slots, kinds_of, params_in, plain_sorts}
use Rattle.sig_core.specs.WellFormed.{IsRelation, relation_names}
use Rattle.sexpr_core.specs.declared.form.Atom as sexpr
use Rattle.sexpr_core.specs.declared.form.Sexpr.{Sexpr}
use Rattle.sexpr_core.specs.Sizes.{IsSmall}
use Rattle.expr_core.specs.declared.expr.Op.{Op}
use Rattle.expr_core.specs.declared.expr.Op.TheVariants as op
use Rattle.rule_core.specs.declared.rule.Rule.{Rule}
use Rattle.rule_core.specs.declared.rule.Var.{Var}
use Rattle.rule_core.specs.declared.rule.Who.{Who}
use Rattle.rule_core.specs.declared.rule.Who.TheVariants.{Own, Child}
use Rattle.rule_core.specs.Flow.{fits}
use Rattle.rule_core.specs.Instances.{slot_sorts}
use Rattle.syntax_core.specs.declared.commands.Head.TheVariants as head
use Rattle.syntax_core.specs.declared.literal.Literal.{Literal}
use Rattle.syntax_core.specs.declared.syntax.Application.{Application}
use Rattle.syntax_core.specs.declared.syntax.Case.{Case}
use Rattle.syntax_core.specs.declared.syntax.Exp.{Exp, the_lemmas}
use Rattle.syntax_core.specs.declared.syntax.Exp as exp
use Rattle.syntax_core.specs.declared.syntax.Function.{Function}
use Rattle.syntax_core.specs.declared.syntax.Pair.{Pair}
use Rattle.syntax_core.specs.Roles.{operator_named}
use Rattle.syntax_core.specs.Syntax.{functions_of}
use Rattle.sort_core.specs.declared.open.OpenExp.{OpenExp}
use Rattle.sort_core.specs.declared.open.OpenNode.{OpenNode, out-OpenNode}
use Rattle.sort_core.specs.declared.open.OpenNode.{the_lemmas as node_lemmas}
use Rattle.sort_core.specs.declared.open.OpenNode as node
use Rattle.sort_core.specs.declared.open.OpenNode.TheOpen.{OpenNode-F}
use Rattle.sort_core.specs.declared.variables.Variables.{Variables}
use Rattle.sort_core.specs.declared.branch.OpenBranch.{OpenBranch}
use Rattle.sort_core.specs.declared.branch.OpenCase.{OpenCase}
use Rattle.name_core.specs.Bodies.{Branch, branches_of}
use Rattle.name_core.specs.Faults.{bad_if, first, found, found_from}
use Rattle.name_core.specs.Limits.{case_limits, declaration_limits, limits}
use Rattle.name_core.specs.Bodies.{rule_count, sites_of}
use Rattle.name_core.specs.Names.{declaration_names, definition_names, expression_names, function_names, has, is_plain, names, names_in, plain_pairs, texts}
use Rattle.name_core.specs.States.{State}
use Rattle.name_core.proofs.NameFacts.{BranchNamed, CaseNamed, DefinitionNamed, functions_named}
use Rattle.sort_core.specs.Branches.{constructor_named, open_branch, open_case, open_cases}
use Rattle.sort_core.specs.Opens.{application_node, literal_node, negated_in, opened, operation_node, relation_named, variables_of, within}
use Rattle.sort_core.specs.Relations.{declared_with, kind_of, relation_of, sort_named, type_named}
use Rattle.sort_core.specs.Sorts.{atom_faults, branch_faults, case_faults, constructor_at, declaration_faults, definition_faults, matched_type, pattern_faults, sorts, sorts_of}
use Rattle.sort_core.proofs.Faultless.{is_true, none_each, none_parts, not_bad}
use Rattle.sort_core.proofs.TermTypes.{kinds_of_params}
use Rattle.making_core.specs.Fitting.{RelationsFit}
use Rattle.making_core.specs.Rules.{atom_of, rule_of, var_of}
use Rattle.making_core.specs.Soundness.{IsSoundState}
use Rattle.making_core.proofs.Counts.{Negation, Operation, applied, kept, minus, negation, opened-Apply, opened-Negative, opened-Numeral, opened-Symbol, operation, turned}
use Rattle.making_core.proofs.Declaring.{relations_fit}
use Rattle.making_core.proofs.ExpInduction.{by_arguments}
use Rattle.making_core.proofs.RuleFacts.{AreDeclared, IsDeclared, are_declared, here, later}
use Rattle.making_core.proofs.Terms.{number_within}
use Rattle.elab_laws.specs.Flowing.{HasFittingAtoms, IsTestedDefinition, RulesFit}
use Rattle.elab_laws.proofs.FittingAtoms.{CallsKnown, atom_fits, atoms_fine}
use Rattle.elab_laws.proofs.FullAtoms.{HasFullAtoms, HasFullCases, HasFullRules, functions_full}
use Rattle.elab_laws.proofs.SortLaws.{is_full}

-- Calls of an expression whose names are right are of relations that are there.

names-Apply : (relations scope : List (List ℕ)) (app : Application) → expression_names relations scope (exp.Apply app) ≡
    bad_if (not (is_some (operator_named app.head.bytes) || has relations app.head.bytes)) 20 app.head.place ++ flat_map (λ faults. faults) (map (expression_names relations scope) app.args)
names-Apply relations scope app = search (rules, the_lemmas)

out-Slot : (k : ℕ) → out-OpenNode (node.Slot k) ≡ OpenNode-F.Slot k
out-Slot k = search (rules, node_lemmas)

out-Term : (who : Who) → out-OpenNode (node.Term who) ≡ OpenNode-F.Term who
out-Term who = search (rules, node_lemmas)

out-Literal : (place : ℕ) (literal : Literal) → out-OpenNode (node.Literal place literal) ≡ OpenNode-F.Literal place literal
out-Literal place literal = search (rules, node_lemmas)

out-Apply : (o : Op) (kids : List OpenExp) → out-OpenNode (node.Apply o kids) ≡ OpenNode-F.Apply o kids
out-Apply o kids = search (rules, node_lemmas)

out-Call : (relation : RelId) (args : List OpenExp) → out-OpenNode (node.Call relation args) ≡ OpenNode-F.Call relation args
out-Call relation args = search (rules, node_lemmas)

abbrev Known : Declarations → OpenNode → Type 0
Known sig n = (relation : RelId) (args : List OpenExp) → out-OpenNode n ≡ OpenNode-F.Call relation args → relation.0 < length sig.relations

known-Slot : (sig : Declarations) (k : ℕ) → Known sig (node.Slot k)
known-Slot sig k relation args is = let e : OpenNode-F.Slot k ≡ OpenNode-F.Call relation args = sym (out-Slot k) ∙ is in absurd (cc)

known-Term : (sig : Declarations) (who : Who) → Known sig (node.Term who)
known-Term sig who relation args is = let e : OpenNode-F.Term who ≡ OpenNode-F.Call relation args = sym (out-Term who) ∙ is in absurd (cc)

known-Literal : (sig : Declarations) (place : ℕ) (literal : Literal) → Known sig (node.Literal place literal)
known-Literal sig place literal relation args is = let e : OpenNode-F.Literal place literal ≡ OpenNode-F.Call relation args = sym (out-Literal place literal) ∙ is in absurd (cc)

known-Apply : (sig : Declarations) (o : Op) (kids : List OpenExp) → Known sig (node.Apply o kids)
known-Apply sig o kids relation args is = let e : OpenNode-F.Apply o kids ≡ OpenNode-F.Call relation args = sym (out-Apply o kids) ∙ is in absurd (cc)

known-Call : (sig : Declarations) (named : RelId) (args : List OpenExp) → named.0 < length sig.relations → Known sig (node.Call named args)
known-Call sig named args within relation others is =
    let e : OpenNode-F.Call named args ≡ OpenNode-F.Call relation others = sym (out-Call named args) ∙ is in
    let same : named ≡ relation = cc in subst (λ (r : RelId). r.0 < length sig.relations) same within

known_symbol : (sig : Declarations) (slot child : Option ℕ) (own : Bool) (a : sexpr.Atom) →
    Known sig (option_map_or node.Slot slot (option_map_or (λ k. node.Term (Child k)) child (if own then node.Term Own else literal_node a)))
known_symbol sig (Some slot) child own a = known-Slot sig slot
known_symbol sig None (Some child) own a = known-Term sig (Child child)
known_symbol sig None None true a = known-Term sig Own
known_symbol sig None None false a = known-Literal sig _ _

known_minus : (sig : Declarations) (e : OpenExp) → Negation (out-OpenNode e.node) → Known sig (unwrap_or (negated_in (out-OpenNode e.node)) (node.Apply op.Minus (e ∷ [])))
known_minus sig e (kept is) = subst (λ o. Known sig (unwrap_or o (node.Apply op.Minus (e ∷ [])))) (sym is) (known-Apply sig op.Minus (e ∷ []))
known_minus sig e (turned place literal is) = subst (λ o. Known sig (unwrap_or o (node.Apply op.Minus (e ∷ [])))) (sym is) (known-Literal sig place literal)

known_operation : (sig : Declarations) (o : Op) (args : List OpenExp) → Operation o args → Known sig (operation_node o args)
known_operation sig o args (applied is) = subst (Known sig) (sym is) (known-Apply sig o args)
known_operation sig o args (minus e is alone node_is) = subst (Known sig) (sym node_is) (known_minus sig e (negation (out-OpenNode e.node)))

known_application : (sig : Declarations) (name : List ℕ) (args : List OpenExp) → (is_some (operator_named name) || has (relation_names sig.relations) name) ≡ true → Known sig (application_node sig name args)
known_application sig name args known = by (operator_named name) known
  where
    by : (o : Option Op) → (is_some o || has (relation_names sig.relations) name) ≡ true → Known sig (option_map_or (λ q. operation_node q args) o (node.Call (relation_named sig name) args))
    by (Some o) known = known_operation sig o args (operation o args)
    by None known =
        let number = number_within (relation_names sig.relations) name (ap not known) in
        let count = length-map sig.relations (λ (r : Relation). r.name) in
        known-Call sig (relation_named sig name) args (omega (arith, number, count))

calls_known : (sig : Declarations) (vars : Variables) (scope : List (List ℕ)) (e : Exp) → first (expression_names (relation_names sig.relations) scope e) ≡ None → CallsKnown sig (opened sig vars e)
calls_known sig vars scope = by_arguments (λ e. first (expression_names (relation_names sig.relations) scope e) ≡ None → CallsKnown sig (opened sig vars e))
    (λ a none. at (exp.Symbol a) _ (opened-Symbol sig vars a) (known_symbol sig (place_of vars.slots a.bytes) (place_of vars.children a.bytes) (has vars.own a.bytes) a))
    (λ a none. at (exp.Numeral a) _ (opened-Numeral sig vars a) (known-Literal sig _ _))
    (λ n none. at (exp.Negative n) _ (opened-Negative sig vars n) (known-Literal sig _ _))
    (λ app each none. at (exp.Apply app) _ (opened-Apply sig vars app) (known_application sig app.head.bytes (map (opened sig vars) app.args)
    (is_true (is_some (operator_named app.head.bytes) || has (relation_names sig.relations) app.head.bytes)
    (not_bad (not (is_some (operator_named app.head.bytes) || has (relation_names sig.relations) app.head.bytes)) 20 app.head.place
    (none_parts (bad_if (not (is_some (operator_named app.head.bytes) || has (relation_names sig.relations) app.head.bytes)) 20 app.head.place)
    (flat_map (λ faults. faults) (map (expression_names (relation_names sig.relations) scope) app.args))
    (sym (ap first (names-Apply (relation_names sig.relations) scope app)) ∙ none)).0))))
  where
    at : (e : Exp) (o : OpenExp) → opened sig vars e ≡ o → Known sig o.node → CallsKnown sig (opened sig vars e)
    at e o is h = subst (CallsKnown sig) (sym is) h

-- The slots of a rule.

plain_by : (b h : Bool) (s : Sort) (t : TypeId) (ks : List Kind) (p : Pair) (ps : List Pair) → s ≡ sort_named p.sort.bytes → plain_sorts ks ≡ sorts_of ps →
    plain_sorts ((if b then (if h then Input s else Output s) else Term t) ∷ ks) ≡ sorts_of (if b then p ∷ ps else ps)
plain_by true true s t ks p ps same rest = ap₂ (λ x xs. x ∷ xs) same rest
plain_by true false s t ks p ps same rest = ap₂ (λ x xs. x ∷ xs) same rest
plain_by false h s t ks p ps same rest = rest

plain_are : (sig : Declarations) (inputs : List sexpr.Atom) (pairs : List Pair) → plain_sorts (map (kind_of sig inputs) pairs) ≡ sorts_of (plain_pairs pairs)
plain_are sig inputs [] = refl
plain_are sig inputs (p ∷ ps) =
    plain_by (is_plain p) (has (texts inputs) p.name.bytes) (sort_named p.sort.bytes) (type_named sig p.sort.bytes) (map (kind_of sig inputs) ps) p (plain_pairs ps) refl (plain_are sig inputs ps)

var_sorts : (pairs : List Pair) → map (λ (v : Var). v.sort) (map var_of pairs) ≡ sorts_of pairs
var_sorts [] = refl
var_sorts (p ∷ ps) = ap (λ xs. sort_named p.sort.bytes ∷ xs) (var_sorts ps)

rule_slots : (sig0 sig : Declarations) (f : Function) (relation : RelId) (around : List Pair) → IsDeclared sig0 sig f relation →
    (plain_sorts (kinds_of sig relation) ++ map (λ (v : Var). v.sort) (map var_of around)) ≡ sorts_of (plain_pairs f.declaration.params) ++ sorts_of around
rule_slots sig0 sig f relation around d =
    let kinds : kinds_of sig relation ≡ map (kind_of sig0 f.definition.inputs) f.declaration.params =
    ap (λ r. map (λ (p : Param). p.kind) (params_in r)) d.at ∙ kinds_of_params sig0 f.definition.inputs f.declaration.params in
    ap₂ (λ a b. a ++ b) (ap plain_sorts kinds ∙ plain_are sig0 f.definition.inputs f.declaration.params) (var_sorts around)

as_many : (f : Function) (case : Case) (around : List Pair) → length (within (variables_of f case) around).slots ≡ length (sorts_of (plain_pairs f.declaration.params) ++ sorts_of around)
as_many f case around =
    let left = length-append (names_in (plain_pairs f.declaration.params)) (names_in around) in
    let right = length-append (sorts_of (plain_pairs f.declaration.params)) (sorts_of around) in
    let a = length-map (plain_pairs f.declaration.params) (λ (p : Pair). p.name.bytes) in
    let b = length-map around (λ (p : Pair). p.name.bytes) in
    let c = length-map (plain_pairs f.declaration.params) (λ (p : Pair). sort_named p.sort.bytes) in
    let d = length-map around (λ (p : Pair). sort_named p.sort.bytes) in
    omega (arith, left, right, a, b, c, d)

-- Rules.

atoms_fit : (types : ℕ) (sig : Declarations) (vars : Variables) (rule : Rule) (scope : List (List ℕ)) → All (IsRelation types) sig.relations → length vars.slots ≡ length (slot_sorts sig rule) →
    (es : List Exp) → All (λ e. is_full e ≡ true) es → All (λ e. first (expression_names (relation_names sig.relations) scope e) ≡ None) es →
    All (λ (x : OpenExp). first (atom_faults sig (slice_get sig.constructors rule.con.0) (slot_sorts sig rule) x) ≡ None) (map (opened sig vars) es) →
    All (λ (x : OpenExp). (known : List ℕ) → fits sig rule known (atom_of sig known x) ≡ true) (map (opened sig vars) es)
atoms_fit types sig vars rule scope fine count [] full named none = All-nil (λ (x : OpenExp). (known : List ℕ) → fits sig rule known (atom_of sig known x) ≡ true)
atoms_fit types sig vars rule scope fine count (e ∷ es) full named none =
    All-cons (λ (x : OpenExp). (known : List ℕ) → fits sig rule known (atom_of sig known x) ≡ true) (opened sig vars e) (map (opened sig vars) es)
    (atom_fits types sig vars rule e fine count (All-head (λ e. is_full e ≡ true) e es full)
    (calls_known sig vars scope e (All-head (λ e. first (expression_names (relation_names sig.relations) scope e) ≡ None) e es named))
    (All-head (λ (x : OpenExp). first (atom_faults sig (slice_get sig.constructors rule.con.0) (slot_sorts sig rule) x) ≡ None) (opened sig vars e) (map (opened sig vars) es) none))
    (atoms_fit types sig vars rule scope fine count es (All-tail (λ e. is_full e ≡ true) e es full)
    (All-tail (λ e. first (expression_names (relation_names sig.relations) scope e) ≡ None) e es named)
    (All-tail (λ (x : OpenExp). first (atom_faults sig (slice_get sig.constructors rule.con.0) (slot_sorts sig rule) x) ≡ None) (opened sig vars e) (map (opened sig vars) es) none))

abbrev relation_and : Declarations → RelId → Function → Case → Branch → Rule
relation_and sig relation f case branch =
    rule_of sig relation (constructor_named sig case.pattern.name.bytes) (texts case.pattern.variables) (open_branch sig (variables_of f case) branch)

branch_fits : (types : ℕ) (sig0 sig : Declarations) (f : Function) (relation : RelId) (case : Case) (scope : List (List ℕ)) (branch : Branch) → IsDeclared sig0 sig f relation → All (IsRelation types) sig.relations →
    HasFullAtoms branch → BranchNamed (relation_names sig.relations) scope branch →
    first (branch_faults sig (constructor_at sig case.pattern.name.bytes) (sorts_of (plain_pairs f.declaration.params)) (open_branch sig (variables_of f case) branch)) ≡ None →
    HasFittingAtoms sig (open_case sig relation f case) (open_branch sig (variables_of f case) branch)
branch_fits types sig0 sig f relation case scope branch d fine full named none =
    let vars = within (variables_of f case) branch.around in
    let rule = relation_and sig relation f case branch in
    let slots : slot_sorts sig rule ≡ sorts_of (plain_pairs f.declaration.params) ++ sorts_of branch.around = rule_slots sig0 sig f relation branch.around d in
    let each : All (λ (x : OpenExp). first (atom_faults sig (constructor_at sig case.pattern.name.bytes) (sorts_of (plain_pairs f.declaration.params) ++ sorts_of branch.around) x) ≡ None) (map (opened sig vars) branch.leaf.atoms) =
    none_each (atom_faults sig (constructor_at sig case.pattern.name.bytes) (sorts_of (plain_pairs f.declaration.params) ++ sorts_of branch.around)) (map (opened sig vars) branch.leaf.atoms) none in
    atoms_fine sig rule (map (opened sig vars) branch.leaf.atoms) (input_slots (kinds_of sig relation)) 0
    (atoms_fit types sig vars rule (scope ++ names_in branch.around) fine (as_many f case branch.around ∙ ap (λ (ss : List Sort). length ss) (sym slots)) branch.leaf.atoms full named.known
    (subst (λ ss. All (λ (x : OpenExp). first (atom_faults sig (constructor_at sig case.pattern.name.bytes) ss x) ≡ None) (map (opened sig vars) branch.leaf.atoms)) (sym slots) each))

branches_fit : (types : ℕ) (sig0 sig : Declarations) (f : Function) (relation : RelId) (case : Case) (scope : List (List ℕ)) → IsDeclared sig0 sig f relation → All (IsRelation types) sig.relations →
    (branches : List Branch) → All HasFullAtoms branches → All (BranchNamed (relation_names sig.relations) scope) branches →
    All (λ (b : OpenBranch). first (branch_faults sig (constructor_at sig case.pattern.name.bytes) (sorts_of (plain_pairs f.declaration.params)) b) ≡ None) (map (open_branch sig (variables_of f case)) branches) →
    All (HasFittingAtoms sig (open_case sig relation f case)) (map (open_branch sig (variables_of f case)) branches)
branches_fit types sig0 sig f relation case scope d fine [] full named none = All-nil (HasFittingAtoms sig (open_case sig relation f case))
branches_fit types sig0 sig f relation case scope d fine (b ∷ bs) full named none =
    let P : OpenBranch → Type 0 = λ b. first (branch_faults sig (constructor_at sig case.pattern.name.bytes) (sorts_of (plain_pairs f.declaration.params)) b) ≡ None in
    All-cons (HasFittingAtoms sig (open_case sig relation f case)) (open_branch sig (variables_of f case) b) (map (open_branch sig (variables_of f case)) bs)
    (branch_fits types sig0 sig f relation case scope b d fine (All-head HasFullAtoms b bs full) (All-head (BranchNamed (relation_names sig.relations) scope) b bs named)
    (All-head P (open_branch sig (variables_of f case) b) (map (open_branch sig (variables_of f case)) bs) none))
    (branches_fit types sig0 sig f relation case scope d fine bs (All-tail HasFullAtoms b bs full) (All-tail (BranchNamed (relation_names sig.relations) scope) b bs named)
    (All-tail P (open_branch sig (variables_of f case) b) (map (open_branch sig (variables_of f case)) bs) none))

-- the rules of a case have atoms that fit
abbrev CaseFits : Declarations → OpenCase → Type 0
CaseFits sig case = All (HasFittingAtoms sig case) case.branches

case_fits : (types : ℕ) (sig0 sig : Declarations) (f : Function) (relation : RelId) (case : Case) → IsDeclared sig0 sig f relation → All (IsRelation types) sig.relations →
    HasFullRules case → CaseNamed sig0 (relation_names sig.relations) (names_in f.declaration.params) case → first (case_faults sig f (matched_type sig f) case) ≡ None →
    CaseFits sig (open_case sig relation f case)
case_fits types sig0 sig f relation case d fine full named none =
    let parts = none_parts (pattern_faults sig (matched_type sig f) case.pattern) (flat_map (branch_faults sig (constructor_at sig case.pattern.name.bytes) (sorts_of (plain_pairs f.declaration.params)))
    (map (open_branch sig (variables_of f case)) (branches_of case))) none in
    branches_fit types sig0 sig f relation case (names_in f.declaration.params ++ texts case.pattern.variables) d fine (branches_of case) full named.branches
    (none_each (branch_faults sig (constructor_at sig case.pattern.name.bytes) (sorts_of (plain_pairs f.declaration.params))) (map (open_branch sig (variables_of f case)) (branches_of case)) parts.1)

cases_fit : (types : ℕ) (sig0 sig : Declarations) (f : Function) (relation : RelId) → IsDeclared sig0 sig f relation → All (IsRelation types) sig.relations →
    (cases : List Case) → All HasFullRules cases → All (CaseNamed sig0 (relation_names sig.relations) (names_in f.declaration.params)) cases →
    All (λ (case : Case). first (case_faults sig f (matched_type sig f) case) ≡ None) cases → All (CaseFits sig) (map (open_case sig relation f) cases)
cases_fit types sig0 sig f relation d fine [] full named none = All-nil (CaseFits sig)
cases_fit types sig0 sig f relation d fine (c ∷ cs) full named none =
    let P : Case → Type 0 = λ case. first (case_faults sig f (matched_type sig f) case) ≡ None in
    All-cons (CaseFits sig) (open_case sig relation f c) (map (open_case sig relation f) cs)
    (case_fits types sig0 sig f relation c d fine (All-head HasFullRules c cs full) (All-head (CaseNamed sig0 (relation_names sig.relations) (names_in f.declaration.params)) c cs named) (All-head P c cs none))
    (cases_fit types sig0 sig f relation d fine cs (All-tail HasFullRules c cs full) (All-tail (CaseNamed sig0 (relation_names sig.relations) (names_in f.declaration.params)) c cs named) (All-tail P c cs none))

functions_fit : (types : ℕ) (sig0 sig : Declarations) (n : ℕ) → All (IsRelation types) sig.relations → (functions : List Function) → AreDeclared sig0 sig n functions →
    All HasFullCases functions → All (DefinitionNamed sig0 (relation_names sig.relations)) functions → All (λ (f : Function). first (definition_faults sig f) ≡ None) functions →
    All (CaseFits sig) (open_cases sig n functions)
functions_fit types sig0 sig n fine [] d full named none = All-nil (CaseFits sig)
functions_fit types sig0 sig n fine (f ∷ fs) d full named none =
    let P : Function → Type 0 = λ f. first (definition_faults sig f) ≡ None in
    All-append (CaseFits sig) (map (open_case sig (record { 0 = n }) f) f.definition.cases) (open_cases sig (n + 1) fs)
    (cases_fit types sig0 sig f (record { 0 = n }) (here sig0 sig n f fs d) fine f.definition.cases (All-head HasFullCases f fs full)
    (All-head (DefinitionNamed sig0 (relation_names sig.relations)) f fs named).cases
    (none_each (case_faults sig f (matched_type sig f)) f.definition.cases (All-head P f fs none)))
    (functions_fit types sig0 sig (n + 1) fine fs (later sig0 sig n f fs d) (All-tail HasFullCases f fs full) (All-tail (DefinitionNamed sig0 (relation_names sig.relations)) f fs named) (All-tail P f fs none))

-- Commands.

relations_fine : (sig : Declarations) (relations : List Relation) → RelationsFit sig relations → All (IsRelation (length sig.types)) relations
relations_fine sig [] h = All-nil (IsRelation (length sig.types))
relations_fine sig (r ∷ rs) h = All-cons (IsRelation (length sig.types)) r rs h.0.fine (relations_fine (with_relation sig r) rs h.1)

names_made : (sig : Declarations) (functions : List Function) → relation_names (map (relation_of sig) functions) ≡ function_names functions
names_made sig [] = refl
names_made sig (f ∷ fs) = ap (λ ns. f.declaration.name.bytes ∷ ns) (names_made sig fs)

all_names : (sig : Declarations) (functions : List Function) → relation_names (declared_with sig functions).relations ≡ relation_names sig.relations ++ function_names functions
all_names sig functions = map-append (λ (r : Relation). r.name) sig.relations (map (relation_of sig) functions) ∙ ap (λ ns. relation_names sig.relations ++ ns) (names_made sig functions)

pub rules_fit : (s : State) (form : Sexpr) → IsSoundState s → IsSmall form → IsTestedDefinition s form → RulesFit s form
rules_fit s form sound small tested =
    let functions : List Function = functions_of form in
    let sig : Declarations = s.signature in
    let after : Declarations = declared_with s.signature (functions_of form) in
    let tests = none_parts (limits s head.DefineFunsRec form ++ names s head.DefineFunsRec form) (sorts s head.DefineFunsRec form) tested.tests in
    let others = none_parts (limits s head.DefineFunsRec form) (names s head.DefineFunsRec form) tests.0 in
    let few = none_parts (found_from (λ n f. declaration_limits n f.declaration) (length sig.relations) functions) (found (λ before site. case_limits (length s.rules + rule_count before) site) (sites_of functions)) others.0 in
    let named = functions_named sig functions sound.signature.distinct_relations others.1 in
    let taken = none_parts (found (declaration_names sig) functions) (flat_map (definition_names sig (relation_names sig.relations ++ function_names functions)) functions) others.1 in
    let sorted = none_parts (flat_map declaration_faults functions) (flat_map (definition_faults after) functions) tests.1 in
    let made = relations_fit sig sig [] functions (length sig.relations) refl (sym (append-nil (relation_names sig.relations))) refl few.0 taken.0 sorted.0 in
    let fine : All (IsRelation (length sig.types)) after.relations =
    All-append (IsRelation (length sig.types)) sig.relations (map (relation_of sig) functions) sound.signature.relations (relations_fine sig (map (relation_of sig) functions) made) in
    functions_fit (length sig.types) sig after (length sig.relations) fine functions (are_declared sig functions) (functions_full form tested.word tested.shape small.1)
    (subst (λ ns. All (DefinitionNamed sig ns) functions) (sym (all_names sig functions)) named.definitions)
    (none_each (definition_faults after) functions sorted.1)
