-- The rules that functions make are sound, where the tests of limits, names, sorts and data flow have found nothing.
use Rattle.std.proofs.Common.{◌≡◌, ℕ, ◌+◌, ◌≤◌, ◌<◌, ◌^◌, Bool, true, false, Option, Some, None, List, [], ◌∷◌, ◌++◌, map, length, slice_get, refl, sym, ap, ap₂, subst, ◌∙◌, arith}
use Rattle.std.specs.Prelude.{not, ◌&&◌, ◌||◌, nat_eq, All, option_map}
use Rattle.std.specs.List.{flat_map, list_all}
use Rattle.std.specs.Option.{option_to_list}
use Rattle.std.proofs.lemmas.List.{length-map}
use Rattle.std.proofs.lemmas.List.Elements.{All-nil, All-cons, All-head, All-tail, All-append, All-map, All-weaker}
use Rattle.std.proofs.lemmas.Grind.{flat_map-append}
use Rattle.sig_core.specs.declared.ids.RelId.{RelId}
use Rattle.sig_core.specs.declared.signature.Constructor.{Constructor}
use Rattle.sig_core.specs.declared.signature.Kind.{Kind}
use Rattle.sig_core.specs.declared.signature.Kind.TheVariants.{Term, Input, Output}
use Rattle.sig_core.specs.declared.value.Sort.{Sort}
use Rattle.sig_core.specs.declared.value.Sort.TheVariants as sort
use Rattle.sig_core.specs.declared.signature.Param.{Param}
use Rattle.sig_core.specs.Names.{AreDistinct, is_reserved}
use Rattle.sig_core.specs.Signatures.{Declarations, input_slots, kinds_of, params_in}
use Rattle.sig_core.specs.WellFormed.{names_of_params}
use Rattle.sexpr_core.specs.declared.form.Atom as sexpr
use Rattle.expr_core.specs.declared.expr.Expr.{Expr}
use Rattle.expr_core.specs.declared.expr.Op.TheVariants as op
use Rattle.problem_core.specs.Soundness.{IsShort, IsSoundRule, is_clean, is_clean_atom, is_conjunction}
use Rattle.rule_core.specs.declared.rule.Var.{Var}
use Rattle.rule_core.specs.declared.flow.FlowFault.{FlowFault}
use Rattle.rule_core.specs.Flow.{flow_fault}
use Rattle.syntax_core.specs.declared.fault.Fault.{Fault}
use Rattle.syntax_core.specs.declared.syntax.Case.{Case}
use Rattle.syntax_core.specs.declared.syntax.Exp.{Exp}
use Rattle.syntax_core.specs.declared.syntax.Function.{Function}
use Rattle.syntax_core.specs.declared.syntax.Pair.{Pair}
use Rattle.sort_core.specs.declared.open.OpenExp.{OpenExp}
use Rattle.sort_core.specs.declared.open.OpenNode.{OpenNode, out-OpenNode, roll-OpenNode, roll-out-OpenNode}
use Rattle.sort_core.specs.declared.open.OpenNode.TheOpen.{OpenNode-F}
use Rattle.sort_core.specs.declared.open.OpenNode.TheVariants.{rolls-Call}
use Rattle.sort_core.specs.declared.variables.Variables.{Variables}
use Rattle.sort_core.specs.declared.branch.OpenBranch.{OpenBranch}
use Rattle.sort_core.specs.declared.branch.OpenCase.{OpenCase}
use Rattle.name_core.specs.Bodies.{Branch, branches_of, width}
use Rattle.sort_core.specs.Branches.{constructor_named, open_branch, open_branches, open_case, open_cases}
use Rattle.name_core.specs.Faults.{bad_if, first, found_from}
use Rattle.name_core.specs.Names.{names_in, plain_pairs, texts}
use Rattle.sort_core.specs.Opens.{opened, variables_of, within}
use Rattle.sort_core.specs.Relations.{param_of}
use Rattle.making_core.specs.Rules.{atom_of, atoms_from, branch_flow, call_atom, case_flow, case_rules, equation_atom, expr_of, expr_of_node, flow_refusal, input_args, output_args, rule_of, var_of}
use Rattle.sort_core.specs.Sorts.{argument_faults, argument_faults_at, atom_faults, atom_faults_in, branch_faults, case_faults, constructor_at, faults_as, is_term_of, matched_type, pattern_faults, same_stated, sorts_of, survey, survey_of_node}
use Rattle.making_core.proofs.BranchWidths.{no_more_around}
use Rattle.making_core.proofs.CleanRules.{IsClean, IsFine, apply_fine, clean-Call, clean_exp}
use Rattle.making_core.proofs.Conjunctions.{IsApart, opened_apart}
use Rattle.making_core.proofs.Exprs.{expr-Apply}
use Rattle.sort_core.proofs.Faultless.{none_both, none_each, none_parts}
use Rattle.name_core.proofs.Firsts.{first-found_from}
use Rattle.state_core.proofs.Relating.{params_named}
use Rattle.making_core.proofs.RuleFacts.{AreDeclared, IsDeclared, IsTested, case_made, here, later, rule_fits}
use Rattle.making_core.proofs.Smallness.{All-input_args, All-output_args, atom_cases, atoms_each, equation_cases, is_apply, parts_each, parts_in, parts_of_node}
use Rattle.making_core.proofs.Weights.{IsLight}

-- Where the sorts of an atom are right, so are those of its arguments.

wanted_fine : (slots : List Sort) (want : Option Sort) (e : OpenExp) → first (faults_as want (survey slots e)) ≡ None → IsFine slots e
wanted_fine slots want e none =
    (none_parts (bad_if (not (same_stated want (survey slots e).stated) || (survey slots e).is_misplaced) 30 (survey slots e).place) (survey slots e).inner none).1

argument_fine : (con : Option Constructor) (slots : List Sort) (kind : Option Kind) (e : OpenExp) → first (argument_faults con slots kind e) ≡ None → IsFine slots e
argument_fine con slots None e none = none
argument_fine con slots (Some (Term t)) e none = (none_parts (bad_if (not (is_term_of con t e)) 30 e.place) (survey slots e).inner none).1
argument_fine con slots (Some (Input s)) e none = wanted_fine slots (Some s) e none
argument_fine con slots (Some (Output s)) e none = wanted_fine slots (Some s) e none

arguments_fine : (con : Option Constructor) (slots : List Sort) (kinds : List Kind) (n : ℕ) (args : List OpenExp) → first (found_from (argument_faults_at con slots kinds) n args) ≡ None → All (IsFine slots) args
unfolding argument_faults_at
arguments_fine con slots kinds n [] none = All-nil (IsFine slots)
arguments_fine con slots kinds n (e ∷ es) none =
    let both = none_both (first (argument_faults_at con slots kinds n e)) (first (found_from (argument_faults_at con slots kinds) (n + 1) es))
    (sym (first-found_from (argument_faults_at con slots kinds) n e es) ∙ none) in
    All-cons (IsFine slots) e es (argument_fine con slots (slice_get kinds n) e both.0) (arguments_fine con slots kinds (n + 1) es both.1)

-- Clean atoms.

all_pass : {X : Type 0} (test : X → Bool) (xs : List X) → All (λ x. test x ≡ true) xs → list_all test xs ≡ true
all_pass test [] h = refl
all_pass test (x ∷ xs) h =
    ap (λ b. b && list_all test xs) (All-head (λ x. test x ≡ true) x xs h) ∙ all_pass test xs (All-tail (λ x. test x ≡ true) x xs h)

both_clean : (slots : List Sort) (args : List OpenExp) → All (IsClean slots) args → All (IsFine slots) args → All (λ (e : OpenExp). is_clean (expr_of e) ≡ true) args
both_clean slots [] clean fine = All-nil (λ (e : OpenExp). is_clean (expr_of e) ≡ true)
both_clean slots (e ∷ es) clean fine =
    All-cons (λ (e : OpenExp). is_clean (expr_of e) ≡ true) e es (All-head (IsClean slots) e es clean (All-head (IsFine slots) e es fine))
    (both_clean slots es (All-tail (IsClean slots) e es clean) (All-tail (IsFine slots) e es fine))

pass_args : (args : List OpenExp) → All (λ (e : OpenExp). is_clean (expr_of e) ≡ true) args → list_all is_clean (map expr_of args) ≡ true
pass_args args h = all_pass is_clean (map expr_of args) (All-map (λ (x : Expr). is_clean x ≡ true) expr_of args h)

each_exp : (sig : Declarations) (vars : Variables) (slots : List Sort) (es : List Exp) → All (IsClean slots) (map (opened sig vars) es)
each_exp sig vars slots [] = All-nil (IsClean slots)
each_exp sig vars slots (e ∷ es) = All-cons (IsClean slots) (opened sig vars e) (map (opened sig vars) es) (clean_exp sig vars slots e) (each_exp sig vars slots es)

-- an atom that is no call, or a call
atom_fine : (sig : Declarations) (con : Option Constructor) (slots : List Sort) (e : OpenExp) (x : OpenNode-F OpenNode OpenExp) → e.node ≡ roll-OpenNode x →
    first (atom_faults_in sig con slots e x) ≡ None → (IsFine slots e → is_clean (expr_of e) ≡ true) → is_clean (expr_of e) ≡ true
atom_fine sig con slots e (OpenNode-F.Slot k) is none clean = clean (wanted_fine slots (Some sort.Bool) e none)
atom_fine sig con slots e (OpenNode-F.Term who) is none clean = clean (wanted_fine slots (Some sort.Bool) e none)
atom_fine sig con slots e (OpenNode-F.Literal place literal) is none clean = clean (wanted_fine slots (Some sort.Bool) e none)
atom_fine sig con slots e (OpenNode-F.Apply o kids) is none clean = clean (wanted_fine slots (Some sort.Bool) e none)
atom_fine sig con slots e (OpenNode-F.Call relation args) is none clean = ap (λ m. is_clean (expr_of_node m)) (is ∙ rolls-Call relation args) ∙ clean-Call relation args

pub clean_atom : (sig : Declarations) (vars : Variables) (con : Option Constructor) (slots : List Sort) (e : Exp) → first (atom_faults sig con slots (opened sig vars e)) ≡ None →
    is_conjunction (expr_of (opened sig vars e)) ≡ false → (known : List ℕ) → is_clean_atom (atom_of sig known (opened sig vars e)) ≡ true
clean_atom sig vars con slots e none apart known =
    atom_cases (λ a. is_clean_atom a ≡ true) sig known (opened sig vars e) (out-OpenNode (opened sig vars e).node) call equation (ap₂ (λ a b. a && not b) whole apart)
  where
    node_is : (opened sig vars e).node ≡ roll-OpenNode (out-OpenNode (opened sig vars e).node)
    node_is = sym (roll-out-OpenNode (opened sig vars e).node)

    whole : is_clean (expr_of (opened sig vars e)) ≡ true
    whole = atom_fine sig con slots (opened sig vars e) (out-OpenNode (opened sig vars e).node) node_is none (clean_exp sig vars slots e)

    parts : All (IsClean slots) (parts_of_node (opened sig vars e).node)
    parts = parts_each (IsClean slots) sig vars e (λ app is. each_exp sig vars slots app.args)

    call : (relation : RelId) (args : List OpenExp) → out-OpenNode (opened sig vars e).node ≡ OpenNode-F.Call relation args → is_clean_atom (call_atom relation (kinds_of sig relation) args) ≡ true
    call relation args is =
        let clean = subst (λ x. All (IsClean slots) (parts_in x)) is parts in
        let faults = sym (ap (λ x. first (atom_faults_in sig con slots (opened sig vars e) x)) is) ∙ none in
        let fine = arguments_fine con slots (kinds_of sig relation) 0 args
        (none_parts (bad_if (not (nat_eq (length args) (length (kinds_of sig relation)))) 30 (opened sig vars e).place) (found_from (argument_faults_at con slots (kinds_of sig relation)) 0 args) faults).1 in
        let good = both_clean slots args clean fine in
        ap₂ (λ a b. a && b)
        (pass_args (input_args (kinds_of sig relation) args) (All-input_args (λ (e : OpenExp). is_clean (expr_of e) ≡ true) (kinds_of sig relation) args good))
        (pass_args (output_args (kinds_of sig relation) args) (All-output_args (λ (e : OpenExp). is_clean (expr_of e) ≡ true) (kinds_of sig relation) args good))

    equation : (left right : OpenExp) → out-OpenNode (opened sig vars e).node ≡ OpenNode-F.Apply op.Equal (left ∷ right ∷ []) → is_clean_atom (equation_atom known (expr_of left) (expr_of right)) ≡ true
    equation left right is =
        let clean = subst (λ x. All (IsClean slots) (parts_in x)) is parts in
        let applied = is_apply (opened sig vars e).node op.Equal (left ∷ right ∷ []) is in
        let faults = sym (ap (λ x. first (atom_faults_in sig con slots (opened sig vars e) x)) is) ∙ none in
        let inner = wanted_fine slots (Some sort.Bool) (opened sig vars e) faults in
        let fine = apply_fine slots op.Equal (left ∷ right ∷ []) (opened sig vars e).place (sym (ap (λ m. first (survey_of_node slots m (opened sig vars e).place).inner) applied) ∙ inner) in
        let good = both_clean slots (left ∷ right ∷ []) clean fine in
        let same = ap expr_of_node applied ∙ expr-Apply op.Equal (left ∷ right ∷ []) in
        equation_cases (λ a. is_clean_atom a ≡ true) known (expr_of left) (expr_of right)
        (λ slot at. All-head (λ (e : OpenExp). is_clean (expr_of e) ≡ true) right [] (All-tail (λ (e : OpenExp). is_clean (expr_of e) ≡ true) left (right ∷ []) good))
        (λ slot at. All-head (λ (e : OpenExp). is_clean (expr_of e) ≡ true) left (right ∷ []) good)
        (ap₂ (λ a b. a && not b) (sym (ap is_clean same) ∙ whole) (sym (ap is_conjunction same) ∙ apart))

-- Rules.

-- the names of a rule's variables: the parameters, the children and the existentials
abbrev rule_names : Function → Case → Branch → List (List ℕ)
rule_names f case branch = names_in f.declaration.params ++ texts case.pattern.variables ++ names_in branch.around

-- the names are distinct, not reserved and short, and no atom is an `and`, since each is taken apart
pub record IsNamed (f : Function) (case : Case) (branch : Branch) : Type 0 where
  pub distinct : AreDistinct (rule_names f case branch)
  pub free : All (λ name. is_reserved name ≡ false) (rule_names f case branch)
  pub short : All IsShort (rule_names f case branch)
  pub apart : All IsApart branch.leaf.atoms

var_names : (pairs : List Pair) → map (λ (v : Var). v.name) (map var_of pairs) ≡ names_in pairs
var_names [] = refl
var_names (p ∷ ps) = ap (λ names. p.name.bytes ∷ names) (var_names ps)

clean_each : (sig : Declarations) (vars : Variables) (con : Option Constructor) (slots : List Sort) (es : List Exp) →
    All (λ (e : OpenExp). first (atom_faults sig con slots e) ≡ None) (map (opened sig vars) es) →
    All IsApart es →
    All (λ (e : OpenExp). (known : List ℕ) → is_clean_atom (atom_of sig known e) ≡ true) (map (opened sig vars) es)
clean_each sig vars con slots [] none apart = All-nil (λ (e : OpenExp). (known : List ℕ) → is_clean_atom (atom_of sig known e) ≡ true)
clean_each sig vars con slots (e ∷ es) none apart =
    All-cons (λ (e : OpenExp). (known : List ℕ) → is_clean_atom (atom_of sig known e) ≡ true) (opened sig vars e) (map (opened sig vars) es)
    (clean_atom sig vars con slots e (All-head (λ (e : OpenExp). first (atom_faults sig con slots e) ≡ None) (opened sig vars e) (map (opened sig vars) es) none)
    (opened_apart sig vars e (All-head IsApart e es apart)))
    (clean_each sig vars con slots es (All-tail (λ (e : OpenExp). first (atom_faults sig con slots e) ≡ None) (opened sig vars e) (map (opened sig vars) es) none)
    (All-tail IsApart e es apart))

-- a branch whose sorts are right and whose rule passes data flow makes a sound rule
pub rule_sound : (sig0 sig : Declarations) (nodes : ℕ) (f : Function) (relation : RelId) (case : Case) → IsDeclared sig0 sig f relation → IsTested sig nodes f → nodes < 2 ^ 32 →
    first (case_faults sig f (matched_type sig f) case) ≡ None → length f.declaration.params + width case.body ≤ 64 →
    (branch : Branch) → length branch.around ≤ width case.body → IsLight nodes branch → IsNamed f case branch →
    first (branch_faults sig (constructor_at sig case.pattern.name.bytes) (sorts_of (plain_pairs f.declaration.params)) (open_branch sig (variables_of f case) branch)) ≡ None →
    flow_fault sig (rule_of sig relation (constructor_named sig case.pattern.name.bytes) (texts case.pattern.variables) (open_branch sig (variables_of f case) branch)) ≡ None →
    IsSoundRule sig (rule_of sig relation (constructor_named sig case.pattern.name.bytes) (texts case.pattern.variables) (open_branch sig (variables_of f case) branch))
rule_sound sig0 sig nodes f relation case d t bound none narrow branch around light named sorted flows =
    let made = case_made sig f case none in
    let vars = within (variables_of f case) branch.around in
    let params = ap params_in d.at in
    let names = ap₂ (λ ps vs. ps ++ texts case.pattern.variables ++ vs) (ap names_of_params params ∙ params_named sig0 f.definition.inputs f.declaration.params) (var_names branch.around) in
    let count = ap (λ (ps : List Param). length ps) params ∙ length-map f.declaration.params (param_of sig0 f.definition.inputs) in
    let more = length-map branch.around var_of in
    record {
      fits = rule_fits sig0 sig nodes f relation case d t bound none narrow branch around light;
      flows = flows;
      children = ap (option_map (λ (c : Constructor). length c.args)) made.is ∙ ap Some (made.same_count ∙ sym (length-map case.pattern.variables (λ (a : sexpr.Atom). a.bytes)));
      few_variables = omega (arith, count, more, around, narrow);
      distinct = subst AreDistinct (sym names) named.distinct;
      free = subst (All (λ name. is_reserved name ≡ false)) (sym names) named.free;
      short = subst (All IsShort) (sym names) named.short;
      clean = all_pass is_clean_atom (atoms_from sig (input_slots (kinds_of sig relation)) (map (opened sig vars) branch.leaf.atoms))
          (atoms_each (λ a. is_clean_atom a ≡ true) sig (map (opened sig vars) branch.leaf.atoms) (input_slots (kinds_of sig relation))
          (clean_each sig vars (constructor_at sig case.pattern.name.bytes) (sorts_of (plain_pairs f.declaration.params) ++ sorts_of branch.around) branch.leaf.atoms
          (none_each (atom_faults sig (constructor_at sig case.pattern.name.bytes) (sorts_of (plain_pairs f.declaration.params) ++ sorts_of branch.around)) (map (opened sig vars) branch.leaf.atoms) sorted)
          named.apart));
    }

rules_sound : (sig0 sig : Declarations) (nodes : ℕ) (f : Function) (relation : RelId) (case : Case) → IsDeclared sig0 sig f relation → IsTested sig nodes f → nodes < 2 ^ 32 →
    first (case_faults sig f (matched_type sig f) case) ≡ None → length f.declaration.params + width case.body ≤ 64 →
    (branches : List Branch) → All (λ (branch : Branch). length branch.around ≤ width case.body) branches → All (IsLight nodes) branches → All (IsNamed f case) branches →
    All (λ (b : OpenBranch). first (branch_faults sig (constructor_at sig case.pattern.name.bytes) (sorts_of (plain_pairs f.declaration.params)) b) ≡ None) (map (open_branch sig (variables_of f case)) branches) →
    All (λ (b : OpenBranch). flow_fault sig (rule_of sig relation (constructor_named sig case.pattern.name.bytes) (texts case.pattern.variables) b) ≡ None) (map (open_branch sig (variables_of f case)) branches) →
    All (IsSoundRule sig) (map (rule_of sig relation (constructor_named sig case.pattern.name.bytes) (texts case.pattern.variables)) (map (open_branch sig (variables_of f case)) branches))
rules_sound sig0 sig nodes f relation case d t bound none narrow [] around light named sorted flows = All-nil (IsSoundRule sig)
rules_sound sig0 sig nodes f relation case d t bound none narrow (b ∷ bs) around light named sorted flows =
    let made = open_branch sig (variables_of f case) in
    let rule = rule_of sig relation (constructor_named sig case.pattern.name.bytes) (texts case.pattern.variables) in
    let P = λ (b : OpenBranch). first (branch_faults sig (constructor_at sig case.pattern.name.bytes) (sorts_of (plain_pairs f.declaration.params)) b) ≡ None in
    let Q = λ (b : OpenBranch). flow_fault sig (rule_of sig relation (constructor_named sig case.pattern.name.bytes) (texts case.pattern.variables) b) ≡ None in
    let R = λ (branch : Branch). length branch.around ≤ width case.body in
    All-cons (IsSoundRule sig) (rule (made b)) (map rule (map made bs))
    (rule_sound sig0 sig nodes f relation case d t bound none narrow b (All-head R b bs around) (All-head (IsLight nodes) b bs light) (All-head (IsNamed f case) b bs named)
    (All-head P (made b) (map made bs) sorted) (All-head Q (made b) (map made bs) flows))
    (rules_sound sig0 sig nodes f relation case d t bound none narrow bs (All-tail R b bs around) (All-tail (IsLight nodes) b bs light) (All-tail (IsNamed f case) b bs named)
    (All-tail P (made b) (map made bs) sorted) (All-tail Q (made b) (map made bs) flows))

no_flow : (g : FlowFault → Fault) (o : Option FlowFault) → first (option_to_list (option_map g o)) ≡ None → o ≡ None
no_flow g None e = refl
no_flow g (Some x) e = absurd cc

-- the names of a function's rules are as they must be
abbrev pub HasNamedCases : Function → Type 0
HasNamedCases f = All (λ case. All (IsNamed f case) (branches_of case)) f.definition.cases

case_sound : (sig0 sig : Declarations) (nodes : ℕ) (f : Function) (relation : RelId) (case : Case) → IsDeclared sig0 sig f relation → IsTested sig nodes f → nodes < 2 ^ 32 →
    first (case_faults sig f (matched_type sig f) case) ≡ None → length f.declaration.params + width case.body ≤ 64 → All (IsLight nodes) (branches_of case) → All (IsNamed f case) (branches_of case) →
    first (case_flow sig (open_case sig relation f case)) ≡ None → All (IsSoundRule sig) (case_rules sig (open_case sig relation f case))
case_sound sig0 sig nodes f relation case d t bound none narrow light named flows =
    let faults = branch_faults sig (constructor_at sig case.pattern.name.bytes) (sorts_of (plain_pairs f.declaration.params)) in
    let sorted = (none_parts (pattern_faults sig (matched_type sig f) case.pattern) (flat_map faults (open_branches sig f case)) none).1 in
    rules_sound sig0 sig nodes f relation case d t bound none narrow (branches_of case) (no_more_around case.body) light named
    (none_each faults (open_branches sig f case) sorted)
    (All-weaker (λ (b : OpenBranch). first (branch_flow sig (open_case sig relation f case) b) ≡ None)
    (λ (b : OpenBranch). flow_fault sig (rule_of sig relation (constructor_named sig case.pattern.name.bytes) (texts case.pattern.variables) b) ≡ None)
    (λ b e. no_flow (flow_refusal (length (plain_pairs f.declaration.params)) b) (flow_fault sig (rule_of sig relation (constructor_named sig case.pattern.name.bytes) (texts case.pattern.variables) b)) e)
    (open_branches sig f case) (none_each (branch_flow sig (open_case sig relation f case)) (open_branches sig f case) flows))

cases_sound : (sig0 sig : Declarations) (nodes : ℕ) (f : Function) (relation : RelId) → IsDeclared sig0 sig f relation → IsTested sig nodes f → nodes < 2 ^ 32 → (cases : List Case) →
    All (λ (case : Case). first (case_faults sig f (matched_type sig f) case) ≡ None) cases → All (λ (case : Case). length f.declaration.params + width case.body ≤ 64) cases →
    All (λ (case : Case). All (IsLight nodes) (branches_of case)) cases → All (λ (case : Case). All (IsNamed f case) (branches_of case)) cases →
    All (λ (case : OpenCase). first (case_flow sig case) ≡ None) (map (open_case sig relation f) cases) →
    All (IsSoundRule sig) (flat_map (case_rules sig) (map (open_case sig relation f) cases))
cases_sound sig0 sig nodes f relation d t bound [] none narrow light named flows = All-nil (IsSoundRule sig)
cases_sound sig0 sig nodes f relation d t bound (c ∷ cs) none narrow light named flows =
    All-append (IsSoundRule sig) (case_rules sig (open_case sig relation f c)) (flat_map (case_rules sig) (map (open_case sig relation f) cs))
    (case_sound sig0 sig nodes f relation c d t bound (All-head (λ (case : Case). first (case_faults sig f (matched_type sig f) case) ≡ None) c cs none)
    (All-head (λ (case : Case). length f.declaration.params + width case.body ≤ 64) c cs narrow) (All-head (λ (case : Case). All (IsLight nodes) (branches_of case)) c cs light)
    (All-head (λ (case : Case). All (IsNamed f case) (branches_of case)) c cs named)
    (All-head (λ (case : OpenCase). first (case_flow sig case) ≡ None) (open_case sig relation f c) (map (open_case sig relation f) cs) flows))
    (cases_sound sig0 sig nodes f relation d t bound cs (All-tail (λ (case : Case). first (case_faults sig f (matched_type sig f) case) ≡ None) c cs none)
    (All-tail (λ (case : Case). length f.declaration.params + width case.body ≤ 64) c cs narrow) (All-tail (λ (case : Case). All (IsLight nodes) (branches_of case)) c cs light)
    (All-tail (λ (case : Case). All (IsNamed f case) (branches_of case)) c cs named)
    (All-tail (λ (case : OpenCase). first (case_flow sig case) ≡ None) (open_case sig relation f c) (map (open_case sig relation f) cs) flows))

All-left : {X : Type 0} (P : X → Type 0) (xs ys : List X) → All P (xs ++ ys) → All P xs
All-left P [] ys h = All-nil P
All-left P (x ∷ xs) ys h = All-cons P x xs (All-head P x (xs ++ ys) h) (All-left P xs ys (All-tail P x (xs ++ ys) h))

All-right : {X : Type 0} (P : X → Type 0) (xs ys : List X) → All P (xs ++ ys) → All P ys
All-right P [] ys h = h
All-right P (x ∷ xs) ys h = All-right P xs ys (All-tail P x (xs ++ ys) h)

sound_append : (sig : Declarations) (xs ys : List OpenCase) → All (IsSoundRule sig) (flat_map (case_rules sig) xs) → All (IsSoundRule sig) (flat_map (case_rules sig) ys) →
    All (IsSoundRule sig) (flat_map (case_rules sig) (xs ++ ys))
sound_append sig xs ys h k = subst (All (IsSoundRule sig)) (sym (flat_map-append (case_rules sig) xs ys)) (All-append (IsSoundRule sig) (flat_map (case_rules sig) xs) (flat_map (case_rules sig) ys) h k)

-- the rules of tested functions are sound, where none fails data flow
pub functions_sound : (sig0 sig : Declarations) (nodes n : ℕ) (functions : List Function) → AreDeclared sig0 sig n functions → All (IsTested sig nodes) functions → nodes < 2 ^ 32 →
    All HasNamedCases functions → All (λ (case : OpenCase). first (case_flow sig case) ≡ None) (open_cases sig n functions) →
    All (IsSoundRule sig) (flat_map (case_rules sig) (open_cases sig n functions))
functions_sound sig0 sig nodes n [] d t bound named flows = All-nil (IsSoundRule sig)
functions_sound sig0 sig nodes n (f ∷ fs) d t bound named flows =
    let cases = map (open_case sig (record { 0 = n }) f) f.definition.cases in
    let tested = All-head (IsTested sig nodes) f fs t in
    let P = λ (case : OpenCase). first (case_flow sig case) ≡ None in
    sound_append sig (map (open_case sig (record { 0 = n }) f) f.definition.cases) (open_cases sig (n + 1) fs)
    (cases_sound sig0 sig nodes f (record { 0 = n }) (here sig0 sig n f fs d) tested bound f.definition.cases
    (none_each (case_faults sig f (matched_type sig f)) f.definition.cases tested.fit) tested.narrow tested.light (All-head HasNamedCases f fs named)
    (All-left (λ (case : OpenCase). first (case_flow sig case) ≡ None) (map (open_case sig (record { 0 = n }) f) f.definition.cases) (open_cases sig (n + 1) fs) flows))
    (functions_sound sig0 sig nodes (n + 1) fs (later sig0 sig n f fs d) (All-tail (IsTested sig nodes) f fs t) bound (All-tail HasNamedCases f fs named)
    (All-right (λ (case : OpenCase). first (case_flow sig case) ≡ None) (map (open_case sig (record { 0 = n }) f) f.definition.cases) (open_cases sig (n + 1) fs) flows))
