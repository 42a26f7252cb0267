-- The rules that functions make, where the tests of limits, names and sorts have found nothing.
use Rattle.std.proofs.Common.{◌≡◌, ℕ, suc, Bool, false, ◌+◌, ◌≤◌, ◌<◌, ◌^◌, ◌++◌, Some, None, List, [], ◌∷◌, map, length, slice_get, true, refl, sym, ap, subst, ◌∙◌, arith}
use Rattle.std.specs.Prelude.{All, nat_eq, option_map, sum_by, filter, if◌then◌else◌}
use Rattle.std.specs.List.{flat_map}
use Rattle.std.proofs.lemmas.Bool.Decides.{nat_tests}
use Rattle.std.proofs.lemmas.List.{length-append, length-map}
use Rattle.std.proofs.lemmas.List.Sums.{sum_by-cons}
use Rattle.std.proofs.lemmas.List.Elements.{All-nil, All-cons, All-head, All-tail, All-append, All-weaker}
use Rattle.std.proofs.lemmas.Option.{slice_get-map, slice_get_within}
use Rattle.sig_core.specs.declared.ids.RelId.{RelId}
use Rattle.sig_core.specs.declared.signature.Kind.{Kind}
use Rattle.sig_core.specs.declared.signature.Kind.TheVariants.{Term, Input, Output}
use Rattle.sig_core.specs.declared.signature.Param.{Param}
use Rattle.sig_core.specs.Names.{AreDistinct}
use Rattle.sig_core.specs.Signatures.{Declarations, input_slots, kinds_of, owner_in, params_in, plain_sorts, term_type}
use Rattle.rule_core.specs.declared.rule.Var.{Var}
use Rattle.rule_core.specs.Rulebooks.{IsRuleOf}
use Rattle.syntax_core.specs.declared.syntax.Case.{Case}
use Rattle.syntax_core.specs.declared.syntax.Function.{Function}
use Rattle.syntax_core.specs.declared.syntax.Pair.{Pair}
use Rattle.sort_core.specs.declared.branch.OpenBranch.{OpenBranch}
use Rattle.sort_core.specs.declared.branch.OpenCase.{OpenCase}
use Rattle.name_core.specs.Bodies.{Branch, Site, branches_of, rule_count, sites_of, width}
use Rattle.sort_core.specs.Branches.{HasNarrowCases, IsNarrow, constructor_named, open_branch, open_branches, open_case, open_cases}
use Rattle.name_core.specs.Faults.{first}
use Rattle.name_core.specs.Names.{has, is_plain, names_in, plain_pairs, term_pairs, texts}
use Rattle.sort_core.specs.Opens.{opened, variables_of, within}
use Rattle.sort_core.specs.Relations.{declared_with, kind_of, relation_of, type_named}
use Rattle.making_core.specs.Rules.{HasFewPlain, HasRules, rule_of, var_of}
use Rattle.sort_core.specs.Sorts.{branch_faults, case_faults, constructor_at, declaration_faults, definition_faults, functions_faults, makes, matched_type, pattern_faults, sorts_of}
use Rattle.making_core.proofs.BranchWidths.{no_more_around}
use Rattle.sort_core.proofs.Faultless.{holds, none_each, none_parts}
use Rattle.making_core.proofs.Smallness.{atoms_few, few_of_weight, small_atoms}
use Rattle.sort_core.proofs.TermTypes.{Made, first_term, kinds_of_params, made_by, single, sort_of_matched}
use Rattle.making_core.proofs.Weights.{HasLightCases, IsLight}

-- A function that has passed the tests of limits, names and sorts, after the signature with the relations of its command. The
-- atoms of each of its rules have at most so many nodes.
pub record IsTested (sig : Declarations) (nodes : ℕ) (f : Function) : Type 0 where
  pub one_term : first (declaration_faults f) ≡ None
  pub fit : first (definition_faults sig f) ≡ None
  pub distinct : AreDistinct (names_in f.declaration.params)
  pub matched : has (names_in (term_pairs f.declaration.params)) f.definition.matched.bytes ≡ true
  pub narrow : All (λ case. length f.declaration.params + width case.body ≤ 64) f.definition.cases
  pub light : HasLightCases nodes f

-- the relation with this number is the function's
pub record IsDeclared (sig0 sig : Declarations) (f : Function) (relation : RelId) : Type 0 where
  pub types : sig.types ≡ sig0.types
  pub at : slice_get sig.relations relation.0 ≡ Some (relation_of sig0 f)

kinds_are : (sig0 sig : Declarations) (f : Function) (relation : RelId) → IsDeclared sig0 sig f relation →
    kinds_of sig relation ≡ map (kind_of sig0 f.definition.inputs) f.declaration.params
kinds_are sig0 sig f relation d =
    ap (λ r. map (λ (p : Param). p.kind) (params_in r)) d.at ∙ kinds_of_params sig0 f.definition.inputs f.declaration.params

plain_few : (kinds : List Kind) → length (plain_sorts kinds) ≤ length kinds
plain_few [] = omega arith
plain_few (Term t ∷ ks) = let few = plain_few ks in omega (arith, few)
plain_few (Input s ∷ ks) = let few = plain_few ks in omega (arith, few)
plain_few (Output s ∷ ks) = let few = plain_few ks in omega (arith, few)

plain_params : (sig0 sig : Declarations) (f : Function) (relation : RelId) → IsDeclared sig0 sig f relation →
    length (plain_sorts (kinds_of sig relation)) ≤ length f.declaration.params
plain_params sig0 sig f relation d =
    let few = plain_few (kinds_of sig relation) in
    let count = ap (λ (ks : List Kind). length ks) (kinds_are sig0 sig f relation d) ∙ length-map f.declaration.params (kind_of sig0 f.definition.inputs) in
    omega (arith, few, count)

one_pair : (sig : Declarations) (nodes : ℕ) (f : Function) → IsTested sig nodes f → (p : Pair) × (term_pairs f.declaration.params ≡ p ∷ [])
one_pair sig nodes f t =
    let test = holds (nat_eq (length (term_pairs f.declaration.params)) 1) 30 f.declaration.place t.one_term in
    single (term_pairs f.declaration.params) (grind (arith, nat_tests, test))

-- the relation's term is of the matched type
same_term : (sig0 sig : Declarations) (nodes : ℕ) (f : Function) (relation : RelId) → IsDeclared sig0 sig f relation → IsTested sig nodes f →
    term_type (kinds_of sig relation) ≡ Some (matched_type sig f)
same_term sig0 sig nodes f relation d t =
    let one = one_pair sig nodes f t in
    let named = sort_of_matched f.declaration.params one.0 f.definition.matched.bytes t.distinct one.1 t.matched in
    ap term_type (kinds_are sig0 sig f relation d)
    ∙ first_term sig0 f.definition.inputs f.declaration.params one.0 [] one.1
    ∙ ap (λ (types : List (List ℕ)). Some (type_named (record sig0 { types = types }) one.0.sort.bytes)) (sym d.types)
    ∙ ap (λ name. Some (type_named sig name)) (sym named)

pub case_made : (sig : Declarations) (f : Function) (case : Case) → first (case_faults sig f (matched_type sig f) case) ≡ None →
    Made (matched_type sig f) (length case.pattern.variables) (constructor_at sig case.pattern.name.bytes)
case_made sig f case none =
    let parts = none_parts (pattern_faults sig (matched_type sig f) case.pattern)
    (flat_map (branch_faults sig (constructor_at sig case.pattern.name.bytes) (sorts_of (plain_pairs f.declaration.params))) (open_branches sig f case)) none in
    made_by (matched_type sig f) (length case.pattern.variables) (constructor_at sig case.pattern.name.bytes)
    (holds (makes (matched_type sig f) (length case.pattern.variables) (constructor_at sig case.pattern.name.bytes)) 30 case.pattern.place parts.0)

-- a branch of a case, which is no wider and has no more nodes than is allowed, makes a rule of the signature's
pub rule_fits : (sig0 sig : Declarations) (nodes : ℕ) (f : Function) (relation : RelId) (case : Case) → IsDeclared sig0 sig f relation → IsTested sig nodes f → nodes < 2 ^ 32 →
    first (case_faults sig f (matched_type sig f) case) ≡ None → length f.declaration.params + width case.body ≤ 64 →
    (branch : Branch) → length branch.around ≤ width case.body → IsLight nodes branch →
    IsRuleOf sig (rule_of sig relation (constructor_named sig case.pattern.name.bytes) (texts case.pattern.variables) (open_branch sig (variables_of f case) branch))
rule_fits sig0 sig nodes f relation case d t bound none narrow branch around light =
    let made = case_made sig f case none in
    let vars = within (variables_of f case) branch.around in
    let known = input_slots (kinds_of sig relation) in
    let plain = plain_params sig0 sig f relation d in
    let slots = length-append (plain_sorts (kinds_of sig relation)) (map (λ (v : Var). v.sort) (map var_of branch.around)) in
    let more = length-map (map var_of branch.around) (λ (v : Var). v.sort) in
    let pairs = length-map branch.around var_of in
    let few = atoms_few sig (map (opened sig vars) branch.leaf.atoms) known in
    let opens = length-map branch.leaf.atoms (opened sig vars) in
    let heavy = few_of_weight branch.leaf.atoms in
    record {
      relation = slice_get_within sig.relations relation.0 (relation_of sig0 f) d.at;
      con = slice_get_within sig.constructors (constructor_named sig case.pattern.name.bytes).0 made.found made.is;
      same_type = same_term sig0 sig nodes f relation d t ∙ sym (ap owner_in made.is ∙ ap Some made.same_owner);
      few_slots = omega (arith, plain, slots, more, pairs, around, narrow);
      few_atoms = omega (arith, few, opens, heavy, light, bound);
      small = small_atoms sig vars branch.leaf.atoms known (omega (arith, light, bound));
    }

rules_each : (sig0 sig : Declarations) (nodes : ℕ) (f : Function) (relation : RelId) (case : Case) → IsDeclared sig0 sig f relation → IsTested sig nodes f → nodes < 2 ^ 32 →
    first (case_faults sig f (matched_type sig f) case) ≡ None → length f.declaration.params + width case.body ≤ 64 →
    (branches : List Branch) → All (λ (branch : Branch). length branch.around ≤ width case.body) branches → All (IsLight nodes) branches →
    All (λ (branch : OpenBranch). IsRuleOf sig (rule_of sig relation (constructor_named sig case.pattern.name.bytes) (texts case.pattern.variables) branch))
    (map (open_branch sig (variables_of f case)) branches)
rules_each sig0 sig nodes f relation case d t bound none narrow [] around light =
    All-nil (λ (branch : OpenBranch). IsRuleOf sig (rule_of sig relation (constructor_named sig case.pattern.name.bytes) (texts case.pattern.variables) branch))
rules_each sig0 sig nodes f relation case d t bound none narrow (b ∷ bs) around light =
    All-cons (λ (branch : OpenBranch). IsRuleOf sig (rule_of sig relation (constructor_named sig case.pattern.name.bytes) (texts case.pattern.variables) branch))
    (open_branch sig (variables_of f case) b) (map (open_branch sig (variables_of f case)) bs)
    (rule_fits sig0 sig nodes f relation case d t bound none narrow b (All-head (λ (branch : Branch). length branch.around ≤ width case.body) b bs around) (All-head (IsLight nodes) b bs light))
    (rules_each sig0 sig nodes f relation case d t bound none narrow bs (All-tail (λ (branch : Branch). length branch.around ≤ width case.body) b bs around) (All-tail (IsLight nodes) b bs light))

cases_have_rules : (sig0 sig : Declarations) (nodes : ℕ) (f : Function) (relation : RelId) → IsDeclared sig0 sig f relation → IsTested sig nodes f → nodes < 2 ^ 32 →
    (cases : List Case) → All (λ (case : Case). first (case_faults sig f (matched_type sig f) case) ≡ None) cases →
    All (λ (case : Case). length f.declaration.params + width case.body ≤ 64) cases → All (λ (case : Case). All (IsLight nodes) (branches_of case)) cases →
    All (HasRules sig) (map (open_case sig relation f) cases)
cases_have_rules sig0 sig nodes f relation d t bound [] none narrow light = All-nil (HasRules sig)
cases_have_rules sig0 sig nodes f relation d t bound (c ∷ cs) none narrow light =
    All-cons (HasRules sig) (open_case sig relation f c) (map (open_case sig relation f) cs)
    (rules_each sig0 sig nodes f relation c d t bound (All-head (λ (case : Case). first (case_faults sig f (matched_type sig f) case) ≡ None) c cs none)
    (All-head (λ (case : Case). length f.declaration.params + width case.body ≤ 64) c cs narrow) (branches_of c)
    (no_more_around c.body) (All-head (λ (case : Case). All (IsLight nodes) (branches_of case)) c cs light))
    (cases_have_rules sig0 sig nodes f relation d t bound cs (All-tail (λ (case : Case). first (case_faults sig f (matched_type sig f) case) ≡ None) c cs none)
    (All-tail (λ (case : Case). length f.declaration.params + width case.body ≤ 64) c cs narrow) (All-tail (λ (case : Case). All (IsLight nodes) (branches_of case)) c cs light))

function_has_rules : (sig0 sig : Declarations) (nodes : ℕ) (f : Function) (relation : RelId) → IsDeclared sig0 sig f relation → IsTested sig nodes f → nodes < 2 ^ 32 →
    All (HasRules sig) (map (open_case sig relation f) f.definition.cases)
function_has_rules sig0 sig nodes f relation d t bound =
    cases_have_rules sig0 sig nodes f relation d t bound f.definition.cases (none_each (case_faults sig f (matched_type sig f)) f.definition.cases t.fit) t.narrow t.light

-- the relations with numbers from n on are those of the functions
abbrev pub AreDeclared : Declarations → Declarations → ℕ → List Function → Type 0
AreDeclared sig0 sig n functions = (sig.types ≡ sig0.types) × ((k : ℕ) (f : Function) → slice_get functions k ≡ Some f → slice_get sig.relations (n + k) ≡ Some (relation_of sig0 f))

pub later : (sig0 sig : Declarations) (n : ℕ) (f : Function) (fs : List Function) → AreDeclared sig0 sig n (f ∷ fs) → AreDeclared sig0 sig (n + 1) fs
later sig0 sig n f fs d = (d.0, λ k g at. let e : n + (k + 1) ≡ (n + 1) + k = omega arith in subst (λ m. slice_get sig.relations m ≡ Some (relation_of sig0 g)) e (d.1 (k + 1) g (at_next k g at)))
  where
    at_next : (k : ℕ) (g : Function) → slice_get fs k ≡ Some g → slice_get (f ∷ fs) (k + 1) ≡ Some g
    at_next k g at = let e : suc k ≡ k + 1 = omega arith in subst (λ m. slice_get (f ∷ fs) m ≡ Some g) e at

pub here : (sig0 sig : Declarations) (n : ℕ) (f : Function) (fs : List Function) → AreDeclared sig0 sig n (f ∷ fs) → IsDeclared sig0 sig f (record { 0 = n })
here sig0 sig n f fs d = let e : n + 0 ≡ n = omega arith in record { types = d.0; at = subst (λ m. slice_get sig.relations m ≡ Some (relation_of sig0 f)) e (d.1 0 f refl) }

-- each case of tested functions makes rules of the signature's
pub functions_have_rules : (sig0 sig : Declarations) (nodes n : ℕ) (functions : List Function) → AreDeclared sig0 sig n functions → All (IsTested sig nodes) functions → nodes < 2 ^ 32 →
    All (HasRules sig) (open_cases sig n functions)
functions_have_rules sig0 sig nodes n [] d t bound = All-nil (HasRules sig)
functions_have_rules sig0 sig nodes n (f ∷ fs) d t bound =
    All-append (HasRules sig) (map (open_case sig (record { 0 = n }) f) f.definition.cases) (open_cases sig (n + 1) fs)
    (function_has_rules sig0 sig nodes f (record { 0 = n }) (here sig0 sig n f fs d) (All-head (IsTested sig nodes) f fs t) bound)
    (functions_have_rules sig0 sig nodes (n + 1) fs (later sig0 sig n f fs d) (All-tail (IsTested sig nodes) f fs t) bound)

-- The relations of a command stand after those before it.

past_append : {X : Type 0} (xs ys : List X) (k : ℕ) → slice_get (xs ++ ys) (length xs + k) ≡ slice_get ys k
past_append {X} [] ys k = let e : length {A = X} [] + k ≡ k = omega arith in ap (slice_get ys) e
past_append (x ∷ xs) ys k = let e : length (x ∷ xs) + k ≡ suc (length xs + k) = omega arith in ap (slice_get (x ∷ (xs ++ ys))) e ∙ past_append xs ys k

pub are_declared : (sig : Declarations) (functions : List Function) → AreDeclared sig (declared_with sig functions) (length sig.relations) functions
are_declared sig functions = (
  refl,
  λ k f at.
      past_append sig.relations (map (relation_of sig) functions) k ∙ slice_get-map (relation_of sig) functions k ∙ ap (option_map (relation_of sig)) at,
)

-- A rule has no more parameters than variables are allowed.

plain_each : (sig : Declarations) (relation : RelId) (f : Function) (cases : List Case) → length (plain_sorts (kinds_of sig relation)) ≤ 64 → All (HasFewPlain sig) (map (open_case sig relation f) cases)
plain_each sig relation f [] few = All-nil (HasFewPlain sig)
plain_each sig relation f (c ∷ cs) few = All-cons (HasFewPlain sig) (open_case sig relation f c) (map (open_case sig relation f) cs) few (plain_each sig relation f cs few)

plain_function : (sig0 sig : Declarations) (f : Function) (relation : RelId) → IsDeclared sig0 sig f relation → length f.declaration.params ≤ 64 →
    All (HasFewPlain sig) (map (open_case sig relation f) f.definition.cases)
plain_function sig0 sig f relation d few =
    let plain = plain_params sig0 sig f relation d in
    plain_each sig relation f f.definition.cases (omega (arith, plain, few))

pub functions_have_few_plain : (sig0 sig : Declarations) (n : ℕ) (functions : List Function) → AreDeclared sig0 sig n functions →
    All (λ (f : Function). length f.declaration.params ≤ 64) functions → All (HasFewPlain sig) (open_cases sig n functions)
functions_have_few_plain sig0 sig n [] d few = All-nil (HasFewPlain sig)
functions_have_few_plain sig0 sig n (f ∷ fs) d few =
    All-append (HasFewPlain sig) (map (open_case sig (record { 0 = n }) f) f.definition.cases) (open_cases sig (n + 1) fs)
    (plain_function sig0 sig f (record { 0 = n }) (here sig0 sig n f fs d) (All-head (λ (f : Function). length f.declaration.params ≤ 64) f fs few))
    (functions_have_few_plain sig0 sig (n + 1) fs (later sig0 sig n f fs d) (All-tail (λ (f : Function). length f.declaration.params ≤ 64) f fs few))

-- The cases make as many rules as the test of limits counts.

abbrev branch_count : List OpenCase → ℕ
branch_count cases = sum_by (λ (case : OpenCase). length case.branches) cases

count-append : (xs ys : List OpenCase) → branch_count (xs ++ ys) ≡ branch_count xs + branch_count ys
count-append [] ys = omega arith
count-append (x ∷ xs) ys =
    let left = sum_by-cons (λ (case : OpenCase). length case.branches) x (xs ++ ys) in
    let right = sum_by-cons (λ (case : OpenCase). length case.branches) x xs in
    let more = count-append xs ys in
    omega (arith, left, right, more)

sites-append : (xs ys : List Site) → rule_count (xs ++ ys) ≡ rule_count xs + rule_count ys
sites-append [] ys = omega arith
sites-append (x ∷ xs) ys =
    let left = sum_by-cons (λ (site : Site). length (branches_of site.case)) x (xs ++ ys) in
    let right = sum_by-cons (λ (site : Site). length (branches_of site.case)) x xs in
    let more = sites-append xs ys in
    omega (arith, left, right, more)

abbrev site_of : Function → Case → Site
site_of f case = record { function = f; case = case }

cases_count : (sig : Declarations) (relation : RelId) (f : Function) (cases : List Case) → branch_count (map (open_case sig relation f) cases) ≡ rule_count (map (site_of f) cases)
cases_count sig relation f [] = refl
cases_count sig relation f (c ∷ cs) =
    let left = sum_by-cons (λ (case : OpenCase). length case.branches) (open_case sig relation f c) (map (open_case sig relation f) cs) in
    let right = sum_by-cons (λ (site : Site). length (branches_of site.case)) (site_of f c) (map (site_of f) cs) in
    let same = length-map (branches_of c) (open_branch sig (variables_of f c)) in
    let more = cases_count sig relation f cs in
    omega (arith, left, right, same, more)

pub functions_count : (sig : Declarations) (n : ℕ) (functions : List Function) → sum_by (λ (case : OpenCase). length case.branches) (open_cases sig n functions) ≡ rule_count (sites_of functions)
functions_count sig n [] = refl
functions_count sig n (f ∷ fs) =
    let left = count-append (map (open_case sig (record { 0 = n }) f) f.definition.cases) (open_cases sig (n + 1) fs) in
    let right = sites-append (map (site_of f) f.definition.cases) (sites_of fs) in
    let same = cases_count sig (record { 0 = n }) f f.definition.cases in
    let more = functions_count sig (n + 1) fs in
    omega (arith, left, right, same, more)

few_by : (b : Bool) (p : Pair) (kept pairs : List Pair) → length kept ≤ length pairs → length (if b then p ∷ kept else kept) ≤ suc (length pairs)
few_by true p kept pairs h = omega (arith, h)
few_by false p kept pairs h = omega (arith, h)

filter_few : (test : Pair → Bool) (pairs : List Pair) → length (filter test pairs) ≤ length pairs
filter_few test [] = omega arith
filter_few test (p ∷ ps) = few_by (test p) p (filter test ps) ps (filter_few test ps)

-- The slots of a rule are few enough to be numbered.
pub narrow_cases : (f : Function) → All (λ (case : Case). length f.declaration.params + width case.body ≤ 64) f.definition.cases → HasNarrowCases f
narrow_cases f = All-weaker (λ (case : Case). length f.declaration.params + width case.body ≤ 64) (IsNarrow f)
    (λ case narrow. let fewer = filter_few is_plain f.declaration.params in omega (arith, narrow, fewer)) f.definition.cases

-- Functions whose command has passed the tests, each of which is stated of all of them.
pub tested_functions : (sig : Declarations) (nodes : ℕ) (functions : List Function) → first (functions_faults sig functions) ≡ None →
    All (λ (f : Function). AreDistinct (names_in f.declaration.params)) functions →
    All (λ (f : Function). has (names_in (term_pairs f.declaration.params)) f.definition.matched.bytes ≡ true) functions →
    All (λ (f : Function). All (λ (case : Case). length f.declaration.params + width case.body ≤ 64) f.definition.cases) functions →
    All (HasLightCases nodes) functions → All (IsTested sig nodes) functions
tested_functions sig nodes functions none distinct matched narrow light =
    let both = none_parts (flat_map declaration_faults functions) (flat_map (definition_faults sig) functions) none in
    each functions (none_each declaration_faults functions both.0) (none_each (definition_faults sig) functions both.1) distinct matched narrow light
  where
    each : (fs : List Function) → All (λ (f : Function). first (declaration_faults f) ≡ None) fs → All (λ (f : Function). first (definition_faults sig f) ≡ None) fs →
        All (λ (f : Function). AreDistinct (names_in f.declaration.params)) fs →
        All (λ (f : Function). has (names_in (term_pairs f.declaration.params)) f.definition.matched.bytes ≡ true) fs →
        All (λ (f : Function). All (λ (case : Case). length f.declaration.params + width case.body ≤ 64) f.definition.cases) fs →
        All (HasLightCases nodes) fs → All (IsTested sig nodes) fs
    each [] one_term fit distinct matched narrow light = All-nil (IsTested sig nodes)
    each (f ∷ fs) one_term fit distinct matched narrow light =
        All-cons (IsTested sig nodes) f fs
        (record {
          one_term = All-head (λ (f : Function). first (declaration_faults f) ≡ None) f fs one_term;
          fit = All-head (λ (f : Function). first (definition_faults sig f) ≡ None) f fs fit;
          distinct = All-head (λ (f : Function). AreDistinct (names_in f.declaration.params)) f fs distinct;
          matched = All-head (λ (f : Function). has (names_in (term_pairs f.declaration.params)) f.definition.matched.bytes ≡ true) f fs matched;
          narrow = All-head (λ (f : Function). All (λ (case : Case). length f.declaration.params + width case.body ≤ 64) f.definition.cases) f fs narrow;
          light = All-head (HasLightCases nodes) f fs light;
        })
        (each fs (All-tail (λ (f : Function). first (declaration_faults f) ≡ None) f fs one_term) (All-tail (λ (f : Function). first (definition_faults sig f) ≡ None) f fs fit)
        (All-tail (λ (f : Function). AreDistinct (names_in f.declaration.params)) f fs distinct)
        (All-tail (λ (f : Function). has (names_in (term_pairs f.declaration.params)) f.definition.matched.bytes ≡ true) f fs matched)
        (All-tail (λ (f : Function). All (λ (case : Case). length f.declaration.params + width case.body ≤ 64) f.definition.cases) f fs narrow)
        (All-tail (HasLightCases nodes) f fs light))
