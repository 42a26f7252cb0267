-- Functions without faults are added, and what has been stated stays sound.
use Rattle.std.proofs.Common.{◌≡◌, ◌<◌, ◌≤◌, ◌^◌, ℕ, ◌+◌, true, List, [], ◌∷◌, ◌++◌, append_assoc, map, length, None, All, refl, sym, ap, subst, ◌∙◌, arith}
use Rattle.std.specs.Prelude.{sum_by}
use Rattle.std.specs.List.{flat_map}
use Rattle.std.proofs.lemmas.List.{length-append, length-map}
use Rattle.std.proofs.lemmas.List.Elements.{All-append, All-weaker}
use Rattle.std.proofs.lemmas.List.Sums.{sum_by-cons}
use Rattle.sig_core.specs.Names.{AreDistinct}
use Rattle.sig_core.specs.Signatures.{Declarations}
use Rattle.sig_core.specs.WellFormed.{IsWellFormed, relation_names}
use Rattle.sexpr_core.specs.declared.form.Sexpr.{Sexpr}
use Rattle.sexpr_core.specs.Sizes.{IsSmall, node_count}
use Rattle.problem_core.specs.Soundness.{IsSoundRule}
use Rattle.rule_core.specs.declared.rule.Rule.{Rule}
use Rattle.syntax_core.specs.declared.commands.Head.TheVariants as head
use Rattle.syntax_core.specs.declared.fault.Fault.{Fault}
use Rattle.syntax_core.specs.declared.syntax.Case.{Case}
use Rattle.syntax_core.specs.declared.syntax.Function.{Function}
use Rattle.syntax_core.specs.Syntax.{functions_of}
use Rattle.name_core.specs.Bodies.{width}
use Rattle.name_core.specs.Faults.{first, found, shapes}
use Rattle.name_core.specs.Limits.{functions_limits, limits}
use Rattle.name_core.specs.Names.{declaration_names, definition_names, function_names, functions_names, has, names, names_in, term_pairs}
use Rattle.name_core.specs.States.{State}
use Rattle.name_core.proofs.LimitFacts.{CaseFits, FunctionFits, FunctionsFit, functions_fit}
use Rattle.name_core.proofs.NameFacts.{DeclarationNamed, DefinitionNamed, FunctionsNamed}
use Rattle.name_core.proofs.NameFacts as facts
use Rattle.sort_core.specs.declared.branch.OpenCase.{OpenCase}
use Rattle.sort_core.specs.declared.error.ElabError.{ElabError}
use Rattle.sort_core.specs.declared.error.ElabError.TheVariants as error
use Rattle.sort_core.specs.Branches.{HasNarrowCases, open_cases}
use Rattle.sort_core.specs.Errors.{IsDue}
use Rattle.sort_core.specs.Relations.{declared_with, relation_of}
use Rattle.sort_core.specs.Sorts.{declaration_faults, definition_faults, functions_faults, sorts}
use Rattle.sort_core.proofs.Faultless.{none_each}
use Rattle.state_core.specs.Taking.{IsTaken}
use Rattle.state_core.specs.Commands.{faults_in, flow, may_come}
use Rattle.making_core.specs.Making.{added}
use Rattle.making_core.specs.Rules.{HasFewPlain, HasRules, case_flow, case_rules, functions_flow, rule_of, rules_of}
use Rattle.making_core.specs.Soundness.{IsSoundState}
use Rattle.state_core.proofs.ApartFunctions.{functions_apart}
use Rattle.state_core.proofs.CaseNames.{functions_named}
use Rattle.making_core.proofs.Fits.{none-left, none-right}
use Rattle.state_core.proofs.Growing.{wanted_still}
use Rattle.state_core.proofs.Relating.{free_still, names_still, rules_still}
use Rattle.making_core.proofs.RuleFacts.{IsTested, are_declared, functions_count, functions_have_few_plain, functions_have_rules, narrow_cases, tested_functions}
use Rattle.state_core.proofs.RuleSoundness.{HasNamedCases, functions_sound}
use Rattle.making_core.proofs.Weights.{HasLightCases, light_functions}

-- the tests of limits, of names and of declarations have found nothing
pub record ArePassed (sig : Declarations) (rules : ℕ) (functions : List Function) : Type 0 where
  pub limits : first (functions_limits (length sig.relations) rules functions) ≡ None
  pub names : first (functions_names sig functions) ≡ None
  pub declarations : first (flat_map declaration_faults functions) ≡ None

passed : (sig : Declarations) (rules : ℕ) (functions : List Function) →
    first (functions_limits (length sig.relations) rules functions ++ functions_names sig functions ++ flat_map declaration_faults functions) ≡ None → ArePassed sig rules functions
passed sig rules functions h =
    let L : List Fault = functions_limits (length sig.relations) rules functions in
    let N : List Fault = functions_names sig functions in
    let front : first (L ++ N) ≡ None = none-left (L ++ N) (flat_map declaration_faults functions) h in
    record { limits = none-left L N front; names = none-right L N front; declarations = none-right (L ++ N) (flat_map declaration_faults functions) h }

declared_names : (sig : Declarations) (rules : ℕ) (functions : List Function) → ArePassed sig rules functions → first (found (declaration_names sig) functions) ≡ None
declared_names sig rules functions p =
    none-left (found (declaration_names sig) functions) (flat_map (definition_names sig (relation_names sig.relations ++ function_names functions)) functions) p.names

limits_fit : (sig : Declarations) (rules : ℕ) (functions : List Function) → IsWellFormed sig → rules ≤ 16384 → ArePassed sig rules functions →
    FunctionsFit (length sig.relations) rules functions
limits_fit sig rules functions well few p = functions_fit (length sig.relations) rules functions well.few_relations few p.limits

names_fit : (sig : Declarations) (rules : ℕ) (functions : List Function) → IsWellFormed sig → ArePassed sig rules functions → FunctionsNamed sig functions
names_fit sig rules functions well p = facts.functions_named sig functions well.distinct_relations p.names

abbrev AreNarrow : Function → Type 0
AreNarrow f = All (λ (case : Case). length f.declaration.params + width case.body ≤ 64) f.definition.cases

all_narrow : (functions : List Function) → All FunctionFits functions → All AreNarrow functions
all_narrow functions fits =
    All-weaker FunctionFits AreNarrow
    (λ f fit. All-weaker (CaseFits (length f.declaration.params)) (λ (case : Case). length f.declaration.params + width case.body ≤ 64) (λ case here. here.narrow) f.definition.cases fit.1) functions fits

narrow : (functions : List Function) → All FunctionFits functions → All HasNarrowCases functions
narrow functions fits = All-weaker AreNarrow HasNarrowCases narrow_cases functions (all_narrow functions fits)

few_params : (functions : List Function) → All FunctionFits functions → All (λ (f : Function). length f.declaration.params ≤ 64) functions
few_params functions fits =
    All-weaker FunctionFits (λ (f : Function). length f.declaration.params ≤ 64) (λ f fit. let few : length f.declaration.params ≤ 32 = fit.0.few_params in omega (arith, few)) functions fits

-- Rules.

all_tested : (sig : Declarations) (rules nodes : ℕ) (functions : List Function) → IsWellFormed sig → rules ≤ 16384 → ArePassed sig rules functions → All (HasLightCases nodes) functions →
    first (functions_faults (declared_with sig functions) functions) ≡ None → All (IsTested (declared_with sig functions) nodes) functions
all_tested sig rules nodes functions well few p light none =
    let named : FunctionsNamed sig functions = names_fit sig rules functions well p in
    let relations : List (List ℕ) = relation_names sig.relations ++ function_names functions in
    tested_functions (declared_with sig functions) nodes functions none
    (All-weaker (DeclarationNamed sig) (λ (f : Function). AreDistinct (names_in f.declaration.params)) (λ f here. here.new_params) functions named.declarations)
    (All-weaker (DefinitionNamed sig relations) (λ (f : Function). has (names_in (term_pairs f.declaration.params)) f.definition.matched.bytes ≡ true) (λ f here. here.matched) functions named.definitions)
    (all_narrow functions (limits_fit sig rules functions well few p).each) light

have_rules : (sig : Declarations) (rules nodes : ℕ) (functions : List Function) → IsWellFormed sig → rules ≤ 16384 → ArePassed sig rules functions → All (HasLightCases nodes) functions →
    nodes < 2 ^ 32 → first (functions_faults (declared_with sig functions) functions) ≡ None →
    All (HasRules (declared_with sig functions)) (open_cases (declared_with sig functions) (length sig.relations) functions)
have_rules sig rules nodes functions well few p light bound none =
    functions_have_rules sig (declared_with sig functions) nodes (length sig.relations) functions (are_declared sig functions) (all_tested sig rules nodes functions well few p light none) bound

have_few_plain : (sig : Declarations) (rules : ℕ) (functions : List Function) → IsWellFormed sig → rules ≤ 16384 → ArePassed sig rules functions →
    All (HasFewPlain (declared_with sig functions)) (open_cases (declared_with sig functions) (length sig.relations) functions)
have_few_plain sig rules functions well few p =
    functions_have_few_plain sig (declared_with sig functions) (length sig.relations) functions (are_declared sig functions) (few_params functions (limits_fit sig rules functions well few p).each)

have_room : (sig : Declarations) (rules : ℕ) (functions : List Function) → IsWellFormed sig → rules ≤ 16384 → ArePassed sig rules functions →
    rules + sum_by (λ (case : OpenCase). length case.branches) (open_cases (declared_with sig functions) (length sig.relations) functions) ≤ 16384
have_room sig rules functions well few p =
    let count = functions_count (declared_with sig functions) (length sig.relations) functions in
    let room = (limits_fit sig rules functions well few p).few_rules in
    omega (arith, count, room)

rules_count : (sig : Declarations) (cases : List OpenCase) → length (flat_map (case_rules sig) cases) ≡ sum_by (λ (case : OpenCase). length case.branches) cases
rules_count sig [] = refl
rules_count sig (c ∷ cs) =
    let both = length-append (case_rules sig c) (flat_map (case_rules sig) cs) in
    let here = length-map c.branches (rule_of sig c.relation c.con c.kids) in
    let whole = sum_by-cons (λ (case : OpenCase). length case.branches) c cs in
    let more = rules_count sig cs in
    omega (arith, both, here, whole, more)

-- The first fault of a command.

first_more : (xs ys : List Fault) (e : ElabError) → IsDue (first xs) e → IsDue (first (xs ++ ys)) e
first_more xs ys error.Memory h = tt
first_more [] ys (error.Fault fault) h = absurd (cc)
first_more (x ∷ xs) ys (error.Fault fault) h = h

first_after : (xs ys : List Fault) → first xs ≡ None → first (xs ++ ys) ≡ first ys
first_after [] ys h = refl
first_after (x ∷ xs) ys h = absurd (cc)

first_later : (xs ys : List Fault) (e : ElabError) → first xs ≡ None → IsDue (first ys) e → IsDue (first (xs ++ ys)) e
first_later xs ys e none h = subst (λ o. IsDue o e) (sym (first_after xs ys none)) h

module _ (s : State) (form : Sexpr) where
  abbrev L : List Fault
  L = limits s head.DefineFunsRec form

  abbrev N : List Fault
  N = names s head.DefineFunsRec form

  abbrev D : List Fault
  D = flat_map declaration_faults (functions_of form)

  abbrev E : List Fault
  E = flat_map (definition_faults (declared_with s.signature (functions_of form))) (functions_of form)

  abbrev S : List Fault
  S = sorts s head.DefineFunsRec form

  abbrev F : List Fault
  F = flow s head.DefineFunsRec form

  clean_front : first (limits s head.DefineFunsRec form ++ names s head.DefineFunsRec form ++ flat_map declaration_faults (functions_of form)) ≡ None →
      first (limits s head.DefineFunsRec form ++ names s head.DefineFunsRec form) ≡ None
  clean_front h = none-left (limits s head.DefineFunsRec form ++ names s head.DefineFunsRec form) (flat_map declaration_faults (functions_of form)) h

  pub front_due : (e : ElabError) → IsDue (first (limits s head.DefineFunsRec form ++ names s head.DefineFunsRec form ++ flat_map declaration_faults (functions_of form))) e →
      IsDue (first (faults_in s head.DefineFunsRec form)) e
  front_due e h =
      first_more (L ++ N ++ S) F e
      (subst (λ faults. IsDue (first faults) e) (append_assoc (L ++ N) D E) (first_more (L ++ N ++ D) E e h))

  pub sorts_due : (e : ElabError) → first (limits s head.DefineFunsRec form ++ names s head.DefineFunsRec form ++ flat_map declaration_faults (functions_of form)) ≡ None →
      IsDue (first (functions_faults (declared_with s.signature (functions_of form)) (functions_of form))) e → IsDue (first (faults_in s head.DefineFunsRec form)) e
  sorts_due e front h = first_more (L ++ N ++ S) F e (first_later (L ++ N) S e (clean_front front) h)

  clean_sorts : first (limits s head.DefineFunsRec form ++ names s head.DefineFunsRec form ++ flat_map declaration_faults (functions_of form)) ≡ None →
      first (functions_faults (declared_with s.signature (functions_of form)) (functions_of form)) ≡ None → first (L ++ N ++ S) ≡ None
  clean_sorts front none = first_after (L ++ N) S (clean_front front) ∙ none

  pub flow_due : (e : ElabError) → first (limits s head.DefineFunsRec form ++ names s head.DefineFunsRec form ++ flat_map declaration_faults (functions_of form)) ≡ None →
      first (functions_faults (declared_with s.signature (functions_of form)) (functions_of form)) ≡ None →
      IsDue (first (functions_flow s.signature (functions_of form))) e → IsDue (first (faults_in s head.DefineFunsRec form)) e
  flow_due e front none h = first_later (L ++ N ++ S) F e (clean_sorts front none) h

  pub all_clean : first (limits s head.DefineFunsRec form ++ names s head.DefineFunsRec form ++ flat_map declaration_faults (functions_of form)) ≡ None →
      first (functions_faults (declared_with s.signature (functions_of form)) (functions_of form)) ≡ None →
      first (functions_flow s.signature (functions_of form)) ≡ None → first (faults_in s head.DefineFunsRec form) ≡ None
  all_clean front none flows = first_after (L ++ N ++ S) F (clean_sorts front none) ∙ flows

-- the signature has the relations of the functions, of which the first has this number
pub record AreBegun (sig : Declarations) (functions : List Function) (g : Declarations) (n : ℕ) (gs : List Function) : Type 0 where
  pub signature : g ≡ declared_with sig functions
  pub number : n ≡ length sig.relations
  pub read : gs ≡ functions

pub begun : (sig g : Declarations) (n : ℕ) (functions read gs : List Function) → g ≡ declared_with sig read → n ≡ length sig.relations → read ≡ functions → gs ≡ functions → AreBegun sig functions g n gs
begun sig g n functions read gs made number is same = record { signature = made ∙ ap (declared_with sig) is; number = number; read = same }

-- no test before that of sorts finds a fault
abbrev pub HasCleanFront : State → Sexpr → Type 0
HasCleanFront s form = first (limits s head.DefineFunsRec form ++ names s head.DefineFunsRec form ++ flat_map declaration_faults (functions_of form)) ≡ None

begun_faults : (sig g : Declarations) (n : ℕ) (functions gs : List Function) → AreBegun sig functions g n gs → first (functions_faults g gs) ≡ first (functions_faults (declared_with sig functions) functions)
begun_faults sig g n functions gs b = ap (λ x. first (functions_faults x gs)) b.signature ∙ ap (λ fs. first (functions_faults (declared_with sig functions) fs)) b.read

begun_cases : (sig g : Declarations) (n : ℕ) (functions gs : List Function) (cases : List OpenCase) → AreBegun sig functions g n gs → cases ≡ open_cases g n gs →
    cases ≡ open_cases (declared_with sig functions) (length sig.relations) functions
begun_cases sig g n functions gs cases b made =
    made ∙ ap (λ x. open_cases x n gs) b.signature ∙ ap (λ m. open_cases (declared_with sig functions) m gs) b.number ∙ ap (λ fs. open_cases (declared_with sig functions) (length sig.relations) fs) b.read

module _ (s : State) (form : Sexpr) (sound : IsSoundState s) (front : HasCleanFront s form) where
  passed_all : ArePassed s.signature (length s.rules) (functions_of form)
  passed_all = passed s.signature (length s.rules) (functions_of form) front

  pub begun_names : (gs : List Function) → gs ≡ functions_of form → first (found (declaration_names s.signature) gs) ≡ None
  begun_names gs is = subst (λ fs. first (found (declaration_names s.signature) fs) ≡ None) (sym is) (declared_names s.signature (length s.rules) (functions_of form) passed_all)

  pub begun_declarations : (gs : List Function) → gs ≡ functions_of form → first (flat_map declaration_faults gs) ≡ None
  begun_declarations gs is = subst (λ fs. first (flat_map declaration_faults fs) ≡ None) (sym is) passed_all.declarations

  fitting : FunctionsFit (length s.signature.relations) (length s.rules) (functions_of form)
  fitting = limits_fit s.signature (length s.rules) (functions_of form) sound.signature sound.few_rules passed_all

  pub begun_numbers : (n : ℕ) (gs : List Function) → n ≡ length s.signature.relations → gs ≡ functions_of form → n + length gs ≤ 65536
  begun_numbers n gs number is =
      let few = fitting.few_relations in
      let same = ap (λ (fs : List Function). length fs) is in
      omega (arith, few, same, number)

  pub begun_narrow : (gs : List Function) → gs ≡ functions_of form → All HasNarrowCases gs
  begun_narrow gs is = subst (All HasNarrowCases) (sym is) (narrow (functions_of form) fitting.each)

  pub begun_sorts_due : (g : Declarations) (n : ℕ) (gs : List Function) (e : ElabError) → AreBegun s.signature (functions_of form) g n gs →
      IsDue (first (functions_faults g gs)) e → IsDue (first (faults_in s head.DefineFunsRec form)) e
  begun_sorts_due g n gs e b h = sorts_due s form e front (subst (λ o. IsDue o e) (begun_faults s.signature g n (functions_of form) gs b) h)

  module _ (g : Declarations) (n : ℕ) (gs : List Function) (b : AreBegun s.signature (functions_of form) g n gs) (none : first (functions_faults g gs) ≡ None) (cases : List OpenCase) (made : cases ≡ open_cases g n gs) where
    sorted : first (functions_faults (declared_with s.signature (functions_of form)) (functions_of form)) ≡ None
    sorted = sym (begun_faults s.signature g n (functions_of form) gs b) ∙ none

    are_cases : cases ≡ open_cases (declared_with s.signature (functions_of form)) (length s.signature.relations) (functions_of form)
    are_cases = begun_cases s.signature g n (functions_of form) gs cases b made

    pub begun_room : (rules : List Rule) → rules ≡ s.rules → length rules + sum_by (λ (case : OpenCase). length case.branches) cases ≤ 16384
    begun_room rules is =
        let room = have_room s.signature (length s.rules) (functions_of form) sound.signature sound.few_rules passed_all in
        let same = ap (λ (cs : List OpenCase). sum_by (λ (case : OpenCase). length case.branches) cs) are_cases in
        let count = ap (λ (rs : List Rule). length rs) is in
        omega (arith, room, same, count)

    pub begun_few : All (HasFewPlain g) cases
    begun_few =
        subst (λ x. All (HasFewPlain x) cases) (sym b.signature)
        (subst (All (HasFewPlain (declared_with s.signature (functions_of form)))) (sym are_cases)
        (have_few_plain s.signature (length s.rules) (functions_of form) sound.signature sound.few_rules passed_all))

    pub begun_rules : IsSmall form → All (HasRules g) cases
    begun_rules small =
        subst (λ x. All (HasRules x) cases) (sym b.signature)
        (subst (All (HasRules (declared_with s.signature (functions_of form)))) (sym are_cases)
        (have_rules s.signature (length s.rules) (node_count form) (functions_of form) sound.signature sound.few_rules passed_all (light_functions form) small.0 sorted))

    flows : first (flat_map (case_flow g) cases) ≡ first (functions_flow s.signature (functions_of form))
    flows = ap (λ x. first (flat_map (case_flow x) cases)) b.signature ∙ ap (λ (cs : List OpenCase). first (flat_map (case_flow (declared_with s.signature (functions_of form))) cs)) are_cases

    pub begun_flow_due : (e : ElabError) → IsDue (first (flat_map (case_flow g) cases)) e → IsDue (first (faults_in s head.DefineFunsRec form)) e
    begun_flow_due e h = flow_due s form e front sorted (subst (λ o. IsDue o e) flows h)

    pub begun_clean : first (flat_map (case_flow g) cases) ≡ None → first (faults_in s head.DefineFunsRec form) ≡ None
    begun_clean h = all_clean s form front sorted (sym flows ∙ h)

-- functions without faults were added before a function is wanted
pub functions_taken : (s new : State) (form : Sexpr) → may_come s head.DefineFunsRec ≡ true → IsSoundState s → first (shapes form) ≡ None → IsSmall form →
    first (faults_in s head.DefineFunsRec form) ≡ None → new ≡ added s head.DefineFunsRec form → IsWellFormed (declared_with s.signature (functions_of form)) → IsTaken s head.DefineFunsRec form new
functions_taken s new form come sound shape small fine is well =
    let functions : List Function = functions_of form in
    let sig : Declarations = declared_with s.signature functions in
    let L : List Fault = limits s head.DefineFunsRec form in
    let N : List Fault = names s head.DefineFunsRec form in
    let S : List Fault = functions_faults sig functions in
    let F : List Fault = functions_flow s.signature functions in
    let D : List Fault = flat_map declaration_faults functions in
    let sorted : first (L ++ N ++ S) ≡ None = none-left (L ++ N ++ S) F fine in
    let flows : first F ≡ None = none-right (L ++ N ++ S) F fine in
    let front : first (L ++ N) ≡ None = none-left (L ++ N) S sorted in
    let none : first S ≡ None = none-right (L ++ N) S sorted in
    let p : ArePassed s.signature (length s.rules) functions = record {
      limits = none-left L N front;
      names = none-right L N front;
      declarations = none-left D (flat_map (definition_faults sig) functions) none;
    } in
    let fits : FunctionsFit (length s.signature.relations) (length s.rules) functions = limits_fit s.signature (length s.rules) functions sound.signature sound.few_rules p in
    let named : FunctionsNamed s.signature functions = names_fit s.signature (length s.rules) functions sound.signature p in
    let cases : List OpenCase = open_cases sig (length s.signature.relations) functions in
    let tested : All (IsTested sig (node_count form)) functions =
    all_tested s.signature (length s.rules) (node_count form) functions sound.signature sound.few_rules p (light_functions form) none in
    let all_named : All HasNamedCases functions =
    functions_named s.signature (relation_names s.signature.relations ++ function_names functions) functions fits.each named.declarations named.definitions
    (functions_apart form shape small.1 p.declarations) in
    let made : All (IsSoundRule sig) (rules_of s.signature functions) =
    functions_sound s.signature sig (node_count form) (length s.signature.relations) functions (are_declared s.signature functions) tested small.0 all_named (none_each (case_flow sig) cases flows) in
    let count : length (s.rules ++ rules_of s.signature functions) ≡ length s.rules + length (rules_of s.signature functions) = length-append s.rules (rules_of s.signature functions) in
    let each : length (rules_of s.signature functions) ≡ sum_by (λ (case : OpenCase). length case.branches) cases = rules_count sig cases in
    let room = have_room s.signature (length s.rules) functions sound.signature sound.few_rules p in
    let after : IsSoundState (added s head.DefineFunsRec form) = record {
      signature = well;
      names = names_still s.signature functions sound.names fits.each;
      free_names = free_still s.signature functions sound.free_names named.declarations;
      few_rules = omega (arith, count, each, room);
      rules = All-append (IsSoundRule sig) s.rules (rules_of s.signature functions) (rules_still s.signature (map (relation_of s.signature) functions) s.rules sound.rules) made;
      few_constraints = sound.few_constraints;
      wanted = wanted_still s.signature sig s.constraints s.is_over s.wanted come sound.wanted;
    } in
    record { fine = fine; is_added = is; sound = subst IsSoundState (sym is) after }
