-- What stands of a command that passes no limit.
use Rattle.std.proofs.Common.{◌≡◌, ◌<◌, ◌≤◌, ◌+◌, ℕ, Bool, true, false, if◌then◌else◌, max, None, is_some, unwrap_or, drop, List, [], ◌∷◌, ◌++◌, map, length, All, refl, sym, ap, subst, arith, ◌∙◌}
use Rattle.std.proofs.lemmas.List.{length-append}
use Rattle.std.proofs.lemmas.List.Elements.{All-nil, All-cons, All-head, All-tail, All-append}
use Rattle.std.specs.List.{flat_map}
use Rattle.sexpr_core.specs.declared.form.Atom.{Atom}
use Rattle.sexpr_core.specs.declared.form.Nest.{Nest}
use Rattle.sexpr_core.specs.declared.form.Sexpr.{Sexpr, out-Sexpr}
use Rattle.sexpr_core.specs.declared.form.Sexpr.TheOpen.{Sexpr-F}
use Rattle.sexpr_core.specs.Access.{items_in, place_of, symbol_in, symbol_of, parts_of, item_of, others_of}
use Rattle.sig_core.specs.Lists.{greatest}
use Rattle.problem_core.specs.Soundness.{IsShort}
use Rattle.syntax_core.specs.declared.syntax.Application.{Application}
use Rattle.syntax_core.specs.declared.syntax.Body.{Body}
use Rattle.syntax_core.specs.declared.syntax.Body as body
use Rattle.syntax_core.specs.declared.syntax.Case.{Case}
use Rattle.syntax_core.specs.declared.syntax.Declaration.{Declaration}
use Rattle.syntax_core.specs.declared.syntax.Function.{Function}
use Rattle.syntax_core.specs.declared.syntax.Leaf.{Leaf}
use Rattle.syntax_core.specs.declared.syntax.Pair.{Pair}
use Rattle.syntax_core.specs.declared.syntax.Scope.{Scope}
use Rattle.syntax_core.specs.Syntax.{atom_of, items_at, name_of, nonterminals_of, type_names}
use Rattle.name_core.specs.Bodies.{Branch, Site, branches_of, branches_within, rule_count, sites_of, width}
use Rattle.name_core.specs.Faults.{first, found_from, past}
use Rattle.name_core.specs.Limits.{call_limits, constructor_limits, declaration_limits, functions_limits, long_name, pair_limits, pairs_limits, production_limits, type_limits, types_limits, wanted_limits}
use Rattle.name_core.specs.Walks.{bodies_limits, body_limits, rules_of_body, rules_of_site, site_limits, sites_limits, total}
use Rattle.name_core.proofs.BodyInduction.{by_bodies}
use Rattle.name_core.proofs.Branchings.{branches-Fork, branches-Leaf, width-Fork, width-Leaf}
use Rattle.name_core.proofs.Nones.{all_none, counted_all, counted_few, none_append, none_long, numbered_all, numbered_few, past_none}
use Rattle.name_core.proofs.WalkLaws.{rule_count-total, sites_alike}
use Rattle.name_core.proofs.Walking.{limits-Fork, limits-Leaf, rules-Fork, rules-Leaf}

-- a declared name is short enough
abbrev pub HasShortName : Atom → Type 0
HasShortName name = IsShort name.bytes

abbrev pub NamesShort : Pair → Type 0
NamesShort pair = IsShort pair.name.bytes

short : (name : Atom) → first (long_name name) ≡ None → HasShortName name
short name h = none_long (length name.bytes) 1024 _ h

-- Types and constructors.

pub record TypesFit (types constructors : ℕ) (form : Sexpr) : Type 0 where
  pub few_types : types + length (type_names form) ≤ 256
  pub short_types : All HasShortName (type_names form)
  pub few_constructors : constructors + length (flat_map parts_of (items_at 2 form)) ≤ 4096
  pub few_args : All (λ con. length (others_of con) ≤ 16) (flat_map parts_of (items_at 2 form))
  pub short_constructors : All (λ con. HasShortName (name_of con)) (flat_map parts_of (items_at 2 form))

type_room : (k : ℕ) (name : Atom) → first (type_limits k name) ≡ None → HasShortName name × (k < 256)
type_room k name h =
    let parts : (first (long_name name) ≡ None) × (first (past 256 5 k name.place) ≡ None) = none_append (long_name name) (past 256 5 k name.place) h in
    (short name parts.0, past_none 256 5 k name.place parts.1)

-- what stands of a constructor that passes no limit
record ConstructorFits (k : ℕ) (con : Sexpr) : Type 0 where
  room : k < 4096
  args : length (others_of con) ≤ 16
  name : HasShortName (name_of con)

false_true : false ≡ true → ⊥
false_true h = cc

pub no_items : (x : Sexpr-F Sexpr Nest) → is_some (symbol_in x) ≡ true → unwrap_or (items_in x) [] ≡ []
no_items (Sexpr-F.Symbol a) h = refl
no_items (Sexpr-F.Numeral a) h = refl
no_items (Sexpr-F.Text a) h = refl
no_items (Sexpr-F.Keyword a) h = refl
no_items (Sexpr-F.List n) h = absurd (false_true h)

constructor_by : (k : ℕ) (con : Sexpr) (b : Bool) → is_some (symbol_of con) ≡ b →
    first (if b then long_name (atom_of con) ++ past 4096 6 k (place_of con)
    else past 4096 6 k (place_of con) ++ past 17 7 (length (others_of con)) (place_of con) ++ long_name (name_of con)) ≡ None → ConstructorFits k con
constructor_by k con true is h =
    let parts : (first (long_name (atom_of con)) ≡ None) × (first (past 4096 6 k (place_of con)) ≡ None) = none_append (long_name (atom_of con)) (past 4096 6 k (place_of con)) h in
    let none : length (others_of con) ≡ 0 = ap (λ xs. length (drop 1 xs)) (no_items (out-Sexpr con) is) in
    let named : name_of con ≡ atom_of con = ap (λ b. if b then atom_of con else atom_of (item_of 0 con)) is in
    record {
      room = past_none 4096 6 k (place_of con) parts.1;
      args = omega arith;
      name = subst HasShortName (sym named) (short (atom_of con) parts.0);
    }
constructor_by k con false is h =
    let parts : (first (past 4096 6 k (place_of con) ++ past 17 7 (length (others_of con)) (place_of con)) ≡ None) × (first (long_name (name_of con)) ≡ None) =
    none_append (past 4096 6 k (place_of con) ++ past 17 7 (length (others_of con)) (place_of con)) (long_name (name_of con)) h in
    let heads : (first (past 4096 6 k (place_of con)) ≡ None) × (first (past 17 7 (length (others_of con)) (place_of con)) ≡ None) =
    none_append (past 4096 6 k (place_of con)) (past 17 7 (length (others_of con)) (place_of con)) parts.0 in
    let few : length (others_of con) < 17 = past_none 17 7 (length (others_of con)) (place_of con) heads.1 in
    record {
      room = past_none 4096 6 k (place_of con) heads.0;
      args = omega arith;
      name = short (name_of con) parts.1;
    }

constructor_fits : (k : ℕ) (con : Sexpr) → first (constructor_limits k con) ≡ None → ConstructorFits k con
constructor_fits k con h = constructor_by k con (is_some (symbol_of con)) refl h

pub types_fit : (types constructors : ℕ) (form : Sexpr) → types ≤ 256 → constructors ≤ 4096 → first (types_limits types constructors form) ≡ None → TypesFit types constructors form
types_fit types constructors form few_types few_constructors h =
    let cons : List Sexpr = flat_map parts_of (items_at 2 form) in
    let parts : (first (found_from type_limits types (type_names form)) ≡ None) × (first (found_from constructor_limits constructors cons) ≡ None) =
    none_append (found_from type_limits types (type_names form)) (found_from constructor_limits constructors cons) h in
    record {
      few_types = numbered_few type_limits 256 (λ k name none. (type_room k name none).1) types (type_names form) few_types parts.0;
      short_types = numbered_all type_limits HasShortName (λ k name none. (type_room k name none).0) types (type_names form) parts.0;
      few_constructors = numbered_few constructor_limits 4096 (λ k con none. (constructor_fits k con none).room) constructors cons few_constructors parts.1;
      few_args = numbered_all constructor_limits (λ con. length (others_of con) ≤ 16) (λ k con none. (constructor_fits k con none).args) constructors cons parts.1;
      short_constructors = numbered_all constructor_limits (λ con. HasShortName (name_of con)) (λ k con none. (constructor_fits k con none).name) constructors cons parts.1;
    }

-- Pairs.

pair_room : (most limit k : ℕ) (pair : Pair) → first (pair_limits most limit k pair) ≡ None → (k < most) × NamesShort pair
pair_room most limit k pair h =
    let parts : (first (past most limit k pair.place) ≡ None) × (first (long_name pair.name) ≡ None) = none_append (past most limit k pair.place) (long_name pair.name) h in
    (past_none most limit k pair.place parts.0, short pair.name parts.1)

pairs_few : (most limit n : ℕ) (pairs : List Pair) → n ≤ most → first (pairs_limits most limit n pairs) ≡ None → n + length pairs ≤ most
pairs_few most limit n pairs few h = numbered_few (pair_limits most limit) most (λ k pair none. (pair_room most limit k pair none).0) n pairs few h

pairs_short : (most limit n : ℕ) (pairs : List Pair) → first (pairs_limits most limit n pairs) ≡ None → All NamesShort pairs
pairs_short most limit n pairs h = numbered_all (pair_limits most limit) NamesShort (λ k pair none. (pair_room most limit k pair none).1) n pairs h

-- The wanted function and its grammar.

pub record WantedFits (form : Sexpr) : Type 0 where
  pub short : HasShortName (atom_of (item_of 1 form))
  pub few_nonterminals : length (nonterminals_of form) ≤ 256
  pub short_nonterminals : All NamesShort (nonterminals_of form)
  pub few_productions : length (flat_map (items_at 2) (items_at 5 form)) ≤ 4096

pub wanted_fits : (form : Sexpr) → first (wanted_limits form) ≡ None → WantedFits form
wanted_fits form h =
    let productions : List Sexpr = flat_map (items_at 2) (items_at 5 form) in
    let parts : (first (long_name (atom_of (item_of 1 form)) ++ pairs_limits 256 12 0 (nonterminals_of form)) ≡ None) × (first (found_from production_limits 0 productions) ≡ None) =
    none_append (long_name (atom_of (item_of 1 form)) ++ pairs_limits 256 12 0 (nonterminals_of form)) (found_from production_limits 0 productions) h in
    let heads : (first (long_name (atom_of (item_of 1 form))) ≡ None) × (first (pairs_limits 256 12 0 (nonterminals_of form)) ≡ None) =
    none_append (long_name (atom_of (item_of 1 form))) (pairs_limits 256 12 0 (nonterminals_of form)) parts.0 in
    let nonterminals : 0 + length (nonterminals_of form) ≤ 256 = pairs_few 256 12 0 (nonterminals_of form) (omega arith) heads.1 in
    let all : 0 + length productions ≤ 4096 = numbered_few production_limits 4096 (λ k x none. past_none 4096 13 k (place_of x) none) 0 productions (omega arith) parts.1 in
    record {
      short = short (atom_of (item_of 1 form)) heads.0;
      few_nonterminals = omega arith;
      short_nonterminals = pairs_short 256 12 0 (nonterminals_of form) heads.1;
      few_productions = omega arith;
    }

-- Examples.

pub calls_fit : (constraints : ℕ) (calls : List Application) → constraints ≤ 1024 → first (found_from call_limits constraints calls) ≡ None → constraints + length calls ≤ 1024
calls_fit constraints calls few h = numbered_few call_limits 1024 (λ k call none. past_none 1024 14 k call.place none) constraints calls few h

-- Relations and rules.

pub record DeclarationFits (d : Declaration) : Type 0 where
  pub short : HasShortName d.name
  pub few_params : length d.params ≤ 32
  pub short_params : All NamesShort d.params

-- the variables around a leaf, where so many slots are around the body
pub record BranchFits (slots : ℕ) (branch : Branch) : Type 0 where
  pub few : slots + length branch.around ≤ 64
  pub short : All NamesShort branch.around

-- a case of a relation with so many parameters
pub record CaseFits (params : ℕ) (case : Case) : Type 0 where
  pub narrow : params + width case.body ≤ 64
  pub short : All HasShortName case.pattern.variables
  pub branches : All (BranchFits params) (branches_of case)

abbrev pub FunctionFits : Function → Type 0
FunctionFits f = DeclarationFits f.declaration × All (CaseFits (length f.declaration.params)) f.definition.cases

pub record FunctionsFit (relations rules : ℕ) (functions : List Function) : Type 0 where
  pub few_relations : relations + length functions ≤ 256
  pub few_rules : rules + rule_count (sites_of functions) ≤ 16384
  pub each : All FunctionFits functions

declaration_room : (k : ℕ) (d : Declaration) → first (declaration_limits k d) ≡ None → (k < 256) × DeclarationFits d
declaration_room k d h =
    let parts : (first (past 256 8 k d.place ++ long_name d.name) ≡ None) × (first (pairs_limits 32 9 0 d.params) ≡ None) =
    none_append (past 256 8 k d.place ++ long_name d.name) (pairs_limits 32 9 0 d.params) h in
    let heads : (first (past 256 8 k d.place) ≡ None) × (first (long_name d.name) ≡ None) = none_append (past 256 8 k d.place) (long_name d.name) parts.0 in
    let few : 0 + length d.params ≤ 32 = pairs_few 32 9 0 d.params (omega arith) parts.1 in
    (past_none 256 8 k d.place heads.0, record { short = short d.name heads.1; few_params = omega arith; short_params = pairs_short 32 9 0 d.params parts.1 })

-- what stands of a body without a fault
record BodyFits (b : Body) : Type 0 where
  narrow : (slots rules : ℕ) → slots ≤ 64 → first (body_limits slots rules b) ≡ None → slots + width b ≤ 64
  few : (slots rules : ℕ) → rules ≤ 16384 → first (body_limits slots rules b) ≡ None → rules + rules_of_body b ≤ 16384
  branches : (params rules : ℕ) (around : List Pair) → All NamesShort around → params + length around ≤ 64 → first (body_limits (params + length around) rules b) ≡ None →
      All (BranchFits params) (branches_within b around)

leaf_fits : (l : Leaf) → BodyFits (body.Leaf l)
leaf_fits l = record {
  narrow = λ slots rules few h. let none : width (body.Leaf l) ≡ 0 = width-Leaf l in omega arith;
  few = λ slots rules few h.
      let lt : rules < 16384 = past_none 16384 11 rules l.place (sym (ap first (limits-Leaf slots rules l)) ∙ h) in
      let one : rules_of_body (body.Leaf l) ≡ 1 = rules-Leaf l in omega arith;
  branches = λ params rules around shorts few h.
      let here : BranchFits params (record { around = around; leaf = l }) = record { few = few; short = shorts } in
      subst (All (BranchFits params)) (sym (branches-Leaf l around)) (All-cons (BranchFits params) (record { around = around; leaf = l }) [] here (All-nil (BranchFits params)));
}

greatest_room : (slots rules : ℕ) (bodies : List Body) → All BodyFits bodies → slots ≤ 64 → first (bodies_limits slots rules bodies) ≡ None → slots + greatest (map width bodies) ≤ 64
greatest_room slots rules [] all few h = omega arith
greatest_room slots rules (b ∷ bs) all few h =
    let parts : (first (body_limits slots rules b) ≡ None) × (first (bodies_limits slots (rules + rules_of_body b) bs) ≡ None) =
    none_append (body_limits slots rules b) (bodies_limits slots (rules + rules_of_body b) bs) h in
    let here : slots + width b ≤ 64 = (All-head BodyFits b bs all).narrow slots rules few parts.0 in
    let rest : slots + greatest (map width bs) ≤ 64 = greatest_room slots (rules + rules_of_body b) bs (All-tail BodyFits b bs all) few parts.1 in
    let most : slots + max (width b) (greatest (map width bs)) ≤ 64 = omega arith in most

rules_room : (slots rules : ℕ) (bodies : List Body) → All BodyFits bodies → rules ≤ 16384 → first (bodies_limits slots rules bodies) ≡ None → rules + total rules_of_body bodies ≤ 16384
rules_room slots rules [] all few h = omega arith
rules_room slots rules (b ∷ bs) all few h =
    let parts : (first (body_limits slots rules b) ≡ None) × (first (bodies_limits slots (rules + rules_of_body b) bs) ≡ None) =
    none_append (body_limits slots rules b) (bodies_limits slots (rules + rules_of_body b) bs) h in
    let here : rules + rules_of_body b ≤ 16384 = (All-head BodyFits b bs all).few slots rules few parts.0 in
    let rest : (rules + rules_of_body b) + total rules_of_body bs ≤ 16384 = rules_room slots (rules + rules_of_body b) bs (All-tail BodyFits b bs all) here parts.1 in
    omega arith

branches_fit : (params rules : ℕ) (around : List Pair) (bodies : List Body) → All BodyFits bodies → All NamesShort around → params + length around ≤ 64 →
    first (bodies_limits (params + length around) rules bodies) ≡ None → All (BranchFits params) (flat_map (λ b. branches_within b around) bodies)
branches_fit params rules around [] all shorts few h = All-nil (BranchFits params)
branches_fit params rules around (b ∷ bs) all shorts few h =
    let parts : (first (body_limits (params + length around) rules b) ≡ None) × (first (bodies_limits (params + length around) (rules + rules_of_body b) bs) ≡ None) =
    none_append (body_limits (params + length around) rules b) (bodies_limits (params + length around) (rules + rules_of_body b) bs) h in
    All-append (BranchFits params) (branches_within b around) (flat_map (λ x. branches_within x around) bs)
    ((All-head BodyFits b bs all).branches params rules around shorts few parts.0)
    (branches_fit params (rules + rules_of_body b) around bs (All-tail BodyFits b bs all) shorts few parts.1)

fork_parts : (slots rules : ℕ) (scope : Scope) → first (body_limits slots rules (body.Fork scope)) ≡ None →
    (first (pairs_limits 64 10 slots scope.pairs) ≡ None) × (first (bodies_limits (slots + length scope.pairs) rules scope.bodies) ≡ None)
fork_parts slots rules scope h =
    none_append (pairs_limits 64 10 slots scope.pairs) (bodies_limits (slots + length scope.pairs) rules scope.bodies) (sym (ap first (limits-Fork slots rules scope)) ∙ h)

fork_fits : (scope : Scope) → All BodyFits scope.bodies → BodyFits (body.Fork scope)
fork_fits scope all = record {
  narrow = λ slots rules few h.
      let parts : (first (pairs_limits 64 10 slots scope.pairs) ≡ None) × (first (bodies_limits (slots + length scope.pairs) rules scope.bodies) ≡ None) = fork_parts slots rules scope h in
      let inside : slots + length scope.pairs ≤ 64 = pairs_few 64 10 slots scope.pairs few parts.0 in
      let most : (slots + length scope.pairs) + greatest (map width scope.bodies) ≤ 64 = greatest_room (slots + length scope.pairs) rules scope.bodies all inside parts.1 in
      let is : width (body.Fork scope) ≡ length scope.pairs + greatest (map width scope.bodies) = width-Fork scope in
      omega arith;
  few = λ slots rules few h.
      let parts : (first (pairs_limits 64 10 slots scope.pairs) ≡ None) × (first (bodies_limits (slots + length scope.pairs) rules scope.bodies) ≡ None) = fork_parts slots rules scope h in
      let most : rules + total rules_of_body scope.bodies ≤ 16384 = rules_room (slots + length scope.pairs) rules scope.bodies all few parts.1 in
      let is : rules_of_body (body.Fork scope) ≡ total rules_of_body scope.bodies = rules-Fork scope in
      omega arith;
  branches = λ params rules around shorts few h.
      let parts : (first (pairs_limits 64 10 (params + length around) scope.pairs) ≡ None) × (first (bodies_limits ((params + length around) + length scope.pairs) rules scope.bodies) ≡ None) =
      fork_parts (params + length around) rules scope h in
      let inside : (params + length around) + length scope.pairs ≤ 64 = pairs_few 64 10 (params + length around) scope.pairs few parts.0 in
      let longer : length (around ++ scope.pairs) ≡ length around + length scope.pairs = length-append around scope.pairs in
      let same : (params + length around) + length scope.pairs ≡ params + length (around ++ scope.pairs) = omega arith in
      subst (All (BranchFits params)) (sym (branches-Fork scope around))
      (branches_fit params rules (around ++ scope.pairs) scope.bodies all
      (All-append NamesShort around scope.pairs shorts (pairs_short 64 10 (params + length around) scope.pairs parts.0)) (omega arith)
      (subst (λ n. first (bodies_limits n rules scope.bodies) ≡ None) same parts.1));
}

body_fits : (b : Body) → BodyFits b
body_fits = by_bodies BodyFits leaf_fits fork_fits

-- a case of a function
abbrev SiteFits : Site → Type 0
SiteFits site = length site.function.declaration.params ≤ 32 → CaseFits (length site.function.declaration.params) site.case

site_parts : (rules : ℕ) (site : Site) → first (site_limits rules site) ≡ None →
    (first (flat_map long_name site.case.pattern.variables) ≡ None) × (first (body_limits (length site.function.declaration.params) rules site.case.body) ≡ None)
site_parts rules site h = none_append (flat_map long_name site.case.pattern.variables) (body_limits (length site.function.declaration.params) rules site.case.body) h

site_fits : (rules : ℕ) (site : Site) → first (site_limits rules site) ≡ None → SiteFits site
site_fits rules site h few =
    let params : ℕ = length site.function.declaration.params in
    let parts : (first (flat_map long_name site.case.pattern.variables) ≡ None) × (first (body_limits (length site.function.declaration.params) rules site.case.body) ≡ None) = site_parts rules site h in
    let none : length site.function.declaration.params + 0 ≡ length site.function.declaration.params = omega arith in
    record {
      narrow = (body_fits site.case.body).narrow (length site.function.declaration.params) rules (omega arith) parts.1;
      short = all_none long_name HasShortName short site.case.pattern.variables parts.0;
      branches = (body_fits site.case.body).branches (length site.function.declaration.params) rules [] (All-nil NamesShort) (omega arith)
          (subst (λ n. first (body_limits n rules site.case.body) ≡ None) (sym none) parts.1);
    }

site_room : (rules : ℕ) (site : Site) → rules ≤ 16384 → first (site_limits rules site) ≡ None → rules + rules_of_site site ≤ 16384
site_room rules site few h = (body_fits site.case.body).few (length site.function.declaration.params) rules few (site_parts rules site h).1

left_of : {X : Type 0} (P : X → Type 0) (xs ys : List X) → All P (xs ++ ys) → All P xs
left_of P [] ys all = All-nil P
left_of P (x ∷ xs) ys all = All-cons P x xs (All-head P x (xs ++ ys) all) (left_of P xs ys (All-tail P x (xs ++ ys) all))

right_of : {X : Type 0} (P : X → Type 0) (xs ys : List X) → All P (xs ++ ys) → All P ys
right_of P [] ys all = all
right_of P (x ∷ xs) ys all = right_of P xs ys (All-tail P x (xs ++ ys) all)

cases_fit : (f : Function) (cases : List Case) → length f.declaration.params ≤ 32 → All SiteFits (map (λ case. record { function = f; case = case }) cases) →
    All (CaseFits (length f.declaration.params)) cases
cases_fit f [] few all = All-nil (CaseFits (length f.declaration.params))
cases_fit f (case ∷ cases) few all =
    let site : Site = record { function = f; case = case } in
    let sites : List Site = map (λ (x : Case). record { function = f; case = x }) cases in
    All-cons (CaseFits (length f.declaration.params)) case cases (All-head SiteFits site sites all few) (cases_fit f cases few (All-tail SiteFits site sites all))

sites_fit : (functions : List Function) → All (λ f. DeclarationFits f.declaration) functions → All SiteFits (sites_of functions) → All FunctionFits functions
sites_fit [] declarations all = All-nil FunctionFits
sites_fit (f ∷ functions) declarations all =
    let own : List Site = map (λ (case : Case). record { function = f; case = case }) f.definition.cases in
    let here : DeclarationFits f.declaration = All-head (λ (g : Function). DeclarationFits g.declaration) f functions declarations in
    All-cons FunctionFits f functions
    (here, cases_fit f f.definition.cases here.few_params (left_of SiteFits own (sites_of functions) all))
    (sites_fit functions (All-tail (λ (g : Function). DeclarationFits g.declaration) f functions declarations) (right_of SiteFits own (sites_of functions) all))

pub functions_fit : (relations rules : ℕ) (functions : List Function) → relations ≤ 256 → rules ≤ 16384 → first (functions_limits relations rules functions) ≡ None →
    FunctionsFit relations rules functions
functions_fit relations rules functions few_relations few_rules h =
    let parts : (first (found_from (λ (n : ℕ) (f : Function). declaration_limits n f.declaration) relations functions) ≡ None) × (first (sites_limits rules (sites_of functions)) ≡ None) =
    none_append (found_from (λ (n : ℕ) (f : Function). declaration_limits n f.declaration) relations functions) (sites_limits rules (sites_of functions))
    (sym (ap (λ more. first (found_from (λ (n : ℕ) (f : Function). declaration_limits n f.declaration) relations functions ++ more)) (sites_alike rules (sites_of functions))) ∙ h) in
    let all : rules + total rules_of_site (sites_of functions) ≤ 16384 = counted_few rules_of_site site_limits 16384 site_room rules (sites_of functions) few_rules parts.1 in
    let is : rule_count (sites_of functions) ≡ total rules_of_site (sites_of functions) = rule_count-total (sites_of functions) in
    record {
      few_relations = numbered_few (λ (n : ℕ) (f : Function). declaration_limits n f.declaration) 256 (λ k f none. (declaration_room k f.declaration none).0) relations functions few_relations parts.0;
      few_rules = omega arith;
      each = sites_fit functions
          (numbered_all (λ (n : ℕ) (f : Function). declaration_limits n f.declaration) (λ f. DeclarationFits f.declaration) (λ k f none. (declaration_room k f.declaration none).1) relations functions parts.0)
          (counted_all rules_of_site site_limits SiteFits site_fits rules (sites_of functions) parts.1);
    }
