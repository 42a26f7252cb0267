-- What stands of a command without a wrong name.
use Rattle.std.proofs.Common.{◌≡◌, ◌<◌, ℕ, Bool, true, false, not, ◌||◌, Some, None, is_some, is_none, if◌then◌else◌, List, [], ◌∷◌, ◌++◌, drop, map, All, refl, sym, ap, subst, ◌∙◌, append_assoc, arith}
use Rattle.std.proofs.lemmas.List.{map-append}
use Rattle.std.proofs.lemmas.List.Elements.{All-nil, All-cons, All-head, All-tail, All-append}
use Rattle.std.proofs.lemmas.Grind.{flat_map-append}
use Rattle.std.specs.List.{flat_map}
use Rattle.sig_core.specs.Names.{AreDistinct, is_reserved}
use Rattle.sig_core.specs.Signatures.{Declarations}
use Rattle.sig_core.specs.WellFormed.{constructor_names, relation_names}
use Rattle.sig_core.proofs.NameLemmas.{AreDistinct-push}
use Rattle.sexpr_core.specs.declared.form.Atom.{Atom}
use Rattle.sexpr_core.specs.declared.form.Sexpr.{Sexpr, out-Sexpr}
use Rattle.sexpr_core.specs.Access.{place_of, symbol_of, item_of, others_of}
use Rattle.syntax_core.specs.declared.fault.Fault.{Fault}
use Rattle.syntax_core.specs.declared.syntax.Application.{Application}
use Rattle.syntax_core.specs.declared.syntax.Body.{Body}
use Rattle.syntax_core.specs.declared.syntax.Body as body
use Rattle.syntax_core.specs.declared.syntax.Case.{Case}
use Rattle.syntax_core.specs.declared.syntax.Exp.{Exp}
use Rattle.syntax_core.specs.declared.syntax.Function.{Function}
use Rattle.syntax_core.specs.declared.syntax.Leaf.{Leaf}
use Rattle.syntax_core.specs.declared.syntax.Pair.{Pair}
use Rattle.syntax_core.specs.declared.syntax.Pattern.{Pattern}
use Rattle.syntax_core.specs.declared.syntax.Scope.{Scope}
use Rattle.syntax_core.specs.Shapes.{refusal}
use Rattle.syntax_core.specs.Syntax.{atom_of, items_at, name_of, nonterminals_of, type_names}
use Rattle.name_core.specs.Bodies.{Branch, bound, bound_after, branches_of, branches_within, leaf, nodes_of, nodes_within}
use Rattle.name_core.specs.Faults.{bad_if, first, found, found_after}
use Rattle.name_core.specs.Names.{are_listed, argument_names, attribute_names, attributes_of, call_names, case_names, constructors_in, declaration_names, definition_names, expression_names, function_names, functions_names, group_names, groups_of, has, names_in, node_names, nonterminal_names, parameter_names, plain_pairs, production_names, sort_names, taken_name, term_pairs, texts, types_names, unfit_name, unhad_name, unknown_name, wanted_names}
use Rattle.name_core.proofs.BodyInduction.{by_bodies}
use Rattle.name_core.proofs.Branchings.{branches-Fork, branches-Leaf}
use Rattle.name_core.proofs.Having.{has-append, place-none}
use Rattle.name_core.proofs.LimitFacts.{no_items}
use Rattle.name_core.proofs.Nones.{all_none, bad_if_none, found_all, none_append}
use Rattle.name_core.proofs.WalkLaws.{nodes-Fork, nodes-Leaf}

some_none : (fault : Fault) → Some fault ≡ None → ⊥
some_none fault h = cc

true_false : true ≡ false → ⊥
true_false h = cc

append_nil : {X : Type 0} (xs : List X) → xs ++ [] ≡ xs
append_nil [] = refl
append_nil (x ∷ xs) = ap (λ ys. x ∷ ys) (append_nil xs)

not_false : (b : Bool) → not b ≡ false → b ≡ true
not_false true h = refl
not_false false h = sym h

or_left : (a b : Bool) → (a || b) ≡ false → a ≡ false
or_left false b h = refl
or_left true b h = h

or_right : (a b : Bool) → (a || b) ≡ false → b ≡ false
or_right false b h = h
or_right true b h = absurd (true_false h)

known : (names : List (List ℕ)) (name : Atom) → first (unknown_name names name) ≡ None → has names name.bytes ≡ true
known names name h = not_false (has names name.bytes) (bad_if_none (not (has names name.bytes)) 20 name.place h)

new : (names : List (List ℕ)) (name : Atom) → first (taken_name names name) ≡ None → has names name.bytes ≡ false
new names name h = bad_if_none (has names name.bytes) 21 name.place h

fit_new : (names : List (List ℕ)) (name : Atom) → first (unfit_name names name) ≡ None → has names name.bytes ≡ false
fit_new names name h = or_left (has names name.bytes) (is_reserved name.bytes) (bad_if_none (has names name.bytes || is_reserved name.bytes) 21 name.place h)

fit_free : (names : List (List ℕ)) (name : Atom) → first (unfit_name names name) ≡ None → is_reserved name.bytes ≡ false
fit_free names name h = or_right (has names name.bytes) (is_reserved name.bytes) (bad_if_none (has names name.bytes || is_reserved name.bytes) 21 name.place h)

-- names stay distinct, where each one that has no fault is none of those before it
distinct : {X : Type 0} (key : X → List ℕ) (old : List (List ℕ)) (find : List X → X → List Fault) →
    ((before : List X) (x : X) → first (find before x) ≡ None → has (old ++ map key before) (key x) ≡ false) →
    (before xs : List X) → AreDistinct (old ++ map key before) → first (found_after find before xs) ≡ None → AreDistinct (old ++ map key (before ++ xs))
distinct key old find each before [] apart h = subst (λ ys. AreDistinct (old ++ map key ys)) (sym (append_nil before)) apart
distinct key old find each before (x ∷ xs) apart h =
    let parts : (first (find before x) ≡ None) × (first (found_after find (before ++ x ∷ []) xs) ≡ None) = none_append (find before x) (found_after find (before ++ x ∷ []) xs) h in
    let one : (old ++ map key before) ++ key x ∷ [] ≡ old ++ map key (before ++ x ∷ []) =
    append_assoc old (map key before) (key x ∷ []) ∙ ap (λ ys. old ++ ys) (sym (map-append key before (x ∷ []))) in
    let more : AreDistinct ((old ++ map key before) ++ key x ∷ []) =
    AreDistinct-push (old ++ map key before) (key x) (place-none (old ++ map key before) (key x) (each before x parts.0)) apart in
    let all : AreDistinct (old ++ map key ((before ++ x ∷ []) ++ xs)) = distinct key old find each (before ++ x ∷ []) xs (subst AreDistinct one more) parts.1 in
    subst (λ ys. AreDistinct (old ++ map key ys)) (append_assoc before (x ∷ []) xs) all

distinct_all : {X : Type 0} (key : X → List ℕ) (old : List (List ℕ)) (find : List X → X → List Fault) →
    ((before : List X) (x : X) → first (find before x) ≡ None → has (old ++ map key before) (key x) ≡ false) →
    (xs : List X) → AreDistinct old → first (found find xs) ≡ None → AreDistinct (old ++ map key xs)
distinct_all key old find each xs apart h = distinct key old find each [] xs (subst AreDistinct (sym (append_nil old)) apart) h

-- Types and constructors.

pub record TypesNamed (sig : Declarations) (form : Sexpr) : Type 0 where
  pub new_types : AreDistinct (sig.types ++ texts (type_names form))
  pub free_types : All (λ name. has sort_names name.bytes ≡ false) (type_names form)
  pub new_constructors : AreDistinct (constructor_names sig.constructors ++ map (λ con. con.name.bytes) (constructors_in form))
  pub known_args : All (λ con. All (λ name. has (sig.types ++ texts (type_names form)) name.bytes ≡ true) con.variables) (constructors_in form)

abbrev type_find : Declarations → List Atom → Atom → List Fault
type_find sig before name = taken_name (sig.types ++ texts before ++ sort_names) name

abbrev con_find : Declarations → List Atom → List Pattern → Pattern → List Fault
con_find sig types before con =
    taken_name (constructor_names sig.constructors ++ map (λ c. c.name.bytes) before) con.name ++ flat_map (unknown_name (sig.types ++ texts types)) con.variables

con_parts : (sig : Declarations) (types : List Atom) (before : List Pattern) (con : Pattern) → first (con_find sig types before con) ≡ None →
    (first (taken_name (constructor_names sig.constructors ++ map (λ (c : Pattern). c.name.bytes) before) con.name) ≡ None) × (first (flat_map (unknown_name (sig.types ++ texts types)) con.variables) ≡ None)
con_parts sig types before con h =
    none_append (taken_name (constructor_names sig.constructors ++ map (λ (c : Pattern). c.name.bytes) before) con.name) (flat_map (unknown_name (sig.types ++ texts types)) con.variables) h

type_new : (sig : Declarations) (before : List Atom) (name : Atom) → first (type_find sig before name) ≡ None →
    (has (sig.types ++ texts before) name.bytes ≡ false) × (has sort_names name.bytes ≡ false)
type_new sig before name h =
    let none : (has (sig.types ++ texts before) name.bytes || has sort_names name.bytes) ≡ false =
    sym (has-append (sig.types ++ texts before) sort_names name.bytes) ∙ new (sig.types ++ texts before ++ sort_names) name h in
    (or_left (has (sig.types ++ texts before) name.bytes) (has sort_names name.bytes) none, or_right (has (sig.types ++ texts before) name.bytes) (has sort_names name.bytes) none)

pub types_named : (sig : Declarations) (form : Sexpr) → AreDistinct sig.types → AreDistinct (constructor_names sig.constructors) → first (types_names sig form) ≡ None → TypesNamed sig form
types_named sig form types_apart cons_apart h =
    let parts : (first (found (type_find sig) (type_names form)) ≡ None) × (first (found (con_find sig (type_names form)) (constructors_in form)) ≡ None) =
    none_append (found (type_find sig) (type_names form)) (found (con_find sig (type_names form)) (constructors_in form)) h in
    record {
      new_types = distinct_all (λ (a : Atom). a.bytes) sig.types (type_find sig) (λ before name none. (type_new sig before name none).0) (type_names form) types_apart parts.0;
      free_types = found_all (type_find sig) (λ (name : Atom). has sort_names name.bytes ≡ false) (λ before name none. (type_new sig before name none).1) [] (type_names form) parts.0;
      new_constructors = distinct_all (λ (c : Pattern). c.name.bytes) (constructor_names sig.constructors) (con_find sig (type_names form))
          (λ before con none. new (constructor_names sig.constructors ++ map (λ (c : Pattern). c.name.bytes) before) con.name (con_parts sig (type_names form) before con none).0) (constructors_in form) cons_apart parts.1;
      known_args = found_all (con_find sig (type_names form)) (λ (con : Pattern). All (λ (name : Atom). has (sig.types ++ texts (type_names form)) name.bytes ≡ true) con.variables)
          (λ before con none. all_none (unknown_name (sig.types ++ texts (type_names form))) (λ (name : Atom). has (sig.types ++ texts (type_names form)) name.bytes ≡ true)
          (known (sig.types ++ texts (type_names form))) con.variables (con_parts sig (type_names form) before con none).1) [] (constructors_in form) parts.1;
    }

-- Relations.

abbrev pub IsFree : List ℕ → Type 0
IsFree name = is_reserved name ≡ false

pub record DeclarationNamed (sig : Declarations) (f : Function) : Type 0 where
  pub free : IsFree f.declaration.name.bytes
  pub new_params : AreDistinct (names_in f.declaration.params)
  pub free_params : All (λ pair. IsFree pair.name.bytes) f.declaration.params
  pub known_sorts : All (λ pair. has (sig.types ++ sort_names) pair.sort.bytes ≡ true) f.declaration.params

-- a branch whose body has these names around it
pub record BranchNamed (relations scope : List (List ℕ)) (branch : Branch) : Type 0 where
  pub distinct : AreDistinct (scope ++ names_in branch.around)
  pub free : All (λ pair. IsFree pair.name.bytes) branch.around
  pub sorts : All (λ pair. has sort_names pair.sort.bytes ≡ true) branch.around
  pub known : All (λ e. first (expression_names relations (scope ++ names_in branch.around) e) ≡ None) branch.leaf.atoms

pub record CaseNamed (sig : Declarations) (relations scope : List (List ℕ)) (case : Case) : Type 0 where
  pub known : has (constructor_names sig.constructors) case.pattern.name.bytes ≡ true
  pub distinct : AreDistinct (scope ++ texts case.pattern.variables)
  pub free : All (λ name. IsFree name.bytes) case.pattern.variables
  pub branches : All (BranchNamed relations (scope ++ texts case.pattern.variables)) (branches_of case)

pub record DefinitionNamed (sig : Declarations) (relations : List (List ℕ)) (f : Function) : Type 0 where
  pub listed : are_listed f ≡ true
  pub matched : has (names_in (term_pairs f.declaration.params)) f.definition.matched.bytes ≡ true
  pub cases : All (CaseNamed sig relations (names_in f.declaration.params)) f.definition.cases
  pub new_attributes : AreDistinct (texts (attributes_of f.definition))
  pub plain_attributes : All (λ name. has (names_in (plain_pairs f.declaration.params)) name.bytes ≡ true) (attributes_of f.definition)

pub record FunctionsNamed (sig : Declarations) (functions : List Function) : Type 0 where
  pub new_relations : AreDistinct (relation_names sig.relations ++ function_names functions)
  pub declarations : All (DeclarationNamed sig) functions
  pub definitions : All (DefinitionNamed sig (relation_names sig.relations ++ function_names functions)) functions

abbrev Param : Declarations → Pair → Type 0
Param sig pair = IsFree pair.name.bytes × (has (sig.types ++ sort_names) pair.sort.bytes ≡ true)

not_below : (n : ℕ) → n < 0 → ⊥
not_below n h = omega arith

nothing_apart : AreDistinct []
nothing_apart i j d before within = absurd (not_below j within)

param_parts : (sig : Declarations) (before : List Pair) (pair : Pair) → first (parameter_names sig before pair) ≡ None →
    (first (unfit_name (names_in before) pair.name) ≡ None) × (first (unknown_name (sig.types ++ sort_names) pair.sort) ≡ None)
param_parts sig before pair h = none_append (unfit_name (names_in before) pair.name) (unknown_name (sig.types ++ sort_names) pair.sort) h

declaration_parts : (sig : Declarations) (before : List Function) (f : Function) → first (declaration_names sig before f) ≡ None →
    (first (unfit_name (relation_names sig.relations ++ function_names before) f.declaration.name) ≡ None) × (first (found (parameter_names sig) f.declaration.params) ≡ None)
declaration_parts sig before f h = none_append (unfit_name (relation_names sig.relations ++ function_names before) f.declaration.name) (found (parameter_names sig) f.declaration.params) h

declaration_named : (sig : Declarations) (before : List Function) (f : Function) → first (declaration_names sig before f) ≡ None → DeclarationNamed sig f
declaration_named sig before f h =
    let parts : (first (unfit_name (relation_names sig.relations ++ function_names before) f.declaration.name) ≡ None) × (first (found (parameter_names sig) f.declaration.params) ≡ None) =
    declaration_parts sig before f h in
    record {
      free = fit_free (relation_names sig.relations ++ function_names before) f.declaration.name parts.0;
      new_params = distinct_all (λ (pair : Pair). pair.name.bytes) [] (parameter_names sig) (λ earlier pair none. fit_new (names_in earlier) pair.name (param_parts sig earlier pair none).0) f.declaration.params nothing_apart parts.1;
      free_params = found_all (parameter_names sig) (λ (pair : Pair). IsFree pair.name.bytes) (λ earlier pair none. fit_free (names_in earlier) pair.name (param_parts sig earlier pair none).0) [] f.declaration.params parts.1;
      known_sorts = found_all (parameter_names sig) (λ (pair : Pair). has (sig.types ++ sort_names) pair.sort.bytes ≡ true)
          (λ earlier pair none. known (sig.types ++ sort_names) pair.sort (param_parts sig earlier pair none).1) [] f.declaration.params parts.1;
    }

-- Bodies.

-- what is known of the existentials around a node
record Around (scope : List (List ℕ)) (around : List Pair) : Type 0 where
  distinct : AreDistinct (scope ++ names_in around)
  free : All (λ pair. IsFree pair.name.bytes) around
  sorts : All (λ pair. has sort_names pair.sort.bytes ≡ true) around

one_around : (relations scope : List (List ℕ)) (around : List Pair) (pair : Pair) → Around scope around → first (node_names relations scope (bound around pair)) ≡ None → Around scope (around ++ pair ∷ [])
one_around relations scope around pair before h =
    let parts : (first (unfit_name (scope ++ names_in around) pair.name) ≡ None) × (first (unknown_name sort_names pair.sort) ≡ None) =
    none_append (unfit_name (scope ++ names_in around) pair.name) (unknown_name sort_names pair.sort) h in
    let one : (scope ++ names_in around) ++ pair.name.bytes ∷ [] ≡ scope ++ names_in (around ++ pair ∷ []) =
    append_assoc scope (names_in around) (pair.name.bytes ∷ []) ∙ ap (λ ys. scope ++ ys) (sym (map-append (λ (p : Pair). p.name.bytes) around (pair ∷ []))) in
    record {
      distinct = subst AreDistinct one
          (AreDistinct-push (scope ++ names_in around) pair.name.bytes (place-none (scope ++ names_in around) pair.name.bytes (fit_new (scope ++ names_in around) pair.name parts.0)) before.distinct);
      free = All-append (λ (p : Pair). IsFree p.name.bytes) around (pair ∷ []) before.free
          (All-cons (λ (p : Pair). IsFree p.name.bytes) pair [] (fit_free (scope ++ names_in around) pair.name parts.0) (All-nil (λ (p : Pair). IsFree p.name.bytes)));
      sorts = All-append (λ (p : Pair). has sort_names p.sort.bytes ≡ true) around (pair ∷ []) before.sorts
          (All-cons (λ (p : Pair). has sort_names p.sort.bytes ≡ true) pair [] (known sort_names pair.sort parts.1) (All-nil (λ (p : Pair). has sort_names p.sort.bytes ≡ true)));
    }

more_around : (relations scope : List (List ℕ)) (around pairs : List Pair) → Around scope around → first (flat_map (node_names relations scope) (bound_after around pairs)) ≡ None → Around scope (around ++ pairs)
more_around relations scope around [] before h = subst (Around scope) (sym (append_nil around)) before
more_around relations scope around (pair ∷ pairs) before h =
    let parts : (first (node_names relations scope (bound around pair)) ≡ None) × (first (flat_map (node_names relations scope) (bound_after (around ++ pair ∷ []) pairs)) ≡ None) =
    none_append (node_names relations scope (bound around pair)) (flat_map (node_names relations scope) (bound_after (around ++ pair ∷ []) pairs)) h in
    subst (Around scope) (append_assoc around (pair ∷ []) pairs)
    (more_around relations scope (around ++ pair ∷ []) pairs (one_around relations scope around pair before parts.0) parts.1)

record BodyNamed (relations scope : List (List ℕ)) (b : Body) : Type 0 where
  branches : (around : List Pair) → Around scope around → first (flat_map (node_names relations scope) (nodes_within b around)) ≡ None → All (BranchNamed relations scope) (branches_within b around)

leaf_named : (relations scope : List (List ℕ)) (l : Leaf) → BodyNamed relations scope (body.Leaf l)
leaf_named relations scope l = record {
  branches = λ around before h.
      let none : first (flat_map (node_names relations scope) (leaf around l ∷ [])) ≡ None = sym (ap (λ ns. first (flat_map (node_names relations scope) ns)) (nodes-Leaf l around)) ∙ h in
      let parts : (first (node_names relations scope (leaf around l)) ≡ None) × (first [] ≡ None) = none_append (node_names relations scope (leaf around l)) [] none in
      let here : BranchNamed relations scope (record { around = around; leaf = l }) = record {
        distinct = before.distinct;
        free = before.free;
        sorts = before.sorts;
        known = all_none (expression_names relations (scope ++ names_in around)) (λ (e : Exp). first (expression_names relations (scope ++ names_in around) e) ≡ None) (λ e is. is) l.atoms parts.0;
      } in
      subst (All (BranchNamed relations scope)) (sym (branches-Leaf l around))
      (All-cons (BranchNamed relations scope) (record { around = around; leaf = l }) [] here (All-nil (BranchNamed relations scope)));
}

bodies_named : (relations scope : List (List ℕ)) (around : List Pair) (bodies : List Body) → All (BodyNamed relations scope) bodies → Around scope around →
    first (flat_map (node_names relations scope) (flat_map (λ b. nodes_within b around) bodies)) ≡ None → All (BranchNamed relations scope) (flat_map (λ b. branches_within b around) bodies)
bodies_named relations scope around [] all before h = All-nil (BranchNamed relations scope)
bodies_named relations scope around (b ∷ bs) all before h =
    let parts : (first (flat_map (node_names relations scope) (nodes_within b around)) ≡ None) × (first (flat_map (node_names relations scope) (flat_map (λ (x : Body). nodes_within x around) bs)) ≡ None) =
    none_append (flat_map (node_names relations scope) (nodes_within b around)) (flat_map (node_names relations scope) (flat_map (λ (x : Body). nodes_within x around) bs))
    (sym (ap first (flat_map-append (node_names relations scope) (nodes_within b around) (flat_map (λ (x : Body). nodes_within x around) bs))) ∙ h) in
    All-append (BranchNamed relations scope) (branches_within b around) (flat_map (λ (x : Body). branches_within x around) bs)
    ((All-head (BodyNamed relations scope) b bs all).branches around before parts.0)
    (bodies_named relations scope around bs (All-tail (BodyNamed relations scope) b bs all) before parts.1)

fork_named : (relations scope : List (List ℕ)) (fork : Scope) → All (BodyNamed relations scope) fork.bodies → BodyNamed relations scope (body.Fork fork)
fork_named relations scope fork all = record {
  branches = λ around before h.
      let parts : (first (flat_map (node_names relations scope) (bound_after around fork.pairs)) ≡ None) ×
      (first (flat_map (node_names relations scope) (flat_map (λ (x : Body). nodes_within x (around ++ fork.pairs)) fork.bodies)) ≡ None) =
      none_append (flat_map (node_names relations scope) (bound_after around fork.pairs)) (flat_map (node_names relations scope) (flat_map (λ (x : Body). nodes_within x (around ++ fork.pairs)) fork.bodies))
      (sym (ap first (flat_map-append (node_names relations scope) (bound_after around fork.pairs) (flat_map (λ (x : Body). nodes_within x (around ++ fork.pairs)) fork.bodies)))
      ∙ sym (ap (λ ns. first (flat_map (node_names relations scope) ns)) (nodes-Fork fork around)) ∙ h) in
      subst (All (BranchNamed relations scope)) (sym (branches-Fork fork around))
      (bodies_named relations scope (around ++ fork.pairs) fork.bodies all (more_around relations scope around fork.pairs before parts.0) parts.1);
}

body_named : (relations scope : List (List ℕ)) (b : Body) → BodyNamed relations scope b
body_named relations scope = by_bodies (BodyNamed relations scope) (leaf_named relations scope) (fork_named relations scope)

-- Cases and definitions.

abbrev variable_find : List (List ℕ) → List Atom → Atom → List Fault
variable_find scope before variable = unfit_name (scope ++ texts before) variable

case_named : (sig : Declarations) (relations scope : List (List ℕ)) → AreDistinct scope → (case : Case) → first (case_names sig relations scope case) ≡ None → CaseNamed sig relations scope case
case_named sig relations scope apart case h =
    let parts : (first (unknown_name (constructor_names sig.constructors) case.pattern.name ++ found (variable_find scope) case.pattern.variables) ≡ None) ×
    (first (flat_map (node_names relations (scope ++ texts case.pattern.variables)) (nodes_of case)) ≡ None) =
    none_append (unknown_name (constructor_names sig.constructors) case.pattern.name ++ found (variable_find scope) case.pattern.variables)
    (flat_map (node_names relations (scope ++ texts case.pattern.variables)) (nodes_of case)) h in
    let heads : (first (unknown_name (constructor_names sig.constructors) case.pattern.name) ≡ None) × (first (found (variable_find scope) case.pattern.variables) ≡ None) =
    none_append (unknown_name (constructor_names sig.constructors) case.pattern.name) (found (variable_find scope) case.pattern.variables) parts.0 in
    let names : AreDistinct (scope ++ texts case.pattern.variables) =
    distinct_all (λ (a : Atom). a.bytes) scope (variable_find scope) (λ before variable none. fit_new (scope ++ texts before) variable none) case.pattern.variables apart heads.1 in
    record {
      known = known (constructor_names sig.constructors) case.pattern.name heads.0;
      distinct = names;
      free = found_all (variable_find scope) (λ (a : Atom). IsFree a.bytes) (λ before variable none. fit_free (scope ++ texts before) variable none) [] case.pattern.variables heads.1;
      branches = (body_named relations (scope ++ texts case.pattern.variables) case.body).branches []
          (record {
            distinct = subst AreDistinct (sym (append_nil (scope ++ texts case.pattern.variables))) names;
            free = All-nil (λ (p : Pair). IsFree p.name.bytes);
            sorts = All-nil (λ (p : Pair). has sort_names p.sort.bytes ≡ true);
          }) parts.1;
    }

attribute_parts : (params : List Pair) (before : List Atom) (name : Atom) → first (attribute_names params before name) ≡ None →
    (first (unknown_name (names_in (plain_pairs params)) name) ≡ None) × (first (taken_name (texts before) name) ≡ None)
attribute_parts params before name h = none_append (unknown_name (names_in (plain_pairs params)) name) (taken_name (texts before) name) h

definition_named : (sig : Declarations) (relations : List (List ℕ)) (f : Function) → AreDistinct (names_in f.declaration.params) → first (definition_names sig relations f) ≡ None → DefinitionNamed sig relations f
definition_named sig relations f apart h =
    let last : (first ((bad_if (not (are_listed f)) 20 f.definition.place ++ unknown_name (names_in (term_pairs f.declaration.params)) f.definition.matched)
    ++ flat_map (case_names sig relations (names_in f.declaration.params)) f.definition.cases) ≡ None) × (first (found (attribute_names f.declaration.params) (attributes_of f.definition)) ≡ None) =
    none_append ((bad_if (not (are_listed f)) 20 f.definition.place ++ unknown_name (names_in (term_pairs f.declaration.params)) f.definition.matched)
    ++ flat_map (case_names sig relations (names_in f.declaration.params)) f.definition.cases) (found (attribute_names f.declaration.params) (attributes_of f.definition)) h in
    let inner : (first (bad_if (not (are_listed f)) 20 f.definition.place ++ unknown_name (names_in (term_pairs f.declaration.params)) f.definition.matched) ≡ None) ×
    (first (flat_map (case_names sig relations (names_in f.declaration.params)) f.definition.cases) ≡ None) =
    none_append (bad_if (not (are_listed f)) 20 f.definition.place ++ unknown_name (names_in (term_pairs f.declaration.params)) f.definition.matched)
    (flat_map (case_names sig relations (names_in f.declaration.params)) f.definition.cases) last.0 in
    let heads : (first (bad_if (not (are_listed f)) 20 f.definition.place) ≡ None) × (first (unknown_name (names_in (term_pairs f.declaration.params)) f.definition.matched) ≡ None) =
    none_append (bad_if (not (are_listed f)) 20 f.definition.place) (unknown_name (names_in (term_pairs f.declaration.params)) f.definition.matched) inner.0 in
    record {
      listed = not_false (are_listed f) (bad_if_none (not (are_listed f)) 20 f.definition.place heads.0);
      matched = known (names_in (term_pairs f.declaration.params)) f.definition.matched heads.1;
      cases = all_none (case_names sig relations (names_in f.declaration.params)) (CaseNamed sig relations (names_in f.declaration.params))
          (case_named sig relations (names_in f.declaration.params) apart) f.definition.cases inner.1;
      new_attributes = distinct_all (λ (a : Atom). a.bytes) [] (attribute_names f.declaration.params)
          (λ before name none. new (texts before) name (attribute_parts f.declaration.params before name none).1) (attributes_of f.definition) nothing_apart last.1;
      plain_attributes = found_all (attribute_names f.declaration.params) (λ (a : Atom). has (names_in (plain_pairs f.declaration.params)) a.bytes ≡ true)
          (λ before name none. known (names_in (plain_pairs f.declaration.params)) name (attribute_parts f.declaration.params before name none).0) [] (attributes_of f.definition) last.1;
    }

all_definitions : (sig : Declarations) (relations : List (List ℕ)) (functions : List Function) → All (DeclarationNamed sig) functions → first (flat_map (definition_names sig relations) functions) ≡ None →
    All (DefinitionNamed sig relations) functions
all_definitions sig relations [] all h = All-nil (DefinitionNamed sig relations)
all_definitions sig relations (f ∷ fs) all h =
    let parts : (first (definition_names sig relations f) ≡ None) × (first (flat_map (definition_names sig relations) fs) ≡ None) = none_append (definition_names sig relations f) (flat_map (definition_names sig relations) fs) h in
    All-cons (DefinitionNamed sig relations) f fs
    (definition_named sig relations f (All-head (DeclarationNamed sig) f fs all).new_params parts.0)
    (all_definitions sig relations fs (All-tail (DeclarationNamed sig) f fs all) parts.1)

pub functions_named : (sig : Declarations) (functions : List Function) → AreDistinct (relation_names sig.relations) → first (functions_names sig functions) ≡ None → FunctionsNamed sig functions
functions_named sig functions apart h =
    let parts : (first (found (declaration_names sig) functions) ≡ None) × (first (flat_map (definition_names sig (relation_names sig.relations ++ function_names functions)) functions) ≡ None) =
    none_append (found (declaration_names sig) functions) (flat_map (definition_names sig (relation_names sig.relations ++ function_names functions)) functions) h in
    let all : All (DeclarationNamed sig) functions = found_all (declaration_names sig) (DeclarationNamed sig) (declaration_named sig) [] functions parts.0 in
    record {
      new_relations = distinct_all (λ (f : Function). f.declaration.name.bytes) (relation_names sig.relations) (declaration_names sig)
          (λ before f none. fit_new (relation_names sig.relations ++ function_names before) f.declaration.name (declaration_parts sig before f none).0) functions apart parts.0;
      declarations = all;
      definitions = all_definitions sig (relation_names sig.relations ++ function_names functions) functions all parts.1;
    }

-- Grammars.

-- a production of right names: a constructor, and nonterminals as its arguments
pub record ProductionNamed (nonterminals constructors : List (List ℕ)) (form : Sexpr) : Type 0 where
  pub known : has constructors (name_of form).bytes ≡ true
  pub args : All (λ arg. has nonterminals (atom_of arg).bytes ≡ true) (others_of form)

had_by : (a b : Bool) (one other : Fault) → first (if a then one ∷ [] else if b then [] else other ∷ []) ≡ None → b ≡ true
had_by true b one other h = absurd (some_none one h)
had_by false true one other h = refl
had_by false false one other h = absurd (some_none other h)

had : (wanted others : List (List ℕ)) (form : Sexpr) → first (unhad_name wanted others form) ≡ None → has wanted (atom_of form).bytes ≡ true
had wanted others form h =
    had_by (is_none (symbol_of form)) (has wanted (atom_of form).bytes) (refusal (place_of form) 13) (refusal (place_of form) (if has others (atom_of form).bytes then 13 else 20)) h

production_by : (nonterminals constructors : List (List ℕ)) (form : Sexpr) (b : Bool) → is_some (symbol_of form) ≡ b →
    first (if b then unhad_name constructors nonterminals form
    else unknown_name constructors (atom_of (item_of 0 form)) ++ flat_map (unhad_name nonterminals constructors) (others_of form)) ≡ None →
    ProductionNamed nonterminals constructors form
production_by nonterminals constructors form true is h =
    let named : name_of form ≡ atom_of form = ap (λ b. if b then atom_of form else atom_of (item_of 0 form)) is in
    let none : others_of form ≡ [] = ap (λ xs. drop 1 xs) (no_items (out-Sexpr form) is) in
    record {
      known = subst (λ (a : Atom). has constructors a.bytes ≡ true) (sym named) (had constructors nonterminals form h);
      args = subst (All (λ (arg : Sexpr). has nonterminals (atom_of arg).bytes ≡ true)) (sym none) (All-nil (λ (arg : Sexpr). has nonterminals (atom_of arg).bytes ≡ true));
    }
production_by nonterminals constructors form false is h =
    let parts : (first (unknown_name constructors (atom_of (item_of 0 form))) ≡ None) × (first (flat_map (unhad_name nonterminals constructors) (others_of form)) ≡ None) =
    none_append (unknown_name constructors (atom_of (item_of 0 form))) (flat_map (unhad_name nonterminals constructors) (others_of form)) h in
    let named : name_of form ≡ atom_of (item_of 0 form) = ap (λ b. if b then atom_of form else atom_of (item_of 0 form)) is in
    record {
      known = subst (λ (a : Atom). has constructors a.bytes ≡ true) (sym named) (known constructors (atom_of (item_of 0 form)) parts.0);
      args = all_none (unhad_name nonterminals constructors) (λ (arg : Sexpr). has nonterminals (atom_of arg).bytes ≡ true) (had nonterminals constructors) (others_of form) parts.1;
    }

production_named : (nonterminals constructors : List (List ℕ)) (form : Sexpr) → first (production_names nonterminals constructors form) ≡ None → ProductionNamed nonterminals constructors form
production_named nonterminals constructors form h = production_by nonterminals constructors form (is_some (symbol_of form)) refl h

pub record GroupNamed (sig : Declarations) (nonterminals : List (List ℕ)) (group : Pair × Sexpr) : Type 0 where
  pub name : has (group.0.name.bytes ∷ []) (atom_of (item_of 0 group.1)).bytes ≡ true
  pub type : has sig.types (atom_of (item_of 1 group.1)).bytes ≡ true
  pub productions : All (ProductionNamed nonterminals (constructor_names sig.constructors)) (items_at 2 group.1)

pub record WantedNamed (sig : Declarations) (form : Sexpr) : Type 0 where
  pub type : has sig.types (atom_of (item_of 3 form)).bytes ≡ true
  pub new : AreDistinct (names_in (nonterminals_of form))
  pub others : All (λ pair. has (constructor_names sig.constructors) pair.name.bytes ≡ false) (nonterminals_of form)
  pub types : All (λ pair. has sig.types pair.sort.bytes ≡ true) (nonterminals_of form)
  pub groups : All (GroupNamed sig (names_in (nonterminals_of form))) (groups_of form)

nonterminal_parts : (sig : Declarations) (before : List Pair) (pair : Pair) → first (nonterminal_names sig before pair) ≡ None →
    (first (taken_name (names_in before ++ constructor_names sig.constructors) pair.name) ≡ None) × (first (unknown_name sig.types pair.sort) ≡ None)
nonterminal_parts sig before pair h = none_append (taken_name (names_in before ++ constructor_names sig.constructors) pair.name) (unknown_name sig.types pair.sort) h

nonterminal_new : (sig : Declarations) (before : List Pair) (pair : Pair) → first (nonterminal_names sig before pair) ≡ None →
    (has (names_in before) pair.name.bytes ≡ false) × (has (constructor_names sig.constructors) pair.name.bytes ≡ false)
nonterminal_new sig before pair h =
    let none : (has (names_in before) pair.name.bytes || has (constructor_names sig.constructors) pair.name.bytes) ≡ false =
    sym (has-append (names_in before) (constructor_names sig.constructors) pair.name.bytes) ∙ new (names_in before ++ constructor_names sig.constructors) pair.name (nonterminal_parts sig before pair h).0 in (
      or_left (has (names_in before) pair.name.bytes) (has (constructor_names sig.constructors) pair.name.bytes) none,
      or_right (has (names_in before) pair.name.bytes) (has (constructor_names sig.constructors) pair.name.bytes) none,
    )

group_named : (sig : Declarations) (nonterminals : List (List ℕ)) (group : Pair × Sexpr) → first (group_names sig nonterminals group) ≡ None → GroupNamed sig nonterminals group
group_named sig nonterminals (pair, group) h =
    let parts : (first (unknown_name (pair.name.bytes ∷ []) (atom_of (item_of 0 group)) ++ unknown_name sig.types (atom_of (item_of 1 group))) ≡ None) ×
    (first (flat_map (production_names nonterminals (constructor_names sig.constructors)) (items_at 2 group)) ≡ None) =
    none_append (unknown_name (pair.name.bytes ∷ []) (atom_of (item_of 0 group)) ++ unknown_name sig.types (atom_of (item_of 1 group)))
    (flat_map (production_names nonterminals (constructor_names sig.constructors)) (items_at 2 group)) h in
    let heads : (first (unknown_name (pair.name.bytes ∷ []) (atom_of (item_of 0 group))) ≡ None) × (first (unknown_name sig.types (atom_of (item_of 1 group))) ≡ None) =
    none_append (unknown_name (pair.name.bytes ∷ []) (atom_of (item_of 0 group))) (unknown_name sig.types (atom_of (item_of 1 group))) parts.0 in
    record {
      name = known (pair.name.bytes ∷ []) (atom_of (item_of 0 group)) heads.0;
      type = known sig.types (atom_of (item_of 1 group)) heads.1;
      productions = all_none (production_names nonterminals (constructor_names sig.constructors)) (ProductionNamed nonterminals (constructor_names sig.constructors)) (production_named nonterminals (constructor_names sig.constructors)) (items_at 2 group) parts.1;
    }

pub wanted_named : (sig : Declarations) (form : Sexpr) → first (wanted_names sig form) ≡ None → WantedNamed sig form
wanted_named sig form h =
    let parts : (first (unknown_name sig.types (atom_of (item_of 3 form)) ++ found (nonterminal_names sig) (nonterminals_of form)) ≡ None) ×
    (first (flat_map (group_names sig (names_in (nonterminals_of form))) (groups_of form)) ≡ None) =
    none_append (unknown_name sig.types (atom_of (item_of 3 form)) ++ found (nonterminal_names sig) (nonterminals_of form)) (flat_map (group_names sig (names_in (nonterminals_of form))) (groups_of form)) h in
    let heads : (first (unknown_name sig.types (atom_of (item_of 3 form))) ≡ None) × (first (found (nonterminal_names sig) (nonterminals_of form)) ≡ None) =
    none_append (unknown_name sig.types (atom_of (item_of 3 form))) (found (nonterminal_names sig) (nonterminals_of form)) parts.0 in
    record {
      type = known sig.types (atom_of (item_of 3 form)) heads.0;
      new = distinct_all (λ (pair : Pair). pair.name.bytes) [] (nonterminal_names sig) (λ before pair none. (nonterminal_new sig before pair none).0) (nonterminals_of form) nothing_apart heads.1;
      others = found_all (nonterminal_names sig) (λ (pair : Pair). has (constructor_names sig.constructors) pair.name.bytes ≡ false) (λ before pair none. (nonterminal_new sig before pair none).1) [] (nonterminals_of form) heads.1;
      types = found_all (nonterminal_names sig) (λ (pair : Pair). has sig.types pair.sort.bytes ≡ true) (λ before pair none. known sig.types pair.sort (nonterminal_parts sig before pair none).1) [] (nonterminals_of form) heads.1;
      groups = all_none (group_names sig (names_in (nonterminals_of form))) (GroupNamed sig (names_in (nonterminals_of form))) (group_named sig (names_in (nonterminals_of form))) (groups_of form) parts.1;
    }

-- Examples.

pub calls_named : (sig : Declarations) (wanted : List ℕ) (calls : List Application) → first (flat_map (call_names sig wanted) calls) ≡ None →
    All (λ call. has (relation_names sig.relations) call.head.bytes ≡ true) calls
calls_named sig wanted calls h =
    all_none (call_names sig wanted) (λ (call : Application). has (relation_names sig.relations) call.head.bytes ≡ true)
    (λ call none. known (relation_names sig.relations) call.head (none_append (unknown_name (relation_names sig.relations) call.head) (flat_map (argument_names wanted) call.args) none).0) calls h
