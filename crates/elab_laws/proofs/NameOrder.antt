-- The wrong names of a command of right shape are found from the left.
use Rattle.std.proofs.Common.{◌≡◌, ℕ, ◌+◌, ◌*◌, ◌<◌, ◌≤◌, Bool, Option, Some, None, is_some, List, [], ◌∷◌, ◌++◌, map, drop, refl, sym, ap, ◌∙◌, subst, rules, arith}
use Rattle.std.specs.Prelude.{All, not, ◌||◌, unwrap_or}
use Rattle.std.specs.List.{flat_map}
use Rattle.std.specs.Option.{option_map_or}
use Rattle.std.proofs.lemmas.List.Elements.{All-head, All-tail}
use Rattle.sig_core.specs.Names.{is_reserved}
use Rattle.sig_core.specs.Signatures.{Declarations}
use Rattle.sig_core.specs.WellFormed.{constructor_names, relation_names}
use Rattle.sexpr_core.specs.declared.form.Atom.{Atom}
use Rattle.sexpr_core.specs.declared.form.Nest.{Nest}
use Rattle.sexpr_core.specs.declared.form.Sexpr.{Sexpr}
use Rattle.sexpr_core.specs.declared.form.Sexpr as sexpr
use Rattle.sexpr_core.specs.Access.{place_of}
use Rattle.syntax_core.specs.declared.commands.Head.TheVariants as head
use Rattle.syntax_core.specs.declared.fault.Fault.{Fault}
use Rattle.syntax_core.specs.declared.roles.Due.TheVariants.{One}
use Rattle.syntax_core.specs.declared.roles.Role.TheVariants as role
use Rattle.syntax_core.specs.declared.syntax.Application.{Application}
use Rattle.syntax_core.specs.declared.syntax.Case.{Case}
use Rattle.syntax_core.specs.declared.syntax.Exp.{Exp}
use Rattle.syntax_core.specs.declared.syntax.Exp.{the_lemmas as exp_lemmas}
use Rattle.syntax_core.specs.declared.syntax.Exp as exp
use Rattle.syntax_core.specs.declared.syntax.Function.{Function}
use Rattle.syntax_core.specs.declared.syntax.Negative.{Negative}
use Rattle.syntax_core.specs.declared.syntax.Pair.{Pair}
use Rattle.syntax_core.specs.declared.syntax.Pattern.{Pattern}
use Rattle.syntax_core.specs.Literals.{literal_named}
use Rattle.syntax_core.specs.Roles.{operator_named}
use Rattle.syntax_core.specs.Shapes.{HasShape}
use Rattle.syntax_core.specs.Syntax.{application_of, expression_of, functions_of, head_among, nameless, negated_numeral, pattern_of, symbol_of_exp}
use Rattle.syntax_core.proofs.ListExps.{expression-Keyword, expression-List, expression-Numeral, expression-Symbol, expression-Text, symbol-List, symbol-Numeral, symbol-Symbol}
use Rattle.syntax_core.proofs.Misfitting.{parts-List}
use Rattle.name_core.specs.Bodies.{Node, bound, leaf, nodes_of}
use Rattle.name_core.specs.Faults.{bad_if, first, found}
use Rattle.name_core.specs.Names.{are_listed, attribute_names, attributes_of, case_names, declaration_names, definition_names, expression_names, function_names, functions_names, has, names_in, node_names, parameter_names, plain_pairs, sort_names, taken_name, term_pairs, texts, unfit_name, unknown_name}
use Rattle.making_core.proofs.FormInduction.{by_items}
use Rattle.making_core.proofs.ShapedForms.{at-Keyword, at-List, at-Symbol, at-Text, fit_of}
use Rattle.elab_laws.specs.Places.{places_in}
use Rattle.elab_laws.proofs.Chains.{Chain, InOrder, Such, chain_lower, faults_after, faults_each, nothing, order_joined, order_lower, span_place, spans_chain}
use Rattle.elab_laws.proofs.InPlaces.{AtomIn, CaseIn, ExpIn, NodeIn, PairIn, PatternIn, exps_chain, pattern_in}
use Rattle.elab_laws.proofs.LimitOrder.{Command, Ranked, functions_in, wider}
use Rattle.elab_laws.proofs.PlacedCommands.{Declared, Defined}
use Rattle.elab_laws.proofs.Rising.{bounds, ordered_if, ordered_joined}
use Rattle.elab_laws.proofs.SpelledPlaces.{SpanAll, Spans, level_within}

-- One node.

pub bad_one : (test : Bool) (reason place low : ℕ) → reason < 256 → low ≤ place → InOrder low (bad_if test reason place) (place + 1)
bad_one test reason place low r from = ordered_if test reason place (65536 * low) (65536 * (place + 1)) r (omega (arith, from)) (omega (arith, r))

pub bad_within : (test : Bool) (reason place low high : ℕ) → reason < 256 → low ≤ place → place < high → InOrder low (bad_if test reason place) high
bad_within test reason place low high r from to = wider low (bad_if test reason place) (place + 1) high (omega (arith, to)) (bad_one test reason place low r from)

pub unknown_order : (known : List (List ℕ)) (low : ℕ) (name : Atom) (high : ℕ) → AtomIn low name high → InOrder low (unknown_name known name) high
unknown_order known low name high h = bad_within (not (has known name.bytes)) 20 name.place low high (omega arith) h.0 h.1

pub taken_order : (taken : List (List ℕ)) (low : ℕ) (name : Atom) (high : ℕ) → AtomIn low name high → InOrder low (taken_name taken name) high
taken_order taken low name high h = bad_within (has taken name.bytes) 21 name.place low high (omega arith) h.0 h.1

unfit_order : (taken : List (List ℕ)) (low : ℕ) (name : Atom) (high : ℕ) → AtomIn low name high → InOrder low (unfit_name taken name) high
unfit_order taken low name high h = bad_within (has taken name.bytes || is_reserved name.bytes) 21 name.place low high (omega arith) h.0 h.1

-- a name, and what stands after it
pub then_after : (low : ℕ) (test : Bool) (reason : ℕ) (name : Atom) (more : List Fault) (high : ℕ) → reason < 256 → low ≤ name.place → InOrder (name.place + 1) more high → InOrder low (bad_if test reason name.place ++ more) high
then_after low test reason name more high r from h =
    order_joined low (bad_if test reason name.place) (name.place + 1) more high (bad_one test reason name.place low r from) h

-- Expressions.

names-Symbol : (relations scope : List (List ℕ)) (a : Atom) → expression_names relations scope (exp.Symbol a) ≡ bad_if (not (has scope a.bytes || is_some (literal_named a.bytes))) 20 a.place
names-Symbol relations scope a = search (rules, exp_lemmas)

names-Numeral : (relations scope : List (List ℕ)) (a : Atom) → expression_names relations scope (exp.Numeral a) ≡ []
names-Numeral relations scope a = search (rules, exp_lemmas)

names-Negative : (relations scope : List (List ℕ)) (n : Negative) → expression_names relations scope (exp.Negative n) ≡ []
names-Negative relations scope n = search (rules, exp_lemmas)

names-Apply : (relations scope : List (List ℕ)) (app : Application) → expression_names relations scope (exp.Apply app) ≡
    bad_if (not (is_some (operator_named app.head.bytes) || has relations app.head.bytes)) 20 app.head.place ++ flat_map (λ faults. faults) (map (expression_names relations scope) app.args)
names-Apply relations scope app = search (rules, exp_lemmas)

-- the name at the head of a list stands at its first item, or at the list where that is no symbol
abbrev HeadIn : Sexpr → Type 0
HeadIn first = (place from to : ℕ) → place ≤ from → Spans from first to → (place ≤ (unwrap_or (symbol_of_exp (expression_of first)) (nameless place)).place) × ((unwrap_or (symbol_of_exp (expression_of first)) (nameless place)).place < to)

head_by : (first : Sexpr) (o : Option Atom) → symbol_of_exp (expression_of first) ≡ o → ((a : Atom) → o ≡ Some a → a.place ≡ place_of first) → HeadIn first
head_by first None is at place from to less h =
    let node = span_place from first to h in let a = node.0 in let b = node.1 in
    let same : (unwrap_or (symbol_of_exp (expression_of first)) (nameless place)).place ≡ place = ap (λ o. (unwrap_or o (nameless place)).place) is in
    (omega (arith, same), omega (arith, same, a, b, less))
head_by first (Some x) is at place from to less h =
    let node = span_place from first to h in let a = node.0 in let b = node.1 in
    let same : (unwrap_or (symbol_of_exp (expression_of first)) (nameless place)).place ≡ x.place = ap (λ o. (unwrap_or o (nameless place)).place) is in
    let there = at x refl in
    (omega (arith, same, there, a, less), omega (arith, same, there, b))

pub head_in : (first : Sexpr) → HeadIn first
head_in = by_items HeadIn
    (λ a. head_by (sexpr.Symbol a) (Some a) (ap symbol_of_exp (expression-Symbol a) ∙ symbol-Symbol a) (λ x is. let same : a ≡ x = cc in sym (at-Symbol a ∙ ap (λ (y : Atom). y.place) same)))
    (λ a. head_by (sexpr.Numeral a) None (ap symbol_of_exp (expression-Numeral a) ∙ symbol-Numeral a) (λ x is. absurd (cc)))
    (λ a. head_by (sexpr.Text a) (Some a) (ap symbol_of_exp (expression-Text a) ∙ symbol-Symbol a) (λ x is. let same : a ≡ x = cc in sym (at-Text a ∙ ap (λ (y : Atom). y.place) same)))
    (λ a. head_by (sexpr.Keyword a) (Some a) (ap symbol_of_exp (expression-Keyword a) ∙ symbol-Symbol a) (λ x is. let same : a ≡ x = cc in sym (at-Keyword a ∙ ap (λ (y : Atom). y.place) same)))
    (λ n all. head_by (sexpr.List n) None (symbol-List n) (λ x is. absurd (cc)))

-- a list of forms that is read as a name and arguments, from a place before them
pub record ListIn (place : ℕ) (items : List Sexpr) (high : ℕ) : Type 0 where
  pub from : place ≤ (head_among place (map expression_of items)).place
  pub args : Chain ExpIn ((head_among place (map expression_of items)).place + 1) (drop 1 (map expression_of items)) high

pub list_in : (place : ℕ) (items : List Sexpr) (high : ℕ) → SpanAll (place + 1) items high → ListIn place items high
list_in place [] high h = record { from = omega arith; args = omega (arith, h) }
list_in place (first ∷ others) high h =
    let c = spans_chain (place + 1) (first ∷ others) high h in
    let from = c.2 in
    let at = head_in first place c.0 c.1 (omega (arith, from)) c.3 in
    let to = at.1 in
    record {
      from = at.0;
      args = chain_lower ExpIn c.1 ((unwrap_or (symbol_of_exp (expression_of first)) (nameless place)).place + 1) (map expression_of others) high (omega (arith, to)) (exps_chain c.1 others high c.4);
    }

abbrev NamesIn : List (List ℕ) → List (List ℕ) → Sexpr → Type 0
NamesIn relations scope form = (low high : ℕ) → Spans low form high → InOrder low (expression_names relations scope (expression_of form)) high

over : (relations scope : List (List ℕ)) (low : ℕ) (forms : List Sexpr) (high : ℕ) → All (NamesIn relations scope) forms → Chain Spans low forms high →
    InOrder low (flat_map (λ faults. faults) (map (expression_names relations scope) (map expression_of forms))) high
over relations scope low [] high all h = nothing low high h
over relations scope low (f ∷ fs) high all h =
    order_joined low (expression_names relations scope (expression_of f)) h.1 (flat_map (λ faults. faults) (map (expression_names relations scope) (map expression_of fs))) high
    (order_lower h.0 low (expression_names relations scope (expression_of f)) h.1 h.2 (All-head (NamesIn relations scope) f fs all h.0 h.1 h.3))
    (over relations scope h.1 fs high (All-tail (NamesIn relations scope) f fs all) h.4)

symbol_names : (relations scope : List (List ℕ)) (form : Sexpr) (a : Atom) → expression_of form ≡ exp.Symbol a → place_of form ≡ a.place → NamesIn relations scope form
symbol_names relations scope form a is at low high h =
    let node = span_place low form high h in let from = node.0 in let to = node.1 in
    subst (λ fs. InOrder low fs high) (sym (ap (expression_names relations scope) is ∙ names-Symbol relations scope a))
    (bad_within (not (has scope a.bytes || is_some (literal_named a.bytes))) 20 a.place low high (omega arith) (omega (arith, at, from)) (omega (arith, at, to)))

application_names_in : (relations scope : List (List ℕ)) (place : ℕ) (items : List Sexpr) (high : ℕ) → All (NamesIn relations scope) items → SpanAll (place + 1) items high →
    InOrder place (expression_names relations scope (exp.Apply (application_of place (map expression_of items)))) high
application_names_in relations scope place [] high all h =
    subst (λ fs. InOrder place fs high) (sym (names-Apply relations scope (application_of place [])))
    (then_after place (not (is_some (operator_named []) || has relations [])) 20 (nameless place) [] high (omega arith) (omega arith) (nothing (place + 1) high h))
application_names_in relations scope place (first ∷ others) high all h =
    let c = spans_chain (place + 1) (first ∷ others) high h in
    let from = c.2 in
    let name : Atom = unwrap_or (symbol_of_exp (expression_of first)) (nameless place) in
    let at = head_in first place c.0 c.1 (omega (arith, from)) c.3 in
    let to = at.1 in
    subst (λ fs. InOrder place fs high) (sym (names-Apply relations scope (application_of place (map expression_of (first ∷ others)))))
    (then_after place (not (is_some (operator_named name.bytes) || has relations name.bytes)) 20 name (flat_map (λ faults. faults) (map (expression_names relations scope) (map expression_of others))) high (omega arith) at.0
    (order_lower c.1 (name.place + 1) (flat_map (λ faults. faults) (map (expression_names relations scope) (map expression_of others))) high (omega (arith, to))
    (over relations scope c.1 others high (All-tail (NamesIn relations scope) first others all) c.4)))

nest_names : (relations scope : List (List ℕ)) (n : Nest) → All (NamesIn relations scope) n.items → NamesIn relations scope (sexpr.List n)
nest_names relations scope n all low high h = subst (λ e. InOrder low (expression_names relations scope e) high) (sym (expression-List n)) (by (negated_numeral (map expression_of n.items)))
  where
    by : (o : Option Atom) → InOrder low (expression_names relations scope (option_map_or (λ numeral. exp.Negative (record { place = n.place; numeral = numeral })) o (exp.Apply (application_of n.place (map expression_of n.items))))) high
    by (Some numeral) =
        subst (λ fs. InOrder low fs high) (sym (names-Negative relations scope (record { place = n.place; numeral = numeral }))) (nothing low high (bounds low (places_in (sexpr.List n)) high h))
    by None =
        let level = level_within low (sexpr.List n) high h in
        let from = level.0 in let at = at-List n in
        let items : SpanAll (n.place + 1) n.items high = subst (λ p. SpanAll (p + 1) n.items high) at (subst (λ ps. SpanAll (place_of (sexpr.List n) + 1) ps high) (parts-List n) level.1) in
        order_lower n.place low (expression_names relations scope (exp.Apply (application_of n.place (map expression_of n.items)))) high (omega (arith, from, at)) (application_names_in relations scope n.place n.items high all items)

form_names : (relations scope : List (List ℕ)) (form : Sexpr) → NamesIn relations scope form
form_names relations scope = by_items (NamesIn relations scope)
    (λ a. symbol_names relations scope (sexpr.Symbol a) a (expression-Symbol a) (at-Symbol a))
    (λ a low high h. subst (λ fs. InOrder low fs high) (sym (ap (expression_names relations scope) (expression-Numeral a) ∙ names-Numeral relations scope a)) (nothing low high (bounds low (places_in (sexpr.Numeral a)) high h)))
    (λ a. symbol_names relations scope (sexpr.Text a) a (expression-Text a) (at-Text a))
    (λ a. symbol_names relations scope (sexpr.Keyword a) a (expression-Keyword a) (at-Keyword a))
    (nest_names relations scope)

exp_order : (relations scope : List (List ℕ)) (low : ℕ) (e : Exp) (high : ℕ) → ExpIn low e high → InOrder low (expression_names relations scope e) high
exp_order relations scope low e high h = subst (λ x. InOrder low (expression_names relations scope x) high) (sym h.1) (form_names relations scope h.0 low high h.2)

-- Types.

pub constructor_order : (sig : Declarations) (types : List Atom) (before : List Pattern) (low : ℕ) (con : Pattern) (high : ℕ) → PatternIn low con high →
    InOrder low (taken_name (constructor_names sig.constructors ++ map (λ c. c.name.bytes) before) con.name ++ flat_map (unknown_name (sig.types ++ texts types)) con.variables) high
constructor_order sig types before low con high h =
    let a = h.0 in let b = h.1 in
    then_after low (has (constructor_names sig.constructors ++ map (λ (c : Pattern). c.name.bytes) before) con.name.bytes) 21 con.name (flat_map (unknown_name (sig.types ++ texts types)) con.variables) high (omega arith) (omega (arith, a, b))
    (faults_each AtomIn (unknown_name (sig.types ++ texts types)) (unknown_order (sig.types ++ texts types)) (con.name.place + 1) con.variables high h.2)

pub pattern_of_group : (low : ℕ) (form : Sexpr) (high : ℕ) → Such (HasShape (One role.Constructor)) low form high → PatternIn low (pattern_of form) high
pattern_of_group low form high h = pattern_in low form high (fit_of h.0) h.1

-- Functions.

parameter_order : (sig : Declarations) (before : List Pair) (low : ℕ) (pair : Pair) (high : ℕ) → PairIn low pair high → InOrder low (parameter_names sig before pair) high
parameter_order sig before low pair high h =
    let a = h.0 in let b = h.1 in let c = h.2 in
    then_after low (has (names_in before) pair.name.bytes || is_reserved pair.name.bytes) 21 pair.name (unknown_name (sig.types ++ sort_names) pair.sort) high (omega arith) (omega (arith, a, b))
    (unknown_order (sig.types ++ sort_names) (pair.name.place + 1) pair.sort high (omega (arith, c), h.3))

declaration_order : (sig : Declarations) (before : List Function) (low : ℕ) (f : Function) (high : ℕ) → Declared low f high → InOrder low (declaration_names sig before f) high
declaration_order sig before low f high h =
    let a = h.0 in let b = h.1 in
    then_after low (has (relation_names sig.relations ++ function_names before) f.declaration.name.bytes || is_reserved f.declaration.name.bytes) 21 f.declaration.name (found (parameter_names sig) f.declaration.params) high (omega arith) (omega (arith, a, b))
    (faults_after PairIn (parameter_names sig) (parameter_order sig) [] (f.declaration.name.place + 1) f.declaration.params high h.2)

node_order : (relations scope : List (List ℕ)) (low : ℕ) (node : Node) (high : ℕ) → NodeIn low node high → InOrder low (node_names relations scope node) high
node_order relations scope low (bound around pair) high h =
    let a = h.0 in let b = h.1 in let c = h.2 in
    then_after low (has (scope ++ names_in around) pair.name.bytes || is_reserved pair.name.bytes) 21 pair.name (unknown_name sort_names pair.sort) high (omega arith) (omega (arith, a, b))
    (unknown_order sort_names (pair.name.place + 1) pair.sort high (omega (arith, c), h.3))
node_order relations scope low (leaf around l) high h =
    faults_each ExpIn (expression_names relations (scope ++ names_in around)) (exp_order relations (scope ++ names_in around)) low l.atoms high h.2

case_order : (sig : Declarations) (relations scope : List (List ℕ)) (low : ℕ) (c : Case) (high : ℕ) → CaseIn low c high → InOrder low (case_names sig relations scope c) high
case_order sig relations scope low c high h =
    let p = h.1 in let a = p.0 in let b = p.1 in
    order_joined low (unknown_name (constructor_names sig.constructors) c.pattern.name ++ found (λ before variable. unfit_name (scope ++ texts before) variable) c.pattern.variables) h.0
    (flat_map (node_names relations (scope ++ texts c.pattern.variables)) (nodes_of c)) high
    (then_after low (not (has (constructor_names sig.constructors) c.pattern.name.bytes)) 20 c.pattern.name (found (λ before variable. unfit_name (scope ++ texts before) variable) c.pattern.variables) h.0 (omega arith) (omega (arith, a, b))
    (faults_after AtomIn (λ before variable. unfit_name (scope ++ texts before) variable) (λ before low name high s. unfit_order (scope ++ texts before) low name high s) [] (c.pattern.name.place + 1) c.pattern.variables h.0 p.2))
    (faults_each NodeIn (node_names relations (scope ++ texts c.pattern.variables)) (node_order relations (scope ++ texts c.pattern.variables)) h.0 (nodes_of c) high h.2)

attribute_order : (params : List Pair) (before : List Atom) (low : ℕ) (name : Atom) (high : ℕ) → AtomIn low name high → InOrder low (attribute_names params before name) high
attribute_order params before low name high h =
    let a = h.0 in let b = h.1 in
    ordered_joined (65536 * low) (unknown_name (names_in (plain_pairs params)) name) (65536 * name.place + 5376) (taken_name (texts before) name) (65536 * high)
    (ordered_if (not (has (names_in (plain_pairs params)) name.bytes)) 20 name.place (65536 * low) (65536 * name.place + 5376) (omega arith) (omega (arith, a)) (omega arith))
    (ordered_if (has (texts before) name.bytes) 21 name.place (65536 * name.place + 5376) (65536 * high) (omega arith) (omega arith) (omega (arith, b)))

definition_order : (sig : Declarations) (relations : List (List ℕ)) (low : ℕ) (f : Function) (high : ℕ) → Defined low f high → InOrder low (definition_names sig relations f) high
definition_order sig relations low f high h =
    let a = h.0 in let b = h.1 in
    order_joined low
    (bad_if (not (are_listed f)) 20 f.definition.place ++ unknown_name (names_in (term_pairs f.declaration.params)) f.definition.matched ++ flat_map (case_names sig relations (names_in f.declaration.params)) f.definition.cases)
    h.2.0 (found (attribute_names f.declaration.params) (attributes_of f.definition)) high
    (order_joined low (bad_if (not (are_listed f)) 20 f.definition.place ++ unknown_name (names_in (term_pairs f.declaration.params)) f.definition.matched) (f.definition.matched.place + 1)
    (flat_map (case_names sig relations (names_in f.declaration.params)) f.definition.cases) h.2.0
    (order_joined low (bad_if (not (are_listed f)) 20 f.definition.place) (f.definition.place + 1) (unknown_name (names_in (term_pairs f.declaration.params)) f.definition.matched) (f.definition.matched.place + 1)
    (bad_one (not (are_listed f)) 20 f.definition.place low (omega arith) a)
    (bad_one (not (has (names_in (term_pairs f.declaration.params)) f.definition.matched.bytes)) 20 f.definition.matched.place (f.definition.place + 1) (omega arith) (omega (arith, b))))
    (faults_each CaseIn (case_names sig relations (names_in f.declaration.params)) (λ low c high s. case_order sig relations (names_in f.declaration.params) low c high s) (f.definition.matched.place + 1) f.definition.cases h.2.0 h.2.1))
    (faults_after AtomIn (attribute_names f.declaration.params) (attribute_order f.declaration.params) [] h.2.0 (attributes_of f.definition) high h.2.2)

pub functions_ranked : (sig : Declarations) (low : ℕ) (form : Sexpr) (high : ℕ) → Command head.DefineFunsRec form → Spans low form high → Ranked (functions_names sig (functions_of form))
functions_ranked sig low form high c h =
    let f = functions_in low form high c h in (
      f.low,
      f.high,
      order_joined f.low (found (declaration_names sig) (functions_of form)) f.middle (flat_map (definition_names sig (relation_names sig.relations ++ function_names (functions_of form))) (functions_of form)) f.high
          (faults_after Declared (declaration_names sig) (declaration_order sig) [] f.low (functions_of form) f.middle f.declared)
          (faults_each Defined (definition_names sig (relation_names sig.relations ++ function_names (functions_of form))) (definition_order sig (relation_names sig.relations ++ function_names (functions_of form))) f.middle (functions_of form) f.high f.defined),
    )
