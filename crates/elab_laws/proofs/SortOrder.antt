-- The nodes of a command of right shape that are of a wrong sort are found from the left.
use Rattle.std.proofs.Common.{◌≡◌, ℕ, ◌+◌, ◌*◌, ◌<◌, ◌≤◌, Bool, true, false, Option, Some, None, List, [], ◌∷◌, ◌++◌, map, length, slice_get, refl, sym, ap, ap₂, ◌∙◌, subst, rules, arith}
use Rattle.std.specs.Prelude.{All, not, ◌&&◌, nat_eq, option_map, if◌then◌else◌}
use Rattle.std.specs.List.{flat_map}
use Rattle.std.specs.Option.{option_map_or}
use Rattle.std.proofs.lemmas.List.Elements.{All-head, All-tail}
use Rattle.sig_core.specs.declared.ids.TypeId.{TypeId}
use Rattle.sig_core.specs.declared.signature.Constructor.{Constructor}
use Rattle.sig_core.specs.declared.signature.Kind.{Kind}
use Rattle.sig_core.specs.declared.signature.Kind.TheVariants.{Term, Input, Output}
use Rattle.sig_core.specs.declared.value.Sort.{Sort}
use Rattle.sig_core.specs.declared.value.Sort.TheVariants as sort
use Rattle.sig_core.specs.Names.{same_name}
use Rattle.sig_core.specs.Signatures.{Declarations, kinds_of}
use Rattle.sexpr_core.specs.declared.form.Atom.{Atom}
use Rattle.sexpr_core.specs.declared.form.Nest.{Nest}
use Rattle.sexpr_core.specs.declared.form.Sexpr.{Sexpr}
use Rattle.sexpr_core.specs.declared.form.Sexpr as sexpr
use Rattle.sexpr_core.specs.Access.{place_of, parts_of, item_of, others_of}
use Rattle.rule_core.specs.Flow.{same_type}
use Rattle.syntax_core.specs.declared.commands.Head.{Head}
use Rattle.syntax_core.specs.declared.commands.Head.TheVariants as head
use Rattle.syntax_core.specs.declared.roles.Due.TheVariants.{One}
use Rattle.syntax_core.specs.declared.roles.Role.TheVariants as role
use Rattle.syntax_core.specs.declared.syntax.Application.{Application}
use Rattle.syntax_core.specs.declared.syntax.Body.{Body}
use Rattle.syntax_core.specs.declared.syntax.Case.{Case}
use Rattle.syntax_core.specs.declared.syntax.Exp.{Exp}
use Rattle.syntax_core.specs.declared.syntax.Exp as exp
use Rattle.syntax_core.specs.declared.syntax.Exp.{the_lemmas as exp_lemmas}
use Rattle.syntax_core.specs.declared.syntax.Function.{Function}
use Rattle.syntax_core.specs.declared.syntax.Negative.{Negative}
use Rattle.syntax_core.specs.declared.syntax.Pair.{Pair}
use Rattle.syntax_core.specs.Literals.{digits_place, is_out_of_range, literal_of, place_of_exp}
use Rattle.syntax_core.specs.Roles.{head_of}
use Rattle.syntax_core.specs.Shapes.{HasShape}
use Rattle.syntax_core.specs.Syntax.{application_of, atom_of, calls_of, deepest, expression_of, functions_of, items_at, name_of, negated_numeral, nonterminals_of}
use Rattle.syntax_core.proofs.ListExps.{expression-Keyword, expression-List, expression-Numeral, expression-Symbol, expression-Text}
use Rattle.syntax_core.proofs.Misfitting.{parts-List}
use Rattle.name_core.specs.Bodies.{Branch, Node, bound, bound_after, branches_of, branches_within, leaf, nodes_of, nodes_within}
use Rattle.name_core.specs.Faults.{bad_if, first, found_from, shapes}
use Rattle.name_core.specs.Names.{attributes_of, groups_of, plain_pairs, term_pairs}
use Rattle.name_core.specs.States.{State, Wanted}
use Rattle.name_core.proofs.BodyInduction.{by_bodies}
use Rattle.name_core.proofs.Branchings.{branches-Fork, branches-Leaf}
use Rattle.name_core.proofs.WalkLaws.{nodes-Fork, nodes-Leaf}
use Rattle.sort_core.specs.declared.open.OpenExp.{OpenExp}
use Rattle.sort_core.specs.declared.open.OpenNode.{OpenNode, out-OpenNode}
use Rattle.sort_core.specs.declared.open.OpenNode.TheOpen.{OpenNode-F}
use Rattle.sort_core.specs.declared.variables.Variables.{Variables}
use Rattle.sort_core.specs.Branches.{open_branch, open_branches}
use Rattle.sort_core.specs.Opens.{opened, variables_of, within}
use Rattle.sort_core.specs.Relations.{child_type, declared_with, sort_of_pair, type_named}
use Rattle.sort_core.specs.Sorts.{are_of_type, argument_faults, argument_faults_at, atom_faults, atom_faults_in, branch_faults, case_faults, constructor_at, declaration_faults, definition_faults, example_argument, example_argument_at, example_faults_of, examples_faults, functions_faults, group_faults, is_literal_of, is_term_of, is_wanted_name, kinds_named, makes, matched_type, pattern_faults, production_argument, production_faults, range_faults, sorts, sorts_of, start_faults, wanted_faults}
use Rattle.making_core.proofs.FormInduction.{by_items}
use Rattle.making_core.proofs.ShapedForms.{at-Keyword, at-List, at-Numeral, at-Symbol, at-Text}
use Rattle.making_core.proofs.Smallness.{parts_in}
use Rattle.elab_laws.specs.Places.{AreInOrder, places_in}
use Rattle.elab_laws.proofs.Chains.{Chain, InOrder, Such, chain_higher, chain_lower, faults_each, faults_from, nothing, order_joined, order_lower, span_others, span_place, spans_chain}
use Rattle.elab_laws.proofs.InPlaces.{CaseIn, ExpIn, NodeIn, PairIn}
use Rattle.elab_laws.proofs.LimitOrder.{Command, Ranked, command_of, functions_in, none_ranked, ranked_in_order}
use Rattle.elab_laws.proofs.NameOrder.{bad_one, bad_within}
use Rattle.elab_laws.proofs.NamesInOrder.{CallIn, GroupIn, examples_in, group_parts, wanted_in}
use Rattle.elab_laws.proofs.PlacedCommands.{Declared, Defined, atoms_bound}
use Rattle.elab_laws.proofs.Rising.{bounds, ordered_if, ordered_joined}
use Rattle.elab_laws.proofs.SortPlaces.{SurveyIn, as_order, bad_first, inner_order, negated_place, open_in}
use Rattle.elab_laws.proofs.SpelledPlaces.{SpanAll, Spans, level_within}

-- Atoms.

argument_order : (con : Option Constructor) (slots : List Sort) (kinds : List Kind) (n low : ℕ) (x : OpenExp) (high : ℕ) → SurveyIn slots low x high → InOrder low (argument_faults_at con slots kinds n x) high
unfolding argument_faults_at
argument_order con slots kinds n low x high h = by (slice_get kinds n)
  where
    by : (kind : Option Kind) → InOrder low (argument_faults con slots kind x) high
    by None = inner_order slots low x high h
    by (Some (Term t)) = bad_first slots (not (is_term_of con t x)) low x high h
    by (Some (Input s)) = as_order slots (Some s) low x high h
    by (Some (Output s)) = as_order slots (Some s) low x high h

atom_by : (sig : Declarations) (con : Option Constructor) (slots : List Sort) (low : ℕ) (e : OpenExp) (high : ℕ) (x : OpenNode-F OpenNode OpenExp) → SurveyIn slots low e high →
    Chain (SurveyIn slots) (e.place + 1) (parts_in x) high → InOrder low (atom_faults_in sig con slots e x) high
atom_by sig con slots low e high (OpenNode-F.Slot k) h parts = as_order slots (Some sort.Bool) low e high h
atom_by sig con slots low e high (OpenNode-F.Term who) h parts = as_order slots (Some sort.Bool) low e high h
atom_by sig con slots low e high (OpenNode-F.Literal digits literal) h parts = as_order slots (Some sort.Bool) low e high h
atom_by sig con slots low e high (OpenNode-F.Apply o kids) h parts = as_order slots (Some sort.Bool) low e high h
atom_by sig con slots low e high (OpenNode-F.Call relation args) h parts =
    order_joined low (bad_if (not (nat_eq (length args) (length (kinds_of sig relation)))) 30 e.place) (e.place + 1) (found_from (argument_faults_at con slots (kinds_of sig relation)) 0 args) high
    (bad_one (not (nat_eq (length args) (length (kinds_of sig relation)))) 30 e.place low (omega arith) h.0)
    (faults_from (SurveyIn slots) (argument_faults_at con slots (kinds_of sig relation)) (argument_order con slots (kinds_of sig relation)) 0 (e.place + 1) args high parts)

atom_order : (sig : Declarations) (vars : Variables) (con : Option Constructor) (slots : List Sort) (low : ℕ) (e : Exp) (high : ℕ) → ExpIn low e high → InOrder low (atom_faults sig con slots (opened sig vars e)) high
atom_order sig vars con slots low e high h =
    let o = open_in sig vars slots low e high h in
    atom_by sig con slots low (opened sig vars e) high (out-OpenNode (opened sig vars e).node) o.whole o.parts

atoms_order : (sig : Declarations) (vars : Variables) (con : Option Constructor) (slots : List Sort) (low : ℕ) (es : List Exp) (high : ℕ) → Chain ExpIn low es high →
    InOrder low (flat_map (atom_faults sig con slots) (map (opened sig vars) es)) high
atoms_order sig vars con slots low [] high h = nothing low high h
atoms_order sig vars con slots low (e ∷ es) high h =
    order_joined low (atom_faults sig con slots (opened sig vars e)) h.1 (flat_map (atom_faults sig con slots) (map (opened sig vars) es)) high
    (order_lower h.0 low (atom_faults sig con slots (opened sig vars e)) h.1 h.2 (atom_order sig vars con slots h.0 e h.1 h.3)) (atoms_order sig vars con slots h.1 es high h.4)

-- Branches are the leaves of a body.

abbrev leaves : List Node → List Branch
leaves [] = []
leaves (bound around pair ∷ nodes) = leaves nodes
leaves (leaf around l ∷ nodes) = record { around = around; leaf = l } ∷ leaves nodes

leaves-append : (xs ys : List Node) → leaves (xs ++ ys) ≡ leaves xs ++ leaves ys
leaves-append [] ys = refl
leaves-append (bound around pair ∷ xs) ys = leaves-append xs ys
leaves-append (leaf around l ∷ xs) ys = ap (λ bs. record { around = around; leaf = l } ∷ bs) (leaves-append xs ys)

leaves-bound : (around pairs : List Pair) → leaves (bound_after around pairs) ≡ []
leaves-bound around [] = refl
leaves-bound around (pair ∷ pairs) = leaves-bound (around ++ pair ∷ []) pairs

abbrev AreLeaves : Body → Type 0
AreLeaves b = (around : List Pair) → leaves (nodes_within b around) ≡ branches_within b around

leaves_each : (around : List Pair) (bodies : List Body) → All AreLeaves bodies → leaves (flat_map (λ b. nodes_within b around) bodies) ≡ flat_map (λ b. branches_within b around) bodies
leaves_each around [] h = refl
leaves_each around (b ∷ bs) h =
    leaves-append (nodes_within b around) (flat_map (λ b. nodes_within b around) bs)
    ∙ ap₂ (λ xs ys. xs ++ ys) (All-head AreLeaves b bs h around) (leaves_each around bs (All-tail AreLeaves b bs h))

are_leaves : (b : Body) → AreLeaves b
are_leaves = by_bodies AreLeaves
    (λ l around. ap leaves (nodes-Leaf l around) ∙ sym (branches-Leaf l around))
    (λ scope all around.
    ap leaves (nodes-Fork scope around) ∙ leaves-append (bound_after around scope.pairs) (flat_map (λ b. nodes_within b (around ++ scope.pairs)) scope.bodies)
    ∙ ap (λ xs. xs ++ leaves (flat_map (λ b. nodes_within b (around ++ scope.pairs)) scope.bodies)) (leaves-bound around scope.pairs)
    ∙ leaves_each (around ++ scope.pairs) scope.bodies all ∙ sym (branches-Fork scope around))

abbrev BranchIn : ℕ → Branch → ℕ → Type 0
BranchIn low b high = Chain ExpIn low b.leaf.atoms high

leaves_chain : (low : ℕ) (nodes : List Node) (high : ℕ) → Chain NodeIn low nodes high → Chain BranchIn low (leaves nodes) high
leaves_chain low [] high h = h
leaves_chain low (bound around pair ∷ nodes) high h =
    let here = h.2 in let a = h.3.0 in let b = h.3.1 in let c = h.3.2 in let d = h.3.3 in
    chain_lower BranchIn h.1 low (leaves nodes) high (omega (arith, here, a, b, c, d)) (leaves_chain h.1 nodes high h.4)
leaves_chain low (leaf around l ∷ nodes) high h = (h.0, h.1, h.2, h.3.2, leaves_chain h.1 nodes high h.4)

-- Functions.

branch_order : (sig : Declarations) (con : Option Constructor) (slots : List Sort) (vars : Variables) (low : ℕ) (b : Branch) (high : ℕ) → BranchIn low b high → InOrder low (branch_faults sig con slots (open_branch sig vars b)) high
branch_order sig con slots vars low b high h = atoms_order sig (within vars b.around) con (slots ++ sorts_of b.around) low b.leaf.atoms high h

branches_order : (sig : Declarations) (con : Option Constructor) (slots : List Sort) (vars : Variables) (low : ℕ) (bs : List Branch) (high : ℕ) → Chain BranchIn low bs high →
    InOrder low (flat_map (branch_faults sig con slots) (map (open_branch sig vars) bs)) high
branches_order sig con slots vars low [] high h = nothing low high h
branches_order sig con slots vars low (b ∷ bs) high h =
    order_joined low (branch_faults sig con slots (open_branch sig vars b)) h.1 (flat_map (branch_faults sig con slots) (map (open_branch sig vars) bs)) high
    (order_lower h.0 low (branch_faults sig con slots (open_branch sig vars b)) h.1 h.2 (branch_order sig con slots vars h.0 b h.1 h.3)) (branches_order sig con slots vars h.1 bs high h.4)

case_order : (sig : Declarations) (f : Function) (type : TypeId) (low : ℕ) (c : Case) (high : ℕ) → CaseIn low c high → InOrder low (case_faults sig f type c) high
case_order sig f type low c high h =
    let p = h.1 in let a = p.0 in let b = p.1 in
    let end = atoms_bound (c.pattern.name.place + 1) c.pattern.variables h.0 p.2 in
    let branches = subst (λ bs. Chain BranchIn h.0 bs high) (are_leaves c.body []) (leaves_chain h.0 (nodes_of c) high h.2) in
    order_joined low (pattern_faults sig type c.pattern) h.0
    (flat_map (branch_faults sig (constructor_at sig c.pattern.name.bytes) (sorts_of (plain_pairs f.declaration.params))) (open_branches sig f c)) high
    (bad_within (not (makes type (length c.pattern.variables) (constructor_at sig c.pattern.name.bytes))) 30 c.pattern.place low h.0 (omega arith) a (omega (arith, b, end)))
    (branches_order sig (constructor_at sig c.pattern.name.bytes) (sorts_of (plain_pairs f.declaration.params)) (variables_of f c) h.0 (branches_of c) high branches)

pairs_bound : (low : ℕ) (pairs : List Pair) (high : ℕ) → Chain PairIn low pairs high → low ≤ high
pairs_bound low [] high h = h
pairs_bound low (p ∷ ps) high h =
    let here = h.2 in let a = h.3.0 in let b = h.3.1 in let c = h.3.2 in let d = h.3.3 in let rest = pairs_bound h.1 ps high h.4 in
    omega (arith, here, a, b, c, d, rest)

declaration_order : (low : ℕ) (f : Function) (high : ℕ) → Declared low f high → InOrder low (declaration_faults f) high
declaration_order low f high h =
    let name = h.1 in let end = pairs_bound (f.declaration.name.place + 1) f.declaration.params high h.2 in
    bad_within (not (nat_eq (length (term_pairs f.declaration.params)) 1)) 30 f.declaration.place low high (omega arith) h.0 (omega (arith, name, end))

definition_order : (sig : Declarations) (low : ℕ) (f : Function) (high : ℕ) → Defined low f high → InOrder low (definition_faults sig f) high
definition_order sig low f high h =
    let a = h.0 in let b = h.1 in
    let most = atoms_bound h.2.0 (attributes_of f.definition) high h.2.2 in
    faults_each CaseIn (case_faults sig f (matched_type sig f)) (case_order sig f (matched_type sig f)) low f.definition.cases high
    (chain_higher CaseIn low f.definition.cases h.2.0 high most (chain_lower CaseIn (f.definition.matched.place + 1) low f.definition.cases h.2.0 (omega (arith, a, b)) h.2.1))

functions_ranked : (sig : Declarations) (low : ℕ) (form : Sexpr) (high : ℕ) → Command head.DefineFunsRec form → Spans low form high → Ranked (functions_faults sig (functions_of form))
functions_ranked sig low form high c h =
    let f = functions_in low form high c h in (
      f.low,
      f.high,
      order_joined f.low (flat_map declaration_faults (functions_of form)) f.middle (flat_map (definition_faults sig) (functions_of form)) f.high
          (faults_each Declared declaration_faults declaration_order f.low (functions_of form) f.middle f.declared)
          (faults_each Defined (definition_faults sig) (definition_order sig) f.middle (functions_of form) f.high f.defined),
    )

-- Grammars.

production_argument_order : (sig : Declarations) (pairs : List Pair) (con : Option Constructor) (n low : ℕ) (form : Sexpr) (high : ℕ) → Spans low form high → InOrder low (production_argument sig pairs con n form) high
production_argument_order sig pairs con n low form high h =
    let node = span_place low form high h in
    bad_within (not (same_type (option_map (λ name. type_named sig name) (sort_of_pair pairs (atom_of form).bytes)) (child_type con n))) 30 (place_of form) low high (omega arith) node.0 node.1

production_order : (sig : Declarations) (pairs : List Pair) (type : TypeId) (low : ℕ) (form : Sexpr) (high : ℕ) → Spans low form high → InOrder low (production_faults sig pairs type form) high
production_order sig pairs type low form high h =
    let level = level_within low form high h in
    order_joined low (bad_if (not (makes type (length (others_of form)) (constructor_at sig (name_of form).bytes))) 30 (place_of form)) (place_of form + 1)
    (found_from (production_argument sig pairs (constructor_at sig (name_of form).bytes)) 0 (others_of form)) high
    (bad_one (not (makes type (length (others_of form)) (constructor_at sig (name_of form).bytes))) 30 (place_of form) low (omega arith) level.0)
    (faults_from Spans (production_argument sig pairs (constructor_at sig (name_of form).bytes)) (production_argument_order sig pairs (constructor_at sig (name_of form).bytes)) 0 (place_of form + 1) (others_of form) high
    (spans_chain (place_of form + 1) (others_of form) high (span_others (place_of form + 1) (parts_of form) high level.1)))

such_production : (Q : Sexpr → Type 0) (sig : Declarations) (pairs : List Pair) (type : TypeId) (low : ℕ) (form : Sexpr) (high : ℕ) → Such Q low form high → InOrder low (production_faults sig pairs type form) high
such_production Q sig pairs type low form high h = production_order sig pairs type low form high h.1

group_order : (sig : Declarations) (pairs : List Pair) (low : ℕ) (both : Pair × Sexpr) (high : ℕ) → GroupIn low both high → InOrder low (group_faults sig pairs both) high
group_order sig pairs low (pair, group) high h =
    let g = group_parts low group high h in
    let a = g.name in let b = g.type in
    order_joined low (bad_if (not (same_name pair.sort.bytes (atom_of (item_of 1 group)).bytes)) 30 (place_of (item_of 1 group))) (place_of (item_of 1 group) + 1)
    (flat_map (production_faults sig pairs (type_named sig pair.sort.bytes)) (items_at 2 group)) high
    (bad_one (not (same_name pair.sort.bytes (atom_of (item_of 1 group)).bytes)) 30 (place_of (item_of 1 group)) low (omega arith) (omega (arith, a, b)))
    (faults_each (Such (HasShape (One role.Production))) (production_faults sig pairs (type_named sig pair.sort.bytes)) (such_production (HasShape (One role.Production)) sig pairs (type_named sig pair.sort.bytes)) (place_of (item_of 1 group) + 1) (items_at 2 group) high g.productions)

start_order : (type : List ℕ) (low : ℕ) (pairs : List Pair) (high : ℕ) → Chain PairIn low pairs high → InOrder low (start_faults type pairs) high
start_order type low [] high h = nothing low high h
start_order type low (p ∷ ps) high h =
    let here = h.2 in let a = h.3.0 in let b = h.3.1 in let c = h.3.2 in let d = h.3.3 in let rest = pairs_bound h.1 ps high h.4 in
    bad_within (not (same_name type p.sort.bytes)) 30 p.sort.place low high (omega arith) (omega (arith, here, a, b, c)) (omega (arith, d, rest))

wanted_ranked : (sig : Declarations) (low : ℕ) (form : Sexpr) (high : ℕ) → Command head.SynthFun form → Spans low form high → Ranked (wanted_faults sig form)
wanted_ranked sig low form high c h =
    let w = wanted_in low form high c h in (
      w.first,
      w.high,
      order_joined w.first (start_faults (atom_of (item_of 3 form)).bytes (nonterminals_of form)) w.second (flat_map (group_faults sig (nonterminals_of form)) (groups_of form)) w.high
          (start_order (atom_of (item_of 3 form)).bytes w.first (nonterminals_of form) w.second w.nonterminals)
          (faults_each GroupIn (group_faults sig (nonterminals_of form)) (group_order sig (nonterminals_of form)) w.second (groups_of form) w.high w.groups),
    )

-- Examples.

-- an expression and its digits stand within bounds
record DigitsIn (low : ℕ) (e : Exp) (high : ℕ) : Type 0 where
  from : low ≤ place_of_exp e
  within : place_of_exp e ≤ digits_place e
  to : digits_place e < high

place-Symbol : (a : Atom) → place_of_exp (exp.Symbol a) ≡ a.place
place-Symbol a = search (rules, exp_lemmas)

place-Numeral : (a : Atom) → place_of_exp (exp.Numeral a) ≡ a.place
place-Numeral a = search (rules, exp_lemmas)

place-Negative : (n : Negative) → place_of_exp (exp.Negative n) ≡ n.place
place-Negative n = search (rules, exp_lemmas)

place-Apply : (app : Application) → place_of_exp (exp.Apply app) ≡ app.place
place-Apply app = search (rules, exp_lemmas)

digits-Symbol : (a : Atom) → digits_place (exp.Symbol a) ≡ a.place
digits-Symbol a = search (rules, exp_lemmas)

digits-Numeral : (a : Atom) → digits_place (exp.Numeral a) ≡ a.place
digits-Numeral a = search (rules, exp_lemmas)

digits-Negative : (n : Negative) → digits_place (exp.Negative n) ≡ n.numeral.place
digits-Negative n = search (rules, exp_lemmas)

digits-Apply : (app : Application) → digits_place (exp.Apply app) ≡ app.place
digits-Apply app = search (rules, exp_lemmas)

digits_by : (low : ℕ) (e : Exp) (high place digits : ℕ) → place_of_exp e ≡ place → digits_place e ≡ digits → low ≤ place → place ≤ digits → digits < high → DigitsIn low e high
digits_by low e high place digits is digits_is from between to =
    record { from = omega (arith, is, from); within = omega (arith, is, digits_is, between); to = omega (arith, digits_is, to) }

at_numeral : (low : ℕ) (a : Atom) (high : ℕ) → Spans low (sexpr.Numeral a) high → place_of (sexpr.Numeral a) ≡ a.place → DigitsIn low (exp.Numeral a) high
at_numeral low a high h at =
    let node = span_place low (sexpr.Numeral a) high h in let from = node.0 in let to = node.1 in
    digits_by low (exp.Numeral a) high a.place a.place (place-Numeral a) (digits-Numeral a) (omega (arith, at, from)) (omega arith) (omega (arith, at, to))

at_symbol : (low : ℕ) (form : Sexpr) (a : Atom) (high : ℕ) → Spans low form high → place_of form ≡ a.place → DigitsIn low (exp.Symbol a) high
at_symbol low form a high h at =
    let node = span_place low form high h in let from = node.0 in let to = node.1 in
    digits_by low (exp.Symbol a) high a.place a.place (place-Symbol a) (digits-Symbol a) (omega (arith, at, from)) (omega arith) (omega (arith, at, to))

at_list : (low : ℕ) (n : Nest) (high : ℕ) → Spans low (sexpr.List n) high → DigitsIn low (expression_of (sexpr.List n)) high
at_list low n high h = subst (λ e. DigitsIn low e high) (sym (expression-List n)) (by (negated_numeral (map expression_of n.items)) refl)
  where
    span : (low ≤ n.place) × (n.place < high)
    span = let node = span_place low (sexpr.List n) high h in let a = node.0 in let b = node.1 in let at = at-List n in (omega (arith, a, at), omega (arith, b, at))

    items : Chain Spans (n.place + 1) n.items high
    items = spans_chain (n.place + 1) n.items high
        (subst (λ p. SpanAll (p + 1) n.items high) (at-List n) (subst (λ ps. SpanAll (place_of (sexpr.List n) + 1) ps high) (parts-List n) (level_within low (sexpr.List n) high h).1))

    by : (o : Option Atom) → negated_numeral (map expression_of n.items) ≡ o →
        DigitsIn low (option_map_or (λ numeral. exp.Negative (record { place = n.place; numeral = numeral })) o (exp.Apply (application_of n.place (map expression_of n.items)))) high
    by (Some a) is =
        let at = negated_place (n.place + 1) n.items high a items is in let from = at.0 in
        digits_by low (exp.Negative (record { place = n.place; numeral = a })) high n.place a.place (place-Negative (record { place = n.place; numeral = a })) (digits-Negative (record { place = n.place; numeral = a })) span.0 (omega (arith, from)) at.1
    by None is =
        digits_by low (exp.Apply (application_of n.place (map expression_of n.items))) high n.place n.place (place-Apply (application_of n.place (map expression_of n.items))) (digits-Apply (application_of n.place (map expression_of n.items))) span.0 (omega arith) span.1

digits_in : (form : Sexpr) (low high : ℕ) → Spans low form high → DigitsIn low (expression_of form) high
digits_in = by_items (λ form. (low high : ℕ) → Spans low form high → DigitsIn low (expression_of form) high)
    (λ a low high h. subst (λ e. DigitsIn low e high) (sym (expression-Symbol a)) (at_symbol low (sexpr.Symbol a) a high h (at-Symbol a)))
    (λ a low high h. subst (λ e. DigitsIn low e high) (sym (expression-Numeral a)) (at_numeral low a high h (at-Numeral a)))
    (λ a low high h. subst (λ e. DigitsIn low e high) (sym (expression-Text a)) (at_symbol low (sexpr.Text a) a high h (at-Text a)))
    (λ a low high h. subst (λ e. DigitsIn low e high) (sym (expression-Keyword a)) (at_symbol low (sexpr.Keyword a) a high h (at-Keyword a)))
    (λ n all low high h. at_list low n high h)

range_order : (low : ℕ) (e : Exp) (high : ℕ) → DigitsIn low e high → InOrder low (range_faults e) high
range_order low e high d =
    let a = d.from in let b = d.within in
    bad_within (option_map_or is_out_of_range (literal_of e) false) 31 (digits_place e) low high (omega arith) (omega (arith, a, b)) d.to

with_range : (test : Bool) (low : ℕ) (e : Exp) (high : ℕ) → DigitsIn low e high → InOrder low (bad_if test 30 (place_of_exp e) ++ range_faults e) high
with_range test low e high d =
    let a = d.from in let b = d.within in let c = d.to in
    ordered_joined (65536 * low) (bad_if test 30 (place_of_exp e)) (65536 * place_of_exp e + 7681) (range_faults e) (65536 * high)
    (ordered_if test 30 (place_of_exp e) (65536 * low) (65536 * place_of_exp e + 7681) (omega arith) (omega (arith, a)) (omega arith))
    (ordered_if (option_map_or is_out_of_range (literal_of e) false) 31 (digits_place e) (65536 * place_of_exp e + 7681) (65536 * high) (omega arith) (omega (arith, b)) (omega (arith, c)))

example_argument_order : (wanted : List ℕ) (kinds : List Kind) (n low : ℕ) (e : Exp) (high : ℕ) → ExpIn low e high → InOrder low (example_argument_at wanted kinds n e) high
unfolding example_argument_at
example_argument_order wanted kinds n low e high h = by (slice_get kinds n)
  where
    d : DigitsIn low e high
    d = subst (λ x. DigitsIn low x high) (sym h.1) (digits_in h.0 low high h.2)

    term : (b : Bool) → InOrder low (if b then [] else bad_if true 30 (place_of_exp e) ++ range_faults e) high
    term true = nothing low high (bounds low (places_in h.0) high h.2)
    term false = with_range true low e high d

    by : (kind : Option Kind) → InOrder low (example_argument wanted kind e) high
    by None = range_order low e high d
    by (Some (Term t)) = term (is_wanted_name wanted e)
    by (Some (Input s)) = with_range (not (is_literal_of s e)) low e high d
    by (Some (Output s)) = with_range (not (is_literal_of s e)) low e high d

call_order : (sig : Declarations) (wanted : List ℕ) (type : TypeId) (low : ℕ) (call : Application) (high : ℕ) → CallIn low call high → InOrder low (example_faults_of sig wanted type call) high
call_order sig wanted type low call high h =
    let b = h.1 in
    order_joined low (bad_if (not (are_of_type type (kinds_named sig call.head.bytes) && nat_eq (length call.args) (length (kinds_named sig call.head.bytes)))) 30 call.place) (call.place + 1) (found_from (example_argument_at wanted (kinds_named sig call.head.bytes)) 0 call.args) high
    (bad_one (not (are_of_type type (kinds_named sig call.head.bytes) && nat_eq (length call.args) (length (kinds_named sig call.head.bytes)))) 30 call.place low (omega arith) h.0)
    (order_lower (call.head.place + 1) (call.place + 1) (found_from (example_argument_at wanted (kinds_named sig call.head.bytes)) 0 call.args) high (omega (arith, b))
    (faults_from ExpIn (example_argument_at wanted (kinds_named sig call.head.bytes)) (example_argument_order wanted (kinds_named sig call.head.bytes)) 0 (call.head.place + 1) call.args high h.2))

examples_ranked : (sig : Declarations) (wanted : Option Wanted) (low : ℕ) (form : Sexpr) (high : ℕ) → Spans low form high → Ranked (examples_faults sig wanted (calls_of deepest (item_of 1 form)))
examples_ranked sig None low form high h = none_ranked
examples_ranked sig (Some wanted) low form high h =
    let e = examples_in low form high h in
    (e.low, e.high, faults_each CallIn (example_faults_of sig wanted.name wanted.type) (call_order sig wanted.name wanted.type) e.low (calls_of deepest (item_of 1 form)) e.high e.calls)

-- Commands.

sorts_ranked : (s : State) (h : Head) (low : ℕ) (form : Sexpr) (high : ℕ) → Command h form → Spans low form high → Ranked (sorts s h form)
sorts_ranked s head.SetInfo low form high c span = none_ranked
sorts_ranked s head.DeclareTermTypes low form high c span = none_ranked
sorts_ranked s head.DefineFunsRec low form high c span = functions_ranked (declared_with s.signature (functions_of form)) low form high c span
sorts_ranked s head.SynthFun low form high c span = wanted_ranked s.signature low form high c span
sorts_ranked s head.Constraint low form high c span = examples_ranked s.signature s.wanted low form high span
sorts_ranked s head.CheckSynth low form high c span = none_ranked

pub sorts_in_order : (s : State) (h : Head) (low : ℕ) (form : Sexpr) (high : ℕ) → head_of (parts_of form) ≡ Some h → first (shapes form) ≡ None → Spans low form high → AreInOrder (sorts s h form)
sorts_in_order s h low form high word none span = ranked_in_order (sorts s h form) (sorts_ranked s h low form high (command_of h form word none) span)
