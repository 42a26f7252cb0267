-- The faults of sorts in an expression are found from the left.
use Rattle.std.proofs.Common.{◌≡◌, ℕ, ◌+◌, ◌*◌, ◌<◌, ◌≤◌, Bool, true, false, Option, Some, None, List, [], ◌∷◌, ◌++◌, map, drop, refl, sym, ap, ◌∙◌, subst, rules, arith}
use Rattle.std.specs.Prelude.{pos, negsuc, All, not, ◌||◌, codes, unwrap_or, if◌then◌else◌}
use Rattle.std.specs.List.{flat_map}
use Rattle.std.specs.Option.{option_map_or}
use Rattle.std.proofs.lemmas.List.Elements.{All-head, All-tail}
use Rattle.sig_core.specs.declared.ids.RelId.{RelId}
use Rattle.sig_core.specs.declared.value.Sort.{Sort}
use Rattle.sig_core.specs.Names.{place_of, same_name}
use Rattle.sig_core.specs.Signatures.{Declarations}
use Rattle.sexpr_core.specs.declared.form.Atom.{Atom}
use Rattle.sexpr_core.specs.declared.form.Nest.{Nest}
use Rattle.sexpr_core.specs.declared.form.Sexpr.{Sexpr}
use Rattle.sexpr_core.specs.declared.form.Sexpr as sexpr
use Rattle.sexpr_core.specs.Access as access
use Rattle.expr_core.specs.declared.expr.Op.{Op}
use Rattle.expr_core.specs.declared.expr.Op.TheVariants as op
use Rattle.rule_core.specs.declared.rule.Who.{Who}
use Rattle.rule_core.specs.declared.rule.Who.TheVariants.{Own, Child}
use Rattle.syntax_core.specs.declared.fault.Fault.{Fault}
use Rattle.syntax_core.specs.declared.literal.Literal.{Literal}
use Rattle.syntax_core.specs.declared.literal.Literal.TheVariants.{Number, Truth}
use Rattle.syntax_core.specs.declared.syntax.Exp.{Exp}
use Rattle.syntax_core.specs.declared.syntax.Exp as exp
use Rattle.syntax_core.specs.Literals.{is_out_of_range, negative, positive}
use Rattle.syntax_core.specs.Roles.{operator_named}
use Rattle.syntax_core.specs.Syntax.{application_of, expression_of, negated_numeral, numeral_of_exp, symbol_of_exp}
use Rattle.syntax_core.proofs.ListExps.{expression-Keyword, expression-List, expression-Numeral, expression-Symbol, expression-Text, numeral-List, numeral-Numeral, numeral-Symbol}
use Rattle.syntax_core.proofs.Misfitting.{parts-List}
use Rattle.name_core.specs.Faults.{bad_if, found_from}
use Rattle.name_core.specs.Names.{has}
use Rattle.sort_core.specs.declared.open.OpenExp.{OpenExp}
use Rattle.sort_core.specs.declared.open.OpenNode.{OpenNode, out-OpenNode, roll-OpenNode, roll-out-OpenNode}
use Rattle.sort_core.specs.declared.open.OpenNode.{the_lemmas as node_lemmas}
use Rattle.sort_core.specs.declared.open.OpenNode as node
use Rattle.sort_core.specs.declared.open.OpenNode.TheOpen.{OpenNode-F}
use Rattle.sort_core.specs.declared.open.OpenNode.TheVariants.{rolls-Slot, rolls-Term, rolls-Literal, rolls-Apply, rolls-Call}
use Rattle.sort_core.specs.declared.variables.Variables.{Variables}
use Rattle.sort_core.specs.Opens.{application_node, literal_node, negated_in, opened, operation_node, relation_named, symbol_node}
use Rattle.sort_core.specs.Sorts.{Survey, faults_as, operand_faults, operand_faults_at, same_stated, survey, survey_of_node, wanted_sort}
use Rattle.sort_core.proofs.Surveys.{survey-Apply, survey-Call, survey-Literal, survey-Slot, survey-Term}
use Rattle.making_core.proofs.Counts.{Operation, applied, minus, opened-Apply, opened-Negative, opened-Numeral, opened-Symbol, operation}
use Rattle.making_core.proofs.FormInduction.{by_items}
use Rattle.making_core.proofs.ShapedForms.{at-Keyword, at-List, at-Numeral, at-Symbol, at-Text}
use Rattle.making_core.proofs.Smallness.{parts_of_node}
use Rattle.elab_laws.specs.Places.{places_in}
use Rattle.elab_laws.proofs.Chains.{Chain, InOrder, chain_lower, nothing, order_joined, order_lower, span_place, spans_chain}
use Rattle.elab_laws.proofs.InPlaces.{ExpIn}
use Rattle.elab_laws.proofs.Rising.{Ordered, bounds, ordered_if, ordered_joined, ordered_lower}
use Rattle.elab_laws.proofs.SpelledPlaces.{SpanAll, Spans, level_within}

parts-Slot : (k : ℕ) → parts_of_node (node.Slot k) ≡ []
parts-Slot k = search (rules, node_lemmas)

parts-Term : (who : Who) → parts_of_node (node.Term who) ≡ []
parts-Term who = search (rules, node_lemmas)

parts-Literal : (place : ℕ) (literal : Literal) → parts_of_node (node.Literal place literal) ≡ []
parts-Literal place literal = search (rules, node_lemmas)

parts-Apply : (o : Op) (kids : List OpenExp) → parts_of_node (node.Apply o kids) ≡ kids
parts-Apply o kids = search (rules, node_lemmas)

parts-Call : (relation : RelId) (args : List OpenExp) → parts_of_node (node.Call relation args) ≡ args
parts-Call relation args = search (rules, node_lemmas)

-- the survey of a node keeps its place
placed_by : (slots : List Sort) (n : OpenNode) (place : ℕ) (x : OpenNode-F OpenNode OpenExp) → n ≡ roll-OpenNode x → (survey_of_node slots n place).place ≡ place
placed_by slots n place (OpenNode-F.Slot k) is = ap (λ m. (survey_of_node slots m place).place) (is ∙ rolls-Slot k) ∙ ap (λ (s : Survey). s.place) (survey-Slot slots place k)
placed_by slots n place (OpenNode-F.Term who) is = ap (λ m. (survey_of_node slots m place).place) (is ∙ rolls-Term who) ∙ ap (λ (s : Survey). s.place) (survey-Term slots place who)
placed_by slots n place (OpenNode-F.Literal digits literal) is = ap (λ m. (survey_of_node slots m place).place) (is ∙ rolls-Literal digits literal) ∙ ap (λ (s : Survey). s.place) (survey-Literal slots place digits literal)
placed_by slots n place (OpenNode-F.Apply o kids) is = ap (λ m. (survey_of_node slots m place).place) (is ∙ rolls-Apply o kids) ∙ ap (λ (s : Survey). s.place) (survey-Apply slots place o kids)
placed_by slots n place (OpenNode-F.Call relation args) is = ap (λ m. (survey_of_node slots m place).place) (is ∙ rolls-Call relation args) ∙ ap (λ (s : Survey). s.place) (survey-Call slots place relation args)

survey_place : (slots : List Sort) (x : OpenExp) → (survey slots x).place ≡ x.place
survey_place slots x = placed_by slots x.node x.place (out-OpenNode x.node) (sym (roll-out-OpenNode x.node))

-- an expression stands within bounds, and the faults inside it come after reason 30 at its place
abbrev pub SurveyIn : List Sort → ℕ → OpenExp → ℕ → Type 0
SurveyIn slots low x high = (low ≤ x.place) × (x.place < high) × Ordered (65536 * x.place + 7681) (survey slots x).inner (65536 * high)

-- the same of a node at a place
abbrev NodeSurveyIn : List Sort → ℕ → OpenNode → ℕ → Type 0
NodeSurveyIn slots place n high = Ordered (65536 * place + 7681) (survey_of_node slots n place).inner (65536 * high) × Chain (SurveyIn slots) (place + 1) (parts_of_node n) high

pub bad_first : (slots : List Sort) (test : Bool) (low : ℕ) (x : OpenExp) (high : ℕ) → SurveyIn slots low x high → InOrder low (bad_if test 30 x.place ++ (survey slots x).inner) high
bad_first slots test low x high h =
    let from = h.0 in
    ordered_joined (65536 * low) (bad_if test 30 x.place) (65536 * x.place + 7681) (survey slots x).inner (65536 * high)
    (ordered_if test 30 x.place (65536 * low) (65536 * x.place + 7681) (omega arith) (omega (arith, from)) (omega arith)) h.2

pub as_order : (slots : List Sort) (want : Option Sort) (low : ℕ) (x : OpenExp) (high : ℕ) → SurveyIn slots low x high → InOrder low (faults_as want (survey slots x)) high
as_order slots want low x high h =
    subst (λ p. InOrder low (bad_if (not (same_stated want (survey slots x).stated) || (survey slots x).is_misplaced) 30 p ++ (survey slots x).inner) high) (sym (survey_place slots x))
    (bad_first slots (not (same_stated want (survey slots x).stated) || (survey slots x).is_misplaced) low x high h)

pub inner_order : (slots : List Sort) (low : ℕ) (x : OpenExp) (high : ℕ) → SurveyIn slots low x high → InOrder low (survey slots x).inner high
inner_order slots low x high h = let from = h.0 in ordered_lower (65536 * x.place + 7681) (65536 * low) (survey slots x).inner (65536 * high) (omega (arith, from)) h.2

operands_order : (slots : List Sort) (o : Op) (all : List Survey) (n low : ℕ) (kids : List OpenExp) (high : ℕ) → Chain (SurveyIn slots) low kids high → InOrder low (found_from (operand_faults_at o all) n (map (survey slots) kids)) high
unfolding operand_faults_at
operands_order slots o all n low [] high h = nothing low high h
operands_order slots o all n low (x ∷ xs) high h =
    order_joined low (faults_as (wanted_sort o (map (λ (e : Survey). e.stated) all) n) (survey slots x)) h.1 (found_from (operand_faults_at o all) (n + 1) (map (survey slots) xs)) high
    (order_lower h.0 low (faults_as (wanted_sort o (map (λ (e : Survey). e.stated) all) n) (survey slots x)) h.1 h.2 (as_order slots (wanted_sort o (map (λ (e : Survey). e.stated) all) n) h.0 x h.1 h.3))
    (operands_order slots o all (n + 1) h.1 xs high h.4)

inners_order : (slots : List Sort) (low : ℕ) (args : List OpenExp) (high : ℕ) → Chain (SurveyIn slots) low args high → InOrder low (flat_map (λ (e : Survey). e.inner) (map (survey slots) args)) high
inners_order slots low [] high h = nothing low high h
inners_order slots low (x ∷ xs) high h =
    order_joined low (survey slots x).inner h.1 (flat_map (λ (e : Survey). e.inner) (map (survey slots) xs)) high
    (order_lower h.0 low (survey slots x).inner h.1 h.2 (inner_order slots h.0 x h.1 h.3)) (inners_order slots h.1 xs high h.4)

-- Nodes.

inner_is : (slots : List Sort) (place : ℕ) (n : OpenNode) (inner : List Fault) (high : ℕ) → (survey_of_node slots n place).inner ≡ inner → Ordered (65536 * place + 7681) inner (65536 * high) →
    Ordered (65536 * place + 7681) (survey_of_node slots n place).inner (65536 * high)
inner_is slots place n inner high is h = subst (λ fs. Ordered (65536 * place + 7681) fs (65536 * high)) (sym is) h

no_parts : (slots : List Sort) (place : ℕ) (n : OpenNode) (high : ℕ) → parts_of_node n ≡ [] → place < high → Chain (SurveyIn slots) (place + 1) (parts_of_node n) high
no_parts slots place n high is within = subst (λ ps. Chain (SurveyIn slots) (place + 1) ps high) (sym is) (omega (arith, within))

in-Slot : (slots : List Sort) (place k high : ℕ) → place < high → NodeSurveyIn slots place (node.Slot k) high
in-Slot slots place k high within =
    (inner_is slots place (node.Slot k) [] high (ap (λ (s : Survey). s.inner) (survey-Slot slots place k)) (omega (arith, within)), no_parts slots place (node.Slot k) high (parts-Slot k) within)

in-Term : (slots : List Sort) (place : ℕ) (who : Who) (high : ℕ) → place < high → NodeSurveyIn slots place (node.Term who) high
in-Term slots place who high within =
    (inner_is slots place (node.Term who) [] high (ap (λ (s : Survey). s.inner) (survey-Term slots place who)) (omega (arith, within)), no_parts slots place (node.Term who) high (parts-Term who) within)

in-Literal : (slots : List Sort) (place digits : ℕ) (literal : Literal) (high : ℕ) → place ≤ digits → digits < high → NodeSurveyIn slots place (node.Literal digits literal) high
in-Literal slots place digits literal high from to = (
  inner_is slots place (node.Literal digits literal) (bad_if (is_out_of_range literal) 31 digits) high (ap (λ (s : Survey). s.inner) (survey-Literal slots place digits literal))
      (ordered_if (is_out_of_range literal) 31 digits (65536 * place + 7681) (65536 * high) (omega arith) (omega (arith, from)) (omega (arith, to))),
  no_parts slots place (node.Literal digits literal) high (parts-Literal digits literal) (omega (arith, from, to)),
)

-- a literal in range has no fault, wherever its digits stand
in-Ranged : (slots : List Sort) (place digits : ℕ) (literal : Literal) (high : ℕ) → is_out_of_range literal ≡ false → place < high → NodeSurveyIn slots place (node.Literal digits literal) high
in-Ranged slots place digits literal high ranged within = (
  inner_is slots place (node.Literal digits literal) [] high (ap (λ (s : Survey). s.inner) (survey-Literal slots place digits literal) ∙ ap (λ b. bad_if b 31 digits) ranged) (omega (arith, within)),
  no_parts slots place (node.Literal digits literal) high (parts-Literal digits literal) within,
)

in-Apply : (slots : List Sort) (place : ℕ) (o : Op) (kids : List OpenExp) (high : ℕ) → Chain (SurveyIn slots) (place + 1) kids high → NodeSurveyIn slots place (node.Apply o kids) high
in-Apply slots place o kids high h = (
  inner_is slots place (node.Apply o kids) (operand_faults o (map (survey slots) kids)) high (ap (λ (s : Survey). s.inner) (survey-Apply slots place o kids))
      (ordered_lower (65536 * (place + 1)) (65536 * place + 7681) (operand_faults o (map (survey slots) kids)) (65536 * high) (omega arith) (operands_order slots o (map (survey slots) kids) 0 (place + 1) kids high h)),
  subst (λ ps. Chain (SurveyIn slots) (place + 1) ps high) (sym (parts-Apply o kids)) h,
)

in-Call : (slots : List Sort) (place : ℕ) (relation : RelId) (args : List OpenExp) (high : ℕ) → Chain (SurveyIn slots) (place + 1) args high → NodeSurveyIn slots place (node.Call relation args) high
in-Call slots place relation args high h = (
  inner_is slots place (node.Call relation args) (flat_map (λ (e : Survey). e.inner) (map (survey slots) args)) high (ap (λ (s : Survey). s.inner) (survey-Call slots place relation args))
      (ordered_lower (65536 * (place + 1)) (65536 * place + 7681) (flat_map (λ (e : Survey). e.inner) (map (survey slots) args)) (65536 * high) (omega arith) (inners_order slots (place + 1) args high h)),
  subst (λ ps. Chain (SurveyIn slots) (place + 1) ps high) (sym (parts-Call relation args)) h,
)

in_minus : (slots : List Sort) (place : ℕ) (e : OpenExp) (high : ℕ) (x : OpenNode-F OpenNode OpenExp) → place < high → Chain (SurveyIn slots) (place + 1) (e ∷ []) high →
    NodeSurveyIn slots place (unwrap_or (negated_in x) (node.Apply op.Minus (e ∷ []))) high
in_minus slots place e high (OpenNode-F.Slot k) within h = in-Apply slots place op.Minus (e ∷ []) high h
in_minus slots place e high (OpenNode-F.Term who) within h = in-Apply slots place op.Minus (e ∷ []) high h
in_minus slots place e high (OpenNode-F.Literal digits (Number None)) within h = in-Apply slots place op.Minus (e ∷ []) high h
in_minus slots place e high (OpenNode-F.Literal digits (Number (Some (pos n)))) within h = in-Ranged slots place digits _ high refl within
in_minus slots place e high (OpenNode-F.Literal digits (Number (Some (negsuc n)))) within h = in-Apply slots place op.Minus (e ∷ []) high h
in_minus slots place e high (OpenNode-F.Literal digits (Truth b)) within h = in-Apply slots place op.Minus (e ∷ []) high h
in_minus slots place e high (OpenNode-F.Apply o kids) within h = in-Apply slots place op.Minus (e ∷ []) high h
in_minus slots place e high (OpenNode-F.Call relation args) within h = in-Apply slots place op.Minus (e ∷ []) high h

in_operation : (slots : List Sort) (place : ℕ) (o : Op) (args : List OpenExp) (high : ℕ) → Operation o args → place < high → Chain (SurveyIn slots) (place + 1) args high → NodeSurveyIn slots place (operation_node o args) high
in_operation slots place o args high (applied is) within h = subst (λ n. NodeSurveyIn slots place n high) (sym is) (in-Apply slots place o args high h)
in_operation slots place o args high (minus e is alone node_is) within h =
    subst (λ n. NodeSurveyIn slots place n high) (sym node_is) (in_minus slots place e high (out-OpenNode e.node) within (subst (λ xs. Chain (SurveyIn slots) (place + 1) xs high) alone h))

in_application : (sig : Declarations) (slots : List Sort) (place : ℕ) (name : List ℕ) (args : List OpenExp) (high : ℕ) → place < high → Chain (SurveyIn slots) (place + 1) args high →
    NodeSurveyIn slots place (application_node sig name args) high
in_application sig slots place name args high within h = by (operator_named name)
  where
    by : (o : Option Op) → NodeSurveyIn slots place (option_map_or (λ q. operation_node q args) o (node.Call (relation_named sig name) args)) high
    by (Some o) = in_operation slots place o args high (operation o args) within h
    by None = in-Call slots place (relation_named sig name) args high h

in_symbol : (vars : Variables) (slots : List Sort) (a : Atom) (high : ℕ) → a.place < high → NodeSurveyIn slots a.place (symbol_node vars a) high
in_symbol vars slots a high within = by (place_of vars.slots a.bytes) (place_of vars.children a.bytes) (has vars.own a.bytes)
  where
    by : (slot child : Option ℕ) (own : Bool) → NodeSurveyIn slots a.place (option_map_or node.Slot slot (option_map_or (λ k. node.Term (Child k)) child (if own then node.Term Own else literal_node a))) high
    by (Some k) child own = in-Slot slots a.place k high within
    by None (Some k) own = in-Term slots a.place (Child k) high within
    by None None true = in-Term slots a.place Own high within
    by None None false = in-Literal slots a.place a.place _ high (omega arith) within

-- Forms.

-- the expression that a form is read as stands within bounds, and so do its parts
pub record OpenIn (sig : Declarations) (vars : Variables) (slots : List Sort) (low : ℕ) (e : Exp) (high : ℕ) : Type 0 where
  pub whole : SurveyIn slots low (opened sig vars e) high
  pub parts : Chain (SurveyIn slots) ((opened sig vars e).place + 1) (parts_of_node (opened sig vars e).node) high

open_by : (sig : Declarations) (vars : Variables) (slots : List Sort) (low : ℕ) (e : Exp) (high : ℕ) (x : OpenExp) → opened sig vars e ≡ x → low ≤ x.place → x.place < high → NodeSurveyIn slots x.place x.node high →
    OpenIn sig vars slots low e high
open_by sig vars slots low e high x is from to h =
    let made : SurveyIn slots low x high × Chain (SurveyIn slots) (x.place + 1) (parts_of_node x.node) high = ((from, to, h.0), h.1) in
    let back = subst (λ (y : OpenExp). SurveyIn slots low y high × Chain (SurveyIn slots) (y.place + 1) (parts_of_node y.node) high) (sym is) made in
    record { whole = back.0; parts = back.1 }

abbrev FormIn : Declarations → Variables → List Sort → Sexpr → Type 0
FormIn sig vars slots form = (low high : ℕ) → Spans low form high → OpenIn sig vars slots low (expression_of form) high

pub numeral_place : (form : Sexpr) (a : Atom) → numeral_of_exp (expression_of form) ≡ Some a → a.place ≡ access.place_of form
numeral_place = by_items (λ form. (a : Atom) → numeral_of_exp (expression_of form) ≡ Some a → a.place ≡ access.place_of form)
    (λ a x is. let same : None ≡ Some x = sym (ap numeral_of_exp (expression-Symbol a) ∙ numeral-Symbol a) ∙ is in absurd (cc))
    (λ a x is. let same : Some a ≡ Some x = sym (ap numeral_of_exp (expression-Numeral a) ∙ numeral-Numeral a) ∙ is in let e : a ≡ x = cc in sym (at-Numeral a ∙ ap (λ (y : Atom). y.place) e))
    (λ a x is. let same : None ≡ Some x = sym (ap numeral_of_exp (expression-Text a) ∙ numeral-Symbol a) ∙ is in absurd (cc))
    (λ a x is. let same : None ≡ Some x = sym (ap numeral_of_exp (expression-Keyword a) ∙ numeral-Symbol a) ∙ is in absurd (cc))
    (λ n all x is. let same : None ≡ Some x = sym (numeral-List n) ∙ is in absurd (cc))

-- the numeral after a minus stands at its form
pub negated_place : (low : ℕ) (items : List Sexpr) (high : ℕ) (a : Atom) → Chain Spans low items high → negated_numeral (map expression_of items) ≡ Some a → (low ≤ a.place) × (a.place < high)
negated_place low [] high a h is = absurd (cc)
negated_place low (x ∷ []) high a h is = absurd (cc)
negated_place low (x ∷ y ∷ []) high a h is = by (option_map_or (λ a. same_name (codes "-") a.bytes) (symbol_of_exp (expression_of x)) false) is
  where
    by : (b : Bool) → (if b then numeral_of_exp (expression_of y) else None) ≡ Some a → (low ≤ a.place) × (a.place < high)
    by false e = absurd (cc)
    by true e =
        let at = numeral_place y a e in
        let first = bounds h.0 (places_in x) h.1 h.3 in
        let node = span_place h.4.0 y h.4.1 h.4.3 in
        let a0 = node.0 in let a1 = node.1 in let h2 = h.2 in let h42 = h.4.2 in let end = h.4.4 in
        (omega (arith, at, first, a0, h2, h42), omega (arith, at, a1, end))
negated_place low (x ∷ y ∷ z ∷ items) high a h is = absurd (cc)

args_in : (sig : Declarations) (vars : Variables) (slots : List Sort) (low : ℕ) (items : List Sexpr) (high : ℕ) → All (FormIn sig vars slots) items → Chain Spans low items high →
    Chain (SurveyIn slots) low (map (opened sig vars) (map expression_of items)) high
args_in sig vars slots low [] high all h = h
args_in sig vars slots low (x ∷ xs) high all h =
    (h.0, h.1, h.2, (All-head (FormIn sig vars slots) x xs all h.0 h.1 h.3).whole, args_in sig vars slots h.1 xs high (All-tail (FormIn sig vars slots) x xs all) h.4)

rest_in : (sig : Declarations) (vars : Variables) (slots : List Sort) (low : ℕ) (items : List Sexpr) (high : ℕ) → All (FormIn sig vars slots) items → Chain Spans low items high →
    Chain (SurveyIn slots) low (map (opened sig vars) (drop 1 (map expression_of items))) high
rest_in sig vars slots low [] high all h = h
rest_in sig vars slots low (x ∷ xs) high all h =
    let first = bounds h.0 (places_in x) h.1 h.3 in let h2 = h.2 in
    chain_lower (SurveyIn slots) h.1 low (map (opened sig vars) (map expression_of xs)) high (omega (arith, first, h2)) (args_in sig vars slots h.1 xs high (All-tail (FormIn sig vars slots) x xs all) h.4)

nest_in : (sig : Declarations) (vars : Variables) (slots : List Sort) (n : Nest) → All (FormIn sig vars slots) n.items → FormIn sig vars slots (sexpr.List n)
nest_in sig vars slots n all low high h =
    subst (λ e. OpenIn sig vars slots low e high) (sym (expression-List n)) (by (negated_numeral (map expression_of n.items)) refl)
  where
    span : (low ≤ n.place) × (n.place < high)
    span = let node = span_place low (sexpr.List n) high h in let a = node.0 in let b = node.1 in let at = at-List n in (omega (arith, a, at), omega (arith, b, at))

    items : Chain Spans (n.place + 1) n.items high
    items = spans_chain (n.place + 1) n.items high
        (subst (λ p. SpanAll (p + 1) n.items high) (at-List n) (subst (λ ps. SpanAll (access.place_of (sexpr.List n) + 1) ps high) (parts-List n) (level_within low (sexpr.List n) high h).1))

    by : (o : Option Atom) → negated_numeral (map expression_of n.items) ≡ o →
        OpenIn sig vars slots low (option_map_or (λ numeral. exp.Negative (record { place = n.place; numeral = numeral })) o (exp.Apply (application_of n.place (map expression_of n.items)))) high
    by (Some a) is =
        let at = negated_place (n.place + 1) n.items high a items is in let from = at.0 in
        open_by sig vars slots low (exp.Negative (record { place = n.place; numeral = a })) high _ (opened-Negative sig vars (record { place = n.place; numeral = a })) span.0 span.1
        (in-Literal slots n.place a.place (negative a.bytes) high (omega (arith, from)) at.1)
    by None is =
        open_by sig vars slots low (exp.Apply (application_of n.place (map expression_of n.items))) high _ (opened-Apply sig vars (application_of n.place (map expression_of n.items))) span.0 span.1
        (in_application sig slots n.place (application_of n.place (map expression_of n.items)).head.bytes (map (opened sig vars) (drop 1 (map expression_of n.items))) high span.1
        (rest_in sig vars slots (n.place + 1) n.items high all items))

symbol_in : (sig : Declarations) (vars : Variables) (slots : List Sort) (form : Sexpr) (a : Atom) → expression_of form ≡ exp.Symbol a → access.place_of form ≡ a.place → FormIn sig vars slots form
symbol_in sig vars slots form a is at low high h =
    let node = span_place low form high h in let from = node.0 in let to = node.1 in
    subst (λ e. OpenIn sig vars slots low e high) (sym is)
    (open_by sig vars slots low (exp.Symbol a) high _ (opened-Symbol sig vars a) (omega (arith, from, at)) (omega (arith, to, at)) (in_symbol vars slots a high (omega (arith, to, at))))

numeral_in : (sig : Declarations) (vars : Variables) (slots : List Sort) (a : Atom) → FormIn sig vars slots (sexpr.Numeral a)
numeral_in sig vars slots a low high h =
    let node = span_place low (sexpr.Numeral a) high h in let from = node.0 in let to = node.1 in let at = at-Numeral a in
    subst (λ e. OpenIn sig vars slots low e high) (sym (expression-Numeral a))
    (open_by sig vars slots low (exp.Numeral a) high _ (opened-Numeral sig vars a) (omega (arith, from, at)) (omega (arith, to, at))
    (in-Literal slots a.place a.place (positive a.bytes) high (omega arith) (omega (arith, to, at))))

pub form_in : (sig : Declarations) (vars : Variables) (slots : List Sort) (form : Sexpr) → FormIn sig vars slots form
form_in sig vars slots = by_items (FormIn sig vars slots)
    (λ a. symbol_in sig vars slots (sexpr.Symbol a) a (expression-Symbol a) (at-Symbol a))
    (numeral_in sig vars slots)
    (λ a. symbol_in sig vars slots (sexpr.Text a) a (expression-Text a) (at-Text a))
    (λ a. symbol_in sig vars slots (sexpr.Keyword a) a (expression-Keyword a) (at-Keyword a))
    (nest_in sig vars slots)

pub open_in : (sig : Declarations) (vars : Variables) (slots : List Sort) (low : ℕ) (e : Exp) (high : ℕ) → ExpIn low e high → OpenIn sig vars slots low e high
open_in sig vars slots low e high h = subst (λ x. OpenIn sig vars slots low x high) (sym h.1) (form_in sig vars slots h.0 low high h.2)
