-- An expression whose sorts are right, and that may stand as an operand, has the sort that it states.
use Rattle.std.proofs.Common.{◌≡◌, ℕ, zero, suc, ◌+◌, ◌<◌, Bool, true, false, Option, Some, None, List, [], ◌∷◌, map, length, slice_get, get_or, refl, sym, ap, ap₂, subst, ◌∙◌, rules, arith}
use Rattle.std.specs.Prelude.{not, ◌&&◌, ◌||◌, nat_eq, unwrap_or, option_map, option_and_then, All, if◌then◌else◌}
use Rattle.std.specs.List.{list_all}
use Rattle.std.specs.Option.{option_map_or, option_flatten}
use Rattle.std.proofs.lemmas.Bool.{and_parts, or_parts}
use Rattle.std.proofs.lemmas.Bool.Decides.{nat_tests}
use Rattle.std.proofs.lemmas.List.{length-map}
use Rattle.std.proofs.lemmas.List.Elements.{All-nil, All-cons, All-head, All-tail}
use Rattle.std.proofs.lemmas.List.Quantifiers.{position-Some}
use Rattle.std.proofs.lemmas.Option.{slice_get-map}
use Rattle.sig_core.specs.declared.ids.RelId.{RelId}
use Rattle.sig_core.specs.declared.value.Sort.{Sort}
use Rattle.sig_core.specs.declared.value.Sort.TheVariants as sort
use Rattle.sig_core.specs.Lists.{all_some}
use Rattle.sig_core.specs.Names.{place_of, same_name}
use Rattle.sig_core.specs.Signatures.{Declarations}
use Rattle.sig_core.specs.Values.{sort_of}
use Rattle.sexpr_core.specs.declared.form.Atom as sexpr
use Rattle.expr_core.specs.declared.expr.Op.{Op}
use Rattle.expr_core.specs.declared.expr.Op.TheVariants as op
use Rattle.expr_core.specs.Expressions.{sort_in}
use Rattle.expr_core.specs.Sorts.{are_wanted, is_wanted, result_sort, stated_result, takes}
use Rattle.expr_core.specs.Sorts as wanting
use Rattle.expr_core.proofs.Equations.{sort-Slot, sort-Lit, sort-Apply}
use Rattle.rule_core.specs.declared.rule.Who.{Who}
use Rattle.rule_core.specs.declared.rule.Who.TheVariants.{Own, Child}
use Rattle.syntax_core.specs.declared.literal.Literal.{Literal}
use Rattle.syntax_core.specs.declared.literal.Literal.TheVariants.{Number, Truth}
use Rattle.syntax_core.specs.declared.syntax.Application.{Application}
use Rattle.syntax_core.specs.declared.syntax.Negative.{Negative}
use Rattle.syntax_core.specs.declared.syntax.Exp.{Exp, the_lemmas}
use Rattle.syntax_core.specs.declared.syntax.Exp as exp
use Rattle.syntax_core.specs.declared.syntax.Exp.TheFolds.{fold-Exp}
use Rattle.syntax_core.specs.declared.syntax.Exp.TheOpen.{Exp-F, Application-F}
use Rattle.syntax_core.specs.Literals.{sort_of_literal}
use Rattle.syntax_core.specs.Roles.{operator_named}
use Rattle.sort_core.specs.declared.open.OpenExp.{OpenExp}
use Rattle.sort_core.specs.declared.open.OpenNode.{OpenNode, out-OpenNode}
use Rattle.sort_core.specs.declared.open.OpenNode as node
use Rattle.sort_core.specs.declared.variables.Variables.{Variables}
use Rattle.name_core.specs.Faults.{bad_if, first, found_from}
use Rattle.name_core.specs.Names.{has}
use Rattle.name_core.proofs.Firsts.{first-found_from}
use Rattle.sort_core.specs.Opens.{application_node, literal_node, negated_in, opened, operation_node, relation_named, symbol_node}
use Rattle.sort_core.specs.Sorts.{Survey, faults_as, operand_faults_at, same_stated, stated_at, stated_sort, survey, survey_of_node, wanted_sort}
use Rattle.sort_core.proofs.Faultless.{is_true, none_both, none_parts, not_bad}
use Rattle.sort_core.proofs.Surveys.{survey-Apply, survey-Call, survey-Literal, survey-Slot, survey-Term}
use Rattle.making_core.specs.Rules.{expr_of, expr_of_node, value_of_literal}
use Rattle.making_core.proofs.CleanRules.{IsFine}
use Rattle.making_core.proofs.Counts.{Negation, Operation, applied, kept, minus, negation, opened-Apply, opened-Negative, opened-Numeral, opened-Symbol, operation, turned}
use Rattle.making_core.proofs.ExpInduction.{by_arguments}
use Rattle.making_core.proofs.Exprs.{expr-Slot, expr-Literal, expr-Apply}

-- Operators with as many operands as they take.

abbrev full_step : Exp-F Bool Bool → Bool
full_step (Exp-F.Symbol a) = true
full_step (Exp-F.Numeral a) = true
full_step (Exp-F.Negative n) = true
full_step (Exp-F.Apply inside) = inside

abbrev full_application : Application-F Bool Bool → Bool
full_application app = option_map_or (λ o. takes o (length app.args)) (operator_named app.head.bytes) true && list_all (λ b. b) app.args

-- each operator in the expression has as many operands as it takes
abbrev pub is_full : Exp → Bool
is_full = fold-Exp Bool Bool full_step full_application

pub full-Symbol : (a : sexpr.Atom) → is_full (exp.Symbol a) ≡ true
full-Symbol a = search (rules, the_lemmas)

pub full-Numeral : (a : sexpr.Atom) → is_full (exp.Numeral a) ≡ true
full-Numeral a = search (rules, the_lemmas)

pub full-Negative : (n : Negative) → is_full (exp.Negative n) ≡ true
full-Negative n = search (rules, the_lemmas)

full-map : (app : Application) →
    is_full (exp.Apply app) ≡ (option_map_or (λ o. takes o (length (map is_full app.args))) (operator_named app.head.bytes) true && list_all (λ b. b) (map is_full app.args))
full-map app = search (rules, the_lemmas)

pub full-Apply : (app : Application) →
    is_full (exp.Apply app) ≡ (option_map_or (λ o. takes o (length app.args)) (operator_named app.head.bytes) true && list_all (λ b. b) (map is_full app.args))
full-Apply app = full-map app ∙ ap (λ n. option_map_or (λ o. takes o n) (operator_named app.head.bytes) true && list_all (λ b. b) (map is_full app.args)) (length-map app.args is_full)

pub all_full : (es : List Exp) → list_all (λ b. b) (map is_full es) ≡ true → All (λ e. is_full e ≡ true) es
all_full [] h = All-nil (λ e. is_full e ≡ true)
all_full (e ∷ es) h =
    let parts = and_parts (is_full e) (list_all (λ b. b) (map is_full es)) h in
    All-cons (λ e. is_full e ≡ true) e es parts.0 (all_full es parts.1)

-- The sorts of operands.

-- an expression that states a sort, which it has
pub record HasSort (slots : List Sort) (e : OpenExp) : Type 0 where
  pub of : Sort
  pub stated : (survey slots e).stated ≡ Some of
  pub has : sort_in slots (expr_of e) ≡ Some of

-- an expression without faults inside, that isn't misplaced, has the sort that it states
abbrev pub IsSorted : List Sort → OpenExp → Type 0
IsSorted slots e = IsFine slots e → (survey slots e).is_misplaced ≡ false → HasSort slots e

pub record IsPlaced (slots : List Sort) (want : Option Sort) (e : OpenExp) : Type 0 where
  pub same : same_stated want (survey slots e).stated ≡ true
  pub placed : (survey slots e).is_misplaced ≡ false
  pub fine : IsFine slots e

-- what has no fault where a sort is wanted
pub placed_as : (slots : List Sort) (want : Option Sort) (e : OpenExp) → first (faults_as want (survey slots e)) ≡ None → IsPlaced slots want e
placed_as slots want e none =
    let parts = none_parts (bad_if (not (same_stated want (survey slots e).stated) || (survey slots e).is_misplaced) 30 (survey slots e).place) (survey slots e).inner none in
    let test = or_parts (not (same_stated want (survey slots e).stated)) (survey slots e).is_misplaced (not_bad _ 30 (survey slots e).place parts.0) in
    record { same = is_true (same_stated want (survey slots e).stated) test.0; placed = test.1; fine = parts.1 }

-- operands without faults have these sorts, and each the sort that is wanted of it
pub record HaveSorts (slots : List Sort) (want : ℕ → Option Sort) (n : ℕ) (kids : List OpenExp) : Type 0 where
  pub sorts : List Sort
  pub stated : map (λ (s : Survey). s.stated) (map (survey slots) kids) ≡ map Some sorts
  pub have : map (sort_in slots) (map expr_of kids) ≡ map Some sorts
  pub count : length sorts ≡ length kids
  pub wanted : (k : ℕ) (s : Sort) → slice_get sorts k ≡ Some s → same_stated (want (n + k)) (Some s) ≡ true

at_first : (slots : List Sort) (want : ℕ → Option Sort) (n : ℕ) (s : Sort) (ss : List Sort) → same_stated (want n) (Some s) ≡ true →
    ((k : ℕ) (t : Sort) → slice_get ss k ≡ Some t → same_stated (want (n + 1 + k)) (Some t) ≡ true) →
    (k : ℕ) (t : Sort) → slice_get (s ∷ ss) k ≡ Some t → same_stated (want (n + k)) (Some t) ≡ true
at_first slots want n s ss here later zero t at =
    let same : s ≡ t = cc in let e : n ≡ n + 0 = omega arith in
    subst (λ u. same_stated (want (n + 0)) (Some u) ≡ true) same (subst (λ m. same_stated (want m) (Some s) ≡ true) e here)
at_first slots want n s ss here later (suc k) t at =
    let e : n + 1 + k ≡ n + suc k = omega arith in subst (λ m. same_stated (want m) (Some t) ≡ true) e (later k t at)

pub have_sorts : (slots : List Sort) (o : Op) (stated : List (Option Sort)) (n : ℕ) (kids : List OpenExp) → All (IsSorted slots) kids →
    first (found_from (λ k e. faults_as (wanted_sort o stated k) e) n (map (survey slots) kids)) ≡ None → HaveSorts slots (wanted_sort o stated) n kids
have_sorts slots o stated n [] sorted none = record { sorts = []; stated = refl; have = refl; count = refl; wanted = λ k s at. absurd (cc) }
have_sorts slots o stated n (e ∷ es) sorted none =
    let parts = none_both (first (faults_as (wanted_sort o stated n) (survey slots e))) (first (found_from (λ k s. faults_as (wanted_sort o stated k) s) (n + 1) (map (survey slots) es)))
    (sym (first-found_from (λ k s. faults_as (wanted_sort o stated k) s) n (survey slots e) (map (survey slots) es)) ∙ none) in
    let here = placed_as slots (wanted_sort o stated n) e parts.0 in
    let has = All-head (IsSorted slots) e es sorted here.fine here.placed in
    let more = have_sorts slots o stated (n + 1) es (All-tail (IsSorted slots) e es sorted) parts.1 in
    record {
      sorts = has.of ∷ more.sorts;
      stated = ap₂ (λ x xs. x ∷ xs) has.stated more.stated;
      have = ap₂ (λ x xs. x ∷ xs) has.has more.have;
      count = ap (λ k. suc k) more.count;
      wanted = at_first slots (wanted_sort o stated) n has.of more.sorts (sym (ap (same_stated (wanted_sort o stated n)) has.stated) ∙ here.same) more.wanted;
    }

-- Operators.

all_there : (ss : List Sort) → all_some (map Some ss) ≡ Some ss
all_there [] = refl
all_there (s ∷ ss) = ap (option_map (λ xs. s ∷ xs)) (all_there ss)

stated_there : (ss : List Sort) (k : ℕ) → stated_at (map Some ss) k ≡ slice_get ss k
stated_there ss k = ap option_flatten (slice_get-map Some ss k) ∙ by (slice_get ss k)
  where
    by : (o : Option Sort) → option_flatten (option_map Some o) ≡ o
    by None = refl
    by (Some s) = refl

wanted_branch : (ss : List Sort) (k : ℕ) → (if nat_eq k 0 then Some sort.Bool else stated_at (map Some ss) 1) ≡ wanting.sort_of_branch ss k
wanted_branch ss zero = refl
wanted_branch ss (suc k) =
    let later : nat_eq (suc k) 0 ≡ false = grind (arith, nat_tests) in
    ap (λ b. if b then Some sort.Bool else stated_at (map Some ss) 1) later ∙ stated_there ss 1

-- the sort that is wanted of an operand, where each operand states one
same_wanted : (o : Op) (ss : List Sort) (k : ℕ) → wanted_sort o (map Some ss) k ≡ wanting.wanted_sort o ss k
same_wanted op.Not ss k = refl
same_wanted op.And ss k = refl
same_wanted op.Or ss k = refl
same_wanted op.Xor ss k = refl
same_wanted op.Implies ss k = refl
same_wanted op.Equal ss k = stated_there ss 0
same_wanted op.Distinct ss k = stated_there ss 0
same_wanted op.Ite ss k = wanted_branch ss k
same_wanted op.Add ss k = refl
same_wanted op.Minus ss k = refl
same_wanted op.Times ss k = refl
same_wanted op.Div ss k = refl
same_wanted op.Mod ss k = refl
same_wanted op.Abs ss k = refl
same_wanted op.Less ss k = refl
same_wanted op.AtMost ss k = refl
same_wanted op.Greater ss k = refl
same_wanted op.AtLeast ss k = refl

stated_branch : (ss : List Sort) → takes op.Ite (length ss) ≡ true → stated_sort op.Ite (map Some ss) ≡ Some (stated_result op.Ite ss)
stated_branch [] full = absurd (cc)
stated_branch (s ∷ []) full = absurd (cc)
stated_branch (s ∷ t ∷ ss) full = refl

-- the sort that is stated of the result
same_result : (o : Op) (ss : List Sort) → takes o (length ss) ≡ true → stated_sort o (map Some ss) ≡ Some (stated_result o ss)
same_result op.Not ss full = refl
same_result op.And ss full = refl
same_result op.Or ss full = refl
same_result op.Xor ss full = refl
same_result op.Implies ss full = refl
same_result op.Equal ss full = refl
same_result op.Distinct ss full = refl
same_result op.Ite ss full = stated_branch ss full
same_result op.Add ss full = refl
same_result op.Minus ss full = refl
same_result op.Times ss full = refl
same_result op.Div ss full = refl
same_result op.Mod ss full = refl
same_result op.Abs ss full = refl
same_result op.Less ss full = refl
same_result op.AtMost ss full = refl
same_result op.Greater ss full = refl
same_result op.AtLeast ss full = refl

is_the_wanted : (want : Option Sort) (s : Sort) → same_stated want (Some s) ≡ true → is_wanted want s ≡ true
is_the_wanted None s h = refl
is_the_wanted (Some t) s h = h

each_wanted : (want : ℕ → Option Sort) (n : ℕ) (ss : List Sort) → ((k : ℕ) (s : Sort) → slice_get ss k ≡ Some s → same_stated (want (n + k)) (Some s) ≡ true) → are_wanted want n ss ≡ true
each_wanted want n [] h = refl
each_wanted want n (s ∷ ss) h =
    let e : n + 0 ≡ n = omega arith in
    let here = subst (λ m. same_stated (want m) (Some s) ≡ true) e (h 0 s refl) in
    ap₂ (λ a b. a && b) (is_the_wanted (want n) s here)
    (each_wanted want (suc n) ss (λ k t at. let next : n + suc k ≡ suc n + k = omega arith in subst (λ m. same_stated (want m) (Some t) ≡ true) next (h (suc k) t at)))

result_by : (o : Op) (ss : List Sort) (a b : Bool) → a ≡ true → b ≡ true → (if a && b then Some (stated_result o ss) else None) ≡ Some (stated_result o ss)
result_by o ss true true p q = refl
result_by o ss false b p q = absurd (cc)
result_by o ss true false p q = absurd (cc)

-- an operator with operands without faults, of which it takes as many
pub apply_sorted : (slots : List Sort) (place : ℕ) (o : Op) (kids : List OpenExp) → takes o (length kids) ≡ true → All (IsSorted slots) kids →
    first (survey_of_node slots (node.Apply o kids) place).inner ≡ None →
    (of : Sort) × ((survey_of_node slots (node.Apply o kids) place).stated ≡ Some of) × (sort_in slots (expr_of_node (node.Apply o kids)) ≡ Some of)
unfolding operand_faults_at
apply_sorted slots place o kids full sorted fine =
    let stated : List (Option Sort) = map (λ (s : Survey). s.stated) (map (survey slots) kids) in
    let h = have_sorts slots o stated 0 kids sorted (sym (ap (λ (s : Survey). first s.inner) (survey-Apply slots place o kids)) ∙ fine) in
    let takes_all = ap (takes o) h.count ∙ full in
    let same : (k : ℕ) → wanted_sort o stated k ≡ wanting.wanted_sort o h.sorts k = λ k. ap (λ ss. wanted_sort o ss k) h.stated ∙ same_wanted o h.sorts k in
    let wanted = each_wanted (wanting.wanted_sort o h.sorts) 0 h.sorts (λ k s at. subst (λ w. same_stated w (Some s) ≡ true) (same (0 + k)) (h.wanted k s at)) in (
      stated_result o h.sorts,
      ap (λ (s : Survey). s.stated) (survey-Apply slots place o kids) ∙ ap (stated_sort o) h.stated ∙ same_result o h.sorts takes_all,
      ap (sort_in slots) (expr-Apply o kids) ∙ sort-Apply slots o (map expr_of kids) ∙ ap (λ os. option_and_then (result_sort o) (all_some os)) h.have
          ∙ ap (option_and_then (result_sort o)) (all_there h.sorts)
          ∙ result_by o h.sorts (takes o (length h.sorts)) (are_wanted (wanting.wanted_sort o h.sorts) 0 h.sorts) takes_all wanted,
    )

-- Expressions.

-- a node at a place has the sort that it states, if its sorts are right and it isn't misplaced
abbrev NodeSorted : List Sort → ℕ → OpenNode → Type 0
NodeSorted slots place n = first (survey_of_node slots n place).inner ≡ None → (survey_of_node slots n place).is_misplaced ≡ false →
    (of : Sort) × ((survey_of_node slots n place).stated ≡ Some of) × (sort_in slots (expr_of_node n) ≡ Some of)

literal_sort : (literal : Literal) → sort_of (value_of_literal literal) ≡ sort_of_literal literal
literal_sort (Number n) = refl
literal_sort (Truth b) = refl

sorted-Literal : (slots : List Sort) (place digits : ℕ) (literal : Literal) → NodeSorted slots place (node.Literal digits literal)
sorted-Literal slots place digits literal fine placed = (
  sort_of_literal literal,
  ap (λ (s : Survey). s.stated) (survey-Literal slots place digits literal),
  ap (sort_in slots) (expr-Literal digits literal) ∙ sort-Lit slots (value_of_literal literal) ∙ ap Some (literal_sort literal),
)

sorted-Slot : (slots : List Sort) (place k : ℕ) (s : Sort) → slice_get slots k ≡ Some s → NodeSorted slots place (node.Slot k)
sorted-Slot slots place k s at fine placed = (s, ap (λ (s : Survey). s.stated) (survey-Slot slots place k) ∙ at, ap (sort_in slots) (expr-Slot k) ∙ sort-Slot slots k ∙ at)

sorted-Term : (slots : List Sort) (place : ℕ) (who : Who) → NodeSorted slots place (node.Term who)
sorted-Term slots place who fine placed = let bad = sym (ap (λ (s : Survey). s.is_misplaced) (survey-Term slots place who)) ∙ placed in absurd (cc)

sorted-Call : (slots : List Sort) (place : ℕ) (relation : RelId) (args : List OpenExp) → NodeSorted slots place (node.Call relation args)
sorted-Call slots place relation args fine placed = let bad = sym (ap (λ (s : Survey). s.is_misplaced) (survey-Call slots place relation args)) ∙ placed in absurd (cc)

sorted-Apply : (slots : List Sort) (place : ℕ) (o : Op) (kids : List OpenExp) → takes o (length kids) ≡ true → All (IsSorted slots) kids → NodeSorted slots place (node.Apply o kids)
sorted-Apply slots place o kids full sorted fine placed = apply_sorted slots place o kids full sorted fine

sorted_minus : (slots : List Sort) (place : ℕ) (e : OpenExp) → Negation (out-OpenNode e.node) → All (IsSorted slots) (e ∷ []) →
    NodeSorted slots place (unwrap_or (negated_in (out-OpenNode e.node)) (node.Apply op.Minus (e ∷ [])))
sorted_minus slots place e (kept is) sorted = subst (λ o. NodeSorted slots place (unwrap_or o (node.Apply op.Minus (e ∷ [])))) (sym is) (sorted-Apply slots place op.Minus (e ∷ []) refl sorted)
sorted_minus slots place e (turned digits literal is) sorted = subst (λ o. NodeSorted slots place (unwrap_or o (node.Apply op.Minus (e ∷ [])))) (sym is) (sorted-Literal slots place digits literal)

sorted_operation : (slots : List Sort) (place : ℕ) (o : Op) (args : List OpenExp) → Operation o args → takes o (length args) ≡ true → All (IsSorted slots) args → NodeSorted slots place (operation_node o args)
sorted_operation slots place o args (applied is) full sorted = subst (NodeSorted slots place) (sym is) (sorted-Apply slots place o args full sorted)
sorted_operation slots place o args (minus e is alone node_is) full sorted =
    subst (NodeSorted slots place) (sym node_is) (sorted_minus slots place e (negation (out-OpenNode e.node)) (subst (All (IsSorted slots)) alone sorted))

sorted_application : (sig : Declarations) (slots : List Sort) (place : ℕ) (head : List ℕ) (args : List OpenExp) → option_map_or (λ o. takes o (length args)) (operator_named head) true ≡ true →
    All (IsSorted slots) args → NodeSorted slots place (application_node sig head args)
sorted_application sig slots place head args full sorted = by (operator_named head) full
  where
    by : (o : Option Op) → option_map_or (λ o. takes o (length args)) o true ≡ true → NodeSorted slots place (option_map_or (λ q. operation_node q args) o (node.Call (relation_named sig head) args))
    by (Some o) full = sorted_operation slots place o args (operation o args) full sorted
    by None full = sorted-Call slots place (relation_named sig head) args

there : (slots : List Sort) (k : ℕ) → k < length slots → (s : Sort) × (slice_get slots k ≡ Some s)
there slots k within = let s = get_or slots k sort.Bool in (s, at slots k within)
  where
    at : (slots : List Sort) (k : ℕ) → k < length slots → slice_get slots k ≡ Some (get_or slots k sort.Bool)
    at [] k within = absurd (omega arith)
    at (s ∷ ss) zero within = refl
    at (s ∷ ss) (suc k) within = at ss k (omega (arith, within))

sorted_symbol : (vars : Variables) (slots : List Sort) (place : ℕ) (a : sexpr.Atom) → length vars.slots ≡ length slots → NodeSorted slots place (symbol_node vars a)
sorted_symbol vars slots place a count = by (place_of vars.slots a.bytes) refl (place_of vars.children a.bytes) (has vars.own a.bytes)
  where
    by : (o : Option ℕ) → place_of vars.slots a.bytes ≡ o → (child : Option ℕ) (own : Bool) →
        NodeSorted slots place (option_map_or node.Slot o (option_map_or (λ k. node.Term (Child k)) child (if own then node.Term Own else literal_node a)))
    by (Some k) is child own =
        let found = position-Some (same_name a.bytes) vars.slots k [] is in
        let within = found.0 in
        let at = there slots k (omega (arith, within, count)) in
        sorted-Slot slots place k at.0 at.1
    by None is (Some child) own = sorted-Term slots place (Child child)
    by None is None true = sorted-Term slots place Own
    by None is None false = sorted-Literal slots place _ _

from_node : (slots : List Sort) (e : OpenExp) → NodeSorted slots e.place e.node → IsSorted slots e
from_node slots e h fine placed = let s = h fine placed in record { of = s.0; stated = s.1; has = s.2 }

-- an expression whose operators have as many operands as they take
pub sorted_exp : (sig : Declarations) (vars : Variables) (slots : List Sort) → length vars.slots ≡ length slots → (e : Exp) → is_full e ≡ true → IsSorted slots (opened sig vars e)
sorted_exp sig vars slots count = by_arguments (λ e. is_full e ≡ true → IsSorted slots (opened sig vars e))
    (λ a full. from_node slots (opened sig vars (exp.Symbol a)) (at (exp.Symbol a) _ (opened-Symbol sig vars a) (sorted_symbol vars slots a.place a count)))
    (λ a full. from_node slots (opened sig vars (exp.Numeral a)) (at (exp.Numeral a) _ (opened-Numeral sig vars a) (sorted-Literal slots a.place _ _)))
    (λ n full. from_node slots (opened sig vars (exp.Negative n)) (at (exp.Negative n) _ (opened-Negative sig vars n) (sorted-Literal slots n.place _ _)))
    (λ app each full. from_node slots (opened sig vars (exp.Apply app)) (at (exp.Apply app) _ (opened-Apply sig vars app) (application app each (sym (full-Apply app) ∙ full))))
  where
    at : (e : Exp) (o : OpenExp) → opened sig vars e ≡ o → NodeSorted slots o.place o.node → NodeSorted slots (opened sig vars e).place (opened sig vars e).node
    at e o is h = subst (λ (x : OpenExp). NodeSorted slots x.place x.node) (sym is) h

    sorted_args : (es : List Exp) → All (λ e. is_full e ≡ true → IsSorted slots (opened sig vars e)) es → All (λ e. is_full e ≡ true) es → All (IsSorted slots) (map (opened sig vars) es)
    sorted_args [] each full = All-nil (IsSorted slots)
    sorted_args (e ∷ es) each full =
        All-cons (IsSorted slots) (opened sig vars e) (map (opened sig vars) es)
        (All-head (λ e. is_full e ≡ true → IsSorted slots (opened sig vars e)) e es each (All-head (λ e. is_full e ≡ true) e es full))
        (sorted_args es (All-tail (λ e. is_full e ≡ true → IsSorted slots (opened sig vars e)) e es each) (All-tail (λ e. is_full e ≡ true) e es full))

    application : (app : Application) → All (λ e. is_full e ≡ true → IsSorted slots (opened sig vars e)) app.args →
        (option_map_or (λ o. takes o (length app.args)) (operator_named app.head.bytes) true && list_all (λ b. b) (map is_full app.args)) ≡ true →
        NodeSorted slots app.place (application_node sig app.head.bytes (map (opened sig vars) app.args))
    application app each full =
        let parts = and_parts (option_map_or (λ o. takes o (length app.args)) (operator_named app.head.bytes) true) (list_all (λ b. b) (map is_full app.args)) full in
        let count = sym (length-map app.args (opened sig vars)) in
        sorted_application sig slots app.place app.head.bytes (map (opened sig vars) app.args)
        (subst (λ n. option_map_or (λ o. takes o n) (operator_named app.head.bytes) true ≡ true) count parts.0)
        (sorted_args app.args each (all_full app.args parts.1))
