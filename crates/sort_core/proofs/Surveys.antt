-- The survey of each kind of expression, and of operands.
use Rattle.std.proofs.Common.{◌≡◌, ◌≤◌, ℕ, true, false, Some, None, List, [], map, length, slice_get, sym, ap, ◌∙◌, rules}
use Rattle.std.specs.Prelude.{option_map}
use Rattle.std.specs.Option.{option_flatten}
use Rattle.std.specs.List.{flat_map}
use Rattle.std.proofs.lemmas.Option.{slice_get-map, slice_get_past}
use Rattle.sig_core.specs.declared.ids.RelId.{RelId}
use Rattle.sig_core.specs.declared.value.Sort.{Sort}
use Rattle.sig_core.specs.declared.value.Sort.TheVariants as sort
use Rattle.expr_core.specs.declared.expr.Op.{Op}
use Rattle.syntax_core.specs.declared.literal.Literal.{Literal}
use Rattle.rule_core.specs.declared.rule.Who.{Who}
use Rattle.syntax_core.specs.Literals.{is_out_of_range, sort_of_literal}
use Rattle.sort_core.specs.declared.open.OpenExp.{OpenExp}
use Rattle.sort_core.specs.declared.open.OpenNode.{the_lemmas}
use Rattle.sort_core.specs.declared.open.OpenNode as node
use Rattle.name_core.specs.Faults.{bad_if, first}
use Rattle.sort_core.specs.Sorts.{Survey, operand_faults, stated_at, stated_sort, survey, survey_of_node}

pub survey-Slot : (slots : List Sort) (place k : ℕ) →
    survey_of_node slots (node.Slot k) place ≡ record { place = place; stated = slice_get slots k; is_misplaced = false; inner = [] }
survey-Slot slots place k = search (rules, the_lemmas)

pub survey-Term : (slots : List Sort) (place : ℕ) (who : Who) →
    survey_of_node slots (node.Term who) place ≡ record { place = place; stated = None; is_misplaced = true; inner = [] }
survey-Term slots place who = search (rules, the_lemmas)

pub survey-Literal : (slots : List Sort) (place digits : ℕ) (literal : Literal) →
    survey_of_node slots (node.Literal digits literal) place ≡ record { place = place; stated = Some (sort_of_literal literal); is_misplaced = false; inner = bad_if (is_out_of_range literal) 31 digits }
survey-Literal slots place digits literal = search (rules, the_lemmas)

pub survey-Apply : (slots : List Sort) (place : ℕ) (op : Op) (kids : List OpenExp) →
    survey_of_node slots (node.Apply op kids) place ≡
    record { place = place; stated = stated_sort op (map (λ e. e.stated) (map (survey slots) kids)); is_misplaced = false; inner = operand_faults op (map (survey slots) kids) }
survey-Apply slots place op kids = search (rules, the_lemmas)

pub survey-Call : (slots : List Sort) (place : ℕ) (relation : RelId) (args : List OpenExp) →
    survey_of_node slots (node.Call relation args) place ≡
    record { place = place; stated = Some sort.Bool; is_misplaced = true; inner = flat_map (λ e. e.inner) (map (survey slots) args) }
survey-Call slots place relation args = search (rules, the_lemmas)

stated_over : (slots : List Sort) (kids : List OpenExp) (k : ℕ) →
    slice_get (map (λ (e : Survey). e.stated) (map (survey slots) kids)) k ≡ option_map (λ (e : Survey). e.stated) (option_map (survey slots) (slice_get kids k))
stated_over slots kids k = slice_get-map (λ (e : Survey). e.stated) (map (survey slots) kids) k ∙ ap (option_map (λ (e : Survey). e.stated)) (slice_get-map (survey slots) kids k)

pub stated_at-within : (slots : List Sort) (kids : List OpenExp) (k : ℕ) (kid : OpenExp) → slice_get kids k ≡ Some kid →
    stated_at (map (λ (e : Survey). e.stated) (map (survey slots) kids)) k ≡ (survey slots kid).stated
stated_at-within slots kids k kid at =
    ap option_flatten (stated_over slots kids k ∙ ap (λ o. option_map (λ (e : Survey). e.stated) (option_map (survey slots) o)) at)

pub stated_at-past : (slots : List Sort) (kids : List OpenExp) (k : ℕ) → length kids ≤ k →
    stated_at (map (λ (e : Survey). e.stated) (map (survey slots) kids)) k ≡ None
stated_at-past slots kids k past =
    ap option_flatten (stated_over slots kids k ∙ ap (λ o. option_map (λ (e : Survey). e.stated) (option_map (survey slots) o)) (slice_get_past kids k past))

pub stated-Apply : (slots : List Sort) (e : OpenExp) (op : Op) (kids xs : List OpenExp) → e.node ≡ node.Apply op kids → xs ≡ kids →
    stated_sort op (map (λ (e : Survey). e.stated) (map (survey slots) xs)) ≡ (survey slots e).stated
stated-Apply slots e op kids xs is same =
    ap (λ ks. stated_sort op (map (λ (e : Survey). e.stated) (map (survey slots) ks))) same
    ∙ sym (ap (λ (s : Survey). s.stated) (ap (λ n. survey_of_node slots n e.place) is ∙ survey-Apply slots e.place op kids))

pub inner-Apply : (slots : List Sort) (e : OpenExp) (op : Op) (kids xs : List OpenExp) → e.node ≡ node.Apply op kids → xs ≡ kids →
    first (operand_faults op (map (survey slots) xs)) ≡ first (survey slots e).inner
inner-Apply slots e op kids xs is same =
    ap (λ ks. first (operand_faults op (map (survey slots) ks))) same
    ∙ sym (ap (λ (s : Survey). first s.inner) (ap (λ n. survey_of_node slots n e.place) is ∙ survey-Apply slots e.place op kids))

pub inner-Call : (slots : List Sort) (e : OpenExp) (relation : RelId) (args xs : List OpenExp) → e.node ≡ node.Call relation args → xs ≡ args →
    first (flat_map (λ (e : Survey). e.inner) (map (survey slots) xs)) ≡ first (survey slots e).inner
inner-Call slots e relation args xs is same =
    ap (λ ks. first (flat_map (λ (e : Survey). e.inner) (map (survey slots) ks))) same
    ∙ sym (ap (λ (s : Survey). first s.inner) (ap (λ n. survey_of_node slots n e.place) is ∙ survey-Call slots e.place relation args))

pub ruleset surveys = (survey-Slot, survey-Term, survey-Literal, survey-Apply, survey-Call)
