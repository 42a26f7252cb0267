-- The first fault of an operator's operands, one operand after another.
use Rattle.std.proofs.Common.{◌≡◌, ℕ, ◌+◌, ◌<◌, Option, Some, None, List, ◌∷◌, map, drop, length, get_or, sum, sym, ap, ap₂, ◌∙◌, add-one}
use Rattle.sig_core.specs.declared.value.Sort.{Sort}
use Rattle.expr_core.specs.declared.expr.Op.{Op}
use Rattle.expr_core.specs.declared.expr.Expr.{Expr}
use Rattle.expr_core.specs.declared.expr.Expr.TheVariants.{Apply}
use Rattle.expr_core.specs.declared.sorts.SortFault.{SortFault}
use Rattle.expr_core.specs.Sorts.{wanted_sort}
use Rattle.expr_core.specs.Expressions.{node_count}
use Rattle.expr_core.specs.Faults.{reason_in, reasons_in, reasons_from, survey, stated_sort, first_fault_from}
use Rattle.expr_core.proofs.Equations.{survey-Apply}
use Rattle.expr_core.proofs.Operands.{at_here}
use Rattle.expr_core.proofs.Surveys.{sorts_of, sum-more, length-reasons, one_operand, bad_operand}

pub count_here : (ks : List Expr) (i : ℕ) (k : Expr) → i < length ks → k ≡ get_or ks i k → sum (map node_count (drop i ks)) ≡ node_count k + sum (map node_count (drop (i + 1) ks))
count_here ks i k within is = ap (λ es. sum (map node_count es)) (at_here ks i k within is) ∙ sum-more node_count k (drop (i + 1) ks)

-- the faults of an operator that is not bad itself are those of its operands
pub operands_first : (scope : List Sort) (want : Option Sort) (n : ℕ) (op : Op) (kids : List Expr) (e : Expr) → e ≡ Apply op kids → None ≡ reason_in want (survey scope e)
    → first_fault_from (n + 1) (reasons_from (wanted_sort op (map (stated_sort scope) kids)) 0 (map (survey scope) kids)) ≡ first_fault_from n (reasons_in want (survey scope e))
operands_first scope want n op kids e is clean =
    let below : (survey scope e).below ≡ reasons_from (wanted_sort op (map (stated_sort scope) kids)) 0 (map (survey scope) kids) =
    ap (λ s. s.below) (ap (survey scope) is ∙ survey-Apply scope op kids) ∙ ap (λ ss. reasons_from (wanted_sort op ss) 0 (map (survey scope) kids)) (sorts_of scope kids) in
    ap₂ (λ m rs. first_fault_from m rs) (add-one n) (sym below) ∙ ap (λ o. first_fault_from n (o ∷ (survey scope e).below)) clean

-- operand i is not bad, nor a node below it: the first fault is one of the operands after it; else it is that of operand i
pub after_operand : (scope : List Sort) (want : ℕ → Option Sort) (n m i : ℕ) (ks : List Expr) (k : Expr) (w : Option Sort) → i < length ks → k ≡ get_or ks i k → w ≡ want i
    → None ≡ first_fault_from n (reasons_in w (survey scope k)) → m ≡ n + node_count k
    → first_fault_from m (reasons_from want (i + 1) (map (survey scope) (drop (i + 1) ks))) ≡ first_fault_from n (reasons_from want i (map (survey scope) (drop i ks)))
after_operand scope want n m i ks k w within is wants clean next =
    ap₂ (λ p q. first_fault_from p (reasons_from want q (map (survey scope) (drop (i + 1) ks)))) (next ∙ ap (λ p. n + p) (sym (length-reasons scope k))) (add-one i)
    ∙ sym (ap (λ es. first_fault_from n (reasons_from want i (map (survey scope) es))) (at_here ks i k within is)
    ∙ one_operand want n i (survey scope k) (map (survey scope) (drop (i + 1) ks)) (clean ∙ ap (λ o. first_fault_from n (reasons_in o (survey scope k))) wants))

pub fault_here : (scope : List Sort) (want : ℕ → Option Sort) (n i : ℕ) (ks : List Expr) (k : Expr) (w : Option Sort) (f : SortFault) → i < length ks → k ≡ get_or ks i k → w ≡ want i
    → Some f ≡ first_fault_from n (reasons_in w (survey scope k)) → Some f ≡ first_fault_from n (reasons_from want i (map (survey scope) (drop i ks)))
fault_here scope want n i ks k w f within is wants bad =
    sym (ap (λ es. first_fault_from n (reasons_from want i (map (survey scope) es))) (at_here ks i k within is)
    ∙ bad_operand want n i (survey scope k) (map (survey scope) (drop (i + 1) ks)) f (bad ∙ ap (λ o. first_fault_from n (reasons_in o (survey scope k))) wants))
