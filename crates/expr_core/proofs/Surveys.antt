-- Surveys of operators, and where no node is bad.
use Rattle.std.proofs.Common.{◌≡◌, ℕ, suc, ◌+◌, Bool, true, false, ◌&&◌, if◌then◌else◌, Option, Some, None, option_map, option_and_then, unwrap_or, is_none, is_some, List, [], ◌∷◌, ◌++◌, map, length, sum, slice_get, All, refl, sym, ap, ap₂, ◌∙◌, arith, length-append}
use Rattle.std.specs.Option.{option_or}
use Rattle.std.specs.List.{list_all}
use Rattle.std.proofs.lemmas.List.{length-map}
use Rattle.std.proofs.lemmas.List.Folds.{list_all-append}
use Rattle.std.proofs.lemmas.List.Sums.{sum-map, sum_by-cons}
use Rattle.std.proofs.lemmas.List.Elements.{All-head, All-tail}
use Rattle.sig_core.specs.declared.value.Sort.{Sort}
use Rattle.sig_core.specs.declared.value.Sort.TheVariants as sort
use Rattle.expr_core.specs.declared.expr.Op.{Op}
use Rattle.expr_core.specs.declared.expr.Expr.{Expr}
use Rattle.expr_core.specs.declared.expr.Expr.TheVariants.{Slot, Apply}
use Rattle.expr_core.specs.declared.sorts.SortFault.{SortFault}
use Rattle.sig_core.specs.Lists.{all_some}
use Rattle.expr_core.specs.Sorts.{takes, wanted_sort, stated_result, is_wanted, are_wanted, result_sort}
use Rattle.expr_core.specs.Expressions.{sort_in, node_count}
use Rattle.expr_core.specs.Faults.{Survey, reasons_in, reasons_from, survey, stated_sort, reasons, first_fault, first_fault_from}
use Rattle.expr_core.specs.Laws.{SortedHasNoBadNode}
use Rattle.expr_core.proofs.Equations.{sort-Slot, sort-Lit, sort-Apply, survey-Slot, survey-Lit, survey-Apply, count-Slot, count-Lit, count-Apply}
use Rattle.expr_core.proofs.Induction.{by_operands}

-- the sorts that operands state
pub sorts_of : (scope : List Sort) (kids : List Expr) → map (λ s. s.stated) (map (survey scope) kids) ≡ map (stated_sort scope) kids
sorts_of scope [] = refl
sorts_of scope (kid ∷ kids) = ap (λ ss. stated_sort scope kid ∷ ss) (sorts_of scope kids)

pub stated-Apply : (scope : List Sort) (op : Op) (kids : List Expr) → stated_sort scope (Apply op kids) ≡ stated_result op (map (stated_sort scope) kids)
stated-Apply scope op kids = ap (λ s. s.stated) (survey-Apply scope op kids) ∙ ap (stated_result op) (sorts_of scope kids)

pub sum-more : {X : Type 0} (f : X → ℕ) (x : X) (xs : List X) → sum (map f (x ∷ xs)) ≡ f x + sum (map f xs)
sum-more f x xs = sum-map f (x ∷ xs) ∙ sum_by-cons f x xs ∙ ap (λ n. f x + n) (sym (sum-map f xs))

-- each node has one reason or none
length-from : (scope : List Sort) (want : ℕ → Option Sort) (k : ℕ) (kids : List Expr) → All (λ e. length (reasons scope e) ≡ node_count e) kids
    → length (reasons_from want k (map (survey scope) kids)) ≡ sum (map node_count kids)
length-from scope want k [] all = refl
length-from scope want k (kid ∷ kids) all =
    length-append (reasons_in (want k) (survey scope kid)) (reasons_from want (suc k) (map (survey scope) kids))
    ∙ ap₂ (λ m n. m + n) (All-head (λ e. length (reasons scope e) ≡ node_count e) kid kids all) (length-from scope want (suc k) kids (All-tail (λ e. length (reasons scope e) ≡ node_count e) kid kids all))
    ∙ sym (sum-more node_count kid kids)

pub length-reasons : (scope : List Sort) (e : Expr) → length (reasons scope e) ≡ node_count e
length-reasons scope = by_operands (λ e. length (reasons scope e) ≡ node_count e)
    (λ i. ap (λ s. length (reasons_in None s)) (survey-Slot scope i) ∙ sym (count-Slot i))
    (λ v. ap (λ s. length (reasons_in None s)) (survey-Lit scope v) ∙ sym (count-Lit v))
    (λ op kids all.
    let below = length-from scope (wanted_sort op (map (λ s. s.stated) (map (survey scope) kids))) 0 kids all in
    let all_nodes : suc (length (reasons_from (wanted_sort op (map (λ s. s.stated) (map (survey scope) kids))) 0 (map (survey scope) kids))) ≡ 1 + sum (map node_count kids) = omega arith in
    ap (λ s. length (reasons_in None s)) (survey-Apply scope op kids) ∙ all_nodes ∙ sym (count-Apply op kids))

-- no reason
abbrev clean : List (Option ℕ) → Bool
clean rs = list_all is_none rs

none_clean : (n : ℕ) (rs : List (Option ℕ)) → is_none (first_fault_from n rs) ≡ clean rs
none_clean n [] = refl
none_clean n (None ∷ rs) = none_clean (suc n) rs
none_clean n (Some r ∷ rs) = refl

-- the node and those below it are not bad, whatever sort is wanted
abbrev sound : Survey → Bool
sound node = clean (reasons_in None node)

unwanted : (own : Option ℕ) (b : Bool) → is_none (option_or own (if b then None else Some 3)) ≡ (is_none own && b)
unwanted None true = refl
unwanted None false = refl
unwanted (Some r) b = refl

or_none : (own : Option ℕ) → is_none (option_or own None) ≡ is_none own
or_none None = refl
or_none (Some r) = refl

regroup-true : (q s w : Bool) → (q && (s && w)) ≡ ((q && s) && w)
regroup-true true s w = refl
regroup-true false s w = refl

regroup : (p b q s w : Bool) → (((p && b) && q) && (s && w)) ≡ (((p && q) && s) && (b && w))
regroup false b q s w = refl
regroup true true q s w = regroup-true q s w
regroup true false true true w = refl
regroup true false true false w = refl
regroup true false false s w = refl

clean-from : (want : ℕ → Option Sort) (k : ℕ) (nodes : List Survey) → clean (reasons_from want k nodes) ≡ (list_all sound nodes && are_wanted want k (map (λ s. s.stated) nodes))
clean-from want k [] = refl
clean-from want k (node ∷ nodes) =
    let b = is_wanted (want k) node.stated in
    let q = clean node.below in
    let s = list_all sound nodes in
    let w = are_wanted want (suc k) (map (λ s. s.stated) nodes) in
    list_all-append is_none (reasons_in (want k) node) (reasons_from want (suc k) nodes)
    ∙ ap₂ (λ x y. (x && q) && y) (unwanted node.own b) (clean-from want (suc k) nodes)
    ∙ regroup (is_none node.own) b q s w
    ∙ ap (λ p. ((p && q) && s) && (b && w)) (sym (or_none node.own))

-- the sort of an expression is what its survey says
abbrev Agrees : List Sort → Expr → Type 0
Agrees scope e = sort_in scope e ≡ (if sound (survey scope e) then Some (stated_sort scope e) else None)

one_sorted : (b c : Bool) (s : Sort) (ss : List Sort) (o : Option Sort) (os : Option (List Sort)) → o ≡ (if b then Some s else None) → os ≡ (if c then Some ss else None)
    → option_and_then (λ t. option_map (λ ts. t ∷ ts) os) o ≡ (if b && c then Some (s ∷ ss) else None)
one_sorted false c s ss o os h k = ap (option_and_then (λ t. option_map (λ ts. t ∷ ts) os)) h
one_sorted true false s ss o os h k = ap (option_and_then (λ t. option_map (λ ts. t ∷ ts) os)) h ∙ ap (option_map (λ ts. s ∷ ts)) k
one_sorted true true s ss o os h k = ap (option_and_then (λ t. option_map (λ ts. t ∷ ts) os)) h ∙ ap (option_map (λ ts. s ∷ ts)) k

pub all_some-cons : {X : Type 0} (o : Option X) (os : List (Option X)) → all_some (o ∷ os) ≡ option_and_then (λ x. option_map (λ xs. x ∷ xs) (all_some os)) o
all_some-cons None os = refl
all_some-cons (Some x) os = refl

all_sorted : (scope : List Sort) (kids : List Expr) → All (Agrees scope) kids
    → all_some (map (sort_in scope) kids) ≡ (if list_all sound (map (survey scope) kids) then Some (map (λ s. s.stated) (map (survey scope) kids)) else None)
all_sorted scope [] all = refl
all_sorted scope (kid ∷ kids) all =
    all_some-cons (sort_in scope kid) (map (sort_in scope) kids)
    ∙ one_sorted (sound (survey scope kid)) (list_all sound (map (survey scope) kids)) (stated_sort scope kid) (map (λ s. s.stated) (map (survey scope) kids)) (sort_in scope kid) (all_some (map (sort_in scope) kids))
    (All-head (Agrees scope) kid kids all) (all_sorted scope kids (All-tail (Agrees scope) kid kids all))

operator-taken : (t w : Bool) (s : Sort) → (if t && w then Some s else None) ≡ (if is_none {T = ℕ} (option_or (if t then None else Some 2) None) && (true && w) then Some s else None)
operator-taken true w s = refl
operator-taken false w s = refl

-- a slot states its sort, or is bad
slot : (o : Option Sort) → o ≡ (if sound (record { stated = unwrap_or o sort.Bool; own = (if is_some o then None else Some 1); below = [] }) then Some (unwrap_or o sort.Bool) else None)
slot None = refl
slot (Some s) = refl

operator : (op : Op) (ss : List Sort) (n : ℕ) (a t w : Bool) → takes op n ≡ t → length ss ≡ n → are_wanted (wanted_sort op ss) 0 ss ≡ w
    → option_and_then (result_sort op) (if a then Some ss else None) ≡ (if is_none {T = ℕ} (option_or (if t then None else Some 2) None) && (a && w) then Some (stated_result op ss) else None)
operator op ss n false true w h k e = refl
operator op ss n false false w h k e = refl
operator op ss n true t w h k e = ap₂ (λ x y. if x && y then Some (stated_result op ss) else None) (ap (takes op) k ∙ h) e ∙ operator-taken t w (stated_result op ss)

agrees : (scope : List Sort) (e : Expr) → Agrees scope e
agrees scope = by_operands (Agrees scope)
    (λ i. sort-Slot scope i ∙ slot (slice_get scope i) ∙ sym (ap (λ s. if sound s then Some s.stated else None) (survey-Slot scope i)))
    (λ v. sort-Lit scope v ∙ sym (ap (λ s. if sound s then Some s.stated else None) (survey-Lit scope v)))
    (λ op kids all.
    let nodes = map (survey scope) kids in
    let ss = map (λ s. s.stated) nodes in
    let t = takes op (length nodes) in
    sort-Apply scope op kids
    ∙ ap (option_and_then (result_sort op)) (all_sorted scope kids all)
    ∙ operator op ss (length nodes) (list_all sound nodes) t (are_wanted (wanted_sort op ss) 0 ss) refl (length-map nodes (λ s. s.stated)) refl
    ∙ ap (λ b. if is_none {T = ℕ} (option_or (if t then None else Some 2) None) && b then Some (stated_result op ss) else None) (sym (clean-from (wanted_sort op ss) 0 nodes))
    ∙ sym (ap (λ s. if sound s then Some s.stated else None) (survey-Apply scope op kids)))

pub sorted_has_no_bad_node : SortedHasNoBadNode
sorted_has_no_bad_node scope e = agrees scope e ∙ ap (λ b. if b then Some (stated_sort scope e) else None) (sym (none_clean 0 (reasons scope e)))

-- the first fault of two lists
pub first_fault-append : (n : ℕ) (rs ss : List (Option ℕ)) → first_fault_from n (rs ++ ss) ≡ option_or (first_fault_from n rs) (first_fault_from (n + length rs) ss)
first_fault-append n [] ss = ap (λ m. first_fault_from m ss) (omega arith)
first_fault-append n (None ∷ rs) ss = first_fault-append (suc n) rs ss ∙ ap (λ m. option_or (first_fault_from (suc n) rs) (first_fault_from m ss)) (omega arith)
first_fault-append n (Some r ∷ rs) ss = refl

-- the faults of operands: one operand more, and none
pub one_operand : (want : ℕ → Option Sort) (n k : ℕ) (node : Survey) (nodes : List Survey) → None ≡ first_fault_from n (reasons_in (want k) node)
    → first_fault_from n (reasons_from want k (node ∷ nodes)) ≡ first_fault_from (n + length (reasons_in (want k) node)) (reasons_from want (suc k) nodes)
one_operand want n k node nodes h =
    first_fault-append n (reasons_in (want k) node) (reasons_from want (suc k) nodes)
    ∙ ap (λ o. option_or o (first_fault_from (n + length (reasons_in (want k) node)) (reasons_from want (suc k) nodes))) (sym h)

pub bad_operand : (want : ℕ → Option Sort) (n k : ℕ) (node : Survey) (nodes : List Survey) (f : SortFault) → Some f ≡ first_fault_from n (reasons_in (want k) node)
    → first_fault_from n (reasons_from want k (node ∷ nodes)) ≡ Some f
bad_operand want n k node nodes f h =
    first_fault-append n (reasons_in (want k) node) (reasons_from want (suc k) nodes)
    ∙ ap (λ o. option_or o (first_fault_from (n + length (reasons_in (want k) node)) (reasons_from want (suc k) nodes))) (sym h)

pub length-reasons_in : (scope : List Sort) (want : Option Sort) (e : Expr) → length (reasons_in want (survey scope e)) ≡ node_count e
length-reasons_in scope want e = length-reasons scope e

-- the first fault decides the sort
pub unsorted : (scope : List Sort) (e : Expr) (f : SortFault) → Some f ≡ first_fault scope e → None ≡ sort_in scope e
unsorted scope e f h = sym (sorted_has_no_bad_node scope e ∙ ap (λ o. if is_none o then Some (stated_sort scope e) else None) (sym h))

pub sorted : (scope : List Sort) (e : Expr) → None ≡ first_fault scope e → Some (stated_sort scope e) ≡ sort_in scope e
sorted scope e h = sym (sorted_has_no_bad_node scope e ∙ ap (λ o. if is_none o then Some (stated_sort scope e) else None) (sym h))

-- the reason by which a node is bad by itself
pub own-Slot : (scope : List Sort) (i : ℕ) → (survey scope (Slot i)).own ≡ (if is_some (slice_get scope i) then None else Some 1)
own-Slot scope i = ap (λ s. s.own) (survey-Slot scope i)

pub own-Apply : (scope : List Sort) (op : Op) (kids : List Expr) (n : ℕ) (b : Bool) → n ≡ length kids → b ≡ takes op n → (survey scope (Apply op kids)).own ≡ (if b then None else Some 2)
own-Apply scope op kids n b h k =
    ap (λ s. s.own) (survey-Apply scope op kids)
    ∙ ap (λ m. if takes op m then None else Some 2) (length-map kids (survey scope) ∙ sym h)
    ∙ ap (λ c. if c then None else Some 2) (sym k)
