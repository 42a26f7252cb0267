-- The value of an expression has its sort.
use Rattle.std.proofs.Common.{◌≡◌, ◌≢◌, ℕ, Bool, true, false, ◌&&◌, Option, Some, None, option_map, option_and_then, List, [], ◌∷◌, map, length, All, refl, sym, ap, ◌∙◌}
use Rattle.std.proofs.lemmas.Option.{same_Some, cond_some, option_and_then_some}
use Rattle.std.proofs.lemmas.Bool.{and_parts}
use Rattle.std.proofs.lemmas.List.Elements.{All-head, All-tail}
use Rattle.sig_core.specs.declared.value.Value.{Value}
use Rattle.sig_core.specs.declared.value.Value.TheVariants as value
use Rattle.sig_core.specs.declared.value.Sort.{Sort}
use Rattle.sig_core.specs.declared.value.Sort.TheVariants as sort
use Rattle.expr_core.specs.declared.expr.Op.{Op}
use Rattle.expr_core.specs.declared.expr.Op.TheVariants.{Not, And, Or, Xor, Implies, Equal, Distinct, Ite, Add, Minus, Times, Div, Mod, Abs, Less, AtMost, Greater, AtLeast}
use Rattle.expr_core.specs.declared.expr.Expr.{Expr}
use Rattle.sig_core.specs.Lists.{all_some}
use Rattle.sig_core.specs.Values.{sort_of, same_sort}
use Rattle.expr_core.specs.Operators.{applied, negation, modulus, absolute_value}
use Rattle.expr_core.specs.Sorts.{takes, wanted_sort, stated_result, are_wanted, result_sort}
use Rattle.expr_core.specs.Expressions.{value_over, sort_in, operation, choice, branch_of}
use Rattle.expr_core.specs.Laws.{ValuesHaveSorts}
use Rattle.expr_core.proofs.Equations.{over-Slot, over-Lit, over-Apply, sort-Slot, sort-Lit, sort-Apply}
use Rattle.expr_core.proofs.Induction.{by_operands}
use Rattle.expr_core.proofs.Neighbours.{same_sort-equal}

a_truth : (o : Option Bool) (v : Value) → option_map value.Bool o ≡ Some v → sort_of v ≡ sort.Bool
a_truth None v h = cc
a_truth (Some b) v h = sym (ap sort_of (same_Some (value.Bool b) v h))

a_number : {X : Type 0} (f : X → Value) → ((x : X) → sort_of (f x) ≡ sort.Int) → (o : Option X) (v : Value) → option_map f o ≡ Some v → sort_of v ≡ sort.Int
a_number f is None v h = cc
a_number f is (Some x) v h = sym (ap sort_of (same_Some (f x) v h)) ∙ is x

of_not : (vs : List Value) (v : Value) → negation vs ≡ Some v → sort_of v ≡ sort.Bool
of_not [] v h = cc
of_not (value.Int n ∷ vs) v h = cc
of_not (value.Bool b ∷ []) v h = a_truth (Some _) v h
of_not (value.Bool b ∷ w ∷ vs) v h = cc

of_mod : (vs : List Value) (v : Value) → modulus vs ≡ Some v → sort_of v ≡ sort.Int
of_mod [] v h = cc
of_mod (value.Bool b ∷ vs) v h = cc
of_mod (value.Int m ∷ []) v h = cc
of_mod (value.Int m ∷ value.Bool b ∷ vs) v h = cc
of_mod (value.Int m ∷ value.Int n ∷ []) v h = a_number value.Int (λ x. refl) _ v h
of_mod (value.Int m ∷ value.Int n ∷ w ∷ vs) v h = cc

of_abs : (vs : List Value) (v : Value) → absolute_value vs ≡ Some v → sort_of v ≡ sort.Int
of_abs [] v h = cc
of_abs (value.Bool b ∷ vs) v h = cc
of_abs (value.Int m ∷ []) v h = a_number value.Int (λ x. refl) _ v h
of_abs (value.Int m ∷ w ∷ vs) v h = cc

-- the result of an operator has the sort that the operator states
of_operator : (op : Op) → op ≢ Ite → (ss : List Sort) (vs : List Value) (v : Value) → applied op vs ≡ Some v → sort_of v ≡ stated_result op ss
of_operator Not ne ss vs v h = of_not vs v h
of_operator And ne ss vs v h = a_truth _ v h
of_operator Or ne ss vs v h = a_truth _ v h
of_operator Xor ne ss vs v h = a_truth _ v h
of_operator Implies ne ss vs v h = a_truth _ v h
of_operator Equal ne ss vs v h = a_truth _ v h
of_operator Distinct ne ss vs v h = a_truth _ v h
of_operator Ite ne ss vs v h = absurd (ne refl)
of_operator Add ne ss vs v h = a_number value.Int (λ x. refl) _ v h
of_operator Minus ne ss vs v h = a_number value.Int (λ x. refl) _ v h
of_operator Times ne ss vs v h = a_number value.Int (λ x. refl) _ v h
of_operator Div ne ss vs v h = a_number value.Int (λ x. refl) _ v h
of_operator Mod ne ss vs v h = of_mod vs v h
of_operator Abs ne ss vs v h = of_abs vs v h
of_operator Less ne ss vs v h = a_truth _ v h
of_operator AtMost ne ss vs v h = a_truth _ v h
of_operator Greater ne ss vs v h = a_truth _ v h
of_operator AtLeast ne ss vs v h = a_truth _ v h

-- what is known of an operand, of its sort and its value
abbrev Suits : Option Sort → Option Value → Type 0
Suits o p = (s : Sort) (v : Value) → o ≡ Some s → p ≡ Some v → sort_of v ≡ s

of_strict : (op : Op) → op ≢ Ite → (os : List (Option Sort)) (ps : List (Option Value)) → Suits (option_and_then (result_sort op) (all_some os)) (option_and_then (applied op) (all_some ps))
of_strict op ne os ps s v a b =
    option_and_then_some (result_sort op) (all_some os) s a (λ ss _ c.
    option_and_then_some (applied op) (all_some ps) v b (λ vs _ d.
    of_operator op ne ss vs v d ∙ (cond_some (takes op (length ss) && are_wanted (wanted_sort op ss) 0 ss) (stated_result op ss) s c).1))

-- one of the branches is chosen
chosen_one : {R : Type 0} (c x y : Option Value) (v : Value) → branch_of c x y ≡ Some v → (x ≡ Some v → R) → (y ≡ Some v → R) → R
chosen_one None x y v h f g = absurd (let e : ⊥ = cc in e)
chosen_one (Some (value.Int n)) x y v h f g = absurd (let e : ⊥ = cc in e)
chosen_one (Some (value.Bool true)) x y v h f g = f h
chosen_one (Some (value.Bool false)) x y v h f g = g h

sorted_branches : (sc sx sy s : Sort) → result_sort Ite (sc ∷ sx ∷ sy ∷ []) ≡ Some s → (sx ≡ s) × (sy ≡ s)
sorted_branches sc sx sy s h =
    let told = cond_some (takes Ite (length (sc ∷ sx ∷ sy ∷ [])) && are_wanted (wanted_sort Ite (sc ∷ sx ∷ sy ∷ [])) 0 (sc ∷ sx ∷ sy ∷ [])) sx s h in
    let wants = (and_parts (takes Ite (length (sc ∷ sx ∷ sy ∷ []))) _ told.0).1 in
    let branches = (and_parts (same_sort sort.Bool sc) (same_sort sx sx && (same_sort sx sy && true)) wants).1 in
    let other = (and_parts (same_sort sx sx) (same_sort sx sy && true) branches).1 in
    let same = same_sort-equal sx sy (and_parts (same_sort sx sy) true other).0 in
    (told.1, sym same ∙ told.1)

of_branches : (sc sx sy : Option Sort) (c x y : Option Value) → Suits sx x → Suits sy y → Suits (option_and_then (result_sort Ite) (all_some (sc ∷ sx ∷ sy ∷ []))) (branch_of c x y)
of_branches None sx sy c x y f g s v a b = cc
of_branches (Some sc) None sy c x y f g s v a b = cc
of_branches (Some sc) (Some sx) None c x y f g s v a b = cc
of_branches (Some sc) (Some sx) (Some sy) c x y f g s v a b =
    let told = sorted_branches sc sx sy s a in
    chosen_one c x y v b (λ e. f sx v refl e ∙ told.0) (λ e. g sy v refl e ∙ told.1)

abbrev Good : List Sort → (ℕ → Option Value) → Expr → Type 0
Good scope look e = Suits (sort_in scope e) (value_over look e)

of_conditional : (scope : List Sort) (look : ℕ → Option Value) (kids : List Expr) → All (Good scope look) kids
    → Suits (option_and_then (result_sort Ite) (all_some (map (sort_in scope) kids))) (choice (map (value_over look) kids))
of_conditional scope look [] all s v a b = cc
of_conditional scope look (c ∷ []) all s v a b = cc
of_conditional scope look (c ∷ x ∷ []) all s v a b = cc
of_conditional scope look (c ∷ x ∷ y ∷ []) all s v a b =
    let G = Good scope look in
    let rest = All-tail G c (x ∷ y ∷ []) all in
    of_branches (sort_in scope c) (sort_in scope x) (sort_in scope y) (value_over look c) (value_over look x) (value_over look y) (All-head G x (y ∷ []) rest) (All-head G y [] (All-tail G x (y ∷ []) rest)) s v a b
of_conditional scope look (c ∷ x ∷ y ∷ z ∷ more) all s v a b = cc

of_operands : (scope : List Sort) (look : ℕ → Option Value) (op : Op) (kids : List Expr) → All (Good scope look) kids
    → Suits (option_and_then (result_sort op) (all_some (map (sort_in scope) kids))) (operation op (map (value_over look) kids))
of_operands scope look Ite kids all = of_conditional scope look kids all
of_operands scope look Not kids all = of_strict Not (λ e. cc) (map (sort_in scope) kids) (map (value_over look) kids)
of_operands scope look And kids all = of_strict And (λ e. cc) (map (sort_in scope) kids) (map (value_over look) kids)
of_operands scope look Or kids all = of_strict Or (λ e. cc) (map (sort_in scope) kids) (map (value_over look) kids)
of_operands scope look Xor kids all = of_strict Xor (λ e. cc) (map (sort_in scope) kids) (map (value_over look) kids)
of_operands scope look Implies kids all = of_strict Implies (λ e. cc) (map (sort_in scope) kids) (map (value_over look) kids)
of_operands scope look Equal kids all = of_strict Equal (λ e. cc) (map (sort_in scope) kids) (map (value_over look) kids)
of_operands scope look Distinct kids all = of_strict Distinct (λ e. cc) (map (sort_in scope) kids) (map (value_over look) kids)
of_operands scope look Add kids all = of_strict Add (λ e. cc) (map (sort_in scope) kids) (map (value_over look) kids)
of_operands scope look Minus kids all = of_strict Minus (λ e. cc) (map (sort_in scope) kids) (map (value_over look) kids)
of_operands scope look Times kids all = of_strict Times (λ e. cc) (map (sort_in scope) kids) (map (value_over look) kids)
of_operands scope look Div kids all = of_strict Div (λ e. cc) (map (sort_in scope) kids) (map (value_over look) kids)
of_operands scope look Mod kids all = of_strict Mod (λ e. cc) (map (sort_in scope) kids) (map (value_over look) kids)
of_operands scope look Abs kids all = of_strict Abs (λ e. cc) (map (sort_in scope) kids) (map (value_over look) kids)
of_operands scope look Less kids all = of_strict Less (λ e. cc) (map (sort_in scope) kids) (map (value_over look) kids)
of_operands scope look AtMost kids all = of_strict AtMost (λ e. cc) (map (sort_in scope) kids) (map (value_over look) kids)
of_operands scope look Greater kids all = of_strict Greater (λ e. cc) (map (sort_in scope) kids) (map (value_over look) kids)
of_operands scope look AtLeast kids all = of_strict AtLeast (λ e. cc) (map (sort_in scope) kids) (map (value_over look) kids)

pub values_have_sorts : ValuesHaveSorts
values_have_sorts e scope look s v known =
    by_operands (Good scope look)
    (λ i s v a b. same_Some (sort_of v) s (sym (known i v (sym (over-Slot look i) ∙ b)) ∙ (sym (sort-Slot scope i) ∙ a)))
    (λ w s v a b. ap sort_of (sym (same_Some w v (sym (over-Lit look w) ∙ b))) ∙ same_Some (sort_of w) s (sym (sort-Lit scope w) ∙ a))
    (λ op kids all s v a b. of_operands scope look op kids all s v (sym (sort-Apply scope op kids) ∙ a) (sym (over-Apply look op kids) ∙ b))
    e s v
