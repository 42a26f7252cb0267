-- 0 and x are alike at 0, but their shifts are not.
use Rattle.std.proofs.Common.{◌≡◌, ◌≤◌, ℕ, zero, suc, true, Option, Some, None, List, [], ◌∷◌, map, take, slice_get, All, Contains, refl, sym, ap, ◌∙◌, subst, arith}
use Rattle.std.specs.List.{list_all}
use Rattle.std.proofs.lemmas.List.Elements.{All-head, All-tail, All-from_recursion}
use Rattle.std.proofs.lemmas.Option.{same_Some, none-some}
use Rattle.sig_core.specs.declared.value.Value.{Value}
use Rattle.sig_core.specs.declared.value.Sort.TheVariants as sort
use Rattle.sig_core.specs.declared.ids.ConId.{ConId}
use Rattle.sig_core.specs.Lists.{all_some}
use Rattle.sig_core.specs.Values.{sort_of, is_value}
use Rattle.sig_core.specs.Signatures.{kinds_of, term_type, woven, owner_of}
use Rattle.expr_core.specs.declared.expr.Op.TheVariants as op
use Rattle.expr_core.specs.declared.expr.Expr.{out-Expr}
use Rattle.expr_core.specs.declared.expr.Expr.TheVariants.{Slot, Lit, Apply}
use Rattle.expr_core.specs.Expressions.{value_of}
use Rattle.expr_core.proofs.Equations.{value-Slot, value-Lit, value-Apply}
use Rattle.term_core.specs.declared.tree.Tree.{Tree, out-Tree}
use Rattle.term_core.specs.Terms.{node}
use Rattle.rule_core.specs.declared.rule.Atom.TheVariants as atom
use Rattle.rule_core.specs.declared.rule.Rule.{Rule}
use Rattle.rule_core.specs.Instances.{Holds, Fact, calls_of}
use Rattle.rule_core.specs.Flow.{bare_slot, HandsOn, TakesInputs}
use Rattle.rule_core.proofs.Equations.{bare-Slot, bare-Apply}
use Rattle.problem_core.specs.declared.parts.Constraint.{Constraint}
use Rattle.problem_core.specs.Derivations.{Within, CallMeets}
use Rattle.problem_core.proofs.Nodes.{follows, child-node, listed-node, call_parts, out-node}
use Rattle.eval_core.specs.Outcomes.{fact_with, IsOutcome, AreOutcomes}
use Rattle.eval_core.specs.Marks.{IsMarkOf}
use Rattle.eval_core.specs.ShiftExample.{expression, zero_con, x_con, shift_con, gives, shifts, int, zero_rule, x_rule, shift_rule, call_at_next, shift_problem, just_zero, just_x, shift_of, one_outcome, zero_mark}
use Rattle.eval_core.proofs.Facts.{fact_sorted}
use Rattle.eval_core.specs.Alikeness.{IsAlike, example_of}
use Rattle.eval_core.specs.FactHeights.{SameHeights}

abbrev fact_of : Tree → List Value → Fact
fact_of t args = record { relation = gives; term = t; args = args }

abbrev Derives : ℕ → Tree → List Value → Type 0
Derives h t args = Within shifts shift_problem.rules h (fact_of t args)

zero_gives : (h n : ℕ) → list_all is_value (int n ∷ int 0 ∷ []) ≡ true → Derives (suc h) just_zero (int n ∷ int 0 ∷ [])
zero_gives h n small = follows shifts shift_problem.rules (Within shifts shift_problem.rules h) gives zero_con [] 0 zero_rule (int n ∷ int 0 ∷ []) refl
    (record { sorted = refl; in_range = small; holds = All-from_recursion (Holds (int n ∷ int 0 ∷ [])) zero_rule.atoms ((int 0, refl, value-Lit (int n ∷ int 0 ∷ []) (int 0)), tt) }) tt

x_gives : (h n : ℕ) → list_all is_value (int n ∷ int n ∷ []) ≡ true → Derives (suc h) just_x (int n ∷ int n ∷ [])
x_gives h n small = follows shifts shift_problem.rules (Within shifts shift_problem.rules h) gives x_con [] 0 x_rule (int n ∷ int n ∷ []) refl
    (record { sorted = refl; in_range = small; holds = All-from_recursion (Holds (int n ∷ int n ∷ [])) x_rule.atoms ((int n, refl, value-Slot (int n ∷ int n ∷ []) 0), tt) }) tt

pub only_one : (a rule : Rule) (n : ℕ) → slice_get (a ∷ []) n ≡ Some rule → a ≡ rule
only_one a rule zero e = same_Some a rule e
only_one a rule (suc n) e = absurd (none-some rule e)

second_kept : (s : List Value) → slice_get (take 2 s) 1 ≡ slice_get s 1
second_kept [] = refl
second_kept (a ∷ []) = refl
second_kept (a ∷ b ∷ s) = refl

first_kept : (s : List Value) → slice_get (take 2 s) 0 ≡ slice_get s 0
first_kept [] = refl
first_kept (a ∷ s) = refl

-- what 0 gives is 0
zero_second : (h : ℕ) (args : List Value) → Derives (suc h) just_zero args → slice_get args 1 ≡ Some (int 0)
zero_second h args d =
    let is_rule : zero_rule ≡ d.rule = only_one zero_rule d.rule d.number (sym (listed-node shift_problem.rules gives zero_con [] d.number) ∙ d.listed) in
    let holds : All (Holds d.slots) zero_rule.atoms = subst (λ r. All (Holds d.slots) r.atoms) (sym is_rule) d.is_instance.holds in
    let fill = All-head (Holds d.slots) _ [] holds in
    ap (λ s. slice_get s 1) (sym d.args) ∙ second_kept d.slots ∙ fill.1 ∙ sym fill.2 ∙ value-Lit d.slots (int 0)

-- what x gives is its input
x_second : (h : ℕ) (args : List Value) → Derives (suc h) just_x args → slice_get args 1 ≡ slice_get args 0
x_second h args d =
    let is_rule : x_rule ≡ d.rule = only_one x_rule d.rule d.number (sym (listed-node shift_problem.rules gives x_con [] d.number) ∙ d.listed) in
    let holds : All (Holds d.slots) x_rule.atoms = subst (λ r. All (Holds d.slots) r.atoms) (sym is_rule) d.is_instance.holds in
    let fill = All-head (Holds d.slots) _ [] holds in
    ap (λ s. slice_get s 1) (sym d.args) ∙ second_kept d.slots ∙ fill.1 ∙ sym fill.2 ∙ value-Slot d.slots 0 ∙ sym (first_kept d.slots) ∙ ap (λ s. slice_get s 0) d.args

abbrev args_at_zero : List Value → List Value
args_at_zero outputs = woven (kinds_of shifts gives) (int 0 ∷ []) outputs

-- at 0 what is given is 0, where it is the input or 0
both_zero : (outputs : List Value) → map sort_of (args_at_zero outputs) ≡ sort.Int ∷ sort.Int ∷ [] → slice_get (args_at_zero outputs) 1 ≡ Some (int 0) → args_at_zero outputs ≡ int 0 ∷ int 0 ∷ []
both_zero [] sorts second = absurd (none-some (int 0) second)
both_zero (o ∷ outputs) sorts second = ap (λ v. int 0 ∷ v ∷ []) (same_Some o (int 0) second)

first_is_zero : (outputs : List Value) → map sort_of (args_at_zero outputs) ≡ sort.Int ∷ sort.Int ∷ [] → slice_get (args_at_zero outputs) 0 ≡ Some (int 0)
first_is_zero [] sorts = refl
first_is_zero (o ∷ outputs) sorts = refl

x_from_zero : (h : ℕ) (outputs : List Value) → Derives h just_zero (args_at_zero outputs) → Derives h just_x (args_at_zero outputs)
x_from_zero zero outputs d = absurd d
x_from_zero (suc h) outputs d =
    subst (Derives (suc h) just_x) (sym (both_zero outputs (fact_sorted shifts shift_problem.rules (suc h) (fact_of just_zero (args_at_zero outputs)) d) (zero_second h (args_at_zero outputs) d))) (x_gives h 0 refl)

zero_from_x : (h : ℕ) (outputs : List Value) → Derives h just_x (args_at_zero outputs) → Derives h just_zero (args_at_zero outputs)
zero_from_x zero outputs d = absurd d
zero_from_x (suc h) outputs d =
    let sorts = fact_sorted shifts shift_problem.rules (suc h) (fact_of just_x (args_at_zero outputs)) d in
    subst (Derives (suc h) just_zero) (sym (both_zero outputs sorts (x_second h (args_at_zero outputs) d ∙ first_is_zero outputs sorts))) (zero_gives h 0 refl)

-- there is one relation
only_gives : (n : ℕ) → term_type (kinds_of shifts (record { 0 = n })) ≡ Some expression → n ≡ 0
only_gives zero typed = refl
only_gives (suc n) typed = absurd (none-some expression typed)

-- and one example
same_at : (bound : ℕ) (example : Constraint) (outputs : List Value) → Contains shift_problem.constraints example
    → SameHeights shift_problem bound (fact_with shifts gives just_zero (example_of shifts example) outputs) (fact_with shifts gives just_x (example_of shifts example) outputs)
same_at bound example outputs (zero, l, e) =
    subst (λ c. SameHeights shift_problem bound (fact_with shifts gives just_zero (example_of shifts c) outputs) (fact_with shifts gives just_x (example_of shifts c) outputs)) e
    (λ h le. (x_from_zero h outputs, zero_from_x h outputs))
same_at bound example outputs (suc k, l, e) = absurd (omega arith)

owner_is : (con : ConId) (kids : List Tree) → owner_of shifts con ≡ Some expression → owner_of shifts (out-Tree (node con kids)).con ≡ Some expression
owner_is con kids e = ap (λ o. owner_of shifts o.con) (out-node con kids) ∙ e

pub zero_like_x : (bound : ℕ) → IsAlike shift_problem expression bound just_zero just_x
zero_like_x bound = record {
  left = owner_is zero_con [] refl;
  right = owner_is x_con [] refl;
  same = λ r example outputs typed is_example sorts.
      (let is_gives : gives ≡ r = ap (λ n. record { 0 = n }) (sym (only_gives r.0 typed)) in
      subst (λ q. SameHeights shift_problem bound (fact_with shifts q just_zero (example_of shifts example) outputs) (fact_with shifts q just_x (example_of shifts example) outputs)) is_gives
      (same_at bound example outputs is_example));
}

-- the input of the call is a sum
pub shift_hands_on_not : ¬ HandsOn shifts shift_problem.rules shift_con 0
shift_hands_on_not hands =
    let takes = All-head (TakesInputs shifts shift_rule 0) (atom.Call call_at_next) (atom.Fill 1 (Slot 2) ∷ []) (hands 2 shift_rule (omega arith) refl) refl in
    let same : Apply op.Add (Slot 0 ∷ Lit (int 1) ∷ []) ≡ Slot 0 = cc in
    none-some 0 (sym (bare-Apply op.Add (Slot 0 ∷ Lit (int 1) ∷ [])) ∙ ap (λ e. bare_slot (out-Expr e)) same ∙ bare-Slot 0)

shift_of_x : Derives 2 (shift_of just_x) (int 0 ∷ int 1 ∷ [])
shift_of_x = follows shifts shift_problem.rules (Within shifts shift_problem.rules 1) gives shift_con (just_x ∷ []) 0 shift_rule (int 0 ∷ int 1 ∷ int 1 ∷ []) refl
    (record { sorted = refl; in_range = refl; holds = All-from_recursion (Holds (int 0 ∷ int 1 ∷ int 1 ∷ [])) shift_rule.atoms (tt, ((int 1, refl, value-Slot (int 0 ∷ int 1 ∷ int 1 ∷ []) 2), tt)) })
    ((fact_of just_x (int 1 ∷ int 1 ∷ []), simp (child-node, value-Slot, value-Lit, value-Apply), x_gives 0 1 refl), tt)

second_of : (a b : Option Value) (args : List Value) → all_some (a ∷ b ∷ []) ≡ Some args → slice_get args 1 ≡ b
second_of None b args e = absurd (none-some args e)
second_of (Some a) None args e = absurd (none-some args e)
second_of (Some a) (Some b) args e = ap (λ vs. slice_get vs 1) (sym (same_Some (a ∷ b ∷ []) args e))

not_shift_of_zero : ¬ Derives 2 (shift_of just_zero) (int 0 ∷ int 1 ∷ [])
not_shift_of_zero d =
    let is_rule : shift_rule ≡ d.rule = only_one shift_rule d.rule d.number (sym (listed-node shift_problem.rules gives shift_con (just_zero ∷ []) d.number) ∙ d.listed) in
    let holds : All (Holds d.slots) shift_rule.atoms = subst (λ r. All (Holds d.slots) r.atoms) (sym is_rule) d.is_instance.holds in
    let fill = All-head (Holds d.slots) (atom.Fill 1 (Slot 2)) [] (All-tail (Holds d.slots) (atom.Call call_at_next) (atom.Fill 1 (Slot 2) ∷ []) holds) in
    let P = CallMeets (Within shifts shift_problem.rules 1) shifts (shift_of just_zero) d.slots in
    let meets : P call_at_next = All-head P call_at_next [] (subst (λ r. All P (calls_of r.atoms)) (sym is_rule) d.calls) in
    let fact = meets.0 in
    let parts = call_parts shifts (shift_of just_zero) d.slots call_at_next fact meets.1 in
    let term : just_zero ≡ fact.term = same_Some just_zero fact.term (sym (child-node shift_con (just_zero ∷ []) 0) ∙ parts.1) in
    let below : Derives 1 just_zero fact.args = subst (λ t. Derives 1 t fact.args) (sym term) (subst (λ r. Within shifts shift_problem.rules 1 (record { relation = r; term = fact.term; args = fact.args })) (sym parts.0) meets.2) in
    let found : slice_get fact.args 1 ≡ value_of d.slots (Slot 2) = second_of (value_of d.slots (Apply op.Add (Slot 0 ∷ Lit (int 1) ∷ []))) (value_of d.slots (Slot 2)) fact.args parts.2 in
    let given : slice_get d.slots 1 ≡ Some (int 1) = sym (second_kept d.slots) ∙ ap (λ s. slice_get s 1) d.args in
    let same : int 1 ≡ int 0 = same_Some (int 1) (int 0) (sym given ∙ fill.1 ∙ sym fill.2 ∙ sym found ∙ zero_second 0 fact.args below) in
    one_not_zero same
  where
    one_not_zero : ¬ (int 1 ≡ int 0)
    one_not_zero e = cc

pub shifts_differ : ¬ IsAlike shift_problem expression 2 (shift_of just_zero) (shift_of just_x)
shifts_differ alike =
    not_shift_of_zero ((alike.same gives (record { relation = gives; args = int 0 ∷ int 1 ∷ [] }) (int 1 ∷ []) refl (0, omega arith, refl) refl 2 (omega arith)).1 shift_of_x)

only_zero : (outputs : List Value) → map sort_of outputs ≡ sort.Int ∷ [] → slice_get (args_at_zero outputs) 1 ≡ Some (int 0) → outputs ≡ int 0 ∷ []
only_zero [] sorts second = absurd (none-some (int 0) second)
only_zero (o ∷ []) sorts second = ap (λ v. v ∷ []) (same_Some o (int 0) second)
only_zero (o ∷ p ∷ outputs) sorts second = absurd cc

answers_by : (t : Tree) → Derives 1 t (int 0 ∷ int 0 ∷ []) → ((h : ℕ) (outputs : List Value) → Derives h t (args_at_zero outputs) → slice_get (args_at_zero outputs) 1 ≡ Some (int 0))
    → AreOutcomes shifts shift_problem.rules 2 gives t (int 0 ∷ []) one_outcome
answers_by t derives second = record {
  ascending = λ i j d l m. absurd (omega arith);
  sound = All-from_recursion (IsOutcome shifts shift_problem.rules 2 gives t (int 0 ∷ [])) one_outcome
      (record { sorted = refl; low = omega arith; least = record { within = derives; least = λ k l d. not_within k (omega arith) d } }, tt);
  complete = λ outputs sorts d. (0, omega arith, sym (only_zero outputs sorts (second 2 outputs d)));
}
  where
    not_within : (k : ℕ) → k ≤ 0 → Derives k t (int 0 ∷ int 0 ∷ []) → ⊥
    not_within zero l d = d
    not_within (suc k) l d = absurd (omega arith)

zero_is_second : (h : ℕ) (outputs : List Value) → Derives h just_zero (args_at_zero outputs) → slice_get (args_at_zero outputs) 1 ≡ Some (int 0)
zero_is_second zero outputs d = absurd d
zero_is_second (suc h) outputs d = zero_second h (args_at_zero outputs) d

x_is_second : (h : ℕ) (outputs : List Value) → Derives h just_x (args_at_zero outputs) → slice_get (args_at_zero outputs) 1 ≡ Some (int 0)
x_is_second zero outputs d = absurd d
x_is_second (suc h) outputs d =
    x_second h (args_at_zero outputs) d ∙ first_is_zero outputs (fact_sorted shifts shift_problem.rules (suc h) (fact_of just_x (args_at_zero outputs)) d)

pub mark_of_zero : IsMarkOf shift_problem 2 just_zero zero_mark
mark_of_zero = record { owner = owner_is zero_con [] refl; answers = (answers_by just_zero (zero_gives 0 0 refl) zero_is_second, tt) }

pub mark_of_x : IsMarkOf shift_problem 2 just_x zero_mark
mark_of_x = record { owner = owner_is x_con [] refl; answers = (answers_by just_x (x_gives 0 0 refl) x_is_second, tt) }
