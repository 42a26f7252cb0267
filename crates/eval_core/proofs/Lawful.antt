-- Alikeness is the sameness of a lens.
use Rattle.std.proofs.Common.{◌≡◌, ◌↔◌, inl, inr, ℕ, ◌+◌, Bool, true, false, not, ◌||◌, nat_eq, slice_index_or, refl, sym, ap, ◌∙◌, subst, arith, eqb-true, eq-eqb}
use Rattle.std.specs.Bool.{MatchBool}
use Rattle.std.specs.List.{list_all}
use lib.Pointwise.{pointwise}
use Rattle.std.proofs.lemmas.List.Sums.{AllPass-from_list_all, list_all-from_AllPass}
use Rattle.std.proofs.lemmas.Option.{same_Some}
use Rattle.sig_core.specs.declared.ids.ConId.{ConId}
use Rattle.sig_core.specs.Signatures.{Declarations, kinds_of, input_slots}
use Rattle.term_core.specs.declared.tree.Tree.{Tree}
use Rattle.term_core.proofs.Typing.{type_is_owner}
use Rattle.lens_core.specs.Lenses.{IsCongruent, IsSameness}
use Rattle.lens_core.proofs.Matching.{matched_length, matched_at}
use Rattle.rule_core.specs.declared.rule.Atom.{Atom}
use Rattle.rule_core.specs.declared.rule.Atom.TheVariants as atom
use Rattle.rule_core.specs.declared.rule.Rule.{Rule}
use Rattle.rule_core.specs.Flow.{calls_on, names_slot, TakesInputs, HandsOn}
use Rattle.rule_core.proofs.Slotted.{all_named, all_names}
use Rattle.problem_core.specs.Problems.{Parts}
use Rattle.eval_core.specs.Alikeness.{AreAlike, MayStandFor, AllFlow, CallsFit, IsAlike}
use Rattle.eval_core.specs.Lenses.{takes_inputs, rule_hands_on, hands_on}
use Rattle.eval_core.proofs.Alike.{to_itself, both_ways, in_turn}
use Rattle.eval_core.proofs.Listed.{calls_fit}
use Rattle.eval_core.proofs.Congruent as congruent

-- if the first is so, then the second
if_then : (a b : Bool) → not a || b ≡ true → a ≡ true → b ≡ true
if_then true b h e = h
if_then false b h e = absurd cc

or_not : (a b : Bool) → (a ≡ true → b ≡ true) → not a || b ≡ true
or_not true b h = h refl
or_not false b h = refl

atom_by_test : (sig : Declarations) (rule : Rule) (i : ℕ) (a : Atom) → takes_inputs sig rule i a ≡ true → TakesInputs sig rule i a
atom_by_test sig rule i (atom.Call call) h = λ on.
    all_named call.inputs (input_slots (kinds_of sig rule.relation)) (if_then (calls_on call.who i) (pointwise names_slot call.inputs (input_slots (kinds_of sig rule.relation))) h on)
atom_by_test sig rule i (atom.Fill slot e) h = tt
atom_by_test sig rule i (atom.Test e) h = tt

test_by_atom : (sig : Declarations) (rule : Rule) (i : ℕ) (a : Atom) → TakesInputs sig rule i a → takes_inputs sig rule i a ≡ true
test_by_atom sig rule i (atom.Call call) takes =
    let slots = input_slots (kinds_of sig rule.relation) in
    or_not (calls_on call.who i) (pointwise names_slot call.inputs slots) (λ on. ap (λ es. pointwise names_slot es slots) (takes on) ∙ all_names slots)
test_by_atom sig rule i (atom.Fill slot e) takes = refl
test_by_atom sig rule i (atom.Test e) takes = refl

by_test : (problem : Parts) (con : ConId) (i : ℕ) → hands_on problem con i ≡ true → HandsOn problem.signature problem.rules con i
by_test problem con i h = λ k d l is_con.
    (let sig = problem.signature in
    let rule = slice_index_or problem.rules k d in
    let all = if_then (nat_eq rule.con.0 con.0) (list_all (takes_inputs sig rule i) rule.atoms) (AllPass-from_list_all (rule_hands_on sig con i) problem.rules h k d l) (eq-eqb rule.con.0 con.0 (ap (λ c. c.0) is_con)) in
    λ j e m. atom_by_test sig rule i (slice_index_or rule.atoms j e) (AllPass-from_list_all (takes_inputs sig rule i) rule.atoms all j e m))

to_test : (problem : Parts) (con : ConId) (i : ℕ) → HandsOn problem.signature problem.rules con i → hands_on problem con i ≡ true
to_test problem con i hands =
    let sig = problem.signature in
    list_all-from_AllPass (rule_hands_on sig con i) problem.rules (λ k d l.
    (let rule = slice_index_or problem.rules k d in
    or_not (nat_eq rule.con.0 con.0) (list_all (takes_inputs sig rule i) rule.atoms) (λ is_con.
    (let takes = hands k d l (ap (λ n. record { 0 = n }) (eqb-true rule.con.0 con.0 is_con)) in
    list_all-from_AllPass (takes_inputs sig rule i) rule.atoms (λ j e m. test_by_atom sig rule i (slice_index_or rule.atoms j e) (takes j e m))))))

pub hands_on_by_test : (problem : Parts) (con : ConId) (i : ℕ) → (hands_on problem con i ≡ true) ↔ HandsOn problem.signature problem.rules con i
hands_on_by_test problem con i = (by_test problem con i, to_test problem con i)

stands_by : (problem : Parts) (bound : ℕ) (con : ConId) (i : ℕ) (t u : Tree) (b : Bool) → hands_on problem con i ≡ b → MatchBool b (AreAlike problem bound t u) (t ≡ u) → MayStandFor problem bound con i t u
stands_by problem bound con i t u true plain alike = inr (by_test problem con i plain, alike)
stands_by problem bound con i t u false plain same = inl same

pub flow_fits : (problem : Parts) → AllFlow problem → CallsFit problem
flow_fits problem flows = λ k d l. calls_fit problem.signature (slice_index_or problem.rules k d) (flows k d l)

pub alike_is_congruent : (problem : Parts) (bound : ℕ) → AllFlow problem → IsCongruent problem.signature (hands_on problem) (AreAlike problem bound)
alike_is_congruent problem bound flows = λ con ts us one other matched. (
  one.0,
  congruent.congruence problem one.0 bound con ts us (flow_fits problem flows) one.1 (record {
    as_many = matched_length (AreAlike problem bound) (hands_on problem con) 0 ts us matched;
    each = λ i t u at at'.
        (let here : 0 + i ≡ i = omega arith in
        let m = subst (λ k. MatchBool (hands_on problem con k) (AreAlike problem bound t u) (t ≡ u)) here (matched_at (AreAlike problem bound) (hands_on problem con) 0 ts us matched i t u at at') in
        stands_by problem bound con i t u (hands_on problem con i) refl m);
  }),
)

pub alike_is_sameness : (problem : Parts) (bound : ℕ) → IsSameness problem.signature (AreAlike problem bound)
alike_is_sameness problem bound = record {
  itself = λ t typed. (typed.0, to_itself problem typed.0 bound t (type_is_owner problem.signature typed.0 t typed.1));
  back = λ t u alike. (alike.0, both_ways problem alike.0 bound t u alike.1);
  onward = λ t u v one other.
      (let type : other.0 ≡ one.0 = same_Some other.0 one.0 (sym other.1.left ∙ one.1.right) in
      (one.0, in_turn problem one.0 bound t u v one.1 (subst (λ a. IsAlike problem a bound u v) type other.1)));
}
