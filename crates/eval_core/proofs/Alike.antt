-- Alikeness is an equivalence on the terms of a type, and alike terms solve alike.
use Rattle.std.proofs.Common.{◌≡◌, ◌<◌, ◌≤◌, ◌↔◌, ℕ, Some, List, length, slice_index_or, All, sym, ap, ◌∙◌, subst}
use Rattle.std.proofs.lemmas.List.{length-map}
use Rattle.std.proofs.lemmas.List.Elements.{Contains-get_or}
use Rattle.sig_core.specs.declared.value.Value.{Value}
use Rattle.sig_core.specs.declared.ids.TypeId.{TypeId}
use Rattle.sig_core.specs.Values.{sort_of}
use Rattle.sig_core.specs.Signatures.{kinds_of, inputs_of, outputs_of, plain_sorts, owner_of}
use Rattle.term_core.specs.declared.tree.Tree.{Tree}
use Rattle.term_core.specs.Terms.{con_of}
use Rattle.rule_core.specs.Instances.{Fact}
use Rattle.problem_core.specs.declared.parts.Constraint.{Constraint}
use Rattle.problem_core.specs.Derivations.{Within}
use Rattle.problem_core.specs.Problems.{Parts, Solves, fact_on}
use Rattle.eval_core.specs.Alikeness.{IsConstraintOn, IsAlike}
use Rattle.eval_core.proofs.Inputs.{inputs-map, woven-parts}

pub both_ways : (problem : Parts) (type : TypeId) (bound : ℕ) (t u : Tree) → IsAlike problem type bound t u → IsAlike problem type bound u t
both_ways problem type bound t u alike = record {
  left = alike.right;
  right = alike.left;
  same = λ r example outputs typed is_example sorts h le. (let p = alike.same r example outputs typed is_example sorts h le in (p.1, p.0));
}

-- a constraint that holds on t holds on a term that is alike
one_holds : (problem : Parts) (type : TypeId) (bound : ℕ) (t u : Tree) → IsAlike problem type bound t u → (h : ℕ) → h ≤ bound → (k : ℕ) (d : Constraint) → k < length problem.constraints
    → IsConstraintOn problem.signature type (slice_index_or problem.constraints k d)
    → Within problem.signature problem.rules h (fact_on t (slice_index_or problem.constraints k d)) → Within problem.signature problem.rules h (fact_on u (slice_index_or problem.constraints k d))
one_holds problem type bound t u alike h le k d l on holds =
    let sig = problem.signature in
    let constraint = slice_index_or problem.constraints k d in
    let ks = kinds_of sig constraint.relation in
    let full : length constraint.args ≡ length (plain_sorts ks) = sym (length-map constraint.args sort_of) ∙ ap length on.sorted in
    let parts = woven-parts ks constraint.args full in
    let fact : Tree → List Value → Fact = λ x args. record { relation = constraint.relation; term = x; args = args } in
    let p = alike.same constraint.relation constraint (outputs_of ks constraint.args) on.term (Contains-get_or problem.constraints k d l) (inputs-map sort_of ks constraint.args ∙ ap (inputs_of ks) on.sorted) h le in
    subst (λ args. Within sig problem.rules h (fact u args)) parts (p.0 (subst (λ args. Within sig problem.rules h (fact t args)) (sym parts) holds))

pub alike_solves_alike : (problem : Parts) (type : TypeId) (bound : ℕ) (t u : Tree) → All (IsConstraintOn problem.signature type) problem.constraints → IsAlike problem type bound t u
    → (h : ℕ) → h ≤ bound → Solves problem h t ↔ Solves problem h u
alike_solves_alike problem type bound t u on alike h le = (
  λ solves k d l. one_holds problem type bound t u alike h le k d l (on k d l) (solves k d l),
  λ solves k d l. one_holds problem type bound u t (both_ways problem type bound t u alike) h le k d l (on k d l) (solves k d l),
)

pub to_itself : (problem : Parts) (type : TypeId) (bound : ℕ) (t : Tree) → owner_of problem.signature (con_of t) ≡ Some type → IsAlike problem type bound t t
to_itself problem type bound t owner = record {
  left = owner;
  right = owner;
  same = λ r example outputs typed is_example sorts h le. (λ d. d, λ d. d);
}

pub in_turn : (problem : Parts) (type : TypeId) (bound : ℕ) (t u v : Tree) → IsAlike problem type bound t u → IsAlike problem type bound u v → IsAlike problem type bound t v
in_turn problem type bound t u v one other = record {
  left = one.left;
  right = other.right;
  same = λ r example outputs typed is_example sorts h le.
      (let p = one.same r example outputs typed is_example sorts h le in
      let q = other.same r example outputs typed is_example sorts h le in
      (λ d. q.0 (p.0 d), λ d. p.1 (q.1 d)));
}
