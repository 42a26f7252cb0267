-- The problem of the shifts is sound.
use Rattle.std.proofs.Common.{◌≡◌, ℕ, true, false, None, List, [], ◌∷◌, slice_get, All, refl, sym, ap, ◌∙◌, subst, arith}
use Rattle.std.specs.Prelude.{codes}
use Rattle.std.proofs.lemmas.List.Elements.{All-cons, All-from_recursion, All-head, All-nil, All-tail}
use Rattle.sig_core.specs.declared.signature.Relation.{Relation}
use Rattle.sig_core.specs.Names.{is_reserved}
use Rattle.sig_core.specs.WellFormed.{IsWellFormed, constructor_names, names_of_params}
use Rattle.rule_core.specs.declared.rule.Rule.{Rule}
use Rattle.rule_core.specs.Flow.{flow_fault}
use Rattle.grammar_core.specs.declared.production.Nonterminal.{Nonterminal}
use Rattle.grammar_core.specs.Grammars.{productions_of, start}
use Rattle.grammar_core.specs.Limits.{KeepsLimits}
use Rattle.grammar_core.specs.Refusals.{makes}
use Rattle.grammar_core.specs.WellFormed.{IsGrammar}
use Rattle.sig_core.specs.Signatures.{Declarations}
use Rattle.problem_core.specs.declared.parts.Constraint.{Constraint}
use Rattle.problem_core.specs.declared.parts.Info.{Info}
use Rattle.problem_core.specs.Problems.{Parts}
use Rattle.problem_core.specs.Views.{parts}
use Rattle.problem_core.specs.Soundness.{HasFreeNames, HasShortNames, IsShort, IsSound, IsSoundConstraint, IsSoundGrammar, IsSoundNonterminal, IsSoundRule, is_sort_name}
use Rattle.eval_core.specs.ShiftExample.{expression, gives, int, shift_problem, shift_rule, shifts, x_rule, zero_rule}
use Rattle.example_shifts.specs.Stages.{gives_relation}
use Rattle.example_relations.proofs.Fits.{unary_free}
use Rattle.example_relations.proofs.Names.{distinct_by_test, free_by_test}
use Rattle.example_shifts.proofs.Lists.{short_by_test}
use Rattle.example_shifts.proofs.Fitting.{shift_clean, shift_fits, x_clean, x_fits, zero_clean, zero_fits}

shift_free : All (λ name. is_reserved name ≡ false) (codes "t" ∷ codes "x" ∷ codes "r" ∷ codes "u" ∷ codes "q" ∷ [])
unfolding is_reserved
shift_free = free_by_test (codes "t" ∷ codes "x" ∷ codes "r" ∷ codes "u" ∷ codes "q" ∷ []) refl

relation_free : is_reserved (codes "gives") ≡ false
unfolding is_reserved
relation_free = refl

zero_sound : flow_fault shifts zero_rule ≡ None → IsSoundRule shifts zero_rule
zero_sound flows = record {
  fits = zero_fits;
  flows = flows;
  children = refl;
  few_variables = omega arith;
  distinct = distinct_by_test (codes "t" ∷ codes "x" ∷ codes "r" ∷ []) refl;
  free = unary_free;
  short = short_by_test (codes "t" ∷ codes "x" ∷ codes "r" ∷ []) refl;
  clean = zero_clean;
}

x_sound : flow_fault shifts x_rule ≡ None → IsSoundRule shifts x_rule
x_sound flows = record {
  fits = x_fits;
  flows = flows;
  children = refl;
  few_variables = omega arith;
  distinct = distinct_by_test (codes "t" ∷ codes "x" ∷ codes "r" ∷ []) refl;
  free = unary_free;
  short = short_by_test (codes "t" ∷ codes "x" ∷ codes "r" ∷ []) refl;
  clean = x_clean;
}

shift_sound : flow_fault shifts shift_rule ≡ None → IsSoundRule shifts shift_rule
shift_sound flows = record {
  fits = shift_fits;
  flows = flows;
  children = refl;
  few_variables = omega arith;
  distinct = distinct_by_test (codes "t" ∷ codes "x" ∷ codes "r" ∷ codes "u" ∷ codes "q" ∷ []) refl;
  free = shift_free;
  short = short_by_test (codes "t" ∷ codes "x" ∷ codes "r" ∷ codes "u" ∷ codes "q" ∷ []) refl;
  clean = shift_clean;
}

has_short_names : HasShortNames shifts
has_short_names = record {
  types = short_by_test shifts.types refl;
  constructors = short_by_test (constructor_names shifts.constructors) refl;
  relations = short_by_test (codes "gives" ∷ []) refl;
  params = All-cons (λ (r : Relation). All IsShort (names_of_params r.params)) gives_relation [] (short_by_test (names_of_params gives_relation.params) refl) (All-nil (λ (r : Relation). All IsShort (names_of_params r.params)));
}

has_free_names : HasFreeNames shifts
has_free_names = record {
  types = All-cons (λ name. is_sort_name name ≡ false) (codes "E") [] refl (All-nil (λ name. is_sort_name name ≡ false));
  relations = All-cons (λ name. is_reserved name ≡ false) (codes "gives") [] relation_free (All-nil (λ name. is_reserved name ≡ false));
}

nonterminals_sound : All (IsSoundNonterminal shifts shift_problem.grammar) shift_problem.grammar
nonterminals_sound = All-from_recursion (IsSoundNonterminal shifts shift_problem.grammar) shift_problem.grammar (
  record {
    owner = omega arith;
    makes = All-from_recursion (λ p. makes shift_problem.grammar expression p.args (slice_get shifts.constructors p.con.0) ≡ true) (productions_of shift_problem.grammar start) (refl, (refl, (refl, tt)));
  },
  tt,
)

pub grammar_sound : IsGrammar shift_problem.grammar → KeepsLimits shift_problem.grammar → IsSoundGrammar shifts shift_problem.grammar
grammar_sound fine limits = record {
  fine = fine;
  limits = limits;
  has_start = omega arith;
  nonterminals = nonterminals_sound;
  short = short_by_test (codes "E" ∷ []) refl;
  new = λ other. absurd (other refl);
}

constraint_sound : All (IsSoundConstraint shifts expression) shift_problem.constraints
constraint_sound =
    let constraint : Constraint = record { relation = gives; args = int 0 ∷ int 1 ∷ [] } in
    All-cons (IsSoundConstraint shifts expression) constraint [] (record { type = refl; sorted = refl; in_range = refl }) (All-nil (IsSoundConstraint shifts expression))

abbrev Flows : Rule → Type 0
Flows rule = flow_fault shifts rule ≡ None

rules_sound : All Flows (zero_rule ∷ x_rule ∷ shift_rule ∷ []) → All (IsSoundRule shifts) (zero_rule ∷ x_rule ∷ shift_rule ∷ [])
rules_sound flows =
    let others = All-tail Flows zero_rule (x_rule ∷ shift_rule ∷ []) flows in
    let last = All-tail Flows x_rule (shift_rule ∷ []) others in
    All-cons (IsSoundRule shifts) zero_rule (x_rule ∷ shift_rule ∷ []) (zero_sound (All-head Flows zero_rule (x_rule ∷ shift_rule ∷ []) flows))
    (All-cons (IsSoundRule shifts) x_rule (shift_rule ∷ []) (x_sound (All-head Flows x_rule (shift_rule ∷ []) others))
    (All-cons (IsSoundRule shifts) shift_rule [] (shift_sound (All-head Flows shift_rule [] last)) (All-nil (IsSoundRule shifts))))

pub shift_problem_sound : IsWellFormed shifts → All (λ rule. flow_fault shifts rule ≡ None) shift_problem.rules → IsGrammar shift_problem.grammar → KeepsLimits shift_problem.grammar → IsSound shift_problem
shift_problem_sound well_formed flows fine limits = record {
  signature = well_formed;
  names = has_short_names;
  free_names = has_free_names;
  few_rules = omega arith;
  rules = rules_sound flows;
  grammar = grammar_sound fine limits;
  wanted = omega arith;
  few_constraints = omega arith;
  constraints = constraint_sound;
}

-- parts that are those of the problem make it
pub parts_same : (infos : List Info) (sig : Declarations) (rules : List Rule) (grammar : List Nonterminal) (wanted : List ℕ) (constraints : List Constraint)
    → infos ≡ [] → sig ≡ shifts → rules ≡ shift_problem.rules → grammar ≡ shift_problem.grammar → wanted ≡ codes "f" → constraints ≡ shift_problem.constraints → parts infos sig rules grammar wanted constraints ≡ shift_problem
parts_same infos sig rules grammar wanted constraints e f g h i j =
    ap (λ x. parts x sig rules grammar wanted constraints) e
    ∙ ap (λ x. parts [] x rules grammar wanted constraints) f
    ∙ ap (λ x. parts [] shifts x grammar wanted constraints) g
    ∙ ap (λ x. parts [] shifts shift_problem.rules x wanted constraints) h
    ∙ ap (λ x. parts [] shifts shift_problem.rules shift_problem.grammar x constraints) i
    ∙ ap (λ x. parts [] shifts shift_problem.rules shift_problem.grammar (codes "f") x) j

pub parts_sound : (problem : Parts) (sig : Declarations) (grammar : List Nonterminal) → problem ≡ shift_problem → sig ≡ shifts → grammar ≡ shift_problem.grammar → IsWellFormed sig
    → All (λ rule. flow_fault shifts rule ≡ None) shift_problem.rules → IsGrammar grammar → KeepsLimits grammar → IsSound problem
parts_sound problem sig grammar e f g well_formed flows fine limits =
    subst IsSound (sym e) (shift_problem_sound (subst IsWellFormed f well_formed) flows (subst IsGrammar g fine) (subst KeepsLimits g limits))
