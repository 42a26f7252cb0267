-- A problem's constraints as examples, which an evaluator is asked of a term.
use Rattle.std.specs.Prelude.{ℕ, List, map}
use Rattle.sig_core.specs.Signatures.{Declarations, kinds_of, inputs_of, outputs_of}
use Rattle.term_core.specs.declared.tree.Tree.{Tree}
use Rattle.rule_core.specs.declared.rule.Rule.{Rule}
use Rattle.problem_core.specs.declared.parts.Constraint.{Constraint}
use Rattle.problem_core.specs.Derivations.{Within}
use Rattle.problem_core.specs.Problems.{Parts}
use Rattle.eval_core.specs.Outcomes.{AreInputs, AreOutputs, fact_with}
use Rattle.solve_core.specs.declared.example.Example.{Example}

-- the constraint, with the values of its relation's inputs and outputs apart
abbrev pub as_example : Declarations → Constraint → Example
as_example sig constraint = record {
  relation = constraint.relation;
  inputs = inputs_of (kinds_of sig constraint.relation) constraint.args;
  outputs = outputs_of (kinds_of sig constraint.relation) constraint.args;
}

abbrev pub examples_of : Parts → List Example
examples_of problem = map (as_example problem.signature) problem.constraints

-- the values are inputs and outputs of the relation
pub record IsExampleOf (sig : Declarations) (example : Example) : Type 0 where
  pub inputs : AreInputs sig example.relation example.inputs
  pub outputs : AreOutputs sig example.relation example.outputs

-- the example's fact on t has a derivation within the height
abbrev pub HoldsOn : Declarations → List Rule → ℕ → Tree → Example → Type 0
HoldsOn sig rules h t example = Within sig rules h (fact_with sig example.relation t example.inputs example.outputs)
