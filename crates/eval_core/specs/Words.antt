-- Alikeness in the words of least heights.
use Rattle.std.specs.Prelude.{◌≡◌, ℕ, Some, List, Contains}
use Rattle.sig_core.specs.declared.value.Value.{Value}
use Rattle.sig_core.specs.declared.ids.TypeId.{TypeId}
use Rattle.sig_core.specs.declared.ids.RelId.{RelId}
use Rattle.sig_core.specs.Signatures.{kinds_of, term_type, owner_of}
use Rattle.term_core.specs.declared.tree.Tree.{Tree}
use Rattle.term_core.specs.Terms.{con_of}
use Rattle.problem_core.specs.declared.parts.Constraint.{Constraint}
use Rattle.problem_core.specs.Problems.{Parts}
use Rattle.eval_core.specs.declared.outcome.Outcome.{Outcome}
use Rattle.eval_core.specs.Outcomes.{fact_with, AreInputs, AreOutcomes}
use Rattle.eval_core.specs.Marks.{AnswerProbes, probes_of}
use Rattle.eval_core.specs.Alikeness.{IsAlike, example_of}
use Rattle.eval_core.specs.FactHeights.{AgreeInHeight, IsSettled}

-- t and u have one type, and for each relation of the type, each example of its input sorts and each list of outputs the
-- two facts have the same least height up to the bound, or neither is derivable within it
pub record AgreeInEach (problem : Parts) (type : TypeId) (bound : ℕ) (t u : Tree) : Type 0 where
  pub left : owner_of problem.signature (con_of t) ≡ Some type
  pub right : owner_of problem.signature (con_of u) ≡ Some type
  pub agree : (r : RelId) (example : Constraint) (outputs : List Value) →
      term_type (kinds_of problem.signature r) ≡ Some type →
      Contains problem.constraints example →
      AreInputs problem.signature r (example_of problem.signature example) →
      let inputs = example_of problem.signature example in
      AgreeInHeight problem bound (fact_with problem.signature r t inputs outputs) (fact_with problem.signature r u inputs outputs)

-- the outcomes settle each fact
abbrev pub OutcomesSettle : Type 0
OutcomesSettle = (problem : Parts) (bound : ℕ) (r : RelId) (t : Tree) (inputs : List Value) (outcomes : List Outcome) (outputs : List Value) →
    AreInputs problem.signature r inputs → AreOutcomes problem.signature problem.rules bound r t inputs outcomes →
    IsSettled problem bound (fact_with problem.signature r t inputs outputs)

-- terms that agree in each are alike
abbrev pub AgreeingIsAlike : Type 0
AgreeingIsAlike = (problem : Parts) (type : TypeId) (bound : ℕ) (t u : Tree) → AgreeInEach problem type bound t u → IsAlike problem type bound t u

-- and the other way round, where the outcomes of one are known
abbrev pub AlikeIsAgreeing : Type 0
AlikeIsAgreeing = (problem : Parts) (type : TypeId) (bound : ℕ) (t u : Tree) (lists : List (List Outcome)) → AnswerProbes problem bound (probes_of problem type) t lists →
    IsAlike problem type bound t u → AgreeInEach problem type bound t u
