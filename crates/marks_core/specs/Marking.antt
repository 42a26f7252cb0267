-- What a lens of marks is of, and what it has done.
use Rattle.std.specs.Prelude.{◌≡◌, ◌≤◌, ℕ, Bool, List, []}
use Rattle.std.specs.List.{AllZip}
use Rattle.sig_core.specs.Signatures.{Declarations}
use Rattle.term_core.specs.declared.tree.Tree.{Tree}
use Rattle.rule_core.specs.declared.rule.Rule.{Rule}
use Rattle.problem_core.specs.Problems.{Parts}
use Rattle.eval_core.specs.declared.outcome.Outcome.{Outcome}
use Rattle.eval_core.specs.Alikeness.{AllFlow}
use Rattle.eval_core.specs.Evaluations.{Evaluation}
use Rattle.eval_core.specs.Marks.{Probe}
use Rattle.eval_core.specs.Outcomes.{AreOutcomes}
use Rattle.marks_core.specs.Tables.{all_places, probes_by_type}

-- the problem and the height at which terms are compared, the evaluator that finds outcomes, and how many marks were taken
pub record Marking : Type 0 where
  pub problem : Parts
  pub height : ℕ
  pub evaluation : Evaluation
  pub looks : ℕ

-- no mark was taken yet
abbrev pub unused : Parts → ℕ → Marking
unused problem height = record {
  problem = problem;
  height = height;
  evaluation = record { signature = problem.signature; rules = problem.rules; kept = [] };
  looks = 0;
}

-- the signature is the problem's, each of whose rules passes data flow
pub record IsLensFor (marking : Marking) (sig : Declarations) : Type 0 where
  pub signature : sig ≡ marking.problem.signature
  pub flows : AllFlow marking.problem

-- a term's outcomes at each probe
abbrev pub AreAnswers : Declarations → List Rule → ℕ → Tree → List Probe → List (List Outcome) → Type 0
AreAnswers sig rules height t probes lists = AllZip (λ probe outcomes. AreOutcomes sig rules height probe.relation t probe.inputs outcomes) probes lists

-- the evaluator is of the problem's signature and rules, it takes the height, and the tables are the problem's
pub record HasTables (problem : Parts) (height : ℕ) (evaluation : Evaluation) (places : List (List Bool)) (probes : List (List Probe)) : Type 0 where
  pub signature : evaluation.signature ≡ problem.signature
  pub rules : evaluation.rules ≡ problem.rules
  pub positive : 1 ≤ height
  pub low : height ≤ 1000
  pub are_places : places ≡ all_places problem
  pub are_probes : probes ≡ probes_by_type problem
