-- What tells the solutions among the terms of a bank.
use Rattle.std.specs.Prelude.{◌≡◌, ◌≤◌, ℕ, Option, Some, MatchOption, List, [], take, slice_get, All}
use Rattle.term_core.specs.declared.ids.TermId.{TermId}
use Rattle.term_core.specs.declared.tree.Tree.{Tree}
use Rattle.term_core.specs.Banks.{tree_of}
use Rattle.problem_core.specs.Problems.{Parts, Solves}
use Rattle.problem_core.specs.Soundness.{IsSound}
use Rattle.eval_core.specs.Evaluations.{Evaluation, StandsFor}
use Rattle.solve_core.specs.declared.example.Example.{Example}
use Rattle.solve_core.specs.Examples.{examples_of}

-- the problem and the height that terms are verified for, and the evaluator that is asked
pub record Verification : Type 0 where
  pub problem : Parts
  pub height : ℕ
  pub evaluation : Evaluation

-- nothing was asked yet
abbrev pub unasked : Parts → ℕ → Verification
unasked problem height = record {
  problem = problem;
  height = height;
  evaluation = record { signature = problem.signature; rules = problem.rules; kept = [] };
}

-- the problem is sound, the evaluator is of its signature and rules and takes the height, and the examples are the problem's
pub record HasExamples (problem : Parts) (height : ℕ) (evaluation : Evaluation) (examples : List Example) : Type 0 where
  pub sound : IsSound problem
  pub signature : evaluation.signature ≡ problem.signature
  pub rules : evaluation.rules ≡ problem.rules
  pub positive : 1 ≤ height
  pub low : height ≤ 1000
  pub are_examples : examples ≡ examples_of problem

-- it is of the problem at the height, and all that it keeps is true of the bank's terms
pub record VerifiesIn (verification : Verification) (problem : Parts) (height : ℕ) (bank : List Tree) : Type 0 where
  pub problem_is : verification.problem ≡ problem
  pub height_is : verification.height ≡ height
  pub stands : StandsFor verification.evaluation bank

-- the id's term solves, and none of those of the ids before it
pub record IsFirstSolving (problem : Parts) (h : ℕ) (bank : List Tree) (ids : List TermId) (id : TermId) : Type 0 where
  pub place : ℕ
  pub at : slice_get ids place ≡ Some id
  pub solves : Solves problem h (tree_of bank id)
  pub none_before : All (λ other. ¬ Solves problem h (tree_of bank other)) (take place ids)

-- the first of the ids whose term solves, or nothing where none does
abbrev pub IsFirstOf : Parts → ℕ → List Tree → List TermId → Option TermId → Type 0
IsFirstOf problem h bank ids found =
    MatchOption found (All (λ id. ¬ Solves problem h (tree_of bank id)) ids) (IsFirstSolving problem h bank ids)
