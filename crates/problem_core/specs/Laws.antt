-- The laws of derivations and of answers.
use Rattle.std.specs.Prelude.{◌≡◌, ◌≤◌, ℕ, Option, List}
use Rattle.rule_core.specs.declared.rule.Rule.{Rule}
use Rattle.term_core.specs.declared.tree.Tree.{Tree}
use Rattle.sig_core.specs.Signatures.{Declarations}
use Rattle.rule_core.specs.Instances.{Fact}
use Rattle.problem_core.specs.Derivations.{Within}
use Rattle.problem_core.specs.Problems.{Parts, IsAnswer}

-- a derivation within a height is one within each greater height
abbrev pub WithinRises : Type 0
WithinRises = (sig : Declarations) (rules : List Rule) (h k : ℕ) (fact : Fact) → h ≤ k → Within sig rules h fact → Within sig rules k fact

abbrev pub OneAnswer : Type 0
OneAnswer = (problem : Parts) (h n : ℕ) (a b : Option Tree) → IsAnswer problem h n a → IsAnswer problem h n b → a ≡ b
