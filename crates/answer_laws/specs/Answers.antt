-- Answers that can be printed and read back.
use Rattle.std.specs.Prelude.{◌≡◌, ℕ, ◌<◌, ◌≤◌, ◌^◌, IsTrue, List, length, All, Contains}
use Rattle.std.specs.List.{list_all}
use Rattle.sig_core.specs.Signatures.{Declarations}
use Rattle.sig_core.specs.Values.{is_value}
use Rattle.sexpr_core.specs.declared.form.Sexpr.{Sexpr}
use Rattle.sexpr_core.specs.Spelling.{Spell}
use Rattle.term_core.specs.declared.tree.Tree.{Tree}
use Rattle.term_core.specs.Terms.{size, AreNodesOf}
use Rattle.term_core.specs.Typings.{IsTermOf}
use Rattle.deriv_core.specs.Steps.{TreeStep}
use Rattle.answer_core.specs.AnswerText.{answer_text}
use Rattle.answer_core.specs.Readings.{TreeAnswer}
use Rattle.answer_laws.specs.Names.{term_nesting}

-- the relation is the signature's, the node is listed, the numbers have 64 bits and the values are in range
pub record IsStepTold (sig : Declarations) (nodes : List Tree) (step : TreeStep) : Type 0 where
  pub known : step.relation.0 < length sig.relations
  pub listed : Contains nodes step.node
  pub rule : step.rule < 2 ^ 64
  pub values : IsTrue (list_all is_value step.values)
  pub premises : All (λ p. p < 2 ^ 64) step.premises

-- The term is the signature's, of fewer than 2 ^ 32 constructors, and its text in the list of its line nests at most 200
-- deep. Its size is its own, and the nodes are its subterms. Each constraint's step is there, and steps and constraints
-- have numbers of 64 bits.
pub record IsAnswerTold (sig : Declarations) (answer : TreeAnswer) : Type 0 where
  pub typed : IsTermOf sig answer.term
  pub small : size answer.term < 2 ^ 32
  pub nests : term_nesting answer.term ≤ 199
  pub size_is : answer.size ≡ size answer.term
  pub nodes : AreNodesOf answer.term answer.nodes
  pub steps : All (IsStepTold sig answer.nodes) answer.steps
  pub derived : All (λ step. step < length answer.steps) answer.derived
  pub few_steps : length answer.steps ≤ 2 ^ 64
  pub few_derived : length answer.derived ≤ 2 ^ 64

-- the text that is printed of the answer
abbrev pub text_of_answer : Declarations → TreeAnswer → List ℕ
text_of_answer sig answer = answer_text sig answer.term answer.nodes answer.steps answer.derived

-- the text spells forms of which this holds
abbrev pub SpellsAll : List ℕ → (List Sexpr → Type 0) → Type 0
SpellsAll text Holds = (forms : List Sexpr) × Spell text forms × Holds forms
