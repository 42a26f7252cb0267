-- The parts of a sound problem are fit.
use Rattle.std.proofs.lemmas.List.Elements.{All-weaker}
use Rattle.std.proofs.Common.{◌≡◌, None, All}
use Rattle.rule_core.specs.Flow.{flow_fault}
use Rattle.grammar_core.specs.Languages.{IsGrammarOf, IsProductionOf}
use Rattle.problem_core.specs.Problems.{Parts}
use Rattle.problem_core.specs.Soundness.{IsSound, IsSoundConstraint, IsSoundNonterminal, IsSoundRule, wanted_type}
use Rattle.eval_core.specs.Alikeness.{IsConstraintOn}
use Rattle.solve_core.specs.Pruning.{SoundIsFit}

pub grammar_fits : (problem : Parts) → IsSound problem → IsGrammarOf problem.signature problem.grammar
grammar_fits problem sound =
    All-weaker (IsSoundNonterminal problem.signature problem.grammar) (λ n. All (IsProductionOf problem.signature problem.grammar n.owner) n.productions) (λ n is. is.makes) problem.grammar sound.grammar.nonterminals

pub sound_is_fit : SoundIsFit
sound_is_fit problem sound = record {
  flows = All-weaker (IsSoundRule problem.signature) (λ rule. flow_fault problem.signature rule ≡ None) (λ rule is. is.flows) problem.rules sound.rules;
  grammar = grammar_fits problem sound;
  constraints = All-weaker (IsSoundConstraint problem.signature (wanted_type problem.grammar)) (IsConstraintOn problem.signature (wanted_type problem.grammar)) (λ c is. record { term = is.type; sorted = is.sorted }) problem.constraints sound.constraints;
}
