-- Facts with derivations within the same heights have the same least heights.
use Rattle.std.proofs.Common.{◌≤◌, ◌↔◌, inl, inr, ℕ, arith}
use Rattle.std.proofs.lemmas.Bool.{cases_lt}
use Rattle.rule_core.specs.Instances.{Fact}
use Rattle.problem_core.specs.Derivations.{Within, IsLeastHeight}
use Rattle.problem_core.specs.Problems.{Parts}
use Rattle.eval_core.specs.FactHeights.{SameHeights, IsSettled, AgreeInHeight}
use Rattle.problem_core.proofs.Heights.{Within-rises}

module _ (problem : Parts) (bound : ℕ) where
  -- what has the least height h is within k where h is at most k, and not within k where it is not
  least_decides : (f g : Fact) (h k : ℕ) → IsLeastHeight problem.signature problem.rules f h → IsLeastHeight problem.signature problem.rules g h
      → Within problem.signature problem.rules k f → Within problem.signature problem.rules k g
  least_decides f g h k one other d = elim (cases_lt k h) [
    | inl below ↦ absurd (one.least k below d)
    | inr above ↦ Within-rises problem.signature problem.rules h k g above other.within
  ]

  agree_one_way : (f g : Fact) (k : ℕ) → k ≤ bound → AgreeInHeight problem bound f g → Within problem.signature problem.rules k f → Within problem.signature problem.rules k g
  agree_one_way f g k le agree d = elim agree [
    | inl same ↦ least_decides f g same.0 k same.2 same.3 d
    | inr neither ↦ absurd (neither.0 (Within-rises problem.signature problem.rules k bound f le d))
  ]

  swapped : (f g : Fact) → AgreeInHeight problem bound f g → AgreeInHeight problem bound g f
  swapped f g (inl same) = inl (same.0, same.1, same.3, same.2)
  swapped f g (inr neither) = inr (neither.1, neither.0)

  pub agreeing_is_same : (f g : Fact) → AgreeInHeight problem bound f g → SameHeights problem bound f g
  agreeing_is_same f g agree = λ k le. (agree_one_way f g k le agree, agree_one_way g f k le (swapped f g agree))

  least_one_way : (f g : Fact) → SameHeights problem bound f g → (h : ℕ) → h ≤ bound → IsLeastHeight problem.signature problem.rules f h → IsLeastHeight problem.signature problem.rules g h
  least_one_way f g same h le one = record {
    within = (same h le).0 one.within;
    least = λ k below d. one.least k below ((same k (omega arith)).1 d);
  }

  pub same_least_heights : (f g : Fact) → SameHeights problem bound f g → (h : ℕ) → h ≤ bound → IsLeastHeight problem.signature problem.rules f h ↔ IsLeastHeight problem.signature problem.rules g h
  same_least_heights f g same h le = (least_one_way f g same h le, least_one_way g f (λ k l. ((same k l).1, (same k l).0)) h le)

  pub same_is_agreeing : (f g : Fact) → IsSettled problem bound f → SameHeights problem bound f g → AgreeInHeight problem bound f g
  same_is_agreeing f g (inl least) same = inl (least.0, least.1, least.2, least_one_way f g same least.0 least.1 least.2)
  same_is_agreeing f g (inr not) same = inr (not, λ d. not ((same bound (omega arith)).1 d))
