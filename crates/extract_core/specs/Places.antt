-- Which step of a list has a fact.
use Rattle.std.specs.Prelude.{◌≡◌, ℕ, if◌then◌else◌, Option, Some, None, option_map, List, slice_get}
use Rattle.indexmap.specs.IndexMap.{IndexMap, get}
use Rattle.sig_core.specs.Signatures.{Declarations}
use Rattle.rule_core.specs.Instances.{param_values}
use Rattle.deriv_core.specs.declared.parts.Fact.{Fact}
use Rattle.deriv_core.specs.declared.parts.Step.{Step}
use Rattle.deriv_core.specs.contracts.parts.FactPartialEq.TheImpl.{ghosts as fact_equality}

-- the fact of a step
abbrev pub fact_of : Declarations → Step → Fact
fact_of sig step = record { relation = step.relation; node = step.node; args = param_values sig step.relation step.values }

-- the number that stands under a fact
abbrev pub number_in : {S : Type 0} → IndexMap Fact ℕ S → Fact → Option ℕ
number_in places fact = get fact_equality.eq places fact

-- `new` has the number under the fact, and under each other fact what `old` has
abbrev pub IsPut : (Fact → Option ℕ) → Fact → ℕ → (Fact → Option ℕ) → Type 0
IsPut old fact number new = (q : Fact) → new q ≡ (if fact_equality.eq fact q then Some number else old q)

-- under exactly the facts of the steps stands the number of a step with the fact
pub record ArePlaces (sig : Declarations) (steps : List Step) (number_of : Fact → Option ℕ) : Type 0 where
  pub sound : (fact : Fact) (n : ℕ) → number_of fact ≡ Some n → option_map (fact_of sig) (slice_get steps n) ≡ Some fact
  pub complete : (n : ℕ) (step : Step) → slice_get steps n ≡ Some step → ¬ (number_of (fact_of sig step) ≡ None)
