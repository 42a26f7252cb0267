-- Marks of terms that are equal exactly for alike terms.
use Rattle.std.specs.Prelude.{◌≡◌, ◌↔◌, ℕ, Bool, ◌&&◌, Some, List, map, filter, All, Contains}
use Rattle.std.specs.List.{AllZip, flat_map}
use lib.Pointwise.{pointwise}
use Rattle.sig_core.specs.declared.value.Value.{Value}
use Rattle.sig_core.specs.declared.ids.TypeId.{TypeId}
use Rattle.sig_core.specs.declared.ids.RelId.{RelId}
use Rattle.sig_core.specs.Lists.{numbers_from}
use Rattle.sig_core.specs.Values.{sort_of, same_sort}
use Rattle.sig_core.specs.Signatures.{Declarations, kinds_of, plain_sorts, inputs_of, term_type, owner_of}
use Rattle.term_core.specs.declared.tree.Tree.{Tree}
use Rattle.term_core.specs.Terms.{con_of}
use Rattle.rule_core.specs.Flow.{same_type}
use Rattle.problem_core.specs.Problems.{Parts}
use Rattle.eval_core.specs.declared.mark.Mark.{Mark}
use Rattle.eval_core.specs.declared.outcome.Outcome.{Outcome}
use Rattle.eval_core.specs.Outcomes.{AreInputs, AreOutcomes}
use Rattle.eval_core.specs.Alikeness.{AreAlike, IsAlike, example_of}

-- a relation, and inputs at which terms are compared
pub record Probe : Type 0 where
  pub relation : RelId
  pub inputs : List Value

-- the relation is on terms of the type, and the inputs are an example's and have its sorts
pub record IsProbe (problem : Parts) (type : TypeId) (probe : Probe) : Type 0 where
  pub typed : term_type (kinds_of problem.signature probe.relation) ≡ Some type
  pub example : Contains (map (example_of problem.signature) problem.constraints) probe.inputs
  pub sorted : AreInputs problem.signature probe.relation probe.inputs

-- exactly those of the type, in any order, some perhaps twice
pub record AreProbes (problem : Parts) (type : TypeId) (probes : List Probe) : Type 0 where
  pub sound : All (IsProbe problem type) probes
  pub complete : (probe : Probe) → IsProbe problem type probe → Contains probes probe

abbrev pub fits_probe : Declarations → TypeId → Probe → Bool
fits_probe sig type probe =
    let kinds = kinds_of sig probe.relation in
    same_type (term_type kinds) (Some type) && pointwise (λ v s. same_sort (sort_of v) s) probe.inputs (inputs_of kinds (plain_sorts kinds))

-- each relation with the inputs of each example, in order
abbrev pub all_probes : Parts → List Probe
all_probes problem = flat_map (λ n. map (λ example. record { relation = record { 0 = n }; inputs = example_of problem.signature example }) problem.constraints) (numbers_from 0 problem.signature.relations)

-- those that fit
abbrev pub probes_of : Parts → TypeId → List Probe
probes_of problem type = filter (fits_probe problem.signature type) (all_probes problem)

-- a term's outcomes at each probe
abbrev pub AnswerProbes : Parts → ℕ → List Probe → Tree → List (List Outcome) → Type 0
AnswerProbes problem bound probes t lists = AllZip (λ probe outcomes. AreOutcomes problem.signature problem.rules bound probe.relation t probe.inputs outcomes) probes lists

-- the mark of a term: its type, and its outcomes at each probe of the type
pub record IsMarkOf (problem : Parts) (bound : ℕ) (t : Tree) (mark : Mark) : Type 0 where
  pub owner : owner_of problem.signature (con_of t) ≡ Some mark.owner
  pub answers : AnswerProbes problem bound (probes_of problem mark.owner) t mark.outcomes

-- the probes of a type are exactly these
abbrev pub ProbesAreAll : Type 0
ProbesAreAll = (problem : Parts) (type : TypeId) → AreProbes problem type (probes_of problem type)

-- terms of one type with equal outcomes at each probe are alike, and alike terms have equal ones
abbrev pub OutcomesDecide : Type 0
OutcomesDecide = (problem : Parts) (type : TypeId) (bound : ℕ) (probes : List Probe) (t u : Tree) (lists others : List (List Outcome)) →
    AreProbes problem type probes → owner_of problem.signature (con_of t) ≡ Some type → owner_of problem.signature (con_of u) ≡ Some type →
    AnswerProbes problem bound probes t lists → AnswerProbes problem bound probes u others →
    (lists ≡ others) ↔ IsAlike problem type bound t u

-- marks are equal exactly for alike terms
abbrev pub MarksDecide : Type 0
MarksDecide = (problem : Parts) (bound : ℕ) (t u : Tree) (mark other : Mark) → IsMarkOf problem bound t mark → IsMarkOf problem bound u other →
    (mark ≡ other) ↔ AreAlike problem bound t u
