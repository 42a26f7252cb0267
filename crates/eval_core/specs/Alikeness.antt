-- Terms that are alike, children that may stand for others, and the laws of both.
use Rattle.std.specs.Prelude.{◌≡◌, ◌≤◌, ◌↔◌, ◌⊎◌, ℕ, true, None, Some, List, map, length, slice_get, All, Contains}
use Rattle.sig_core.specs.declared.ids.TypeId.{TypeId}
use Rattle.sig_core.specs.declared.ids.ConId.{ConId}
use Rattle.sig_core.specs.declared.ids.RelId.{RelId}
use Rattle.sig_core.specs.declared.value.Value.{Value}
use Rattle.term_core.specs.declared.tree.Tree.{Tree}
use Rattle.problem_core.specs.declared.parts.Constraint.{Constraint}
use Rattle.sig_core.specs.Values.{sort_of}
use Rattle.sig_core.specs.Signatures.{Declarations, kinds_of, inputs_of, plain_sorts, term_type, owner_of}
use Rattle.term_core.specs.Terms.{node, con_of}
use Rattle.term_core.specs.Typings.{HasType}
use Rattle.rule_core.specs.Instances.{slot_sorts, calls_of}
use Rattle.rule_core.specs.Flow.{fits_call, flow_fault, HandsOn}
use Rattle.problem_core.specs.Problems.{Parts, Solves}
use Rattle.eval_core.specs.FactHeights.{SameHeights}
use Rattle.eval_core.specs.Outcomes.{AreInputs, fact_with}

-- the inputs of a constraint's relation
abbrev pub example_of : Declarations → Constraint → List Value
example_of sig constraint = inputs_of (kinds_of sig constraint.relation) constraint.args

-- t and u are of the type, and have the same outputs within the same heights, in each relation of the type and at each
-- example whose values are inputs of the relation
pub record IsAlike (problem : Parts) (type : TypeId) (bound : ℕ) (t u : Tree) : Type 0 where
  pub left : owner_of problem.signature (con_of t) ≡ Some type
  pub right : owner_of problem.signature (con_of u) ≡ Some type
  pub same : (r : RelId) (example : Constraint) (outputs : List Value) →
      term_type (kinds_of problem.signature r) ≡ Some type →
      Contains problem.constraints example →
      AreInputs problem.signature r (example_of problem.signature example) →
      let inputs = example_of problem.signature example in
      SameHeights problem bound (fact_with problem.signature r t inputs outputs) (fact_with problem.signature r u inputs outputs)

-- t and u are alike, as terms of one type
abbrev pub AreAlike : Parts → ℕ → Tree → Tree → Type 0
AreAlike problem bound t u = (type : TypeId) × IsAlike problem type bound t u

-- u may stand for t as child i of the constructor: it is t, or they are alike and the constructor hands on at i
abbrev pub MayStandFor : Parts → ℕ → ConId → ℕ → Tree → Tree → Type 0
MayStandFor problem bound con i t u = (t ≡ u) ⊎ (HandsOn problem.signature problem.rules con i × AreAlike problem bound t u)

-- as many children of the constructor, each of which may stand for the one at its place
pub record MayStandForAll (problem : Parts) (bound : ℕ) (con : ConId) (ts us : List Tree) : Type 0 where
  pub as_many : length ts ≡ length us
  pub each : (i : ℕ) (t u : Tree) → slice_get ts i ≡ Some t → slice_get us i ≡ Some u → MayStandFor problem bound con i t u

-- each rule passes data flow
abbrev pub AllFlow : Parts → Type 0
AllFlow problem = All (λ rule. flow_fault problem.signature rule ≡ None) problem.rules

-- each call of each rule is on a term of its relation's type, with arguments of its sorts
abbrev pub CallsFit : Parts → Type 0
CallsFit problem = All (λ rule. All (λ call. fits_call problem.signature rule.con (slot_sorts problem.signature rule) call ≡ true) (calls_of rule.atoms)) problem.rules

-- so it is where each rule passes data flow
abbrev pub FlowFits : Type 0
FlowFits = (problem : Parts) → AllFlow problem → CallsFit problem

-- children that may stand for those of a term of the signature give an alike term
abbrev pub Congruence : Type 0
Congruence = (problem : Parts) (type : TypeId) (bound : ℕ) (con : ConId) (ts us : List Tree) →
    CallsFit problem → HasType problem.signature type (node con ts) → MayStandForAll problem bound con ts us →
    IsAlike problem type bound (node con ts) (node con us)

-- a term of the type is alike to itself
abbrev pub AlikeToItself : Type 0
AlikeToItself = (problem : Parts) (type : TypeId) (bound : ℕ) (t : Tree) → owner_of problem.signature (con_of t) ≡ Some type → IsAlike problem type bound t t

abbrev pub AlikeBothWays : Type 0
AlikeBothWays = (problem : Parts) (type : TypeId) (bound : ℕ) (t u : Tree) → IsAlike problem type bound t u → IsAlike problem type bound u t

abbrev pub AlikeInTurn : Type 0
AlikeInTurn = (problem : Parts) (type : TypeId) (bound : ℕ) (t u v : Tree) → IsAlike problem type bound t u → IsAlike problem type bound u v → IsAlike problem type bound t v

-- the constraint is on terms of the type, and has a value of the right sort for each other parameter
pub record IsConstraintOn (sig : Declarations) (type : TypeId) (constraint : Constraint) : Type 0 where
  pub term : term_type (kinds_of sig constraint.relation) ≡ Some type
  pub sorted : map sort_of constraint.args ≡ plain_sorts (kinds_of sig constraint.relation)

-- of two alike terms of the constraints' type either both solve or neither, at each height up to the bound
abbrev pub AlikeSolvesAlike : Type 0
AlikeSolvesAlike = (problem : Parts) (type : TypeId) (bound : ℕ) (t u : Tree) →
    All (IsConstraintOn problem.signature type) problem.constraints → IsAlike problem type bound t u →
    (h : ℕ) → h ≤ bound → Solves problem h t ↔ Solves problem h u
