-- What data flow refuses in a rule whose limits, names and sorts are right.
use Rattle.std.specs.Prelude.{◌≡◌, ◌++◌, Some, None, length, All}
use Rattle.rule_core.specs.declared.flow.FlowFault.{FlowFault}
use Rattle.rule_core.specs.Flow.{flow_fault}
use Rattle.sexpr_core.specs.declared.form.Sexpr.{Sexpr}
use Rattle.sexpr_core.specs.Access.{parts_of}
use Rattle.sig_core.specs.Signatures.{Declarations}
use Rattle.syntax_core.specs.declared.commands.Head.TheVariants.{DefineFunsRec}
use Rattle.syntax_core.specs.Roles.{head_of}
use Rattle.syntax_core.specs.Syntax.{functions_of}
use Rattle.sort_core.specs.declared.branch.OpenBranch.{OpenBranch}
use Rattle.sort_core.specs.declared.branch.OpenCase.{OpenCase}
use Rattle.sort_core.specs.Branches.{open_cases}
use Rattle.sort_core.specs.Relations.{declared_with}
use Rattle.sort_core.specs.Sorts.{sorts}
use Rattle.name_core.specs.Faults.{first, shapes}
use Rattle.name_core.specs.Limits.{limits}
use Rattle.name_core.specs.Names.{names}
use Rattle.name_core.specs.States.{State}
use Rattle.making_core.specs.Rules.{rule_of}

-- a `define-funs-rec` in which the tests of shape, limits, names and sorts find nothing
pub record IsTestedDefinition (s : State) (form : Sexpr) : Type 0 where
  pub word : head_of (parts_of form) ≡ Some DefineFunsRec
  pub shape : first (shapes form) ≡ None
  pub tests : first (limits s DefineFunsRec form ++ names s DefineFunsRec form ++ sorts s DefineFunsRec form) ≡ None

-- Why a rule fails data flow: an atom uses an unknown variable (reason 40 of the command), or an output (41) or an
-- existential (42) isn't known in the end. The fourth reason is an atom that doesn't fit.
pub data IsUnknown (fault : FlowFault) : Type 0 where
  used : fault.reason ≡ 1 → IsUnknown fault
  output : fault.reason ≡ 2 → IsUnknown fault
  existential : fault.reason ≡ 3 → IsUnknown fault

-- the branch's rule fails data flow for nothing else
abbrev pub HasFittingAtoms : Declarations → OpenCase → OpenBranch → Type 0
HasFittingAtoms sig case branch = (fault : FlowFault) → flow_fault sig (rule_of sig case.relation case.con case.kids branch) ≡ Some fault → IsUnknown fault

-- that is so in each rule that the functions of the command make
abbrev pub RulesFit : State → Sexpr → Type 0
RulesFit s form =
    All (λ case. All (HasFittingAtoms (declared_with s.signature (functions_of form)) case) case.branches)
    (open_cases (declared_with s.signature (functions_of form)) (length s.signature.relations) (functions_of form))
