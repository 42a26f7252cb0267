-- Branches and cases with their names looked up.
use Rattle.std.specs.Prelude.{ℕ, ◌+◌, ◌≤◌, List, [], ◌∷◌, ◌++◌, map, length, All}
use Rattle.sig_core.specs.declared.ids.ConId.{ConId}
use Rattle.sig_core.specs.declared.ids.RelId.{RelId}
use Rattle.sig_core.specs.Signatures.{Declarations}
use Rattle.sig_core.specs.WellFormed.{constructor_names}
use Rattle.syntax_core.specs.declared.syntax.Case.{Case}
use Rattle.syntax_core.specs.declared.syntax.Function.{Function}
use Rattle.sort_core.specs.declared.branch.OpenBranch.{OpenBranch}
use Rattle.sort_core.specs.declared.branch.OpenCase.{OpenCase}
use Rattle.sort_core.specs.declared.variables.Variables.{Variables}
use Rattle.name_core.specs.Bodies.{Branch, branches_of, width}
use Rattle.name_core.specs.Names.{plain_pairs, texts}
use Rattle.sort_core.specs.Opens.{number_named, opened, variables_of, within}

-- a branch over these variables and its existentials
abbrev pub open_branch : Declarations → Variables → Branch → OpenBranch
open_branch sig vars branch = record { around = branch.around; place = branch.leaf.place; atoms = map (opened sig (within vars branch.around)) branch.leaf.atoms }

-- the branches of a function's case
abbrev pub open_branches : Declarations → Function → Case → List OpenBranch
open_branches sig f case = map (open_branch sig (variables_of f case)) (branches_of case)

abbrev pub constructor_named : Declarations → List ℕ → ConId
constructor_named sig name = record { 0 = number_named (constructor_names sig.constructors) name }

-- a case of a function, which defines this relation
abbrev pub open_case : Declarations → RelId → Function → Case → OpenCase
open_case sig relation f case = record {
  relation = relation;
  con = constructor_named sig case.pattern.name.bytes;
  kids = texts case.pattern.variables;
  slots = length (plain_pairs f.declaration.params);
  branches = open_branches sig f case;
}

-- the cases of functions, of which the first defines the relation with this number
abbrev pub open_cases : Declarations → ℕ → List Function → List OpenCase
open_cases sig n [] = []
open_cases sig n (f ∷ functions) = map (open_case sig (record { 0 = n }) f) f.definition.cases ++ open_cases sig (n + 1) functions

-- the slots of each of its rules are few enough to be numbered
abbrev pub IsNarrow : Function → Case → Type 0
IsNarrow f case = length (plain_pairs f.declaration.params) + width case.body ≤ 256

abbrev pub HasNarrowCases : Function → Type 0
HasNarrowCases f = All (IsNarrow f) f.definition.cases
