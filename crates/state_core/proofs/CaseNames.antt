-- The names of the rules that functions make, where the tests of limits and names have found nothing.
use Rattle.std.proofs.Common.{ℕ, List, [], ◌∷◌, ◌++◌, length, All}
use Rattle.std.proofs.lemmas.List.Elements.{All-append, All-cons, All-head, All-map, All-nil, All-tail}
use Rattle.sig_core.specs.Signatures.{Declarations}
use Rattle.problem_core.specs.Soundness.{IsShort}
use Rattle.sexpr_core.specs.declared.form.Atom.{Atom}
use Rattle.syntax_core.specs.declared.syntax.Case.{Case}
use Rattle.syntax_core.specs.declared.syntax.Function.{Function}
use Rattle.syntax_core.specs.declared.syntax.Pair.{Pair}
use Rattle.name_core.specs.Bodies.{Branch, branches_of}
use Rattle.name_core.specs.Names.{names_in, texts}
use Rattle.name_core.proofs.LimitFacts.{BranchFits, CaseFits, FunctionFits}
use Rattle.name_core.proofs.NameFacts.{BranchNamed, CaseNamed, DeclarationNamed, DefinitionNamed, IsFree}
use Rattle.making_core.proofs.Conjunctions.{IsApart}
use Rattle.making_core.proofs.EachAtom.{HasAtoms, HasCases, HasRules}
use Rattle.state_core.proofs.RuleSoundness.{HasNamedCases, IsNamed}

-- each `and` among the atoms is taken apart
abbrev pub HasApartAtoms : Branch → Type 0
HasApartAtoms = HasAtoms IsApart

abbrev pub HasApartRules : Case → Type 0
HasApartRules = HasRules IsApart

abbrev pub HasApartCases : Function → Type 0
HasApartCases = HasCases IsApart

-- what holds of the names of parameters, of children and of existentials holds of a rule's names
all_names : (P : List ℕ → Type 0) (params around : List Pair) (children : List Atom) → All (λ (p : Pair). P p.name.bytes) params → All (λ (a : Atom). P a.bytes) children →
    All (λ (p : Pair). P p.name.bytes) around → All P (names_in params ++ texts children ++ names_in around)
all_names P params around children one two three =
    All-append P (names_in params ++ texts children) (names_in around)
    (All-append P (names_in params) (texts children) (All-map P (λ (p : Pair). p.name.bytes) params one) (All-map P (λ (a : Atom). a.bytes) children two))
    (All-map P (λ (p : Pair). p.name.bytes) around three)

branch_named : (sig : Declarations) (relations : List (List ℕ)) (f : Function) (case : Case) → FunctionFits f → DeclarationNamed sig f → CaseFits (length f.declaration.params) case →
    CaseNamed sig relations (names_in f.declaration.params) case → (branch : Branch) → BranchFits (length f.declaration.params) branch →
    BranchNamed relations (names_in f.declaration.params ++ texts case.pattern.variables) branch → HasApartAtoms branch → IsNamed f case branch
branch_named sig relations f case fit declared case_fit named branch branch_fit own apart = record {
  distinct = own.distinct;
  free = all_names IsFree f.declaration.params branch.around case.pattern.variables declared.free_params named.free own.free;
  short = all_names IsShort f.declaration.params branch.around case.pattern.variables fit.0.short_params case_fit.short branch_fit.short;
  apart = apart;
}

branches_named : (sig : Declarations) (relations : List (List ℕ)) (f : Function) (case : Case) → FunctionFits f → DeclarationNamed sig f → CaseFits (length f.declaration.params) case →
    CaseNamed sig relations (names_in f.declaration.params) case → (branches : List Branch) → All (BranchFits (length f.declaration.params)) branches →
    All (BranchNamed relations (names_in f.declaration.params ++ texts case.pattern.variables)) branches → All HasApartAtoms branches → All (IsNamed f case) branches
branches_named sig relations f case fit declared case_fit named [] fits names apart = All-nil (IsNamed f case)
branches_named sig relations f case fit declared case_fit named (b ∷ bs) fits names apart =
    let F : Branch → Type 0 = BranchFits (length f.declaration.params) in
    let N : Branch → Type 0 = BranchNamed relations (names_in f.declaration.params ++ texts case.pattern.variables) in
    All-cons (IsNamed f case) b bs
    (branch_named sig relations f case fit declared case_fit named b (All-head F b bs fits) (All-head N b bs names) (All-head HasApartAtoms b bs apart))
    (branches_named sig relations f case fit declared case_fit named bs (All-tail F b bs fits) (All-tail N b bs names) (All-tail HasApartAtoms b bs apart))

cases_named : (sig : Declarations) (relations : List (List ℕ)) (f : Function) → FunctionFits f → DeclarationNamed sig f → (cases : List Case) → All (CaseFits (length f.declaration.params)) cases →
    All (CaseNamed sig relations (names_in f.declaration.params)) cases → All HasApartRules cases → All (λ (case : Case). All (IsNamed f case) (branches_of case)) cases
cases_named sig relations f fit declared [] fits names apart = All-nil (λ (case : Case). All (IsNamed f case) (branches_of case))
cases_named sig relations f fit declared (c ∷ cs) fits names apart =
    let F : Case → Type 0 = CaseFits (length f.declaration.params) in
    let N : Case → Type 0 = CaseNamed sig relations (names_in f.declaration.params) in
    All-cons (λ (case : Case). All (IsNamed f case) (branches_of case)) c cs
    (branches_named sig relations f c fit declared (All-head F c cs fits) (All-head N c cs names) (branches_of c) (All-head F c cs fits).branches (All-head N c cs names).branches
    (All-head HasApartRules c cs apart))
    (cases_named sig relations f fit declared cs (All-tail F c cs fits) (All-tail N c cs names) (All-tail HasApartRules c cs apart))

-- the names of each rule of functions are as they must be
pub functions_named : (sig : Declarations) (relations : List (List ℕ)) (functions : List Function) → All FunctionFits functions → All (DeclarationNamed sig) functions →
    All (DefinitionNamed sig relations) functions → All HasApartCases functions → All HasNamedCases functions
functions_named sig relations [] fits declared defined apart = All-nil HasNamedCases
functions_named sig relations (f ∷ fs) fits declared defined apart =
    let fit : FunctionFits f = All-head FunctionFits f fs fits in
    All-cons HasNamedCases f fs
    (cases_named sig relations f fit (All-head (DeclarationNamed sig) f fs declared) f.definition.cases fit.1 (All-head (DefinitionNamed sig relations) f fs defined).cases
    (All-head HasApartCases f fs apart))
    (functions_named sig relations fs (All-tail FunctionFits f fs fits) (All-tail (DeclarationNamed sig) f fs declared) (All-tail (DefinitionNamed sig relations) f fs defined) (All-tail HasApartCases f fs apart))
