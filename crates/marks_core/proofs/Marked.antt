-- The mark of a term, from what the tables and the evaluator give.
use Rattle.std.proofs.Common.{◌≡◌, ◌<◌, ℕ, Option, Some, None, List, length, slice_get, get_or, All, refl, sym, ap, ap₂, subst, ◌∙◌, arith}
use Rattle.std.proofs.lemmas.List.Elements.{All-weaker}
use Rattle.std.proofs.lemmas.List.FromFn.{get_or-map-range_with_len, length-map-range_with_len}
use Rattle.std.proofs.lemmas.Option.{slice_get_within}
use Rattle.sig_core.specs.declared.ids.TypeId.{TypeId}
use Rattle.sig_core.specs.declared.signature.Constructor.{Constructor}
use Rattle.sig_core.specs.Signatures.{Declarations, owner_in}
use Rattle.sig_core.specs.WellFormed.{IsConstructor, IsWellFormed}
use Rattle.term_core.specs.declared.tree.Tree.{Tree}
use Rattle.term_core.specs.Terms.{con_of}
use Rattle.term_core.specs.Typings.{IsTermOf}
use Rattle.term_core.proofs.Typing.{type_is_owner}
use Rattle.rule_core.specs.declared.rule.Rule.{Rule}
use Rattle.problem_core.specs.Problems.{Parts}
use Rattle.eval_core.specs.declared.outcome.Outcome.{Outcome}
use Rattle.eval_core.specs.Marks.{IsMarkOf, IsProbe, Probe, probes_of}
use Rattle.eval_core.specs.Outcomes.{AreInputs}
use Rattle.eval_core.proofs.Lists.{at_place}
use Rattle.eval_core.proofs.Probing.{probes_are_all}
use Rattle.marks_core.specs.Marking.{AreAnswers}
use Rattle.marks_core.specs.Tables.{probes_by_type, probes_for}

owned : (constructors : List Constructor) (k : ℕ) (type : TypeId) (found : Option Constructor) → slice_get constructors k ≡ found → owner_in found ≡ Some type → k < length constructors
owned constructors k type None at e = absurd cc
owned constructors k type (Some c) at e = slice_get_within constructors k c at

-- the head of a term of the signature is one of its constructors
pub head_stands : (sig : Declarations) (t : Tree) → IsTermOf sig t → (con_of t).0 < length sig.constructors
head_stands sig t typed = owned sig.constructors (con_of t).0 typed.0 (slice_get sig.constructors (con_of t).0) refl (type_is_owner sig typed.0 t typed.1)

-- the owner of a constructor is one of the types
pub owner_within : (sig : Declarations) (k : ℕ) (c : Constructor) → IsWellFormed sig → slice_get sig.constructors k ≡ Some c → c.owner.0 < length sig.types
owner_within sig k c fine at = (at_place (IsConstructor (length sig.types)) sig.constructors k c fine.constructors at).owner

-- the table of probes has a list for each type
pub type_within : (problem : Parts) (lists : List (List Probe)) (type : TypeId) → lists ≡ probes_by_type problem → type.0 < length problem.signature.types → type.0 < length lists
type_within problem lists type are below =
    let count : length lists ≡ length problem.signature.types = ap length are ∙ length-map-range_with_len (probes_for problem) 0 (length problem.signature.types) in
    omega arith

-- which is that of the type
pub probes_are : (problem : Parts) (lists : List (List Probe)) (probes : List Probe) (type : TypeId) (k : ℕ) → lists ≡ probes_by_type problem → type.0 < length problem.signature.types → k ≡ type.0
    → probes ≡ get_or lists k probes → probes ≡ probes_of problem type
probes_are problem lists probes type k are below at is =
    is ∙ ap₂ (λ ls j. get_or ls j probes) are at ∙ get_or-map-range_with_len (probes_for problem) 0 (length problem.signature.types) type.0 type.0 probes below (omega arith)

-- the inputs of probes have the sorts of their relations
pub probes_fit : (problem : Parts) (type : TypeId) (sig : Declarations) (probes : List Probe) → sig ≡ problem.signature → probes ≡ probes_of problem type → All (λ probe. AreInputs sig probe.relation probe.inputs) probes
probes_fit problem type sig probes same are =
    subst (λ s. All (λ probe. AreInputs s probe.relation probe.inputs) probes) (sym same)
    (subst (All (λ probe. AreInputs problem.signature probe.relation probe.inputs)) (sym are)
    (All-weaker (IsProbe problem type) (λ probe. AreInputs problem.signature probe.relation probe.inputs) (λ probe is. is.sorted) (probes_of problem type) (probes_are_all problem type).sound))

-- a term's type and its outcomes at the probes of the type are its mark
pub marked : (problem : Parts) (h : ℕ) (t : Tree) (c : Constructor) (sig : Declarations) (rules : List Rule) (probes : List Probe) (lists : List (List Outcome))
    → slice_get problem.signature.constructors (con_of t).0 ≡ Some c → sig ≡ problem.signature → rules ≡ problem.rules → probes ≡ probes_of problem c.owner → AreAnswers sig rules h t probes lists
    → IsMarkOf problem h t (record { owner = c.owner; outcomes = lists })
marked problem h t c sig rules probes lists at same_sig same_rules are answers = record {
  owner = ap owner_in at;
  answers = subst (λ s. AreAnswers s problem.rules h t (probes_of problem c.owner) lists) same_sig
      (subst (λ rs. AreAnswers sig rs h t (probes_of problem c.owner) lists) same_rules (subst (λ ps. AreAnswers sig rules h t ps lists) are answers));
}
