use Rattle.std.proofs.Common.{◌≡◌, ◌<◌, ◌∙◌, Some, List, length, slice_get, get_or, sym, ap, subst, arith}
use Rattle.sig_core.specs.declared.ids.ConId.{ConId}
use Rattle.sig_core.specs.Signatures.{Declarations}
use Rattle.term_core.specs.Banks.{tree_of}
use Rattle.term_core.specs.Typings.{IsTermOf}
use Rattle.term_core.specs.Terms.{con_of}
use Rattle.eval_core.specs.Marks.{IsMarkOf, Probe, probes_of}
use Rattle.marks_core.specs.Marking.{Marking}
use Rattle.marks_core.specs.Tables.{probes_by_type}
use Rattle.marks_core.proofs.Marked.{head_stands, marked, owner_within, probes_are, probes_fit, type_within}
use Rattle.marks_core.proofs.horn.HornMarks.mark_of.Goals as goal
use Rattle.marks_core.proofs.horn.HornMarks.mark_of.Goals.{After-from}

pub constructor-requires : goal.constructor-requires
constructor-requires c =
    let sig = c.signature.result.now in
    let tree = tree_of c.args.bank.now c.args.id in
    let same : c.requires.term.0 ≡ sig = c.requires.term.1.signature ∙ sym (ap (λ (m : Marking). m.problem.signature) c.self.view_is) ∙ sym c.signature.ensures.value in
    subst (λ (con : ConId). con.0 < length sig.constructors) (sym c.con.ensures) (head_stands sig tree (subst (λ s. IsTermOf s tree) same c.requires.term.2))

-- the constructor of the term
at : (c : After-from) → slice_get c.self.inside.problem.now.signature.constructors c.con.result.0 ≡ Some c.constructor.result.now
at c = subst (λ (sig : Declarations). slice_get sig.constructors c.con.result.0 ≡ Some c.constructor.result.now) c.signature.ensures.value c.constructor.ensures

below : (c : After-from) → c.constructor.result.now.owner.0 < length c.self.inside.problem.now.signature.types
below c = owner_within c.self.inside.problem.now.signature c.con.result.0 c.constructor.result.now c.signature.ensures.sound.signature (at c)

lists : (c : After-from) → c.as_slice.result.now ≡ probes_by_type c.self.inside.problem.now
lists c = c.as_slice.ensures ∙ c.self.invariant.are_probes

within : (c : After-from) → c.from.result < length c.as_slice.result.now
within c = subst (λ k. k < length c.as_slice.result.now) (sym c.from.ensures) (type_within c.self.inside.problem.now c.as_slice.result.now c.constructor.result.now.owner (lists c) (below c))

pub offset_bounds-as_slice-from : goal.offset_bounds-as_slice-from
offset_bounds-as_slice-from c = let w = within c in let room = c.as_slice.type_inv.1 in omega arith

pub bounds-as_slice-from : goal.bounds-as_slice-from
bounds-as_slice-from c = within c

are_probes : (c : After-from) (list : List Probe) → list ≡ get_or c.as_slice.result.now c.from.result list → list ≡ probes_of c.self.inside.problem.now c.constructor.result.now.owner
are_probes c list is = probes_are c.self.inside.problem.now c.as_slice.result.now list c.constructor.result.now.owner c.from.result (lists c) (below c) c.from.ensures is

pub answers-requires-clause-inputs : goal.answers-requires-clause-inputs
answers-requires-clause-inputs c' =
    let c = (goal.at.answers-requires-clause-inputs c').After-from in
    probes_fit c.self.inside.problem.now c.constructor.result.now.owner c.self.inside.evaluator.signature c'.as_slice-probes.result.now c.self.invariant.signature
    (c'.as_slice-probes.ensures ∙ are_probes c c'.index-as_slice-from.result c'.index-as_slice-from.is)

pub returns-clause-mark : goal.returns-clause-mark
returns-clause-mark c' =
    let c = (goal.at.returns-clause-mark c').After-from in
    let problem = c.self.inside.problem.now in
    let tree = tree_of c.args.bank.now c.args.id in
    let made = c.constructor.result.now in
    let outcomes = c'.in_ok-outcomes.outcomes in
    let head : slice_get problem.signature.constructors (con_of tree).0 ≡ Some made = subst (λ (con : ConId). slice_get problem.signature.constructors con.0 ≡ Some made) c.con.ensures (at c) in
    subst (λ (m : Marking). IsMarkOf m.problem m.height tree (record { owner = made.owner; outcomes = outcomes })) c.self.view_is
    (marked problem c.self.inside.height tree made c.self.inside.evaluator.signature c.self.inside.evaluator.rules c'.as_slice-probes.result.now outcomes head c.self.invariant.signature c.self.invariant.rules
    (c'.as_slice-probes.ensures ∙ are_probes c c'.index-as_slice-from.result c'.index-as_slice-from.is) c'.in_ok-outcomes.ensures.answers)
