-- The atoms of a rule fit where their sorts are right, so data flow refuses none for an atom that doesn't fit.
use Rattle.std.proofs.Common.{◌≡◌, ℕ, zero, suc, ◌+◌, ◌<◌, Bool, true, false, Option, Some, None, List, [], ◌∷◌, map, length, slice_get, refl, sym, ap, ap₂, subst, ◌∙◌, arith}
use Rattle.std.specs.Prelude.{not, ◌&&◌, nat_eq, option_and_then, All, if◌then◌else◌}
use Rattle.std.specs.List.{list_all}
use Rattle.std.specs.Option.{option_map_or, option_or}
use lib.Pointwise.{pointwise}
use Rattle.std.proofs.lemmas.Bool.{and_parts}
use Rattle.std.proofs.lemmas.Bool.Decides.{nat_tests}
use Rattle.std.proofs.lemmas.List.Elements.{All-nil, All-cons, All-head, All-tail}
use Rattle.sig_core.specs.declared.ids.RelId.{RelId}
use Rattle.sig_core.specs.declared.ids.ConId.{ConId}
use Rattle.sig_core.specs.declared.ids.TypeId.{TypeId}
use Rattle.sig_core.specs.declared.signature.Constructor.{Constructor}
use Rattle.sig_core.specs.declared.signature.Kind.{Kind}
use Rattle.sig_core.specs.declared.signature.Kind.TheVariants.{Term, Input, Output}
use Rattle.sig_core.specs.declared.signature.Param.{Param}
use Rattle.sig_core.specs.declared.signature.Relation.{Relation}
use Rattle.sig_core.specs.declared.value.Sort.{Sort}
use Rattle.sig_core.specs.declared.value.Sort.TheVariants as sort
use Rattle.sig_core.specs.declared.value.Value.TheVariants as value
use Rattle.sig_core.specs.Signatures.{Declarations, inputs_of, kinds_of, outputs_of, params_in, plain_sorts, term_type}
use Rattle.sig_core.specs.Values.{same_sort}
use Rattle.sig_core.specs.WellFormed.{IsRelation, term_types}
use Rattle.expr_core.specs.declared.expr.Expr.{Expr, out-Expr, roll-Expr, roll-out-Expr}
use Rattle.expr_core.specs.declared.expr.Expr as expr
use Rattle.expr_core.specs.declared.expr.Expr.TheOpen.{Expr-F}
use Rattle.expr_core.specs.declared.expr.Expr.TheVariants.{rolls-Slot}
use Rattle.expr_core.specs.declared.expr.Op.TheVariants as op
use Rattle.expr_core.specs.Expressions.{sort_in}
use Rattle.expr_core.specs.Sorts.{takes}
use Rattle.expr_core.proofs.Equations.{sort-Slot, sort-Lit}
use Rattle.rule_core.specs.declared.flow.FlowFault.{FlowFault}
use Rattle.rule_core.specs.declared.rule.Rule.{Rule}
use Rattle.rule_core.specs.Flow.{bare_slot, existential_slots, fault_at, fault_from, fits, fits_call, has_sort, is_in, is_known, known_after, same_type, type_at, unknown_in}
use Rattle.sig_core.specs.Signatures.{output_slots}
use Rattle.rule_core.specs.Instances.{slot_sorts}
use Rattle.syntax_core.specs.declared.syntax.Application.{Application}
use Rattle.syntax_core.specs.declared.syntax.Exp.{Exp}
use Rattle.syntax_core.specs.declared.syntax.Exp as exp
use Rattle.syntax_core.specs.Roles.{operator_named}
use Rattle.sort_core.specs.declared.open.OpenExp.{OpenExp}
use Rattle.sort_core.specs.declared.open.OpenNode.{OpenNode, out-OpenNode, roll-OpenNode, roll-out-OpenNode}
use Rattle.sort_core.specs.declared.open.OpenNode as node
use Rattle.sort_core.specs.declared.open.OpenNode.TheOpen.{OpenNode-F}
use Rattle.sort_core.specs.declared.open.OpenNode.TheVariants.{rolls-Call}
use Rattle.sort_core.specs.declared.variables.Variables.{Variables}
use Rattle.name_core.specs.Faults.{bad_if, first, found_from}
use Rattle.name_core.proofs.Firsts.{first-found_from}
use Rattle.sort_core.specs.Opens.{opened}
use Rattle.sort_core.specs.Sorts.{Survey, argument_faults, argument_faults_at, atom_faults, atom_faults_in, call_faults, faults_as, is_term_in, is_term_of, operand_faults_at, same_stated, stated_at, survey, survey_of_node}
use Rattle.sort_core.proofs.Faultless.{holds, none_both, none_parts}
use Rattle.sort_core.proofs.Surveys.{survey-Apply}
use Rattle.making_core.specs.Rules.{atom_of, atoms_from, call_atom, equation_atom, expr_of, expr_of_node, filled_slot, input_args, output_args, term_args, who_in, who_of}
use Rattle.making_core.proofs.Exprs.{expr-Apply, expr-Call}
use Rattle.making_core.proofs.Smallness.{atom_cases, equation_cases, is_apply, parts_each, parts_in, parts_of_node}
use Rattle.elab_laws.specs.Flowing.{IsUnknown, existential, output, used}
use Rattle.elab_laws.proofs.SortLaws.{IsSorted, all_full, full-Apply, have_sorts, is_full, placed_as, sorted_exp}

-- The sort of what stands where a sort is wanted.

same : (s t : Sort) → same_sort s t ≡ true → s ≡ t
same sort.Int sort.Int h = refl
same sort.Bool sort.Bool h = refl
same sort.Int sort.Bool h = absurd (cc)
same sort.Bool sort.Int h = absurd (cc)

itself : (s : Sort) → same_sort s s ≡ true
itself sort.Int = refl
itself sort.Bool = refl

has_it : (scope : List Sort) (e : Expr) (s : Sort) → sort_in scope e ≡ Some s → has_sort scope e s ≡ true
has_it scope e s h = ap (λ o. option_map_or (same_sort s) o false) h ∙ itself s

sort_as : (slots : List Sort) (s : Sort) (e : OpenExp) → IsSorted slots e → first (faults_as (Some s) (survey slots e)) ≡ None → sort_in slots (expr_of e) ≡ Some s
sort_as slots s e sorted none =
    let placed = placed_as slots (Some s) e none in
    let h = sorted placed.fine placed.placed in
    let alike = same s h.of (sym (ap (same_stated (Some s)) h.stated) ∙ placed.same) in
    h.has ∙ ap Some (sym alike)

-- Calls.

-- arguments without faults, one for each of the kinds
abbrev Arguments : Option Constructor → List Sort → List Kind → List OpenExp → Type 0
Arguments con slots [] [] = Unit {0}
Arguments con slots (k ∷ ks) (e ∷ es) = (first (argument_faults con slots (Some k) e) ≡ None) × Arguments con slots ks es
Arguments con slots [] (e ∷ es) = ⊥
Arguments con slots (k ∷ ks) [] = ⊥

arguments_from : (con : Option Constructor) (slots : List Sort) (all kinds : List Kind) (n : ℕ) (args : List OpenExp) → ((j : ℕ) → slice_get all (n + j) ≡ slice_get kinds j) →
    length args ≡ length kinds → first (found_from (argument_faults_at con slots all) n args) ≡ None → Arguments con slots kinds args
unfolding argument_faults_at
arguments_from con slots all [] n [] at count none = tt
arguments_from con slots all [] n (e ∷ es) at count none = absurd (omega arith)
arguments_from con slots all (k ∷ ks) n [] at count none = absurd (omega arith)
arguments_from con slots all (k ∷ ks) n (e ∷ es) at count none =
    let parts = none_both (first (argument_faults con slots (slice_get all n) e)) (first (found_from (argument_faults_at con slots all) (n + 1) es))
    (sym (first-found_from (argument_faults_at con slots all) n e es) ∙ none) in
    let start : n + 0 ≡ n = omega arith in
    let here = sym (ap (slice_get all) start) ∙ at 0 in (
      sym (ap (λ o. first (argument_faults con slots o e)) here) ∙ parts.0,
      arguments_from con slots all ks (n + 1) es
          (λ j. let next : n + 1 + j ≡ n + suc j = omega arith in ap (slice_get all) next ∙ at (suc j)) (omega (arith, count)) parts.1,
    )

symmetric : (a b : Option TypeId) → same_type a b ≡ true → same_type b a ≡ true
symmetric (Some s) (Some t) h = let e : s.0 ≡ t.0 = grind (arith, nat_tests, h) in by s.0 t.0 e
  where
    by : (m n : ℕ) → m ≡ n → nat_eq n m ≡ true
    by m n e = grind (arith, nat_tests, e)
symmetric None b h = absurd (cc)
symmetric (Some s) None h = absurd (cc)

term_in : (con : Option Constructor) (t : TypeId) (x : OpenNode-F OpenNode OpenExp) → is_term_in con t x ≡ true → same_type (Some t) (type_at con (who_in x)) ≡ true
term_in con t (OpenNode-F.Term who) h = symmetric (type_at con who) (Some t) h
term_in con t (OpenNode-F.Slot k) h = absurd (cc)
term_in con t (OpenNode-F.Literal place literal) h = absurd (cc)
term_in con t (OpenNode-F.Apply o kids) h = absurd (cc)
term_in con t (OpenNode-F.Call relation args) h = absurd (cc)

term_fits : (con : Option Constructor) (slots : List Sort) (kinds : List Kind) (args : List OpenExp) (t : TypeId) (ts : List TypeId) → Arguments con slots kinds args → term_types kinds ≡ t ∷ ts →
    same_type (term_type kinds) (type_at con (who_of (term_args kinds args))) ≡ true
term_fits con slots [] args t ts h one = absurd (cc)
term_fits con slots (k ∷ ks) [] t ts h one = absurd h
term_fits con slots (Term u ∷ ks) (e ∷ es) t ts h one =
    term_in con u (out-OpenNode e.node) (holds (is_term_of con u e) 30 e.place (none_parts (bad_if (not (is_term_of con u e)) 30 e.place) (survey slots e).inner h.0).0)
term_fits con slots (Input s ∷ ks) (e ∷ es) t ts h one = term_fits con slots ks es t ts h.1 one
term_fits con slots (Output s ∷ ks) (e ∷ es) t ts h one = term_fits con slots ks es t ts h.1 one

inputs_fit : (con : Option Constructor) (slots : List Sort) (kinds : List Kind) (args : List OpenExp) → Arguments con slots kinds args → All (IsSorted slots) args →
    pointwise (has_sort slots) (map expr_of (input_args kinds args)) (inputs_of kinds (plain_sorts kinds)) ≡ true
inputs_fit con slots [] args h sorted = refl
inputs_fit con slots (k ∷ ks) [] h sorted = absurd h
inputs_fit con slots (Term t ∷ ks) (e ∷ es) h sorted = inputs_fit con slots ks es h.1 (All-tail (IsSorted slots) e es sorted)
inputs_fit con slots (Input s ∷ ks) (e ∷ es) h sorted =
    ap₂ (λ a b. a && b) (has_it slots (expr_of e) s (sort_as slots s e (All-head (IsSorted slots) e es sorted) h.0))
    (inputs_fit con slots ks es h.1 (All-tail (IsSorted slots) e es sorted))
inputs_fit con slots (Output s ∷ ks) (e ∷ es) h sorted = inputs_fit con slots ks es h.1 (All-tail (IsSorted slots) e es sorted)

outputs_fit : (con : Option Constructor) (slots : List Sort) (kinds : List Kind) (args : List OpenExp) → Arguments con slots kinds args → All (IsSorted slots) args →
    pointwise (has_sort slots) (map expr_of (output_args kinds args)) (outputs_of kinds (plain_sorts kinds)) ≡ true
outputs_fit con slots [] args h sorted = refl
outputs_fit con slots (k ∷ ks) [] h sorted = absurd h
outputs_fit con slots (Term t ∷ ks) (e ∷ es) h sorted = outputs_fit con slots ks es h.1 (All-tail (IsSorted slots) e es sorted)
outputs_fit con slots (Output s ∷ ks) (e ∷ es) h sorted =
    ap₂ (λ a b. a && b) (has_it slots (expr_of e) s (sort_as slots s e (All-head (IsSorted slots) e es sorted) h.0))
    (outputs_fit con slots ks es h.1 (All-tail (IsSorted slots) e es sorted))
outputs_fit con slots (Input s ∷ ks) (e ∷ es) h sorted = outputs_fit con slots ks es h.1 (All-tail (IsSorted slots) e es sorted)

-- the relations, each with exactly one term
one_term : (types : ℕ) (relations : List Relation) (k : ℕ) → k < length relations → All (IsRelation types) relations →
    (t : TypeId) × (term_types (map (λ (p : Param). p.kind) (params_in (slice_get relations k))) ≡ t ∷ [])
one_term types [] k within all = absurd (omega arith)
one_term types (r ∷ rs) zero within all = let here = All-head (IsRelation types) r rs all in (here.term, here.one_term)
one_term types (r ∷ rs) (suc k) within all = one_term types rs k (omega (arith, within)) (All-tail (IsRelation types) r rs all)

-- a call in the expression is of a relation that is there
abbrev pub CallsKnown : Declarations → OpenExp → Type 0
CallsKnown sig e = (relation : RelId) (args : List OpenExp) → out-OpenNode e.node ≡ OpenNode-F.Call relation args → relation.0 < length sig.relations

call_fits : (types : ℕ) (sig : Declarations) (con : ConId) (slots : List Sort) (place : ℕ) (relation : RelId) (args : List OpenExp) → All (IsRelation types) sig.relations → relation.0 < length sig.relations →
    All (IsSorted slots) args → first (call_faults (slice_get sig.constructors con.0) slots (kinds_of sig relation) place args) ≡ None →
    fits_call sig con slots (record {
      relation = relation;
      who = who_of (term_args (kinds_of sig relation) args);
      inputs = map expr_of (input_args (kinds_of sig relation) args);
      outputs = map expr_of (output_args (kinds_of sig relation) args);
    }) ≡ true
call_fits types sig con slots place relation args fine known sorted none =
    let parts = none_parts (bad_if (not (nat_eq (length args) (length (kinds_of sig relation)))) 30 place) (found_from (argument_faults_at (slice_get sig.constructors con.0) slots (kinds_of sig relation)) 0 args) none in
    let same_count = holds (nat_eq (length args) (length (kinds_of sig relation))) 30 place parts.0 in
    let count : length args ≡ length (kinds_of sig relation) = grind (arith, nat_tests, same_count) in
    let h = arguments_from (slice_get sig.constructors con.0) slots (kinds_of sig relation) (kinds_of sig relation) 0 args (λ j. ap (slice_get (kinds_of sig relation)) (omega arith)) count parts.1 in
    let one = one_term types sig.relations relation.0 known fine in
    ap₂ (λ a b. a && b) (term_fits (slice_get sig.constructors con.0) slots (kinds_of sig relation) args one.0 [] h one.1)
    (ap₂ (λ a b. a && b) (inputs_fit (slice_get sig.constructors con.0) slots (kinds_of sig relation) args h sorted) (outputs_fit (slice_get sig.constructors con.0) slots (kinds_of sig relation) args h sorted))

-- Equations.

-- the two sides of an equation have one sort
record Sides (slots : List Sort) (left right : OpenExp) : Type 0 where
  of : Sort
  one : sort_in slots (expr_of left) ≡ Some of
  other : sort_in slots (expr_of right) ≡ Some of

two_sides : (slots : List Sort) (left right : OpenExp) (ss : List Sort) → length ss ≡ 2 → map (sort_in slots) (map expr_of (left ∷ right ∷ [])) ≡ map Some ss →
    ((k : ℕ) (s : Sort) → slice_get ss k ≡ Some s → same_stated (stated_at (map Some ss) 0) (Some s) ≡ true) → Sides slots left right
two_sides slots left right [] count has wanted = absurd (omega arith)
two_sides slots left right (a ∷ []) count has wanted = absurd (omega arith)
two_sides slots left right (a ∷ b ∷ []) count has wanted =
    let one : sort_in slots (expr_of left) ≡ Some a = cc in
    let other : sort_in slots (expr_of right) ≡ Some b = cc in
    record { of = a; one = one; other = other ∙ ap Some (sym (same a b (wanted 1 b refl))) }
two_sides slots left right (a ∷ b ∷ c ∷ ss) count has wanted = absurd (omega arith)

sides : (slots : List Sort) (place : ℕ) (left right : OpenExp) → All (IsSorted slots) (left ∷ right ∷ []) →
    first (survey_of_node slots (node.Apply op.Equal (left ∷ right ∷ [])) place).inner ≡ None → Sides slots left right
unfolding operand_faults_at
sides slots place left right sorted fine =
    let kids : List OpenExp = left ∷ right ∷ [] in
    let stated : List (Option Sort) = map (λ (s : Survey). s.stated) (map (survey slots) kids) in
    let h = have_sorts slots op.Equal stated 0 kids sorted (sym (ap (λ (s : Survey). first s.inner) (survey-Apply slots place op.Equal kids)) ∙ fine) in
    two_sides slots left right h.sorts h.count h.have (λ k s at. subst (λ os. same_stated (stated_at os 0) (Some s) ≡ true) h.stated (h.wanted k s at))

record IsFilled (known : List ℕ) (one : Expr) (slot : ℕ) : Type 0 where
  bare : bare_slot (out-Expr one) ≡ Some slot
  new : not (is_in known slot) ≡ true

filled : (known : List ℕ) (one other : Expr) (slot : ℕ) → filled_slot known one other ≡ Some slot → IsFilled known one slot
filled known one other slot h = by (bare_slot (out-Expr one)) refl h
  where
    test : (k : ℕ) (a b : Bool) → bare_slot (out-Expr one) ≡ Some k → not (is_in known k) ≡ a → (if a && b then Some k else None) ≡ Some slot → IsFilled known one slot
    test k true true is new e = let same : k ≡ slot = cc in record { bare = is ∙ ap Some same; new = subst (λ m. not (is_in known m) ≡ true) same new }
    test k false b is new e = absurd (cc)
    test k true false is new e = absurd (cc)

    by : (o : Option ℕ) → bare_slot (out-Expr one) ≡ o → option_and_then (λ k. if not (is_in known k) && is_known known other then Some k else None) o ≡ Some slot → IsFilled known one slot
    by None is e = absurd (cc)
    by (Some k) is e = test k (not (is_in known k)) (is_known known other) is refl e

bare_is : (x : Expr-F Expr) (slot : ℕ) → bare_slot x ≡ Some slot → x ≡ Expr-F.Slot slot
bare_is (Expr-F.Slot k) slot h = let same : k ≡ slot = cc in ap Expr-F.Slot same
bare_is (Expr-F.Lit v) slot h = absurd (cc)
bare_is (Expr-F.Apply o kids) slot h = absurd (cc)

slot_sort : (scope : List Sort) (e : Expr) (slot : ℕ) (s : Sort) → bare_slot (out-Expr e) ≡ Some slot → sort_in scope e ≡ Some s → slice_get scope slot ≡ Some s
slot_sort scope e slot s bare has =
    let is : e ≡ expr.Slot slot = sym (roll-out-Expr e) ∙ ap roll-Expr (bare_is (out-Expr e) slot bare) ∙ rolls-Slot slot in
    sym (sort-Slot scope slot) ∙ sym (ap (sort_in scope) is) ∙ has

fill_fits : (scope : List Sort) (known : List ℕ) (one other : Expr) (slot : ℕ) (s : Sort) → filled_slot known one other ≡ Some slot → sort_in scope one ≡ Some s → sort_in scope other ≡ Some s →
    (not (is_in known slot) && option_map_or (has_sort scope other) (slice_get scope slot) false) ≡ true
fill_fits scope known one other slot s at left right =
    let f = filled known one other slot at in
    ap₂ (λ a b. a && b) f.new (ap (λ o. option_map_or (has_sort scope other) o false) (slot_sort scope one slot s f.bare left) ∙ has_it scope other s right)

-- Atoms.

whole_sort : (sig : Declarations) (con : Option Constructor) (slots : List Sort) (e : OpenExp) (x : OpenNode-F OpenNode OpenExp) → e.node ≡ roll-OpenNode x → IsSorted slots e →
    first (atom_faults_in sig con slots e x) ≡ None → sort_in slots (expr_of e) ≡ Some sort.Bool
whole_sort sig con slots e (OpenNode-F.Slot k) is sorted none = sort_as slots sort.Bool e sorted none
whole_sort sig con slots e (OpenNode-F.Term who) is sorted none = sort_as slots sort.Bool e sorted none
whole_sort sig con slots e (OpenNode-F.Literal place literal) is sorted none = sort_as slots sort.Bool e sorted none
whole_sort sig con slots e (OpenNode-F.Apply o kids) is sorted none = sort_as slots sort.Bool e sorted none
whole_sort sig con slots e (OpenNode-F.Call relation args) is sorted none =
    ap (λ m. sort_in slots (expr_of_node m)) (is ∙ rolls-Call relation args) ∙ ap (sort_in slots) (expr-Call relation args) ∙ sort-Lit slots (value.Bool false)

pub atom_fits : (types : ℕ) (sig : Declarations) (vars : Variables) (rule : Rule) (e : Exp) → All (IsRelation types) sig.relations → length vars.slots ≡ length (slot_sorts sig rule) → is_full e ≡ true →
    CallsKnown sig (opened sig vars e) → first (atom_faults sig (slice_get sig.constructors rule.con.0) (slot_sorts sig rule) (opened sig vars e)) ≡ None →
    (known : List ℕ) → fits sig rule known (atom_of sig known (opened sig vars e)) ≡ true
atom_fits types sig vars rule e fine count full calls none known =
    atom_cases (λ a. fits sig rule known a ≡ true) sig known (opened sig vars e) (out-OpenNode (opened sig vars e).node) call equation (has_it (slot_sorts sig rule) (expr_of (opened sig vars e)) sort.Bool whole)
  where
    sorted_each : (es : List Exp) → All (λ x. is_full x ≡ true) es → All (IsSorted (slot_sorts sig rule)) (map (opened sig vars) es)
    sorted_each [] all = All-nil (IsSorted (slot_sorts sig rule))
    sorted_each (x ∷ xs) all =
        All-cons (IsSorted (slot_sorts sig rule)) (opened sig vars x) (map (opened sig vars) xs)
        (sorted_exp sig vars (slot_sorts sig rule) count x (All-head (λ x. is_full x ≡ true) x xs all)) (sorted_each xs (All-tail (λ x. is_full x ≡ true) x xs all))

    args_full : (app : Application) → e ≡ exp.Apply app → All (λ x. is_full x ≡ true) app.args
    args_full app is = all_full app.args (and_parts (option_map_or (λ o. takes o (length app.args)) (operator_named app.head.bytes) true) (list_all (λ b. b) (map is_full app.args)) (sym (full-Apply app) ∙ sym (ap is_full is) ∙ full)).1

    parts : All (IsSorted (slot_sorts sig rule)) (parts_of_node (opened sig vars e).node)
    parts = parts_each (IsSorted (slot_sorts sig rule)) sig vars e (λ app is. sorted_each app.args (args_full app is))

    whole : sort_in (slot_sorts sig rule) (expr_of (opened sig vars e)) ≡ Some sort.Bool
    whole = whole_sort sig (slice_get sig.constructors rule.con.0) (slot_sorts sig rule) (opened sig vars e) (out-OpenNode (opened sig vars e).node) (sym (roll-out-OpenNode (opened sig vars e).node))
        (sorted_exp sig vars (slot_sorts sig rule) count e full) none

    call : (relation : RelId) (args : List OpenExp) → out-OpenNode (opened sig vars e).node ≡ OpenNode-F.Call relation args → fits sig rule known (call_atom relation (kinds_of sig relation) args) ≡ true
    call relation args is =
        call_fits types sig rule.con (slot_sorts sig rule) (opened sig vars e).place relation args fine (calls relation args is) (subst (λ x. All (IsSorted (slot_sorts sig rule)) (parts_in x)) is parts)
        (sym (ap (λ x. first (atom_faults_in sig (slice_get sig.constructors rule.con.0) (slot_sorts sig rule) (opened sig vars e) x)) is) ∙ none)

    equation : (left right : OpenExp) → out-OpenNode (opened sig vars e).node ≡ OpenNode-F.Apply op.Equal (left ∷ right ∷ []) → fits sig rule known (equation_atom known (expr_of left) (expr_of right)) ≡ true
    equation left right is =
        let applied = is_apply (opened sig vars e).node op.Equal (left ∷ right ∷ []) is in
        let faults = sym (ap (λ x. first (atom_faults_in sig (slice_get sig.constructors rule.con.0) (slot_sorts sig rule) (opened sig vars e) x)) is) ∙ none in
        let placed = placed_as (slot_sorts sig rule) (Some sort.Bool) (opened sig vars e) faults in
        let h = sides (slot_sorts sig rule) (opened sig vars e).place left right (subst (λ x. All (IsSorted (slot_sorts sig rule)) (parts_in x)) is parts)
        (sym (ap (λ m. first (survey_of_node (slot_sorts sig rule) m (opened sig vars e).place).inner) applied) ∙ placed.fine) in
        let same_expr = ap expr_of_node applied ∙ expr-Apply op.Equal (left ∷ right ∷ []) in
        equation_cases (λ a. fits sig rule known a ≡ true) known (expr_of left) (expr_of right)
        (λ slot at. fill_fits (slot_sorts sig rule) known (expr_of left) (expr_of right) slot h.of at h.one h.other)
        (λ slot at. fill_fits (slot_sorts sig rule) known (expr_of right) (expr_of left) slot h.of at h.other h.one)
        (has_it (slot_sorts sig rule) (expr.Apply op.Equal (expr_of left ∷ expr_of right ∷ [])) sort.Bool (sym (ap (sort_in (slot_sorts sig rule)) same_expr) ∙ whole))

-- Rules.

abbrev Fine : Option FlowFault → Type 0
Fine o = (fault : FlowFault) → o ≡ Some fault → IsUnknown fault

fine_at : (reason n : ℕ) (o : Option ℕ) → ((fault : FlowFault) → fault.reason ≡ reason → IsUnknown fault) → Fine (fault_at reason n o)
fine_at reason n None known fault is = absurd (cc)
fine_at reason n (Some slot) known fault is = let same : reason ≡ fault.reason = cc in known fault (sym same)

fine_or : (a b : Option FlowFault) → Fine a → Fine b → Fine (option_or a b)
fine_or None b h k = k
fine_or (Some x) b h k = h

pub atoms_fine : (sig : Declarations) (rule : Rule) (es : List OpenExp) (known : List ℕ) (n : ℕ) → All (λ e. (known : List ℕ) → fits sig rule known (atom_of sig known e) ≡ true) es →
    Fine (fault_from sig rule known n (atoms_from sig known es))
atoms_fine sig rule [] known n all =
    fine_or (fault_at 2 n (unknown_in known (output_slots (kinds_of sig rule.relation)))) (fault_at 3 n (unknown_in known (existential_slots (kinds_of sig rule.relation) rule.more)))
    (fine_at 2 n (unknown_in known (output_slots (kinds_of sig rule.relation))) (λ fault is. output is))
    (fine_at 3 n (unknown_in known (existential_slots (kinds_of sig rule.relation) rule.more)) (λ fault is. existential is))
atoms_fine sig rule (e ∷ es) known n all =
    by (fits sig rule known (atom_of sig known e)) (All-head (λ e. (known : List ℕ) → fits sig rule known (atom_of sig known e) ≡ true) e es all known) (known_after known (atom_of sig known e))
    (λ more. atoms_fine sig rule es more (suc n) (All-tail (λ e. (known : List ℕ) → fits sig rule known (atom_of sig known e) ≡ true) e es all))
  where
    by : (b : Bool) → b ≡ true → (o : Option (List ℕ)) → ((more : List ℕ) → Fine (fault_from sig rule more (suc n) (atoms_from sig more es))) →
        Fine (if b then option_map_or (λ more. fault_from sig rule more (suc n) (option_map_or (λ more. atoms_from sig more es) o [])) o (fault_at 1 n (Some 0)) else fault_at 4 n (Some 0))
    by true is None later = fine_at 1 n (Some 0) (λ fault is. used is)
    by true is (Some more) later = later more
    by false is o later = absurd (cc)
