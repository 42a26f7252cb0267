-- Children that may stand for others give alike terms.
use Rattle.std.proofs.Common.{◌≡◌, ◌≤◌, ◌⊎◌, inl, inr, ℕ, zero, suc, Some, List, [], ◌∷◌, map, length, slice_get, slice_index_or, get_or, All, Contains, refl, sym, ap, ap₂, ◌∙◌, subst, arith, eq-eqb}
use Rattle.std.specs.List.{AllZip}
use Rattle.std.proofs.lemmas.Option.{same_Some, slice_get-get_or, slice_get_within}
use Rattle.sig_core.specs.declared.value.Value.{Value}
use Rattle.sig_core.specs.declared.ids.TypeId.{TypeId}
use Rattle.sig_core.specs.declared.ids.ConId.{ConId}
use Rattle.sig_core.specs.declared.ids.RelId.{RelId}
use Rattle.sig_core.specs.declared.signature.Constructor.{Constructor}
use Rattle.sig_core.specs.Lists.{all_some}
use Rattle.sig_core.specs.Signatures.{Declarations, kinds_of, inputs_of, outputs_of, input_slots, woven, term_type, owner_in, owner_of}
use Rattle.expr_core.specs.declared.expr.Expr.TheVariants.{Slot}
use Rattle.expr_core.specs.Expressions.{value_of}
use Rattle.term_core.specs.declared.tree.Tree.{Tree, out-Tree}
use Rattle.term_core.specs.Terms.{node, con_of}
use Rattle.term_core.specs.Typings.{HasType}
use Rattle.term_core.proofs.Typing.{made_of, type_is_owner}
use Rattle.rule_core.specs.declared.rule.Who.{Who}
use Rattle.rule_core.specs.declared.rule.Who.TheVariants.{Own, Child}
use Rattle.rule_core.specs.declared.rule.Call.{Call}
use Rattle.rule_core.specs.declared.rule.Rule.{Rule}
use Rattle.rule_core.specs.Instances.{Fact, IsInstance, param_values, calls_of, fact_of, term_at, args_of}
use Rattle.rule_core.specs.Flow.{calls_on, type_at, HandsOn}
use Rattle.problem_core.specs.declared.parts.Constraint.{Constraint}
use Rattle.problem_core.specs.Derivations.{Within, CallMeets}
use Rattle.problem_core.specs.Problems.{Parts}
use Rattle.problem_core.proofs.Nodes.{out-node, child-node, listed-node, call_parts}
use Rattle.eval_core.specs.Alikeness.{MayStandForAll, CallsFit, IsAlike, example_of}
use Rattle.eval_core.proofs.Alike.{both_ways}
use Rattle.eval_core.proofs.Listed.{IsListed, listed_all, listed_relation, listed_con, Fits, CallTakesInputs, listed_takes}
use Rattle.eval_core.specs.Outcomes.{AreInputs, fact_with}
use Rattle.eval_core.proofs.Handed.{instance_inputs, handed_inputs, handed_sorts, call_type}

-- two lists are one, or at some place they needn't be
one_or_some : {X : Type 0} (P : ℕ → Type 0) (xs ys : List X) → length xs ≡ length ys → ((j : ℕ) (x y : X) → slice_get xs j ≡ Some x → slice_get ys j ≡ Some y → (x ≡ y) ⊎ P j) → (xs ≡ ys) ⊎ ((j : ℕ) × P j)
one_or_some P [] [] l each = inl refl
one_or_some P [] (y ∷ ys) l each = absurd (omega arith)
one_or_some P (x ∷ xs) [] l each = absurd (omega arith)
one_or_some P (x ∷ xs) (y ∷ ys) l each = elim (each 0 x y refl refl) [
  | inr p ↦ inr (0, p)
  | inl e ↦ elim (one_or_some (λ j. P (suc j)) xs ys (omega arith) (λ j. each (suc j))) [ inl es ↦ inl (ap₂ (λ z zs. z ∷ zs) e es) | inr q ↦ inr (suc q.0, q.1) ]
]

zip_at : {X Y : Type 0} (R : X → Y → Type 0) (xs : List X) (ys : List Y) (i : ℕ) (x : X) (y : Y) → AllZip R xs ys → slice_get xs i ≡ Some x → slice_get ys i ≡ Some y → R x y
zip_at R [] ys i x y all at at' = absurd cc
zip_at R (a ∷ xs) [] i x y all at at' = absurd cc
zip_at R (a ∷ xs) (b ∷ ys) zero x y all at at' = subst (λ z. R z y) (same_Some a x at) (subst (λ z. R a z) (same_Some b y at') all.0)
zip_at R (a ∷ xs) (b ∷ ys) (suc i) x y all at at' = zip_at R xs ys i x y all.1 at at'

same_fact : (f : Fact) (r : RelId) (t : Tree) (args : List Value) → r ≡ f.relation → t ≡ f.term → args ≡ f.args → record { relation = r; term = t; args = args } ≡ f
same_fact f r t args p q s =
    ap (λ x. record { relation = x; term = t; args = args }) p ∙ ap (λ x. record { relation = f.relation; term = x; args = args }) q ∙ ap (λ x. record { relation = f.relation; term = f.term; args = x }) s

-- what the relations of the type give for t within the height at these inputs, they give for u
abbrev pub Carries : Parts → TypeId → ℕ → List Value → Tree → Tree → Type 0
Carries problem type h inputs t u = (r : RelId) (outputs : List Value) → term_type (kinds_of problem.signature r) ≡ Some type → AreInputs problem.signature r inputs
    → Within problem.signature problem.rules h (fact_with problem.signature r t inputs outputs) → Within problem.signature problem.rules h (fact_with problem.signature r u inputs outputs)

-- an instance of a rule, whose inputs are these
pub record Stage (problem : Parts) (rule : Rule) (slots inputs : List Value) : Type 0 where
  pub instance : IsInstance problem.signature rule slots
  pub inputs_are : inputs_of (kinds_of problem.signature rule.relation) slots ≡ inputs
  pub sorts : AreInputs problem.signature rule.relation inputs

-- a call that takes the inputs of the rule's relation, on a term that may be replaced
handed_call : (problem : Parts) (rule : Rule) (slots inputs : List Value) → Stage problem rule slots inputs → (type : TypeId) (h : ℕ) (t u whole whole' : Tree) (call : Call)
    → Fits problem.signature rule call → call.inputs ≡ map Slot (input_slots (kinds_of problem.signature rule.relation)) → term_type (kinds_of problem.signature call.relation) ≡ Some type
    → term_at whole call.who ≡ Some t → term_at whole' call.who ≡ Some u → Carries problem type h inputs t u
    → CallMeets (Within problem.signature problem.rules h) problem.signature whole slots call → CallMeets (Within problem.signature problem.rules h) problem.signature whole' slots call
handed_call problem rule slots inputs stage type h t u whole whole' call fits takes typed at at' carries meets =
    let sig = problem.signature in
    let fact = meets.0 in
    let parts = call_parts sig whole slots call fact meets.1 in
    let outputs = outputs_of (kinds_of sig call.relation) fact.args in
    let args : woven (kinds_of sig call.relation) inputs outputs ≡ fact.args =
    subst (λ is. woven (kinds_of sig call.relation) is outputs ≡ fact.args) stage.inputs_are (handed_inputs sig rule slots stage.instance whole call fact takes meets.1) in
    let is_fact = same_fact fact call.relation t (woven (kinds_of sig call.relation) inputs outputs) parts.0 (same_Some t fact.term (sym at ∙ parts.1)) args in
    let one = subst (Within sig problem.rules h) (sym is_fact) meets.2 in (
      fact_with sig call.relation u inputs outputs,
      ap₂ (fact_of call.relation) at' (parts.2 ∙ ap Some (sym args)),
      carries call.relation outputs typed (handed_sorts sig rule call inputs takes fits stage.sorts) one,
    )

-- the children's heads make terms of these types
abbrev pub HaveHeads : Declarations → List Tree → List TypeId → Type 0
HaveHeads sig ts types = (i : ℕ) (t : Tree) (a : TypeId) → slice_get ts i ≡ Some t → slice_get types i ≡ Some a → owner_of sig (con_of t) ≡ Some a

module _ (problem : Parts) (bound : ℕ) (con : ConId) (made : Constructor) (stands : slice_get problem.signature.constructors con.0 ≡ Some made) (fitting : CallsFit problem)
    (example : Constraint) (is_example : Contains problem.constraints example) (ts us : List Tree) (stand : MayStandForAll problem bound con ts us) (heads : HaveHeads problem.signature ts made.args) where
  type_of_call : (rule : Rule) (call : Call) (who : Who) → rule.con ≡ con → call.who ≡ who → Fits problem.signature rule call
      → (a : TypeId) × (term_type (kinds_of problem.signature call.relation) ≡ Some a) × (type_at (Some made) who ≡ Some a)
  type_of_call rule call who is_con is_who fits =
      let p = call_type problem.signature rule call fits in
      (p.0, p.1, ap₂ type_at (sym (ap (λ k. slice_get problem.signature.constructors k.0) is_con ∙ stands)) (sym is_who) ∙ p.2)

  call_carried : (h : ℕ) → h ≤ bound → Carries problem made.owner h (example_of problem.signature example) (node con ts) (node con us)
      → (rule : Rule) → rule.con ≡ con → (slots : List Value) → Stage problem rule slots (example_of problem.signature example)
      → (first : ℕ) → HandsOn problem.signature problem.rules con first
      → (call : Call) → Fits problem.signature rule call → ((i : ℕ) → HandsOn problem.signature problem.rules con i → CallTakesInputs problem.signature rule i call)
      → (who : Who) → call.who ≡ who
      → CallMeets (Within problem.signature problem.rules h) problem.signature (node con ts) slots call → CallMeets (Within problem.signature problem.rules h) problem.signature (node con us) slots call
  call_carried h le below rule is_con slots stage first hands call fits takes Own is_who meets =
      let typed = type_of_call rule call Own is_con is_who fits in
      handed_call problem rule slots (example_of problem.signature example) stage made.owner h (node con ts) (node con us) (node con ts) (node con us) call fits
      (takes first hands (ap (λ w. calls_on w first) is_who)) (typed.1 ∙ sym typed.2) (ap (term_at (node con ts)) is_who) (ap (term_at (node con us)) is_who) below meets
  call_carried h le below rule is_con slots stage first hands call fits takes (Child i) is_who meets =
      let sig = problem.signature in
      let fact = meets.0 in
      let typed = type_of_call rule call (Child i) is_con is_who fits in
      let there : slice_get ts i ≡ Some fact.term = sym (ap (term_at (node con ts)) is_who ∙ child-node con ts i) ∙ (call_parts sig (node con ts) slots call fact meets.1).1 in
      let u = get_or us i fact.term in
      let there' : slice_get us i ≡ Some u = slice_get-get_or us i fact.term (let l = slice_get_within ts i fact.term there in let e = stand.as_many in omega arith) in
      let at : term_at (node con ts) call.who ≡ Some fact.term = ap (term_at (node con ts)) is_who ∙ child-node con ts i ∙ there in
      let at' : term_at (node con us) call.who ≡ Some u = ap (term_at (node con us)) is_who ∙ child-node con us i ∙ there' in
      elim (stand.each i fact.term u there there') [
        | inl same ↦ (fact, ap (λ o. fact_of call.relation o (all_some (map (value_of slots) (args_of sig call)))) (at' ∙ ap Some (sym same) ∙ sym at) ∙ meets.1, meets.2)
        | inr alike ↦ (let one_type : typed.0 ≡ alike.1.0 = same_Some typed.0 alike.1.0 (sym (heads i fact.term typed.0 there typed.2) ∙ alike.1.1.left) in
            handed_call problem rule slots (example_of sig example) stage alike.1.0 h fact.term u (node con ts) (node con us) call fits
            (takes i alike.0 (ap (λ w. calls_on w i) is_who ∙ eq-eqb i i refl)) (typed.1 ∙ ap Some one_type) at at'
            (λ r outputs type sorts d. (alike.1.1.same r example outputs type is_example sorts h le).0 d) meets)
      ]

  carried : (first : ℕ) → HandsOn problem.signature problem.rules con first → (h : ℕ) → h ≤ bound → Carries problem made.owner h (example_of problem.signature example) (node con ts) (node con us)
  carried first hands zero le = λ r outputs typed sorts d. absurd d
  carried first hands (suc h) le = λ r outputs typed sorts d.
      (let sig = problem.signature in
      let inputs = example_of sig example in
      let below : h ≤ bound = omega arith in
      let listed : IsListed problem.rules r con d.rule = record { number = d.number; at = sym (listed-node problem.rules r con ts d.number) ∙ d.listed } in
      let relation : d.rule.relation ≡ r = listed_relation problem.rules r con d.rule listed in
      let sorts' = subst (λ q. AreInputs sig q inputs) (sym relation) sorts in
      let stage : Stage problem d.rule d.slots inputs = record {
        instance = d.is_instance;
        inputs_are = instance_inputs sig d.rule d.slots d.is_instance inputs outputs sorts' (subst (λ q. param_values sig q d.slots ≡ woven (kinds_of sig q) inputs outputs) (sym relation) d.args);
        sorts = sorts';
      } in
      record {
        number = d.number;
        rule = d.rule;
        listed = listed-node problem.rules r con us d.number ∙ listed.at;
        slots = d.slots;
        is_instance = d.is_instance;
        args = d.args;
        calls = λ k x l.
            (let call = slice_index_or (calls_of d.rule.atoms) k x in
            call_carried h below (carried first hands h below) d.rule (listed_con problem.rules r con d.rule listed) d.slots stage first hands call
            (listed_all (λ rule. All (Fits sig rule) (calls_of rule.atoms)) problem.rules r con d.rule listed fitting k x l)
            (λ i hands'. listed_takes sig problem.rules r con d.rule i listed hands' k x l) call.who refl (d.calls k x l));
      })

  pub stand_carries : (h : ℕ) → h ≤ bound → Carries problem made.owner h (example_of problem.signature example) (node con ts) (node con us)
  stand_carries h le = elim (one_or_some (λ i. HandsOn problem.signature problem.rules con i) ts us stand.as_many (λ j t u at at'. elim (stand.each j t u at at') [ inl e ↦ inl e | inr p ↦ inr p.0 ])) [
    | inl same ↦ (λ r outputs typed sorts d. subst (λ ks. Within problem.signature problem.rules h (fact_with problem.signature r (node con ks) (example_of problem.signature example) outputs)) same d)
    | inr p ↦ carried p.0 p.1 h le
  ]

swapped : (problem : Parts) (bound : ℕ) (con : ConId) (ts us : List Tree) → MayStandForAll problem bound con ts us → MayStandForAll problem bound con us ts
swapped problem bound con ts us stand = record {
  as_many = sym stand.as_many;
  each = λ i u t at at'. elim (stand.each i t u at' at) [ inl e ↦ inl (sym e) | inr p ↦ inr (p.0, (p.1.0, both_ways problem p.1.0 bound t u p.1.1)) ];
}

heads_of : (sig : Declarations) (ts : List Tree) (types : List TypeId) → AllZip (λ kid a. HasType sig a kid) ts types → HaveHeads sig ts types
heads_of sig ts types all = λ i t a at at'. type_is_owner sig a t (zip_at (λ kid a. HasType sig a kid) ts types i t a all at at')

heads_moved : (problem : Parts) (bound : ℕ) (con : ConId) (ts us : List Tree) (types : List TypeId) → MayStandForAll problem bound con ts us → HaveHeads problem.signature ts types → HaveHeads problem.signature us types
heads_moved problem bound con ts us types stand heads = λ i u a at type.
    (let t = get_or ts i u in
    let at' : slice_get ts i ≡ Some t = slice_get-get_or ts i u (let l = slice_get_within us i u at in let e = stand.as_many in omega arith) in
    elim (stand.each i t u at' at) [
      | inl same ↦ ap (λ x. owner_of problem.signature (con_of x)) (sym same) ∙ heads i t a at' type
      | inr alike ↦ alike.1.1.right ∙ sym alike.1.1.left ∙ heads i t a at' type
    ])

node_owner : (sig : Declarations) (con : ConId) (kids : List Tree) (made : Constructor) → slice_get sig.constructors con.0 ≡ Some made → owner_of sig (out-Tree (node con kids)).con ≡ Some made.owner
node_owner sig con kids made stands = ap (λ o. owner_of sig o.con) (out-node con kids) ∙ ap owner_in stands

made_alike : (problem : Parts) (bound : ℕ) (con : ConId) (made : Constructor) (ts us : List Tree) → slice_get problem.signature.constructors con.0 ≡ Some made → CallsFit problem
    → MayStandForAll problem bound con ts us → HaveHeads problem.signature ts made.args → IsAlike problem made.owner bound (node con ts) (node con us)
made_alike problem bound con made ts us stands fitting stand heads = record {
  left = node_owner problem.signature con ts made stands;
  right = node_owner problem.signature con us made stands;
  same = λ r example outputs typed is_example sorts h le. (
    stand_carries problem bound con made stands fitting example is_example ts us stand heads h le r outputs typed sorts,
    stand_carries problem bound con made stands fitting example is_example us ts (swapped problem bound con ts us stand) (heads_moved problem bound con ts us made.args stand heads) h le r outputs typed sorts,
  );
}

pub congruence : (problem : Parts) (type : TypeId) (bound : ℕ) (con : ConId) (ts us : List Tree) → CallsFit problem → HasType problem.signature type (node con ts) → MayStandForAll problem bound con ts us
    → IsAlike problem type bound (node con ts) (node con us)
congruence problem type bound con ts us fitting typed stand =
    let made = made_of problem.signature type con ts typed in
    subst (λ a. IsAlike problem a bound (node con ts) (node con us)) made.owner
    (made_alike problem bound con made.constructor ts us made.stands fitting stand (heads_of problem.signature ts made.constructor.args made.children))
