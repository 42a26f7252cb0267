-- What has been stated stays sound when relations are added.
use Rattle.std.proofs.Common.{◌≡◌, ◌<◌, ◌≤◌, ℕ, suc, ◌+◌, Bool, true, false, List, [], ◌∷◌, ◌++◌, map, length, slice_get, Option, Some, None, All, refl, sym, ap, ap₂, subst, ◌∙◌, if◌then◌else◌, arith}
use Rattle.std.specs.Prelude.{◌&&◌}
use Rattle.std.specs.Cmp.Lexicographic.{pointwise}
use Rattle.std.specs.Option.{option_map_or}
use Rattle.std.proofs.lemmas.List.{length-append, map-append}
use Rattle.std.proofs.lemmas.List.Elements.{All-append, All-cons, All-head, All-map, All-nil, All-tail, All-weaker}
use Rattle.std.proofs.lemmas.Option.{slice_get_within}
use Rattle.sig_core.specs.declared.ids.RelId.{RelId}
use Rattle.sig_core.specs.declared.ids.TypeId.{TypeId}
use Rattle.sig_core.specs.declared.signature.Kind.{Kind}
use Rattle.sig_core.specs.declared.signature.Param.{Param}
use Rattle.sig_core.specs.declared.signature.Relation.{Relation}
use Rattle.sig_core.specs.declared.value.Sort.{Sort}
use Rattle.sig_core.specs.declared.value.Sort.TheVariants as sort
use Rattle.sig_core.specs.Names.{AreDistinct, is_reserved}
use Rattle.sig_core.specs.Signatures.{Declarations, input_slots, inputs_of, kinds_of, outputs_of, params_in, plain_sorts, term_type}
use Rattle.sig_core.specs.WellFormed.{names_of_params, relation_names}
use Rattle.sexpr_core.specs.declared.form.Atom as sexpr
use Rattle.rule_core.specs.declared.flow.FlowFault.{FlowFault}
use Rattle.rule_core.specs.declared.rule.Atom as rule
use Rattle.rule_core.specs.declared.rule.Atom.TheVariants as atom
use Rattle.rule_core.specs.declared.rule.Rule.{Rule}
use Rattle.rule_core.specs.declared.rule.Var.{Var}
use Rattle.rule_core.specs.Flow.{end_fault, fault_at, fault_from, fits, has_sort, known_after, same_type, type_at}
use Rattle.rule_core.specs.Instances.{slot_sorts}
use Rattle.problem_core.specs.Soundness.{HasFreeNames, HasShortNames, IsShort, IsSoundRule}
use Rattle.syntax_core.specs.declared.syntax.Function.{Function}
use Rattle.syntax_core.specs.declared.syntax.Pair.{Pair}
use Rattle.name_core.specs.Names.{names_in}
use Rattle.name_core.proofs.LimitFacts.{FunctionFits}
use Rattle.name_core.proofs.NameFacts.{DeclarationNamed, IsFree}
use Rattle.sort_core.specs.Relations.{declared_with, param_of, relation_of}
use Rattle.state_core.proofs.Growing.{slice_get-left}

-- the signature with these relations after its own
abbrev pub related : Declarations → List Relation → Declarations
related sig relations = record sig { relations = sig.relations ++ relations }

relation_still : (sig : Declarations) (more : List Relation) (r : RelId) → r.0 < length sig.relations → slice_get (sig.relations ++ more) r.0 ≡ slice_get sig.relations r.0
relation_still sig more r within = slice_get-left sig.relations more r.0 within

kinds_still : (sig : Declarations) (more : List Relation) (r : RelId) → r.0 < length sig.relations → kinds_of (related sig more) r ≡ kinds_of sig r
kinds_still sig more r within = ap (λ (o : Option Relation). map (λ (p : Param). p.kind) (params_in o)) (relation_still sig more r within)

slots_still : (sig : Declarations) (more : List Relation) (r : Rule) → r.relation.0 < length sig.relations → slot_sorts (related sig more) r ≡ slot_sorts sig r
slots_still sig more r within = ap (λ (ks : List Kind). plain_sorts ks ++ map (λ (v : Var). v.sort) r.more) (kinds_still sig more r.relation within)

-- Data flow looks at the rule's own relation, and at those that it calls.

no_type : (t : Option TypeId) → same_type None t ≡ true → ⊥
no_type None h = absurd (cc)
no_type (Some t) h = absurd (cc)

called_by : (relations : List Relation) (r : RelId) (t : Option TypeId) (o : Option Relation) → slice_get relations r.0 ≡ o →
    same_type (term_type (map (λ (p : Param). p.kind) (params_in o))) t ≡ true → r.0 < length relations
called_by relations r t None at h = absurd (no_type t h)
called_by relations r t (Some relation) at h = slice_get_within relations r.0 relation at

-- a relation whose term has a type is declared
called : (sig : Declarations) (r : RelId) (t : Option TypeId) → same_type (term_type (kinds_of sig r)) t ≡ true → r.0 < length sig.relations
called sig r t h = called_by sig.relations r t (slice_get sig.relations r.0) refl h

left_of : (a b : Bool) → (a && b) ≡ true → a ≡ true
left_of true b h = refl
left_of false b h = absurd (cc)

fits_still : (sig : Declarations) (more : List Relation) (r : Rule) → r.relation.0 < length sig.relations → (known : List ℕ) (a : rule.Atom) →
    fits sig r known a ≡ true → fits (related sig more) r known a ≡ true
fits_still sig more r within known (atom.Call call) h =
    let F : List Kind → List Sort → Bool = λ kinds scope.
    same_type (term_type kinds) (type_at (slice_get sig.constructors r.con.0) call.who)
    && (pointwise (has_sort scope) call.inputs (inputs_of kinds (plain_sorts kinds)) && pointwise (has_sort scope) call.outputs (outputs_of kinds (plain_sorts kinds))) in
    let typed : same_type (term_type (kinds_of sig call.relation)) (type_at (slice_get sig.constructors r.con.0) call.who) ≡ true = left_of _ _ h in
    let inside : call.relation.0 < length sig.relations = called sig call.relation _ typed in
    ap₂ F (kinds_still sig more call.relation inside) (slots_still sig more r within) ∙ h
fits_still sig more r within known (atom.Fill slot e) h = rw (slots_still sig more r within) h
fits_still sig more r within known (atom.Test e) h = ap (λ scope. has_sort scope e sort.Bool) (slots_still sig more r within) ∙ h

on_known : (f g : List ℕ → Option FlowFault) → ((more : List ℕ) → f more ≡ None → g more ≡ None) → (o : Option (List ℕ)) (d : Option FlowFault) → option_map_or f o d ≡ None → option_map_or g o d ≡ None
on_known f g h None d e = e
on_known f g h (Some more) d e = h more e

on_fit : (b c : Bool) (x y : Option FlowFault) (z : FlowFault) → (b ≡ true → c ≡ true) → (x ≡ None → y ≡ None) → (if b then x else Some z) ≡ None → (if c then y else Some z) ≡ None
on_fit true c x y z fit still h = ap (λ v. if v then y else Some z) (fit refl) ∙ still h
on_fit false c x y z fit still h = absurd (cc)

flow_still : (sig : Declarations) (more : List Relation) (r : Rule) → r.relation.0 < length sig.relations →
    (atoms : List rule.Atom) (known : List ℕ) (n : ℕ) → fault_from sig r known n atoms ≡ None → fault_from (related sig more) r known n atoms ≡ None
flow_still sig more r within [] known n h = ap (λ (ks : List Kind). end_fault ks r.more known n) (kinds_still sig more r.relation within) ∙ h
flow_still sig more r within (a ∷ atoms) known n h =
    on_fit (fits sig r known a) (fits (related sig more) r known a) _ _ _ (fits_still sig more r within known a)
    (on_known (λ slots. fault_from sig r slots (suc n) atoms) (λ slots. fault_from (related sig more) r slots (suc n) atoms)
    (λ slots. flow_still sig more r within atoms slots (suc n)) (known_after known a) (fault_at 1 n (Some 0))) h

pub rule_still : (sig : Declarations) (more : List Relation) (r : Rule) → IsSoundRule sig r → IsSoundRule (related sig more) r
rule_still sig more r s =
    let within : r.relation.0 < length sig.relations = s.fits.relation in
    let same : slice_get (sig.relations ++ more) r.relation.0 ≡ slice_get sig.relations r.relation.0 = relation_still sig more r.relation within in
    let kinds : kinds_of (related sig more) r.relation ≡ kinds_of sig r.relation = kinds_still sig more r.relation within in
    let names : Option Relation → List (List ℕ) = λ o. names_of_params (params_in o) ++ r.kid_names ++ map (λ (v : Var). v.name) r.more in
    record {
      fits = record {
        relation = omega (arith, within, length-append sig.relations more);
        con = s.fits.con;
        same_type = ap term_type kinds ∙ s.fits.same_type;
        few_slots = subst (λ (sorts : List Sort). length sorts ≤ 64) (sym (slots_still sig more r within)) s.fits.few_slots;
        few_atoms = s.fits.few_atoms;
        small = s.fits.small;
      };
      flows = ap (λ (ks : List Kind). fault_from (related sig more) r (input_slots ks) 0 r.atoms) kinds ∙ flow_still sig more r within r.atoms _ 0 s.flows;
      children = s.children;
      few_variables = subst (λ (o : Option Relation). length (params_in o) + length r.more ≤ 64) (sym same) s.few_variables;
      distinct = subst (λ (o : Option Relation). AreDistinct (names o)) (sym same) s.distinct;
      free = subst (λ (o : Option Relation). All (λ name. is_reserved name ≡ false) (names o)) (sym same) s.free;
      short = subst (λ (o : Option Relation). All IsShort (names o)) (sym same) s.short;
      clean = s.clean;
    }

pub rules_still : (sig : Declarations) (more : List Relation) (rules : List Rule) → All (IsSoundRule sig) rules → All (IsSoundRule (related sig more)) rules
rules_still sig more rules h = All-weaker (IsSoundRule sig) (IsSoundRule (related sig more)) (rule_still sig more) rules h

-- Names.

pub params_named : (sig : Declarations) (inputs : List sexpr.Atom) (pairs : List Pair) → names_of_params (map (param_of sig inputs) pairs) ≡ names_in pairs
params_named sig inputs [] = refl
params_named sig inputs (p ∷ ps) = ap (λ names. p.name.bytes ∷ names) (params_named sig inputs ps)

-- what holds of the names of functions holds of those of their relations
names_each : (P : List ℕ → Type 0) (sig : Declarations) (functions : List Function) → All (λ (f : Function). P f.declaration.name.bytes) functions →
    All P (relation_names (map (relation_of sig) functions))
names_each P sig [] h = All-nil P
names_each P sig (f ∷ fs) h =
    All-cons P f.declaration.name.bytes (relation_names (map (relation_of sig) fs)) (All-head (λ (f : Function). P f.declaration.name.bytes) f fs h)
    (names_each P sig fs (All-tail (λ (f : Function). P f.declaration.name.bytes) f fs h))

names_after : (P : List ℕ → Type 0) (sig : Declarations) (functions : List Function) → All P (relation_names sig.relations) → All (λ (f : Function). P f.declaration.name.bytes) functions →
    All P (relation_names (sig.relations ++ map (relation_of sig) functions))
names_after P sig functions old h =
    subst (All P) (sym (map-append (λ (r : Relation). r.name) sig.relations (map (relation_of sig) functions)))
    (All-append P (relation_names sig.relations) (relation_names (map (relation_of sig) functions)) old (names_each P sig functions h))

abbrev HasShortParams : Relation → Type 0
HasShortParams r = All IsShort (names_of_params r.params)

short_params : (sig : Declarations) (f : Function) → FunctionFits f → HasShortParams (relation_of sig f)
short_params sig f fit =
    subst (All IsShort) (sym (params_named sig f.definition.inputs f.declaration.params))
    (All-map IsShort (λ (p : Pair). p.name.bytes) f.declaration.params fit.0.short_params)

pub names_still : (sig : Declarations) (functions : List Function) → HasShortNames sig → All FunctionFits functions → HasShortNames (declared_with sig functions)
names_still sig functions s fit = record {
  types = s.types;
  constructors = s.constructors;
  relations = names_after IsShort sig functions s.relations
      (All-weaker FunctionFits (λ (f : Function). IsShort f.declaration.name.bytes) (λ f here. here.0.short) functions fit);
  params = All-append HasShortParams sig.relations (map (relation_of sig) functions) s.params
      (All-map HasShortParams (relation_of sig) functions (All-weaker FunctionFits (λ (f : Function). HasShortParams (relation_of sig f)) (short_params sig) functions fit));
}

pub free_still : (sig : Declarations) (functions : List Function) → HasFreeNames sig → All (DeclarationNamed sig) functions → HasFreeNames (declared_with sig functions)
free_still sig functions s named = record {
  types = s.types;
  relations = names_after IsFree sig functions s.relations
      (All-weaker (DeclarationNamed sig) (λ (f : Function). IsFree f.declaration.name.bytes) (λ f here. here.free) functions named);
}
