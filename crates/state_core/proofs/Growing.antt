-- What has been stated stays sound when types and constructors are added.
use Rattle.std.proofs.Common.{◌≡◌, ◌<◌, ◌≤◌, ℕ, zero, suc, ◌+◌, Bool, true, false, not, List, [], ◌∷◌, ◌++◌, map, length, slice_get, Option, Some, None, is_some, All, refl, sym, ap, subst, ◌∙◌, if◌then◌else◌, arith}
use Rattle.std.specs.Prelude.{nat_le, option_map}
use Rattle.std.specs.Option.{option_map_or}
use Rattle.std.specs.List.{flat_map, enumerate_from}
use Rattle.std.proofs.lemmas.Bool.Decides.{nat_tests}
use Rattle.std.proofs.lemmas.List.{length-append, map-append}
use Rattle.std.proofs.lemmas.List.Elements.{All-append, All-cons, All-map, All-nil, All-weaker}
use Rattle.sig_core.specs.declared.signature.Constructor.{Constructor}
use Rattle.sig_core.specs.Signatures.{Declarations, owner_in}
use Rattle.sig_core.specs.WellFormed.{IsWellFormed, constructor_names}
use Rattle.sexpr_core.specs.declared.form.Atom.{Atom}
use Rattle.sexpr_core.specs.declared.form.Sexpr.{Sexpr}
use Rattle.sexpr_core.specs.Access.{place_of, symbol_of, parts_of, item_of, others_of}
use Rattle.syntax_core.specs.declared.fault.Fault.{Fault}
use Rattle.syntax_core.specs.Syntax.{atom_of, items_at, name_of, pattern_of, type_names}
use Rattle.rule_core.specs.declared.flow.FlowFault.{FlowFault}
use Rattle.rule_core.specs.declared.rule.Atom as rule
use Rattle.rule_core.specs.declared.rule.Atom.TheVariants as atom
use Rattle.rule_core.specs.declared.rule.Rule.{Rule}
use Rattle.rule_core.specs.Flow.{fault_at, fault_from, fits, known_after}
use Rattle.problem_core.specs.Soundness.{HasFreeNames, HasShortNames, IsShort, IsSoundRule, is_sort_name}
use Rattle.name_core.specs.Faults.{first, found_from, past}
use Rattle.name_core.specs.Limits.{constructor_limits, long_name, type_limits, types_limits}
use Rattle.making_core.specs.Making.{added, constructor_of, constructors_of, with_terms, with_types}
use Rattle.name_core.specs.Names.{has, sort_names, texts}
use Rattle.name_core.proofs.Having.{has-sorts}
use Rattle.name_core.proofs.NameFacts.{TypesNamed, types_named}
use Rattle.problem_core.specs.declared.parts.Constraint.{Constraint}
use Rattle.syntax_core.specs.declared.commands.Head.TheVariants as head
use Rattle.state_core.specs.Taking.{IsTaken}
use Rattle.state_core.specs.Commands.{faults_in, may_come}
use Rattle.name_core.specs.Limits.{limits}
use Rattle.name_core.specs.Names.{names}
use Rattle.making_core.specs.Soundness.{IsSoundState, IsSoundWanted}
use Rattle.name_core.specs.States.{State, Wanted}
use Rattle.making_core.proofs.Fits.{none-left, none-right}

-- the signature with these types and constructors after its own
abbrev pub grown : Declarations → List (List ℕ) → List Constructor → Declarations
grown sig types constructors = record sig { types = sig.types ++ types; constructors = sig.constructors ++ constructors }

pub slice_get-left : {X : Type 0} (xs ys : List X) (k : ℕ) → k < length xs → slice_get (xs ++ ys) k ≡ slice_get xs k
slice_get-left [] ys k h = absurd (omega arith)
slice_get-left (x ∷ xs) ys zero h = refl
slice_get-left (x ∷ xs) ys (suc k) h = let l : k < length xs = omega arith in slice_get-left xs ys k l

-- Data flow looks at the rule's own constructor alone.

fits_still : (sig : Declarations) (types : List (List ℕ)) (cons : List Constructor) (r : Rule) → r.con.0 < length sig.constructors → (known : List ℕ) (a : rule.Atom) →
    fits (grown sig types cons) r known a ≡ fits sig r known a
fits_still sig types cons r within known (atom.Call call) = rw (slice_get-left sig.constructors cons r.con.0 within) refl
fits_still sig types cons r within known (atom.Fill slot e) = refl
fits_still sig types cons r within known (atom.Test e) = refl

on_known : (f g : List ℕ → Option FlowFault) → ((more : List ℕ) → f more ≡ g more) → (o : Option (List ℕ)) (d : Option FlowFault) → option_map_or f o d ≡ option_map_or g o d
on_known f g h None d = refl
on_known f g h (Some more) d = h more

on_test : (b c : Bool) (x y z : Option FlowFault) → b ≡ c → x ≡ y → (if b then x else z) ≡ (if c then y else z)
on_test b c x y z e h = ap (λ v. if v then x else z) e ∙ ap (λ v. if c then v else z) h

flow_still : (sig : Declarations) (types : List (List ℕ)) (cons : List Constructor) (r : Rule) → r.con.0 < length sig.constructors →
    (atoms : List rule.Atom) (known : List ℕ) (n : ℕ) → fault_from (grown sig types cons) r known n atoms ≡ fault_from sig r known n atoms
flow_still sig types cons r within [] known n = refl
flow_still sig types cons r within (a ∷ atoms) known n =
    on_test (fits (grown sig types cons) r known a) (fits sig r known a) _ _ _ (fits_still sig types cons r within known a)
    (on_known (λ more. fault_from (grown sig types cons) r more (suc n) atoms) (λ more. fault_from sig r more (suc n) atoms)
    (λ more. flow_still sig types cons r within atoms more (suc n)) (known_after known a) (fault_at 1 n (Some 0)))

pub rule_still : (sig : Declarations) (types : List (List ℕ)) (cons : List Constructor) (r : Rule) → IsSoundRule sig r → IsSoundRule (grown sig types cons) r
rule_still sig types cons r s =
    let within : r.con.0 < length sig.constructors = s.fits.con in
    let same = slice_get-left sig.constructors cons r.con.0 within in
    let more : r.con.0 < length (sig.constructors ++ cons) = omega (arith, within, length-append sig.constructors cons) in
    record {
      fits = record {
        relation = s.fits.relation;
        con = more;
        same_type = s.fits.same_type ∙ ap owner_in (sym same);
        few_slots = s.fits.few_slots;
        few_atoms = s.fits.few_atoms;
        small = s.fits.small;
      };
      flows = flow_still sig types cons r within r.atoms _ 0 ∙ s.flows;
      children = ap (λ (o : Option Constructor). option_map (λ c. length c.args) o) same ∙ s.children;
      few_variables = s.few_variables;
      distinct = s.distinct;
      free = s.free;
      short = s.short;
      clean = s.clean;
    }

-- Names.

short_by : (n : ℕ) (fault : Fault) (b : Bool) → nat_le n 1024 ≡ b → first (if b then [] else fault ∷ []) ≡ None → n ≤ 1024
short_by n fault true e h = grind (arith, nat_tests)
short_by n fault false e h = absurd (cc)

short_name : (name : Atom) → first (long_name name) ≡ None → IsShort name.bytes
short_name name h = short_by (length name.bytes) _ (nat_le (length name.bytes) 1024) refl h

short_types : (n : ℕ) (names : List Atom) → first (found_from type_limits n names) ≡ None → All IsShort (texts names)
short_types n [] h = All-nil _
short_types n (name ∷ names) h =
    All-cons IsShort name.bytes (texts names) (short_name name (none-left (long_name name) (past 256 5 n name.place) (none-left (type_limits n name) _ h)))
    (short_types (n + 1) names (none-right (type_limits n name) _ h))

short_constructor_by : (n : ℕ) (form : Sexpr) (b : Bool) → is_some (symbol_of form) ≡ b →
    first (if b then long_name (atom_of form) ++ past 4096 6 n (place_of form)
    else past 4096 6 n (place_of form) ++ past 17 7 (length (others_of form)) (place_of form) ++ long_name (name_of form)) ≡ None →
    IsShort (name_of form).bytes
short_constructor_by n form true e h =
    let same : name_of form ≡ atom_of form = ap (λ b. if b then atom_of form else atom_of (item_of 0 form)) e in
    subst (λ (a : Atom). IsShort a.bytes) (sym same) (short_name (atom_of form) (none-left (long_name (atom_of form)) _ h))
short_constructor_by n form false e h = short_name (name_of form) (none-right (past 4096 6 n (place_of form) ++ past 17 7 (length (others_of form)) (place_of form)) _ h)

short_constructors : (n : ℕ) (forms : List Sexpr) → first (found_from constructor_limits n forms) ≡ None → All IsShort (map (λ form. (name_of form).bytes) forms)
short_constructors n [] h = All-nil _
short_constructors n (form ∷ forms) h =
    All-cons IsShort (name_of form).bytes (map (λ form. (name_of form).bytes) forms)
    (short_constructor_by n form (is_some (symbol_of form)) refl (none-left (constructor_limits n form) _ h))
    (short_constructors (n + 1) forms (none-right (constructor_limits n form) _ h))

names_of_group : (sig : Declarations) (owner : ℕ) (forms : List Sexpr) →
    constructor_names (map (λ form. constructor_of sig owner (pattern_of form)) forms) ≡ map (λ form. (name_of form).bytes) forms
names_of_group sig owner [] = refl
names_of_group sig owner (form ∷ forms) = ap (λ ns. (name_of form).bytes ∷ ns) (names_of_group sig owner forms)

names_of_groups : (sig : Declarations) (owner : ℕ) (groups : List Sexpr) →
    constructor_names (flat_map (constructors_of sig) (enumerate_from owner groups)) ≡ map (λ form. (name_of form).bytes) (flat_map parts_of groups)
names_of_groups sig owner [] = refl
names_of_groups sig owner (group ∷ groups) =
    map-append (λ (c : Constructor). c.name) (map (λ form. constructor_of sig owner (pattern_of form)) (parts_of group)) (flat_map (constructors_of sig) (enumerate_from (owner + 1) groups))
    ∙ ap (λ ns. ns ++ constructor_names (flat_map (constructors_of sig) (enumerate_from (owner + 1) groups))) (names_of_group sig owner (parts_of group))
    ∙ ap (λ ns. map (λ form. (name_of form).bytes) (parts_of group) ++ ns) (names_of_groups sig (owner + 1) groups)
    ∙ sym (map-append (λ (form : Sexpr). (name_of form).bytes) (parts_of group) (flat_map parts_of groups))

pub names_still : (sig : Declarations) (form : Sexpr) → HasShortNames sig → first (types_limits (length sig.types) (length sig.constructors) form) ≡ None → HasShortNames (with_terms sig form)
names_still sig form s h =
    let cons = flat_map (constructors_of (with_types sig form)) (enumerate_from (length sig.types) (items_at 2 form)) in
    let names = short_constructors (length sig.constructors) (flat_map parts_of (items_at 2 form)) (none-right (found_from type_limits (length sig.types) (type_names form)) _ h) in
    let made : All IsShort (constructor_names cons) = subst (All IsShort) (sym (names_of_groups (with_types sig form) (length sig.types) (items_at 2 form))) names in
    record {
      types = All-append IsShort sig.types (texts (type_names form)) s.types (short_types (length sig.types) (type_names form) (none-left (found_from type_limits (length sig.types) (type_names form)) _ h));
      constructors = subst (All IsShort) (sym (map-append (λ (c : Constructor). c.name) sig.constructors cons)) (All-append IsShort (constructor_names sig.constructors) (constructor_names cons) s.constructors made);
      relations = s.relations;
      params = s.params;
    }

-- a new type is named as no sort is
free_still : (sig : Declarations) (form : Sexpr) → HasFreeNames sig → TypesNamed sig form → HasFreeNames (with_terms sig form)
free_still sig form s named = record {
  types = All-append (λ name. is_sort_name name ≡ false) sig.types (texts (type_names form)) s.types
      (All-map (λ name. is_sort_name name ≡ false) (λ (a : Atom). a.bytes) (type_names form)
      (All-weaker (λ (a : Atom). has sort_names a.bytes ≡ false) (λ (a : Atom). is_sort_name a.bytes ≡ false) (λ a h. sym (has-sorts a.bytes) ∙ h) (type_names form) named.free_types));
  relations = s.relations;
}

pub rules_still : (sig : Declarations) (form : Sexpr) (rules : List Rule) → All (IsSoundRule sig) rules → All (IsSoundRule (with_terms sig form)) rules
rules_still sig form rules h =
    All-weaker (IsSoundRule sig) (IsSoundRule (with_terms sig form))
    (λ r s. rule_still sig (texts (type_names form)) (flat_map (constructors_of (with_types sig form)) (enumerate_from (length sig.types) (items_at 2 form))) r s) rules h

pub wanted_still : (sig grown : Declarations) (constraints : List Constraint) (is_over : Bool) (wanted : Option Wanted) → not (is_some wanted) ≡ true →
    IsSoundWanted sig constraints is_over wanted → IsSoundWanted grown constraints is_over wanted
wanted_still sig grown constraints is_over None none h = h
wanted_still sig grown constraints is_over (Some wanted) none h = absurd (cc)

-- types and constructors without faults were added before a function is wanted
pub terms_taken : (s new : State) (form : Sexpr) → may_come s head.DeclareTermTypes ≡ true → IsSoundState s → first (faults_in s head.DeclareTermTypes form) ≡ None →
    new ≡ added s head.DeclareTermTypes form → IsWellFormed (with_terms s.signature form) → IsTaken s head.DeclareTermTypes form new
terms_taken s new form come sound fine is well =
    let L : List Fault = limits s head.DeclareTermTypes form in
    let N : List Fault = names s head.DeclareTermTypes form in
    let both : first (L ++ N) ≡ None = none-left (L ++ N) [] (none-left (L ++ N ++ []) [] fine) in
    let h : first L ≡ None = none-left L N both in
    let after : IsSoundState (added s head.DeclareTermTypes form) = record {
      signature = well;
      names = names_still s.signature form sound.names h;
      free_names = free_still s.signature form sound.free_names (types_named s.signature form sound.signature.distinct_types sound.signature.distinct_constructors (none-right L N both));
      few_rules = sound.few_rules;
      rules = rules_still s.signature form s.rules sound.rules;
      few_constraints = sound.few_constraints;
      wanted = wanted_still s.signature (with_terms s.signature form) s.constraints s.is_over s.wanted come sound.wanted;
    } in
    record { fine = fine; is_added = is; sound = subst IsSoundState (sym is) after }
