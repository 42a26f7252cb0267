-- Examples without faults make constraints that fit.
use Rattle.std.proofs.Common.{◌≡◌, ◌<◌, ◌≤◌, ℕ, suc, ◌+◌, Bool, true, false, not, ◌&&◌, List, [], ◌∷◌, ◌++◌, map, length, get_or, slice_get, Option, Some, None, is_some, unwrap_or, All, refl, sym, ap, ap₂, subst, ◌∙◌, arith}
use Rattle.std.proofs.Common.{cond}
use Rattle.std.specs.Prelude.{ℤ, pos, nat_eq, codes, IsTrue}
use Rattle.std.specs.Option.{option_map_or}
use Rattle.std.specs.List.{flat_map, list_all}
use Rattle.std.proofs.lemmas.Bool.{and_parts, eqb-true, not-false}
use Rattle.std.proofs.lemmas.List.{length-append, length-map}
use Rattle.std.proofs.lemmas.List.Elements.{All-append, All-cons, All-nil}
use Rattle.std.proofs.lemmas.Option.{slice_get-get_or}
use Rattle.sig_core.specs.declared.ids.RelId.{RelId}
use Rattle.sig_core.specs.declared.ids.TypeId.{TypeId}
use Rattle.sig_core.specs.declared.signature.Kind.{Kind}
use Rattle.sig_core.specs.declared.signature.Kind.TheVariants.{Term, Input, Output}
use Rattle.sig_core.specs.declared.signature.Param.{Param}
use Rattle.sig_core.specs.declared.signature.Relation.{Relation}
use Rattle.sig_core.specs.declared.value.Sort.{Sort}
use Rattle.sig_core.specs.declared.value.Sort.TheVariants as sort
use Rattle.sig_core.specs.Signatures.{Declarations, kinds_of, params_in, plain_sorts, term_type}
use Rattle.sig_core.specs.Names.{same_name}
use Rattle.sig_core.specs.Values.{is_in_range, is_value, ranged, same_sort, sort_of}
use Rattle.sig_core.specs.WellFormed.{IsRelation, IsWellFormed, relation_names, term_types}
use Rattle.syntax_core.specs.declared.fault.Fault.{Fault}
use Rattle.syntax_core.specs.declared.literal.Literal.{Literal}
use Rattle.syntax_core.specs.declared.literal.Literal.TheVariants.{Number, Truth}
use Rattle.syntax_core.specs.declared.syntax.Application.{Application}
use Rattle.syntax_core.specs.declared.syntax.Exp.{Exp, out-Exp}
use Rattle.syntax_core.specs.declared.syntax.Exp.TheOpen.{Exp-F}
use Rattle.syntax_core.specs.Literals.{literal_in, literal_named, literal_of, negative_in, number_of, place_of_exp, sort_of_literal}
use Rattle.problem_core.specs.declared.parts.Constraint.{Constraint}
use Rattle.problem_core.specs.Soundness.{IsSoundConstraint}
use Rattle.name_core.specs.Faults.{bad_if, first, found_from}
use Rattle.sexpr_core.specs.declared.form.Sexpr.{Sexpr}
use Rattle.sexpr_core.specs.Access.{item_of}
use Rattle.sexpr_core.specs.Numerals.{is_negative, minus}
use Rattle.syntax_core.specs.declared.commands.Head.TheVariants as head
use Rattle.syntax_core.specs.Syntax.{calls_of, deepest}
use Rattle.state_core.specs.Taking.{IsTaken}
use Rattle.state_core.specs.Commands.{faults_in}
use Rattle.name_core.specs.Limits.{call_limits}
use Rattle.making_core.specs.Soundness.{IsSoundState, IsSoundWanted}
use Rattle.name_core.specs.States.{State, Wanted}
use Rattle.making_core.specs.Making.{added, constraint_of, value_of_argument}
use Rattle.name_core.specs.Names.{call_names, example_names, has, unknown_name}
use Rattle.sort_core.specs.Opens.{relation_named}
use Rattle.making_core.specs.Rules.{plain_args, value_of_literal}
use Rattle.sort_core.specs.Sorts.{are_of_type, example_argument, example_argument_at, example_faults_of, examples_faults, is_literal_of, range_faults}
use Rattle.making_core.proofs.Fits.{none-left, none-right, passes, within_limit}
use Rattle.making_core.proofs.Terms.{number_within}

-- A literal of the sort.

same_literal_sort : (s : Sort) (literal : Literal) → same_sort s (sort_of_literal literal) ≡ true → sort_of (value_of_literal literal) ≡ s
same_literal_sort sort.Int (Number n) h = refl
same_literal_sort sort.Int (Truth b) h = absurd (cc)
same_literal_sort sort.Bool (Number n) h = absurd (cc)
same_literal_sort sort.Bool (Truth b) h = refl

literal_sort : (s : Sort) (o : Option Literal) → not (option_map_or (λ literal. same_sort s (sort_of_literal literal)) o false) ≡ false →
    sort_of (value_of_literal (unwrap_or o (Truth true))) ≡ s
literal_sort s None h = absurd (cc)
literal_sort s (Some literal) h = same_literal_sort s literal (not-false (same_sort s (sort_of_literal literal)) h)

argument_sort : (wanted : List ℕ) (s : Sort) (e : Exp) → first (bad_if (not (is_literal_of s e)) 30 (place_of_exp e) ++ range_faults e) ≡ None → sort_of (value_of_argument e) ≡ s
argument_sort wanted s e h = literal_sort s (literal_of e) (passes (not (is_literal_of s e)) 30 (place_of_exp e) (none-left (bad_if (not (is_literal_of s e)) 30 (place_of_exp e)) (range_faults e) h))

-- the kinds are those of `all` from number k on
abbrev pub AreFrom : List Kind → ℕ → List Kind → Type 0
AreFrom all k kinds = (j : ℕ) → slice_get all (k + j) ≡ slice_get kinds j

from_next : (all kinds : List Kind) (k : ℕ) (kind : Kind) → AreFrom all k (kind ∷ kinds) → AreFrom all (k + 1) kinds
from_next all kinds k kind h = λ j. let e : k + 1 + j ≡ k + suc j = omega arith in ap (slice_get all) e ∙ h (suc j)

from_here : (all kinds : List Kind) (k : ℕ) (kind : Kind) → AreFrom all k (kind ∷ kinds) → slice_get all k ≡ Some kind
from_here all kinds k kind h = let e : k ≡ k + 0 = omega arith in ap (slice_get all) e ∙ h 0

argument_at : (wanted : List ℕ) (all kinds : List Kind) (k : ℕ) (kind : Kind) (e : Exp) → AreFrom all k (kind ∷ kinds) → first (example_argument_at wanted all k e) ≡ None →
    first (example_argument wanted (Some kind) e) ≡ None
unfolding example_argument_at
argument_at wanted all kinds k kind e h n = ap (λ o. first (example_argument wanted o e)) (sym (from_here all kinds k kind h)) ∙ n

sorted_by : (wanted : List ℕ) (kind : Kind) (kinds : List Kind) (e : Exp) (args : List Exp) → first (example_argument wanted (Some kind) e) ≡ None →
    map sort_of (map value_of_argument (plain_args kinds args)) ≡ plain_sorts kinds →
    map sort_of (map value_of_argument (plain_args (kind ∷ kinds) (e ∷ args))) ≡ plain_sorts (kind ∷ kinds)
sorted_by wanted (Term t) kinds e args n rest = rest
sorted_by wanted (Input s) kinds e args n rest = ap₂ (λ x xs. x ∷ xs) (argument_sort wanted s e n) rest
sorted_by wanted (Output s) kinds e args n rest = ap₂ (λ x xs. x ∷ xs) (argument_sort wanted s e n) rest

sorted : (wanted : List ℕ) (all kinds : List Kind) (k : ℕ) (args : List Exp) → AreFrom all k kinds → length args ≡ length kinds →
    first (found_from (example_argument_at wanted all) k args) ≡ None → map sort_of (map value_of_argument (plain_args kinds args)) ≡ plain_sorts kinds
sorted wanted all [] k [] from count h = refl
sorted wanted all [] k (e ∷ args) from count h = absurd (omega arith)
sorted wanted all (kind ∷ kinds) k [] from count h = absurd (omega arith)
sorted wanted all (kind ∷ kinds) k (e ∷ args) from count h =
    let fewer : length args ≡ length kinds = omega arith in
    let here : first (example_argument_at wanted all k e) ≡ None = none-left (example_argument_at wanted all k e) _ h in
    let rest : first (found_from (example_argument_at wanted all) (k + 1) args) ≡ None = none-right (example_argument_at wanted all k e) _ h in
    sorted_by wanted kind kinds e args (argument_at wanted all kinds k kind e from here) (sorted wanted all kinds (k + 1) args (from_next all kinds k kind from) fewer rest)

-- Literals are read into range.

-- the value of the literal, if it is one, is in range
abbrev IsInRange : Option Literal → Type 0
IsInRange o = is_value (value_of_literal (unwrap_or o (Truth true))) ≡ true

one_of : (b : Bool) (x y : Option Literal) → IsInRange x → IsInRange y → IsInRange (cond b x y)
one_of true x y p q = p
one_of false x y p q = q

ranged_by : (z : ℤ) (b : Bool) → is_in_range z ≡ b → is_in_range (unwrap_or (cond b (Some z) None) (pos 0)) ≡ true
ranged_by z true e = e
ranged_by z false e = refl

number_in_range : (z : ℤ) → IsInRange (Some (Number (ranged z)))
number_in_range z = ranged_by z (is_in_range z) refl

negative_in_range : (name : List ℕ) → IsInRange (Some (negative_in name))
negative_in_range [] = refl
negative_in_range (sign ∷ digits) = number_in_range (minus (number_of digits))

named_in_range : (name : List ℕ) → IsInRange (literal_named name)
named_in_range name =
    one_of (same_name (codes "true") name) _ _ refl
    (one_of (same_name (codes "false") name) _ _ refl
    (one_of (is_negative name) _ _ (negative_in_range name) refl))

literal_in_range : (e : Exp-F Exp Application) → IsInRange (literal_in e)
literal_in_range (Exp-F.Symbol a) = named_in_range a.bytes
literal_in_range (Exp-F.Numeral a) = number_in_range (pos (number_of a.bytes))
literal_in_range (Exp-F.Negative n) = number_in_range (minus (number_of n.numeral.bytes))
literal_in_range (Exp-F.Apply a) = refl

arguments_in_range : (es : List Exp) → list_all is_value (map value_of_argument es) ≡ true
arguments_in_range [] = refl
arguments_in_range (e ∷ es) = ap₂ (λ a b. a && b) (literal_in_range (out-Exp e)) (arguments_in_range es)

-- The type of a relation's term.

one_type : (kinds : List Kind) (t : TypeId) → term_types kinds ≡ t ∷ [] → term_type kinds ≡ Some t
one_type [] t h = absurd (cc)
one_type (Term u ∷ kinds) t h = cc
one_type (Input s ∷ kinds) t h = one_type kinds t h
one_type (Output s ∷ kinds) t h = one_type kinds t h

same_by : (t u : TypeId) → (nat_eq t.0 u.0 && true) ≡ true → t ≡ u
same_by t u h = let e : t.0 ≡ u.0 = eqb-true t.0 u.0 (and_parts (nat_eq t.0 u.0) true h).0 in ap (λ n. record { 0 = n }) e

type_by : (type t : TypeId) (types : List TypeId) → types ≡ t ∷ [] → list_all (λ u. nat_eq u.0 type.0) types ≡ true → t ≡ type
type_by type t types e h = same_by t type (sym (ap (list_all (λ u. nat_eq u.0 type.0)) e) ∙ h)

typed : (kinds : List Kind) (type t : TypeId) → term_types kinds ≡ t ∷ [] → are_of_type type kinds ≡ true → term_type kinds ≡ Some type
typed kinds type t e h = one_type kinds t e ∙ ap Some (type_by type t (term_types kinds) e h)

-- the relation of a name that stands
relation_at : (sig : Declarations) (rel : RelId) → IsWellFormed sig → rel.0 < length sig.relations → (t : TypeId) × (term_types (kinds_of sig rel) ≡ t ∷ [])
relation_at sig rel fine within =
    let blank : Relation = record { name = []; params = [] } in
    let is : slice_get sig.relations rel.0 ≡ Some (get_or sig.relations rel.0 blank) = slice_get-get_or sig.relations rel.0 blank within in
    let relation : IsRelation (length sig.types) (get_or sig.relations rel.0 blank) = fine.relations rel.0 blank within in
    (relation.term, ap (λ o. term_types (map (λ (p : Param). p.kind) (params_in o))) is ∙ relation.one_term)

sound_by : (sig : Declarations) (wanted : List ℕ) (type : TypeId) (kinds : List Kind) (args : List Exp) (place : ℕ) (t : TypeId) → term_types kinds ≡ t ∷ [] →
    first (bad_if (not (are_of_type type kinds && nat_eq (length args) (length kinds))) 30 place ++ found_from (example_argument_at wanted kinds) 0 args) ≡ None →
    (term_type kinds ≡ Some type) × (map sort_of (map value_of_argument (plain_args kinds args)) ≡ plain_sorts kinds)
sound_by sig wanted type kinds args place t e h =
    let good : (are_of_type type kinds ≡ true) × (nat_eq (length args) (length kinds) ≡ true) =
    and_parts (are_of_type type kinds) (nat_eq (length args) (length kinds)) (not-false _ (passes _ 30 place (none-left (bad_if (not (are_of_type type kinds && nat_eq (length args) (length kinds))) 30 place) _ h))) in
    let all : AreFrom kinds 0 kinds = λ j. let e : 0 + j ≡ j = omega arith in ap (slice_get kinds) e in (
      typed kinds type t e good.0,
      sorted wanted kinds kinds 0 args all (eqb-true (length args) (length kinds) good.1) (none-right (bad_if (not (are_of_type type kinds && nat_eq (length args) (length kinds))) 30 place) _ h),
    )

pub constraint_sound : (sig : Declarations) (wanted : List ℕ) (type : TypeId) (call : Application) → IsWellFormed sig →
    first (call_names sig wanted call) ≡ None → first (example_faults_of sig wanted type call) ≡ None → IsSoundConstraint sig type (constraint_of sig call)
constraint_sound sig wanted type call fine names faults =
    let known : not (has (relation_names sig.relations) call.head.bytes) ≡ false = passes _ 20 call.head.place (none-left (unknown_name (relation_names sig.relations) call.head) _ names) in
    let rel : RelId = relation_named sig call.head.bytes in
    let count : length (relation_names sig.relations) ≡ length sig.relations = length-map sig.relations (λ (r : Relation). r.name) in
    let inside : rel.0 < length (relation_names sig.relations) = number_within (relation_names sig.relations) call.head.bytes known in
    let within : rel.0 < length sig.relations = omega (arith, count, inside) in
    let one = relation_at sig rel fine within in
    let all = sound_by sig wanted type (kinds_of sig rel) call.args call.place one.0 one.1 faults in
    record { type = all.0; sorted = all.1; in_range = arguments_in_range (plain_args (kinds_of sig rel) call.args) }

pub constraints_sound : (sig : Declarations) (wanted : List ℕ) (type : TypeId) (calls : List Application) → IsWellFormed sig →
    first (flat_map (call_names sig wanted) calls) ≡ None → first (flat_map (example_faults_of sig wanted type) calls) ≡ None →
    All (IsSoundConstraint sig type) (map (constraint_of sig) calls)
constraints_sound sig wanted type [] fine names faults = All-nil _
constraints_sound sig wanted type (call ∷ calls) fine names faults =
    All-cons (IsSoundConstraint sig type) (constraint_of sig call) (map (constraint_of sig) calls)
    (constraint_sound sig wanted type call fine (none-left (call_names sig wanted call) _ names) (none-left (example_faults_of sig wanted type call) _ faults))
    (constraints_sound sig wanted type calls fine (none-right (call_names sig wanted call) _ names) (none-right (example_faults_of sig wanted type call) _ faults))

calls_few : (n : ℕ) (calls : List Application) → n ≤ 1024 → first (found_from call_limits n calls) ≡ None → n + length calls ≤ 1024
calls_few n [] most h = omega arith
calls_few n (call ∷ calls) most h =
    let below : n < 1024 = within_limit 1024 14 n call.place (none-left (call_limits n call) _ h) in
    let more : n + 1 + length calls ≤ 1024 = calls_few (n + 1) calls (omega arith) (none-right (call_limits n call) _ h) in
    omega arith

-- what a `constraint` adds fits the function that is wanted
sound_after : (sig : Declarations) (old : List Constraint) (is_over : Bool) (wanted : Option Wanted) (calls : List Application) → IsWellFormed sig → IsTrue (is_some wanted) →
    IsSoundWanted sig old is_over wanted → first (example_names sig wanted calls) ≡ None → first (examples_faults sig wanted calls) ≡ None →
    IsSoundWanted sig (old ++ map (constraint_of sig) calls) is_over wanted
sound_after sig old is_over None calls well some h names faults = absurd (cc)
sound_after sig old is_over (Some w) calls well some h names faults =
    (h.0, h.1, h.2, All-append (IsSoundConstraint sig w.type) old (map (constraint_of sig) calls) h.3 (constraints_sound sig w.name w.type calls well names faults))

pub constraints_taken : (s new : State) (form : Sexpr) → IsTrue (is_some s.wanted) → IsSoundState s → first (faults_in s head.Constraint form) ≡ None →
    new ≡ added s head.Constraint form → IsTaken s head.Constraint form new
constraints_taken s new form some sound fine is =
    let calls : List Application = calls_of deepest (item_of 1 form) in
    let L : List Fault = found_from call_limits (length s.constraints) calls in
    let N : List Fault = example_names s.signature s.wanted calls in
    let S : List Fault = examples_faults s.signature s.wanted calls in
    let rest : first (L ++ N ++ S) ≡ None = none-left (L ++ N ++ S) [] fine in
    let front : first (L ++ N) ≡ None = none-left (L ++ N) S rest in
    let count : length (s.constraints ++ map (constraint_of s.signature) calls) ≡ length s.constraints + length calls =
    omega (arith, length-append s.constraints (map (constraint_of s.signature) calls), length-map calls (constraint_of s.signature)) in
    let few : length s.constraints + length calls ≤ 1024 = calls_few (length s.constraints) calls sound.few_constraints (none-left L N front) in
    let after : IsSoundState (added s head.Constraint form) = record {
      signature = sound.signature;
      names = sound.names;
      free_names = sound.free_names;
      few_rules = sound.few_rules;
      rules = sound.rules;
      few_constraints = omega (arith, count, few);
      wanted = sound_after s.signature s.constraints s.is_over s.wanted calls sound.signature some sound.wanted (none-right L N front) (none-right (L ++ N) S rest);
    } in
    record { fine = fine; is_added = is; sound = subst IsSoundState (sym is) after }
