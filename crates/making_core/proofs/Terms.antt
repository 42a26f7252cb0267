-- The types and constructors of a command without faults can be added.
use Rattle.std.proofs.Common.{◌≡◌, ◌<◌, ◌≤◌, ℕ, ◌+◌, Bool, true, false, not, List, [], ◌∷◌, ◌++◌, map, length, Option, Some, None, is_some, unwrap_or, All, refl, sym, ap, ◌∙◌, if◌then◌else◌, arith}
use Rattle.std.specs.Prelude.{nat_lt}
use Rattle.std.specs.List.{flat_map, enumerate_from}
use Rattle.std.proofs.lemmas.Bool.Decides.{nat_tests}
use Rattle.std.proofs.lemmas.List.{append_assoc, length-append, append-nil, length-map, map-append}
use Rattle.std.proofs.lemmas.List.Elements.{All-cons, All-nil, All-push, All-weaker}
use Rattle.std.proofs.lemmas.List.Quantifiers.{position-Some}
use Rattle.sig_core.specs.declared.ids.TypeId.{TypeId}
use Rattle.sig_core.specs.declared.signature.Constructor.{Constructor}
use Rattle.sig_core.specs.declared.signature.SigError.{SigError}
use Rattle.sig_core.specs.Names.{place_of, same_name}
use Rattle.sig_core.specs.Refusals.{constructor_refusal, with_constructor}
use Rattle.sig_core.specs.Signatures.{Declarations}
use Rattle.sig_core.specs.WellFormed.{IsConstructor, IsDeclared, IsWellFormed, constructor_names}
use Rattle.sexpr_core.specs.declared.form.Atom.{Atom}
use Rattle.sexpr_core.specs.declared.form.Nest.{Nest}
use Rattle.sexpr_core.specs.declared.form.Sexpr.{Sexpr, out-Sexpr}
use Rattle.sexpr_core.specs.declared.form.Sexpr.TheOpen.{Sexpr-F}
use Rattle.sexpr_core.specs.Access.{items_in, place_of as place_of_form, symbol_in, symbol_of, parts_of, others_of}
use Rattle.syntax_core.specs.declared.fault.Fault.{Fault}
use Rattle.syntax_core.specs.declared.syntax.Pattern.{Pattern}
use Rattle.syntax_core.specs.Syntax.{atom_of, items_at, name_of, pair_of, pattern_of, type_names}
use Rattle.name_core.specs.Faults.{first, found_after, found_from, past}
use Rattle.making_core.specs.Fitting.{ConstructorFits, ConstructorsFit, TermsFit}
use Rattle.name_core.specs.Limits.{constructor_limits, long_name, type_limits, types_limits}
use Rattle.making_core.specs.Making.{constructor_of, constructors_of, with_types}
use Rattle.name_core.specs.Names.{has, sort_names, taken_name, texts, types_names, unknown_name}
use Rattle.sort_core.specs.Opens.{number_named}
use Rattle.sort_core.specs.Relations.{type_named}
use Rattle.making_core.proofs.Fits.{none-left, none-right, passes, types_fit, within_limit}

-- The type of a name that stands is declared.

stands_by : (n : ℕ) (o : Option ℕ) → not (is_some o) ≡ false → ((i : ℕ) → o ≡ Some i → i < n) → unwrap_or o n < n
stands_by n None h within = absurd (cc)
stands_by n (Some i) h within = within i refl

pub number_within : (names : List (List ℕ)) (name : List ℕ) → not (has names name) ≡ false → number_named names name < length names
number_within names name h = stands_by (length names) (place_of names name) h (λ i e. (position-Some (same_name name) names i [] e).0)

pub all_declared : (sig : Declarations) (variables : List Atom) → first (flat_map (unknown_name sig.types) variables) ≡ None →
    All (IsDeclared (length sig.types)) (map (type_named sig) (texts variables))
all_declared sig [] h = All-nil _
all_declared sig (v ∷ vs) h =
    All-cons (IsDeclared (length sig.types)) (type_named sig v.bytes) (map (type_named sig) (texts vs))
    (number_within sig.types v.bytes (passes _ 20 v.place (none-left (unknown_name sig.types v) _ h)))
    (all_declared sig vs (none-right (unknown_name sig.types v) _ h))

-- A constructor has at most 16 children.

no_parts : (o : Sexpr-F Sexpr Nest) → is_some (symbol_in o) ≡ true → unwrap_or (items_in o) [] ≡ []
no_parts (Sexpr-F.Symbol a) h = refl
no_parts (Sexpr-F.Numeral a) h = absurd (cc)
no_parts (Sexpr-F.Text a) h = absurd (cc)
no_parts (Sexpr-F.Keyword a) h = absurd (cc)
no_parts (Sexpr-F.List n) h = absurd (cc)

pub record Few (n : ℕ) (form : Sexpr) : Type 0 where
  pub number : n < 4096
  pub children : length (others_of form) ≤ 16

few_by : (n : ℕ) (form : Sexpr) (b : Bool) → is_some (symbol_of form) ≡ b →
    first (if b then long_name (atom_of form) ++ past 4096 6 n (place_of_form form)
    else past 4096 6 n (place_of_form form) ++ past 17 7 (length (others_of form)) (place_of_form form) ++ long_name (name_of form)) ≡ None →
    Few n form
few_by n form true e h =
    let none : parts_of form ≡ [] = no_parts (out-Sexpr form) e in
    let fewer : length (others_of form) ≡ 0 = rw none refl in
    record { number = within_limit 4096 6 n (place_of_form form) (none-right (long_name (atom_of form)) _ h); children = omega arith }
few_by n form false e h =
    let front : first (past 4096 6 n (place_of_form form) ++ past 17 7 (length (others_of form)) (place_of_form form)) ≡ None = none-left _ (long_name (name_of form)) h in
    let number : n < 4096 = within_limit 4096 6 n (place_of_form form) (none-left _ _ front) in
    let children : length (others_of form) < 17 = within_limit 17 7 (length (others_of form)) (place_of_form form) (none-right (past 4096 6 n (place_of_form form)) _ front) in
    record { number = number; children = omega arith }

pub few : (n : ℕ) (form : Sexpr) → first (constructor_limits n form) ≡ None → Few n form
few n form h = few_by n form (is_some (symbol_of form)) refl h

-- A constructor is accepted.

pub accepted_by : (a b c : Bool) (e f g : SigError) → a ≡ false → b ≡ true → c ≡ false →
    (if a then Some e else if b then (if c then Some f else None) else Some g) ≡ None
accepted_by true b c e f g p q r = absurd (cc)
accepted_by false false c e f g p q r = absurd (cc)
accepted_by false true true e f g p q r = absurd (cc)
accepted_by false true false e f g p q r = refl

pub accepted : (sig : Declarations) (name : List ℕ) (args : List TypeId) → has (constructor_names sig.constructors) name ≡ false →
    length sig.constructors < 4096 → length args ≤ 16 → constructor_refusal sig name args ≡ None
accepted sig name args free n few =
    let below : nat_lt (length sig.constructors) 4096 ≡ true = grind (arith, nat_tests) in
    let fewer : nat_lt 16 (length args) ≡ false = grind (arith, nat_tests) in
    accepted_by _ _ _ _ _ _ free below fewer

-- the signature `cur` stands for `base` with the types of `sig` and these constructors after its own, of which none has a type past this one
pub record Standing (sig base : Declarations) (owner : ℕ) (before : List Pattern) (n : ℕ) (cur : Declarations) : Type 0 where
  pub types : cur.types ≡ sig.types
  pub names : constructor_names cur.constructors ≡ constructor_names base.constructors ++ map (λ c. c.name.bytes) before
  pub count : n ≡ length cur.constructors
  pub rising : All (λ c. c.owner.0 ≤ owner) cur.constructors

-- the names of constructors, as the pass of names finds them
abbrev pub found_in : Declarations → Declarations → List Pattern → Pattern → List Fault
found_in sig base before con =
    taken_name (constructor_names base.constructors ++ map (λ c. c.name.bytes) before) con.name ++ flat_map (unknown_name sig.types) con.variables

fits_here : (sig base : Declarations) (owner n : ℕ) (before : List Pattern) (cur : Declarations) (form : Sexpr) →
    Standing sig base owner before n cur → owner < length sig.types →
    first (constructor_limits n form) ≡ None → first (found_in sig base before (pattern_of form)) ≡ None →
    ConstructorFits cur (constructor_of sig owner (pattern_of form))
fits_here sig base owner n before cur form s within h k =
    let bounds : Few n form = few n form h in
    let con : Pattern = pattern_of form in
    let args : List TypeId = map (type_named sig) (texts con.variables) in
    let taken : first (taken_name (constructor_names base.constructors ++ map (λ c. c.name.bytes) before) con.name) ≡ None = none-left _ _ k in
    let free : has (constructor_names cur.constructors) con.name.bytes ≡ false = ap (λ names. has names con.name.bytes) s.names ∙ passes _ 21 con.name.place taken in
    let declared : All (IsDeclared (length sig.types)) args =
    all_declared sig con.variables (none-right (taken_name (constructor_names base.constructors ++ map (λ c. c.name.bytes) before) con.name) _ k) in
    let same : length cur.types ≡ length sig.types = ap length s.types in
    let count : length args ≡ length (others_of form) =
    length-map (texts con.variables) (type_named sig) ∙ length-map con.variables (λ (a : Atom). a.bytes) ∙ length-map (others_of form) atom_of in
    let number : length cur.constructors < 4096 = omega (arith, bounds.number, s.count) in
    let children : length args ≤ 16 = omega (arith, bounds.children, count) in
    record {
      accepted = accepted cur con.name.bytes args free number children;
      owner = omega (arith, same, within);
      args = All-weaker (IsDeclared (length sig.types)) (IsDeclared (length cur.types)) (λ t d. let e : t.0 < length sig.types = d in omega (arith, same, e)) args declared;
      rising = s.rising;
    }

stands_more : (sig base : Declarations) (owner n : ℕ) (before : List Pattern) (cur : Declarations) (con : Pattern) →
    Standing sig base owner before n cur →
    Standing sig base owner (before ++ con ∷ []) (n + 1) (with_constructor cur (constructor_of sig owner con))
stands_more sig base owner n before cur con s =
    let made : Constructor = constructor_of sig owner con in
    let names_of_all : (cs : List Constructor) → constructor_names (cs ++ made ∷ []) ≡ constructor_names cs ++ con.name.bytes ∷ [] =
    λ cs. map-append (λ (c : Constructor). c.name) cs (made ∷ []) in
    let self : owner ≤ owner = omega arith in
    record {
      types = s.types;
      names = names_of_all cur.constructors ∙ ap (λ ns. ns ++ con.name.bytes ∷ []) s.names
          ∙ append_assoc (constructor_names base.constructors) (map (λ c. c.name.bytes) before) (con.name.bytes ∷ [])
          ∙ ap (λ ns. constructor_names base.constructors ++ ns) (sym (map-append (λ (c : Pattern). c.name.bytes) before (con ∷ [])));
      count = omega (arith, s.count, length-append cur.constructors (made ∷ []));
      rising = All-push (λ c. c.owner.0 ≤ owner) cur.constructors made s.rising self;
    }

-- what comes after the forms of a group, where they have been added
abbrev pub Goes : Declarations → Declarations → ℕ → List Sexpr → List Constructor → Type 0
Goes sig base owner forms cons =
    (before : List Pattern) (n : ℕ) (cur : Declarations) → Standing sig base owner before n cur →
    first (found_from constructor_limits n forms) ≡ None → first (found_after (found_in sig base) before (map pattern_of forms)) ≡ None →
    ConstructorsFit cur cons

group_goes : (sig base : Declarations) (owner : ℕ) → owner < length sig.types → (rest : List Sexpr) (cons : List Constructor) → Goes sig base owner rest cons →
    (forms : List Sexpr) → Goes sig base owner (forms ++ rest) (map (λ form. constructor_of sig owner (pattern_of form)) forms ++ cons)
group_goes sig base owner within rest cons goes [] = goes
group_goes sig base owner within rest cons goes (form ∷ forms) =
    λ before n cur s h k. (
      fits_here sig base owner n before cur form s within (none-left (constructor_limits n form) _ h) (none-left (found_in sig base before (pattern_of form)) _ k),
      group_goes sig base owner within rest cons goes forms (before ++ pattern_of form ∷ []) (n + 1) _ (stands_more sig base owner n before cur (pattern_of form) s)
          (none-right (constructor_limits n form) _ h) (none-right (found_in sig base before (pattern_of form)) _ k),
    )

stands_later : (sig base : Declarations) (owner n : ℕ) (before : List Pattern) (cur : Declarations) → Standing sig base owner before n cur → Standing sig base (owner + 1) before n cur
stands_later sig base owner n before cur s = record {
  types = s.types;
  names = s.names;
  count = s.count;
  rising = All-weaker (λ c. c.owner.0 ≤ owner) (λ c. c.owner.0 ≤ owner + 1) (λ c l. let e : c.owner.0 ≤ owner = l in omega (arith, e)) cur.constructors s.rising;
}

groups_go : (sig base : Declarations) (groups : List Sexpr) (owner : ℕ) → owner + length groups ≤ length sig.types →
    Goes sig base owner (flat_map parts_of groups) (flat_map (constructors_of sig) (enumerate_from owner groups))
groups_go sig base [] owner few = λ before n cur s h k. tt
groups_go sig base (group ∷ groups) owner few =
    let more : owner + 1 + length groups ≤ length sig.types = omega arith in
    let within : owner < length sig.types = omega arith in
    group_goes sig base owner within (flat_map parts_of groups) (flat_map (constructors_of sig) (enumerate_from (owner + 1) groups))
    (λ before n cur s h k. groups_go sig base groups (owner + 1) more before n cur (stands_later sig base owner n before cur s) h k)
    (parts_of group)

types_few : (n : ℕ) (names : List Atom) → n ≤ 256 → first (found_from type_limits n names) ≡ None → n + length names ≤ 256
types_few n [] most h = omega arith
types_few n (name ∷ names) most h =
    let below : n < 256 = within_limit 256 5 n name.place (none-right (long_name name) _ (none-left (type_limits n name) _ h)) in
    let more : n + 1 + length names ≤ 256 = types_few (n + 1) names (omega arith) (none-right (type_limits n name) _ h) in
    omega arith

-- a command of right shape without faults
pub terms_fit : (sig : Declarations) (form : Sexpr) → IsWellFormed sig → length (items_at 2 form) ≤ length (items_at 1 form) →
    first (types_limits (length sig.types) (length sig.constructors) form) ≡ None → first (types_names sig form) ≡ None → TermsFit sig form
terms_fit sig form fine groups h k =
    let names : List Atom = type_names form in
    let grown : Declarations = with_types sig form in
    let limits : first (found_from type_limits (length sig.types) names) ≡ None = none-left _ _ h in
    let taken : first (found_after (λ before name. taken_name (sig.types ++ texts before ++ sort_names) name) [] names) ≡ None = none-left _ _ k in
    let count : length grown.types ≡ length sig.types + length (items_at 1 form) =
    omega (arith, length-append sig.types (texts names), length-map names (λ (a : Atom). a.bytes), length-map (items_at 1 form) (λ (item : Sexpr). (pair_of item).name)) in
    let few : length sig.types + length names ≤ 256 = types_few (length sig.types) names fine.few_types limits in
    let start : Standing grown sig (length sig.types) [] (length sig.constructors) grown = record {
      types = refl;
      names = sym (append-nil (constructor_names sig.constructors));
      count = refl;
      rising = All-weaker (IsConstructor (length sig.types)) (λ c. c.owner.0 ≤ length sig.types) (λ c made. let e : c.owner.0 < length sig.types = made.owner in omega (arith, e)) sig.constructors fine.constructors;
    } in
    let within : length sig.types + length (items_at 2 form) ≤ length grown.types = omega (arith, count, groups) in
    record {
      types = types_fit sig sig.types [] names (length sig.types) (sym (append-nil sig.types)) refl limits taken;
      constructors = groups_go grown sig (items_at 2 form) (length sig.types) within [] (length sig.constructors) grown start (none-right _ _ h) (none-right _ _ k);
      few = omega (arith, few, groups, length-map (items_at 1 form) (λ (item : Sexpr). (pair_of item).name));
    }

pub types_of_texts : (sig : Declarations) (forms : List Sexpr) → map (λ form. type_named sig (atom_of form).bytes) forms ≡ map (type_named sig) (texts (map atom_of forms))
types_of_texts sig [] = refl
types_of_texts sig (form ∷ forms) = ap (λ ts. type_named sig (atom_of form).bytes ∷ ts) (types_of_texts sig forms)
