-- The productions of a command without faults fit the types of its nonterminals.
use Rattle.std.proofs.Common.{◌≡◌, ◌<◌, ℕ, zero, suc, ◌+◌, Bool, true, false, not, cond, ◌&&◌, List, [], ◌∷◌, map, length, get_or, slice_get, Option, Some, None, is_some, unwrap_or, All, refl, sym, ap, ◌∙◌, arith}
use Rattle.std.specs.Prelude.{nat_eq, nat_lt, option_map}
use Rattle.std.specs.List.{find, flat_map, position_or_len, zip}
use Rattle.std.specs.Cmp.Lexicographic.{bytes_decides}
use Rattle.std.proofs.lemmas.Bool.{not-false}
use Rattle.std.proofs.lemmas.Bool.Decides.{nat_tests}
use Rattle.std.proofs.lemmas.List.{length-map}
use Rattle.std.proofs.lemmas.List.Elements.{All-cons, All-head, All-map, All-nil, All-tail, All-weaker}
use lib.Pointwise.{pointwise}
use Rattle.sig_core.specs.declared.ids.TypeId.{TypeId}
use Rattle.sig_core.specs.declared.signature.Constructor.{Constructor}
use Rattle.sig_core.specs.Names.{same_name}
use Rattle.sig_core.specs.Signatures.{Declarations}
use Rattle.sig_core.specs.WellFormed.{IsDeclared, constructor_names}
use Rattle.sexpr_core.specs.declared.form.Sexpr.{Sexpr}
use Rattle.sexpr_core.specs.Access as access
use Rattle.sexpr_core.specs.Access.{others_of}
use Rattle.syntax_core.specs.declared.syntax.Pair.{Pair}
use Rattle.syntax_core.specs.Syntax.{atom_of, items_at, name_of}
use Rattle.rule_core.specs.Flow as flow
use Rattle.grammar_core.specs.declared.ids.NtId.{NtId}
use Rattle.grammar_core.specs.declared.production.Nonterminal.{Nonterminal}
use Rattle.grammar_core.specs.declared.production.Production.{Production}
use Rattle.grammar_core.specs.Grammars.{blank, nonterminal_at}
use Rattle.grammar_core.specs.Refusals.{makes, same_type}
use Rattle.name_core.specs.Faults.{bad_if, first, found_from}
use Rattle.name_core.specs.Names.{has, names_in}
use Rattle.name_core.proofs.NameFacts.{GroupNamed, ProductionNamed}
use Rattle.name_core.proofs.Nones.{all_none}
use Rattle.sort_core.specs.Opens.{number_named}
use Rattle.sort_core.specs.Relations.{sort_of_pair, type_named}
use Rattle.sort_core.specs.Sorts.{constructor_at, group_faults, makes as makes_of_count, production_argument, production_faults}
use Rattle.sort_core.proofs.TermTypes.{Made, made_by}
use Rattle.making_core.specs.Making.{production_of}
use Rattle.making_core.proofs.Filled.{group_productions}
use Rattle.making_core.proofs.Fits.{none-left, none-right, passes}
use Rattle.making_core.proofs.Terms.{number_within}

both_true : (a b : Bool) → a ≡ true → b ≡ true → (a && b) ≡ true
both_true true b p q = q
both_true false b p q = absurd (cc)

-- The types of nonterminals.

abbrev pub no_type : TypeId
no_type = record { 0 = 0 }

abbrev pub owners_of : List Nonterminal → List TypeId
owners_of grammar = map (λ n. n.owner) grammar

pub owner_at : (grammar : List Nonterminal) (k : ℕ) → (get_or grammar k blank).owner ≡ get_or (owners_of grammar) k no_type
owner_at [] k = refl
owner_at (n ∷ grammar) zero = refl
owner_at (n ∷ grammar) (suc k) = owner_at grammar k

-- the constructor makes terms of this type, from children of these of the nonterminals' types
abbrev pub makes_over : List TypeId → TypeId → List NtId → Option Constructor → Bool
makes_over owners owner args None = false
makes_over owners owner args (Some c) = same_type c.owner owner && pointwise (λ t n. same_type t (get_or owners n.0 no_type)) c.args args

args_same : (grammar : List Nonterminal) (types : List TypeId) (args : List NtId) →
    pointwise (λ t n. same_type t (nonterminal_at grammar n).owner) types args ≡ pointwise (λ t n. same_type t (get_or (owners_of grammar) n.0 no_type)) types args
args_same grammar [] [] = refl
args_same grammar [] (n ∷ args) = refl
args_same grammar (t ∷ types) [] = refl
args_same grammar (t ∷ types) (n ∷ args) =
    ap (λ u. same_type t u && pointwise (λ t n. same_type t (nonterminal_at grammar n).owner) types args) (owner_at grammar n.0)
    ∙ ap (λ b. same_type t (get_or (owners_of grammar) n.0 no_type) && b) (args_same grammar types args)

pub makes_same : (grammar : List Nonterminal) (owner : TypeId) (args : List NtId) (con : Option Constructor) → makes grammar owner args con ≡ makes_over (owners_of grammar) owner args con
makes_same grammar owner args None = refl
makes_same grammar owner args (Some c) = ap (λ b. same_type c.owner owner && b) (args_same grammar c.args args)

-- a production of a nonterminal of this type, where these are the types of all nonterminals
pub record IsMade (sig : Declarations) (owners : List TypeId) (owner : TypeId) (p : Production) : Type 0 where
  pub con : p.con.0 < length sig.constructors
  pub args : All (λ n. n.0 < length owners) p.args
  pub makes : makes_over owners owner p.args (slice_get sig.constructors p.con.0) ≡ true

-- The type of the nonterminal with a name.

abbrev pub types_of : Declarations → List Pair → List TypeId
types_of sig pairs = map (λ pair. type_named sig pair.sort.bytes) pairs

alike_by : (a b : List ℕ) (v w : Bool) → same_name a b ≡ v → same_name b a ≡ w → v ≡ w
alike_by a b true true e f = refl
alike_by a b false false e f = refl
alike_by a b true false e f = let other : same_name b a ≡ true = (bytes_decides b a).1 (sym ((bytes_decides a b).0 e)) in absurd (cc)
alike_by a b false true e f = let other : same_name a b ≡ true = (bytes_decides a b).1 (sym ((bytes_decides b a).0 f)) in absurd (cc)

alike : (a b : List ℕ) → same_name a b ≡ same_name b a
alike a b = alike_by a b (same_name a b) (same_name b a) refl refl

number_by : (b : Bool) (n count : ℕ) → is_some (cond b (Some n) None) ≡ true → unwrap_or (cond b (Some n) None) count ≡ n
number_by true n count h = refl
number_by false n count h = absurd (cc)

below_by : (n count : ℕ) (b : Bool) → nat_lt n count ≡ b → is_some (cond b (Some n) None) ≡ true → n < count
below_by n count true e h = grind (arith, nat_tests)
below_by n count false e h = absurd (cc)

type_by : (sig : Declarations) (pair : Pair) (pairs : List Pair) (name : List ℕ) (b : Bool) (n : ℕ) → cond (not b) (1 + n) 0 < suc (length pairs) →
    (n < length pairs → option_map (λ text. type_named sig text) (sort_of_pair pairs name) ≡ Some (get_or (types_of sig pairs) n no_type)) →
    option_map (λ text. type_named sig text) (option_map (λ (p : Pair). p.sort.bytes) (cond b (Some pair) (find (λ (p : Pair). same_name p.name.bytes name) pairs)))
    ≡ Some (get_or (types_of sig (pair ∷ pairs)) (cond (not b) (1 + n) 0) no_type)
type_by sig pair pairs name true n within rest = refl
type_by sig pair pairs name false n within rest =
    let below : n < length pairs = omega arith in
    let next : suc n ≡ 1 + n = omega arith in
    rest below ∙ ap (λ k. Some (get_or (types_of sig (pair ∷ pairs)) k no_type)) next

type_from : (sig : Declarations) (pairs : List Pair) (name : List ℕ) → position_or_len (same_name name) (names_in pairs) < length pairs →
    option_map (λ text. type_named sig text) (sort_of_pair pairs name) ≡ Some (get_or (types_of sig pairs) (position_or_len (same_name name) (names_in pairs)) no_type)
type_from sig [] name within = absurd (omega arith)
type_from sig (pair ∷ pairs) name within =
    ap (λ b. option_map (λ text. type_named sig text) (option_map (λ (p : Pair). p.sort.bytes) (cond b (Some pair) (find (λ (p : Pair). same_name p.name.bytes name) pairs)))) (alike pair.name.bytes name)
    ∙ type_by sig pair pairs name (same_name name pair.name.bytes) (position_or_len (same_name name) (names_in pairs)) within (type_from sig pairs name)

pub type_at : (sig : Declarations) (pairs : List Pair) (name : List ℕ) → has (names_in pairs) name ≡ true →
    option_map (λ text. type_named sig text) (sort_of_pair pairs name) ≡ Some (get_or (types_of sig pairs) (number_named (names_in pairs) name) no_type)
type_at sig pairs name h =
    let n : ℕ = position_or_len (same_name name) (names_in pairs) in
    let count : length (names_in pairs) ≡ length pairs = length-map pairs (λ (p : Pair). p.name.bytes) in
    let inside : n < length (names_in pairs) = below_by n (length (names_in pairs)) (nat_lt n (length (names_in pairs))) refl h in
    let below : n < length pairs = omega (arith, count, inside) in
    let is : number_named (names_in pairs) name ≡ n = number_by (nat_lt n (length (names_in pairs))) n (length (names_in pairs)) h in
    type_from sig pairs name below ∙ ap (λ k. Some (get_or (types_of sig pairs) k no_type)) (sym is)

-- The arguments of a production.

-- the types are those of `all` from number k on
abbrev AreFrom : List TypeId → ℕ → List TypeId → Type 0
AreFrom all k types = (j : ℕ) → slice_get all (k + j) ≡ slice_get types j

turned : (m n : ℕ) → nat_eq m n ≡ true → nat_eq n m ≡ true
turned m n h = grind (arith, nat_tests)

abbrev child : List Pair → Sexpr → NtId
child pairs form = record { 0 = number_named (names_in pairs) (atom_of form).bytes }

argument_fits : (sig : Declarations) (pairs : List Pair) (c : Constructor) (k : ℕ) (t : TypeId) (form : Sexpr) → slice_get c.args k ≡ Some t → has (names_in pairs) (atom_of form).bytes ≡ true →
    first (production_argument sig pairs (Some c) k form) ≡ None → same_type t (get_or (types_of sig pairs) (child pairs form).0 no_type) ≡ true
argument_fits sig pairs c k t form at named h =
    let name : List ℕ = (atom_of form).bytes in
    let u : TypeId = get_or (types_of sig pairs) (number_named (names_in pairs) name) no_type in
    let same : flow.same_type (option_map (λ text. type_named sig text) (sort_of_pair pairs name)) (slice_get c.args k) ≡ true = not-false _ (passes _ 30 (access.place_of form) h) in
    let one : flow.same_type (Some u) (slice_get c.args k) ≡ true = sym (ap (λ o. flow.same_type o (slice_get c.args k)) (type_at sig pairs name named)) ∙ same in
    let two : nat_eq u.0 t.0 ≡ true = sym (ap (flow.same_type (Some u)) at) ∙ one in
    turned u.0 t.0 two

args_fit : (sig : Declarations) (pairs : List Pair) (c : Constructor) (k : ℕ) (types : List TypeId) (forms : List Sexpr) → AreFrom c.args k types → length types ≡ length forms →
    All (λ form. has (names_in pairs) (atom_of form).bytes ≡ true) forms → first (found_from (production_argument sig pairs (Some c)) k forms) ≡ None →
    pointwise (λ t n. same_type t (get_or (types_of sig pairs) n.0 no_type)) types (map (child pairs) forms) ≡ true
args_fit sig pairs c k [] [] from count named h = refl
args_fit sig pairs c k [] (form ∷ forms) from count named h = absurd (omega arith)
args_fit sig pairs c k (t ∷ types) [] from count named h = absurd (omega arith)
args_fit sig pairs c k (t ∷ types) (form ∷ forms) from count named h =
    let P : Sexpr → Type 0 = λ form. has (names_in pairs) (atom_of form).bytes ≡ true in
    let zeroth : k ≡ k + 0 = omega arith in
    let fewer : length types ≡ length forms = omega arith in
    let later : AreFrom c.args (k + 1) types = λ j. let e : k + 1 + j ≡ k + suc j = omega arith in ap (slice_get c.args) e ∙ from (suc j) in
    both_true (same_type t (get_or (types_of sig pairs) (child pairs form).0 no_type)) (pointwise (λ t n. same_type t (get_or (types_of sig pairs) n.0 no_type)) types (map (child pairs) forms))
    (argument_fits sig pairs c k t form (ap (slice_get c.args) zeroth ∙ from 0) (All-head P form forms named) (none-left (production_argument sig pairs (Some c) k form) _ h))
    (args_fit sig pairs c (k + 1) types forms later fewer (All-tail P form forms named) (none-right (production_argument sig pairs (Some c) k form) _ h))

same_owner : (t u : TypeId) → t ≡ u → same_type t u ≡ true
same_owner t u e = let same : t.0 ≡ u.0 = ap (λ (v : TypeId). v.0) e in grind (arith, nat_tests)

made_from : (sig : Declarations) (pairs : List Pair) (type : TypeId) (forms : List Sexpr) (con : Option Constructor) → Made type (length forms) con →
    All (λ form. has (names_in pairs) (atom_of form).bytes ≡ true) forms → first (found_from (production_argument sig pairs con) 0 forms) ≡ None →
    makes_over (types_of sig pairs) type (map (child pairs) forms) con ≡ true
made_from sig pairs type forms con m named h =
    let c : Constructor = m.found in
    let start : AreFrom c.args 0 c.args = λ j. let e : 0 + j ≡ j = omega arith in ap (slice_get c.args) e in
    let fits : pointwise (λ t n. same_type t (get_or (types_of sig pairs) n.0 no_type)) c.args (map (child pairs) forms) ≡ true =
    args_fit sig pairs c 0 c.args forms start m.same_count named (sym (ap (λ o. first (found_from (production_argument sig pairs o) 0 forms)) m.is) ∙ h) in
    ap (makes_over (types_of sig pairs) type (map (child pairs) forms)) m.is ∙ both_true (same_type c.owner type) _ (same_owner c.owner type m.same_owner) fits

known_number : (names : List (List ℕ)) (name : List ℕ) → has names name ≡ true → number_named names name < length names
known_number names name h = number_within names name (ap not h)

pub production_made : (sig : Declarations) (pairs : List Pair) (type : TypeId) (form : Sexpr) → ProductionNamed (names_in pairs) (constructor_names sig.constructors) form →
    first (production_faults sig pairs type form) ≡ None → IsMade sig (types_of sig pairs) type (production_of sig (names_in pairs) form)
production_made sig pairs type form named h =
    let name : List ℕ = (name_of form).bytes in
    let forms : List Sexpr = others_of form in
    let inside : number_named (constructor_names sig.constructors) name < length (constructor_names sig.constructors) = known_number (constructor_names sig.constructors) name named.known in
    let count : length (constructor_names sig.constructors) ≡ length sig.constructors = length-map sig.constructors (λ (c : Constructor). c.name) in
    let many : length (names_in pairs) ≡ length (types_of sig pairs) = length-map pairs (λ (p : Pair). p.name.bytes) ∙ sym (length-map pairs (λ (p : Pair). type_named sig p.sort.bytes)) in
    let test : Bool = not (makes_of_count type (length forms) (constructor_at sig name)) in
    let made : Made type (length forms) (constructor_at sig name) = made_by type (length forms) (constructor_at sig name) (not-false _ (passes test 30 (access.place_of form) (none-left (bad_if test 30 (access.place_of form)) _ h))) in
    record {
      con = omega (arith, inside, count);
      args = All-map (λ (n : NtId). n.0 < length (types_of sig pairs)) (child pairs) forms
          (All-weaker (λ form. has (names_in pairs) (atom_of form).bytes ≡ true) (λ form. (child pairs form).0 < length (types_of sig pairs))
          (λ form k. let below : number_named (names_in pairs) (atom_of form).bytes < length (names_in pairs) = known_number (names_in pairs) (atom_of form).bytes k in omega (arith, below, many)) forms named.args);
      makes = made_from sig pairs type forms (constructor_at sig name) made named.args (none-right (bad_if test 30 (access.place_of form)) _ h);
    }

-- Groups.

-- a nonterminal of a declared type, and a group of productions that make it
pub record IsMadeGroup (sig : Declarations) (pairs : List Pair) (group : Pair × Sexpr) : Type 0 where
  pub declared : IsDeclared (length sig.types) (type_named sig group.0.sort.bytes)
  pub productions : All (IsMade sig (types_of sig pairs) (type_named sig group.0.sort.bytes)) (group_productions sig (names_in pairs) group.1)

pub group_made : (sig : Declarations) (pairs : List Pair) (group : Pair × Sexpr) → has sig.types group.0.sort.bytes ≡ true → GroupNamed sig (names_in pairs) group →
    first (group_faults sig pairs group) ≡ None → IsMadeGroup sig pairs group
group_made sig pairs (pair, group) known named h =
    let type : TypeId = type_named sig pair.sort.bytes in
    let forms : List Sexpr = items_at 2 group in
    let clean : All (λ form. first (production_faults sig pairs type form) ≡ None) forms = all_none (production_faults sig pairs type) (λ form. first (production_faults sig pairs type form) ≡ None) (λ form e. e) forms (none-right _ _ h) in
    record {
      declared = known_number sig.types pair.sort.bytes known;
      productions = All-map (IsMade sig (types_of sig pairs) type) (production_of sig (names_in pairs)) forms
          (λ i d within. production_made sig pairs type (get_or forms i d) (named.productions i d within) (clean i d within));
    }

zip_left : {X Y : Type 0} (P : X → Type 0) (xs : List X) (ys : List Y) → All P xs → All (λ (z : X × Y). P z.0) (zip xs ys)
zip_left {X} {Y} P [] ys all = All-nil (λ (z : X × Y). P z.0)
zip_left {X} {Y} P (x ∷ xs) [] all = All-nil (λ (z : X × Y). P z.0)
zip_left {X} {Y} P (x ∷ xs) (y ∷ ys) all = All-cons (λ (z : X × Y). P z.0) (x, y) (zip xs ys) (All-head P x xs all) (zip_left P xs ys (All-tail P x xs all))

pub groups_made : (sig : Declarations) (pairs : List Pair) (groups : List Sexpr) → All (λ pair. has sig.types pair.sort.bytes ≡ true) pairs →
    All (GroupNamed sig (names_in pairs)) (zip pairs groups) → first (flat_map (group_faults sig pairs) (zip pairs groups)) ≡ None → All (IsMadeGroup sig pairs) (zip pairs groups)
groups_made sig pairs groups types named h =
    let zs : List (Pair × Sexpr) = zip pairs groups in
    let known : All (λ (z : Pair × Sexpr). has sig.types z.0.sort.bytes ≡ true) zs = zip_left (λ (p : Pair). has sig.types p.sort.bytes ≡ true) pairs groups types in
    let clean : All (λ z. first (group_faults sig pairs z) ≡ None) zs = all_none (group_faults sig pairs) (λ z. first (group_faults sig pairs z) ≡ None) (λ z e. e) zs h in
    λ i d within. group_made sig pairs (get_or zs i d) (known i d within) (named i d within) (clean i d within)
