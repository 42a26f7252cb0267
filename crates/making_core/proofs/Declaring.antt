-- The relations of functions without faults can be added.
use Rattle.std.proofs.Common.{rules, lit<, ◌≡◌, ◌<◌, ◌≤◌, ℕ, ◌+◌, Bool, true, false, not, ◌||◌, List, [], ◌∷◌, ◌++◌, map, length, Option, Some, None, is_some, All, refl, sym, ap, subst, ◌∙◌, if◌then◌else◌, arith}
use Rattle.std.specs.Prelude.{nat_eq, nat_lt, codes}
use Rattle.std.specs.List.{flat_map}
use Rattle.std.specs.Cmp.Lexicographic.{bytes_decides}
use Rattle.std.proofs.lemmas.Bool.{eqb-true, not-false, or_parts}
use Rattle.std.proofs.lemmas.Bool.Decides.{nat_tests}
use Rattle.std.proofs.lemmas.List.{append-nil, append_assoc, length-append, length-map, map-append}
use Rattle.std.proofs.lemmas.List.Elements.{All-cons, All-nil}
use Rattle.sig_core.specs.declared.ids.TypeId.{TypeId}
use Rattle.sig_core.specs.declared.signature.Kind.{Kind}
use Rattle.sig_core.specs.declared.signature.Kind.TheVariants.{Term, Input, Output}
use Rattle.sig_core.specs.declared.value.Sort.{Sort}
use Rattle.sig_core.specs.declared.signature.Param.{Param}
use Rattle.sig_core.specs.declared.signature.Relation.{Relation}
use Rattle.sig_core.specs.Names.{AreDistinct, is_reserved, place_of, same_name}
use Rattle.sig_core.specs.Refusals.{with_relation}
use Rattle.sig_core.specs.Signatures.{Declarations}
use Rattle.sig_core.specs.WellFormed.{IsRelation, names_of_params, relation_names, term_types}
use Rattle.sig_core.proofs.NameLemmas.{AreDistinct-push}
use Rattle.sexpr_core.specs.declared.form.Atom.{Atom}
use Rattle.syntax_core.specs.declared.syntax.Declaration.{Declaration}
use Rattle.syntax_core.specs.declared.syntax.Function.{Function}
use Rattle.syntax_core.specs.declared.syntax.Pair.{Pair}
use Rattle.name_core.specs.Faults.{first, found_after, found_from, past}
use Rattle.making_core.specs.Fitting.{RelationFits, RelationsFit}
use Rattle.name_core.specs.Limits.{declaration_limits, long_name, pair_limits, pairs_limits}
use Rattle.name_core.specs.Names.{declaration_names, function_names, has, is_plain, is_sort, names_in, parameter_names, sort_names, term_pairs, texts, unfit_name, unknown_name}
use Rattle.sort_core.specs.Opens.{number_named}
use Rattle.sort_core.specs.Relations.{param_of, relation_of, sort_named, type_named}
use Rattle.sort_core.specs.Sorts.{declaration_faults}
use Rattle.making_core.proofs.Fits.{both_false, has-append, none-left, none-right, passes, stands_among, within_limit}
use Rattle.making_core.proofs.Terms.{accepted_by, number_within}

-- The parameters.

no_place : (o : Option ℕ) → is_some o ≡ false → o ≡ None
no_place None h = refl
no_place (Some n) h = absurd (cc)

names_of_all : (sig : Declarations) (inputs : List Atom) (pairs : List Pair) → names_of_params (map (param_of sig inputs) pairs) ≡ names_in pairs
names_of_all sig inputs [] = refl
names_of_all sig inputs (pair ∷ pairs) = ap (λ ns. pair.name.bytes ∷ ns) (names_of_all sig inputs pairs)

unfit_free : (taken : List (List ℕ)) (name : Atom) → first (unfit_name taken name) ≡ None → (has taken name.bytes ≡ false) × (is_reserved name.bytes ≡ false)
unfit_free taken name h = or_parts (has taken name.bytes) (is_reserved name.bytes) (passes (has taken name.bytes || is_reserved name.bytes) 21 name.place h)

distinct_from : (sig : Declarations) (before pairs : List Pair) → AreDistinct (names_in before) → first (found_after (parameter_names sig) before pairs) ≡ None → AreDistinct (names_in (before ++ pairs))
distinct_from sig before [] d h = subst (λ ps. AreDistinct (names_in ps)) (sym (append-nil before)) d
distinct_from sig before (pair ∷ pairs) d h =
    let here : first (parameter_names sig before pair) ≡ None = none-left (parameter_names sig before pair) _ h in
    let free : (has (names_in before) pair.name.bytes ≡ false) × (is_reserved pair.name.bytes ≡ false) = unfit_free (names_in before) pair.name (none-left (unfit_name (names_in before) pair.name) _ here) in
    let more : AreDistinct (names_in before ++ pair.name.bytes ∷ []) = AreDistinct-push (names_in before) pair.name.bytes (no_place (place_of (names_in before) pair.name.bytes) free.0) d in
    let now : AreDistinct (names_in (before ++ pair ∷ [])) = subst AreDistinct (sym (map-append (λ (p : Pair). p.name.bytes) before (pair ∷ []))) more in
    subst (λ ps. AreDistinct (names_in ps)) (append_assoc before (pair ∷ []) pairs) (distinct_from sig (before ++ pair ∷ []) pairs now (none-right (parameter_names sig before pair) _ h))

free_from : (sig : Declarations) (before pairs : List Pair) → first (found_after (parameter_names sig) before pairs) ≡ None → All (λ name. is_reserved name ≡ false) (names_in pairs)
free_from sig before [] h = All-nil _
free_from sig before (pair ∷ pairs) h =
    let here : first (parameter_names sig before pair) ≡ None = none-left (parameter_names sig before pair) _ h in
    All-cons (λ name. is_reserved name ≡ false) pair.name.bytes (names_in pairs)
    (unfit_free (names_in before) pair.name (none-left (unfit_name (names_in before) pair.name) _ here)).1
    (free_from sig (before ++ pair ∷ []) pairs (none-right (parameter_names sig before pair) _ h))

few_pairs : (most limit n : ℕ) (pairs : List Pair) → n ≤ most → first (pairs_limits most limit n pairs) ≡ None → n + length pairs ≤ most
few_pairs most limit n [] le h = omega arith
few_pairs most limit n (pair ∷ pairs) le h =
    let below : n < most = within_limit most limit n pair.place (none-left (past most limit n pair.place) (long_name pair.name) (none-left (pair_limits most limit n pair) _ h)) in
    let more : n + 1 + length pairs ≤ most = few_pairs most limit (n + 1) pairs (omega arith) (none-right (pair_limits most limit n pair) _ h) in
    omega arith

-- The one parameter that is a term.

no_term : (b : Bool) (s : Sort) (kinds : List Kind) → term_types ((if b then Input s else Output s) ∷ kinds) ≡ term_types kinds
no_term true s kinds = refl
no_term false s kinds = refl

types_by : (b i : Bool) (s : Sort) (t : TypeId) (kinds : List Kind) →
    term_types ((if b then (if i then Input s else Output s) else Term t) ∷ kinds) ≡ (if b then term_types kinds else t ∷ term_types kinds)
types_by true i s t kinds = no_term i s kinds
types_by false i s t kinds = refl

listed_by : (f : Pair → TypeId) (b : Bool) (pair : Pair) (pairs : List Pair) → (if b then map f pairs else f pair ∷ map f pairs) ≡ map f (if not b then pair ∷ pairs else pairs)
listed_by f true pair pairs = refl
listed_by f false pair pairs = refl

types_of_terms : (sig : Declarations) (inputs : List Atom) (pairs : List Pair) →
    term_types (map (λ (p : Param). p.kind) (map (param_of sig inputs) pairs)) ≡ map (λ (p : Pair). type_named sig p.sort.bytes) (term_pairs pairs)
types_of_terms sig inputs [] = refl
types_of_terms sig inputs (pair ∷ pairs) =
    let f : Pair → TypeId = λ p. type_named sig p.sort.bytes in
    types_by (is_plain pair) (has (texts inputs) pair.name.bytes) (sort_named pair.sort.bytes) (f pair) _
    ∙ ap (λ ts. if is_plain pair then ts else f pair ∷ ts) (types_of_terms sig inputs pairs)
    ∙ listed_by f (is_plain pair) pair (term_pairs pairs)

same_by : (a b : List ℕ) (v : Bool) → same_name b a ≡ v → same_name a b ≡ false → v ≡ false
same_by a b true e h = let other : same_name a b ≡ true = (bytes_decides a b).1 (sym ((bytes_decides b a).0 e)) in absurd (cc)
same_by a b false e h = refl

other_way : (a b : List ℕ) → same_name a b ≡ false → same_name b a ≡ false
other_way a b h = same_by a b (same_name b a) refl h

neither_sort : (a b : Bool) → a ≡ false → b ≡ false → (a || (b || false)) ≡ false
neither_sort true b p q = absurd (cc)
neither_sort false true p q = absurd (cc)
neither_sort false false p q = refl

no_sort : (name : List ℕ) → is_sort name ≡ false → has sort_names name ≡ false
no_sort name h =
    let apart : (same_name (codes "Int") name ≡ false) × (same_name (codes "Bool") name ≡ false) = or_parts (same_name (codes "Int") name) (same_name (codes "Bool") name) h in
    stands_among (same_name name) sort_names ∙ neither_sort (same_name name (codes "Int")) (same_name name (codes "Bool")) (other_way (codes "Int") name apart.0) (other_way (codes "Bool") name apart.1)

first_of : (a b : Bool) → not (a || b) ≡ false → b ≡ false → not a ≡ false
first_of true b h k = refl
first_of false true h k = absurd (cc)
first_of false false h k = absurd (cc)

-- the type of a parameter is declared
abbrev pub HasType : Declarations → Pair → Type 0
HasType sig pair = number_named sig.types pair.sort.bytes < length sig.types

declared_by : (sig : Declarations) (pair : Pair) (pairs : List Pair) (plain : Bool) → is_plain pair ≡ plain → not (has (sig.types ++ sort_names) pair.sort.bytes) ≡ false →
    All (HasType sig) (term_pairs pairs) → All (HasType sig) (if not plain then pair ∷ term_pairs pairs else term_pairs pairs)
declared_by sig pair pairs true e known rest = rest
declared_by sig pair pairs false e known rest =
    let here : not (has sig.types pair.sort.bytes) ≡ false =
    first_of (has sig.types pair.sort.bytes) (has sort_names pair.sort.bytes) (ap not (sym (has-append sig.types sort_names pair.sort.bytes)) ∙ known) (no_sort pair.sort.bytes e) in
    All-cons (HasType sig) pair (term_pairs pairs) (number_within sig.types pair.sort.bytes here) rest

-- the type of each parameter that is a term is declared
terms_declared : (sig : Declarations) (before pairs : List Pair) → first (found_after (parameter_names sig) before pairs) ≡ None → All (HasType sig) (term_pairs pairs)
terms_declared sig before [] h = All-nil _
terms_declared sig before (pair ∷ pairs) h =
    let rest : All (HasType sig) (term_pairs pairs) = terms_declared sig (before ++ pair ∷ []) pairs (none-right (parameter_names sig before pair) _ h) in
    let here : first (parameter_names sig before pair) ≡ None = none-left (parameter_names sig before pair) _ h in
    let known : not (has (sig.types ++ sort_names) pair.sort.bytes) ≡ false =
    passes (not (has (sig.types ++ sort_names) pair.sort.bytes)) 20 pair.sort.place (none-right (unfit_name (names_in before) pair.name) (unknown_name (sig.types ++ sort_names) pair.sort) here) in
    declared_by sig pair pairs (is_plain pair) refl known rest

-- Relations.

none_distinct : AreDistinct []
none_distinct = search rules

below : (n most : ℕ) → n < most → nat_lt n most ≡ true
below n most h = grind (arith, nat_tests)

not_below : (n : ℕ) → n ≤ 32 → nat_lt 32 n ≡ false
not_below n h = grind (arith, nat_tests)

single : (pairs : List Pair) → length pairs ≡ 1 → (pair : Pair) × (pairs ≡ pair ∷ [])
single [] h = absurd (omega arith)
single (pair ∷ []) h = (pair, refl)
single (pair ∷ other ∷ pairs) h = absurd (omega arith)

relation_fine : (sig base : Declarations) (f : Function) → sig.types ≡ base.types → first (found_after (parameter_names base) [] f.declaration.params) ≡ None → first (declaration_faults f) ≡ None →
    IsRelation (length sig.types) (relation_of base f)
relation_fine sig base f same names faults =
    let pairs : List Pair = f.declaration.params in
    let inputs : List Atom = f.definition.inputs in
    let count : length (term_pairs pairs) ≡ 1 = eqb-true (length (term_pairs pairs)) 1 (not-false _ (passes (not (nat_eq (length (term_pairs pairs)) 1)) 30 f.declaration.place faults)) in
    let one = single (term_pairs pairs) count in
    let type : TypeId = type_named base one.0.sort.bytes in
    let all : All (HasType base) (one.0 ∷ []) = subst (All (HasType base)) one.1 (terms_declared base [] pairs names) in
    let within : number_named base.types one.0.sort.bytes < length base.types = all 0 one.0 (lit< tt) in
    let as_many : length sig.types ≡ length base.types = ap length same in
    record {
      term = type;
      one_term = types_of_terms base inputs pairs ∙ ap (map (λ (p : Pair). type_named base p.sort.bytes)) one.1;
      declared = omega (arith, within, as_many);
      distinct = subst AreDistinct (sym (names_of_all base inputs pairs)) (distinct_from base [] pairs none_distinct names);
      free = subst (All (λ name. is_reserved name ≡ false)) (sym (names_of_all base inputs pairs)) (free_from base [] pairs names);
    }

relation_fits : (sig base : Declarations) (before : List Function) (n : ℕ) (f : Function) → sig.types ≡ base.types →
    relation_names sig.relations ≡ relation_names base.relations ++ function_names before → n ≡ length sig.relations →
    first (declaration_limits n f.declaration) ≡ None → first (declaration_names base before f) ≡ None → first (declaration_faults f) ≡ None →
    RelationFits sig (relation_of base f)
relation_fits sig base before n f same stand count limits names faults =
    let d : Declaration = f.declaration in
    let front : first (past 256 8 n d.place ++ long_name d.name) ≡ None = none-left _ (pairs_limits 32 9 0 d.params) limits in
    let number : n < 256 = within_limit 256 8 n d.place (none-left (past 256 8 n d.place) (long_name d.name) front) in
    let params : 0 + length d.params ≤ 32 = few_pairs 32 9 0 d.params (omega arith) (none-right (past 256 8 n d.place ++ long_name d.name) _ limits) in
    let fit : (has (relation_names base.relations ++ function_names before) d.name.bytes ≡ false) × (is_reserved d.name.bytes ≡ false) =
    unfit_free (relation_names base.relations ++ function_names before) d.name (none-left (unfit_name (relation_names base.relations ++ function_names before) d.name) _ names) in
    let taken : has (relation_names sig.relations) d.name.bytes ≡ false = ap (λ ns. has ns d.name.bytes) stand ∙ fit.0 in
    let made : length (map (param_of base f.definition.inputs) d.params) ≡ length d.params = length-map d.params (param_of base f.definition.inputs) in
    let few : nat_lt (length sig.relations) 256 ≡ true = ap (λ k. nat_lt k 256) (sym count) ∙ below n 256 number in
    let fewer : nat_lt 32 (length (map (param_of base f.definition.inputs) d.params)) ≡ false = ap (λ k. nat_lt 32 k) made ∙ not_below (length d.params) (omega (arith, params)) in
    record {
      accepted = accepted_by _ _ _ _ _ _ (both_false (has (relation_names sig.relations) d.name.bytes) (is_reserved d.name.bytes) taken fit.1) few fewer;
      fine = relation_fine sig base f same (none-right (unfit_name (relation_names base.relations ++ function_names before) d.name) _ names) faults;
    }

-- functions without faults, after these
pub relations_fit : (sig base : Declarations) (before functions : List Function) (n : ℕ) → sig.types ≡ base.types →
    relation_names sig.relations ≡ relation_names base.relations ++ function_names before → n ≡ length sig.relations →
    first (found_from (λ k f. declaration_limits k f.declaration) n functions) ≡ None → first (found_after (declaration_names base) before functions) ≡ None →
    first (flat_map declaration_faults functions) ≡ None → RelationsFit sig (map (relation_of base) functions)
relations_fit sig base before [] n same stand count limits names faults = tt
relations_fit sig base before (f ∷ fs) n same stand count limits names faults =
    let made : Relation = relation_of base f in
    let longer : n + 1 ≡ length (sig.relations ++ made ∷ []) = omega (arith, count, length-append sig.relations (made ∷ [])) in
    let more : relation_names (sig.relations ++ made ∷ []) ≡ relation_names base.relations ++ function_names (before ++ f ∷ []) =
    map-append (λ (r : Relation). r.name) sig.relations (made ∷ []) ∙ ap (λ ns. ns ++ f.declaration.name.bytes ∷ []) stand
    ∙ append_assoc (relation_names base.relations) (function_names before) (f.declaration.name.bytes ∷ [])
    ∙ ap (λ ns. relation_names base.relations ++ ns) (sym (map-append (λ (g : Function). g.declaration.name.bytes) before (f ∷ []))) in (
      relation_fits sig base before n f same stand count (none-left (declaration_limits n f.declaration) _ limits) (none-left (declaration_names base before f) _ names) (none-left (declaration_faults f) _ faults),
      relations_fit (with_relation sig made) base (before ++ f ∷ []) fs (n + 1) same more longer
          (none-right (declaration_limits n f.declaration) _ limits) (none-right (declaration_names base before f) _ names) (none-right (declaration_faults f) _ faults),
    )
