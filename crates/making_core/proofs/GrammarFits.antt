-- The grammar of a command without faults can be made, item by item.
use Rattle.std.proofs.Common.{◌≡◌, ◌<◌, ◌≤◌, ℕ, ◌+◌, Bool, true, false, List, [], ◌∷◌, ◌++◌, map, length, get_or, set, Some, None, All, refl, sym, ap, ◌∙◌, if◌then◌else◌, arith}
use Rattle.std.specs.Prelude.{nat_lt, slice_get}
use Rattle.std.specs.List.{flat_map, zip}
use Rattle.std.proofs.lemmas.Bool.{or_parts}
use Rattle.std.proofs.lemmas.Bool.Decides.{nat_tests}
use Rattle.std.proofs.lemmas.List.{append_assoc, get_or-map, length-append, length-map, map-append, map-set, set-get_or}
use Rattle.std.proofs.lemmas.List.Elements.{All-head, All-tail, All-weaker}
use Rattle.sig_core.specs.declared.ids.TypeId.{TypeId}
use Rattle.sig_core.specs.Signatures.{Declarations}
use Rattle.sig_core.specs.WellFormed.{constructor_names}
use Rattle.sexpr_core.specs.declared.form.Sexpr.{Sexpr}
use Rattle.syntax_core.specs.declared.syntax.Pair.{Pair}
use Rattle.syntax_core.specs.Syntax.{items_at}
use Rattle.grammar_core.specs.declared.grammar.GrammarError.{GrammarError}
use Rattle.grammar_core.specs.declared.ids.NtId.{NtId}
use Rattle.grammar_core.specs.declared.production.Nonterminal.{Nonterminal}
use Rattle.grammar_core.specs.declared.production.Production.{Production}
use Rattle.grammar_core.specs.Grammars.{IsKnown, blank, names_of, nonterminal_at, production_count, productions_of}
use Rattle.grammar_core.specs.Refusals.{makes, with_nonterminal, with_production}
use Rattle.grammar_core.proofs.Keeping.{one_more}
use Rattle.name_core.specs.Faults.{first, found_after}
use Rattle.name_core.specs.Names.{has, names_in, nonterminal_names, taken_name, unknown_name}
use Rattle.sort_core.specs.Relations.{type_named}
use Rattle.making_core.specs.Fitting.{GroupsFit, NonterminalsFit, ProductionFits, ProductionsFit, with_productions}
use Rattle.making_core.specs.Making.{production_of}
use Rattle.making_core.proofs.Filled.{group_productions}
use Rattle.making_core.proofs.Fits.{has-append, none-left, none-right, passes}
use Rattle.making_core.proofs.Productions.{IsMade, IsMadeGroup, makes_over, makes_same, no_type, owner_at, owners_of, types_of}

-- Nonterminals.

refused_by : (a b : Bool) (e f : GrammarError) → a ≡ false → b ≡ true → (if a then Some e else if b then None else Some f) ≡ None
refused_by true b e f p q = absurd (cc)
refused_by false true e f p q = refl
refused_by false false e f p q = absurd (cc)

pub nonterminals_fit : (sig : Declarations) (before pairs : List Pair) (cur : List Nonterminal) → names_of cur ≡ names_in before → length cur + length pairs ≤ 256 →
    first (found_after (nonterminal_names sig) before pairs) ≡ None → NonterminalsFit sig cur pairs
nonterminals_fit sig before [] cur names few h = tt
nonterminals_fit sig before (pair ∷ pairs) cur names few h =
    let name : List ℕ = pair.name.bytes in
    let next : List Nonterminal = with_nonterminal cur name (type_named sig pair.sort.bytes) in
    let added : Nonterminal = record { name = name; owner = type_named sig pair.sort.bytes; productions = [] } in
    let here : first (nonterminal_names sig before pair) ≡ None = none-left (nonterminal_names sig before pair) _ h in
    let taken : has (names_in before ++ constructor_names sig.constructors) name ≡ false = passes _ 21 pair.name.place (none-left (taken_name (names_in before ++ constructor_names sig.constructors) pair.name) (unknown_name sig.types pair.sort) here) in
    let apart : (has (names_in before) name ≡ false) × (has (constructor_names sig.constructors) name ≡ false) =
    or_parts (has (names_in before) name) (has (constructor_names sig.constructors) name) (sym (has-append (names_in before) (constructor_names sig.constructors) name) ∙ taken) in
    let free : has (names_of cur) name ≡ false = ap (λ ns. has ns name) names ∙ apart.0 in
    let below : nat_lt (length cur) 256 ≡ true = grind (arith, nat_tests) in
    let longer : length next ≡ length cur + 1 = omega (arith, length-append cur (added ∷ [])) in
    let more : names_of next ≡ names_in (before ++ pair ∷ []) =
    map-append (λ (n : Nonterminal). n.name) cur (added ∷ []) ∙ ap (λ ns. ns ++ name ∷ []) names ∙ sym (map-append (λ (p : Pair). p.name.bytes) before (pair ∷ [])) in (
      refused_by _ _ _ _ free below,
      nonterminals_fit sig (before ++ pair ∷ []) pairs next more (omega (arith, longer)) (none-right (nonterminal_names sig before pair) _ h),
    )

-- Productions.

pub owners_still : (grammar : List Nonterminal) (nt : NtId) (p : Production) → IsKnown grammar nt → owners_of (with_production grammar nt p) ≡ owners_of grammar
owners_still grammar nt p known =
    map-set (λ (n : Nonterminal). n.owner) grammar nt.0 (record (nonterminal_at grammar nt) { productions = productions_of grammar nt ++ p ∷ [] })
    ∙ ap (set (owners_of grammar) nt.0) (sym (get_or-map (λ (n : Nonterminal). n.owner) grammar nt.0 blank no_type known)) ∙ set-get_or (owners_of grammar) nt.0 no_type

known_by : (cur : List Nonterminal) (owners : List TypeId) (nt : NtId) → owners_of cur ≡ owners → nt.0 < length owners → IsKnown cur nt
known_by cur owners nt same within =
    let count : length (owners_of cur) ≡ length owners = ap length same in
    omega (arith, count, length-map cur (λ (n : Nonterminal). n.owner), within)

accepted_by : (a b : Bool) (e f : GrammarError) → a ≡ true → b ≡ true → (if a then (if b then None else Some e) else Some f) ≡ None
accepted_by true true e f p q = refl
accepted_by true false e f p q = absurd (cc)
accepted_by false b e f p q = absurd (cc)

production_fits : (sig : Declarations) (owners : List TypeId) (owner : TypeId) (nt : NtId) (p : Production) (cur : List Nonterminal) → owners_of cur ≡ owners → nt.0 < length owners →
    get_or owners nt.0 no_type ≡ owner → IsMade sig owners owner p → production_count cur < 4096 → ProductionFits sig cur nt p
production_fits sig owners owner nt p cur same within at made few =
    let here : (nonterminal_at cur nt).owner ≡ owner = owner_at cur nt.0 ∙ ap (λ os. get_or os nt.0 no_type) same ∙ at in
    let over : makes_over (owners_of cur) owner p.args (slice_get sig.constructors p.con.0) ≡ true = ap (λ os. makes_over os owner p.args (slice_get sig.constructors p.con.0)) same ∙ made.makes in
    let fits : makes cur (nonterminal_at cur nt).owner p.args (slice_get sig.constructors p.con.0) ≡ true =
    ap (λ t. makes cur t p.args (slice_get sig.constructors p.con.0)) here ∙ makes_same cur owner p.args (slice_get sig.constructors p.con.0) ∙ over in
    let below : nat_lt (production_count cur) 4096 ≡ true = grind (arith, nat_tests) in
    record {
      nonterminal = known_by cur owners nt same within;
      con = made.con;
      args = All-weaker (λ n. n.0 < length owners) (IsKnown cur) (λ n k. known_by cur owners n same k) p.args made.args;
      accepted = accepted_by _ _ _ _ fits below;
    }

-- what stands after so many productions
record After (owners : List TypeId) (cur new : List Nonterminal) (many : ℕ) : Type 0 where
  same : owners_of new ≡ owners
  count : production_count new ≡ production_count cur + many

after_productions : (owners : List TypeId) (nt : NtId) (ps : List Production) (cur : List Nonterminal) → owners_of cur ≡ owners → nt.0 < length owners →
    After owners cur (with_productions cur nt ps) (length ps)
after_productions owners nt [] cur same within = record { same = same; count = omega arith }
after_productions owners nt (p ∷ ps) cur same within =
    let known : IsKnown cur nt = known_by cur owners nt same within in
    let next : List Nonterminal = with_production cur nt p in
    let rest = after_productions owners nt ps next (owners_still cur nt p known ∙ same) within in
    let total : production_count (with_productions next nt ps) ≡ production_count next + length ps = rest.count in
    record { same = rest.same; count = omega (arith, total, one_more cur nt known p) }

productions_fit : (sig : Declarations) (owners : List TypeId) (owner : TypeId) (nt : NtId) (ps : List Production) (cur : List Nonterminal) → owners_of cur ≡ owners → nt.0 < length owners →
    get_or owners nt.0 no_type ≡ owner → All (IsMade sig owners owner) ps → production_count cur + length ps ≤ 4096 → ProductionsFit sig cur nt ps
productions_fit sig owners owner nt [] cur same within at made few = tt
productions_fit sig owners owner nt (p ∷ ps) cur same within at made few =
    let known : IsKnown cur nt = known_by cur owners nt same within in
    let more : production_count (with_production cur nt p) ≡ production_count cur + 1 = one_more cur nt known p in (
      production_fits sig owners owner nt p cur same within at (All-head (IsMade sig owners owner) p ps made) (omega arith),
      productions_fit sig owners owner nt ps (with_production cur nt p) (owners_still cur nt p known ∙ same) within at (All-tail (IsMade sig owners owner) p ps made) (omega (arith, more)),
    )

-- Groups.

at_middle : (xs ys : List TypeId) (x : TypeId) → get_or (xs ++ x ∷ ys) (length xs) no_type ≡ x
at_middle [] ys x = refl
at_middle (y ∷ xs) ys x = at_middle xs ys x

groups_from : (sig : Declarations) (all done pairs : List Pair) (groups : List Sexpr) (n : ℕ) (cur : List Nonterminal) → done ++ pairs ≡ all → n ≡ length done → length groups ≡ length pairs →
    owners_of cur ≡ types_of sig all → All (IsMadeGroup sig all) (zip pairs groups) → production_count cur + length (flat_map (items_at 2) groups) ≤ 4096 →
    GroupsFit sig cur n (map (group_productions sig (names_in all)) groups)
groups_from sig all done pairs [] n cur split number count same made few = tt
groups_from sig all done [] (group ∷ groups) n cur split number count same made few = absurd (omega arith)
groups_from sig all done (pair ∷ pairs) (group ∷ groups) n cur split number count same made few =
    let nt : NtId = record { 0 = n } in
    let owners : List TypeId = types_of sig all in
    let owner : TypeId = type_named sig pair.sort.bytes in
    let ps : List Production = group_productions sig (names_in all) group in
    let parted : types_of sig done ++ owner ∷ types_of sig pairs ≡ owners = sym (map-append (λ (p : Pair). type_named sig p.sort.bytes) done (pair ∷ pairs)) ∙ ap (types_of sig) split in
    let before : length (types_of sig done) ≡ length done = length-map done (λ (p : Pair). type_named sig p.sort.bytes) in
    let place : length (types_of sig done) ≡ n = before ∙ sym number in
    let at : get_or owners n no_type ≡ owner =
    ap (λ os. get_or os n no_type) (sym parted) ∙ ap (λ k. get_or (types_of sig done ++ owner ∷ types_of sig pairs) k no_type) (sym place) ∙ at_middle (types_of sig done) (types_of sig pairs) owner in
    let long : length (types_of sig done ++ owner ∷ types_of sig pairs) ≡ length owners = ap length parted in
    let within : n < length owners = omega (arith, long, length-append (types_of sig done) (owner ∷ types_of sig pairs), place) in
    let many : length ps ≡ length (items_at 2 group) = length-map (items_at 2 group) (production_of sig (names_in all)) in
    let parts : length (items_at 2 group ++ flat_map (items_at 2) groups) ≡ length (items_at 2 group) + length (flat_map (items_at 2) groups) = length-append (items_at 2 group) (flat_map (items_at 2) groups) in
    let after = after_productions owners nt ps cur same within in
    let total : production_count (with_productions cur nt ps) ≡ production_count cur + length ps = after.count in
    let rest : length groups ≡ length pairs = omega arith in
    let longer : n + 1 ≡ length (done ++ pair ∷ []) = omega (arith, number, length-append done (pair ∷ [])) in (
      productions_fit sig owners owner nt ps cur same within at (All-head (IsMadeGroup sig all) (pair, group) (zip pairs groups) made).productions (omega (arith, many, parts)),
      groups_from sig all (done ++ pair ∷ []) pairs groups (n + 1) (with_productions cur nt ps) (append_assoc done (pair ∷ []) pairs ∙ split) longer rest after.same
          (All-tail (IsMadeGroup sig all) (pair, group) (zip pairs groups) made) (omega (arith, many, parts, total)),
    )

-- the productions of as many groups as there are nonterminals, which have none yet
pub groups_fit : (sig : Declarations) (pairs : List Pair) (groups : List Sexpr) (cur : List Nonterminal) → length groups ≡ length pairs → owners_of cur ≡ types_of sig pairs →
    production_count cur ≡ 0 → All (IsMadeGroup sig pairs) (zip pairs groups) → length (flat_map (items_at 2) groups) ≤ 4096 → GroupsFit sig cur 0 (map (group_productions sig (names_in pairs)) groups)
groups_fit sig pairs groups cur count same none made few =
    let most : production_count cur + length (flat_map (items_at 2) groups) ≤ 4096 = omega (arith, none, few) in
    groups_from sig pairs [] pairs groups 0 cur refl refl count same made most
