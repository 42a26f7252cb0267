-- The nodes of a command of right shape that pass a limit are found from the left.
use Rattle.std.proofs.Common.{◌≡◌, ℕ, zero, suc, ◌+◌, ◌*◌, ◌<◌, ◌≤◌, Bool, true, false, Option, Some, None, is_some, List, [], ◌∷◌, ◌++◌, map, length, slice_get, refl, sym, ap, ap₂, ◌∙◌, subst, rules, arith}
use Rattle.std.specs.Prelude.{◌||◌, nat_le, nat_lt, codes, unwrap_or, if◌then◌else◌}
use Rattle.std.specs.List.{flat_map}
use Rattle.std.specs.Option.{option_map_or}
use Rattle.sexpr_core.specs.declared.form.Atom.{Atom}
use Rattle.sexpr_core.specs.declared.form.Sexpr.{Sexpr}
use Rattle.sexpr_core.specs.Access.{items_of, place_of, symbol_of, parts_of, item_of, others_of}
use Rattle.syntax_core.specs.declared.commands.Head.{Head}
use Rattle.syntax_core.specs.declared.commands.Head.TheVariants as head
use Rattle.syntax_core.specs.declared.fault.Fault.{Fault}
use Rattle.syntax_core.specs.declared.roles.Due.TheVariants.{One, Many}
use Rattle.syntax_core.specs.declared.roles.Role.{Role}
use Rattle.syntax_core.specs.declared.roles.Role.TheVariants as role
use Rattle.syntax_core.specs.declared.syntax.Application.{Application}
use Rattle.syntax_core.specs.declared.syntax.Function.{Function}
use Rattle.syntax_core.specs.declared.syntax.Pair.{Pair}
use Rattle.syntax_core.specs.Roles.{are_of_command, due_in_command, head_of, is_command, is_filled}
use Rattle.syntax_core.specs.Shapes.{HasShape}
use Rattle.syntax_core.specs.Syntax.{atom_of, begins, call_of, calls_of, deepest, functions_from, functions_of, items_at, nonterminals_of, pair_of}
use Rattle.name_core.specs.Bodies.{Node, Site, bound, leaf, leaf_count, nodes_of, rule_count, sites_of}
use Rattle.name_core.specs.Faults.{first, found, found_from, past, shapes}
use Rattle.name_core.specs.Limits.{call_limits, case_limits, constructor_limits, declaration_limits, functions_limits, limits, long_name, node_limits, pair_limits, pairs_limits, production_limits, type_limits, types_limits, wanted_limits}
use Rattle.name_core.specs.States.{State}
use Rattle.making_core.proofs.ShapedForms.{false_true, fit_of, has_its_shape, item_shape, listed, passes_parts}
use Rattle.elab_laws.specs.Places.{AreInOrder, places_in}
use Rattle.elab_laws.proofs.Chains.{Chain, InOrder, Such, all_at, chain_flat, chain_higher, chain_lower, chain_map, faults_after, faults_each, faults_from, nothing, order_joined, order_lower, span_others, span_parts, span_place, spans_chain, such_chain}
use Rattle.elab_laws.proofs.InPlaces.{AtomIn, NodeIn, PairIn, filled, items_chain, pair_in, pairs_chain, three_items}
use Rattle.elab_laws.proofs.PlacedCommands.{Declared, Defined, SiteIn, declared_chain, defined_chain, sites_chain}
use Rattle.elab_laws.proofs.Rising.{Ordered, bounds, in_order, ordered_higher, ordered_joined}
use Rattle.elab_laws.proofs.SpelledPlaces.{Spans}

-- The items of a command.

-- the items of a command of this word
pub record Command (h : Head) (form : Sexpr) : Type 0 where
  pub word : Sexpr
  pub others : List Sexpr
  pub is : parts_of form ≡ word ∷ others
  pub fit : are_of_command h others ≡ true
  pub shaped : (k : ℕ) (item : Sexpr) → slice_get (word ∷ others) k ≡ Some item → HasShape (due_in_command (Some h) k) item

command_by : (h : Head) (form : Sexpr) (items : List Sexpr) → parts_of form ≡ items → is_command items ≡ true → head_of items ≡ Some h →
    ((k : ℕ) (item : Sexpr) → slice_get items k ≡ Some item → HasShape (due_in_command (head_of items) k) item) → Command h form
command_by h form [] is fit word shaped = absurd (false_true fit)
command_by h form (w ∷ others) is fit word shaped =
    record {
      word = w;
      others = others;
      is = is;
      fit = sym (ap (λ o. option_map_or (λ h. are_of_command h others) o false) word) ∙ fit;
      shaped = λ k item at. subst (λ o. HasShape (due_in_command o k) item) word (shaped k item at);
    }

pub command_of : (h : Head) (form : Sexpr) → head_of (parts_of form) ≡ Some h → first (shapes form) ≡ None → Command h form
command_of h form word none =
    let shape = has_its_shape form none in
    command_by h form (parts_of form) refl (passes_parts is_command (items_of form) (fit_of shape)) word (item_shape shape)

-- One node.

limit_ordered : (test : Bool) (limit place low high : ℕ) → limit < 256 → low ≤ 65536 * place + (12800 + limit) → 65536 * place + (12800 + limit) < high →
    Ordered low (if test then [] else record { place = place; reason = 50; limit = limit } ∷ []) high
limit_ordered true limit place low high l from to = omega (arith, from, to)
limit_ordered false limit place low high l from to = (omega (arith, from), omega arith, l, omega (arith, to))

one_limit : (most limit n place low : ℕ) → limit < 256 → low ≤ place → InOrder low (past most limit n place) (place + 1)
one_limit most limit n place low l from = limit_ordered (nat_lt n most) limit place (65536 * low) (65536 * (place + 1)) l (omega (arith, from)) (omega (arith, l))

long_one : (name : Atom) (low : ℕ) → low ≤ name.place → InOrder low (long_name name) (name.place + 1)
long_one name low from = limit_ordered (nat_le (length name.bytes) 1024) 4 name.place (65536 * low) (65536 * (name.place + 1)) (omega arith) (omega (arith, from)) (omega arith)

pub wider : (low : ℕ) (faults : List Fault) (high higher : ℕ) → high ≤ higher → InOrder low faults high → InOrder low faults higher
wider low faults high higher more h = ordered_higher (65536 * low) faults (65536 * high) (65536 * higher) (omega (arith, more)) h

long_within : (low : ℕ) (name : Atom) (high : ℕ) → AtomIn low name high → InOrder low (long_name name) high
long_within low name high h = let to = h.1 in wider low (long_name name) (name.place + 1) high (omega (arith, to)) (long_one name low h.0)

pair_order : (most limit n low : ℕ) (pair : Pair) (high : ℕ) → limit < 256 → PairIn low pair high → InOrder low (pair_limits most limit n pair) high
pair_order most limit n low pair high l h =
    let name = h.1 in let sort = h.2 in let end = h.3 in
    order_joined low (past most limit n pair.place) (pair.place + 1) (long_name pair.name) high (one_limit most limit n pair.place low l h.0)
    (long_within (pair.place + 1) pair.name high (omega (arith, name), omega (arith, sort, end)))

pairs_order : (most limit n low : ℕ) (pairs : List Pair) (high : ℕ) → limit < 256 → Chain PairIn low pairs high → InOrder low (pairs_limits most limit n pairs) high
pairs_order most limit n low pairs high l h = faults_from PairIn (pair_limits most limit) (λ n low pair high p. pair_order most limit n low pair high l p) n low pairs high h

-- Types and constructors.

pub type_in : (low : ℕ) (form : Sexpr) (high : ℕ) → Such (HasShape (One role.TypeName)) low form high → AtomIn low (pair_of form).name high
type_in low form high h =
    let p = pair_in low form high (fit_of h.0) h.1 in
    let a = p.0 in let b = p.1 in let c = p.2 in let d = p.3 in
    (omega (arith, a, b), omega (arith, c, d))

type_order : (n low : ℕ) (name : Atom) (high : ℕ) → AtomIn low name high → InOrder low (type_limits n name) high
type_order n low name high h =
    let from = h.0 in let to = h.1 in
    ordered_joined (65536 * low) (long_name name) (65536 * name.place + 12805) (past 256 5 n name.place) (65536 * high)
    (limit_ordered (nat_le (length name.bytes) 1024) 4 name.place (65536 * low) (65536 * name.place + 12805) (omega arith) (omega (arith, from)) (omega arith))
    (limit_ordered (nat_lt n 256) 5 name.place (65536 * name.place + 12805) (65536 * high) (omega arith) (omega arith) (omega (arith, to)))

-- the name of a list is right of it
pub name_after : (low : ℕ) (form : Sexpr) (high : ℕ) → is_filled form ≡ true → Spans low form high → (place_of form < place_of (item_of 0 form)) × (place_of (item_of 0 form) < high)
name_after low form high fit h =
    let some = filled (items_of form) fit in
    let c = items_chain low form high (some.0 ∷ some.1) some.2 h in
    let a = span_place c.0 some.0 c.1 c.3 in
    let more = chain_bounds c.1 some.1 high c.4 in
    let name : place_of (item_of 0 form) ≡ place_of some.0 = ap (λ ps. place_of (unwrap_or (slice_get ps 0) form)) some.2 in
    let a0 = a.0 in let a1 = a.1 in let low_a = c.2 in
    (omega (arith, name, a0, low_a), omega (arith, name, a1, more))
  where
    chain_bounds : (low : ℕ) (forms : List Sexpr) (high : ℕ) → Chain Spans low forms high → low ≤ high
    chain_bounds low [] high h = h
    chain_bounds low (f ∷ fs) high h =
        let here = h.2 in let most = bounds h.0 (places_in f) h.1 h.3 in let rest = chain_bounds h.1 fs high h.4 in
        omega (arith, here, most, rest)

constructor_order : (n low : ℕ) (form : Sexpr) (high : ℕ) → Such (HasShape (One role.Constructor)) low form high → InOrder low (constructor_limits n form) high
constructor_order n low form high h = by (is_some (symbol_of form)) (fit_of h.0)
  where
    by : (b : Bool) → (b || is_filled form) ≡ true →
        InOrder low (if b then long_name (atom_of form) ++ past 4096 6 n (place_of form)
        else past 4096 6 n (place_of form) ++ past 17 7 (length (others_of form)) (place_of form) ++ long_name (if b then atom_of form else atom_of (item_of 0 form))) high
    by true fit =
        let node = span_place low form high h.1 in
        let from = node.0 in let to = node.1 in
        ordered_joined (65536 * low) (long_name (atom_of form)) (65536 * place_of form + 12805) (past 4096 6 n (place_of form)) (65536 * high)
        (limit_ordered (nat_le (length (atom_of form).bytes) 1024) 4 (place_of form) (65536 * low) (65536 * place_of form + 12805) (omega arith) (omega (arith, from)) (omega arith))
        (limit_ordered (nat_lt n 4096) 6 (place_of form) (65536 * place_of form + 12805) (65536 * high) (omega arith) (omega arith) (omega (arith, to)))
    by false fit =
        let node = span_place low form high h.1 in
        let name = name_after low form high fit h.1 in
        let from = node.0 in let after = name.0 in
        order_joined low (past 4096 6 n (place_of form) ++ past 17 7 (length (others_of form)) (place_of form)) (place_of form + 1) (long_name (atom_of (item_of 0 form))) high
        (ordered_joined (65536 * low) (past 4096 6 n (place_of form)) (65536 * place_of form + 12807) (past 17 7 (length (others_of form)) (place_of form)) (65536 * (place_of form + 1))
        (limit_ordered (nat_lt n 4096) 6 (place_of form) (65536 * low) (65536 * place_of form + 12807) (omega arith) (omega (arith, from)) (omega arith))
        (limit_ordered (nat_lt (length (others_of form)) 17) 7 (place_of form) (65536 * place_of form + 12807) (65536 * (place_of form + 1)) (omega arith) (omega arith) (omega arith)))
        (long_within (place_of form + 1) (atom_of (item_of 0 form)) high (omega (arith, after), name.1))

pub group_chain : (low : ℕ) (form : Sexpr) (high : ℕ) → Such (HasShape (One role.Group)) low form high → Chain (Such (HasShape (One role.Constructor))) low (parts_of form) high
group_chain low form high h =
    such_chain (HasShape (One role.Constructor)) low (parts_of form) high (all_at (HasShape (One role.Constructor)) (parts_of form) (item_shape h.0)) (span_parts low form high h.1)

-- a list whose items are all of one role
pub role_chain : (r : Role) (low : ℕ) (form : Sexpr) (high : ℕ) → HasShape (Many r) form → Spans low form high → Chain (Such (HasShape (One r))) low (parts_of form) high
role_chain r low form high shape h = such_chain (HasShape (One r)) low (parts_of form) high (all_at (HasShape (One r)) (parts_of form) (item_shape shape)) (span_parts low form high h)

-- Functions.

declaration_order : (n low : ℕ) (f : Function) (high : ℕ) → Declared low f high → InOrder low (declaration_limits n f.declaration) high
declaration_order n low f high h =
    let name = h.1 in
    order_joined low (past 256 8 n f.declaration.place ++ long_name f.declaration.name) (f.declaration.name.place + 1) (pairs_limits 32 9 0 f.declaration.params) high
    (order_joined low (past 256 8 n f.declaration.place) (f.declaration.place + 1) (long_name f.declaration.name) (f.declaration.name.place + 1)
    (one_limit 256 8 n f.declaration.place low (omega arith) h.0) (long_one f.declaration.name (f.declaration.place + 1) (omega (arith, name))))
    (pairs_order 32 9 0 (f.declaration.name.place + 1) f.declaration.params high (omega arith) h.2)

node_order : (params rules : ℕ) (before : List Node) (low : ℕ) (node : Node) (high : ℕ) → NodeIn low node high → InOrder low (node_limits params rules before node) high
node_order params rules before low (bound around pair) high h = pair_order 64 10 (params + length around) low pair high (omega arith) h
node_order params rules before low (leaf around l) high h =
    let to = h.1 in wider low (past 16384 11 (rules + leaf_count before) l.place) (l.place + 1) high (omega (arith, to)) (one_limit 16384 11 (rules + leaf_count before) l.place low (omega arith) h.0)

case_order : (rules low : ℕ) (site : Site) (high : ℕ) → SiteIn low site high → InOrder low (case_limits rules site) high
case_order rules low site high h =
    let pattern = h.1 in let a = pattern.0 in let b = pattern.1 in
    order_joined low (flat_map long_name site.case.pattern.variables) h.0 (found (node_limits (length site.function.declaration.params) rules) (nodes_of site.case)) high
    (order_lower (site.case.pattern.name.place + 1) low (flat_map long_name site.case.pattern.variables) h.0 (omega (arith, a, b))
    (faults_each AtomIn long_name long_within (site.case.pattern.name.place + 1) site.case.pattern.variables h.0 pattern.2))
    (faults_after NodeIn (node_limits (length site.function.declaration.params) rules) (node_order (length site.function.declaration.params) rules) [] h.0 (nodes_of site.case) high h.2)

functions_order : (relations rules low middle high : ℕ) (functions : List Function) → Chain Declared low functions middle → Chain Defined middle functions high → InOrder low (functions_limits relations rules functions) high
functions_order relations rules low middle high functions h k =
    order_joined low (found_from (λ n f. declaration_limits n f.declaration) relations functions) middle (found (λ before site. case_limits (rules + rule_count before) site) (sites_of functions)) high
    (faults_from Declared (λ n f. declaration_limits n f.declaration) declaration_order relations low functions middle h)
    (faults_after SiteIn (λ before site. case_limits (rules + rule_count before) site) (λ before low site high s. case_order (rules + rule_count before) low site high s) [] middle (sites_of functions) high (sites_chain middle functions high k))

-- Examples.

abbrev CallPlace : ℕ → Application → ℕ → Type 0
CallPlace low call high = (low ≤ call.place) × (call.place < high)

-- what holds of a call where its form stands holds of each call of an example
pub calls_chain : (In : ℕ → Application → ℕ → Type 0) → ((low : ℕ) (form : Sexpr) (high : ℕ) → Spans low form high → In low (call_of form) high) →
    (depth low : ℕ) (form : Sexpr) (high : ℕ) → Spans low form high → Chain In low (calls_of depth form) high
unfolding calls_of
calls_chain In each zero low form high h = (low, high, omega arith, each low form high h, omega arith)
calls_chain In each (suc depth) low form high h = by (begins (codes "and") form) (λ low form high h. calls_chain In each depth low form high h)
  where
    by : (b : Bool) → ((low : ℕ) (form : Sexpr) (high : ℕ) → Spans low form high → Chain In low (calls_of depth form) high) →
        Chain In low (if b then flat_map (calls_of depth) (others_of form) else call_of form ∷ []) high
    by true inner =
        chain_flat Spans In (calls_of depth) inner low (others_of form) high (spans_chain low (others_of form) high (span_others low (parts_of form) high (span_parts low form high h)))
    by false inner = (low, high, omega arith, each low form high h, omega arith)

call_order : (n low : ℕ) (call : Application) (high : ℕ) → CallPlace low call high → InOrder low (call_limits n call) high
call_order n low call high h = let to = h.1 in wider low (past 1024 14 n call.place) (call.place + 1) high (omega (arith, to)) (one_limit 1024 14 n call.place low (omega arith) h.0)

-- Grammars.

production_order : (n low : ℕ) (form : Sexpr) (high : ℕ) → Spans low form high → InOrder low (production_limits n form) high
production_order n low form high h =
    let node = span_place low form high h in let to = node.1 in
    wider low (past 4096 13 n (place_of form)) (place_of form + 1) high (omega (arith, to)) (one_limit 4096 13 n (place_of form) low (omega arith) node.0)

productions_chain : (low : ℕ) (group : Sexpr) (high : ℕ) → Such (HasShape (One role.Nonterminal)) low group high → Chain Spans low (items_at 2 group) high
productions_chain low group high h =
    let three = three_items (parts_of group) (listed 3 (items_of group) (fit_of h.0)) in
    let c = items_chain low group high (three.0 ∷ three.1 ∷ three.2 ∷ []) three.3 h.1 in
    let node = span_place low group high h.1 in
    let a = span_place c.0 three.0 c.1 c.3 in
    let b = span_place c.4.0 three.1 c.4.1 c.4.3 in
    let n0 = node.0 in let a0 = a.0 in let a1 = a.1 in let b0 = b.0 in let b1 = b.1 in let c2 = c.2 in let c42 = c.4.2 in let c442 = c.4.4.2 in let end = c.4.4.4 in
    let items : items_at 2 group ≡ parts_of three.2 = ap (λ ps. option_map_or parts_of (slice_get ps 2) []) three.3 in
    subst (λ fs. Chain Spans low fs high) (sym items)
    (chain_lower Spans c.4.4.0 low (parts_of three.2) high (omega (arith, n0, a0, a1, b0, b1, c2, c42, c442))
    (chain_higher Spans c.4.4.0 (parts_of three.2) c.4.4.1 high end (spans_chain c.4.4.0 (parts_of three.2) c.4.4.1 (span_parts c.4.4.0 three.2 c.4.4.1 c.4.4.3))))

-- Commands.

-- faults in order, within some bounds
abbrev pub Ranked : List Fault → Type 0
Ranked faults = (low : ℕ) × (high : ℕ) × InOrder low faults high

pub none_ranked : Ranked []
none_ranked = (0, 0, omega arith)

terms_ranked : (types constructors low : ℕ) (form : Sexpr) (high : ℕ) → Command head.DeclareTermTypes form → Spans low form high → Ranked (types_limits types constructors form)
terms_ranked types constructors low form high c h = by c.others c.is c.fit c.shaped
  where
    by : (others : List Sexpr) → parts_of form ≡ c.word ∷ others → are_of_command head.DeclareTermTypes others ≡ true →
        ((k : ℕ) (item : Sexpr) → slice_get (c.word ∷ others) k ≡ Some item → HasShape (due_in_command (Some head.DeclareTermTypes) k) item) → Ranked (types_limits types constructors form)
    by [] is fit shaped = absurd (false_true fit)
    by (a ∷ []) is fit shaped = absurd (false_true fit)
    by (names ∷ groups ∷ []) is fit shaped =
        let s = items_chain low form high (c.word ∷ names ∷ groups ∷ []) is h in
        let names_is : items_at 1 form ≡ parts_of names = ap (λ ps. option_map_or parts_of (slice_get ps 1) []) is in
        let groups_is : items_at 2 form ≡ parts_of groups = ap (λ ps. option_map_or parts_of (slice_get ps 2) []) is in
        let t = chain_map (Such (HasShape (One role.TypeName))) AtomIn (λ form. (pair_of form).name) type_in s.4.0 (parts_of names) s.4.1 (role_chain role.TypeName s.4.0 names s.4.1 (shaped 1 names refl) s.4.3) in
        let g = chain_flat (Such (HasShape (One role.Group))) (Such (HasShape (One role.Constructor))) parts_of group_chain s.4.4.0 (parts_of groups) s.4.4.1
        (role_chain role.Group s.4.4.0 groups s.4.4.1 (shaped 2 groups refl) s.4.4.3) in (
          s.4.0,
          s.4.4.1,
          subst (λ fs. InOrder s.4.0 (found_from type_limits types (map (λ form. (pair_of form).name) fs) ++ found_from constructor_limits constructors (flat_map parts_of (items_at 2 form))) s.4.4.1) (sym names_is)
              (subst (λ fs. InOrder s.4.0 (found_from type_limits types (map (λ form. (pair_of form).name) (parts_of names)) ++ found_from constructor_limits constructors (flat_map parts_of fs)) s.4.4.1) (sym groups_is)
              (order_joined s.4.0 (found_from type_limits types (map (λ form. (pair_of form).name) (parts_of names))) s.4.1 (found_from constructor_limits constructors (flat_map parts_of (parts_of groups))) s.4.4.1
              (faults_from AtomIn type_limits type_order types s.4.0 (map (λ form. (pair_of form).name) (parts_of names)) s.4.1 t)
              (order_lower s.4.4.0 s.4.1 (found_from constructor_limits constructors (flat_map parts_of (parts_of groups))) s.4.4.1 s.4.4.2
              (faults_from (Such (HasShape (One role.Constructor))) constructor_limits constructor_order constructors s.4.4.0 (flat_map parts_of (parts_of groups)) s.4.4.1 g)))),
        )
    by (a ∷ b ∷ d ∷ others) is fit shaped = absurd (false_true fit)

-- where the functions of a command stand
pub record FunctionsIn (form : Sexpr) : Type 0 where
  pub low : ℕ
  pub middle : ℕ
  pub high : ℕ
  pub declared : Chain Declared low (functions_of form) middle
  pub defined : Chain Defined middle (functions_of form) high

pub functions_in : (low : ℕ) (form : Sexpr) (high : ℕ) → Command head.DefineFunsRec form → Spans low form high → FunctionsIn form
functions_in low form high c h = by c.others c.is c.fit c.shaped
  where
    by : (others : List Sexpr) → parts_of form ≡ c.word ∷ others → are_of_command head.DefineFunsRec others ≡ true →
        ((k : ℕ) (item : Sexpr) → slice_get (c.word ∷ others) k ≡ Some item → HasShape (due_in_command (Some head.DefineFunsRec) k) item) → FunctionsIn form
    by [] is fit shaped = absurd (false_true fit)
    by (a ∷ []) is fit shaped = absurd (false_true fit)
    by (ds ∷ es ∷ []) is fit shaped =
        let s = items_chain low form high (c.word ∷ ds ∷ es ∷ []) is h in
        let first_is : item_of 1 form ≡ ds = ap (λ ps. unwrap_or (slice_get ps 1) form) is in
        let second_is : item_of 2 form ≡ es = ap (λ ps. unwrap_or (slice_get ps 2) form) is in
        let made : functions_of form ≡ functions_from (parts_of ds) (parts_of es) = ap₂ (λ a b. functions_from (parts_of a) (parts_of b)) first_is second_is in
        let one = declared_chain s.4.0 (parts_of ds) (parts_of es) s.4.1 (role_chain role.Declaration s.4.0 ds s.4.1 (shaped 1 ds refl) s.4.3) (bounds s.4.0 (places_in ds) s.4.1 s.4.3) in
        let other = defined_chain s.4.4.0 (parts_of ds) (parts_of es) s.4.4.1 (role_chain role.Definition s.4.4.0 es s.4.4.1 (shaped 2 es refl) s.4.4.3) (bounds s.4.4.0 (places_in es) s.4.4.1 s.4.4.3) in
        record {
          low = s.4.0;
          middle = s.4.1;
          high = s.4.4.1;
          declared = subst (λ fs. Chain Declared s.4.0 fs s.4.1) (sym made) one;
          defined = subst (λ fs. Chain Defined s.4.1 fs s.4.4.1) (sym made) (chain_lower Defined s.4.4.0 s.4.1 (functions_from (parts_of ds) (parts_of es)) s.4.4.1 s.4.4.2 other);
        }
    by (a ∷ b ∷ d ∷ others) is fit shaped = absurd (false_true fit)

functions_ranked : (relations rules low : ℕ) (form : Sexpr) (high : ℕ) → Command head.DefineFunsRec form → Spans low form high → Ranked (functions_limits relations rules (functions_of form))
functions_ranked relations rules low form high c h =
    let f = functions_in low form high c h in
    (f.low, f.high, functions_order relations rules f.low f.middle f.high (functions_of form) f.declared f.defined)

-- where the form at this number stands
span_at : (items : List Sexpr) (k low high : ℕ) (item : Sexpr) → Chain Spans low items high → slice_get items k ≡ Some item → (from : ℕ) × (to : ℕ) × Spans from item to
span_at [] k low high item s is = absurd (cc)
span_at (x ∷ xs) zero low high item s is = let same : x ≡ item = cc in (s.0, s.1, subst (λ (f : Sexpr). Spans s.0 f s.1) same s.3)
span_at (x ∷ xs) (suc k) low high item s is = span_at xs k s.1 high item s.4 is

-- the form of a constraint's examples stands within some bounds
pub example_span : (low : ℕ) (form : Sexpr) (high : ℕ) → Spans low form high → (from : ℕ) × (to : ℕ) × Spans from (item_of 1 form) to
example_span low form high h = by (slice_get (parts_of form) 1) refl
  where
    by : (o : Option Sexpr) → slice_get (parts_of form) 1 ≡ o → (from : ℕ) × (to : ℕ) × Spans from (unwrap_or o form) to
    by None is = (low, high, h)
    by (Some item) is = span_at (parts_of form) 1 low high item (spans_chain low (parts_of form) high (span_parts low form high h)) is

examples_ranked : (n low : ℕ) (form : Sexpr) (high : ℕ) → Spans low form high → Ranked (found_from call_limits n (calls_of deepest (item_of 1 form)))
examples_ranked n low form high h =
    let s = example_span low form high h in
    (s.0, s.1, faults_from CallPlace call_limits call_order n s.0 (calls_of deepest (item_of 1 form)) s.1 (calls_chain CallPlace span_place deepest s.0 (item_of 1 form) s.1 s.2))

wanted_ranked : (low : ℕ) (form : Sexpr) (high : ℕ) → Command head.SynthFun form → Spans low form high → Ranked (wanted_limits form)
wanted_ranked low form high c h = by c.others c.is c.fit c.shaped
  where
    by : (others : List Sexpr) → parts_of form ≡ c.word ∷ others → are_of_command head.SynthFun others ≡ true →
        ((k : ℕ) (item : Sexpr) → slice_get (c.word ∷ others) k ≡ Some item → HasShape (due_in_command (Some head.SynthFun) k) item) → Ranked (wanted_limits form)
    by [] is fit shaped = absurd (false_true fit)
    by (a ∷ []) is fit shaped = absurd (false_true fit)
    by (a ∷ b ∷ []) is fit shaped = absurd (false_true fit)
    by (name ∷ params ∷ type ∷ []) is fit shaped =
        let s = items_chain low form high (c.word ∷ name ∷ params ∷ type ∷ []) is h in
        let name_is : item_of 1 form ≡ name = ap (λ ps. unwrap_or (slice_get ps 1) form) is in
        let none : nonterminals_of form ≡ [] = ap (λ ps. map pair_of (option_map_or parts_of (slice_get ps 4) [])) is in
        let groups : items_at 5 form ≡ [] = ap (λ ps. option_map_or parts_of (slice_get ps 5) []) is in
        let one = long_within s.4.0 (atom_of name) s.4.1 (span_place s.4.0 name s.4.1 s.4.3) in
        let end : InOrder s.4.1 [] s.4.1 = nothing s.4.1 s.4.1 (omega arith) in (
          s.4.0,
          s.4.1,
          subst (λ (f : Sexpr). InOrder s.4.0 (long_name (atom_of f) ++ pairs_limits 256 12 0 (nonterminals_of form) ++ found_from production_limits 0 (flat_map (items_at 2) (items_at 5 form))) s.4.1) (sym name_is)
              (subst (λ ps. InOrder s.4.0 (long_name (atom_of name) ++ pairs_limits 256 12 0 ps ++ found_from production_limits 0 (flat_map (items_at 2) (items_at 5 form))) s.4.1) (sym none)
              (subst (λ gs. InOrder s.4.0 (long_name (atom_of name) ++ [] ++ found_from production_limits 0 (flat_map (items_at 2) gs)) s.4.1) (sym groups)
              (order_joined s.4.0 (long_name (atom_of name) ++ []) s.4.1 [] s.4.1 (order_joined s.4.0 (long_name (atom_of name)) s.4.1 [] s.4.1 one end) end))),
        )
    by (name ∷ params ∷ type ∷ d ∷ []) is fit shaped = absurd (false_true fit)
    by (name ∷ params ∷ type ∷ names ∷ groups ∷ []) is fit shaped =
        let s = items_chain low form high (c.word ∷ name ∷ params ∷ type ∷ names ∷ groups ∷ []) is h in
        let name_is : item_of 1 form ≡ name = ap (λ ps. unwrap_or (slice_get ps 1) form) is in
        let names_is : nonterminals_of form ≡ map pair_of (parts_of names) = ap (λ ps. map pair_of (option_map_or parts_of (slice_get ps 4) [])) is in
        let groups_is : items_at 5 form ≡ parts_of groups = ap (λ ps. option_map_or parts_of (slice_get ps 5) []) is in
        let n = s.4.4.4.4 in let g = s.4.4.4.4.4 in
        let p = span_place s.4.4.0 params s.4.4.1 s.4.4.3 in let t = span_place s.4.4.4.0 type s.4.4.4.1 s.4.4.4.3 in
        let p0 = p.0 in let p1 = p.1 in let t0 = t.0 in let t1 = t.1 in let s442 = s.4.4.2 in let s4442 = s.4.4.4.2 in let n2 = n.2 in
        let one = long_within s.4.0 (atom_of name) s.4.1 (span_place s.4.0 name s.4.1 s.4.3) in
        let pairs = pairs_order 256 12 0 n.0 (map pair_of (parts_of names)) n.1 (omega arith) (pairs_chain n.0 names n.1 (shaped 4 names refl) n.3) in
        let productions = faults_from Spans production_limits production_order 0 g.0 (flat_map (items_at 2) (parts_of groups)) g.1
        (chain_flat (Such (HasShape (One role.Nonterminal))) Spans (items_at 2) productions_chain g.0 (parts_of groups) g.1 (role_chain role.Nonterminal g.0 groups g.1 (shaped 5 groups refl) g.3)) in (
          s.4.0,
          g.1,
          subst (λ (f : Sexpr). InOrder s.4.0 (long_name (atom_of f) ++ pairs_limits 256 12 0 (nonterminals_of form) ++ found_from production_limits 0 (flat_map (items_at 2) (items_at 5 form))) g.1) (sym name_is)
              (subst (λ ps. InOrder s.4.0 (long_name (atom_of name) ++ pairs_limits 256 12 0 ps ++ found_from production_limits 0 (flat_map (items_at 2) (items_at 5 form))) g.1) (sym names_is)
              (subst (λ gs. InOrder s.4.0 (long_name (atom_of name) ++ pairs_limits 256 12 0 (map pair_of (parts_of names)) ++ found_from production_limits 0 (flat_map (items_at 2) gs)) g.1) (sym groups_is)
              (order_joined s.4.0 (long_name (atom_of name) ++ pairs_limits 256 12 0 (map pair_of (parts_of names))) n.1 (found_from production_limits 0 (flat_map (items_at 2) (parts_of groups))) g.1
              (order_joined s.4.0 (long_name (atom_of name)) s.4.1 (pairs_limits 256 12 0 (map pair_of (parts_of names))) n.1 one
              (order_lower n.0 s.4.1 (pairs_limits 256 12 0 (map pair_of (parts_of names))) n.1 (omega (arith, s442, p0, p1, s4442, t0, t1, n2)) pairs))
              (order_lower g.0 n.1 (found_from production_limits 0 (flat_map (items_at 2) (parts_of groups))) g.1 g.2 productions)))),
        )
    by (name ∷ params ∷ type ∷ d ∷ e ∷ f ∷ others) is fit shaped = absurd (false_true fit)

limits_ranked : (s : State) (h : Head) (low : ℕ) (form : Sexpr) (high : ℕ) → Command h form → Spans low form high → Ranked (limits s h form)
limits_ranked s head.SetInfo low form high c span = none_ranked
limits_ranked s head.DeclareTermTypes low form high c span = terms_ranked (length s.signature.types) (length s.signature.constructors) low form high c span
limits_ranked s head.DefineFunsRec low form high c span = functions_ranked (length s.signature.relations) (length s.rules) low form high c span
limits_ranked s head.SynthFun low form high c span = wanted_ranked low form high c span
limits_ranked s head.Constraint low form high c span = examples_ranked (length s.constraints) low form high span
limits_ranked s head.CheckSynth low form high c span = none_ranked

pub ranked_in_order : (faults : List Fault) → Ranked faults → AreInOrder faults
ranked_in_order faults h = in_order (65536 * h.0) faults (65536 * h.1) h.2

pub limits_in_order : (s : State) (h : Head) (low : ℕ) (form : Sexpr) (high : ℕ) → head_of (parts_of form) ≡ Some h → first (shapes form) ≡ None → Spans low form high → AreInOrder (limits s h form)
limits_in_order s h low form high word none span = ranked_in_order (limits s h form) (limits_ranked s h low form high (command_of h form word none) span)
