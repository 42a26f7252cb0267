-- Where the parts of syntax stand that forms of right shape are read as.
use Rattle.std.proofs.Common.{◌≡◌, ℕ, zero, suc, ◌+◌, ◌<◌, ◌≤◌, Bool, true, false, Option, Some, None, is_some, List, [], ◌∷◌, ◌++◌, map, drop, length, slice_get, refl, sym, ap, ◌∙◌, subst, arith}
use Rattle.std.specs.Prelude.{All, ◌||◌, nat_eq, nat_le, codes, unwrap_or, if◌then◌else◌}
use Rattle.std.specs.List.{flat_map}
use Rattle.std.specs.Option.{option_map_or}
use Rattle.std.proofs.lemmas.Bool.{eqb-true}
use Rattle.std.proofs.lemmas.List.Elements.{All-nil}
use Rattle.sig_core.specs.Names.{same_name}
use Rattle.sexpr_core.specs.declared.form.Atom.{Atom}
use Rattle.sexpr_core.specs.declared.form.Nest.{Nest}
use Rattle.sexpr_core.specs.declared.form.Sexpr.{Sexpr, out-Sexpr}
use Rattle.sexpr_core.specs.declared.form.Sexpr.TheOpen.{Sexpr-F}
use Rattle.sexpr_core.specs.Access.{items_in, items_of, numeral_in, numeral_of, place_of, symbol_in, symbol_of, parts_of, item_of, others_of}
use Rattle.syntax_core.specs.declared.roles.Due.{Due}
use Rattle.syntax_core.specs.declared.roles.Due.TheVariants.{One, Many}
use Rattle.syntax_core.specs.declared.roles.Role.TheVariants as role
use Rattle.syntax_core.specs.declared.syntax.Body.{Body}
use Rattle.syntax_core.specs.declared.syntax.Body as body
use Rattle.syntax_core.specs.declared.syntax.Case.{Case}
use Rattle.syntax_core.specs.declared.syntax.Exp.{Exp}
use Rattle.syntax_core.specs.declared.syntax.Pair.{Pair}
use Rattle.syntax_core.specs.declared.syntax.Pattern.{Pattern}
use Rattle.syntax_core.specs.Roles.{after_symbol, are_headed, due_in, due_in_conjunct, due_in_exists, is_conjunct, is_filled, is_list_of, name_at_front}
use Rattle.syntax_core.specs.Shapes.{HasShape}
use Rattle.syntax_core.specs.Syntax.{atom_of, begins, body_of, case_of, conjuncts_of, deepest, expression_of, leaf_of, pair_of, pairs_of, pattern_of}
use Rattle.name_core.specs.Bodies.{Node, bound, bound_after, leaf, nodes_of, nodes_within}
use Rattle.name_core.proofs.LimitFacts.{no_items}
use Rattle.name_core.proofs.WalkLaws.{nodes-Fork, nodes-Leaf}
use Rattle.making_core.proofs.ShapedForms.{due_next, false_true, fit_of, item_shape, listed}
use Rattle.elab_laws.proofs.Chains.{Chain, Such, all_at, chain_flat, chain_higher, chain_joined, chain_lower, chain_map, span_others, span_parts, span_place, spans_chain, such_chain}
use Rattle.elab_laws.proofs.SpelledPlaces.{SpanAll, Spans, level_within}

-- Lists of so many items.

pub two_items : (items : List Sexpr) → length items ≡ 2 → (a : Sexpr) × (b : Sexpr) × (items ≡ a ∷ b ∷ [])
two_items [] count = absurd (omega arith)
two_items (a ∷ []) count = absurd (omega arith)
two_items (a ∷ b ∷ []) count = (a, b, refl)
two_items (a ∷ b ∷ c ∷ items) count = absurd (omega arith)

pub three_items : (items : List Sexpr) → length items ≡ 3 → (a : Sexpr) × (b : Sexpr) × (c : Sexpr) × (items ≡ a ∷ b ∷ c ∷ [])
three_items [] count = absurd (omega arith)
three_items (a ∷ []) count = absurd (omega arith)
three_items (a ∷ b ∷ []) count = absurd (omega arith)
three_items (a ∷ b ∷ c ∷ []) count = (a, b, c, refl)
three_items (a ∷ b ∷ c ∷ d ∷ items) count = absurd (omega arith)

-- the items of a form that are these stand one after the other, after its node
pub items_chain : (low : ℕ) (form : Sexpr) (high : ℕ) (items : List Sexpr) → parts_of form ≡ items → Spans low form high → Chain Spans (place_of form + 1) items high
items_chain low form high items is h = spans_chain (place_of form + 1) items high (subst (λ ps. SpanAll (place_of form + 1) ps high) is (level_within low form high h).1)

pub shape_of_item : (due : Due) (form : Sexpr) (items : List Sexpr) → parts_of form ≡ items → HasShape due form → (k : ℕ) (item : Sexpr) → slice_get items k ≡ Some item → HasShape (due_in due (parts_of form) k) item
shape_of_item due form items is shape k item at = item_shape shape k item (ap (λ ps. slice_get ps k) is ∙ at)

-- Symbols and pairs.

abbrev pub AtomIn : ℕ → Atom → ℕ → Type 0
AtomIn low a high = (low ≤ a.place) × (a.place < high)

pub atom_in : (low : ℕ) (form : Sexpr) (high : ℕ) → Spans low form high → AtomIn low (atom_of form) high
atom_in low form high h = span_place low form high h

pub atoms_chain : (low : ℕ) (forms : List Sexpr) (high : ℕ) → SpanAll low forms high → Chain AtomIn low (map atom_of forms) high
atoms_chain low forms high h = chain_map Spans AtomIn atom_of atom_in low forms high (spans_chain low forms high h)

abbrev pub PairIn : ℕ → Pair → ℕ → Type 0
PairIn low p high = (low ≤ p.place) × (p.place < p.name.place) × (p.name.place < p.sort.place) × (p.sort.place < high)

pub pair_in : (low : ℕ) (form : Sexpr) (high : ℕ) → is_list_of 2 form ≡ true → Spans low form high → PairIn low (pair_of form) high
pair_in low form high fit h =
    let two = two_items (parts_of form) (listed 2 (items_of form) fit) in
    let node = span_place low form high h in
    let c = items_chain low form high (two.0 ∷ two.1 ∷ []) two.2 h in
    let a = span_place c.0 two.0 c.1 c.3 in
    let b = span_place c.4.0 two.1 c.4.1 c.4.3 in
    let name : place_of (item_of 0 form) ≡ place_of two.0 = ap (λ ps. place_of (unwrap_or (slice_get ps 0) form)) two.2 in
    let sort : place_of (item_of 1 form) ≡ place_of two.1 = ap (λ ps. place_of (unwrap_or (slice_get ps 1) form)) two.2 in
    let low_a = c.2 in let low_b = c.4.2 in let end = c.4.4 in
    let n0 = node.0 in let a0 = a.0 in let a1 = a.1 in let b0 = b.0 in let b1 = b.1 in
    (n0, omega (arith, name, low_a, a0), omega (arith, name, sort, a1, low_b, b0), omega (arith, sort, b1, end))

such_pair : (low : ℕ) (form : Sexpr) (high : ℕ) → Such (HasShape (One role.Pair)) low form high → PairIn low (pair_of form) high
such_pair low form high h = pair_in low form high (fit_of h.0) h.1

-- `((s s) ..)`
pub pairs_chain : (low : ℕ) (form : Sexpr) (high : ℕ) → HasShape (Many role.Pair) form → Spans low form high → Chain PairIn low (pairs_of form) high
pairs_chain low form high shape h =
    chain_map (Such (HasShape (One role.Pair))) PairIn pair_of such_pair low (parts_of form) high
    (such_chain (HasShape (One role.Pair)) low (parts_of form) high (all_at (HasShape (One role.Pair)) (parts_of form) (item_shape shape)) (span_parts low form high h))

-- Patterns.

abbrev pub PatternIn : ℕ → Pattern → ℕ → Type 0
PatternIn low p high = (low ≤ p.place) × (p.place ≤ p.name.place) × Chain AtomIn (p.name.place + 1) p.variables high

pub filled : (o : Option (List Sexpr)) → option_map_or (λ items. nat_le 1 (length items)) o false ≡ true → (a : Sexpr) × (more : List Sexpr) × (unwrap_or o [] ≡ a ∷ more)
filled None fit = absurd (false_true fit)
filled (Some []) fit = absurd (false_true fit)
filled (Some (a ∷ more)) fit = (a, more, refl)

pub pattern_in : (low : ℕ) (form : Sexpr) (high : ℕ) → (is_some (symbol_of form) || is_filled form) ≡ true → Spans low form high → PatternIn low (pattern_of form) high
pattern_in low form high fit h = by (is_some (symbol_of form)) refl fit
  where
    by : (b : Bool) → is_some (symbol_of form) ≡ b → (b || is_filled form) ≡ true →
        (low ≤ place_of form) × (place_of form ≤ (if b then atom_of form else atom_of (item_of 0 form)).place) × Chain AtomIn ((if b then atom_of form else atom_of (item_of 0 form)).place + 1) (map atom_of (drop 1 (parts_of form))) high
    by true is fit =
        let node = span_place low form high h in
        let n0 = node.0 in let n1 = node.1 in
        let none : parts_of form ≡ [] = no_items (out-Sexpr form) is in
        (n0, omega arith, subst (λ ps. Chain AtomIn (place_of form + 1) (map atom_of (drop 1 ps)) high) (sym none) (omega (arith, n1)))
    by false is fit =
        let node = span_place low form high h in
        let n0 = node.0 in
        let some = filled (items_of form) fit in
        let c = items_chain low form high (some.0 ∷ some.1) some.2 h in
        let a = span_place c.0 some.0 c.1 c.3 in
        let a0 = a.0 in let a1 = a.1 in let low_a = c.2 in
        let name : place_of (item_of 0 form) ≡ place_of some.0 = ap (λ ps. place_of (unwrap_or (slice_get ps 0) form)) some.2 in (
          n0,
          omega (arith, name, a0, low_a),
          subst (λ ps. Chain AtomIn (place_of (item_of 0 form) + 1) (map atom_of (drop 1 ps)) high) (sym some.2)
              (chain_lower AtomIn c.1 (place_of (item_of 0 form) + 1) (map atom_of some.1) high (omega (arith, name, a1)) (chain_map Spans AtomIn atom_of atom_in c.1 some.1 high c.4)),
        )

-- Expressions stand where the forms do that they are read from.

abbrev pub ExpIn : ℕ → Exp → ℕ → Type 0
ExpIn low e high = (form : Sexpr) × (e ≡ expression_of form) × Spans low form high

pub exps_chain : (low : ℕ) (forms : List Sexpr) (high : ℕ) → Chain Spans low forms high → Chain ExpIn low (map expression_of forms) high
exps_chain low forms high h = chain_map Spans ExpIn expression_of (λ low form high s. (form, refl, s)) low forms high h

pub conjuncts_chain : (depth low : ℕ) (form : Sexpr) (high : ℕ) → Spans low form high → Chain ExpIn low (conjuncts_of depth form) high
unfolding conjuncts_of
conjuncts_chain zero low form high h = (low, high, omega arith, (form, refl, h), omega arith)
conjuncts_chain (suc depth) low form high h = by (begins (codes "and") form) (λ low form high h. conjuncts_chain depth low form high h)
  where
    by : (b : Bool) → ((low : ℕ) (form : Sexpr) (high : ℕ) → Spans low form high → Chain ExpIn low (conjuncts_of depth form) high) →
        Chain ExpIn low (if b then flat_map (conjuncts_of depth) (others_of form) else expression_of form ∷ []) high
    by true inner =
        chain_flat Spans ExpIn (conjuncts_of depth) inner low (others_of form) high (spans_chain low (others_of form) high (span_others low (parts_of form) high (span_parts low form high h)))
    by false inner = (low, high, omega arith, (form, refl, h), omega arith)

-- Bodies.

abbrev pub NodeIn : ℕ → Node → ℕ → Type 0
NodeIn low (bound around pair) high = PairIn low pair high
NodeIn low (leaf around l) high = (low ≤ l.place) × (l.place < high) × Chain ExpIn low l.atoms high

bound_chain : (around : List Pair) (low : ℕ) (pairs : List Pair) (high : ℕ) → Chain PairIn low pairs high → Chain NodeIn low (bound_after around pairs) high
bound_chain around low [] high h = h
bound_chain around low (pair ∷ pairs) high h = (h.0, h.1, h.2, h.3, bound_chain (around ++ pair ∷ []) h.1 pairs high h.4)

leaf_chain : (depth low : ℕ) (form : Sexpr) (high : ℕ) (around : List Pair) → Spans low form high → Chain NodeIn low (nodes_within (body.Leaf (leaf_of depth form)) around) high
leaf_chain depth low form high around h =
    let node = span_place low form high h in
    let one : Chain NodeIn low (leaf around (leaf_of depth form) ∷ []) high = (low, high, omega arith, (node.0, node.1, conjuncts_chain depth low form high h), omega arith) in
    subst (λ ns. Chain NodeIn low ns high) (sym (nodes-Leaf (leaf_of depth form) around)) one

fork_chain : (pairs : List Pair) (bodies : List Body) (around : List Pair) (low middle high : ℕ) → Chain PairIn low pairs middle → Chain NodeIn middle (flat_map (λ b. nodes_within b (around ++ pairs)) bodies) high →
    Chain NodeIn low (nodes_within (body.Fork (record { pairs = pairs; bodies = bodies })) around) high
fork_chain pairs bodies around low middle high h k =
    subst (λ ns. Chain NodeIn low ns high) (sym (nodes-Fork (record { pairs = pairs; bodies = bodies }) around))
    (chain_joined NodeIn low (bound_after around pairs) middle (flat_map (λ b. nodes_within b (around ++ pairs)) bodies) high (bound_chain around low pairs middle h) k)

two_more : (first : Sexpr) (others : List Sexpr) → nat_eq (length others) 2 ≡ true → (a : Sexpr) × (b : Sexpr) × (first ∷ others ≡ first ∷ a ∷ b ∷ [])
two_more first [] h = absurd (false_true h)
two_more first (a ∷ []) h = absurd (false_true h)
two_more first (a ∷ b ∷ []) h = (a, b, refl)
two_more first (a ∷ b ∷ c ∷ others) h = let count = eqb-true (length (a ∷ b ∷ c ∷ others)) 2 h in absurd (omega (arith, count))

exists_by : (first : Sexpr) (others : List Sexpr) (o : Option (List ℕ)) → symbol_of first ≡ o →
    option_map_or (λ name. if same_name (codes "exists") name then nat_eq (length others) 2 else (if same_name (codes "or") name then nat_le 1 (length others) else is_conjunct name (length others))) o true ≡ true →
    same_name (codes "exists") (unwrap_or o []) ≡ true → (a : Sexpr) × (b : Sexpr) × (first ∷ others ≡ first ∷ a ∷ b ∷ [])
exists_by first others None is h named = absurd (false_true named)
exists_by first others (Some name) is h named =
    two_more first others (sym (ap (λ b. if b then nat_eq (length others) 2 else (if same_name (codes "or") name then nat_le 1 (length others) else is_conjunct name (length others))) named) ∙ h)

-- the items of an `exists`
record IsExists (items : List Sexpr) : Type 0 where
  word : Sexpr
  pairs : Sexpr
  inner : Sexpr
  is : items ≡ word ∷ pairs ∷ inner ∷ []

exists_items : (items : List Sexpr) → are_headed role.Body items ≡ true → same_name (codes "exists") (name_at_front items) ≡ true → IsExists items
exists_items [] h named = absurd (false_true h)
exists_items (first ∷ others) h named = let e = exists_by first others (symbol_of first) refl h named in record { word = first; pairs = e.0; inner = e.1; is = e.2 }

no_name : (o : Option (List Sexpr)) → o ≡ None → same_name (codes "exists") (name_at_front (unwrap_or o [])) ≡ true → ⊥
no_name o is named = false_true (sym (ap (λ x. same_name (codes "exists") (name_at_front (unwrap_or x []))) is) ∙ named)

exists_in : (plain : Bool) (o : Option (List Sexpr)) → (plain ≡ true → o ≡ None) → (plain || option_map_or (are_headed role.Body) o false) ≡ true → same_name (codes "exists") (name_at_front (unwrap_or o [])) ≡ true →
    IsExists (unwrap_or o [])
exists_in true o token h named = absurd (no_name o (token refl) named)
exists_in false None token h named = absurd (false_true h)
exists_in false (Some items) token h named = exists_items items h named

plain_none : (x : Sexpr-F Sexpr Nest) → (is_some (symbol_in x) || is_some (numeral_in x)) ≡ true → items_in x ≡ None
plain_none (Sexpr-F.Symbol a) h = refl
plain_none (Sexpr-F.Numeral a) h = refl
plain_none (Sexpr-F.Text a) h = refl
plain_none (Sexpr-F.Keyword a) h = refl
plain_none (Sexpr-F.List n) h = absurd (false_true h)

exists_of : (form : Sexpr) → HasShape (One role.Body) form → begins (codes "exists") form ≡ true → IsExists (parts_of form)
exists_of form shape named = exists_in (is_some (symbol_of form) || is_some (numeral_of form)) (items_of form) (plain_none (out-Sexpr form)) (fit_of shape) named

bodies_chain : (read : Sexpr → Body) (around : List Pair) → ((low : ℕ) (f : Sexpr) (high : ℕ) → Such (HasShape (One role.Body)) low f high → Chain NodeIn low (nodes_within (read f) around) high) →
    (low : ℕ) (forms : List Sexpr) (high : ℕ) → Chain (Such (HasShape (One role.Body))) low forms high → Chain NodeIn low (flat_map (λ b. nodes_within b around) (map read forms)) high
bodies_chain read around each low [] high h = h
bodies_chain read around each low (f ∷ fs) high h =
    chain_joined NodeIn low (nodes_within (read f) around) h.1 (flat_map (λ b. nodes_within b around) (map read fs)) high
    (chain_lower NodeIn h.0 low (nodes_within (read f) around) h.1 h.2 (each h.0 f h.1 h.3)) (bodies_chain read around each h.1 fs high h.4)

others_such : (form : Sexpr) → ((k : ℕ) → due_in (One role.Body) (parts_of form) (suc k) ≡ One role.Body) → HasShape (One role.Body) form → All (HasShape (One role.Body)) (drop 1 (parts_of form))
others_such form due shape = by (parts_of form) (λ k item at. subst (λ d. HasShape d item) (due k) (item_shape shape (suc k) item at))
  where
    by : (items : List Sexpr) → ((k : ℕ) (item : Sexpr) → slice_get items (suc k) ≡ Some item → HasShape (One role.Body) item) → All (HasShape (One role.Body)) (drop 1 items)
    by [] each = All-nil (HasShape (One role.Body))
    by (first ∷ others) each = all_at (HasShape (One role.Body)) others each

abbrev BodyChains : ℕ → Type 0
BodyChains depth = (low : ℕ) (form : Sexpr) (high : ℕ) (around : List Pair) → HasShape (One role.Body) form → Spans low form high → Chain NodeIn low (nodes_within (body_of depth form) around) high

exists_chain : (depth : ℕ) → BodyChains depth → (low : ℕ) (form : Sexpr) (high : ℕ) (around : List Pair) → HasShape (One role.Body) form → Spans low form high → begins (codes "exists") form ≡ true →
    Chain NodeIn low (nodes_within (body.Fork (record { pairs = pairs_of (item_of 1 form); bodies = body_of depth (item_of 2 form) ∷ [] })) around) high
exists_chain depth inner low form high around shape h is =
    let e = exists_of form shape is in
    let node = span_place low form high h in
    let c = items_chain low form high (e.word ∷ e.pairs ∷ e.inner ∷ []) e.is h in
    let due : (k : ℕ) → due_in (One role.Body) (parts_of form) k ≡ due_in_exists k =
    λ k. ap (λ b. if b then due_in_exists k else (if begins (codes "or") form then after_symbol role.Body k else due_in_conjunct (name_at_front (parts_of form)) k)) is in
    let second : HasShape (Many role.Pair) e.pairs = subst (λ d. HasShape d e.pairs) (due 1) (shape_of_item (One role.Body) form (e.word ∷ e.pairs ∷ e.inner ∷ []) e.is shape 1 e.pairs refl) in
    let third : HasShape (One role.Body) e.inner = subst (λ d. HasShape d e.inner) (due 2) (shape_of_item (One role.Body) form (e.word ∷ e.pairs ∷ e.inner ∷ []) e.is shape 2 e.inner refl) in
    let pairs_is : item_of 1 form ≡ e.pairs = ap (λ ps. unwrap_or (slice_get ps 1) form) e.is in
    let inner_is : item_of 2 form ≡ e.inner = ap (λ ps. unwrap_or (slice_get ps 2) form) e.is in
    let n0 = node.0 in let w = span_place c.0 e.word c.1 c.3 in let w0 = w.0 in let w1 = w.1 in let c2 = c.2 in let c42 = c.4.2 in
    let pairs = chain_lower PairIn c.4.0 low (pairs_of e.pairs) c.4.1 (omega (arith, n0, w0, w1, c2, c42)) (pairs_chain c.4.0 e.pairs c.4.1 second c.4.3) in
    let end = c.4.4.4 in
    let bodies = inner c.4.4.0 e.inner c.4.4.1 (around ++ pairs_of e.pairs) third c.4.4.3 in
    let nodes : Chain NodeIn c.4.1 (flat_map (λ b. nodes_within b (around ++ pairs_of e.pairs)) (body_of depth e.inner ∷ [])) high =
    chain_joined NodeIn c.4.1 (nodes_within (body_of depth e.inner) (around ++ pairs_of e.pairs)) c.4.4.1 [] high
    (chain_lower NodeIn c.4.4.0 c.4.1 (nodes_within (body_of depth e.inner) (around ++ pairs_of e.pairs)) c.4.4.1 c.4.4.2 bodies) end in
    subst (λ (f : Sexpr). Chain NodeIn low (nodes_within (body.Fork (record { pairs = pairs_of f; bodies = body_of depth (item_of 2 form) ∷ [] })) around) high) (sym pairs_is)
    (subst (λ (f : Sexpr). Chain NodeIn low (nodes_within (body.Fork (record { pairs = pairs_of e.pairs; bodies = body_of depth f ∷ [] })) around) high) (sym inner_is)
    (fork_chain (pairs_of e.pairs) (body_of depth e.inner ∷ []) around low c.4.1 high pairs nodes))

pub nodes_chain : (depth low : ℕ) (form : Sexpr) (high : ℕ) (around : List Pair) → HasShape (One role.Body) form → Spans low form high → Chain NodeIn low (nodes_within (body_of depth form) around) high
unfolding body_of
nodes_chain zero low form high around shape h = leaf_chain zero low form high around h
nodes_chain (suc depth) low form high around shape h =
    by (λ low form high around shape h. nodes_chain depth low form high around shape h) (begins (codes "exists") form) refl (begins (codes "or") form) refl
  where
    by : BodyChains depth → (exists : Bool) → begins (codes "exists") form ≡ exists → (or : Bool) → begins (codes "or") form ≡ or →
        Chain NodeIn low (nodes_within
        (if exists then body.Fork (record { pairs = pairs_of (item_of 1 form); bodies = body_of depth (item_of 2 form) ∷ [] })
        else if or then body.Fork (record { pairs = []; bodies = map (body_of depth) (others_of form) })
        else body.Leaf (leaf_of (suc depth) form)) around) high
    by inner true is or _ = exists_chain depth inner low form high around shape h is
    by inner false is true named =
        let due : (k : ℕ) → due_in (One role.Body) (parts_of form) (suc k) ≡ One role.Body =
        λ k. ap (λ b. if b then due_in_exists (suc k) else (if begins (codes "or") form then after_symbol role.Body (suc k) else due_in_conjunct (name_at_front (parts_of form)) (suc k))) is
        ∙ ap (λ b. if b then after_symbol role.Body (suc k) else due_in_conjunct (name_at_front (parts_of form)) (suc k)) named ∙ due_next role.Body k in
        fork_chain [] (map (body_of depth) (others_of form)) around low low high (omega arith)
        (bodies_chain (body_of depth) (around ++ []) (λ low f high s. inner low f high (around ++ []) s.0 s.1) low (others_of form) high
        (such_chain (HasShape (One role.Body)) low (others_of form) high (others_such form due shape) (span_others low (parts_of form) high (span_parts low form high h))))
    by inner false is false named = leaf_chain (suc depth) low form high around h

-- Cases and definitions.

abbrev pub CaseIn : ℕ → Case → ℕ → Type 0
CaseIn low c high = (middle : ℕ) × PatternIn low c.pattern middle × Chain NodeIn middle (nodes_of c) high

pub case_in : (low : ℕ) (form : Sexpr) (high : ℕ) → Such (HasShape (One role.Case)) low form high → CaseIn low (case_of form) high
case_in low form high s =
    let two = two_items (parts_of form) (listed 2 (items_of form) (fit_of s.0)) in
    let c = items_chain low form high (two.0 ∷ two.1 ∷ []) two.2 s.1 in
    let node = span_place low form high s.1 in
    let n0 = node.0 in let c2 = c.2 in let c42 = c.4.2 in
    let first : HasShape (One role.Constructor) two.0 = shape_of_item (One role.Case) form (two.0 ∷ two.1 ∷ []) two.2 s.0 0 two.0 refl in
    let second : HasShape (One role.Body) two.1 = shape_of_item (One role.Case) form (two.0 ∷ two.1 ∷ []) two.2 s.0 1 two.1 refl in
    let p = pattern_in c.0 two.0 c.1 (fit_of first) c.3 in
    let p0 = p.0 in
    let nodes = nodes_chain deepest c.4.0 two.1 c.4.1 [] second c.4.3 in
    let end = c.4.4 in
    let inner_is : item_of 1 form ≡ two.1 = ap (λ ps. unwrap_or (slice_get ps 1) form) two.2 in
    let pattern_is : item_of 0 form ≡ two.0 = ap (λ ps. unwrap_or (slice_get ps 0) form) two.2 in (
      c.1,
      subst (λ (f : Sexpr). PatternIn low (pattern_of f) c.1) (sym pattern_is) (omega (arith, n0, c2, p0), p.1, p.2),
      subst (λ (f : Sexpr). Chain NodeIn c.1 (nodes_within (body_of deepest f) []) high) (sym inner_is)
          (chain_higher NodeIn c.1 (nodes_within (body_of deepest two.1) []) c.4.1 high end (chain_lower NodeIn c.4.0 c.1 (nodes_within (body_of deepest two.1) []) c.4.1 c42 nodes)),
    )
