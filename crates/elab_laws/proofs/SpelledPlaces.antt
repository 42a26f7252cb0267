-- The nodes of the forms that a text spells stand at rising places, and so do the bad nodes of a shape.
use Rattle.std.proofs.Common.{◌≡◌, ℕ, suc, ◌+◌, ◌*◌, ◌<◌, ◌≤◌, Bool, true, false, List, [], ◌∷◌, ◌++◌, map, length, refl, sym, ap, ◌∙◌, subst, rules, arith}
use Rattle.std.specs.Prelude.{All, if◌then◌else◌}
use Rattle.std.specs.List.{flat_map}
use Rattle.std.proofs.lemmas.List.Elements.{All-nil, All-cons, All-head, All-tail}
use Rattle.sexpr_core.specs.declared.form.Atom.{Atom}
use Rattle.sexpr_core.specs.declared.form.Nest.{Nest}
use Rattle.sexpr_core.specs.declared.form.Sexpr.{Sexpr}
use Rattle.sexpr_core.specs.declared.form.Sexpr as sexpr
use Rattle.sexpr_core.specs.Access.{place_of, parts_of}
use Rattle.sexpr_core.specs.Spelling.{IsToken, Spelled, Spell, nothing, blank, comment, token, list, numeral, simple_symbol, quoted_symbol, string, keyword}
use Rattle.sexpr_core.proofs.Tokens.{begins}
use Rattle.syntax_core.specs.declared.roles.Due.{Due}
use Rattle.syntax_core.specs.declared.roles.Due.TheVariants.{One}
use Rattle.syntax_core.specs.declared.roles.Role.TheVariants as role
use Rattle.syntax_core.specs.Misfits.{misfits, misfits_from}
use Rattle.syntax_core.specs.Roles.{due_in, fits}
use Rattle.syntax_core.proofs.Misfitting.{measure, misfits-is, parts-Keyword, parts-List, parts-Numeral, parts-Symbol, parts-Text}
use Rattle.name_core.specs.Faults.{shapes}
use Rattle.making_core.proofs.FormInduction.{by_items}
use Rattle.making_core.proofs.ShapedForms.{at-Keyword, at-List, at-Numeral, at-Symbol, at-Text}
use Rattle.elab_laws.specs.Places.{AreInOrder, Rise, places_in}
use Rattle.elab_laws.proofs.Rising.{Within, bounds, from_lower, in_order, joined, ordered_nodes, parted, rise}

places-Symbol : (a : Atom) → places_in (sexpr.Symbol a) ≡ a.place ∷ []
places-Symbol a = search (rules, sexpr.the_lemmas)

places-Numeral : (a : Atom) → places_in (sexpr.Numeral a) ≡ a.place ∷ []
places-Numeral a = search (rules, sexpr.the_lemmas)

places-Text : (a : Atom) → places_in (sexpr.Text a) ≡ a.place ∷ []
places-Text a = search (rules, sexpr.the_lemmas)

places-Keyword : (a : Atom) → places_in (sexpr.Keyword a) ≡ a.place ∷ []
places-Keyword a = search (rules, sexpr.the_lemmas)

places-Nest : (n : Nest) → places_in (sexpr.List n) ≡ n.place ∷ flat_map (λ places. places) (map places_in n.items)
places-Nest n = search (rules, sexpr.the_lemmas)

over_items : (forms : List Sexpr) → flat_map (λ places. places) (map places_in forms) ≡ flat_map places_in forms
over_items [] = refl
over_items (form ∷ forms) = ap (λ xs. places_in form ++ xs) (over_items forms)

pub places-List : (n : Nest) → places_in (sexpr.List n) ≡ n.place ∷ flat_map places_in n.items
places-List n = places-Nest n ∙ ap (λ xs. n.place ∷ xs) (over_items n.items)

leaf_places : (form : Sexpr) (place : ℕ) → places_in form ≡ place ∷ [] → place_of form ≡ place → parts_of form ≡ [] → places_in form ≡ place_of form ∷ flat_map places_in (parts_of form)
leaf_places form place places at parts = places ∙ sym (ap (λ p. p ∷ flat_map places_in (parts_of form)) at ∙ ap (λ ps. place ∷ flat_map places_in ps) parts)

-- a form's node, and those of its items
pub places-is : (form : Sexpr) → places_in form ≡ place_of form ∷ flat_map places_in (parts_of form)
places-is = by_items (λ form. places_in form ≡ place_of form ∷ flat_map places_in (parts_of form))
    (λ a. leaf_places (sexpr.Symbol a) a.place (places-Symbol a) (at-Symbol a) (parts-Symbol a))
    (λ a. leaf_places (sexpr.Numeral a) a.place (places-Numeral a) (at-Numeral a) (parts-Numeral a))
    (λ a. leaf_places (sexpr.Text a) a.place (places-Text a) (at-Text a) (parts-Text a))
    (λ a. leaf_places (sexpr.Keyword a) a.place (places-Keyword a) (at-Keyword a) (parts-Keyword a))
    (λ n all. places-List n ∙ sym (ap (λ p. p ∷ flat_map places_in (parts_of (sexpr.List n))) (at-List n) ∙ ap (λ ps. n.place ∷ flat_map places_in ps) (parts-List n)))

-- the nodes of a form stand within these bounds
abbrev pub Spans : ℕ → Sexpr → ℕ → Type 0
Spans low form high = Within low (places_in form) high

abbrev pub SpanAll : ℕ → List Sexpr → ℕ → Type 0
SpanAll low forms high = Within low (flat_map places_in forms) high

-- Spelled forms.

token_places : {place : ℕ} {rest text : List ℕ} {form : Sexpr} → IsToken place rest text form → places_in form ≡ place ∷ []
token_places (numeral text h e) = places-Numeral _
token_places (simple_symbol text h e) = places-Symbol _
token_places (quoted_symbol name h) = places-Symbol _
token_places (string contents h e) = places-Text _
token_places (keyword name h e) = places-Keyword _

token_length : {place : ℕ} {rest text : List ℕ} {form : Sexpr} → IsToken place rest text form → 0 < length text
token_length {place} {rest} {text} {form} t =
    let b = begins t in
    let e : length text ≡ suc (length b.others) = ap (λ v. length v) b.is in
    omega arith

pub spelled_within : {d p : ℕ} {b : List ℕ} {fs : List Sexpr} {e : ℕ} {r : List ℕ} → Spelled d p b fs e r → SpanAll p fs e
spelled_within (nothing d p r) = omega arith
spelled_within (blank d p byte bytes fs e r is u) = from_lower (p + 1) p (flat_map places_in fs) e (omega arith) (spelled_within u)
spelled_within (comment d p text bytes fs e r is ends u) = from_lower (p + (1 + length text)) p (flat_map places_in fs) e (omega arith) (spelled_within u)
spelled_within (token d p text bytes f fs e r is u) =
    let long = token_length is in
    let more = from_lower (p + length text) (p + 1) (flat_map places_in fs) e (omega (arith, long)) (spelled_within u) in
    let all : SpanAll p (f ∷ fs) e = subst (λ xs. Within p (xs ++ flat_map places_in fs) e) (sym (token_places is)) (omega arith, more) in all
spelled_within (list d p bytes items close after fs e r inner u) =
    let within = spelled_within inner in
    let more = from_lower (close + 1) close (flat_map places_in fs) e (omega arith) (spelled_within u) in
    let node : Within p (p ∷ flat_map places_in items) close = (omega arith, within) in
    let all : SpanAll p (sexpr.List (record { place = p; items = items }) ∷ fs) e =
    joined p (places_in (sexpr.List (record { place = p; items = items }))) close (flat_map places_in fs) e
    (subst (λ xs. Within p xs close) (sym (places-List (record { place = p; items = items }))) node) more in all

pub spell_rise : (text : List ℕ) (forms : List Sexpr) → Spell text forms → Rise (flat_map places_in forms)
spell_rise text forms spelled = rise 0 (flat_map places_in forms) spelled.0 (spelled_within spelled.1)

-- Shapes.

by_parts : (P : Sexpr → Type 0) → ((form : Sexpr) → All P (parts_of form) → P form) → (form : Sexpr) → P form
by_parts P step = by_items P
    (λ a. step (sexpr.Symbol a) (subst (All P) (sym (parts-Symbol a)) (All-nil P)))
    (λ a. step (sexpr.Numeral a) (subst (All P) (sym (parts-Numeral a)) (All-nil P)))
    (λ a. step (sexpr.Text a) (subst (All P) (sym (parts-Text a)) (All-nil P)))
    (λ a. step (sexpr.Keyword a) (subst (All P) (sym (parts-Keyword a)) (All-nil P)))
    (λ n all. step (sexpr.List n) (subst (All P) (sym (parts-List n)) all))

-- the node and the items of a form within bounds
pub level_within : (low : ℕ) (form : Sexpr) (high : ℕ) → Spans low form high → (low ≤ place_of form) × SpanAll (place_of form + 1) (parts_of form) high
level_within low form high h = subst (λ xs. Within low xs high) (places-is form) h

abbrev HasMisfitsWithin : Sexpr → Type 0
HasMisfitsWithin form = (due : Due) (low high : ℕ) → Spans low form high → Within low (misfits due form) high

misfits_of_items : (due : Due) (parts items : List Sexpr) (k low high : ℕ) → All HasMisfitsWithin items → SpanAll low items high → Within low (misfits_from due parts k (map measure items)) high
misfits_of_items due parts [] k low high all h = h
misfits_of_items due parts (item ∷ items) k low high all h =
    let both = parted low (places_in item) (flat_map places_in items) high h in
    joined low (misfits (due_in due parts k) item) both.0 (misfits_from due parts (suc k) (map measure items)) high
    (All-head HasMisfitsWithin item items all (due_in due parts k) low both.0 both.1)
    (misfits_of_items due parts items (suc k) both.0 high (All-tail HasMisfitsWithin item items all) both.2)

misfits_by : (due : Due) (form : Sexpr) (low high : ℕ) (b : Bool) → All HasMisfitsWithin (parts_of form) → (low ≤ place_of form) × SpanAll (place_of form + 1) (parts_of form) high →
    Within low (if b then misfits_from due (parts_of form) 0 (map measure (parts_of form)) else place_of form ∷ []) high
misfits_by due form low high true all h =
    let here = h.0 in
    from_lower (place_of form + 1) low (misfits_from due (parts_of form) 0 (map measure (parts_of form))) high (omega (arith, here))
    (misfits_of_items due (parts_of form) (parts_of form) 0 (place_of form + 1) high all h.1)
misfits_by due form low high false all h = (h.0, bounds (place_of form + 1) (flat_map places_in (parts_of form)) high h.1)

pub misfits_within : (form : Sexpr) → HasMisfitsWithin form
misfits_within = by_parts HasMisfitsWithin
    (λ form all due low high h. subst (λ xs. Within low xs high) (sym (misfits-is form due)) (misfits_by due form low high (fits due form) all (level_within low form high h)))

-- what holds of forms within bounds holds of each of them, within bounds of its own
pub one_within : (low : ℕ) (forms : List Sexpr) (high : ℕ) → SpanAll low forms high → All (λ form. (from : ℕ) × (to : ℕ) × Spans from form to) forms
one_within low [] high h = All-nil (λ form. (from : ℕ) × (to : ℕ) × Spans from form to)
one_within low (form ∷ forms) high h =
    let both = parted low (places_in form) (flat_map places_in forms) high h in
    All-cons (λ form. (from : ℕ) × (to : ℕ) × Spans from form to) form forms (low, both.0, both.1) (one_within both.0 forms high both.2)

pub shapes_in_order : (low : ℕ) (form : Sexpr) (high : ℕ) → Spans low form high → AreInOrder (shapes form)
shapes_in_order low form high h =
    in_order (65536 * low) (shapes form) (65536 * high)
    (ordered_nodes 10 low (misfits (One role.Command) form) high (omega arith) (misfits_within form (One role.Command) low high h))
