-- Forms of right shape, and the items of forms that nest at most so many lists.
use Rattle.std.proofs.Common.{◌≡◌, ◌<◌, ◌≤◌, ℕ, zero, suc, ◌+◌, Bool, true, false, List, [], ◌∷◌, map, drop, length, get_or, slice_get, Option, Some, None, is_some, refl, sym, ap, subst, ◌∙◌, rules, arith}
use Rattle.std.specs.Prelude.{All, ◌||◌, nat_eq, nat_le, codes, unwrap_or, max, if◌then◌else◌}
use Rattle.std.specs.Option.{option_map_or}
use Rattle.std.proofs.lemmas.Bool.{eqb-true}
use Rattle.std.proofs.lemmas.Bool.Decides.{nat_tests}
use Rattle.std.proofs.lemmas.List.Elements.{All-cons, All-head, All-nil, All-tail}
use Rattle.std.proofs.lemmas.Option.{same_Some, slice_get-get_or}
use Rattle.sig_core.specs.Names.{same_name}
use Rattle.sexpr_core.specs.declared.form.Atom.{Atom}
use Rattle.sexpr_core.specs.declared.form.Nest.{Nest}
use Rattle.sexpr_core.specs.declared.form.Sexpr.{Sexpr, the_lemmas}
use Rattle.sexpr_core.specs.declared.form.Sexpr as sexpr
use Rattle.sexpr_core.specs.Access.{items_of, numeral_of, place_of, symbol_of, parts_of, item_of}
use Rattle.sexpr_core.specs.Sizes.{greatest, nesting}
use Rattle.syntax_core.specs.declared.fault.Fault.{Fault}
use Rattle.syntax_core.specs.declared.roles.Due.{Due}
use Rattle.syntax_core.specs.declared.roles.Due.TheVariants.{One}
use Rattle.syntax_core.specs.declared.roles.Role.{Role}
use Rattle.syntax_core.specs.declared.roles.Role.TheVariants as role
use Rattle.syntax_core.specs.declared.syntax.Exp.{the_lemmas as exp_lemmas}
use Rattle.syntax_core.specs.declared.syntax.Exp as exp
use Rattle.syntax_core.specs.Misfits.{misfits}
use Rattle.syntax_core.specs.Roles.{after_symbol, are_headed, are_of_definition, are_of_match, due_in, due_in_conjunct, due_in_exists, fits, is_conjunct, is_list_of, name_at_front}
use Rattle.syntax_core.specs.Shapes.{HasShape, refusal}
use Rattle.syntax_core.specs.Shapes.HasShape.{has_shape}
use Rattle.syntax_core.specs.Syntax.{begins, expression_of, expression_of_nest, nameless, symbol_of_exp}
use Rattle.syntax_core.proofs.MisfitLaws.{no_misfits}
use Rattle.name_core.specs.Faults.{first, shapes}
use Rattle.making_core.proofs.FormInduction.{by_items}

-- What forms are read as.

pub at-Symbol : (a : Atom) → place_of (sexpr.Symbol a) ≡ a.place
at-Symbol a = search (rules, the_lemmas)

pub at-Numeral : (a : Atom) → place_of (sexpr.Numeral a) ≡ a.place
at-Numeral a = search (rules, the_lemmas)

pub at-Text : (a : Atom) → place_of (sexpr.Text a) ≡ a.place
at-Text a = search (rules, the_lemmas)

pub at-Keyword : (a : Atom) → place_of (sexpr.Keyword a) ≡ a.place
at-Keyword a = search (rules, the_lemmas)

pub at-List : (n : Nest) → place_of (sexpr.List n) ≡ n.place
at-List n = search (rules, the_lemmas)

pub parts-List : (n : Nest) → parts_of (sexpr.List n) ≡ n.items
parts-List n = search (rules, the_lemmas)

pub parts-Symbol : (a : Atom) → parts_of (sexpr.Symbol a) ≡ []
parts-Symbol a = search (rules, the_lemmas)

pub parts-Numeral : (a : Atom) → parts_of (sexpr.Numeral a) ≡ []
parts-Numeral a = search (rules, the_lemmas)

pub parts-Text : (a : Atom) → parts_of (sexpr.Text a) ≡ []
parts-Text a = search (rules, the_lemmas)

pub parts-Keyword : (a : Atom) → parts_of (sexpr.Keyword a) ≡ []
parts-Keyword a = search (rules, the_lemmas)

pub read-Symbol : (a : Atom) → expression_of (sexpr.Symbol a) ≡ exp.Symbol a
read-Symbol a = search (rules, the_lemmas)

pub read-Numeral : (a : Atom) → expression_of (sexpr.Numeral a) ≡ exp.Numeral a
read-Numeral a = search (rules, the_lemmas)

pub read-Text : (a : Atom) → expression_of (sexpr.Text a) ≡ exp.Symbol a
read-Text a = search (rules, the_lemmas)

pub read-Keyword : (a : Atom) → expression_of (sexpr.Keyword a) ≡ exp.Symbol a
read-Keyword a = search (rules, the_lemmas)

pub read-List : (n : Nest) → expression_of (sexpr.List n) ≡ expression_of_nest (record { place = n.place; items = map expression_of n.items })
read-List n = search (rules, the_lemmas)

pub nesting-List : (n : Nest) → nesting (sexpr.List n) ≡ 1 + greatest (map nesting n.items)
nesting-List n = search (rules, the_lemmas)

name-Symbol : (a : Atom) → symbol_of (sexpr.Symbol a) ≡ Some a.bytes
name-Symbol a = search (rules, the_lemmas)

name-Numeral : (a : Atom) → symbol_of (sexpr.Numeral a) ≡ None
name-Numeral a = search (rules, the_lemmas)

name-Text : (a : Atom) → symbol_of (sexpr.Text a) ≡ None
name-Text a = search (rules, the_lemmas)

name-Keyword : (a : Atom) → symbol_of (sexpr.Keyword a) ≡ None
name-Keyword a = search (rules, the_lemmas)

name-List : (n : Nest) → symbol_of (sexpr.List n) ≡ None
name-List n = search (rules, the_lemmas)

digits-List : (n : Nest) → numeral_of (sexpr.List n) ≡ None
digits-List n = search (rules, the_lemmas)

items-List : (n : Nest) → items_of (sexpr.List n) ≡ Some n.items
items-List n = search (rules, the_lemmas)

pub false_true : false ≡ true → ⊥
false_true h = cc

symbol_of-Symbol : (a : Atom) → symbol_of_exp (exp.Symbol a) ≡ Some a
symbol_of-Symbol a = search (rules, exp_lemmas)

-- the symbol that a list begins with is read as its name
pub symbol_read : (form : Sexpr) (name : List ℕ) (place : ℕ) → symbol_of form ≡ Some name → (unwrap_or (symbol_of_exp (expression_of form)) (nameless place)).bytes ≡ name
symbol_read = by_items (λ form. (name : List ℕ) (place : ℕ) → symbol_of form ≡ Some name → (unwrap_or (symbol_of_exp (expression_of form)) (nameless place)).bytes ≡ name)
    (λ a name place is.
    let same : Some a.bytes ≡ Some name = sym (name-Symbol a) ∙ is in
    ap (λ (o : Option Atom). (unwrap_or o (nameless place)).bytes) (ap symbol_of_exp (read-Symbol a) ∙ symbol_of-Symbol a) ∙ cc)
    (λ a name place is. let none : None ≡ Some name = sym (name-Numeral a) ∙ is in absurd (cc))
    (λ a name place is. let none : None ≡ Some name = sym (name-Text a) ∙ is in absurd (cc))
    (λ a name place is. let none : None ≡ Some name = sym (name-Keyword a) ∙ is in absurd (cc))
    (λ n all name place is. let none : None ≡ Some name = sym (name-List n) ∙ is in absurd (cc))

-- Shapes.

pub fit_of : {due : Due} {form : Sexpr} → HasShape due form → fits due form ≡ true
fit_of (has_shape due form fit items) = fit

pub item_shape : {due : Due} {form : Sexpr} → HasShape due form → (k : ℕ) (item : Sexpr) → slice_get (parts_of form) k ≡ Some item → HasShape (due_in due (parts_of form) k) item
item_shape (has_shape due form fit items) = items

not_first : (k : ℕ) → nat_eq (suc k) 0 ≡ false
not_first k = grind (arith, nat_tests)

pub due_next : (r : Role) (k : ℕ) → after_symbol r (suc k) ≡ One r
due_next r k = ap (λ b. if b then One role.Symbol else One r) (not_first k)

-- a list where a form with such a head is due
pub headed_list : (r : Role) (n : Nest) → (is_some (symbol_of (sexpr.List n)) || is_some (numeral_of (sexpr.List n)) || option_map_or (are_headed r) (items_of (sexpr.List n)) false) ≡ true → are_headed r n.items ≡ true
headed_list r n fit =
    sym (ap (λ (o : Option (List ℕ)). is_some o || is_some (numeral_of (sexpr.List n)) || option_map_or (are_headed r) (items_of (sexpr.List n)) false) (name-List n)
    ∙ ap (λ (o : Option (List ℕ)). false || is_some o || option_map_or (are_headed r) (items_of (sexpr.List n)) false) (digits-List n)
    ∙ ap (λ (o : Option (List Sexpr)). option_map_or (are_headed r) o false) (items-List n)) ∙ fit

conjunct_head : (items : List Sexpr) → are_headed role.Body items ≡ true → same_name (codes "exists") (name_at_front items) ≡ false → same_name (codes "or") (name_at_front items) ≡ false →
    are_headed role.Conjunct items ≡ true
conjunct_head [] headed no_exists no_or = headed
conjunct_head (first ∷ others) headed no_exists no_or = by (symbol_of first) headed no_exists no_or
  where
    by : (o : Option (List ℕ)) →
        option_map_or (λ name. if same_name (codes "exists") name then nat_eq (length others) 2 else (if same_name (codes "or") name then nat_le 1 (length others) else is_conjunct name (length others))) o true ≡ true →
        same_name (codes "exists") (unwrap_or o []) ≡ false → same_name (codes "or") (unwrap_or o []) ≡ false → option_map_or (λ name. is_conjunct name (length others)) o true ≡ true
    by None h no_exists no_or = refl
    by (Some name) h no_exists no_or =
        sym (ap (λ b. if b then nat_eq (length others) 2 else (if same_name (codes "or") name then nat_le 1 (length others) else is_conjunct name (length others))) no_exists
        ∙ ap (λ b. if b then nat_le 1 (length others) else is_conjunct name (length others)) no_or) ∙ h

conjunct_fit : (plain : Bool) (o : Option (List Sexpr)) → (plain || option_map_or (are_headed role.Body) o false) ≡ true → same_name (codes "exists") (name_at_front (unwrap_or o [])) ≡ false →
    same_name (codes "or") (name_at_front (unwrap_or o [])) ≡ false → (plain || option_map_or (are_headed role.Conjunct) o false) ≡ true
conjunct_fit true o h no_exists no_or = refl
conjunct_fit false None h no_exists no_or = h
conjunct_fit false (Some items) h no_exists no_or = conjunct_head items h no_exists no_or

-- a body that is neither an `exists` nor an `or` is a conjunct
pub conjunct_shape : (form : Sexpr) → HasShape (One role.Body) form → begins (codes "exists") form ≡ false → begins (codes "or") form ≡ false → HasShape (One role.Conjunct) form
conjunct_shape form shape no_exists no_or =
    let due : (k : ℕ) → due_in (One role.Body) (parts_of form) k ≡ due_in (One role.Conjunct) (parts_of form) k =
    λ k. ap (λ b. if b then due_in_exists k else (if begins (codes "or") form then after_symbol role.Body k else due_in_conjunct (name_at_front (parts_of form)) k)) no_exists
    ∙ ap (λ b. if b then after_symbol role.Body k else due_in_conjunct (name_at_front (parts_of form)) k) no_or in
    has_shape (One role.Conjunct) form
    (conjunct_fit (is_some (symbol_of form) || is_some (numeral_of form)) (items_of form) (fit_of shape) no_exists no_or)
    (λ k item at. subst (λ d. HasShape d item) (due k) (item_shape shape k item at))

-- The items of a form nest less deep than the form.

abbrev pub Nests : ℕ → Sexpr → Type 0
Nests d form = nesting form ≤ d

each_nests : (d : ℕ) (forms : List Sexpr) → greatest (map nesting forms) ≤ d → All (λ (f : Sexpr). nesting f ≤ d) forms
each_nests d [] h = All-nil (λ (f : Sexpr). nesting f ≤ d)
each_nests d (f ∷ fs) h =
    let most : max (nesting f) (greatest (map nesting fs)) ≤ d = h in
    All-cons (λ (f : Sexpr). nesting f ≤ d) f fs (omega (arith, most)) (each_nests d fs (omega (arith, most)))

pub parts_nest : (form : Sexpr) (d : ℕ) → nesting form ≤ suc d → All (λ (f : Sexpr). nesting f ≤ d) (parts_of form)
parts_nest = by_items (λ form. (d : ℕ) → nesting form ≤ suc d → All (λ (f : Sexpr). nesting f ≤ d) (parts_of form))
    (λ a d h. subst (All (λ (f : Sexpr). nesting f ≤ d)) (sym (parts-Symbol a)) (All-nil (λ (f : Sexpr). nesting f ≤ d)))
    (λ a d h. subst (All (λ (f : Sexpr). nesting f ≤ d)) (sym (parts-Numeral a)) (All-nil (λ (f : Sexpr). nesting f ≤ d)))
    (λ a d h. subst (All (λ (f : Sexpr). nesting f ≤ d)) (sym (parts-Text a)) (All-nil (λ (f : Sexpr). nesting f ≤ d)))
    (λ a d h. subst (All (λ (f : Sexpr). nesting f ≤ d)) (sym (parts-Keyword a)) (All-nil (λ (f : Sexpr). nesting f ≤ d)))
    (λ n all d h.
    let whole = nesting-List n in
    subst (All (λ (f : Sexpr). nesting f ≤ d)) (sym (parts-List n)) (each_nests d n.items (omega (arith, whole, h))))

others_shaped : (d : Due) (P : Sexpr → Type 0) (items : List Sexpr) → ((k : ℕ) (item : Sexpr) → slice_get items k ≡ Some item → HasShape d item) → All P items →
    All (λ (item : Sexpr). HasShape d item × P item) items
others_shaped d P [] shaped all = All-nil (λ (item : Sexpr). HasShape d item × P item)
others_shaped d P (item ∷ items) shaped all =
    All-cons (λ (item : Sexpr). HasShape d item × P item) item items (shaped 0 item refl, All-head P item items all)
    (others_shaped d P items (λ k other at. shaped (suc k) other at) (All-tail P item items all))

-- the items after the first have this shape, and nest no deeper than this
pub after_first : (d : Due) (depth : ℕ) (items : List Sexpr) → ((k : ℕ) (item : Sexpr) → slice_get items (suc k) ≡ Some item → HasShape d item) → All (λ (f : Sexpr). nesting f ≤ depth) items →
    All (λ (item : Sexpr). HasShape d item × (nesting item ≤ depth)) (drop 1 items)
after_first d depth [] shaped all = All-nil (λ (item : Sexpr). HasShape d item × (nesting item ≤ depth))
after_first d depth (first ∷ others) shaped all =
    others_shaped d (λ (f : Sexpr). nesting f ≤ depth) others shaped (All-tail (λ (f : Sexpr). nesting f ≤ depth) first others all)

pub at_each : {X : Type 0} (P : X → Type 0) (xs : List X) (k : ℕ) (x : X) → All P xs → slice_get xs k ≡ Some x → P x
at_each P [] k x all at = absurd (cc)
at_each P (y ∷ ys) zero x all at = subst P (same_Some y x at) (All-head P y ys all)
at_each P (y ∷ ys) (suc k) x all at = at_each P ys k x (All-tail P y ys all) at

nests_at : (d : ℕ) (parts : List Sexpr) (form : Sexpr) (k : ℕ) (o : Option Sexpr) → slice_get parts k ≡ o → All (Nests d) parts → Nests d form → Nests d (unwrap_or o form)
nests_at d parts form k None at all whole = whole
nests_at d parts form k (Some item) at all whole = at_each (Nests d) parts k item all at

looser : (d : ℕ) (forms : List Sexpr) → All (Nests d) forms → All (Nests (suc d)) forms
looser d [] h = All-nil (Nests (suc d))
looser d (f ∷ fs) h =
    let here : nesting f ≤ d = All-head (Nests d) f fs h in
    All-cons (Nests (suc d)) f fs (omega (arith, here)) (looser d fs (All-tail (Nests d) f fs h))

-- the items of a form nest no deeper than a bound on the form
pub items_nest : (d : ℕ) (form : Sexpr) → Nests d form → All (Nests d) (parts_of form)
items_nest zero form h = by form h
  where
    by : (form : Sexpr) → Nests 0 form → All (Nests 0) (parts_of form)
    by = by_items (λ form. Nests 0 form → All (Nests 0) (parts_of form))
        (λ a h. subst (All (Nests 0)) (sym (parts-Symbol a)) (All-nil (Nests 0)))
        (λ a h. subst (All (Nests 0)) (sym (parts-Numeral a)) (All-nil (Nests 0)))
        (λ a h. subst (All (Nests 0)) (sym (parts-Text a)) (All-nil (Nests 0)))
        (λ a h. subst (All (Nests 0)) (sym (parts-Keyword a)) (All-nil (Nests 0)))
        (λ n all h. let whole = nesting-List n in absurd (omega (arith, whole, h)))
items_nest (suc d) form h = looser d (parts_of form) (parts_nest form d h)

pub item_nests : (d k : ℕ) (form : Sexpr) → Nests d form → Nests d (item_of k form)
item_nests d k form h = nests_at d (parts_of form) form k (slice_get (parts_of form) k) refl (items_nest d form h) h

-- Lists of right shape have the items that they are to have.

no_list : (test : List Sexpr → Bool) → option_map_or test None false ≡ true → ⊥
no_list test h = false_true h

-- a test of a list's items is one of its parts
pub passes_parts : (test : List Sexpr → Bool) (o : Option (List Sexpr)) → option_map_or test o false ≡ true → test (unwrap_or o []) ≡ true
passes_parts test None h = absurd (no_list test h)
passes_parts test (Some items) h = h

pub listed : (n : ℕ) (o : Option (List Sexpr)) → option_map_or (λ items. nat_eq (length items) n) o false ≡ true → length (unwrap_or o []) ≡ n
listed n None h = absurd (false_true h)
listed n (Some items) h = eqb-true (length items) n h

-- a list of so many items has one in each place before
pub list_item : (n k : ℕ) (form : Sexpr) → is_list_of n form ≡ true → k < n → (item : Sexpr) × (slice_get (parts_of form) k ≡ Some item)
list_item n k form h lt =
    let count : length (parts_of form) ≡ n = listed n (items_of form) h in
    (get_or (parts_of form) k form, slice_get-get_or (parts_of form) k form (omega (arith, count, lt)))

pub second_of : (items : List Sexpr) → are_of_definition items ≡ true → (item : Sexpr) × (slice_get items 1 ≡ Some item)
second_of [] h = absurd (false_true h)
second_of (a ∷ []) h = absurd (false_true h)
second_of (a ∷ b ∷ items) h = (b, refl)

pub third_of : (items : List Sexpr) → are_of_match items ≡ true → (item : Sexpr) × (slice_get items 2 ≡ Some item)
third_of [] h = absurd (false_true h)
third_of (a ∷ []) h = absurd (false_true h)
third_of (a ∷ b ∷ []) h = absurd (false_true h)
third_of (a ∷ b ∷ c ∷ items) h = (c, refl)

some_none : (fault : Fault) → Some fault ≡ None → ⊥
some_none fault h = cc

no_places : (places : List ℕ) → first (map (λ place. refusal place 10) places) ≡ None → places ≡ []
no_places [] h = refl
no_places (place ∷ places) h = absurd (some_none (refusal place 10) h)

pub has_its_shape : (form : Sexpr) → first (shapes form) ≡ None → HasShape (One role.Command) form
has_its_shape form none = (no_misfits (One role.Command) form).1 (no_places (misfits (One role.Command) form) none)
