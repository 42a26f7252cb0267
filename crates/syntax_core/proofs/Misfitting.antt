-- The misfits of a form are the nodes at which its shape is broken, and the first of them is the leftmost.
use Rattle.std.proofs.Common.{◌≡◌, ◌<◌, ◌+◌, ℕ, zero, suc, true, if◌then◌else◌, Some, None, List, [], ◌∷◌, ◌++◌, map, slice_get, All, refl, sym, ap, ◌∙◌, subst, rules, arith}
use Rattle.std.proofs.lemmas.List.Elements.{All-head, All-tail}
use Rattle.std.proofs.lemmas.Option.{same_Some, slice_get_within}
use Rattle.sexpr_core.specs.declared.form.Atom.{Atom}
use Rattle.sexpr_core.specs.declared.form.Nest.{Nest}
use Rattle.sexpr_core.specs.declared.form.Sexpr.{Sexpr}
use Rattle.sexpr_core.specs.declared.form.Sexpr as sexpr
use Rattle.sexpr_core.specs.declared.form.Sexpr.TheFolds.{fold-Sexpr}
use Rattle.sexpr_core.specs.Access.{place_of, parts_of}
use Rattle.syntax_core.specs.declared.roles.Due.{Due}
use Rattle.syntax_core.specs.Misfits.{Measured, leftmost, measured, measured_nest, measured_step, misfits, misfits_from}
use Rattle.syntax_core.specs.Roles.{due_in, fits}
use Rattle.syntax_core.specs.Shapes.{HasShape, IsMisfit}
use Rattle.syntax_core.specs.Shapes.HasShape.{has_shape}
use Rattle.syntax_core.specs.Shapes.IsMisfit.{itself, within}
use Rattle.syntax_core.proofs.FormInduction.{by_items}

not_below : (n : ℕ) → n < 0 → ⊥
not_below n h = omega arith

none_some : (place : ℕ) → None ≡ Some place → ⊥
none_some place h = cc

abbrev pub measure : Sexpr → Measured
measure = fold-Sexpr Measured Measured measured_step measured_nest

measure-Symbol : (a : Atom) → measure (sexpr.Symbol a) ≡ measured (sexpr.Symbol a) []
measure-Symbol a = search (rules, sexpr.the_lemmas)

measure-Numeral : (a : Atom) → measure (sexpr.Numeral a) ≡ measured (sexpr.Numeral a) []
measure-Numeral a = search (rules, sexpr.the_lemmas)

measure-Text : (a : Atom) → measure (sexpr.Text a) ≡ measured (sexpr.Text a) []
measure-Text a = search (rules, sexpr.the_lemmas)

measure-Keyword : (a : Atom) → measure (sexpr.Keyword a) ≡ measured (sexpr.Keyword a) []
measure-Keyword a = search (rules, sexpr.the_lemmas)

measure-List : (n : Nest) → measure (sexpr.List n) ≡ measured (sexpr.List (record { place = n.place; items = map (λ item. item.form) (map measure n.items) })) (map measure n.items)
measure-List n = search (rules, sexpr.the_lemmas)

pub parts-Symbol : (a : Atom) → parts_of (sexpr.Symbol a) ≡ []
parts-Symbol a = search (rules, sexpr.the_lemmas)

pub parts-Numeral : (a : Atom) → parts_of (sexpr.Numeral a) ≡ []
parts-Numeral a = search (rules, sexpr.the_lemmas)

pub parts-Text : (a : Atom) → parts_of (sexpr.Text a) ≡ []
parts-Text a = search (rules, sexpr.the_lemmas)

pub parts-Keyword : (a : Atom) → parts_of (sexpr.Keyword a) ≡ []
parts-Keyword a = search (rules, sexpr.the_lemmas)

pub parts-List : (n : Nest) → parts_of (sexpr.List n) ≡ n.items
parts-List n = search (rules, sexpr.the_lemmas)

forms_of : (items : List Sexpr) → All (λ form. (measure form).form ≡ form) items → map (λ (item : Measured). item.form) (map measure items) ≡ items
forms_of [] all = refl
forms_of (item ∷ items) all =
    ap (λ xs. (measure item).form ∷ xs) (forms_of items (All-tail (λ form. (measure form).form ≡ form) item items all))
    ∙ ap (λ x. x ∷ items) (All-head (λ form. (measure form).form ≡ form) item items all)

same_nest : (n : Nest) (items : List Sexpr) → items ≡ n.items → sexpr.List (record { place = n.place; items = items }) ≡ sexpr.List n
same_nest n items is = ap (λ xs. sexpr.List (record { place = n.place; items = xs })) is

-- a form is measured as itself
form_of : (form : Sexpr) → (measure form).form ≡ form
form_of = by_items (λ form. (measure form).form ≡ form)
    (λ a. ap (λ (m : Measured). m.form) (measure-Symbol a))
    (λ a. ap (λ (m : Measured). m.form) (measure-Numeral a))
    (λ a. ap (λ (m : Measured). m.form) (measure-Text a))
    (λ a. ap (λ (m : Measured). m.form) (measure-Keyword a))
    (λ n all. ap (λ (m : Measured). m.form) (measure-List n) ∙ same_nest n (map (λ (item : Measured). item.form) (map measure n.items)) (forms_of n.items all))

all_forms : (items : List Sexpr) → map (λ (item : Measured). item.form) (map measure items) ≡ items
all_forms [] = refl
all_forms (item ∷ items) = ap (λ xs. (measure item).form ∷ xs) (all_forms items) ∙ ap (λ x. x ∷ items) (form_of item)

-- the misfits of a form, by what its own level is
abbrev pub level : Due → Sexpr → List Sexpr → List ℕ
level due form parts = if fits due form then misfits_from due parts 0 (map measure parts) else place_of form ∷ []

token : (form : Sexpr) (due : Due) → measure form ≡ measured form [] → parts_of form ≡ [] → misfits due form ≡ level due form (parts_of form)
token form due is none = ap (λ (m : Measured). m.misfits due) is ∙ sym (ap (level due form) none)

list : (n : Nest) (due : Due) → misfits due (sexpr.List n) ≡ level due (sexpr.List n) (parts_of (sexpr.List n))
list n due =
    ap (λ (m : Measured). m.misfits due) (measure-List n)
    ∙ ap (λ form. (measured form (map measure n.items)).misfits due) (same_nest n (map (λ (item : Measured). item.form) (map measure n.items)) (all_forms n.items))
    ∙ ap (λ parts. if fits due (sexpr.List n) then misfits_from due parts 0 (map measure n.items) else place_of (sexpr.List n) ∷ []) (parts-List n)
    ∙ sym (ap (level due (sexpr.List n)) (parts-List n))

pub misfits-is : (form : Sexpr) (due : Due) → misfits due form ≡ level due form (parts_of form)
misfits-is = by_items (λ form. (due : Due) → misfits due form ≡ level due form (parts_of form))
    (λ a due. token (sexpr.Symbol a) due (measure-Symbol a) (parts-Symbol a))
    (λ a due. token (sexpr.Numeral a) due (measure-Numeral a) (parts-Numeral a))
    (λ a due. token (sexpr.Text a) due (measure-Text a) (parts-Text a))
    (λ a due. token (sexpr.Keyword a) due (measure-Keyword a) (parts-Keyword a))
    (λ n all due. list n due)

pub fitting : (form : Sexpr) (due : Due) → fits due form ≡ true → misfits due form ≡ misfits_from due (parts_of form) 0 (map measure (parts_of form))
fitting form due fit = misfits-is form due ∙ ap (λ b. if b then misfits_from due (parts_of form) 0 (map measure (parts_of form)) else place_of form ∷ []) fit

-- the items from place k on have no misfits
none_from : (due : Due) (parts items : List Sexpr) (k : ℕ) → ((j : ℕ) (item : Sexpr) → slice_get items j ≡ Some item → misfits (due_in due parts (k + j)) item ≡ []) →
    misfits_from due parts k (map measure items) ≡ []
none_from due parts [] k each = refl
none_from due parts (item ∷ items) k each =
    let here : misfits (due_in due parts (k + 0)) item ≡ [] = each 0 item refl in
    let same : k + 0 ≡ k = omega arith in
    let fits_here : misfits (due_in due parts k) item ≡ [] = subst (λ m. misfits (due_in due parts m) item ≡ []) same here in
    ap (λ xs. xs ++ misfits_from due parts (suc k) (map measure items)) fits_here
    ∙ none_from due parts items (suc k) (λ j other at. let next : k + suc j ≡ suc k + j = omega arith in subst (λ m. misfits (due_in due parts m) other ≡ []) next (each (suc j) other at))

pub shaped_none : {due : Due} {form : Sexpr} → HasShape due form → misfits due form ≡ []
shaped_none (has_shape due form fit each) =
    fitting form due fit
    ∙ none_from due (parts_of form) (parts_of form) 0 (λ j item at. let same : j ≡ 0 + j = omega arith in
    subst (λ m. misfits (due_in due (parts_of form) m) item ≡ []) same (shaped_none (each j item at)))

pub leftmost-append : (xs ys : List ℕ) (place : ℕ) → leftmost xs ≡ Some place → leftmost (xs ++ ys) ≡ Some place
leftmost-append [] ys place h = absurd (none_some place h)
leftmost-append (x ∷ xs) ys place h = h

-- the first of the misfits is that of the first item that has any
first_from : (due : Due) (parts items : List Sexpr) (k n place : ℕ) (item : Sexpr) → slice_get items n ≡ Some item →
    ((j : ℕ) (other : Sexpr) → j < n → slice_get items j ≡ Some other → misfits (due_in due parts (k + j)) other ≡ []) →
    leftmost (misfits (due_in due parts (k + n)) item) ≡ Some place →
    leftmost (misfits_from due parts k (map measure items)) ≡ Some place
first_from due parts [] k n place item at before here =
    absurd (not_below n (slice_get_within [] n item at))
first_from due parts (x ∷ xs) k zero place item at before here =
    let same : k + 0 ≡ k = omega arith in
    leftmost-append (misfits (due_in due parts k) x) (misfits_from due parts (suc k) (map measure xs)) place
    (subst (λ y. leftmost (misfits (due_in due parts k) y) ≡ Some place) (sym (same_Some x item at)) (subst (λ m. leftmost (misfits (due_in due parts m) item) ≡ Some place) same here))
first_from due parts (x ∷ xs) k (suc n) place item at before here =
    let same : k + 0 ≡ k = omega arith in
    let next : k + suc n ≡ suc k + n = omega arith in
    let none : misfits (due_in due parts k) x ≡ [] = subst (λ m. misfits (due_in due parts m) x ≡ []) same (before 0 x (omega arith) refl) in
    ap (λ ys. leftmost (ys ++ misfits_from due parts (suc k) (map measure xs))) none
    ∙ first_from due parts xs (suc k) n place item at
    (λ j other lt there. let further : k + suc j ≡ suc k + j = omega arith in subst (λ m. misfits (due_in due parts m) other ≡ []) further (before (suc j) other (omega arith) there))
    (subst (λ m. leftmost (misfits (due_in due parts m) item) ≡ Some place) next here)

pub misfit_first : {due : Due} {form : Sexpr} {place : ℕ} → IsMisfit due form place → leftmost (misfits due form) ≡ Some place
misfit_first (itself due form place unfit at) =
    ap leftmost (misfits-is form due ∙ ap (λ b. if b then misfits_from due (parts_of form) 0 (map measure (parts_of form)) else place_of form ∷ []) unfit) ∙ ap Some at
misfit_first (within due form place k item fit at before is) =
    let same : k ≡ 0 + k = omega arith in
    ap leftmost (fitting form due fit)
    ∙ first_from due (parts_of form) (parts_of form) 0 k place item at
    (λ j other lt there. let same : j ≡ 0 + j = omega arith in subst (λ m. misfits (due_in due (parts_of form) m) other ≡ []) same (shaped_none (before j other lt there)))
    (subst (λ m. leftmost (misfits (due_in due (parts_of form) m) item) ≡ Some place) same (misfit_first is))
