-- The first misfit of a form is its leftmost node that doesn't fit, and a form without any has its shape.
use Rattle.std.proofs.Common.{◌≡◌, ◌<◌, ◌≤◌, ◌+◌, ◌↔◌, ℕ, suc, Bool, true, false, if◌then◌else◌, Option, Some, None, List, [], ◌∷◌, ◌++◌, map, drop, length, slice_get, get_or, All, MatchOption, refl, sym, ap, ◌∙◌, subst, arith}
use Rattle.std.proofs.lemmas.List.{drop_more, length-drop}
use Rattle.std.proofs.lemmas.Option.{slice_get_read}
use Rattle.std.proofs.lemmas.List.Elements.{All-nil, All-head, All-tail}
use Rattle.sexpr_core.specs.declared.form.Sexpr.{Sexpr}
use Rattle.sexpr_core.specs.declared.form.Sexpr as sexpr
use Rattle.sexpr_core.specs.Access.{place_of, parts_of}
use Rattle.syntax_core.specs.declared.roles.Due.{Due}
use Rattle.syntax_core.specs.Misfits.{leftmost, misfits, misfits_from}
use Rattle.syntax_core.specs.Roles.{due_in, fits}
use Rattle.syntax_core.specs.Shapes.{HasShape, IsMisfit}
use Rattle.syntax_core.specs.Shapes.IsMisfit.{itself}
use Rattle.syntax_core.proofs.FormInduction.{by_items}
use Rattle.syntax_core.proofs.Misfitting.{fitting, leftmost-append, measure, misfit_first, misfits-is, parts-Keyword, parts-List, parts-Numeral, parts-Symbol, parts-Text, shaped_none}
use Rattle.syntax_core.proofs.Shaping.{AreShaped, all_shaped, found, one_more}

by_parts : (P : Sexpr → Type 0) → ((form : Sexpr) → All P (parts_of form) → P form) → (form : Sexpr) → P form
by_parts P step = by_items P
    (λ a. step (sexpr.Symbol a) (subst (All P) (sym (parts-Symbol a)) (All-nil P)))
    (λ a. step (sexpr.Numeral a) (subst (All P) (sym (parts-Numeral a)) (All-nil P)))
    (λ a. step (sexpr.Text a) (subst (All P) (sym (parts-Text a)) (All-nil P)))
    (λ a. step (sexpr.Keyword a) (subst (All P) (sym (parts-Keyword a)) (All-nil P)))
    (λ n all. step (sexpr.List n) (subst (All P) (sym (parts-List n)) all))

abbrev Decided : Due → Sexpr → Option ℕ → Type 0
Decided due form o = MatchOption o (HasShape due form) (IsMisfit due form)

abbrev IsDecided : Sexpr → Type 0
IsDecided form = (due : Due) → Decided due form (leftmost (misfits due form))

some_none : (place : ℕ) → Some place ≡ None → ⊥
some_none place h = cc

not_below : (n : ℕ) → n < 0 → ⊥
not_below n h = omega arith

no_first : (xs : List ℕ) → leftmost xs ≡ None → xs ≡ []
no_first [] h = refl
no_first (x ∷ xs) h = absurd (some_none x h)

-- what an item decides, and the items after it
next : (due : Due) (form : Sexpr) (items : List Sexpr) (k : ℕ) (item : Sexpr) (more : List ℕ) (o : Option ℕ) → items ≡ parts_of form → fits due form ≡ true →
    slice_get items k ≡ Some item → AreShaped due items k → leftmost (misfits (due_in due items k) item) ≡ o → Decided (due_in due items k) item o →
    (AreShaped due items (k + 1) → Decided due form (leftmost more)) →
    Decided due form (leftmost (misfits (due_in due items k) item ++ more))
next due form items k item more None parts fit at before is decides rest =
    subst (λ xs. Decided due form (leftmost (xs ++ more))) (sym (no_first (misfits (due_in due items k) item) is))
    (rest (one_more due (due_in due items k) items k item at before refl decides))
next due form items k item more (Some place) parts fit at before is decides rest =
    subst (Decided due form) (sym (leftmost-append (misfits (due_in due items k) item) more place is))
    (found due (due_in due items k) form items k place item parts fit at before refl decides)

-- the item with which the rest of a list begins
first_of_rest : (items rest : List Sexpr) (k : ℕ) (item : Sexpr) → item ∷ rest ≡ drop k items → k ≤ length items → (slice_get items k ≡ Some item) × (rest ≡ drop (k + 1) items) × (k + 1 ≤ length items)
first_of_rest items rest k item is within =
    let longer : length (item ∷ rest) ≡ length (drop k items) = ap length is in
    let inside : k < length items = omega (arith, length-drop k items) in
    let whole : item ∷ rest ≡ get_or items k item ∷ drop (k + 1) items = is ∙ drop_more items k item inside in
    let same : item ≡ get_or items k item = cc in
    let others : rest ≡ drop (k + 1) items = cc in
    (slice_get_read items (length items) k item refl inside same, others, omega arith)

walk : (due : Due) (form : Sexpr) (items rest : List Sexpr) (k : ℕ) → items ≡ parts_of form → fits due form ≡ true → rest ≡ drop k items → k ≤ length items → All IsDecided rest → AreShaped due items k →
    Decided due form (leftmost (misfits_from due items k (map measure rest)))
walk due form items [] k parts fit is within all before =
    let left : length (drop k items) ≡ 0 = ap length (sym is) in
    let end : k ≡ length items = omega (arith, length-drop k items) in
    all_shaped due form items k parts fit end before
walk due form items (item ∷ rest) k parts fit is within all before =
    let at : (slice_get items k ≡ Some item) × (rest ≡ drop (k + 1) items) × (k + 1 ≤ length items) = first_of_rest items rest k item is within in
    let same : k + 1 ≡ suc k = omega arith in
    next due form items k item (misfits_from due items (suc k) (map measure rest)) (leftmost (misfits (due_in due items k) item)) parts fit at.0 before refl (All-head IsDecided item rest all (due_in due items k))
    (λ further. subst (λ m. Decided due form (leftmost (misfits_from due items m (map measure rest)))) same (walk due form items rest (k + 1) parts fit at.1 at.2 (All-tail IsDecided item rest all) further))

by_fit : (due : Due) (form : Sexpr) (b : Bool) → fits due form ≡ b → All IsDecided (parts_of form) → Decided due form (leftmost (misfits due form))
by_fit due form true fit all =
    subst (λ xs. Decided due form (leftmost xs)) (sym (fitting form due fit))
    (walk due form (parts_of form) (parts_of form) 0 refl fit refl (omega arith) all (λ j other lt there. absurd (not_below j lt)))
by_fit due form false fit all =
    subst (λ xs. Decided due form (leftmost xs))
    (sym (misfits-is form due ∙ ap (λ b. if b then misfits_from due (parts_of form) 0 (map measure (parts_of form)) else place_of form ∷ []) fit))
    (itself due form (place_of form) fit refl)

decided : (form : Sexpr) → IsDecided form
decided = by_parts IsDecided (λ form all due. by_fit due form (fits due form) refl all)

-- a node is the leftmost that doesn't fit exactly where it is the first misfit
pub leftmost_misfit : (due : Due) (form : Sexpr) (place : ℕ) → IsMisfit due form place ↔ (leftmost (misfits due form) ≡ Some place)
leftmost_misfit due form place = (misfit_first, λ h. subst (Decided due form) h (decided form due))

-- a form has its shape exactly where it has no misfits
pub no_misfits : (due : Due) (form : Sexpr) → HasShape due form ↔ (misfits due form ≡ [])
no_misfits due form = (shaped_none, λ h. subst (Decided due form) (ap leftmost h) (decided form due))
