-- A text spells one list of forms at most.
use Rattle.std.proofs.Common.{◌≡◌, ℕ, suc, ◌+◌, List, [], ◌∷◌, refl, sym, ap, ◌∙◌, subst}
use Rattle.sexpr_core.specs.declared.form.Sexpr as sexpr
use Rattle.sexpr_core.specs.declared.form.Sexpr.{Sexpr}
use Rattle.sexpr_core.specs.Spelling.{Spelled, Spell, nothing, blank, comment, token, list}
use Rattle.sexpr_core.proofs.Steps.{IsStop, at_stop, after_blank, after_comment, after_token, after_open}

pub spelled_once : {d p : ℕ} {b : List ℕ} {fs : List Sexpr} {e : ℕ} {r : List ℕ} → Spelled d p b fs e r → IsStop r → (gs : List Sexpr) (h : ℕ) (s : List ℕ) → Spelled d p b gs h s → IsStop s → (fs ≡ gs) × (e ≡ h) × (r ≡ s)
spelled_once (nothing d p r) k gs h s other l =
    let same = at_stop other k in
    (sym same.0, sym same.1, sym same.2)
spelled_once (blank d p byte bytes fs e r is u) k gs h s other l = spelled_once u k gs h s (after_blank other l byte bytes refl is) l
spelled_once (comment d p text bytes fs e r is ends u) k gs h s other l = spelled_once u k gs h s (after_comment other l text bytes refl is ends) l
spelled_once (token d p text bytes f fs e r is u) k gs h s other l =
    let x = after_token other l text bytes f refl is in
    let found = spelled_once u k x.more h s x.spelled l in
    (ap (λ v. f ∷ v) found.0 ∙ sym x.is, found.1, found.2)
spelled_once (list d p bytes items close after fs e r inner u) k gs h s other l =
    let x = after_open other l bytes refl in
    let level : x.below ≡ d = cc (x.deeper) in
    let within = spelled_once inner refl x.items x.close (41 ∷ x.after) (subst (λ n. Spelled n (p + 1) bytes x.items x.close (41 ∷ x.after)) level x.inner) refl in
    let item_same : items ≡ x.items = within.0 in
    let close_same : x.close ≡ close = sym within.1 in
    let rest_same : 41 ∷ after ≡ 41 ∷ x.after = within.2 in
    let after_same : x.after ≡ after = cc in
    let outer = subst (λ v. Spelled (suc d) (close + 1) v x.more h s) after_same (subst (λ n. Spelled (suc d) (n + 1) x.after x.more h s) close_same x.outer) in
    let found = spelled_once u k x.more h s outer l in
    (ap (λ v. sexpr.List (record { place = p; items = v }) ∷ fs) item_same ∙ ap (λ v. sexpr.List (record { place = p; items = x.items }) ∷ v) found.0 ∙ sym x.is, found.1, found.2)

pub spells_once : (text : List ℕ) (fs gs : List Sexpr) → Spell text fs → Spell text gs → fs ≡ gs
spells_once text fs gs a b = (spelled_once a.1 tt gs b.0 [] b.1 tt).0
