-- Ids in a bank that grows.
use Rattle.std.proofs.Common.{◌≡◌, ℕ, ◌+◌, ◌<◌, Some, None, Option, Result, Ok, Err, IfOk, List, [], ◌∷◌, ◌++◌, map, length, get_or, slice_get, drop, append_assoc, All, refl, sym, ap, ap₂, subst, ◌∙◌, arith}
use Rattle.std.specs.Option.{ForSome, option_map}
use Rattle.std.proofs.lemmas.List.{drop_more, get_or-map, map-append}
use Rattle.std.proofs.lemmas.List.Elements.{All-head, All-tail, All-cons, All-nil, All-append}
use Rattle.std.proofs.lemmas.Option.{slice_get_within}
use Rattle.sexpr_core.specs.declared.form.Sexpr.{Sexpr}
use Rattle.term_core.specs.declared.ids.TermId.{TermId}
use Rattle.term_core.specs.declared.tree.Tree.{Tree}
use Rattle.term_core.specs.Banks.{IsLive, Keeps, leaf, tree_of}
use Rattle.deriv_core.specs.declared.parts.Step.{Step}
use Rattle.deriv_core.specs.Steps.{TreeStep, tree_step, tree_steps}
use Rattle.answer_core.specs.declared.kinds.Due.{Due}
use Rattle.answer_core.specs.Numbers.{number_of}
use Rattle.answer_core.specs.Readings.{Told, node_at}
use Rattle.answer_core.proofs.Lines.{stands_at}

pub keeps_all : (bank : List Tree) → Keeps bank bank
keeps_all bank = record { live = omega arith; same = λ id h. refl }

pub Keeps-then : (old bank new : List Tree) → Keeps old bank → Keeps bank new → Keeps old new
Keeps-then old bank new first second = record {
  live = omega (arith, first.live, second.live);
  same = λ id h. second.same id (omega (arith, first.live, h)) ∙ first.same id h;
}

pub live_kept : (old new : List Tree) (id : TermId) → Keeps old new → IsLive old id → IsLive new id
live_kept old new id kept h = omega (arith, kept.live, h)

pub all_kept : (old new : List Tree) (ids : List TermId) → Keeps old new → All (IsLive old) ids → All (IsLive new) ids
all_kept old new ids kept all k d h = live_kept old new (get_or ids k d) kept (all k d h)

pub map_kept : (old new : List Tree) (ids : List TermId) → Keeps old new → All (IsLive old) ids → map (tree_of new) ids ≡ map (tree_of old) ids
map_kept old new [] kept all = refl
map_kept old new (id ∷ ids) kept all = ap₂ (λ t ts. t ∷ ts) (kept.same id (All-head (IsLive old) id ids all)) (map_kept old new ids kept (All-tail (IsLive old) id ids all))

pub steps_live_kept : (old new : List Tree) (steps : List Step) → Keeps old new → All (λ step. IsLive old step.node) steps → All (λ step. IsLive new step.node) steps
steps_live_kept old new steps kept all k d h = live_kept old new (get_or steps k d).node kept (all k d h)

pub steps_kept : (old new : List Tree) (steps : List Step) → Keeps old new → All (λ step. IsLive old step.node) steps → tree_steps new steps ≡ tree_steps old steps
steps_kept old new [] kept all = refl
steps_kept old new (s ∷ steps) kept all =
    ap₂ (λ t ts. record (tree_step old s) { node = t } ∷ ts) (kept.same s.node (All-head (λ (step : Step). IsLive old step.node) s steps all)) (steps_kept old new steps kept (All-tail (λ (step : Step). IsLive old step.node) s steps all))

pub root_live_kept : (old new : List Tree) (root : Option TermId) → Keeps old new → ForSome root (IsLive old) → ForSome root (IsLive new)
root_live_kept old new root kept live id e = live_kept old new id kept (live id e)

pub root_kept : (old new : List Tree) (root : Option TermId) → Keeps old new → ForSome root (IsLive old) → option_map (tree_of new) root ≡ option_map (tree_of old) root
root_kept old new None kept live = refl
root_kept old new (Some id) kept live = ap Some (kept.same id (live id refl))

-- one id more
pub all_more : (old new : List Tree) (ids more : List TermId) (id : TermId) → Keeps old new → All (IsLive old) ids → IsLive new id → more ≡ ids ++ id ∷ [] → All (IsLive new) more
all_more old new ids more id kept all live e =
    subst (All (IsLive new)) (sym e) (All-append (IsLive new) ids (id ∷ []) (all_kept old new ids kept all) (All-cons (IsLive new) id [] live (All-nil (IsLive new))))

pub map_more : (old new : List Tree) (ids more : List TermId) (id : TermId) → Keeps old new → All (IsLive old) ids → more ≡ ids ++ id ∷ [] → map (tree_of new) more ≡ map (tree_of old) ids ++ tree_of new id ∷ []
map_more old new ids more id kept all e =
    ap (map (tree_of new)) e ∙ map-append (tree_of new) ids (id ∷ []) ∙ ap (λ ts. ts ++ tree_of new id ∷ []) (map_kept old new ids kept all)

-- the id at a place stands for the term at that place
pub found_live : (bank : List Tree) (nodes : List TermId) (numeral : Sexpr) (id : TermId) → All (IsLive bank) nodes → slice_get nodes (number_of numeral) ≡ Some id → IsLive bank id
found_live bank nodes numeral id all at = subst (IsLive bank) (sym (stands_at nodes (number_of numeral) id at)) (all (number_of numeral) id (slice_get_within nodes (number_of numeral) id at))

pub found_tree : (bank : List Tree) (nodes : List TermId) (numeral : Sexpr) (id : TermId) → slice_get nodes (number_of numeral) ≡ Some id → tree_of bank id ≡ node_at (map (tree_of bank) nodes) numeral
found_tree bank nodes numeral id at =
    ap (tree_of bank) (stands_at nodes (number_of numeral) id at) ∙ sym (get_or-map (tree_of bank) nodes (number_of numeral) id leaf (slice_get_within nodes (number_of numeral) id at))

pub all_found : (bank : List Tree) (nodes ids : List TermId) (forms : List Sexpr) → All (IsLive bank) nodes → map Some ids ≡ map (λ form. slice_get nodes (number_of form)) forms → All (IsLive bank) ids
all_found bank nodes [] forms all e = All-nil (IsLive bank)
all_found bank nodes (id ∷ ids) [] all e = absurd (cc)
all_found bank nodes (id ∷ ids) (form ∷ forms) all e =
    let at : slice_get nodes (number_of form) ≡ Some id = cc in
    let rest : map Some ids ≡ map (λ form. slice_get nodes (number_of form)) forms = cc in
    All-cons (IsLive bank) id ids (found_live bank nodes form id all at) (all_found bank nodes ids forms all rest)

pub trees_found : (bank : List Tree) (nodes ids : List TermId) (forms : List Sexpr) → map Some ids ≡ map (λ form. slice_get nodes (number_of form)) forms → map (tree_of bank) ids ≡ map (node_at (map (tree_of bank) nodes)) forms
trees_found bank nodes [] [] e = refl
trees_found bank nodes [] (form ∷ forms) e = absurd (cc)
trees_found bank nodes (id ∷ ids) [] e = absurd (cc)
trees_found bank nodes (id ∷ ids) (form ∷ forms) e =
    let at : slice_get nodes (number_of form) ≡ Some id = cc in
    let rest : map Some ids ≡ map (λ form. slice_get nodes (number_of form)) forms = cc in
    ap₂ (λ t ts. t ∷ ts) (found_tree bank nodes form id at) (trees_found bank nodes ids forms rest)

-- one term more is made
pub terms_more : (old new : List Tree) (ids more : List TermId) (id : TermId) (forms : List Sexpr) (i : ℕ) (form : Sexpr) (term : Sexpr → Tree)
    → i < length forms → form ≡ get_or forms i form → Keeps old new → All (IsLive old) ids → more ≡ ids ++ id ∷ [] → tree_of new id ≡ term form
    → map (tree_of old) ids ++ map term (drop i forms) ≡ map term forms → map (tree_of new) more ++ map term (drop (i + 1) forms) ≡ map term forms
terms_more old new ids more id forms i form term h is kept live e made before =
    let left : drop i forms ≡ form ∷ drop (i + 1) forms = drop_more forms i form h ∙ ap (λ f. f ∷ drop (i + 1) forms) (sym is) in
    ap (λ ts. ts ++ map term (drop (i + 1) forms)) (map_more old new ids more id kept live e ∙ ap (λ t. map (tree_of old) ids ++ t ∷ []) made)
    ∙ append_assoc (map (tree_of old) ids) (term form ∷ []) (map term (drop (i + 1) forms))
    ∙ ap (λ fs. map (tree_of old) ids ++ map term fs) (sym left) ∙ before

pub both_ok : {X E : Type 0} (r : Result X E) (P Q R : X → Type 0) → IfOk r P → IfOk r Q → ((x : X) → P x → Q x → R x) → IfOk r R
both_ok (Ok x) P Q R p q f = f x p q
both_ok (Err e) P Q R p q f = tt

-- what is told in a bank that grew
abbrev told : Told → Told → Type 0
told x y = x ≡ y

pub same_told : (due : Due) (term other : Option Tree) (size : Option ℕ) (nodes more : List Tree) (steps same : List TreeStep) (derived : List ℕ) → term ≡ other → nodes ≡ more → steps ≡ same
    → told (record { due = due; term = term; size = size; nodes = nodes; steps = steps; derived = derived }) (record { due = due; term = other; size = size; nodes = more; steps = same; derived = derived })
same_told due term other size nodes more steps same derived p q r =
    ap (λ t. record { due = due; term = t; size = size; nodes = nodes; steps = steps; derived = derived }) p
    ∙ ap (λ ns. record { due = due; term = other; size = size; nodes = ns; steps = steps; derived = derived }) q
    ∙ ap (λ ss. record { due = due; term = other; size = size; nodes = more; steps = ss; derived = derived }) r
