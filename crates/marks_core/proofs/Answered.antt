-- Outcomes that stand beside probes.
use Rattle.std.proofs.Common.{◌≡◌, ◌+◌, ◌<◌, ℕ, List, [], ◌∷◌, ◌++◌, take, get_or, length, sym, ap, subst, ◌∙◌}
use Rattle.std.specs.List.{AllZip}
use Rattle.std.proofs.lemmas.List.{take_more}
use Rattle.sig_core.specs.declared.value.Value.{Value}
use Rattle.sig_core.specs.declared.ids.RelId.{RelId}
use Rattle.sig_core.specs.Signatures.{Declarations}
use Rattle.term_core.specs.declared.tree.Tree.{Tree}
use Rattle.rule_core.specs.declared.rule.Rule.{Rule}
use Rattle.eval_core.specs.declared.outcome.Outcome.{Outcome}
use Rattle.eval_core.specs.Outcomes.{AreOutcomes}

zip_push : {A B : Type 0} (R : A → B → Type 0) (xs : List A) (ys : List B) (x : A) (y : B) → AllZip R xs ys → R x y → AllZip R (xs ++ x ∷ []) (ys ++ y ∷ [])
zip_push R [] [] x y all r = (r, tt)
zip_push R [] (b ∷ ys) x y all r = absurd all
zip_push R (a ∷ xs) [] x y all r = absurd all
zip_push R (a ∷ xs) (b ∷ ys) x y all r = (all.0, zip_push R xs ys x y all.1 r)

-- one item more beside the next one of a list
pub zip_more : {A B : Type 0} (R : A → B → Type 0) (xs : List A) (ys zs : List B) (i : ℕ) (x : A) (y : B) → i < length xs → x ≡ get_or xs i x → zs ≡ ys ++ y ∷ [] → AllZip R (take i xs) ys → R x y → AllZip R (take (i + 1) xs) zs
zip_more R xs ys zs i x y l at pushed all r =
    subst (AllZip R (take (i + 1) xs)) (sym pushed)
    (subst (λ items. AllZip R items (ys ++ y ∷ [])) (sym (take_more xs i x l ∙ ap (λ a. take i xs ++ a ∷ []) (sym at))) (zip_push R (take i xs) ys x y all r))

-- the outcomes of an evaluator that is still the same, at a probe
pub outcomes_of_same : (sig sig' : Declarations) (rules rules' : List Rule) (h : ℕ) (r r' : RelId) (t : Tree) (inputs inputs' : List Value) (outcomes : List Outcome)
    → sig ≡ sig' → rules ≡ rules' → r ≡ r' → inputs ≡ inputs' → AreOutcomes sig rules h r t inputs outcomes → AreOutcomes sig' rules' h r' t inputs' outcomes
outcomes_of_same sig sig' rules rules' h r r' t inputs inputs' outcomes p q e f are =
    subst (λ s. AreOutcomes s rules' h r' t inputs' outcomes) p
    (subst (λ rs. AreOutcomes sig rs h r' t inputs' outcomes) q
    (subst (λ k. AreOutcomes sig rules h k t inputs' outcomes) e
    (subst (λ is. AreOutcomes sig rules h r t is outcomes) f are)))
