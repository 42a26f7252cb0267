-- Induction over terms.
use Rattle.std.proofs.Common.{List, [], ◌∷◌, map, All, subst}
use Rattle.std.proofs.lemmas.List.Elements.{All-nil, All-cons}
use Rattle.sig_core.specs.declared.ids.ConId.{ConId}
use Rattle.term_core.specs.declared.tree.Tree.{Tree, roll-Tree}
use Rattle.term_core.specs.declared.tree.Tree.TheFolds.{ind-Tree}
use Rattle.term_core.specs.Terms.{node}

each : {X : Type 0} (P : X → Type 0) → (es : List ((x : X) × P x)) → All P (map (λ e. e.0) es)
each P [] = All-nil P
each P (e ∷ es) = All-cons P e.0 (map (λ e. e.0) es) e.1 (each P es)

-- P holds of each term, if it holds of one where it holds of the children
pub by_children : (P : Tree → Type 0) → ((con : ConId) (kids : List Tree) → All P kids → P (node con kids)) → (t : Tree) → P t
by_children P step = ind-Tree P (λ x y is. subst (λ z. P (roll-Tree z)) is (step y.con (map (λ e. e.0) y.kids) (each P y.kids)))
