-- The lines of an answer.
use Rattle.std.proofs.Common.{◌≡◌, ℕ, suc, ◌+◌, ◌<◌, Some, None, inl, inr, List, [], ◌∷◌, ◌++◌, map, take, length, get_or, slice_get, codes, decimal, refl, sym, ap, ap₂, ◌∙◌, arith, append_assoc, append-nil}
use Rattle.std.specs.List.{flat_map}
use Rattle.std.specs.Option.{unwrap_or}
use Rattle.std.proofs.lemmas.Grind.{flat_map-append}
use Rattle.std.proofs.lemmas.List.{take_more, length-take-le}
use Rattle.std.proofs.lemmas.Option.{unwrap_or-slice_get, slice_get_cases}
use Rattle.sig_core.specs.declared.ids.ConId.{ConId}
use Rattle.sig_core.specs.Signatures.{Declarations}
use Rattle.term_core.specs.declared.ids.TermId.{TermId}
use Rattle.term_core.specs.declared.tree.Tree.{Tree}
use Rattle.term_core.specs.declared.tree.Tree.TheFolds.{fold-roll-Tree}
use Rattle.term_core.specs.Banks.{tree_of, Lists}
use Rattle.term_core.specs.Terms.{node, con_of, kids_of, size}
use Rattle.term_core.proofs.Parts.{kids_of-node}
use Rattle.deriv_core.specs.declared.parts.Step.{Step}
use Rattle.deriv_core.specs.declared.parts.StepId.{StepId}
use Rattle.deriv_core.specs.Steps.{tree_step, tree_steps}
use Rattle.answer_core.specs.AnswerText.{application_text, constructor_text, derived_line, ending, heading_text, list_text, node_line, numbered_lines, place_of_node, spaced, step_line, term_text, term_text_step, word, IsAnswerText}

words_of_ids : (ids : List StepId) → flat_map (λ n. word (decimal n)) (map (λ id. id.0) ids) ≡ flat_map (λ id. word (decimal id.0)) ids
words_of_ids [] = refl
words_of_ids (id ∷ ids) = ap (λ ws. word (decimal id.0) ++ ws) (words_of_ids ids)

spaced_ids : (ids : List StepId) → spaced decimal (map (λ id. id.0) ids) ≡ spaced (λ id. decimal id.0) ids
spaced_ids [] = refl
spaced_ids (id ∷ ids) = ap (λ ws. decimal id.0 ++ ws) (words_of_ids ids)

-- a space and the numbers in a list, written in three parts
pub premises_written : (ids : List StepId) (old a b d : List ℕ) → a ≡ old ++ codes " (" → b ≡ a ++ spaced (λ id. decimal id.0) ids → d ≡ b ++ codes ")" → d ≡ old ++ word (list_text decimal (map (λ id. id.0) ids))
premises_written ids old a b d first second third =
    let text = spaced decimal (map (λ id. id.0) ids) in
    third ∙ ap (λ t. t ++ codes ")") (second ∙ ap₂ (λ x y. x ++ y) first (sym (spaced_ids ids)))
    ∙ append_assoc (old ++ codes " (") text (codes ")") ∙ append_assoc old (codes " (") (text ++ codes ")")

numbered_push : {X : Type 0} (line : ℕ → X → List ℕ) (n : ℕ) (xs : List X) (x : X) → numbered_lines line n (xs ++ x ∷ []) ≡ numbered_lines line n xs ++ line (n + length xs) x
numbered_push line n [] x = append-nil (line n x) ∙ ap (λ k. line k x) (let e : n ≡ n + 0 = omega arith in e)
numbered_push line n (y ∷ ys) x =
    ap (λ ls. line n y ++ ls) (numbered_push line (suc n) ys x ∙ ap (λ k. numbered_lines line (suc n) ys ++ line k x) (let e : suc n + length ys ≡ n + suc (length ys) = omega arith in e))
    ∙ sym (append_assoc (line n y) (numbered_lines line (suc n) ys) (line (n + suc (length ys)) x))

-- one line more
pub lines_at : {X : Type 0} (line : ℕ → X → List ℕ) (xs : List X) (i : ℕ) (d : X) (old now new : List ℕ) → i < length xs
    → now ≡ old ++ numbered_lines line 0 (take i xs) → new ≡ now ++ line i (get_or xs i d) → new ≡ old ++ numbered_lines line 0 (take (i + 1) xs)
lines_at line xs i d old now new below had e =
    let count : 0 + length (take i xs) ≡ i = omega (arith, length-take-le i xs (omega arith)) in
    let more : numbered_lines line 0 (take (i + 1) xs) ≡ numbered_lines line 0 (take i xs) ++ line i (get_or xs i d) =
    ap (numbered_lines line 0) (take_more xs i d below) ∙ numbered_push line 0 (take i xs) (get_or xs i d) ∙ ap (λ k. numbered_lines line 0 (take i xs) ++ line k (get_or xs i d)) count in
    e ∙ ap (λ t. t ++ line i (get_or xs i d)) had ∙ append_assoc old (numbered_lines line 0 (take i xs)) (line i (get_or xs i d)) ∙ ap (λ t. old ++ t) (sym more)

pub lines_more : {X : Type 0} (line : ℕ → X → List ℕ) (xs : List X) (i : ℕ) (x : X) (old now new : List ℕ) → i < length xs → x ≡ get_or xs i x
    → now ≡ old ++ numbered_lines line 0 (take i xs) → new ≡ now ++ line i x → new ≡ old ++ numbered_lines line 0 (take (i + 1) xs)
lines_more line xs i x old now new below is had e = lines_at line xs i x old now new below had (e ∙ ap (λ y. now ++ line i y) is)

-- one item more
pub words_at : {X : Type 0} (f : X → List ℕ) (xs : List X) (i : ℕ) (d : X) (old now new : List ℕ) → i < length xs
    → now ≡ old ++ flat_map f (take i xs) → new ≡ now ++ f (get_or xs i d) → new ≡ old ++ flat_map f (take (i + 1) xs)
words_at f xs i d old now new below had e =
    let more : flat_map f (take (i + 1) xs) ≡ flat_map f (take i xs) ++ (f (get_or xs i d) ++ []) = ap (flat_map f) (take_more xs i d below) ∙ flat_map-append f (take i xs) (get_or xs i d ∷ []) in
    e ∙ ap (λ t. t ++ f (get_or xs i d)) had ∙ append_assoc old (flat_map f (take i xs)) (f (get_or xs i d))
    ∙ ap (λ t. old ++ (flat_map f (take i xs) ++ t)) (sym (append-nil (f (get_or xs i d)))) ∙ ap (λ t. old ++ t) (sym more)

-- what stands at a place, whatever the default
pub stands_at : {X : Type 0} (xs : List X) (i : ℕ) (x : X) → slice_get xs i ≡ Some x → x ≡ get_or xs i x
stands_at xs i x e = sym (ap (λ o. unwrap_or o x) e) ∙ unwrap_or-slice_get xs i x

pub absent : {X : Type 0} (xs : List X) (i : ℕ) → slice_get xs i ≡ None → i < length xs → ⊥
absent xs i e h = elim (slice_get_cases xs i).1 [ inl there ↦ absurd (let t : slice_get xs i ≡ Some there.0 = there.2 in let f : Some there.0 ≡ None = sym t ∙ e in cc) | inr past ↦ omega (arith, past.0) ]

lines_of_map : {X Y : Type 0} (line : ℕ → Y → List ℕ) (g : X → Y) (n : ℕ) (xs : List X) → numbered_lines line n (map g xs) ≡ numbered_lines (λ k x. line k (g x)) n xs
lines_of_map line g n [] = refl
lines_of_map line g n (x ∷ xs) = ap (λ ls. line n (g x) ++ ls) (lines_of_map line g (suc n) xs)

words_of_map : {X Y : Type 0} (f : Y → List ℕ) (g : X → Y) (xs : List X) → flat_map f (map g xs) ≡ flat_map (λ x. f (g x)) xs
words_of_map f g [] = refl
words_of_map f g (x ∷ xs) = ap (λ ls. f (g x) ++ ls) (words_of_map f g xs)

map_of_map : {X Y Z : Type 0} (f : Y → Z) (g : X → Y) (xs : List X) → map f (map g xs) ≡ map (λ x. f (g x)) xs
map_of_map f g [] = refl
map_of_map f g (x ∷ xs) = ap (λ ls. f (g x) ∷ ls) (map_of_map f g xs)

-- the line of a node, written in six parts
pub node_written : (sig : Declarations) (bank : List Tree) (nodes : List Tree) (number : ℕ) (id : TermId) (kids : List TermId) (old a b d e f g : List ℕ)
    → tree_of bank id ≡ node (con_of (tree_of bank id)) (map (tree_of bank) kids)
    → a ≡ old ++ codes "(node" → b ≡ a ++ word (decimal number) → d ≡ b ++ codes " " → e ≡ d ++ constructor_text sig (con_of (tree_of bank id))
    → f ≡ e ++ flat_map (λ kid. word (decimal (place_of_node nodes (tree_of bank kid)))) kids → g ≡ f ++ ending
    → g ≡ old ++ node_line sig nodes number (tree_of bank id)
node_written sig bank nodes number id kids old a b d e f g is first second third fourth fifth sixth =
    let t : Tree = tree_of bank id in
    let places : flat_map (λ kid. word (decimal (place_of_node nodes kid))) (kids_of t) ≡ flat_map (λ kid. word (decimal (place_of_node nodes (tree_of bank kid)))) kids =
    ap (λ u. flat_map (λ kid. word (decimal (place_of_node nodes kid))) (kids_of u)) is
    ∙ ap (flat_map (λ kid. word (decimal (place_of_node nodes kid)))) (kids_of-node (con_of t) (map (tree_of bank) kids))
    ∙ words_of_map (λ kid. word (decimal (place_of_node nodes kid))) (tree_of bank) kids in
    joined_six old (codes "(node") (word (decimal number)) (codes " ") (constructor_text sig (con_of t)) (flat_map (λ kid. word (decimal (place_of_node nodes (tree_of bank kid)))) kids) ending a b d e f g first second third fourth fifth sixth
    ∙ ap (λ ps. old ++ (codes "(node" ++ word (decimal number) ++ word (constructor_text sig (con_of t)) ++ ps ++ ending)) (sym places) where
      joined_six : (old x1 x2 x3 x4 x5 x6 a b d e f g : List ℕ) → a ≡ old ++ x1 → b ≡ a ++ x2 → d ≡ b ++ x3 → e ≡ d ++ x4 → f ≡ e ++ x5 → g ≡ f ++ x6
          → g ≡ old ++ (x1 ++ x2 ++ (x3 ++ x4) ++ x5 ++ x6)
      joined_six old x1 x2 x3 x4 x5 x6 a b d e f g first second third fourth fifth sixth =
          let whole : g ≡ old ++ x1 ++ x2 ++ x3 ++ x4 ++ x5 ++ x6 = cc in
          whole ∙ simp append_assoc

-- the version, the term and its size, written in five parts
pub heading_written : (sig : Declarations) (t : Tree) (old a b d e f : List ℕ)
    → a ≡ old ++ (codes "(answer 1)" ++ 10 ∷ [] ++ codes "(term ") → b ≡ a ++ term_text sig t → d ≡ b ++ (ending ++ codes "(size") → e ≡ d ++ word (decimal (size t)) → f ≡ e ++ ending
    → f ≡ old ++ heading_text sig t
heading_written sig t old a b d e f first second third fourth fifth =
    joined_five old (codes "(answer 1)" ++ 10 ∷ []) (codes "(term") (codes " ") (term_text sig t) ending (codes "(size") (word (decimal (size t))) ending a b d e f first second third fourth fifth where
      joined_five : (old x1 x2 x3 x4 x5 x6 x7 x8 a b d e f : List ℕ) → a ≡ old ++ (x1 ++ x2 ++ x3) → b ≡ a ++ x4 → d ≡ b ++ (x5 ++ x6) → e ≡ d ++ x7 → f ≡ e ++ x8
          → f ≡ old ++ (x1 ++ x2 ++ (x3 ++ x4) ++ x5 ++ x6 ++ x7 ++ x8)
      joined_five old x1 x2 x3 x4 x5 x6 x7 x8 a b d e f first second third fourth fifth =
          let whole : f ≡ old ++ (x1 ++ x2 ++ x3) ++ x4 ++ (x5 ++ x6) ++ x7 ++ x8 = cc in
          whole ∙ simp append_assoc

term_text-node : (sig : Declarations) (con : ConId) (kids : List Tree) → term_text sig (node con kids) ≡ application_text (constructor_text sig con) (map (term_text sig) kids)
term_text-node sig con kids = fold-roll-Tree (List ℕ) (term_text_step sig) (record { con = con; kids = kids })

-- a term without children
pub constant_text : (sig : Declarations) (bank : List Tree) (t : Tree) (kids : List TermId) → t ≡ node (con_of t) (map (tree_of bank) kids) → length kids ≡ 0 → constructor_text sig (con_of t) ≡ term_text sig t
constant_text sig bank t [] is e = sym (ap (term_text sig) is ∙ term_text-node sig (con_of t) [])
constant_text sig bank t (kid ∷ kids) is e = absurd (omega arith)

-- a term with children, written in three parts
pub list_written : (sig : Declarations) (bank : List Tree) (t : Tree) (kids : List TermId) (old now new : List ℕ) → t ≡ node (con_of t) (map (tree_of bank) kids) → (length kids ≡ 0 → ⊥)
    → now ≡ old ++ (codes "(" ++ constructor_text sig (con_of t) ++ flat_map (λ kid. word (term_text sig (tree_of bank kid))) kids) → new ≡ now ++ codes ")" → new ≡ old ++ term_text sig t
list_written sig bank t [] old now new is e first second = absurd (e refl)
list_written sig bank t (kid ∷ kids) old now new is e first second =
    let head : List ℕ = constructor_text sig (con_of t) in
    let texts : flat_map word (map (term_text sig) (map (tree_of bank) (kid ∷ kids))) ≡ flat_map (λ k. word (term_text sig (tree_of bank k))) (kid ∷ kids) =
    ap (flat_map word) (map_of_map (term_text sig) (tree_of bank) (kid ∷ kids)) ∙ words_of_map word (λ k. term_text sig (tree_of bank k)) (kid ∷ kids) in
    second ∙ ap (λ x. x ++ codes ")") first ∙ append_assoc old (codes "(" ++ head ++ flat_map (λ k. word (term_text sig (tree_of bank k))) (kid ∷ kids)) (codes ")")
    ∙ ap (λ x. old ++ (codes "(" ++ (head ++ x) ++ codes ")")) (sym texts)
    ∙ ap (λ x. old ++ x) (sym (ap (term_text sig) is ∙ term_text-node sig (con_of t) (map (tree_of bank) (kid ∷ kids))))

-- the parts of an answer, one after the other
pub whole_text : (sig : Declarations) (bank : List Tree) (root : Tree) (ids : List TermId) (steps : List Step) (derived : List StepId) (a b d e : List ℕ)
    → Lists bank root ids → a ≡ [] ++ heading_text sig root
    → b ≡ a ++ numbered_lines (λ n id. node_line sig (map (tree_of bank) ids) n (tree_of bank id)) 0 ids
    → d ≡ b ++ numbered_lines (λ n step. step_line sig (map (tree_of bank) ids) n (tree_step bank step)) 0 steps
    → e ≡ d ++ numbered_lines (λ n id. derived_line n id.0) 0 derived
    → IsAnswerText sig root (tree_steps bank steps) (map (λ id. id.0) derived) e
whole_text sig bank root ids steps derived a b d e lists first second third fourth = record {
  nodes = map (tree_of bank) ids;
  listed = lists.nodes;
  is =
      let nodes : List Tree = map (tree_of bank) ids in
      fourth ∙ ap₂ (λ x y. x ++ y)
      (third ∙ ap₂ (λ x y. x ++ y) (second ∙ ap₂ (λ x y. x ++ y) first (sym (lines_of_map (node_line sig nodes) (tree_of bank) 0 ids))) (sym (lines_of_map (step_line sig nodes) (tree_step bank) 0 steps)))
      (sym (lines_of_map derived_line (λ (id : StepId). id.0) 0 derived));
}
