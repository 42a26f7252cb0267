-- Nonterminals and productions that are added one after the other make the grammar of a command.
use Rattle.std.proofs.Common.{◌≡◌, ℕ, ◌+◌, List, [], ◌∷◌, ◌++◌, map, length, slice_set, refl, sym, ap, ◌∙◌, arith}
use Rattle.std.specs.Prelude.{slice_index_or}
use Rattle.std.specs.List.{zip}
use Rattle.std.proofs.lemmas.List.{append-nil, append_assoc, length-append}
use Rattle.sig_core.specs.Signatures.{Declarations}
use Rattle.sexpr_core.specs.declared.form.Sexpr.{Sexpr}
use Rattle.syntax_core.specs.declared.syntax.Pair.{Pair}
use Rattle.syntax_core.specs.Syntax.{items_at}
use Rattle.grammar_core.specs.declared.production.Nonterminal.{Nonterminal}
use Rattle.grammar_core.specs.declared.production.Production.{Production}
use Rattle.grammar_core.specs.Grammars.{blank}
use Rattle.grammar_core.specs.Refusals.{with_production}
use Rattle.making_core.specs.Fitting.{with_groups, with_nonterminals, with_productions}
use Rattle.making_core.specs.Making.{nonterminal_of, production_of}
use Rattle.sort_core.specs.Relations.{type_named}

-- a pair's nonterminal without productions
abbrev pub bare : Declarations → Pair → Nonterminal
bare sig pair = record { name = pair.name.bytes; owner = type_named sig pair.sort.bytes; productions = [] }

pub bare_all : (sig : Declarations) (grammar : List Nonterminal) (pairs : List Pair) → with_nonterminals sig grammar pairs ≡ grammar ++ map (bare sig) pairs
bare_all sig grammar [] = sym (append-nil grammar)
bare_all sig grammar (pair ∷ pairs) = bare_all sig (grammar ++ bare sig pair ∷ []) pairs ∙ append_assoc grammar (bare sig pair ∷ []) (map (bare sig) pairs)

at_middle : {X : Type 0} (xs ys : List X) (x d : X) → slice_index_or (xs ++ x ∷ ys) (length xs) d ≡ x
at_middle [] ys x d = refl
at_middle (y ∷ xs) ys x d = at_middle xs ys x d

set_middle : {X : Type 0} (xs ys : List X) (x v : X) → slice_set (xs ++ x ∷ ys) (length xs) v ≡ xs ++ v ∷ ys
set_middle [] ys x v = refl
set_middle (y ∷ xs) ys x v = ap (λ zs. y ∷ zs) (set_middle xs ys x v)

-- a nonterminal with more productions
abbrev pub with_more : Nonterminal → List Production → Nonterminal
with_more n ps = record n { productions = n.productions ++ ps }

one_production : (xs ys : List Nonterminal) (n : Nonterminal) (p : Production) → with_production (xs ++ n ∷ ys) (record { 0 = length xs }) p ≡ xs ++ with_more n (p ∷ []) ∷ ys
one_production xs ys n p =
    ap (λ m. slice_set (xs ++ n ∷ ys) (length xs) (with_more m (p ∷ []))) (at_middle xs ys n blank) ∙ set_middle xs ys n (with_more n (p ∷ []))

productions_of_middle : (xs ys : List Nonterminal) (n : Nonterminal) (ps : List Production) → with_productions (xs ++ n ∷ ys) (record { 0 = length xs }) ps ≡ xs ++ with_more n ps ∷ ys
productions_of_middle xs ys n [] = ap (λ ps. xs ++ record n { productions = ps } ∷ ys) (sym (append-nil n.productions))
productions_of_middle xs ys n (p ∷ ps) =
    ap (λ g. with_productions g (record { 0 = length xs }) ps) (one_production xs ys n p)
    ∙ productions_of_middle xs ys (with_more n (p ∷ [])) ps
    ∙ ap (λ qs. xs ++ record n { productions = qs } ∷ ys) (append_assoc n.productions (p ∷ []) ps)

-- the productions of a group
abbrev pub group_productions : Declarations → List (List ℕ) → Sexpr → List Production
group_productions sig names group = map (production_of sig names) (items_at 2 group)

groups_from : (sig : Declarations) (names : List (List ℕ)) (pairs : List Pair) (groups : List Sexpr) (done : List Nonterminal) (n : ℕ) → n ≡ length done → length groups ≡ length pairs →
    with_groups (done ++ map (bare sig) pairs) n (map (group_productions sig names) groups) ≡ done ++ map (nonterminal_of sig names) (zip pairs groups)
groups_from sig names [] [] done n e count = refl
groups_from sig names [] (group ∷ groups) done n e count = absurd (omega arith)
groups_from sig names (pair ∷ pairs) [] done n e count = absurd (omega arith)
groups_from sig names (pair ∷ pairs) (group ∷ groups) done n e count =
    let full : Nonterminal = nonterminal_of sig names (pair, group) in
    let rest : List Nonterminal = map (bare sig) pairs in
    let left : List (List Production) = map (group_productions sig names) groups in
    let fewer : length groups ≡ length pairs = omega arith in
    let longer : n + 1 ≡ length (done ++ full ∷ []) = omega (arith, e, length-append done (full ∷ [])) in
    ap (λ k. with_groups (with_productions (done ++ bare sig pair ∷ rest) (record { 0 = k }) (group_productions sig names group)) (n + 1) left) e
    ∙ ap (λ g. with_groups g (n + 1) left) (productions_of_middle done rest (bare sig pair) (group_productions sig names group))
    ∙ ap (λ g. with_groups g (n + 1) left) (sym (append_assoc done (full ∷ []) rest))
    ∙ groups_from sig names pairs groups (done ++ full ∷ []) (n + 1) longer fewer
    ∙ append_assoc done (full ∷ []) (map (nonterminal_of sig names) (zip pairs groups))

-- the grammar of nonterminals and as many groups
pub grammar_made : (sig : Declarations) (names : List (List ℕ)) (pairs : List Pair) (groups : List Sexpr) → length groups ≡ length pairs →
    with_groups (with_nonterminals sig [] pairs) 0 (map (group_productions sig names) groups) ≡ map (nonterminal_of sig names) (zip pairs groups)
grammar_made sig names pairs groups count =
    ap (λ g. with_groups g 0 (map (group_productions sig names) groups)) (bare_all sig [] pairs) ∙ groups_from sig names pairs groups [] 0 refl count
