-- A bank with one more node.
use Rattle.std.proofs.Common.{◌≡◌, ℕ, ◌+◌, ◌<◌, List, [], ◌∷◌, ◌++◌, length, map, sum, get_or, All, Contains, ◌⊎◌, inl, inr, sym, refl, ap, ap₂, subst, ◌∙◌, arith}
use Rattle.std.proofs.lemmas.Bool.{cases_lt}
use Rattle.std.proofs.lemmas.List.{get_or_append_left, get_or_push, length_push, get_or_default}
use Rattle.std.proofs.lemmas.List.Elements.{All-head, All-tail, All-weaker}
use Rattle.sig_core.specs.declared.ids.ConId.{ConId}
use Rattle.term_core.specs.declared.ids.TermId.{TermId}
use Rattle.term_core.specs.declared.node.Node.{Node}
use Rattle.term_core.specs.declared.tree.Tree.{Tree}
use Rattle.term_core.specs.Terms.{node, size}
use Rattle.term_core.specs.Banks.{EachOnce, IsLive, Keeps, leaf, tree_of}
use Rattle.term_core.specs.Nodes.{HasNode, IsBank, term_over, trees_of}
use Rattle.term_core.proofs.Order.{size-node}
use Rattle.term_core.proofs.Parts.{same_con, same_kids}
use Rattle.term_core.proofs.Trees.{length-trees_of, term_at, trees_of-push}

-- live ids that stand for the same terms are the same
pub same_ids : (trees : List Tree) → EachOnce trees → (ls rs : List TermId) → All (IsLive trees) ls → All (IsLive trees) rs → map (tree_of trees) ls ≡ map (tree_of trees) rs → ls ≡ rs
same_ids trees once [] [] p q e = refl
same_ids trees once [] (r ∷ rs) p q e = absurd cc
same_ids trees once (l ∷ ls) [] p q e = absurd cc
same_ids trees once (l ∷ ls) (r ∷ rs) p q e =
    let first : tree_of trees l ≡ tree_of trees r = cc in
    let others : map (tree_of trees) ls ≡ map (tree_of trees) rs = cc in
    ap₂ (λ x xs. x ∷ xs) (once l r (All-head (IsLive trees) l ls p) (All-head (IsLive trees) r rs q) first) (same_ids trees once ls rs (All-tail (IsLive trees) l ls p) (All-tail (IsLive trees) r rs q) others)

-- ids below the number of nodes are live
pub all_live : (ns : List Node) (ids : List TermId) → All (λ id. id.0 < length ns) ids → All (IsLive (trees_of ns)) ids
all_live ns ids = All-weaker (λ id. id.0 < length ns) (IsLive (trees_of ns)) (λ id p. omega (arith, length-trees_of ns)) ids

pub kids_live : (ns : List Node) → IsBank ns → (k : ℕ) (d : Node) → k < length ns → All (IsLive (trees_of ns)) (get_or ns k d).kids
kids_live ns bank k d h = All-weaker (λ id. id.0 < k) (IsLive (trees_of ns)) (λ id p. omega (arith, length-trees_of ns)) (get_or ns k d).kids (bank.earlier k d h)

module _ (ns : List Node) (bank : IsBank ns) (con : ConId) (kids : List TermId) (live : All (λ kid. kid.0 < length ns) kids) where
  -- a term whose node is nowhere is no term of the bank
  pub not_there : All (λ n. HasNode con kids n → ⊥) ns → Contains (trees_of ns) (node con (map (tree_of (trees_of ns)) kids)) → ⊥
  not_there absent (k, h, e) =
      let within : k < length ns = omega (arith, length-trees_of ns) in
      let d : Node = record { con = con; kids = kids; size = 0 } in
      let n : Node = get_or ns k d in
      let terms : List TermId → List Tree = map (tree_of (trees_of ns)) in
      let same : node n.con (terms n.kids) ≡ node con (terms kids) =
      sym (term_at ns bank k n within (get_or_default ns k d n within)) ∙ get_or_default (trees_of ns) k leaf (node con (terms kids)) h ∙ e in
      absent k d within (
        same_con n.con con (terms n.kids) (terms kids) same,
        same_ids (trees_of ns) bank.each_once n.kids kids (kids_live ns bank k d within) (all_live ns kids live) (same_kids n.con con (terms n.kids) (terms kids) same),
      )

module _ (ns : List Node) (bank : IsBank ns) (n : Node) (live : All (λ kid. kid.0 < length ns) n.kids) (sized : n.size ≡ 1 + sum (map size (map (tree_of (trees_of ns)) n.kids))) (absent : Contains (trees_of ns) (term_over (trees_of ns) n) → ⊥) where
  -- each place is an old one, or the last
  place : (k : ℕ) → k < length (ns ++ n ∷ []) → (k < length ns) ⊎ (k ≡ length ns)
  place k h = elim (cases_lt k (length ns)) [ inl p ↦ inl p | inr p ↦ inr (omega (arith, length_push ns n)) ]

  earlier_at : (k : ℕ) (d : Node) → (k < length ns) ⊎ (k ≡ length ns) → All (λ kid. kid.0 < k) (get_or (ns ++ n ∷ []) k d).kids
  earlier_at k d (inl p) = subst (λ m. All (λ kid. kid.0 < k) m.kids) (sym (get_or_append_left ns (n ∷ []) d k p)) (bank.earlier k d p)
  earlier_at k d (inr p) = subst (λ m. All (λ kid. kid.0 < k) m.kids) (sym (get_or_push ns n d k (sym p))) (subst (λ j. All (λ kid. kid.0 < j) n.kids) (sym p) live)

  old_tree : (k : ℕ) → k < length ns → tree_of (trees_of (ns ++ n ∷ [])) (record { 0 = k }) ≡ tree_of (trees_of ns) (record { 0 = k })
  old_tree k p = ap (λ ts. tree_of ts (record { 0 = k })) (trees_of-push ns n) ∙ get_or_append_left (trees_of ns) (term_over (trees_of ns) n ∷ []) leaf k (omega (arith, length-trees_of ns))

  new_tree : (k : ℕ) → k ≡ length ns → tree_of (trees_of (ns ++ n ∷ [])) (record { 0 = k }) ≡ term_over (trees_of ns) n
  new_tree k p = ap (λ ts. tree_of ts (record { 0 = k })) (trees_of-push ns n) ∙ get_or_push (trees_of ns) (term_over (trees_of ns) n) leaf k (omega (arith, length-trees_of ns))

  sized_at : (k : ℕ) (d : Node) → (k < length ns) ⊎ (k ≡ length ns) → (get_or (ns ++ n ∷ []) k d).size ≡ size (tree_of (trees_of (ns ++ n ∷ [])) (record { 0 = k }))
  sized_at k d (inl p) = ap (λ m. m.size) (get_or_append_left ns (n ∷ []) d k p) ∙ bank.sized k d p ∙ ap size (sym (old_tree k p))
  sized_at k d (inr p) =
      ap (λ m. m.size) (get_or_push ns n d k (sym p)) ∙ sized ∙ sym (size-node n.con (map (tree_of (trees_of ns)) n.kids)) ∙ ap size (sym (new_tree k p))

  there : (k : ℕ) → k < length ns → tree_of (trees_of ns) (record { 0 = k }) ≡ term_over (trees_of ns) n → Contains (trees_of ns) (term_over (trees_of ns) n)
  there k p e =
      let h : k < length (trees_of ns) = omega (arith, length-trees_of ns) in
      (k, h, get_or_default (trees_of ns) k (term_over (trees_of ns) n) leaf h ∙ e)

  once_at : (a b : TermId) → (a.0 < length ns) ⊎ (a.0 ≡ length ns) → (b.0 < length ns) ⊎ (b.0 ≡ length ns) → tree_of (trees_of (ns ++ n ∷ [])) a ≡ tree_of (trees_of (ns ++ n ∷ [])) b → a ≡ b
  once_at a b (inl p) (inl q) e = bank.each_once a b (omega (arith, length-trees_of ns)) (omega (arith, length-trees_of ns)) (sym (old_tree a.0 p) ∙ e ∙ old_tree b.0 q)
  once_at a b (inl p) (inr q) e = absurd (absent (there a.0 p (sym (old_tree a.0 p) ∙ e ∙ new_tree b.0 q)))
  once_at a b (inr p) (inl q) e = absurd (absent (there b.0 q (sym (old_tree b.0 q) ∙ sym e ∙ new_tree a.0 p)))
  once_at a b (inr p) (inr q) e = ap (λ k. record { 0 = k }) (p ∙ sym q)

  within : (k : ℕ) → k < length (trees_of (ns ++ n ∷ [])) → k < length (ns ++ n ∷ [])
  within k h = omega (arith, length-trees_of (ns ++ n ∷ []))

  pub bank-push : IsBank (ns ++ n ∷ [])
  bank-push = record {
    earlier = λ k d h. earlier_at k d (place k h);
    sized = λ k d h. sized_at k d (place k h);
    each_once = λ a b p q e. once_at a b (place a.0 (within a.0 p)) (place b.0 (within b.0 q)) e;
  }

-- what stands after a node of con and kids is put last
pub record Grown (ns after : List Node) (con : ConId) (kids : List TermId) : Type 0 where
  pub bank : IsBank after
  pub trees : trees_of after ≡ trees_of ns ++ node con (map (tree_of (trees_of ns)) kids) ∷ []
  pub absent : Contains (trees_of ns) (node con (map (tree_of (trees_of ns)) kids)) → ⊥

module _ (ns : List Node) (bank : IsBank ns) (con : ConId) (kids : List TermId) (live : All (λ kid. kid.0 < length ns) kids) (absent : All (λ n. HasNode con kids n → ⊥) ns) (size' : ℕ)
    (sized : size' ≡ 1 + sum (map size (map (tree_of (trees_of ns)) kids))) where
  grown_by : Grown ns (ns ++ record { con = con; kids = kids; size = size' } ∷ []) con kids
  grown_by = record {
    bank = bank-push ns bank (record { con = con; kids = kids; size = size' }) live sized (not_there ns bank con kids live absent);
    trees = trees_of-push ns (record { con = con; kids = kids; size = size' });
    absent = not_there ns bank con kids live absent;
  }

-- the same, from what the calls say
pub grown : (ns first second after : List Node) (con : ConId) (kids start own : List TermId) (size' : ℕ) → IsBank ns → first ≡ ns → second ≡ ns → All (λ kid. kid.0 < length ns) kids
    → All (λ n. HasNode con kids n → ⊥) first → start ≡ [] → own ≡ start ++ kids → size' ≡ 1 + sum (map size (map (tree_of (trees_of second)) kids))
    → after ≡ ns ++ record { con = con; kids = own; size = size' } ∷ [] → Grown ns after con kids
grown ns first second after con kids start own size' bank is_first is_second live absent no_start is_own sized is =
    let size_is : size' ≡ 1 + sum (map size (map (tree_of (trees_of ns)) kids)) = sized ∙ ap (λ xs. 1 + sum (map size (map (tree_of (trees_of xs)) kids))) is_second in
    let kids_are : own ≡ kids = is_own ∙ ap (λ xs. xs ++ kids) no_start in
    let last : after ≡ ns ++ record { con = con; kids = kids; size = size' } ∷ [] = is ∙ ap (λ ids. ns ++ record { con = con; kids = ids; size = size' } ∷ []) kids_are in
    subst (λ xs. Grown ns xs con kids) (sym last) (grown_by ns bank con kids live (subst (All (λ n. HasNode con kids n → ⊥)) is_first absent) size' size_is)

-- a term that is put last leaves the others
pub Keeps-push : (bank : List Tree) (t : Tree) → Keeps bank (bank ++ t ∷ [])
Keeps-push bank t = record {
  live = omega (arith, length_push bank t);
  same = λ id h. get_or_append_left bank (t ∷ []) leaf id.0 h;
}
