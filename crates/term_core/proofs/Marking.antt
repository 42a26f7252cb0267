-- Marks that reach every subterm of a term.
use Rattle.std.proofs.Common.{◌≡◌, ℕ, zero, suc, ◌+◌, ◌<◌, ◌≤◌, Bool, true, false, List, [], ◌∷◌, ◌++◌, length, map, get_or, set, take, drop, replicate, All, Contains, ◌⊎◌, inl, inr, sym, refl, ap, subst, ◌∙◌, arith}
use Rattle.std.proofs.lemmas.Bool.{cases_eq}
use Rattle.std.proofs.lemmas.List.{append-nil, drop_all, take_all, get_or-set_same, get_or-set_other, get_or_default, get_or-map, length-set, length-map, length-replicate}
use Rattle.std.proofs.lemmas.List.Elements.{All-head, All-tail, All-cons, All-nil, All-weaker}
use Rattle.term_core.specs.declared.ids.TermId.{TermId}
use Rattle.term_core.specs.declared.node.Node.{Node}
use Rattle.term_core.specs.declared.tree.Tree.{Tree}
use Rattle.term_core.specs.Terms.{kids_of, IsSubterm, itself, below}
use Rattle.term_core.specs.Banks.{tree_of}
use Rattle.term_core.specs.Marks.{MarkSubterms, marked_with}
use Rattle.term_core.specs.Nodes.{IsBank, trees_of}
use Rattle.term_core.proofs.NodeReads.{kids_read}
use Rattle.term_core.proofs.Trees.{length-trees_of}

-- a child of a subterm is a subterm
pub child_of_subterm : {u t : Tree} (s : Tree) → IsSubterm u t → Contains (kids_of u) s → IsSubterm s t
child_of_subterm s itself h = below h itself
child_of_subterm s (below k r) h = below k (child_of_subterm s r h)

pub length-marked_with : (ids : List TermId) (marks : List Bool) → length (marked_with ids marks) ≡ length marks
length-marked_with [] marks = refl
length-marked_with (id ∷ ids) marks = length-marked_with ids (set marks id.0 true) ∙ length-set marks id.0 true

set_stays : (marks : List Bool) (i j : ℕ) → i < length marks → get_or marks j false ≡ true → get_or (set marks i true) j false ≡ true
set_stays marks i j h e = elim (cases_eq j i) [ inl p ↦ subst (λ n. get_or (set marks i true) n false ≡ true) (sym p) (get_or-set_same marks i true false h) | inr p ↦ get_or-set_other marks i j true false p ∙ e ]

below_set : (marks : List Bool) (i : ℕ) (ids : List TermId) → All (λ id. id.0 < length marks) ids → All (λ id. id.0 < length (set marks i true)) ids
below_set marks i ids = All-weaker (λ id. id.0 < length marks) (λ id. id.0 < length (set marks i true)) (λ id p. omega (arith, length-set marks i true)) ids

pub mark_stays : (ids : List TermId) (marks : List Bool) (j : ℕ) → All (λ id. id.0 < length marks) ids → get_or marks j false ≡ true → get_or (marked_with ids marks) j false ≡ true
mark_stays [] marks j h e = e
mark_stays (id ∷ ids) marks j h e =
    mark_stays ids (set marks id.0 true) j (below_set marks id.0 ids (All-tail (λ x. x.0 < length marks) id ids h)) (set_stays marks id.0 j (All-head (λ x. x.0 < length marks) id ids h) e)

pub all_marked : (ids : List TermId) (marks : List Bool) → All (λ id. id.0 < length marks) ids → All (λ id. get_or (marked_with ids marks) id.0 false ≡ true) ids
all_marked [] marks h = All-nil (λ id. get_or marks id.0 false ≡ true)
all_marked (id ∷ ids) marks h =
    let later = below_set marks id.0 ids (All-tail (λ x. x.0 < length marks) id ids h) in
    All-cons (λ x. get_or (marked_with ids (set marks id.0 true)) x.0 false ≡ true) id ids
    (mark_stays ids (set marks id.0 true) id.0 later (get_or-set_same marks id.0 true false (All-head (λ x. x.0 < length marks) id ids h)))
    (all_marked ids (set marks id.0 true) later)

-- a mark is an old one, or one of the ids'
pub marked_cases : (ids : List TermId) (marks : List Bool) (j : ℕ) → get_or (marked_with ids marks) j false ≡ true → (get_or marks j false ≡ true) ⊎ Contains ids (record { 0 = j })
marked_cases [] marks j e = inl e
marked_cases (id ∷ ids) marks j e =
    elim (marked_cases ids (set marks id.0 true) j e) [
      | inl p ↦ elim (cases_eq j id.0) [ inl q ↦ inr (zero, omega arith, ap (λ n. record { 0 = n }) (sym q)) | inr q ↦ inl (sym (get_or-set_other marks id.0 j true false q) ∙ p) ]
      | inr p ↦ inr (suc p.0, omega (arith, p.1), p.2)
    ]

lower_than : (k : ℕ) (ids : List TermId) → All (λ id. id.0 < k) ids → (j : ℕ) → k ≤ j → Contains ids (record { 0 = j }) → ⊥
lower_than k ids low j h (i, l, e) =
    let p : (get_or ids i (record { 0 = j })).0 < k = low i (record { 0 = j }) l in
    let q : j < k = subst (λ x. x.0 < k) e p in
    omega arith

-- what stands in a list of ids stands for a term of theirs
pub mapped : (trees : List Tree) (ids : List TermId) (id : TermId) → Contains ids id → Contains (map (tree_of trees) ids) (tree_of trees id)
mapped trees ids id (i, l, e) = (i, omega (arith, length-map ids (tree_of trees)), get_or-map (tree_of trees) ids i id (tree_of trees id) l ∙ ap (tree_of trees) e)

-- the marks once the nodes from k on are done
pub record Marked (ns : List Node) (id : TermId) (k : ℕ) (marks : List Bool) : Type 0 where
  pub size : length marks ≡ id.0 + 1
  pub root : get_or marks id.0 false ≡ true
  pub sound : (j : ℕ) → j < length marks → get_or marks j false ≡ true → IsSubterm (tree_of (trees_of ns) (record { 0 = j })) (tree_of (trees_of ns) id)
  pub closed : (j : ℕ) (d : Node) → k ≤ j → j < length marks → get_or marks j false ≡ true → All (λ kid. get_or marks kid.0 false ≡ true) (get_or ns j d).kids

unset : (n j : ℕ) → get_or (replicate n false) j false ≡ false
unset zero j = refl
unset (suc n) zero = refl
unset (suc n) (suc j) = unset n j

is_unset : {b : Bool} → b ≡ false → b ≡ true → ⊥
is_unset p q = cc

only_one : (n i j : ℕ) → get_or (set (replicate n false) i true) j false ≡ true → j ≡ i
only_one n i j e =
    elim (cases_eq j i) [ inl p ↦ p | inr p ↦ absurd (is_unset (unset n j) (sym (get_or-set_other (replicate n false) i j true false p) ∙ e)) ]

module _ (ns : List Node) (bank : IsBank ns) (id : TermId) (live : id.0 < length ns) where
  -- before the first node is done, the root alone is marked
  pub marked_start : Marked ns id (id.0 + 1) (set (replicate (id.0 + 1) false) id.0 true)
  marked_start =
      let marks : List Bool = set (replicate (id.0 + 1) false) id.0 true in
      let count : length marks ≡ id.0 + 1 = length-set (replicate (id.0 + 1) false) id.0 true ∙ length-replicate (id.0 + 1) false in record {
        size = count;
        root = get_or-set_same (replicate (id.0 + 1) false) id.0 true false (omega (arith, length-replicate (id.0 + 1) false));
        sound = λ j h e. subst (λ n. IsSubterm (tree_of (trees_of ns) (record { 0 = n })) (tree_of (trees_of ns) id)) (sym (only_one (id.0 + 1) id.0 j e)) itself;
        closed = λ j d h l e. absurd (omega arith);
      }

  -- a node whose mark is not set is passed over
  pub marked_skip : (k : ℕ) (marks : List Bool) → Marked ns id (k + 1) marks → get_or marks k false ≡ false → Marked ns id k marks
  marked_skip k marks m off = record {
    size = m.size;
    root = m.root;
    sound = m.sound;
    closed = λ j d h l e.
        elim (cases_eq j k) [
          | inl p ↦ absurd (is_unset (subst (λ n. get_or marks n false ≡ false) (sym p) off) e)
          | inr p ↦ m.closed j d (omega arith) l e
        ];
  }

  -- the children of a node whose mark is set are marked
  pub marked_next : (k : ℕ) (marks : List Bool) (n : Node) → Marked ns id (k + 1) marks → k < id.0 + 1 → n ≡ get_or ns k n → get_or marks k false ≡ true → Marked ns id k (marked_with n.kids marks)
  marked_next k marks n m within is on =
      let lower : All (λ kid. kid.0 < k) n.kids = subst (λ x. All (λ kid. kid.0 < k) x.kids) (sym is) (bank.earlier k n (omega arith)) in
      let inside : All (λ kid. kid.0 < length marks) n.kids = All-weaker (λ kid. kid.0 < k) (λ kid. kid.0 < length marks) (λ kid p. omega (arith, m.size)) n.kids lower in
      let parent : IsSubterm (tree_of (trees_of ns) (record { 0 = k })) (tree_of (trees_of ns) id) = m.sound k (omega (arith, m.size)) on in
      let kids = kids_read ns bank (record { 0 = k }) n (omega arith) is in
      let not_below : (j : ℕ) → k ≤ j → Contains n.kids (record { 0 = j }) → ⊥ = λ j h c. lower_than k n.kids lower j h c in record {
        size = length-marked_with n.kids marks ∙ m.size;
        root = mark_stays n.kids marks id.0 inside m.root;
        sound = λ j h e.
            elim (marked_cases n.kids marks j e) [
              | inl p ↦ m.sound j (omega (arith, length-marked_with n.kids marks)) p
              | inr p ↦ child_of_subterm (tree_of (trees_of ns) (record { 0 = j })) parent (subst (λ ts. Contains ts (tree_of (trees_of ns) (record { 0 = j }))) (sym kids) (mapped (trees_of ns) n.kids (record { 0 = j }) p))
            ];
        closed = λ j d h l e.
            elim (marked_cases n.kids marks j e) [
              | inl p ↦ elim (cases_eq j k) [
                | inl q ↦ subst (λ x. All (λ kid. get_or (marked_with n.kids marks) kid.0 false ≡ true) x.kids) (is ∙ get_or_default ns k n d (omega arith) ∙ ap (λ i. get_or ns i d) (sym q)) (all_marked n.kids marks inside)
                | inr q ↦ All-weaker (λ kid. get_or marks kid.0 false ≡ true) (λ kid. get_or (marked_with n.kids marks) kid.0 false ≡ true) (λ kid r. mark_stays n.kids marks kid.0 inside r) (get_or ns j d).kids
                    (m.closed j d (omega arith) (omega (arith, length-marked_with n.kids marks)) p)
              ]
              | inr p ↦ absurd (not_below j h p)
            ];
      }

  -- each subterm of a marked term stands at a mark
  complete : (marks : List Bool) → Marked ns id 0 marks → {s t : Tree} → IsSubterm s t → (u : ℕ) → u < length marks → get_or marks u false ≡ true → tree_of (trees_of ns) (record { 0 = u }) ≡ t
      → (j : ℕ) × (j < length marks) × (get_or marks j false ≡ true) × (tree_of (trees_of ns) (record { 0 = j }) ≡ s)
  complete marks m itself u h on e = (u, h, on, e)
  complete marks m (below {s} {t} {kid} c r) u h on e =
      let d : Node = record { con = record { 0 = 0 }; kids = []; size = 0 } in
      let n : Node = get_or ns u d in
      let within : u < length ns = omega (arith, m.size) in
      let kids = kids_read ns bank (record { 0 = u }) n within (get_or_default ns u d n within) in
      let there : Contains (map (tree_of (trees_of ns)) n.kids) kid = subst (λ ts. Contains ts kid) kids (subst (λ x. Contains (kids_of x) kid) (sym e) c) in
      let place : there.0 < length n.kids = omega (arith, there.1, length-map n.kids (tree_of (trees_of ns))) in
      let none : TermId = record { 0 = 0 } in
      let next : TermId = get_or n.kids there.0 none in
      let lower : next.0 < u = bank.earlier u d within there.0 none place in
      complete marks m r next.0 (omega arith) (m.closed u d (omega arith) h on there.0 none place) (sym (get_or-map (tree_of (trees_of ns)) n.kids there.0 none kid place) ∙ there.2)

  pub marks_end : (marks : List Bool) → Marked ns id 0 marks → MarkSubterms (trees_of ns) id marks
  marks_end marks m = record {
    size = m.size;
    exact = λ k h. (
      λ e. m.sound k h e,
      λ sub.
          let found = complete marks m sub id.0 (omega (arith, m.size)) m.root refl in
          let same : record { 0 = found.0 } ≡ record { 0 = k } = bank.each_once (record { 0 = found.0 }) (record { 0 = k }) (omega (arith, length-trees_of ns, m.size, found.1)) (omega (arith, length-trees_of ns, m.size)) found.3 in
          subst (λ i. get_or marks i.0 false ≡ true) same found.2,
    );
  }

-- a write of a whole slice of a `Vec` leaves what was written
pub written_back : (n : ℕ) (xs ys : List Bool) → n ≡ length ys → length xs ≡ length ys → take n (xs ++ drop (length xs) ys) ≡ xs
written_back n xs ys p q =
    ap (λ zs. take n (xs ++ zs)) (drop_all (length xs) ys (omega arith)) ∙ ap (take n) (append-nil xs) ∙ take_all n xs (omega arith)

-- each subterm of a bank's term is a term of the bank, of no higher number
pub stands : (ns : List Node) → IsBank ns → {s t : Tree} → IsSubterm s t → (u : ℕ) → u < length ns → tree_of (trees_of ns) (record { 0 = u }) ≡ t
    → (j : ℕ) × (j ≤ u) × (tree_of (trees_of ns) (record { 0 = j }) ≡ s)
stands ns bank itself u h e = (u, omega arith, e)
stands ns bank (below {s} {t} {kid} c r) u h e =
    let d : Node = record { con = record { 0 = 0 }; kids = []; size = 0 } in
    let n : Node = get_or ns u d in
    let kids = kids_read ns bank (record { 0 = u }) n h (get_or_default ns u d n h) in
    let there : Contains (map (tree_of (trees_of ns)) n.kids) kid = subst (λ ts. Contains ts kid) kids (subst (λ x. Contains (kids_of x) kid) (sym e) c) in
    let place : there.0 < length n.kids = omega (arith, there.1, length-map n.kids (tree_of (trees_of ns))) in
    let none : TermId = record { 0 = 0 } in
    let next : TermId = get_or n.kids there.0 none in
    let lower : next.0 < u = bank.earlier u d h there.0 none place in
    let found = stands ns bank r next.0 (omega arith) (sym (get_or-map (tree_of (trees_of ns)) n.kids there.0 none kid place) ∙ there.2) in
    (found.0, omega (arith, found.1), found.2)
