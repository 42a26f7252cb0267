-- The leaders of a nonterminal are those of its candidates that no leader before them equals in mark.
use Rattle.std.proofs.Common.{◌≡◌, ℕ, suc, ◌+◌, Bool, true, false, MatchBool, List, [], ◌∷◌, ◌++◌, length, All, Contains, sym, refl, ap, subst, ◌∙◌, arith}
use Rattle.std.specs.List.{AllZip}
use Rattle.std.specs.declared.cmp.Ordering.TheVariants.{Less}
use Rattle.std.proofs.lemmas.List.{length_push}
use Rattle.std.proofs.lemmas.List.Elements.{All-cons, All-nil}
use Rattle.sig_core.specs.Signatures.{Declarations}
use Rattle.sig_core.specs.declared.ids.ConId.{ConId}
use Rattle.term_core.specs.declared.tree.Tree.{Tree}
use Rattle.term_core.specs.Terms.{con_of, kids_of, node, size, term_cmp}
use Rattle.term_core.specs.Typings.{IsTermOf}
use Rattle.term_core.proofs.Parts.{rolled}
use Rattle.grammar_core.specs.declared.ids.NtId.{NtId}
use Rattle.grammar_core.specs.declared.production.Nonterminal.{Nonterminal}
use Rattle.grammar_core.specs.declared.production.Production.{Production}
use Rattle.grammar_core.specs.Grammars.{Lang, productions_of}
use Rattle.grammar_core.proofs.Language.{lang_by, produced}
use Rattle.class_core.specs.Leaders.{AreChosen, IsCandidate, IsLeader, LeadersAmongCandidates, NoLeaderBefore, NoneWithoutLeader}
use Rattle.class_core.specs.Sources.{KeepsLaw}
use Rattle.class_core.proofs.Leading.{before_then, none_without_leader, of_signature}
use Rattle.class_core.proofs.Replacing.{earlier_child, one_matched, zip_append}

push_more : {X : Type 0} (xs : List X) (x : X) (ys : List X) → xs ++ x ∷ ys ≡ (xs ++ x ∷ []) ++ ys
push_more [] x ys = refl
push_more (z ∷ xs) x ys = ap (λ zs. z ∷ zs) (push_more xs x ys)

module _ (sig : Declarations) (grammar : List Nonterminal) (same : Tree → Tree → Type 0) (plain : ConId → ℕ → Bool) (law : KeepsLaw sig grammar same plain) where
  abbrev Of : Tree → NtId → Type 0
  Of t m = Lang grammar m t

  pub is_term : (n : NtId) (t : Tree) → Lang grammar n t → IsTermOf sig t
  is_term = of_signature sig grammar law.grammar_fits

  itself_same : (n : NtId) (t : Tree) → Lang grammar n t → same t t
  itself_same n t h = law.equals.itself t (is_term n t h)

  all_itself : (ts : List Tree) (args : List NtId) → AllZip Of ts args → All (λ t. same t t) ts
  all_itself [] [] all = All-nil (λ t. same t t)
  all_itself [] (m ∷ args) all = absurd all
  all_itself (t ∷ ts) [] all = absurd all
  all_itself (t ∷ ts) (m ∷ args) all = All-cons (λ t. same t t) t ts (itself_same m t all.0) (all_itself ts args all.1)

  module _ (n : NtId) (t : Tree) (leader : IsLeader grammar same n t) (p : Production) (stands : Contains (productions_of grammar n) p) where
    -- a child of a leader at a plain place is a leader
    child_leads : (ts : List Tree) (before : List NtId) (x : Tree) (m : NtId) (us : List Tree) (after : List NtId) → AllZip Of ts before → Lang grammar m x → AllZip Of us after
        → t ≡ node p.con (ts ++ x ∷ us) → p.args ≡ before ++ m ∷ after → plain p.con (length ts) ≡ true → IsLeader grammar same m x
    child_leads ts before x m us after first here rest is args is_plain = record {
      member = here;
      first = λ u of_m less same_u. (let kids = ts ++ u ∷ us in
          let new = node p.con kids in
          let languages : AllZip Of kids p.args = subst (AllZip Of kids) (sym args) (zip_append Of ts before (u ∷ us) (m ∷ after) first (of_m, rest)) in
          let in_n : Lang grammar n new = lang_by grammar n p.con kids (record { production = p; stands = stands; head = refl; children = languages }) in
          let earlier : term_cmp new t ≡ Less = ap (term_cmp new) is ∙ earlier_child p.con ts u x us less in
          let equal : same new (node p.con (ts ++ x ∷ us)) = law.congruent p.con kids (ts ++ x ∷ us) (is_term n new in_n) (is_term n (node p.con (ts ++ x ∷ us)) (subst (Lang grammar n) is leader.member))
          (one_matched same (plain p.con) 0 (length ts) ts u x us (omega arith) is_plain same_u (all_itself ts before first) (all_itself us after rest)) in
          leader.first new in_n earlier (subst (same new) (sym is) equal));
    }

    -- what is asked of a child at a place that is plain or not
    at_place : (b : Bool) (x : Tree) (m : NtId) → (b ≡ true → IsLeader grammar same m x) → Lang grammar m x → MatchBool b (IsLeader grammar same m x) (Lang grammar m x)
    at_place true x m leads here = leads refl
    at_place false x m leads here = here

    chosen : (ts : List Tree) (before : List NtId) (us : List Tree) (after : List NtId) (i : ℕ) → i ≡ length ts → AllZip Of ts before → AllZip Of us after → t ≡ node p.con (ts ++ us) → p.args ≡ before ++ after
        → AreChosen grammar same (plain p.con) i us after
    chosen ts before [] [] i at first rest is args = tt
    chosen ts before [] (m ∷ after) i at first rest is args = absurd rest
    chosen ts before (x ∷ us) [] i at first rest is args = absurd rest
    chosen ts before (x ∷ us) (m ∷ after) i at first rest is args = (
      at_place (plain p.con i) x m (λ on. child_leads ts before x m us after first rest.0 rest.1 is args (ap (plain p.con) (sym at) ∙ on)) rest.0,
      chosen (ts ++ x ∷ []) (before ++ m ∷ []) us after (suc i) (let next : suc i ≡ length (ts ++ x ∷ []) = omega (arith, length_push ts x) in next)
          (zip_append Of ts before (x ∷ []) (m ∷ []) first (rest.0, tt)) rest.1 (is ∙ ap (node p.con) (push_more ts x us)) (args ∙ push_more before m after),
    )

  pub leader_is_candidate : (n : NtId) (t : Tree) → IsLeader grammar same n t → IsCandidate grammar same plain n (size t) t
  leader_is_candidate n t leader =
      let made = produced grammar n (con_of t) (kids_of t) (subst (Lang grammar n) (sym (rolled t)) leader.member) in
      let p = made.production in
      let is : t ≡ node p.con (kids_of t) = sym (rolled t) ∙ ap (λ c. node c (kids_of t)) (sym made.head) in record {
        sized = refl;
        production = p;
        stands = made.stands;
        kids = kids_of t;
        is = is;
        children = chosen n t leader p made.stands [] [] (kids_of t) p.args 0 refl tt made.children is refl;
      }

  member_at : (b : Bool) (x : Tree) (m : NtId) → MatchBool b (IsLeader grammar same m x) (Lang grammar m x) → Lang grammar m x
  member_at true x m leads = leads.member
  member_at false x m here = here

  members : (q : ℕ → Bool) (i : ℕ) (ts : List Tree) (args : List NtId) → AreChosen grammar same q i ts args → AllZip Of ts args
  members q i [] [] all = tt
  members q i [] (m ∷ args) all = absurd all
  members q i (t ∷ ts) [] all = absurd all
  members q i (t ∷ ts) (m ∷ args) all = (member_at (q i) t m all.0, members q (suc i) ts args all.1)

  pub candidate_in_language : (n : NtId) (k : ℕ) (t : Tree) → IsCandidate grammar same plain n k t → Lang grammar n t
  candidate_in_language n k t c =
      subst (Lang grammar n) (sym c.is) (lang_by grammar n c.production.con c.kids (record { production = c.production; stands = c.stands; head = refl; children = members (plain c.production.con) 0 c.kids c.production.args c.children }))

  -- no term is without a leader
  pub some_leader : NoneWithoutLeader grammar same
  some_leader = none_without_leader sig grammar same law.grammar_fits law.equals

  leader_among : (n : NtId) (t : Tree) → IsLeader grammar same n t → IsCandidate grammar same plain n (size t) t × NoLeaderBefore grammar same n t
  leader_among n t leader = (leader_is_candidate n t leader, λ l earlier less same_l. leader.first l earlier.member less same_l)

  among_leads : (n : NtId) (t : Tree) → IsCandidate grammar same plain n (size t) t → NoLeaderBefore grammar same n t → IsLeader grammar same n t
  among_leads n t candidate none = record {
    member = candidate_in_language n (size t) t candidate;
    first = λ u of_n less same_u. some_leader n u of_n (λ l of. none l of.leader (before_then l u t of.not_after less) (law.equals.onward l u t of.is_same same_u));
  }

  pub leaders_among : LeadersAmongCandidates grammar same plain
  leaders_among n t = (leader_among n t, λ h. among_leads n t h.0 h.1)
