-- Every term has a leader.
use Rattle.std.proofs.Common.{◌≡◌, ◌⊎◌, inl, inr, refl, List, sym, ap, ◌∙◌}
use Rattle.std.specs.declared.cmp.Ordering.TheVariants.{Less, Equal}
use Rattle.sig_core.specs.Signatures.{Declarations}
use Rattle.term_core.specs.declared.tree.Tree.{Tree}
use Rattle.term_core.specs.Terms.{term_cmp}
use Rattle.term_core.specs.Typings.{IsTermOf}
use Rattle.term_core.proofs.Order.{term_cmp-total}
use Rattle.term_core.proofs.Compare.{itself_equal}
use Rattle.grammar_core.specs.declared.ids.NtId.{NtId}
use Rattle.grammar_core.specs.declared.production.Nonterminal.{Nonterminal}
use Rattle.grammar_core.specs.Grammars.{Lang, nonterminal_at}
use Rattle.grammar_core.specs.Languages.{IsGrammarOf}
use Rattle.grammar_core.proofs.Language.{language_is_typed}
use Rattle.lens_core.specs.Lenses.{IsSameness}
use Rattle.class_core.specs.Leaders.{EachHasLeader, HasEarlier, IsLeader, IsLeaderOf, IsNotAfter, NoneWithoutLeader}
use Rattle.class_core.proofs.Founded.{Founded, above, founded}

pub never_before_itself : (t : Tree) → ¬ (term_cmp t t ≡ Less)
never_before_itself t h = let e : Less ≡ Equal = sym h ∙ itself_equal t in cc

-- what is not after a term that is before t is before t
pub before_then : (l u t : Tree) → IsNotAfter l u → term_cmp u t ≡ Less → term_cmp l t ≡ Less
before_then l u t (inl less) more = term_cmp-total.trans l u t less more
before_then l u t (inr e) more = ap (λ v. term_cmp v t) e ∙ more

-- the terms of a grammar of the signature are of the signature
pub of_signature : (sig : Declarations) (grammar : List Nonterminal) → IsGrammarOf sig grammar → (n : NtId) (t : Tree) → Lang grammar n t → IsTermOf sig t
of_signature sig grammar fits n t member = ((nonterminal_at grammar n).owner, language_is_typed sig grammar fits t n member)

module _ (sig : Declarations) (grammar : List Nonterminal) (same : Tree → Tree → Type 0) (fits : IsGrammarOf sig grammar) (sameness : IsSameness sig same) where
  -- a leader of an earlier term that is the same
  earlier_leader : (n : NtId) (t u l : Tree) → term_cmp u t ≡ Less → same u t → IsLeaderOf grammar same n u l → IsLeaderOf grammar same n t l
  earlier_leader n t u l less is_same of = record {
    leader = of.leader;
    is_same = sameness.onward l u t of.is_same is_same;
    not_after = inl (before_then l u t of.not_after less);
  }

  -- a leader is its own
  own_leader : (n : NtId) (t : Tree) → IsLeader grammar same n t → IsLeaderOf grammar same n t t
  own_leader n t leader = record { leader = leader; is_same = sameness.itself t (of_signature sig grammar fits n t leader.member); not_after = inr refl }

  -- over the terms in their order
  led : (n : NtId) {t : Tree} → Founded t → Lang grammar n t → ¬ ((l : Tree) → ¬ IsLeaderOf grammar same n t l)
  led n {t} (above before) here none =
      none t (own_leader n t (record {
        member = here;
        first = λ u of_n less same_u. led n (before u less) of_n (λ l of. none l (earlier_leader n t u l less same_u of));
      }))

  pub none_without_leader : NoneWithoutLeader grammar same
  none_without_leader n t = led n (founded t)

  module _ (n : NtId) (tell : (t : Tree) → Lang grammar n t → HasEarlier grammar same n t ⊎ ¬ HasEarlier grammar same n t) where
    leader_of : {t : Tree} → Founded t → Lang grammar n t → (l : Tree) × IsLeaderOf grammar same n t l
    leader_of {t} (above before) here = elim (tell t here) [
      | inl earlier ↦ (let p = leader_of (before earlier.0 earlier.2) earlier.1 in (p.0, earlier_leader n t earlier.0 p.0 earlier.2 earlier.3 p.1))
      | inr none ↦ (t, own_leader n t (record { member = here; first = λ u of_n less same_u. none (u, of_n, less, same_u) }))
    ]

  pub each_has_leader : EachHasLeader grammar same
  each_has_leader n tell t = leader_of n tell (founded t)
