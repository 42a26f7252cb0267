-- The search among leaders finds the answer.
use Rattle.std.proofs.Common.{◌≡◌, ◌≤◌, ◌↔◌, inl, inr, ℕ, Option, Some, None, sym, ap, ◌∙◌, subst, arith}
use Rattle.std.proofs.lemmas.Option.{same_Some}
use Rattle.term_core.specs.declared.tree.Tree.{Tree}
use Rattle.term_core.specs.Terms.{size}
use Rattle.term_core.proofs.Typing.{type_is_owner}
use Rattle.grammar_core.specs.Grammars.{start}
use Rattle.grammar_core.specs.Languages.{IsGrammarOf}
use Rattle.grammar_core.proofs.Language.{language_is_typed}
use Rattle.lens_core.specs.Lenses.{IsSameness}
use Rattle.problem_core.specs.Problems.{Parts, IsSolution, IsFirst, IsAnswer}
use Rattle.class_core.specs.Leaders.{IsLeader, IsLeaderOf, IsNotAfter, LeadersAmongCandidates}
use Rattle.class_core.proofs.Leading.{before_then, none_without_leader}
use Rattle.class_core.proofs.Replacing.{not_larger}
use Rattle.class_core.proofs.Theory.{leaders_among}
use Rattle.eval_core.specs.Alikeness.{AreAlike, IsAlike}
use Rattle.eval_core.specs.Lenses.{hands_on}
use Rattle.eval_core.proofs.Alike.{alike_solves_alike}
use Rattle.eval_core.proofs.Lawful.{alike_is_sameness, alike_is_congruent}
use Rattle.solve_core.specs.Pruning.{SolvesAlike, IsLeadingSolution, IsFirstLeading, IsLeadingAnswer, IsFit, wanted_type}

-- what is not after u is no larger
no_larger : (v u : Tree) → IsNotAfter v u → size v ≤ size u
no_larger v u (inl before) = not_larger v u before
no_larger v u (inr same) = let e : size v ≡ size u = ap size same in omega arith

module _ (problem : Parts) (h n : ℕ) (same : Tree → Tree → Type 0) (alike : SolvesAlike problem h same) where
  pub first_is_leader : (t : Tree) → IsFirst problem h n t → IsLeader problem.grammar same start t
  first_is_leader t first = record {
    member = first.solution.member;
    first = λ u lang less is_same.
        (let small = not_larger u t less in
        let at = first.solution.small in
        first.first u (record { member = lang; small = omega arith; solves = (alike u t lang first.solution.member is_same).1 first.solution.solves }) less);
  }

  module _ (fits : IsGrammarOf problem.signature problem.grammar) (sameness : IsSameness problem.signature same) where
    -- the leader of a solution is one
    leader_solves : (u v : Tree) → IsSolution problem h n u → IsLeaderOf problem.grammar same start u v → IsLeadingSolution problem h n same v
    leader_solves u v solution of = record {
      solution = record {
        member = of.leader.member;
        small = (let few = no_larger v u of.not_after in let at = solution.small in omega arith);
        solves = (alike v u of.leader.member solution.member of.is_same).1 solution.solves;
      };
      leader = of.leader;
    }

    first_leading : (t : Tree) → IsFirstLeading problem h n same t → IsFirst problem h n t
    first_leading t leads = record {
      solution = leads.leading.solution;
      first = λ u solution less. none_without_leader problem.signature problem.grammar same fits sameness start u solution.member (λ v of.
          leads.first v (leader_solves u v solution of) (before_then v u t of.not_after less));
    }

    first_leads : (t : Tree) → IsFirst problem h n t → IsFirstLeading problem h n same t
    first_leads t first = record {
      leading = record { solution = first.solution; leader = first_is_leader t first };
      first = λ u leading. first.first u leading.solution;
    }

    none_leads : ((t : Tree) → ¬ IsLeadingSolution problem h n same t) → (t : Tree) → ¬ IsSolution problem h n t
    none_leads none t solution = none_without_leader problem.signature problem.grammar same fits sameness start t solution.member (λ v of. none v (leader_solves t v solution of))

    pub leaders_answer : (answer : Option Tree) → IsLeadingAnswer problem h n same answer ↔ IsAnswer problem h n answer
    leaders_answer None = (none_leads, λ none t leading. none t leading.solution)
    leaders_answer (Some t) = (first_leading t, first_leads t)

module _ (problem : Parts) (fit : IsFit problem) where
  -- terms of the start that are alike solve alike
  pub alike_solve : (h : ℕ) → SolvesAlike problem h (AreAlike problem h)
  alike_solve h = λ t u member other alike.
      (let wanted = wanted_type problem in
      let owner = type_is_owner problem.signature wanted t (language_is_typed problem.signature problem.grammar fit.grammar t start member) in
      let is_type : alike.0 ≡ wanted = same_Some alike.0 wanted (sym alike.1.left ∙ owner) in
      alike_solves_alike problem wanted h t u fit.constraints (subst (λ a. IsAlike problem a h t u) is_type alike.1) h (omega arith))

  pub alike_leaders_answer : (h n : ℕ) (answer : Option Tree) → IsLeadingAnswer problem h n (AreAlike problem h) answer ↔ IsAnswer problem h n answer
  alike_leaders_answer h n answer = leaders_answer problem h n (AreAlike problem h) (alike_solve h) fit.grammar (alike_is_sameness problem h) answer

  pub alike_leaders_among : (bound : ℕ) → LeadersAmongCandidates problem.grammar (AreAlike problem bound) (hands_on problem)
  alike_leaders_among bound =
      leaders_among problem.signature problem.grammar (AreAlike problem bound) (hands_on problem) (record { grammar_fits = fit.grammar; equals = alike_is_sameness problem bound; congruent = alike_is_congruent problem bound fit.flows })
