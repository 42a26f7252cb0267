-- An answer has one verdict.
use Rattle.std.proofs.Common.{◌≡◌, ◌<◌, ◌≤◌, ℕ, List, take, ◌⊎◌, inl, inr, refl, sym, ap, ap₂, subst, ◌∙◌, arith}
use Rattle.std.proofs.lemmas.Bool.{cases_order}
use Rattle.std.proofs.lemmas.Option.{same_Some}
use Rattle.sig_core.specs.Signatures.{Declarations}
use Rattle.rule_core.specs.declared.rule.Rule.{Rule}
use Rattle.problem_core.specs.Problems.{Parts}
use Rattle.deriv_core.specs.declared.list.BadStep.{BadStep}
use Rattle.deriv_core.specs.Steps as steps
use Rattle.deriv_core.specs.Steps.{IsFirstBad, IsFirstFault, TreeStep, reason_of}
use Rattle.answer_core.specs.declared.answer.Verdict.{Verdict}
use Rattle.answer_core.specs.declared.answer.Verdict.TheVariants as verdict
use Rattle.answer_core.specs.Readings.{TreeAnswer}
use Rattle.answer_core.specs.Verdicts.{Test, nodes_listed, size_right, in_language, steps_valid, constraints_met, number_of, IsFirstUnmet, IsVerdict, OneVerdict, Passes}

-- two numbers of which neither is less
neither_less : (m n : ℕ) → (m < n → ⊥) → (n < m → ⊥) → m ≡ n
neither_less m n below above = elim (cases_order m n) [
  | inl same ↦ same
  | inr apart ↦ elim apart [ inl less ↦ absurd (below less) | inr more ↦ absurd (above more) ]
]

module _ (sig : Declarations) (rules : List Rule) (bound : ℕ) (list : List TreeStep) where
  earlier_is_valid : (j k : ℕ) (t u : steps.Test) → IsFirstFault sig rules bound list j t → IsFirstFault sig rules bound list k u → j < k → ⊥
  earlier_is_valid j k t u first second less = first.fails (second.before j less first.step first.at t)

  lesser_is_passed : (k : ℕ) (t u : steps.Test) → IsFirstFault sig rules bound list k t → IsFirstFault sig rules bound list k u → reason_of t < reason_of u → ⊥
  lesser_is_passed k t u first second less =
      let same : first.step ≡ second.step = same_Some first.step second.step (sym first.at ∙ second.at) in
      first.fails (subst (λ step. steps.Passes sig rules bound (take k list) step t) (sym same) (second.passes t less))

  one_first_bad : (b d : BadStep) → IsFirstBad sig rules bound list b → IsFirstBad sig rules bound list d → b ≡ d
  one_first_bad b d first second =
      let at : b.step ≡ d.step =
      neither_less b.step d.step (earlier_is_valid b.step d.step first.test second.test first.fault second.fault) (earlier_is_valid d.step b.step second.test first.test second.fault first.fault) in
      let moved : IsFirstFault sig rules bound list b.step second.test = subst (λ k. IsFirstFault sig rules bound list k second.test) (sym at) second.fault in
      let reasons : reason_of first.test ≡ reason_of second.test =
      neither_less (reason_of first.test) (reason_of second.test) (lesser_is_passed b.step first.test second.test first.fault moved) (lesser_is_passed b.step second.test first.test moved first.fault) in
      ap₂ (λ k r. record { step = k; reason = r }) at (sym first.reason ∙ reasons ∙ second.reason)

one_first_unmet : (problem : Parts) (answer : TreeAnswer) (j k : ℕ) → IsFirstUnmet problem answer j → IsFirstUnmet problem answer k → j ≡ k
one_first_unmet problem answer j k first second = neither_less j k (λ less. first.unmet (second.before j less)) (λ less. second.unmet (first.before k less))

-- how many tests are passed before one fails
abbrev rank : Verdict → ℕ
rank verdict.Nodes = 0
rank verdict.Size = 1
rank verdict.Grammar = 2
rank (verdict.Step bad) = 3
rank (verdict.Constraint k) = 4
rank verdict.Valid = 5

module _ (problem : Parts) (height : ℕ) (answer : TreeAnswer) where
  at_most_five : (v : Verdict) → rank v ≤ 5
  at_most_five verdict.Nodes = omega arith
  at_most_five verdict.Size = omega arith
  at_most_five verdict.Grammar = omega arith
  at_most_five (verdict.Step bad) = omega arith
  at_most_five (verdict.Constraint k) = omega arith
  at_most_five verdict.Valid = omega arith

  failed : (v : Verdict) → IsVerdict problem height answer v → (rank v ≡ 5) ⊎ ((t : Test) × (number_of t ≡ rank v) × (Passes problem height answer t → ⊥))
  failed verdict.Nodes first = inr (nodes_listed, refl, first.fails)
  failed verdict.Size first = inr (size_right, refl, first.fails)
  failed verdict.Grammar first = inr (in_language, refl, first.fails)
  failed (verdict.Step bad) first = inr (steps_valid, refl, first.0.fails)
  failed (verdict.Constraint k) first = inr (constraints_met, refl, first.0.fails)
  failed verdict.Valid all = inl refl

  passed : (v : Verdict) → IsVerdict problem height answer v → (t : Test) → number_of t < rank v → Passes problem height answer t
  passed verdict.Nodes first t less = first.passes t less
  passed verdict.Size first t less = first.passes t less
  passed verdict.Grammar first t less = first.passes t less
  passed (verdict.Step bad) first t less = first.0.passes t less
  passed (verdict.Constraint k) first t less = first.0.passes t less
  passed verdict.Valid all t less = all t

  not_before : (v w : Verdict) → IsVerdict problem height answer v → IsVerdict problem height answer w → rank v < rank w → ⊥
  not_before v w first second less = elim (failed v first) [
    | inl last ↦ omega (arith, last, less, at_most_five w)
    | inr (t, is, fails) ↦ fails (passed w second t (omega (arith, is, less)))
  ]

  of_one_rank : (v w : Verdict) → IsVerdict problem height answer v → IsVerdict problem height answer w → rank v ≡ rank w → v ≡ w
  of_one_rank verdict.Nodes verdict.Nodes first second e = refl
  of_one_rank verdict.Size verdict.Size first second e = refl
  of_one_rank verdict.Grammar verdict.Grammar first second e = refl
  of_one_rank (verdict.Step b) (verdict.Step d) first second e = ap verdict.Step (one_first_bad problem.signature problem.rules height answer.steps b d first.1 second.1)
  of_one_rank (verdict.Constraint j) (verdict.Constraint k) first second e = ap verdict.Constraint (one_first_unmet problem answer j k first.1 second.1)
  of_one_rank verdict.Valid verdict.Valid first second e = refl
  of_one_rank _ _ first second e = absurd (omega arith)

pub one_verdict : OneVerdict
one_verdict problem height answer v w first second =
    of_one_rank problem height answer v w first second
    (neither_less (rank v) (rank w) (not_before problem height answer v w first second) (not_before problem height answer w v second first))
