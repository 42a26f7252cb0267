-- The forms of an answer, one after the other.
use Rattle.std.proofs.Common.{◌≡◌, ◌≤◌, ◌+◌, ℕ, Some, None, inl, inr, Result, Ok, Err, List, ◌∷◌, drop, length, slice_get, sym, ap, subst, ◌∙◌}
use Rattle.std.specs.Option.{ok_or}
use Rattle.std.proofs.lemmas.List.{drop_all, drop_more}
use Rattle.std.proofs.lemmas.Option.{slice_get_cases, slice_get_within}
use Rattle.sig_core.specs.Signatures.{Declarations}
use Rattle.sexpr_core.specs.declared.form.Sexpr.{Sexpr}
use Rattle.std.specs.Result.{IsErrAnd}
use Rattle.answer_core.specs.declared.answer.AnswerError.{AnswerError}
use Rattle.answer_core.specs.declared.answer.AnswerError.TheVariants.{Fault, Memory}
use Rattle.answer_core.specs.declared.answer.AnswerFault.{AnswerFault}
use Rattle.answer_core.specs.Outcomes.{Gives}
use Rattle.answer_core.specs.Readings.{Told, TreeAnswer, fault, form_reading, reading, reading_then, whole_answer}
use Rattle.answer_core.proofs.Lines.{stands_at}

-- where nothing stands at k
pub past_end : {X : Type 0} (xs : List X) (k : ℕ) → slice_get xs k ≡ None → length xs ≤ k
past_end xs k e = elim (slice_get_cases xs k).1 [ inl there ↦ absurd (let t : slice_get xs k ≡ Some there.0 = there.2 in let f : Some there.0 ≡ None = sym t ∙ e in cc) | inr past ↦ past.0 ]

module _ (sig : Declarations) (constraints end : ℕ) (forms : List Sexpr) (due : Result TreeAnswer AnswerFault) (told : Told) (k : ℕ) (left : reading sig constraints end (drop k forms) told ≡ due) where
  split : (form : Sexpr) → slice_get forms k ≡ Some form → reading_then (reading sig constraints end (drop (k + 1) forms)) (form_reading sig constraints told form) ≡ due
  split form at =
      let here : drop k forms ≡ form ∷ drop (k + 1) forms = drop_more forms k form (slice_get_within forms k form at) ∙ ap (λ f. f ∷ drop (k + 1) forms) (sym (stands_at forms k form at)) in
      sym (ap (λ fs. reading sig constraints end fs told) here) ∙ left

  -- the form is read
  pub one_read : (form : Sexpr) (next : Told) → slice_get forms k ≡ Some form → form_reading sig constraints told form ≡ Ok next → reading sig constraints end (drop (k + 1) forms) next ≡ due
  one_read form next at e = sym (ap (reading_then (reading sig constraints end (drop (k + 1) forms))) e) ∙ split form at

  -- the form is bad
  pub one_bad : (form : Sexpr) (bad : AnswerFault) → slice_get forms k ≡ Some form → form_reading sig constraints told form ≡ Err bad → due ≡ Err bad
  one_bad form bad at e = sym (split form at) ∙ ap (reading_then (reading sig constraints end (drop (k + 1) forms))) e

  -- no form is left
  pub all_read : length forms ≤ k → ok_or (whole_answer constraints told) (fault 1 end) ≡ due
  all_read h = sym (ap (λ fs. reading sig constraints end fs told) (drop_all k forms h)) ∙ left

-- an error is handed on
pub handed_on : {X Y : Type 0} (due : Result Y AnswerFault) (r : Result X AnswerError) (meaning : X → Y) (e : AnswerError) → IsErrAnd r (λ x. x ≡ e) → Gives due (Err e) meaning → Gives due r meaning
handed_on due (Ok x) meaning e h g = absurd h
handed_on due (Err x) meaning e h g = subst (λ y. Gives due (Err y) meaning) (sym h) g

pub same_error : {X Y V W : Type 0} (inner : Result Y AnswerFault) (outer : Result W AnswerFault) (meaning : X → Y) (other : V → W) (e : AnswerError) → ((bad : AnswerFault) → inner ≡ Err bad → outer ≡ Err bad) → Gives inner (Err e) meaning → Gives outer (Err e) other
same_error inner outer meaning other (Fault bad) carry g = carry bad g
same_error inner outer meaning other Memory carry g = tt
