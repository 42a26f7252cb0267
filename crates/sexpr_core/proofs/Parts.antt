-- Texts that are written part after part.
use Rattle.std.proofs.Common.{◌≡◌, ℕ, List, [], ◌++◌, Result, OnErr, sym, ap, ◌∙◌, append_assoc, append-nil}
use Rattle.std.specs.Prelude.{Ok, Err}
use Rattle.sig_core.specs.Texts.{IsPart}

-- `now` holds the old bytes and the text but for `rest`
pub record Reaches (old text now rest : List ℕ) : Type 0 where
  pub done : List ℕ
  pub grows : now ≡ old ++ done
  pub splits : done ++ rest ≡ text

pub Reaches-start : (old text rest : List ℕ) → text ≡ rest → Reaches old text old rest
Reaches-start old text rest e = record { done = []; grows = sym (append-nil old); splits = sym e }

pub Reaches-step : {old text mid : List ℕ} (t rest new : List ℕ) → Reaches old text mid (t ++ rest) → new ≡ mid ++ t → Reaches old text new rest
Reaches-step {old} {text} {mid} t rest new p e = record {
  done = p.done ++ t;
  grows = e ∙ ap (λ xs. xs ++ t) p.grows ∙ append_assoc old p.done t;
  splits = append_assoc p.done t rest ∙ p.splits;
}

pub Reaches-end : {old text now : List ℕ} → Reaches old text now [] → now ≡ old ++ text
Reaches-end {old} p = p.grows ∙ ap (λ xs. old ++ xs) (sym (append-nil p.done) ∙ p.splits)

pub Reaches-stop : {old text now rest : List ℕ} → Reaches old text now rest → IsPart old now text
Reaches-stop {old} {text} {now} {rest} p = record { done = p.done; rest = rest; grows = p.grows; splits = p.splits }

-- a part of the next text `t`
pub Reaches-part : {old text mid : List ℕ} (t rest new : List ℕ) → Reaches old text mid (t ++ rest) → IsPart mid new t → IsPart old new text
Reaches-part {old} {text} {mid} t rest new p q = record {
  done = p.done ++ q.done;
  rest = q.rest ++ rest;
  grows = q.grows ∙ ap (λ xs. xs ++ q.done) p.grows ∙ append_assoc old p.done q.done;
  splits = append_assoc p.done q.done (q.rest ++ rest) ∙ ap (λ xs. p.done ++ xs) (sym (append_assoc q.done q.rest rest) ∙ ap (λ xs. xs ++ rest) q.splits) ∙ p.splits;
}

pub OnErr-always : {T E P : Type 0} (r : Result T E) → P → OnErr r P
OnErr-always (Ok x) p = tt
OnErr-always (Err e) p = p
