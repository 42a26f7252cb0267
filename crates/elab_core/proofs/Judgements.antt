-- Every text has one judgement.
use Rattle.std.proofs.Common.{◌≡◌, ◌<◌, ◌≤◌, ℕ, Result, Err, List, length, ◌⊎◌, inl, inr, refl, ap, ap₂, ◌∙◌, arith}
use Rattle.std.proofs.lemmas.Bool.{cases_lt}
use Rattle.sexpr_core.specs.declared.form.Sexpr.{Sexpr}
use Rattle.sexpr_core.specs.Prefixes.{Complete, IsFault}
use Rattle.sexpr_core.specs.Spelling.{Spell}
use Rattle.sexpr_core.proofs.Finishing.{fault_no_spelling}
use Rattle.sexpr_core.proofs.Once.{spells_once}
use Rattle.sexpr_core.proofs.PrefixesOnce.{complete_once, fault_once}
use Rattle.sexpr_core.proofs.Runs.{completes, judged_fault}
use Rattle.problem_core.specs.Problems.{Parts}
use Rattle.syntax_core.specs.declared.fault.Fault.{Fault}
use Rattle.state_core.specs.Commands.{stands}
use Rattle.elab_core.specs.Judging.{Judges, too_long, spelled, misspelled, after, closed, cut_short}
use Rattle.name_core.specs.States.{start}

-- what is judged of these complete forms before this fault
abbrev cut : List Sexpr → ℕ → ℕ → Result Parts Fault
cut forms place reason = Err (cut_short place reason (after (stands start) forms))

cut_once : (text : List ℕ) (forms others : List Sexpr) (p q r s : ℕ) → IsFault text p r → Complete text forms → IsFault text q s → Complete text others →
    cut forms p r ≡ cut others q s
cut_once text forms others p q r s fault complete also too =
    let same = fault_once text fault also in
    ap₂ (λ place reason. cut forms place reason) same.0 same.1 ∙ ap (λ fs. cut fs q s) (complete_once text complete too)

pub judged_once : {text : List ℕ} {result other : Result Parts Fault} → Judges text result → Judges text other → result ≡ other
judged_once (too_long long) (too_long also) = refl
judged_once (too_long long) (spelled forms short is) = absurd (omega arith)
judged_once (too_long long) (misspelled forms place reason short fault complete) = absurd (omega arith)
judged_once (spelled forms short is) (too_long long) = absurd (omega arith)
judged_once {text = text} (spelled forms short is) (spelled others also are) = ap (λ fs. closed (length text) (after (stands start) fs)) (spells_once text forms others is are)
judged_once {text = text} (spelled forms short is) (misspelled others place reason also fault complete) = absurd (fault_no_spelling text fault forms is)
judged_once (misspelled forms place reason short fault complete) (too_long long) = absurd (omega arith)
judged_once {text = text} (misspelled forms place reason short fault complete) (spelled others also is) = absurd (fault_no_spelling text fault others is)
judged_once {text = text} (misspelled forms place reason short fault complete) (misspelled others other_place other_reason also other too) =
    cut_once text forms others place other_place reason other_reason fault complete other too

judged_short : (text : List ℕ) → length text ≤ 1048576 → (forms : List Sexpr) → Complete text forms →
    ((forms : List Sexpr) × Spell text forms) ⊎ ((place : ℕ) × (reason : ℕ) × IsFault text place reason) →
    (result : Result Parts Fault) × Judges text result
judged_short text short forms complete (inl spells) = (closed (length text) (after (stands start) spells.0), spelled spells.0 short spells.1)
judged_short text short forms complete (inr fault) = (_, misspelled forms fault.0 fault.1 short fault.2 complete)

judged_by : (text : List ℕ) → (1048576 < length text) ⊎ (length text ≤ 1048576) → (result : Result Parts Fault) × Judges text result
judged_by text (inl long) = (_, too_long long)
judged_by text (inr short) = judged_short text short (completes text).0 (completes text).1 (judged_fault text)

pub is_judged : (text : List ℕ) → (result : Result Parts Fault) × Judges text result
is_judged text = judged_by text (cases_lt 1048576 (length text))
