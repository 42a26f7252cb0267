-- The text of an answer that was found reads back as a valid answer.
use Rattle.std.proofs.Common.{◌≡◌, ◌≤◌, ℕ, suc, Bool, true, false, List, [], ◌∷◌, ◌++◌, length, refl, ap, arith}
use Rattle.std.proofs.Math.ListN.{length-append}
use Rattle.sig_core.specs.Signatures.{Declarations}
use Rattle.term_core.specs.declared.tree.Tree.{Tree}
use Rattle.problem_core.specs.Problems.{Parts}
use Rattle.deriv_core.specs.Steps.{TreeStep}
use Rattle.answer_core.specs.declared.answer.Verdict.TheVariants as verdict
use Rattle.answer_core.specs.AnswerText as printed
use Rattle.answer_core.specs.AnswerText.{derived_line, heading_text, node_line, numbered_lines, step_line}
use Rattle.solved_laws.specs.Laws.{ReadsValid, answer_of}
use Rattle.solved_laws.proofs.Derived.{solved_answers_read_back}
use Rattle.checking_core.specs.Checks.{Checks, judged}
use Rattle.checking_core.specs.declared.check.Checked.TheVariants as checked
use Rattle.semgus_app.specs.Dues.{valid}
use Rattle.run_laws.specs.Laws.{FoundAnswersAreValid}
use Rattle.run_laws.proofs.SoundProblems.{judged_problems_are_sound}
use Rattle.run_laws.proofs.SpelledNames.{judged_names_are_spelled}

-- Each step has a line of the text.

abbrev has_first : List ℕ → Bool
has_first [] = false
has_first (byte ∷ bytes) = true

not_empty : (bytes : List ℕ) → has_first bytes ≡ true → 1 ≤ length bytes
not_empty [] h = absurd (cc)
not_empty (byte ∷ bytes) h = omega arith

lines_of_steps : (sig : Declarations) (nodes : List Tree) (n : ℕ) (steps : List TreeStep) → length steps ≤ length (numbered_lines (step_line sig nodes) n steps)
lines_of_steps sig nodes n [] = omega arith
lines_of_steps sig nodes n (step ∷ steps) =
    let line = step_line sig nodes n step in
    let lines = numbered_lines (step_line sig nodes) (suc n) steps in
    let here : 1 ≤ length line = not_empty line refl in
    let later = lines_of_steps sig nodes (suc n) steps in
    let both = length-append line lines in
    omega (arith, here, later, both)

middle : (a b c d : List ℕ) → length c ≤ length (a ++ b ++ c ++ d)
middle a b c d = omega (arith, length-append (a ++ b ++ c) d, length-append (a ++ b) c, length-append a b)

few_steps : (sig : Declarations) (t : Tree) (steps : List TreeStep) (derived text : List ℕ) → printed.IsAnswerText sig t steps derived text → length steps ≤ length text
few_steps sig t steps derived text is_text =
    let nodes = is_text.nodes in
    let lines = lines_of_steps sig nodes 0 steps in
    let among = middle (heading_text sig t) (numbered_lines (node_line sig nodes) 0 nodes) (numbered_lines (step_line sig nodes) 0 steps) (numbered_lines derived_line 0 derived) in
    let same = ap (λ (bytes : List ℕ). length bytes) is_text.is in
    omega (arith, lines, among, same)

-- what reads as a valid answer is found to be one
found_valid : (problem : Parts) (height : ℕ) (t : Tree) (steps : List TreeStep) (derived text : List ℕ) → length text ≤ 8388608 → ReadsValid problem height t steps derived text → Checks problem height text checked.Valid
found_valid problem height t steps derived text short back =
    judged (answer_of t back.nodes steps derived) verdict.Valid (record { short = short; forms = back.forms; spelled = back.spelled; read = back.read (length text) }) back.valid

pub found_answers_are_valid : FoundAnswersAreValid
found_answers_are_valid bytes problem height size text file answer high large judges found short =
    let t = found.term in
    let solution = found.first.solution in
    let few = few_steps problem.signature t found.steps found.derived text found.text_is in
    let sound = judged_problems_are_sound bytes problem judges in
    let names = judged_names_are_spelled bytes problem judges in
    let back = solved_answers_read_back problem sound names height t solution.member (omega (arith, solution.small, large.1)) found.steps found.derived found.derivation (omega (arith, few, short)) text found.text_is in
    valid file answer height problem judges (found_valid problem height t found.steps found.derived text short back)
