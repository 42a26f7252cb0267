-- The laws of what is printed and read again.
use Rattle.std.specs.Prelude.{◌≡◌, ℕ, ◌<◌, ◌≤◌, ◌^◌, true, Some, Ok, List, [], ◌∷◌, length, decimal}
use Rattle.sig_core.specs.declared.value.Value.{Value}
use Rattle.sig_core.specs.Texts.{literal_text}
use Rattle.sig_core.specs.Values.{is_value}
use Rattle.sexpr_core.specs.declared.form.Sexpr.{Sexpr}
use Rattle.sexpr_core.specs.Lexicon.{IsNumeral}
use Rattle.sexpr_core.specs.Numerals.{number_from}
use Rattle.sexpr_core.specs.Spelling.{Spell}
use Rattle.sig_core.specs.Signatures.{Declarations}
use Rattle.sig_core.specs.WellFormed.{IsWellFormed}
use Rattle.sig_core.specs.declared.ids.TypeId.{TypeId}
use Rattle.term_core.specs.declared.tree.Tree.{Tree}
use Rattle.term_core.specs.Typings.{HasType}
use Rattle.answer_core.specs.AnswerText.{term_text}
use Rattle.answer_core.specs.Names.{term_misnamed}
use Rattle.answer_core.specs.Numbers.{literal}
use Rattle.answer_core.specs.Readings.{TreeAnswer, nothing, reading, term_of}
use Rattle.answer_core.specs.Shapes.{deepest, term_misfits}
use Rattle.answer_laws.specs.Answers.{IsAnswerTold, SpellsAll, text_of_answer}
use Rattle.answer_laws.specs.Names.{HasSpelledNames, term_nesting}

abbrev pub NumeralsReadBack : Type 0
NumeralsReadBack = (n : ℕ) → n < 10 ^ 64 → IsNumeral (decimal n) × (number_from 0 (decimal n) ≡ n)

-- the text spells one form, of which this holds
abbrev pub SpellsOne : List ℕ → (Sexpr → Type 0) → Type 0
SpellsOne text Holds = (form : Sexpr) × Spell text (form ∷ []) × Holds form

abbrev pub LiteralsReadBack : Type 0
LiteralsReadBack = (v : Value) → is_value v ≡ true → SpellsOne (literal_text v) (λ form. literal form ≡ Some v)

-- no node of the form is bad, and it stands for the term
pub record StandsFor (sig : Declarations) (form : Sexpr) (t : Tree) : Type 0 where
  pub shape : term_misfits deepest form ≡ []
  pub names : term_misnamed deepest sig form ≡ []
  pub is : term_of deepest sig form ≡ t

abbrev pub TermsReadBack : Type 0
TermsReadBack = (sig : Declarations) → IsWellFormed sig → HasSpelledNames sig → (u : TypeId) (t : Tree) → HasType sig u t → term_nesting t ≤ deepest → SpellsOne (term_text sig t) (λ form. StandsFor sig form t)

-- the forms are read as the answer, wherever the text ends
abbrev pub AnswersReadBack : Type 0
AnswersReadBack = (sig : Declarations) → IsWellFormed sig → HasSpelledNames sig → (answer : TreeAnswer) → IsAnswerTold sig answer
    → SpellsAll (text_of_answer sig answer) (λ forms. (end : ℕ) → reading sig (length answer.derived) end forms nothing ≡ Ok answer)
