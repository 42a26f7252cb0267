-- The texts of canonical forms.
use Rattle.std.proofs.Common.{◌≡◌, ℕ, suc, true, false, List, [], ◌∷◌, ◌++◌, map, decimal, codes, refl, ap, ap₂, ◌∙◌, append-nil}
use Rattle.std.specs.List.{flat_map}
use lib.IntN.{pos, negsuc}
use Rattle.sig_core.specs.declared.value.Value.{Value}
use Rattle.sig_core.specs.declared.value.Value.TheVariants as value
use Rattle.sig_core.specs.Names.{symbol_text}
use Rattle.sig_core.specs.Texts.{literal_text}
use Rattle.sexpr_core.specs.declared.form.Sexpr.{Sexpr}
use Rattle.sexpr_core.specs.Spelling.{atom}
use Rattle.sexpr_core.specs.Texts.{form_text, joined_from}
use Rattle.sexpr_core.proofs.Respelled.{form_text-List, form_text-Numeral, form_text-Symbol}
use Rattle.answer_core.specs.AnswerText.{list_text, word}
use Rattle.answer_laws.proofs.Forms.{list, symbol}
use Rattle.answer_laws.proofs.Literals.{literal_form, number_form}

pub symbol_written : (name : List ℕ) → form_text (symbol name) ≡ symbol_text name
symbol_written name = form_text-Symbol (atom 0 name)

pub number_written : (n : ℕ) → form_text (number_form n) ≡ decimal n
number_written n = form_text-Numeral (atom 0 (decimal n))

later : (i : ℕ) (forms : List Sexpr) → joined_from (suc i) (map form_text forms) ≡ flat_map (λ form. word (form_text form)) forms
later i [] = refl
later i (form ∷ forms) = ap (λ text. (32 ∷ form_text form) ++ text) (later (suc i) forms)

-- the items of a list, with a space between two
pub list_written : (forms : List Sexpr) → form_text (list forms) ≡ list_text form_text forms
list_written [] = form_text-List (record { place = 0; items = [] })
list_written (form ∷ forms) =
    form_text-List (record { place = 0; items = form ∷ forms }) ∙ ap (λ text. 40 ∷ ((form_text form ++ text) ++ 41 ∷ [])) (later 0 forms)

words_of : {X : Type 0} (text : X → List ℕ) (form_of : X → Sexpr) → ((x : X) → form_text (form_of x) ≡ text x) → (xs : List X)
    → flat_map (λ form. word (form_text form)) (map form_of xs) ≡ flat_map (λ x. word (text x)) xs
words_of text form_of same [] = refl
words_of text form_of same (x ∷ xs) = ap₂ (λ t ts. word t ++ ts) (same x) (words_of text form_of same xs)

-- the forms of some items, each with its text
pub words_written : {X : Type 0} (text : X → List ℕ) (form_of : X → Sexpr) → ((x : X) → form_text (form_of x) ≡ text x) → (xs : List X)
    → flat_map (λ form. word (form_text form)) (map form_of xs) ≡ flat_map (λ x. word (text x)) xs
words_written text form_of same xs = words_of text form_of same xs

pub items_written : {X : Type 0} (text : X → List ℕ) (form_of : X → Sexpr) → ((x : X) → form_text (form_of x) ≡ text x) → (xs : List X)
    → form_text (list (map form_of xs)) ≡ list_text text xs
items_written text form_of same [] = list_written []
items_written text form_of same (x ∷ xs) =
    list_written (map form_of (x ∷ xs)) ∙ ap₂ (λ t ts. 40 ∷ ((t ++ ts) ++ 41 ∷ [])) (same x) (words_of text form_of same xs)

pub literal_written : (v : Value) → form_text (literal_form v) ≡ literal_text v
literal_written (value.Int (pos n)) = number_written n
literal_written (value.Int (negsuc n)) =
    list_written (symbol (codes "-") ∷ number_form (suc n) ∷ [])
    ∙ ap₂ (λ t d. 40 ∷ ((t ++ ((32 ∷ d) ++ [])) ++ 41 ∷ [])) (symbol_written (codes "-")) (number_written (suc n))
    ∙ ap (λ ds. 40 ∷ 45 ∷ (ds ++ 41 ∷ [])) (append-nil (32 ∷ decimal (suc n)))
literal_written (value.Bool true) = symbol_written (codes "true")
literal_written (value.Bool false) = symbol_written (codes "false")
