-- The lexicon has a spelling of each token of a literal.
use Rattle.std.proofs.Common.{◌≡◌, ℕ, suc, ◌<◌, ◌^◌, true, false, List, [], ◌∷◌, decimal, refl, arith, subst, codes}
use lib.IntN.{pos, negsuc}
use Rattle.std.proofs.lemmas.List.Elements.{All-head}
use Rattle.sig_core.specs.declared.value.Value.{Value}
use Rattle.sig_core.specs.declared.value.Value.TheVariants as value
use Rattle.sig_core.specs.Values.{is_value}
use Rattle.sexpr_core.specs.declared.form.Sexpr.{Sexpr}
use Rattle.sexpr_core.specs.Respelling.{AreSpellable, SpellsAgain}
use Rattle.sexpr_core.specs.Respelling as able
use Rattle.sexpr_core.specs.Spelling.{atom, Spell}
use Rattle.sexpr_core.specs.Texts.{form_text}
use Rattle.sexpr_core.proofs.Respelled.{spelled_again}
use Rattle.answer_laws.specs.Laws.{LiteralsReadBack, SpellsOne}
use Rattle.answer_laws.proofs.Forms.{Same, symbol}
use Rattle.answer_laws.proofs.Literals.{in_range, literal_form, literal_read, number_form}
use Rattle.answer_laws.proofs.Numerals.{numeral_spelled}
use Rattle.answer_laws.proofs.Texts.{literal_written}

pub number_spellable : (depth n : ℕ) (forms : List Sexpr) → n < 10 ^ 64 → AreSpellable depth forms → AreSpellable depth (number_form n ∷ forms)
number_spellable depth n forms h more = able.numeral depth (atom 0 (decimal n)) forms (numeral_spelled n h) more

pub literal_spellable : (depth : ℕ) (v : Value) (forms : List Sexpr) → is_value v ≡ true → AreSpellable (suc depth) forms → AreSpellable (suc depth) (literal_form v ∷ forms)
literal_spellable depth (value.Int (pos n)) forms h more = number_spellable (suc depth) n forms (omega (arith, in_range (pos n) h)) more
literal_spellable depth (value.Int (negsuc n)) forms h more =
    able.list depth (record { place = 0; items = symbol (codes "-") ∷ number_form (suc n) ∷ [] }) forms
    (able.symbol depth (atom 0 (codes "-")) (number_form (suc n) ∷ []) refl (number_spellable depth (suc n) [] (omega (arith, in_range (negsuc n) h)) (able.nothing depth))) more
literal_spellable depth (value.Bool true) forms h more = able.symbol (suc depth) (atom 0 (codes "true")) forms refl more
literal_spellable depth (value.Bool false) forms h more = able.symbol (suc depth) (atom 0 (codes "false")) forms refl more

-- the text of a form that can be spelled spells it, places aside
pub spells_one : (form : Sexpr) (text : List ℕ) (Holds : Sexpr → Type 0) → form_text form ≡ text → AreSpellable 200 (form ∷ []) → ((other : Sexpr) → Same other form → Holds other) → SpellsOne text Holds
spells_one form text Holds e able holds =
    let again = All-head SpellsAgain form [] (spelled_again (form ∷ []) able) in
    (again.0, subst (λ t. Spell t (again.0 ∷ [])) e again.1, holds again.0 again.2)

pub literals_read_back : LiteralsReadBack
literals_read_back v h =
    spells_one (literal_form v) _ _ (literal_written v) (literal_spellable 199 v [] h (able.nothing 200)) (λ other same. (literal_read other v h same).value_is)
