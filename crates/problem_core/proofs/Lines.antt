-- The lines of a problem's text.
use Rattle.std.proofs.Common.{◌≡◌, ℕ, ◌<◌, List, [], ◌∷◌, ◌++◌, All, length, codes, ap, ap₂, ◌∙◌, arith, append_assoc}
use Rattle.std.specs.List.{flat_map}
use Rattle.std.proofs.lemmas.List.Elements.{All-head}
use Rattle.sig_core.specs.Signatures.{Declarations}
use Rattle.rule_core.specs.declared.rule.Rule.{Rule}
use Rattle.grammar_core.specs.declared.production.Nonterminal.{Nonterminal}
use Rattle.problem_core.specs.declared.parts.Constraint.{Constraint}
use Rattle.problem_core.specs.declared.parts.Info.{Info}
use Rattle.problem_core.specs.Problems.{Parts}
use Rattle.problem_core.specs.Soundness.{IsSoundNonterminal, wanted_type}
use Rattle.problem_core.specs.Texts.{constraint_form, functions_forms, info_line, line, problem_text, synth_form, types_form, value_text}
use Rattle.problem_core.proofs.Forms.{whole_text}

pub info_text : (info : Info) → info_line info ≡ codes "(set-info :" ++ (info.key ++ (value_text info.value ++ 41 ∷ 10 ∷ []))
info_text info = append_assoc (codes "(set-info :" ++ info.key) (value_text info.value) (41 ∷ 10 ∷ []) ∙ append_assoc (codes "(set-info :") info.key (value_text info.value ++ 41 ∷ 10 ∷ [])

-- the type of the first nonterminal is declared
pub wanted_declared : (sig : Declarations) (all grammar : List Nonterminal) → 0 < length grammar → All (IsSoundNonterminal sig all) grammar → (wanted_type grammar).0 < length sig.types
wanted_declared sig all [] some sound = absurd (omega (arith, some))
wanted_declared sig all (n ∷ ns) some sound = (All-head (IsSoundNonterminal sig all) n ns sound).owner

-- what is written for the parts of a problem, one after the other
pub written : (p : Parts) (infos : List Info) (sig : Declarations) (rules : List Rule) (grammar : List Nonterminal) (wanted : List ℕ) (constraints : List Constraint)
    → infos ≡ p.infos → sig ≡ p.signature → rules ≡ p.rules → grammar ≡ p.grammar → wanted ≡ p.wanted → constraints ≡ p.constraints
    → (old a b d e f : List ℕ) → old ≡ [] → a ≡ old ++ flat_map info_line infos
    → b ≡ (a ++ line (types_form sig)) ++ flat_map line (functions_forms sig rules)
    → d ≡ b ++ line (synth_form sig grammar wanted)
    → e ≡ d ++ flat_map (λ c. line (constraint_form sig wanted c)) constraints
    → f ≡ e ++ (codes "(check-synth)" ++ 10 ∷ []) → f ≡ problem_text p
written p infos sig rules grammar wanted constraints is_infos is_sig is_rules is_grammar is_wanted is_constraints old a b d e f empty first second third fourth fifth =
    whole_text p a b d e f
    (first ∙ ap₂ (λ o is. o ++ flat_map info_line is) empty is_infos)
    (second ∙ append_assoc a (line (types_form sig)) (flat_map line (functions_forms sig rules))
    ∙ ap₂ (λ s rs. a ++ (line (types_form s) ++ flat_map line (functions_forms s rs))) is_sig is_rules)
    (third ∙ ap₂ (λ s g. b ++ line (synth_form s g wanted)) is_sig is_grammar ∙ ap (λ w. b ++ line (synth_form p.signature p.grammar w)) is_wanted)
    (fourth ∙ ap₂ (λ s w. d ++ flat_map (λ c. line (constraint_form s w c)) constraints) is_sig is_wanted
    ∙ ap (λ cs. d ++ flat_map (λ c. line (constraint_form p.signature p.wanted c)) cs) is_constraints)
    fifth
