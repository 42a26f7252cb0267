-- The example is sound.
use Rattle.std.proofs.Common.{◌≡◌, ◌<◌, ◌≤◌, ◌^◌, ◌&&◌, ℕ, zero, suc, true, false, Some, None, option_map, List, [], ◌∷◌, length, slice_get, All, refl, sym, ap, subst, ◌∙◌, arith, rules, lit<, lit≤}
use Rattle.std.specs.Prelude.{codes, pos, nat_lt}
use Rattle.std.specs.List.{list_all}
use Rattle.std.proofs.lemmas.List.Elements.{All-cons, All-nil}
use Rattle.sig_core.specs.declared.ids.ConId.{ConId}
use Rattle.sig_core.specs.declared.value.Value.TheVariants as value
use Rattle.sig_core.specs.Names.{is_reserved, place_of}
use Rattle.sig_core.specs.WellFormed.{IsWellFormed, constructor_names, names_of_params}
use Rattle.expr_core.specs.declared.expr.Expr.{the_lemmas}
use Rattle.expr_core.specs.declared.expr.Expr.TheVariants.{Lit}
use Rattle.rule_core.specs.declared.rule.Rule.{Rule}
use Rattle.rule_core.specs.Flow.{flow_fault}
use Rattle.rule_core.specs.Rulebooks.{IsRuleOf}
use Rattle.grammar_core.specs.declared.production.Nonterminal.{Nonterminal}
use Rattle.grammar_core.specs.declared.production.Production.{Production}
use Rattle.grammar_core.specs.declared.ids.NtId.{NtId}
use Rattle.grammar_core.specs.Grammars.{IsKnown, start}
use Rattle.grammar_core.specs.Limits.{KeepsLimits}
use Rattle.grammar_core.specs.Refusals.{makes}
use Rattle.grammar_core.specs.Whole.{whole}
use Rattle.problem_core.specs.declared.parts.Constraint.{Constraint}
use Rattle.problem_core.specs.Soundness.{IsShort, IsSound, IsSoundConstraint, IsSoundGrammar, IsSoundNonterminal, IsSoundRule, wanted_type, is_clean, is_clean_atom, is_sort_name}
use Rattle.problem_core.specs.Views.{parts}
use Rattle.example_relations.proofs.Fits.{constant_free}
use Rattle.example_relations.proofs.Names.{distinct_by_test}
use Rattle.example_problems.specs.Examples.{example, gives, gives_value, the_type, wanted_value}

free_S : is_reserved (codes "S") ≡ false
unfolding is_reserved
free_S = refl

two : (P : List ℕ → Type 0) → P (codes "t") → P (codes "r") → All P (codes "t" ∷ codes "r" ∷ [])
two P t r = All-cons P (codes "t") (codes "r" ∷ []) t (All-cons P (codes "r") [] r (All-nil P))

clean_value : (n : ℕ) → is_clean (Lit (value.Int (pos n))) ≡ true
clean_value n = search (rules, the_lemmas)

clean_rule : (n : ℕ) → list_all is_clean_atom (gives_value (record { 0 = 0 }) n).atoms ≡ true
clean_rule n = ap (λ b. b && true) (clean_value n)

without_children : (con : ConId) → con.0 < 2 → option_map (λ c. length c.args) (slice_get example.constructors con.0) ≡ Some 0
without_children con h = at con.0 h where
  at : (k : ℕ) → k < 2 → option_map (λ c. length c.args) (slice_get example.constructors k) ≡ Some 0
  at zero h = refl
  at (suc zero) h = refl
  at (suc (suc k)) h = absurd (omega arith)

pub rule_sound : (con : ConId) (n : ℕ) (rule : Rule) → rule ≡ gives_value con n → con.0 < 2 → IsRuleOf example rule → flow_fault example rule ≡ None → IsSoundRule example rule
rule_sound con n rule e h fits flows = subst (IsSoundRule example) (sym e) record {
  fits = subst (IsRuleOf example) e fits;
  flows = sym (ap (flow_fault example) e) ∙ flows;
  children = without_children con h;
  few_variables = lit≤ tt;
  distinct = distinct_by_test (codes "t" ∷ codes "r" ∷ []) refl;
  free = constant_free;
  short = two IsShort (lit≤ tt) (lit≤ tt);
  clean = clean_rule n;
}

below_is : (m n : ℕ) → n < m → nat_lt n m ≡ true
below_is m n h = grind (arith, h)

abbrev IsByte : ℕ → Type 0
IsByte n = n < 2 ^ 8

pub constraint_sound : (n : ℕ) → n < 2 ^ 8 → IsSoundConstraint example the_type (wanted_value n)
constraint_sound n h = record {
  type = refl;
  sorted = refl;
  in_range = ap (λ b. b && true) (below_is (2 ^ 127) n (omega (arith, h)));
}

abbrev production : ℕ → List NtId → Production
production k args = record { con = record { 0 = k }; args = args }

abbrev the_grammar : List Nonterminal
the_grammar = whole example the_type

three : (P : Production → Type 0) → P (production 0 []) → P (production 1 []) → P (production 2 (start ∷ start ∷ []))
    → All P (production 0 [] ∷ production 1 [] ∷ production 2 (start ∷ start ∷ []) ∷ [])
three P p q r =
    All-cons P (production 0 []) (production 1 [] ∷ production 2 (start ∷ start ∷ []) ∷ []) p
    (All-cons P (production 1 []) (production 2 (start ∷ start ∷ []) ∷ []) q (All-cons P (production 2 (start ∷ start ∷ [])) [] r (All-nil P)))

both_known : All (IsKnown the_grammar) (start ∷ start ∷ [])
both_known = All-cons (IsKnown the_grammar) start (start ∷ []) (lit< tt) (All-cons (IsKnown the_grammar) start [] (lit< tt) (All-nil (IsKnown the_grammar)))

abbrev the_nonterminal : Nonterminal
the_nonterminal = record { name = codes "E"; owner = the_type; productions = production 0 [] ∷ production 1 [] ∷ production 2 (start ∷ start ∷ []) ∷ [] }

nonterminal_sound : IsSoundNonterminal example the_grammar the_nonterminal
nonterminal_sound = record {
  owner = lit< tt;
  makes = three (λ p. makes the_grammar the_type p.args (slice_get example.constructors p.con.0) ≡ true) refl refl refl;
}

pub grammar_sound : KeepsLimits (whole example the_type) → IsSoundGrammar example (whole example the_type)
grammar_sound limits = record {
  fine = record {
    size = lit< tt;
    known = All-cons (λ n. All (λ p. All (IsKnown the_grammar) p.args) n.productions) the_nonterminal []
        (three (λ p. All (IsKnown the_grammar) p.args) (All-nil (IsKnown the_grammar)) (All-nil (IsKnown the_grammar)) both_known)
        (All-nil (λ n. All (λ p. All (IsKnown the_grammar) p.args) n.productions));
  };
  limits = limits;
  has_start = lit< tt;
  nonterminals = All-cons (IsSoundNonterminal example the_grammar) the_nonterminal [] nonterminal_sound (All-nil (IsSoundNonterminal example the_grammar));
  short = All-cons IsShort (codes "E") [] (lit≤ tt) (All-nil IsShort);
  new = λ differs. absurd (differs refl);
}

-- the first constant alone
abbrev narrow_nonterminal : Nonterminal
narrow_nonterminal = record { name = codes "A"; owner = the_type; productions = production 0 [] ∷ [] }

abbrev pub narrow_grammar : List Nonterminal
narrow_grammar = narrow_nonterminal ∷ []

alone_in : (P : Production → Type 0) → P (production 0 []) → All P (production 0 [] ∷ [])
alone_in P p = All-cons P (production 0 []) [] p (All-nil P)

pub narrow_sound : KeepsLimits narrow_grammar → IsSoundGrammar example narrow_grammar
narrow_sound limits = record {
  fine = record {
    size = lit< tt;
    known = All-cons (λ n. All (λ p. All (IsKnown narrow_grammar) p.args) n.productions) narrow_nonterminal []
        (alone_in (λ p. All (IsKnown narrow_grammar) p.args) (All-nil (IsKnown narrow_grammar)))
        (All-nil (λ n. All (λ p. All (IsKnown narrow_grammar) p.args) n.productions));
  };
  limits = limits;
  has_start = lit< tt;
  nonterminals = All-cons (IsSoundNonterminal example narrow_grammar) narrow_nonterminal []
      (record { owner = lit< tt; makes = alone_in (λ p. makes narrow_grammar the_type p.args (slice_get example.constructors p.con.0) ≡ true) refl })
      (All-nil (IsSoundNonterminal example narrow_grammar));
  short = All-cons IsShort (codes "A") [] (lit≤ tt) (All-nil IsShort);
  new = λ _. All-cons (λ name. place_of (constructor_names example.constructors) name ≡ None) (codes "A") [] refl (All-nil (λ name. place_of (constructor_names example.constructors) name ≡ None));
}

pub example_sound : (rules : List Rule) (grammar : List Nonterminal) (constraints : List Constraint) → IsWellFormed example → All (IsSoundRule example) rules → length rules ≤ 3 → IsSoundGrammar example grammar → wanted_type grammar ≡ the_type
    → All (IsSoundConstraint example the_type) constraints → length constraints ≤ 9 → IsSound (parts [] example rules grammar [] constraints)
example_sound rules grammar constraints fine sound few fits wanted all count = record {
  signature = fine;
  names = record {
    types = All-cons IsShort (codes "E") [] (lit≤ tt) (All-nil IsShort);
    constructors = All-cons IsShort (codes "$a") (codes "$c" ∷ codes "$p" ∷ []) (lit≤ tt) (All-cons IsShort (codes "$c") (codes "$p" ∷ []) (lit≤ tt) (All-cons IsShort (codes "$p") [] (lit≤ tt) (All-nil IsShort)));
    relations = All-cons IsShort (codes "S") [] (lit≤ tt) (All-nil IsShort);
    params = All-cons (λ r. All IsShort (names_of_params r.params)) gives [] (two IsShort (lit≤ tt) (lit≤ tt)) (All-nil (λ r. All IsShort (names_of_params r.params)));
  };
  free_names = record {
    types = All-cons (λ name. is_sort_name name ≡ false) (codes "E") [] refl (All-nil (λ name. is_sort_name name ≡ false));
    relations = All-cons (λ name. is_reserved name ≡ false) (codes "S") [] free_S (All-nil (λ name. is_reserved name ≡ false));
  };
  few_rules = omega (arith, few);
  rules = sound;
  grammar = fits;
  wanted = lit≤ tt;
  few_constraints = omega (arith, count);
  constraints = subst (λ type. All (IsSoundConstraint example type) constraints) (sym wanted) all;
}
