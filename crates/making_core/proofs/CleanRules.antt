-- The atoms of rules are clean: no minus stands in them over a single literal of 0 or more, since that is read as a literal.
use Rattle.std.proofs.Common.{◌≡◌, ℕ, ◌+◌, Bool, true, false, Option, Some, None, List, [], ◌∷◌, map, refl, sym, ap, ap₂, subst, ◌∙◌, rules}
use Rattle.std.specs.Prelude.{pos, negsuc, not, ◌&&◌, ◌||◌, unwrap_or, All, if◌then◌else◌}
use Rattle.std.specs.List.{list_all}
use Rattle.std.specs.Option.{option_map_or}
use Rattle.std.proofs.lemmas.List.Elements.{All-nil, All-cons, All-head, All-tail, All-map}
use Rattle.std.proofs.lemmas.Option.{same_Some}
use Rattle.sig_core.specs.declared.ids.RelId.{RelId}
use Rattle.sig_core.specs.declared.value.Sort.{Sort}
use Rattle.sig_core.specs.declared.value.Value.{Value}
use Rattle.sig_core.specs.declared.value.Value.TheVariants as value
use Rattle.sig_core.specs.Names.{place_of}
use Rattle.sig_core.specs.Signatures.{Declarations}
use Rattle.sexpr_core.specs.declared.form.Atom as sexpr
use Rattle.expr_core.specs.declared.expr.Expr.{Expr}
use Rattle.expr_core.specs.declared.expr.Expr as expr
use Rattle.expr_core.specs.declared.expr.Expr.{the_lemmas as expr_lemmas}
use Rattle.expr_core.specs.declared.expr.Expr.TheFolds.{fold-Expr}
use Rattle.expr_core.specs.declared.expr.Op.{Op}
use Rattle.expr_core.specs.declared.expr.Op.TheVariants as op
use Rattle.problem_core.specs.Soundness.{Signs, is_clean, is_natural, negates_natural, signs_step}
use Rattle.rule_core.specs.declared.rule.Who.{Who}
use Rattle.rule_core.specs.declared.rule.Who.TheVariants.{Own, Child}
use Rattle.syntax_core.specs.declared.literal.Literal.{Literal}
use Rattle.syntax_core.specs.declared.literal.Literal.TheVariants.{Number, Truth}
use Rattle.syntax_core.specs.declared.syntax.Exp.{Exp}
use Rattle.syntax_core.specs.Literals.{negative, positive}
use Rattle.syntax_core.specs.Roles.{operator_named}
use Rattle.sort_core.specs.declared.open.OpenExp.{OpenExp}
use Rattle.sort_core.specs.declared.open.OpenNode.{OpenNode, out-OpenNode}
use Rattle.sort_core.specs.declared.open.OpenNode as node
use Rattle.sort_core.specs.declared.open.OpenNode.{roll-OpenNode, roll-out-OpenNode}
use Rattle.sort_core.specs.declared.open.OpenNode.TheOpen.{OpenNode-F}
use Rattle.sort_core.specs.declared.open.OpenNode.TheVariants.{rolls-Slot, rolls-Term, rolls-Literal, rolls-Apply, rolls-Call}
use Rattle.sort_core.specs.declared.variables.Variables.{Variables}
use Rattle.name_core.specs.Faults.{bad_if, first, found_from}
use Rattle.name_core.specs.Names.{has}
use Rattle.sort_core.specs.Opens.{application_node, literal_node, negated_in, opened, operation_node, relation_named}
use Rattle.making_core.specs.Rules.{expr_of, expr_of_node, value_of_literal}
use Rattle.sort_core.specs.Sorts.{Survey, operand_faults_at, same_stated, survey, survey_of_node, wanted_sort}
use Rattle.making_core.proofs.Counts.{opened-Apply, opened-Negative, opened-Numeral, opened-Symbol}
use Rattle.making_core.proofs.ExpInduction.{by_arguments}
use Rattle.making_core.proofs.Exprs.{expr-Slot, expr-Term, expr-Literal, expr-Apply, expr-Call}
use Rattle.sort_core.proofs.Faultless.{none_both, none_parts}
use Rattle.name_core.proofs.Firsts.{first-found_from}
use Rattle.sort_core.proofs.Surveys.{survey-Apply, survey-Literal}

abbrev pub signs : Expr → Signs
signs = fold-Expr Signs signs_step

signs-Slot : (i : ℕ) → signs (expr.Slot i) ≡ record { is_natural = false; is_clean = true }
signs-Slot i = search (rules, expr_lemmas)

signs-Lit : (v : Value) → signs (expr.Lit v) ≡ record { is_natural = is_natural v; is_clean = true }
signs-Lit v = search (rules, expr_lemmas)

signs-Apply : (o : Op) (kids : List Expr) →
    signs (expr.Apply o kids) ≡ record { is_natural = false; is_clean = list_all (λ (kid : Signs). kid.is_clean) (map signs kids) && not (negates_natural o (map signs kids)) }
signs-Apply o kids = search (rules, expr_lemmas)

-- an expression, where its sorts are right
abbrev pub IsFine : List Sort → OpenExp → Type 0
IsFine slots e = first (survey slots e).inner ≡ None

abbrev pub IsClean : List Sort → OpenExp → Type 0
IsClean slots e = IsFine slots e → is_clean (expr_of e) ≡ true

clean-Slot : (k : ℕ) → is_clean (expr_of_node (node.Slot k)) ≡ true
clean-Slot k = ap is_clean (expr-Slot k) ∙ ap (λ (s : Signs). s.is_clean) (signs-Slot k)

clean-Term : (who : Who) → is_clean (expr_of_node (node.Term who)) ≡ true
clean-Term who = ap is_clean (expr-Term who) ∙ ap (λ (s : Signs). s.is_clean) (signs-Lit (value.Bool false))

clean-Literal : (place : ℕ) (literal : Literal) → is_clean (expr_of_node (node.Literal place literal)) ≡ true
clean-Literal place literal = ap is_clean (expr-Literal place literal) ∙ ap (λ (s : Signs). s.is_clean) (signs-Lit (value_of_literal literal))

pub clean-Call : (relation : RelId) (args : List OpenExp) → is_clean (expr_of_node (node.Call relation args)) ≡ true
clean-Call relation args = ap is_clean (expr-Call relation args) ∙ ap (λ (s : Signs). s.is_clean) (signs-Lit (value.Bool false))

natural_lit : (n : OpenNode) (v : Value) → expr_of_node n ≡ expr.Lit v → is_natural v ≡ false → (signs (expr_of_node n)).is_natural ≡ false
natural_lit n v is false_ = ap (λ (e : Expr). (signs e).is_natural) is ∙ ap (λ (s : Signs). s.is_natural) (signs-Lit v) ∙ false_

natural_in : (slots : List Sort) (place : ℕ) (n : OpenNode) (x : OpenNode-F OpenNode OpenExp) → n ≡ roll-OpenNode x →
    first (survey_of_node slots n place).inner ≡ None → negated_in x ≡ None → (signs (expr_of_node n)).is_natural ≡ false
natural_in slots place n (OpenNode-F.Slot k) is fine none =
    ap (λ (e : Expr). (signs e).is_natural) (ap expr_of_node (is ∙ rolls-Slot k) ∙ expr-Slot k) ∙ ap (λ (s : Signs). s.is_natural) (signs-Slot k)
natural_in slots place n (OpenNode-F.Term who) is fine none = natural_lit n (value.Bool false) (ap expr_of_node (is ∙ rolls-Term who) ∙ expr-Term who) refl
natural_in slots place n (OpenNode-F.Literal digits (Number None)) is fine none =
    let bad = sym (ap (λ (s : Survey). first s.inner) (ap (λ m. survey_of_node slots m place) (is ∙ rolls-Literal digits (Number None)) ∙ survey-Literal slots place digits (Number None))) ∙ fine in
    absurd cc
natural_in slots place n (OpenNode-F.Literal digits (Number (Some (pos k)))) is fine none = absurd cc
natural_in slots place n (OpenNode-F.Literal digits (Number (Some (negsuc k)))) is fine none =
    natural_lit n (value.Int (negsuc k)) (ap expr_of_node (is ∙ rolls-Literal digits (Number (Some (negsuc k)))) ∙ expr-Literal digits (Number (Some (negsuc k)))) refl
natural_in slots place n (OpenNode-F.Literal digits (Truth b)) is fine none =
    natural_lit n (value.Bool b) (ap expr_of_node (is ∙ rolls-Literal digits (Truth b)) ∙ expr-Literal digits (Truth b)) refl
natural_in slots place n (OpenNode-F.Apply o kids) is fine none =
    ap (λ (e : Expr). (signs e).is_natural) (ap expr_of_node (is ∙ rolls-Apply o kids) ∙ expr-Apply o kids) ∙ ap (λ (s : Signs). s.is_natural) (signs-Apply o (map expr_of kids))
natural_in slots place n (OpenNode-F.Call relation args) is fine none = natural_lit n (value.Bool false) (ap expr_of_node (is ∙ rolls-Call relation args) ∙ expr-Call relation args) refl

-- operands whose sorts are right
operands_fine : (slots : List Sort) (o : Op) (kids : List Survey) (n : ℕ) (args : List OpenExp) →
    first (found_from (operand_faults_at o kids) n (map (survey slots) args)) ≡ None → All (IsFine slots) args
unfolding operand_faults_at
operands_fine slots o kids n [] none = All-nil (IsFine slots)
operands_fine slots o kids n (e ∷ es) none =
    let both = none_both (first (operand_faults_at o kids n (survey slots e))) (first (found_from (operand_faults_at o kids) (n + 1) (map (survey slots) es)))
    (sym (first-found_from (operand_faults_at o kids) n (survey slots e) (map (survey slots) es)) ∙ none) in
    All-cons (IsFine slots) e es
    (none_parts (bad_if (not (same_stated (wanted_sort o (map (λ (s : Survey). s.stated) kids) n) (survey slots e).stated) || (survey slots e).is_misplaced) 30 (survey slots e).place) (survey slots e).inner both.0).1
    (operands_fine slots o kids (n + 1) es both.1)

pub apply_fine : (slots : List Sort) (o : Op) (args : List OpenExp) (place : ℕ) → first (survey_of_node slots (node.Apply o args) place).inner ≡ None → All (IsFine slots) args
apply_fine slots o args place fine =
    operands_fine slots o (map (survey slots) args) 0 args (sym (ap (λ (s : Survey). first s.inner) (survey-Apply slots place o args)) ∙ fine)

all_clean : (slots : List Sort) (args : List OpenExp) → All (IsClean slots) args → All (IsFine slots) args → list_all (λ (kid : Signs). kid.is_clean) (map signs (map expr_of args)) ≡ true
all_clean slots [] clean fine = refl
all_clean slots (e ∷ es) clean fine =
    ap (λ b. b && list_all (λ (kid : Signs). kid.is_clean) (map signs (map expr_of es))) (All-head (IsClean slots) e es clean (All-head (IsFine slots) e es fine))
    ∙ all_clean slots es (All-tail (IsClean slots) e es clean) (All-tail (IsFine slots) e es fine)

clean_apply : (slots : List Sort) (o : Op) (args : List OpenExp) (place : ℕ) → All (IsClean slots) args → first (survey_of_node slots (node.Apply o args) place).inner ≡ None →
    negates_natural o (map signs (map expr_of args)) ≡ false → is_clean (expr_of_node (node.Apply o args)) ≡ true
clean_apply slots o args place clean fine kept_ =
    ap is_clean (expr-Apply o args) ∙ ap (λ (s : Signs). s.is_clean) (signs-Apply o (map expr_of args))
    ∙ ap₂ (λ a b. a && not b) (all_clean slots args clean (apply_fine slots o args place fine)) kept_

clean_minus : (slots : List Sort) (e : OpenExp) (place : ℕ) → All (IsClean slots) (e ∷ []) → (o : Option OpenNode) → negated_in (out-OpenNode e.node) ≡ o →
    ((m : OpenNode) → o ≡ Some m → is_clean (expr_of_node m) ≡ true) →
    first (survey_of_node slots (unwrap_or o (node.Apply op.Minus (e ∷ []))) place).inner ≡ None → is_clean (expr_of_node (unwrap_or o (node.Apply op.Minus (e ∷ [])))) ≡ true
clean_minus slots e place clean (Some m) is literal fine = literal m refl
clean_minus slots e place clean None is literal fine =
    let kid = All-head (IsFine slots) e [] (apply_fine slots op.Minus (e ∷ []) place fine) in
    clean_apply slots op.Minus (e ∷ []) place clean fine (natural_in slots e.place e.node (out-OpenNode e.node) (sym (roll-out-OpenNode e.node)) kid is)

negated_clean : (x : OpenNode-F OpenNode OpenExp) (m : OpenNode) → negated_in x ≡ Some m → is_clean (expr_of_node m) ≡ true
negated_clean (OpenNode-F.Slot k) m is = absurd cc
negated_clean (OpenNode-F.Term who) m is = absurd cc
negated_clean (OpenNode-F.Literal place (Number None)) m is = absurd cc
negated_clean (OpenNode-F.Literal place (Number (Some (pos k)))) m is = let same = same_Some _ m is in subst (λ (n : OpenNode). is_clean (expr_of_node n) ≡ true) same (clean-Literal place _)
negated_clean (OpenNode-F.Literal place (Number (Some (negsuc k)))) m is = absurd cc
negated_clean (OpenNode-F.Literal place (Truth b)) m is = absurd cc
negated_clean (OpenNode-F.Apply o kids) m is = absurd cc
negated_clean (OpenNode-F.Call relation args) m is = absurd cc

clean_operation : (slots : List Sort) (o : Op) (args : List OpenExp) (place : ℕ) → All (IsClean slots) args →
    first (survey_of_node slots (operation_node o args) place).inner ≡ None → is_clean (expr_of_node (operation_node o args)) ≡ true
clean_operation slots op.Minus [] place clean fine = clean_apply slots op.Minus [] place clean fine refl
clean_operation slots op.Minus (e ∷ []) place clean fine = clean_minus slots e place clean (negated_in (out-OpenNode e.node)) refl (negated_clean (out-OpenNode e.node)) fine
clean_operation slots op.Minus (e ∷ f ∷ es) place clean fine = clean_apply slots op.Minus (e ∷ f ∷ es) place clean fine refl
clean_operation slots op.Not args place clean fine = clean_apply slots op.Not args place clean fine refl
clean_operation slots op.And args place clean fine = clean_apply slots op.And args place clean fine refl
clean_operation slots op.Or args place clean fine = clean_apply slots op.Or args place clean fine refl
clean_operation slots op.Xor args place clean fine = clean_apply slots op.Xor args place clean fine refl
clean_operation slots op.Implies args place clean fine = clean_apply slots op.Implies args place clean fine refl
clean_operation slots op.Equal args place clean fine = clean_apply slots op.Equal args place clean fine refl
clean_operation slots op.Distinct args place clean fine = clean_apply slots op.Distinct args place clean fine refl
clean_operation slots op.Ite args place clean fine = clean_apply slots op.Ite args place clean fine refl
clean_operation slots op.Add args place clean fine = clean_apply slots op.Add args place clean fine refl
clean_operation slots op.Times args place clean fine = clean_apply slots op.Times args place clean fine refl
clean_operation slots op.Div args place clean fine = clean_apply slots op.Div args place clean fine refl
clean_operation slots op.Mod args place clean fine = clean_apply slots op.Mod args place clean fine refl
clean_operation slots op.Abs args place clean fine = clean_apply slots op.Abs args place clean fine refl
clean_operation slots op.Less args place clean fine = clean_apply slots op.Less args place clean fine refl
clean_operation slots op.AtMost args place clean fine = clean_apply slots op.AtMost args place clean fine refl
clean_operation slots op.Greater args place clean fine = clean_apply slots op.Greater args place clean fine refl
clean_operation slots op.AtLeast args place clean fine = clean_apply slots op.AtLeast args place clean fine refl

clean_symbol : (slot child : Option ℕ) (own : Bool) (a : sexpr.Atom) →
    is_clean (expr_of_node (option_map_or node.Slot slot (option_map_or (λ k. node.Term (Child k)) child (if own then node.Term Own else literal_node a)))) ≡ true
clean_symbol (Some slot) child own a = clean-Slot slot
clean_symbol None (Some child) own a = clean-Term (Child child)
clean_symbol None None true a = clean-Term Own
clean_symbol None None false a = clean-Literal _ _

clean_application : (sig : Declarations) (slots : List Sort) (head : List ℕ) (args : List OpenExp) (place : ℕ) → All (IsClean slots) args →
    first (survey_of_node slots (application_node sig head args) place).inner ≡ None → is_clean (expr_of_node (application_node sig head args)) ≡ true
clean_application sig slots head args place clean fine = by (operator_named head) fine
  where
    by : (o : Option Op) → first (survey_of_node slots (option_map_or (λ q. operation_node q args) o (node.Call (relation_named sig head) args)) place).inner ≡ None →
        is_clean (expr_of_node (option_map_or (λ q. operation_node q args) o (node.Call (relation_named sig head) args))) ≡ true
    by (Some o) fine = clean_operation slots o args place clean fine
    by None fine = clean-Call (relation_named sig head) args

-- an expression whose sorts are right is clean
pub clean_exp : (sig : Declarations) (vars : Variables) (slots : List Sort) (e : Exp) → first (survey slots (opened sig vars e)).inner ≡ None → is_clean (expr_of (opened sig vars e)) ≡ true
clean_exp sig vars slots = by_arguments (λ e. first (survey slots (opened sig vars e)).inner ≡ None → is_clean (expr_of (opened sig vars e)) ≡ true)
    (λ a fine. ap (λ (e : OpenExp). is_clean (expr_of e)) (opened-Symbol sig vars a) ∙ clean_symbol (place_of vars.slots a.bytes) (place_of vars.children a.bytes) (has vars.own a.bytes) a)
    (λ a fine. ap (λ (e : OpenExp). is_clean (expr_of e)) (opened-Numeral sig vars a) ∙ clean-Literal a.place (positive a.bytes))
    (λ n fine. ap (λ (e : OpenExp). is_clean (expr_of e)) (opened-Negative sig vars n) ∙ clean-Literal n.numeral.place (negative n.numeral.bytes))
    (λ app each fine. ap (λ (e : OpenExp). is_clean (expr_of e)) (opened-Apply sig vars app)
    ∙ clean_application sig slots app.head.bytes (map (opened sig vars) app.args) app.place (All-map (IsClean slots) (opened sig vars) app.args each)
    (sym (ap (λ (e : OpenExp). first (survey slots e).inner) (opened-Apply sig vars app)) ∙ fine))
