-- An expression has no `and` at its head, where it isn't read from an application of `and`.
use Rattle.std.proofs.Common.{◌≡◌, ℕ, Bool, true, false, Option, Some, None, List, [], ◌∷◌, map, refl, ap, ◌∙◌, rules}
use Rattle.std.specs.Prelude.{◌≢◌, if◌then◌else◌, unwrap_or}
use Rattle.std.specs.Option.{option_map_or}
use Rattle.sig_core.specs.declared.ids.RelId.{RelId}
use Rattle.sig_core.specs.declared.value.Value.{Value}
use Rattle.sig_core.specs.declared.value.Value.TheVariants as value
use Rattle.sig_core.specs.Names.{place_of}
use Rattle.sig_core.specs.Signatures.{Declarations}
use Rattle.sexpr_core.specs.declared.form.Atom as sexpr
use Rattle.expr_core.specs.declared.expr.Expr.{Expr}
use Rattle.expr_core.specs.declared.expr.Expr as expr
use Rattle.expr_core.specs.declared.expr.Expr.{the_lemmas as expr_lemmas}
use Rattle.expr_core.specs.declared.expr.Expr.TheOpen.{Expr-F}
use Rattle.expr_core.specs.declared.expr.Op.{Op}
use Rattle.expr_core.specs.declared.expr.Op.TheVariants as op
use Rattle.problem_core.specs.Soundness.{is_conjunction, is_conjunction_in}
use Rattle.rule_core.specs.declared.rule.Who.{Who}
use Rattle.rule_core.specs.declared.rule.Who.TheVariants.{Own, Child}
use Rattle.syntax_core.specs.declared.literal.Literal.{Literal}
use Rattle.syntax_core.specs.declared.syntax.Application.{Application}
use Rattle.syntax_core.specs.declared.syntax.Exp.{Exp}
use Rattle.syntax_core.specs.declared.syntax.Exp as exp
use Rattle.syntax_core.specs.Literals.{negative, positive}
use Rattle.syntax_core.specs.Roles.{operator_named}
use Rattle.sort_core.specs.declared.open.OpenExp.{OpenExp}
use Rattle.sort_core.specs.declared.open.OpenNode.{out-OpenNode}
use Rattle.sort_core.specs.declared.open.OpenNode as node
use Rattle.sort_core.specs.declared.variables.Variables.{Variables}
use Rattle.name_core.specs.Names.{has}
use Rattle.sort_core.specs.Opens.{application_node, literal_node, negated_in, opened, operation_node, relation_named}
use Rattle.making_core.specs.Rules.{expr_of, expr_of_node, value_of_literal}
use Rattle.making_core.proofs.Counts.{Negation, Operation, applied, kept, minus, negation, opened-Apply, opened-Negative, opened-Numeral, opened-Symbol, operation, turned}
use Rattle.making_core.proofs.ExpInduction.{by_arguments}
use Rattle.making_core.proofs.Exprs.{expr-Slot, expr-Term, expr-Literal, expr-Apply, expr-Call}

conjunction-Slot : (i : ℕ) → is_conjunction (expr.Slot i) ≡ false
conjunction-Slot i = search (rules, expr_lemmas)

conjunction-Lit : (v : Value) → is_conjunction (expr.Lit v) ≡ false
conjunction-Lit v = search (rules, expr_lemmas)

conjunction-Apply : (o : Op) (kids : List Expr) → is_conjunction (expr.Apply o kids) ≡ is_conjunction_in (Expr-F.Apply o kids)
conjunction-Apply o kids = search (rules, expr_lemmas)

other : (o : Op) (kids : List Expr) → o ≢ op.And → is_conjunction_in (Expr-F.Apply o kids) ≡ false
other op.And kids not_and = absurd (not_and refl)
other op.Not kids not_and = refl
other op.Or kids not_and = refl
other op.Xor kids not_and = refl
other op.Implies kids not_and = refl
other op.Equal kids not_and = refl
other op.Distinct kids not_and = refl
other op.Ite kids not_and = refl
other op.Add kids not_and = refl
other op.Minus kids not_and = refl
other op.Times kids not_and = refl
other op.Div kids not_and = refl
other op.Mod kids not_and = refl
other op.Abs kids not_and = refl
other op.Less kids not_and = refl
other op.AtMost kids not_and = refl
other op.Greater kids not_and = refl
other op.AtLeast kids not_and = refl

apart-Slot : (k : ℕ) → is_conjunction (expr_of_node (node.Slot k)) ≡ false
apart-Slot k = ap is_conjunction (expr-Slot k) ∙ conjunction-Slot k

apart-Term : (who : Who) → is_conjunction (expr_of_node (node.Term who)) ≡ false
apart-Term who = ap is_conjunction (expr-Term who) ∙ conjunction-Lit (value.Bool false)

apart-Literal : (place : ℕ) (literal : Literal) → is_conjunction (expr_of_node (node.Literal place literal)) ≡ false
apart-Literal place literal = ap is_conjunction (expr-Literal place literal) ∙ conjunction-Lit (value_of_literal literal)

apart-Call : (relation : RelId) (args : List OpenExp) → is_conjunction (expr_of_node (node.Call relation args)) ≡ false
apart-Call relation args = ap is_conjunction (expr-Call relation args) ∙ conjunction-Lit (value.Bool false)

apart-Apply : (o : Op) (args : List OpenExp) → o ≢ op.And → is_conjunction (expr_of_node (node.Apply o args)) ≡ false
apart-Apply o args not_and = ap is_conjunction (expr-Apply o args) ∙ conjunction-Apply o (map expr_of args) ∙ other o (map expr_of args) not_and

apart_minus : (e : OpenExp) → Negation (out-OpenNode e.node) → is_conjunction (expr_of_node (unwrap_or (negated_in (out-OpenNode e.node)) (node.Apply op.Minus (e ∷ [])))) ≡ false
apart_minus e (kept is) = ap (λ o. is_conjunction (expr_of_node (unwrap_or o (node.Apply op.Minus (e ∷ []))))) is ∙ apart-Apply op.Minus (e ∷ []) (λ is. cc)
apart_minus e (turned place literal is) = ap (λ o. is_conjunction (expr_of_node (unwrap_or o (node.Apply op.Minus (e ∷ []))))) is ∙ apart-Literal place literal

apart_operation : (o : Op) (args : List OpenExp) → Operation o args → o ≢ op.And → is_conjunction (expr_of_node (operation_node o args)) ≡ false
apart_operation o args (applied is) not_and = ap (λ n. is_conjunction (expr_of_node n)) is ∙ apart-Apply o args not_and
apart_operation o args (minus e is alone node_is) not_and = ap (λ n. is_conjunction (expr_of_node n)) node_is ∙ apart_minus e (negation (out-OpenNode e.node))

apart_symbol : (slot child : Option ℕ) (own : Bool) (a : sexpr.Atom) →
    is_conjunction (expr_of_node (option_map_or node.Slot slot (option_map_or (λ k. node.Term (Child k)) child (if own then node.Term Own else literal_node a)))) ≡ false
apart_symbol (Some slot) child own a = apart-Slot slot
apart_symbol None (Some child) own a = apart-Term (Child child)
apart_symbol None None true a = apart-Term Own
apart_symbol None None false a = apart-Literal _ _

apart_application : (sig : Declarations) (head : List ℕ) (args : List OpenExp) → operator_named head ≢ Some op.And → is_conjunction (expr_of_node (application_node sig head args)) ≡ false
apart_application sig head args not_and = by (operator_named head) not_and
  where
    by : (o : Option Op) → o ≢ Some op.And → is_conjunction (expr_of_node (option_map_or (λ q. operation_node q args) o (node.Call (relation_named sig head) args))) ≡ false
    by None not_and = apart-Call (relation_named sig head) args
    by (Some o) not_and = apart_operation o args (operation o args) (λ is. not_and (ap Some is))

-- the expression isn't an application of `and`
abbrev pub IsApart : Exp → Type 0
IsApart e = (app : Application) → e ≡ exp.Apply app → operator_named app.head.bytes ≢ Some op.And

pub opened_apart : (sig : Declarations) (vars : Variables) (e : Exp) → IsApart e → is_conjunction (expr_of (opened sig vars e)) ≡ false
opened_apart sig vars = by_arguments (λ e. IsApart e → is_conjunction (expr_of (opened sig vars e)) ≡ false)
    (λ a h. ap (λ (e : OpenExp). is_conjunction (expr_of e)) (opened-Symbol sig vars a) ∙ apart_symbol (place_of vars.slots a.bytes) (place_of vars.children a.bytes) (has vars.own a.bytes) a)
    (λ a h. ap (λ (e : OpenExp). is_conjunction (expr_of e)) (opened-Numeral sig vars a) ∙ apart-Literal a.place (positive a.bytes))
    (λ n h. ap (λ (e : OpenExp). is_conjunction (expr_of e)) (opened-Negative sig vars n) ∙ apart-Literal n.numeral.place (negative n.numeral.bytes))
    (λ app each h. ap (λ (e : OpenExp). is_conjunction (expr_of e)) (opened-Apply sig vars app) ∙ apart_application sig app.head.bytes (map (opened sig vars) app.args) (h app refl))
