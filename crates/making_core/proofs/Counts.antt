-- An expression that rules are made of has no more nodes than the form that it is read from.
use Rattle.std.proofs.Common.{◌≡◌, ℕ, ◌+◌, ◌≤◌, Bool, true, false, Option, Some, None, List, [], ◌∷◌, map, refl, ap, ◌∙◌, rules, arith}
use Rattle.std.specs.Prelude.{pos, negsuc, sum, unwrap_or, All, if◌then◌else◌}
use Rattle.std.specs.Option.{option_map_or}
use Rattle.std.proofs.lemmas.List.Sums.{sum_by-cons}
use Rattle.std.proofs.lemmas.List.Elements.{All-head, All-tail}
use Rattle.sig_core.specs.declared.ids.RelId.{RelId}
use Rattle.sig_core.specs.Names.{place_of}
use Rattle.sig_core.specs.Signatures.{Declarations}
use Rattle.sexpr_core.specs.declared.form.Atom.{Atom}
use Rattle.expr_core.specs.declared.expr.Expr.{Expr}
use Rattle.expr_core.specs.declared.expr.Expr as expr
use Rattle.expr_core.specs.declared.expr.Expr.{the_lemmas as expr_lemmas}
use Rattle.expr_core.specs.declared.expr.Op.{Op}
use Rattle.expr_core.specs.declared.expr.Op.TheVariants as op
use Rattle.expr_core.specs.Expressions.{node_count}
use Rattle.sig_core.specs.declared.value.Value.{Value}
use Rattle.rule_core.specs.declared.rule.Who.{Who}
use Rattle.rule_core.specs.declared.rule.Who.TheVariants.{Own, Child}
use Rattle.syntax_core.specs.declared.literal.Literal.{Literal}
use Rattle.syntax_core.specs.declared.literal.Literal.TheVariants.{Number, Truth}
use Rattle.syntax_core.specs.declared.syntax.Application.{Application}
use Rattle.syntax_core.specs.declared.syntax.Negative.{Negative}
use Rattle.syntax_core.specs.declared.syntax.Exp.{Exp, the_lemmas}
use Rattle.syntax_core.specs.declared.syntax.Exp as exp
use Rattle.syntax_core.specs.declared.syntax.Exp.TheOpen.{Exp-F, Application-F}
use Rattle.syntax_core.specs.declared.syntax.Exp.TheFolds.{fold-Exp}
use Rattle.syntax_core.specs.Literals.{negative, positive}
use Rattle.syntax_core.specs.Roles.{operator_named}
use Rattle.sort_core.specs.declared.open.OpenExp.{OpenExp}
use Rattle.sort_core.specs.declared.open.OpenNode.{OpenNode, out-OpenNode}
use Rattle.sort_core.specs.declared.open.OpenNode as node
use Rattle.sort_core.specs.declared.open.OpenNode.TheOpen.{OpenNode-F}
use Rattle.sort_core.specs.declared.variables.Variables.{Variables}
use Rattle.name_core.specs.Names.{has}
use Rattle.sort_core.specs.Opens.{application_node, literal_node, negated_in, opened, operation_node, relation_named, symbol_node}
use Rattle.making_core.specs.Rules.{expr_of, expr_of_node}
use Rattle.making_core.proofs.ExpInduction.{by_arguments}
use Rattle.making_core.proofs.Exprs.{expr-Slot, expr-Term, expr-Literal, expr-Apply, expr-Call}

abbrev count_step : Exp-F ℕ ℕ → ℕ
count_step (Exp-F.Symbol a) = 1
count_step (Exp-F.Numeral a) = 1
count_step (Exp-F.Negative n) = 1
count_step (Exp-F.Apply inside) = inside

abbrev count_application : Application-F ℕ ℕ → ℕ
count_application app = 1 + sum app.args

-- how many nodes an expression has
abbrev pub exp_count : Exp → ℕ
exp_count = fold-Exp ℕ ℕ count_step count_application

pub count-Symbol : (a : Atom) → exp_count (exp.Symbol a) ≡ 1
count-Symbol a = search (rules, the_lemmas)

pub count-Numeral : (a : Atom) → exp_count (exp.Numeral a) ≡ 1
count-Numeral a = search (rules, the_lemmas)

pub count-Negative : (n : Negative) → exp_count (exp.Negative n) ≡ 1
count-Negative n = search (rules, the_lemmas)

pub count-Apply : (app : Application) → exp_count (exp.Apply app) ≡ 1 + sum (map exp_count app.args)
count-Apply app = search (rules, the_lemmas)

pub sum-first : (n : ℕ) (ns : List ℕ) → sum (n ∷ ns) ≡ n + sum ns
sum-first n ns = sum_by-cons (λ x. x) n ns

-- The nodes of an expression whose names are looked up.

node-Slot : (i : ℕ) → node_count (expr.Slot i) ≡ 1
node-Slot i = search (rules, expr_lemmas)

node-Lit : (v : Value) → node_count (expr.Lit v) ≡ 1
node-Lit v = search (rules, expr_lemmas)

pub node-Apply : (o : Op) (kids : List Expr) → node_count (expr.Apply o kids) ≡ 1 + sum (map node_count kids)
node-Apply o kids = search (rules, expr_lemmas)

one-Slot : (k : ℕ) → node_count (expr_of_node (node.Slot k)) ≡ 1
one-Slot k = ap node_count (expr-Slot k) ∙ node-Slot k

one-Term : (who : Who) → node_count (expr_of_node (node.Term who)) ≡ 1
one-Term who = ap node_count (expr-Term who) ∙ node-Lit _

one-Literal : (place : ℕ) (literal : Literal) → node_count (expr_of_node (node.Literal place literal)) ≡ 1
one-Literal place literal = ap node_count (expr-Literal place literal) ∙ node-Lit _

one-Call : (relation : RelId) (args : List OpenExp) → node_count (expr_of_node (node.Call relation args)) ≡ 1
one-Call relation args = ap node_count (expr-Call relation args) ∙ node-Lit _

symbol_by : (slot child : Option ℕ) (own : Bool) (a : Atom) →
    node_count (expr_of_node (option_map_or node.Slot slot (option_map_or (λ k. node.Term (Child k)) child (if own then node.Term Own else literal_node a)))) ≡ 1
symbol_by (Some slot) child own a = one-Slot slot
symbol_by None (Some child) own a = one-Term (Child child)
symbol_by None None true a = one-Term Own
symbol_by None None false a = one-Literal _ _

symbol_one : (vars : Variables) (a : Atom) → node_count (expr_of_node (symbol_node vars a)) ≡ 1
symbol_one vars a = symbol_by (place_of vars.slots a.bytes) (place_of vars.children a.bytes) (has vars.own a.bytes) a

-- a node that is negated is a literal
pub data Negation (x : OpenNode-F OpenNode OpenExp) : Type 0 where
  kept : negated_in x ≡ None → Negation x
  turned : (place : ℕ) (literal : Literal) → negated_in x ≡ Some (node.Literal place literal) → Negation x

pub negation : (x : OpenNode-F OpenNode OpenExp) → Negation x
negation (OpenNode-F.Slot k) = kept refl
negation (OpenNode-F.Term who) = kept refl
negation (OpenNode-F.Literal place (Number None)) = kept refl
negation (OpenNode-F.Literal place (Number (Some (pos n)))) = turned place _ refl
negation (OpenNode-F.Literal place (Number (Some (negsuc n)))) = kept refl
negation (OpenNode-F.Literal place (Truth b)) = kept refl
negation (OpenNode-F.Apply o kids) = kept refl
negation (OpenNode-F.Call relation args) = kept refl

-- an operator and its operands, or a minus over one operand
pub data Operation (o : Op) (args : List OpenExp) : Type 0 where
  applied : operation_node o args ≡ node.Apply o args → Operation o args
  minus : (e : OpenExp) → o ≡ op.Minus → args ≡ e ∷ [] →
      operation_node o args ≡ unwrap_or (negated_in (out-OpenNode e.node)) (node.Apply op.Minus (e ∷ [])) → Operation o args

pub operation : (o : Op) (args : List OpenExp) → Operation o args
operation op.Minus [] = applied refl
operation op.Minus (e ∷ []) = minus e refl refl refl
operation op.Minus (e ∷ f ∷ es) = applied refl
operation op.Not args = applied refl
operation op.And args = applied refl
operation op.Or args = applied refl
operation op.Xor args = applied refl
operation op.Implies args = applied refl
operation op.Equal args = applied refl
operation op.Distinct args = applied refl
operation op.Ite args = applied refl
operation op.Add args = applied refl
operation op.Times args = applied refl
operation op.Div args = applied refl
operation op.Mod args = applied refl
operation op.Abs args = applied refl
operation op.Less args = applied refl
operation op.AtMost args = applied refl
operation op.Greater args = applied refl
operation op.AtLeast args = applied refl

apply_count : (o : Op) (args : List OpenExp) → node_count (expr_of_node (node.Apply o args)) ≡ 1 + sum (map node_count (map expr_of args))
apply_count o args = ap node_count (expr-Apply o args) ∙ node-Apply o (map expr_of args)

operation_count : (o : Op) (args : List OpenExp) → Operation o args → node_count (expr_of_node (operation_node o args)) ≤ 1 + sum (map node_count (map expr_of args))
operation_count o args (applied is) =
    let count = ap (λ n. node_count (expr_of_node n)) is ∙ apply_count o args in
    omega (arith, count)
operation_count o args (minus e is alone node_is) = by (negation (out-OpenNode e.node))
  where
    by : Negation (out-OpenNode e.node) → node_count (expr_of_node (operation_node o args)) ≤ 1 + sum (map node_count (map expr_of args))
    by (kept none) =
        let count = ap (λ n. node_count (expr_of_node n)) (node_is ∙ ap (λ m. unwrap_or m (node.Apply op.Minus (e ∷ []))) none) ∙ apply_count op.Minus (e ∷ []) in
        let same = ap (λ es. sum (map node_count (map expr_of es))) alone in
        omega (arith, count, same)
    by (turned place literal some) =
        let count = ap (λ n. node_count (expr_of_node n)) (node_is ∙ ap (λ m. unwrap_or m (node.Apply op.Minus (e ∷ []))) some) ∙ one-Literal place literal in
        omega (arith, count)

application_count : (sig : Declarations) (head : List ℕ) (args : List OpenExp) → node_count (expr_of_node (application_node sig head args)) ≤ 1 + sum (map node_count (map expr_of args))
application_count sig head args = by (operator_named head)
  where
    by : (o : Option Op) → node_count (expr_of_node (option_map_or (λ q. operation_node q args) o (node.Call (relation_named sig head) args))) ≤ 1 + sum (map node_count (map expr_of args))
    by (Some o) = operation_count o args (operation o args)
    by None = let count = one-Call (relation_named sig head) args in omega (arith, count)

pub opened-Symbol : (sig : Declarations) (vars : Variables) (a : Atom) → opened sig vars (exp.Symbol a) ≡ record { place = a.place; node = symbol_node vars a }
opened-Symbol sig vars a = search (rules, the_lemmas)

pub opened-Numeral : (sig : Declarations) (vars : Variables) (a : Atom) → opened sig vars (exp.Numeral a) ≡ record { place = a.place; node = node.Literal a.place (positive a.bytes) }
opened-Numeral sig vars a = search (rules, the_lemmas)

pub opened-Negative : (sig : Declarations) (vars : Variables) (n : Negative) →
    opened sig vars (exp.Negative n) ≡ record { place = n.place; node = node.Literal n.numeral.place (negative n.numeral.bytes) }
opened-Negative sig vars n = search (rules, the_lemmas)

pub opened-Apply : (sig : Declarations) (vars : Variables) (app : Application) →
    opened sig vars (exp.Apply app) ≡ record { place = app.place; node = application_node sig app.head.bytes (map (opened sig vars) app.args) }
opened-Apply sig vars app = search (rules, the_lemmas)

-- An expression whose names are looked up has no more nodes than the one that was read.

abbrev IsNoLarger : Declarations → Variables → Exp → Type 0
IsNoLarger sig vars e = node_count (expr_of (opened sig vars e)) ≤ exp_count e

sums : (sig : Declarations) (vars : Variables) (es : List Exp) → All (IsNoLarger sig vars) es →
    sum (map node_count (map expr_of (map (opened sig vars) es))) ≤ sum (map exp_count es)
sums sig vars [] h = omega arith
sums sig vars (e ∷ es) h =
    let here = All-head (IsNoLarger sig vars) e es h in
    let later = sums sig vars es (All-tail (IsNoLarger sig vars) e es h) in
    let left = sum-first (node_count (expr_of (opened sig vars e))) (map node_count (map expr_of (map (opened sig vars) es))) in
    let right = sum-first (exp_count e) (map exp_count es) in
    omega (arith, here, later, left, right)

no_larger_symbol : (sig : Declarations) (vars : Variables) (a : Atom) → IsNoLarger sig vars (exp.Symbol a)
no_larger_symbol sig vars a =
    let count = ap (λ (e : OpenExp). node_count (expr_of e)) (opened-Symbol sig vars a) ∙ symbol_one vars a in
    let whole = count-Symbol a in
    omega (arith, count, whole)

no_larger_numeral : (sig : Declarations) (vars : Variables) (a : Atom) → IsNoLarger sig vars (exp.Numeral a)
no_larger_numeral sig vars a =
    let count = ap (λ (e : OpenExp). node_count (expr_of e)) (opened-Numeral sig vars a) ∙ one-Literal a.place (positive a.bytes) in
    let whole = count-Numeral a in
    omega (arith, count, whole)

no_larger_negative : (sig : Declarations) (vars : Variables) (n : Negative) → IsNoLarger sig vars (exp.Negative n)
no_larger_negative sig vars n =
    let count = ap (λ (e : OpenExp). node_count (expr_of e)) (opened-Negative sig vars n) ∙ one-Literal n.numeral.place (negative n.numeral.bytes) in
    let whole = count-Negative n in
    omega (arith, count, whole)

no_larger_apply : (sig : Declarations) (vars : Variables) (app : Application) → All (IsNoLarger sig vars) app.args → IsNoLarger sig vars (exp.Apply app)
no_larger_apply sig vars app h =
    let is = ap (λ (e : OpenExp). node_count (expr_of e)) (opened-Apply sig vars app) in
    let count = application_count sig app.head.bytes (map (opened sig vars) app.args) in
    let args = sums sig vars app.args h in
    let whole = count-Apply app in
    omega (arith, is, count, args, whole)

pub no_larger : (sig : Declarations) (vars : Variables) (e : Exp) → node_count (expr_of (opened sig vars e)) ≤ exp_count e
no_larger sig vars = by_arguments (IsNoLarger sig vars) (no_larger_symbol sig vars) (no_larger_numeral sig vars) (no_larger_negative sig vars) (no_larger_apply sig vars)
