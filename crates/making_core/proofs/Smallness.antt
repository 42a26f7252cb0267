-- The atoms of a rule have as few nodes as the expressions that they are made of.
use Rattle.std.proofs.Common.{◌≡◌, ℕ, ◌≤◌, ◌<◌, ◌^◌, Bool, true, false, Option, Some, None, List, [], ◌∷◌, map, length, refl, sym, ap, subst, ◌∙◌, rules, arith}
use Rattle.std.specs.Prelude.{unwrap_or, All, if◌then◌else◌}
use Rattle.std.specs.Option.{option_map_or}
use Rattle.std.proofs.lemmas.List.Elements.{All-nil, All-cons, All-head, All-tail, All-weaker, All-map}
use Rattle.sig_core.specs.declared.ids.RelId.{RelId}
use Rattle.sig_core.specs.declared.signature.Kind.{Kind}
use Rattle.sig_core.specs.declared.signature.Kind.TheVariants.{Term, Input, Output}
use Rattle.sig_core.specs.Names.{place_of}
use Rattle.sig_core.specs.Signatures.{Declarations, kinds_of}
use Rattle.sexpr_core.specs.declared.form.Atom as sexpr
use Rattle.expr_core.specs.declared.expr.Expr.{Expr}
use Rattle.expr_core.specs.declared.expr.Expr as expr
use Rattle.expr_core.specs.declared.expr.Op.{Op}
use Rattle.expr_core.specs.declared.expr.Op.TheVariants as op
use Rattle.expr_core.specs.Expressions.{node_count}
use Rattle.rule_core.specs.declared.rule.Atom.{Atom}
use Rattle.rule_core.specs.declared.rule.Atom.TheVariants as atom
use Rattle.rule_core.specs.declared.rule.Who.{Who}
use Rattle.rule_core.specs.declared.rule.Who.TheVariants.{Own, Child}
use Rattle.rule_core.specs.Flow.{known_after}
use Rattle.rule_core.specs.Rulebooks.{HasSmallParts, IsSmall}
use Rattle.syntax_core.specs.declared.literal.Literal.{Literal}
use Rattle.syntax_core.specs.declared.syntax.Application.{Application}
use Rattle.syntax_core.specs.declared.syntax.Exp.{Exp}
use Rattle.syntax_core.specs.declared.syntax.Exp as exp
use Rattle.syntax_core.specs.Literals.{negative, positive}
use Rattle.syntax_core.specs.Roles.{operator_named}
use Rattle.sort_core.specs.declared.open.OpenExp.{OpenExp}
use Rattle.sort_core.specs.declared.open.OpenNode.{OpenNode, out-OpenNode, roll-OpenNode, roll-out-OpenNode}
use Rattle.sort_core.specs.declared.open.OpenNode as node
use Rattle.sort_core.specs.declared.open.OpenNode.{the_lemmas}
use Rattle.sort_core.specs.declared.open.OpenNode.TheOpen.{OpenNode-F}
use Rattle.sort_core.specs.declared.open.OpenNode.TheVariants.{rolls-Apply}
use Rattle.sort_core.specs.declared.variables.Variables.{Variables}
use Rattle.name_core.specs.Names.{has}
use Rattle.sort_core.specs.Opens.{application_node, literal_node, negated_in, opened, operation_node, relation_named, symbol_node}
use Rattle.making_core.specs.Rules.{atom_in, atom_of, atoms_from, call_atom, equation_atom, expr_of, expr_of_node, filled_slot, input_args, output_args}
use Rattle.making_core.proofs.Counts.{Negation, Operation, applied, count-Apply, count-Symbol, count-Numeral, count-Negative, exp_count, kept, minus, negation, no_larger, opened-Apply, opened-Negative, opened-Numeral, opened-Symbol, operation, turned}
use Rattle.making_core.proofs.ExpInduction.{by_arguments}
use Rattle.making_core.proofs.Exprs.{expr-Apply}
use Rattle.making_core.proofs.Weights.{weight, weight-first}

-- The kinds of atoms.

-- what holds of calls, equations of two sides and tests holds of each atom
pub atom_cases : (P : Atom → Type 0) (sig : Declarations) (known : List ℕ) (e : OpenExp) (x : OpenNode-F OpenNode OpenExp) →
    ((relation : RelId) (args : List OpenExp) → x ≡ OpenNode-F.Call relation args → P (call_atom relation (kinds_of sig relation) args)) →
    ((left right : OpenExp) → x ≡ OpenNode-F.Apply op.Equal (left ∷ right ∷ []) → P (equation_atom known (expr_of left) (expr_of right))) →
    P (atom.Test (expr_of e)) → P (atom_in sig known e x)
atom_cases P sig known e (OpenNode-F.Slot k) call equation test = test
atom_cases P sig known e (OpenNode-F.Term who) call equation test = test
atom_cases P sig known e (OpenNode-F.Literal place literal) call equation test = test
atom_cases P sig known e (OpenNode-F.Call relation args) call equation test = call relation args refl
atom_cases P sig known e (OpenNode-F.Apply op.Equal []) call equation test = test
atom_cases P sig known e (OpenNode-F.Apply op.Equal (left ∷ [])) call equation test = test
atom_cases P sig known e (OpenNode-F.Apply op.Equal (left ∷ right ∷ [])) call equation test = equation left right refl
atom_cases P sig known e (OpenNode-F.Apply op.Equal (left ∷ right ∷ more ∷ others)) call equation test = test
atom_cases P sig known e (OpenNode-F.Apply op.Not kids) call equation test = test
atom_cases P sig known e (OpenNode-F.Apply op.And kids) call equation test = test
atom_cases P sig known e (OpenNode-F.Apply op.Or kids) call equation test = test
atom_cases P sig known e (OpenNode-F.Apply op.Xor kids) call equation test = test
atom_cases P sig known e (OpenNode-F.Apply op.Implies kids) call equation test = test
atom_cases P sig known e (OpenNode-F.Apply op.Distinct kids) call equation test = test
atom_cases P sig known e (OpenNode-F.Apply op.Ite kids) call equation test = test
atom_cases P sig known e (OpenNode-F.Apply op.Add kids) call equation test = test
atom_cases P sig known e (OpenNode-F.Apply op.Minus kids) call equation test = test
atom_cases P sig known e (OpenNode-F.Apply op.Times kids) call equation test = test
atom_cases P sig known e (OpenNode-F.Apply op.Div kids) call equation test = test
atom_cases P sig known e (OpenNode-F.Apply op.Mod kids) call equation test = test
atom_cases P sig known e (OpenNode-F.Apply op.Abs kids) call equation test = test
atom_cases P sig known e (OpenNode-F.Apply op.Less kids) call equation test = test
atom_cases P sig known e (OpenNode-F.Apply op.AtMost kids) call equation test = test
atom_cases P sig known e (OpenNode-F.Apply op.Greater kids) call equation test = test
atom_cases P sig known e (OpenNode-F.Apply op.AtLeast kids) call equation test = test

-- what holds of both fills and of the test holds of an equation
pub equation_cases : (P : Atom → Type 0) (known : List ℕ) (left right : Expr) →
    ((slot : ℕ) → filled_slot known left right ≡ Some slot → P (atom.Fill slot right)) →
    ((slot : ℕ) → filled_slot known right left ≡ Some slot → P (atom.Fill slot left)) →
    P (atom.Test (expr.Apply op.Equal (left ∷ right ∷ []))) → P (equation_atom known left right)
equation_cases P known left right one other test = by (filled_slot known left right) (filled_slot known right left) one other
  where
    by : (a b : Option ℕ) → ((slot : ℕ) → a ≡ Some slot → P (atom.Fill slot right)) → ((slot : ℕ) → b ≡ Some slot → P (atom.Fill slot left)) →
        P (option_map_or (λ slot. atom.Fill slot right) a (option_map_or (λ slot. atom.Fill slot left) b (atom.Test (expr.Apply op.Equal (left ∷ right ∷ [])))))
    by (Some slot) b one other = one slot refl
    by None (Some slot) one other = other slot refl
    by None None one other = test

-- what holds of each expression's atom, whatever is known, holds of the atoms from the left
pub atoms_each : (P : Atom → Type 0) (sig : Declarations) (es : List OpenExp) (known : List ℕ) → All (λ e. (known : List ℕ) → P (atom_of sig known e)) es → All P (atoms_from sig known es)
atoms_each P sig [] known h = All-nil P
atoms_each P sig (e ∷ es) known h =
    All-cons P (atom_of sig known e) (option_map_or (λ more. atoms_from sig more es) (known_after known (atom_of sig known e)) [])
    (All-head (λ e. (known : List ℕ) → P (atom_of sig known e)) e es h known)
    (by (λ more. atoms_each P sig es more (All-tail (λ e. (known : List ℕ) → P (atom_of sig known e)) e es h)) (known_after known (atom_of sig known e)))
  where
    by : ((more : List ℕ) → All P (atoms_from sig more es)) → (o : Option (List ℕ)) → All P (option_map_or (λ more. atoms_from sig more es) o [])
    by later None = All-nil P
    by later (Some more) = later more

pub atoms_few : (sig : Declarations) (es : List OpenExp) (known : List ℕ) → length (atoms_from sig known es) ≤ length es
atoms_few sig [] known = omega arith
atoms_few sig (e ∷ es) known = by (λ more. atoms_few sig es more) (known_after known (atom_of sig known e))
  where
    by : ((more : List ℕ) → length (atoms_from sig more es) ≤ length es) → (o : Option (List ℕ)) → length (atom_of sig known e ∷ option_map_or (λ more. atoms_from sig more es) o []) ≤ length (e ∷ es)
    by later None = omega arith
    by later (Some more) = let few = later more in omega (arith, few)

pub All-input_args : {X : Type 0} (P : X → Type 0) (kinds : List Kind) (xs : List X) → All P xs → All P (input_args kinds xs)
All-input_args P [] xs h = All-nil P
All-input_args P (Term t ∷ ks) [] h = All-nil P
All-input_args P (Input s ∷ ks) [] h = All-nil P
All-input_args P (Output s ∷ ks) [] h = All-nil P
All-input_args P (Term t ∷ ks) (x ∷ xs) h = All-input_args P ks xs (All-tail P x xs h)
All-input_args P (Input s ∷ ks) (x ∷ xs) h = All-cons P x (input_args ks xs) (All-head P x xs h) (All-input_args P ks xs (All-tail P x xs h))
All-input_args P (Output s ∷ ks) (x ∷ xs) h = All-input_args P ks xs (All-tail P x xs h)

pub All-output_args : {X : Type 0} (P : X → Type 0) (kinds : List Kind) (xs : List X) → All P xs → All P (output_args kinds xs)
All-output_args P [] xs h = All-nil P
All-output_args P (Term t ∷ ks) [] h = All-nil P
All-output_args P (Input s ∷ ks) [] h = All-nil P
All-output_args P (Output s ∷ ks) [] h = All-nil P
All-output_args P (Term t ∷ ks) (x ∷ xs) h = All-output_args P ks xs (All-tail P x xs h)
All-output_args P (Input s ∷ ks) (x ∷ xs) h = All-output_args P ks xs (All-tail P x xs h)
All-output_args P (Output s ∷ ks) (x ∷ xs) h = All-cons P x (output_args ks xs) (All-head P x xs h) (All-output_args P ks xs (All-tail P x xs h))

-- The operands and arguments of a node.

abbrev pub parts_in : OpenNode-F OpenNode OpenExp → List OpenExp
parts_in (OpenNode-F.Apply o kids) = kids
parts_in (OpenNode-F.Call relation args) = args
parts_in _ = []

abbrev pub parts_of_node : OpenNode → List OpenExp
parts_of_node n = parts_in (out-OpenNode n)

parts-Slot : (k : ℕ) → parts_of_node (node.Slot k) ≡ []
parts-Slot k = search (rules, the_lemmas)

parts-Term : (who : Who) → parts_of_node (node.Term who) ≡ []
parts-Term who = search (rules, the_lemmas)

parts-Literal : (place : ℕ) (literal : Literal) → parts_of_node (node.Literal place literal) ≡ []
parts-Literal place literal = search (rules, the_lemmas)

parts-Apply : (o : Op) (kids : List OpenExp) → parts_of_node (node.Apply o kids) ≡ kids
parts-Apply o kids = search (rules, the_lemmas)

parts-Call : (relation : RelId) (args : List OpenExp) → parts_of_node (node.Call relation args) ≡ args
parts-Call relation args = search (rules, the_lemmas)

pub is_apply : (n : OpenNode) (o : Op) (kids : List OpenExp) → out-OpenNode n ≡ OpenNode-F.Apply o kids → n ≡ node.Apply o kids
is_apply n o kids is = sym (roll-out-OpenNode n) ∙ ap roll-OpenNode is ∙ rolls-Apply o kids

-- what holds of the opened arguments holds of the parts of the node, and of none
pub parts_each : (P : OpenExp → Type 0) (sig : Declarations) (vars : Variables) (e : Exp) →
    ((app : Application) → e ≡ exp.Apply app → All P (map (opened sig vars) app.args)) → All P (parts_of_node (opened sig vars e).node)
parts_each P sig vars = by_arguments (λ e. ((app : Application) → e ≡ exp.Apply app → All P (map (opened sig vars) app.args)) → All P (parts_of_node (opened sig vars e).node))
    (λ a h. subst (λ (o : OpenExp). All P (parts_of_node o.node)) (sym (opened-Symbol sig vars a)) (symbol a))
    (λ a h. subst (λ (o : OpenExp). All P (parts_of_node o.node)) (sym (opened-Numeral sig vars a)) (none (node.Literal a.place (positive a.bytes)) (parts-Literal _ _)))
    (λ n h. subst (λ (o : OpenExp). All P (parts_of_node o.node)) (sym (opened-Negative sig vars n)) (none (node.Literal n.numeral.place (negative n.numeral.bytes)) (parts-Literal _ _)))
    (λ app each h. subst (λ (o : OpenExp). All P (parts_of_node o.node)) (sym (opened-Apply sig vars app)) (application app (h app refl)))
  where
    none : (n : OpenNode) → parts_of_node n ≡ [] → All P (parts_of_node n)
    none n is = subst (All P) (sym is) (All-nil P)

    symbol_by : (slot child : Option ℕ) (own : Bool) (a : sexpr.Atom) →
        All P (parts_of_node (option_map_or node.Slot slot (option_map_or (λ k. node.Term (Child k)) child (if own then node.Term Own else literal_node a))))
    symbol_by (Some slot) child own a = none (node.Slot slot) (parts-Slot slot)
    symbol_by None (Some child) own a = none (node.Term (Child child)) (parts-Term _)
    symbol_by None None true a = none (node.Term Own) (parts-Term _)
    symbol_by None None false a = none (literal_node a) (parts-Literal _ _)

    symbol : (a : sexpr.Atom) → All P (parts_of_node (symbol_node vars a))
    symbol a = symbol_by (place_of vars.slots a.bytes) (place_of vars.children a.bytes) (has vars.own a.bytes) a

    negated : (e : OpenExp) → Negation (out-OpenNode e.node) → All P (e ∷ []) → All P (parts_of_node (unwrap_or (negated_in (out-OpenNode e.node)) (node.Apply op.Minus (e ∷ []))))
    negated e (kept is) h = subst (λ o. All P (parts_of_node (unwrap_or o (node.Apply op.Minus (e ∷ []))))) (sym is) (subst (All P) (sym (parts-Apply op.Minus (e ∷ []))) h)
    negated e (turned place literal is) h = subst (λ o. All P (parts_of_node (unwrap_or o (node.Apply op.Minus (e ∷ []))))) (sym is) (none (node.Literal place literal) (parts-Literal place literal))

    operator : (o : Op) (args : List OpenExp) → Operation o args → All P args → All P (parts_of_node (operation_node o args))
    operator o args (applied is) h = subst (λ n. All P (parts_of_node n)) (sym is) (subst (All P) (sym (parts-Apply o args)) h)
    operator o args (minus e is alone node_is) h = subst (λ n. All P (parts_of_node n)) (sym node_is) (negated e (negation (out-OpenNode e.node)) (subst (All P) alone h))

    named : (o : Option Op) (relation : RelId) (args : List OpenExp) → All P args → All P (parts_of_node (option_map_or (λ q. operation_node q args) o (node.Call relation args)))
    named (Some o) relation args h = operator o args (operation o args) h
    named None relation args h = subst (All P) (sym (parts-Call relation args)) h

    application : (app : Application) → All P (map (opened sig vars) app.args) → All P (parts_of_node (application_node sig app.head.bytes (map (opened sig vars) app.args)))
    application app h = named (operator_named app.head.bytes) (relation_named sig app.head.bytes) (map (opened sig vars) app.args) h

-- Small atoms.

abbrev pub HasFew : ℕ → OpenExp → Type 0
HasFew n e = node_count (expr_of e) ≤ n

few_args : (sig : Declarations) (vars : Variables) (n : ℕ) (es : List Exp) → weight es ≤ n → All (HasFew n) (map (opened sig vars) es)
few_args sig vars n [] bound = All-nil (HasFew n)
few_args sig vars n (e ∷ es) bound =
    let first = weight-first e es in
    let here = no_larger sig vars e in
    All-cons (HasFew n) (opened sig vars e) (map (opened sig vars) es) (omega (arith, first, here, bound)) (few_args sig vars n es (omega (arith, first, bound)))

few_parts_of : (sig : Declarations) (vars : Variables) (e : Exp) → All (HasFew (exp_count e)) (parts_of_node (opened sig vars e).node)
few_parts_of sig vars e = parts_each (HasFew (exp_count e)) sig vars e
    (λ app is. let count = ap exp_count is ∙ count-Apply app in few_args sig vars (exp_count e) app.args (omega (arith, count)))

small_of : (n : ℕ) (es : List OpenExp) → n < 2 ^ 32 → All (HasFew n) es → All IsSmall (map expr_of es)
small_of n es bound h = All-map IsSmall expr_of es (All-weaker (HasFew n) (λ e. IsSmall (expr_of e)) (λ e few. omega (arith, few, bound)) es h)

pub small_atom : (sig : Declarations) (vars : Variables) (e : Exp) → exp_count e < 2 ^ 32 → (known : List ℕ) → HasSmallParts (atom_of sig known (opened sig vars e))
small_atom sig vars e bound known =
    atom_cases HasSmallParts sig known (opened sig vars e) (out-OpenNode (opened sig vars e).node) call equation (omega (arith, whole, bound))
  where
    n : ℕ
    n = exp_count e

    whole : node_count (expr_of (opened sig vars e)) ≤ exp_count e
    whole = no_larger sig vars e

    parts : All (HasFew (exp_count e)) (parts_of_node (opened sig vars e).node)
    parts = few_parts_of sig vars e

    call : (relation : RelId) (args : List OpenExp) → out-OpenNode (opened sig vars e).node ≡ OpenNode-F.Call relation args → HasSmallParts (call_atom relation (kinds_of sig relation) args)
    call relation args is =
        let few = subst (λ x. All (HasFew (exp_count e)) (parts_in x)) is parts in (
          small_of (exp_count e) (input_args (kinds_of sig relation) args) bound (All-input_args (HasFew (exp_count e)) (kinds_of sig relation) args few),
          small_of (exp_count e) (output_args (kinds_of sig relation) args) bound (All-output_args (HasFew (exp_count e)) (kinds_of sig relation) args few),
        )

    equation : (left right : OpenExp) → out-OpenNode (opened sig vars e).node ≡ OpenNode-F.Apply op.Equal (left ∷ right ∷ []) → HasSmallParts (equation_atom known (expr_of left) (expr_of right))
    equation left right is =
        let few = subst (λ x. All (HasFew (exp_count e)) (parts_in x)) is parts in
        let one = All-head (HasFew (exp_count e)) left (right ∷ []) few in
        let other = All-head (HasFew (exp_count e)) right [] (All-tail (HasFew (exp_count e)) left (right ∷ []) few) in
        let same = ap (λ m. node_count (expr_of_node m)) (is_apply (opened sig vars e).node op.Equal (left ∷ right ∷ []) is) ∙ ap node_count (expr-Apply op.Equal (left ∷ right ∷ [])) in
        equation_cases HasSmallParts known (expr_of left) (expr_of right) (λ slot at. omega (arith, other, bound)) (λ slot at. omega (arith, one, bound)) (omega (arith, same, whole, bound))

has_a_node : (e : Exp) → 1 ≤ exp_count e
has_a_node = by_arguments (λ e. 1 ≤ exp_count e)
    (λ a. let is = count-Symbol a in omega (arith, is)) (λ a. let is = count-Numeral a in omega (arith, is)) (λ n. let is = count-Negative n in omega (arith, is))
    (λ app h. let is = count-Apply app in omega (arith, is))

pub few_of_weight : (es : List Exp) → length es ≤ weight es
few_of_weight [] = omega arith
few_of_weight (e ∷ es) = let first = weight-first e es in let one = has_a_node e in let more = few_of_weight es in omega (arith, first, one, more)

pub small_atoms : (sig : Declarations) (vars : Variables) (es : List Exp) (known : List ℕ) → weight es < 2 ^ 32 → All HasSmallParts (atoms_from sig known (map (opened sig vars) es))
small_atoms sig vars es known bound = atoms_each HasSmallParts sig (map (opened sig vars) es) known (each es bound)
  where
    each : (es : List Exp) → weight es < 2 ^ 32 → All (λ (e : OpenExp). (known : List ℕ) → HasSmallParts (atom_of sig known e)) (map (opened sig vars) es)
    each [] bound = All-nil (λ (e : OpenExp). (known : List ℕ) → HasSmallParts (atom_of sig known e))
    each (e ∷ es) bound =
        let first = weight-first e es in
        All-cons (λ (e : OpenExp). (known : List ℕ) → HasSmallParts (atom_of sig known e)) (opened sig vars e) (map (opened sig vars) es)
        (small_atom sig vars e (omega (arith, first, bound))) (each es (omega (arith, first, bound)))
