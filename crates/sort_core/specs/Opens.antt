-- Expressions whose names are looked up. A name that isn't there is of none of what is looked up, and is found by the pass
-- of names.
use Rattle.std.specs.Prelude.{ℕ, pos, if◌then◌else◌, false, Option, Some, None, unwrap_or, List, [], ◌∷◌, ◌++◌, length}
use Rattle.std.specs.Option.{option_map_or}
use Rattle.sig_core.specs.declared.ids.RelId.{RelId}
use Rattle.sig_core.specs.Names.{place_of}
use Rattle.sig_core.specs.Signatures.{Declarations}
use Rattle.sig_core.specs.WellFormed.{relation_names}
use Rattle.sexpr_core.specs.declared.form.Atom.{Atom}
use Rattle.sexpr_core.specs.Numerals.{minus}
use Rattle.expr_core.specs.declared.expr.Op.{Op}
use Rattle.expr_core.specs.declared.expr.Op.TheVariants.{Minus}
use Rattle.rule_core.specs.declared.rule.Who.TheVariants.{Own, Child}
use Rattle.syntax_core.specs.declared.literal.Literal.{Literal}
use Rattle.syntax_core.specs.declared.literal.Literal.TheVariants.{Number, Truth}
use Rattle.syntax_core.specs.declared.syntax.Exp.{Exp}
use Rattle.syntax_core.specs.declared.syntax.Exp.TheFolds.{fold-Exp}
use Rattle.syntax_core.specs.declared.syntax.Exp.TheOpen.{Exp-F, Application-F}
use Rattle.syntax_core.specs.declared.syntax.Function.{Function}
use Rattle.syntax_core.specs.declared.syntax.Case.{Case}
use Rattle.syntax_core.specs.declared.syntax.Pair.{Pair}
use Rattle.syntax_core.specs.Literals.{literal_named, negative, positive}
use Rattle.syntax_core.specs.Roles.{operator_named}
use Rattle.sort_core.specs.declared.open.OpenExp.{OpenExp}
use Rattle.sort_core.specs.declared.open.OpenNode.{OpenNode, out-OpenNode}
use Rattle.sort_core.specs.declared.open.OpenNode as node
use Rattle.sort_core.specs.declared.open.OpenNode.TheOpen.{OpenNode-F}
use Rattle.sort_core.specs.declared.variables.Variables.{Variables}
use Rattle.name_core.specs.Names.{has, names_in, plain_pairs, term_pairs, texts}

-- the number of a name; past the last where it isn't there
abbrev pub number_named : List (List ℕ) → List ℕ → ℕ
number_named names name = unwrap_or (place_of names name) (length names)

abbrev pub relation_named : Declarations → List ℕ → RelId
relation_named sig name = record { 0 = number_named (relation_names sig.relations) name }

-- the variables of a function's case
abbrev pub variables_of : Function → Case → Variables
variables_of f case = record {
  slots = names_in (plain_pairs f.declaration.params);
  own = names_in (term_pairs f.declaration.params);
  children = texts case.pattern.variables;
}

-- the variables and these existentials
abbrev pub within : Variables → List Pair → Variables
within vars around = record vars { slots = vars.slots ++ names_in around }

-- a symbol that is no variable is a literal
abbrev pub literal_node : Atom → OpenNode
literal_node a = node.Literal a.place (unwrap_or (literal_named a.bytes) (Truth false))

abbrev pub symbol_node : Variables → Atom → OpenNode
symbol_node vars a =
    option_map_or node.Slot (place_of vars.slots a.bytes)
    (option_map_or (λ k. node.Term (Child k)) (place_of vars.children a.bytes)
    (if has vars.own a.bytes then node.Term Own else literal_node a))

-- the literal of the negated number, of a number that is 0 or more
abbrev pub negated_literal : ℕ → Literal → Option OpenNode
negated_literal place (Number (Some (pos n))) = Some (node.Literal place (Number (Some (minus n))))
negated_literal place _ = None

abbrev pub negated_in : OpenNode-F OpenNode OpenExp → Option OpenNode
negated_in (OpenNode-F.Literal place literal) = negated_literal place literal
negated_in _ = None

-- an operator and its operands; a minus over a literal of 0 or more is read as a literal
abbrev pub operation_node : Op → List OpenExp → OpenNode
operation_node Minus (e ∷ []) = unwrap_or (negated_in (out-OpenNode e.node)) (node.Apply Minus (e ∷ []))
operation_node op args = node.Apply op args

abbrev pub application_node : Declarations → List ℕ → List OpenExp → OpenNode
application_node sig head args =
    option_map_or (λ op. operation_node op args) (operator_named head) (node.Call (relation_named sig head) args)

abbrev pub opened_step : Variables → Exp-F OpenExp OpenExp → OpenExp
opened_step vars (Exp-F.Symbol a) = record { place = a.place; node = symbol_node vars a }
opened_step vars (Exp-F.Numeral a) = record { place = a.place; node = node.Literal a.place (positive a.bytes) }
opened_step vars (Exp-F.Negative n) = record { place = n.place; node = node.Literal n.numeral.place (negative n.numeral.bytes) }
opened_step vars (Exp-F.Apply inside) = inside

abbrev pub opened_application : Declarations → Application-F OpenExp OpenExp → OpenExp
opened_application sig app = record { place = app.place; node = application_node sig app.head.bytes app.args }

-- an expression over these variables
abbrev pub opened : Declarations → Variables → Exp → OpenExp
opened sig vars = fold-Exp OpenExp OpenExp (opened_step vars) (opened_application sig)
