-- What commands add to what a file has stated.
use Rattle.std.specs.Prelude.{ℕ, true, nat_lt, if◌then◌else◌, Some, unwrap_or, option_and_then, List, [], ◌∷◌, ◌++◌, map, length, slice_get}
use Rattle.std.specs.Option.{option_map_or}
use Rattle.std.specs.List.{flat_map, enumerate_from}
use Rattle.sig_core.specs.declared.signature.Constructor.{Constructor}
use Rattle.sig_core.specs.declared.value.Value.{Value}
use Rattle.sig_core.specs.Signatures.{Declarations, kinds_of}
use Rattle.sexpr_core.specs.declared.form.Sexpr.{Sexpr}
use Rattle.sexpr_core.specs.Access.{keyword_of, parts_of, item_of, others_of}
use Rattle.sexpr_core.specs.Texts.{form_text}
use Rattle.grammar_core.specs.declared.production.Nonterminal.{Nonterminal}
use Rattle.grammar_core.specs.declared.production.Production.{Production}
use Rattle.grammar_core.specs.Whole.{whole}
use Rattle.problem_core.specs.declared.parts.Constraint.{Constraint}
use Rattle.problem_core.specs.declared.parts.Info.{Info}
use Rattle.syntax_core.specs.declared.commands.Head.{Head}
use Rattle.syntax_core.specs.declared.commands.Head.TheVariants as head
use Rattle.syntax_core.specs.declared.literal.Literal.TheVariants.{Truth}
use Rattle.syntax_core.specs.declared.syntax.Application.{Application}
use Rattle.syntax_core.specs.declared.syntax.Exp.{Exp}
use Rattle.syntax_core.specs.declared.syntax.Pair.{Pair}
use Rattle.syntax_core.specs.declared.syntax.Pattern.{Pattern}
use Rattle.syntax_core.specs.Literals.{literal_of}
use Rattle.syntax_core.specs.Syntax.{atom_of, calls_of, deepest, functions_of, items_at, name_of, nonterminals_of, pattern_of, type_names}
use Rattle.name_core.specs.Names.{groups_of, names_in, texts}
use Rattle.sort_core.specs.Opens.{number_named, relation_named}
use Rattle.sort_core.specs.Relations.{declared_with, type_named}
use Rattle.sort_core.specs.Branches.{constructor_named}
use Rattle.making_core.specs.Rules.{plain_args, rules_of, value_of_literal}
use Rattle.name_core.specs.States.{State, Wanted}

-- `(set-info K)` or `(set-info K V)`, with the canonical spelling of V
abbrev pub info_of : Sexpr → Info
info_of form = record {
  key = unwrap_or (option_and_then keyword_of (slice_get (parts_of form) 1)) [];
  value = option_map_or form_text (slice_get (parts_of form) 2) [];
}

abbrev pub constructor_of : Declarations → ℕ → Pattern → Constructor
constructor_of sig owner con = record { name = con.name.bytes; owner = record { 0 = owner }; args = map (type_named sig) (texts con.variables) }

-- the constructors of a group, whose type has this number
abbrev pub constructors_of : Declarations → ℕ × Sexpr → List Constructor
constructors_of sig (owner, group) = map (λ form. constructor_of sig owner (pattern_of form)) (parts_of group)

abbrev pub with_types : Declarations → Sexpr → Declarations
with_types sig form = record sig { types = sig.types ++ texts (type_names form) }

-- the signature with the types of the command, and their constructors type by type
abbrev pub with_terms : Declarations → Sexpr → Declarations
with_terms sig form = record (with_types sig form) {
  constructors = sig.constructors ++ flat_map (constructors_of (with_types sig form)) (enumerate_from (length sig.types) (items_at 2 form));
}

-- Grammars.

abbrev pub production_of : Declarations → List (List ℕ) → Sexpr → Production
production_of sig nonterminals form = record {
  con = constructor_named sig (name_of form).bytes;
  args = map (λ arg. record { 0 = number_named nonterminals (atom_of arg).bytes }) (others_of form);
}

abbrev pub nonterminal_of : Declarations → List (List ℕ) → Pair × Sexpr → Nonterminal
nonterminal_of sig nonterminals (pair, group) = record {
  name = pair.name.bytes;
  owner = type_named sig pair.sort.bytes;
  productions = map (production_of sig nonterminals) (items_at 2 group);
}

-- the grammar of the command, and the whole one where it has none
abbrev pub grammar_of : Declarations → Sexpr → List Nonterminal
grammar_of sig form =
    if nat_lt 4 (length (parts_of form)) then map (nonterminal_of sig (names_in (nonterminals_of form))) (groups_of form)
    else whole sig (type_named sig (atom_of (item_of 3 form)).bytes)

abbrev pub wanted_of : Declarations → Sexpr → Wanted
wanted_of sig form = record {
  name = (atom_of (item_of 1 form)).bytes;
  type = type_named sig (atom_of (item_of 3 form)).bytes;
  grammar = grammar_of sig form;
}

-- Examples.

abbrev pub value_of_argument : Exp → Value
value_of_argument e = value_of_literal (unwrap_or (literal_of e) (Truth true))

abbrev pub constraint_of : Declarations → Application → Constraint
constraint_of sig call = record {
  relation = relation_named sig call.head.bytes;
  args = map value_of_argument (plain_args (kinds_of sig (relation_named sig call.head.bytes)) call.args);
}

-- what has been stated after the command
abbrev pub added : State → Head → Sexpr → State
added s head.SetInfo form = record s { infos = s.infos ++ info_of form ∷ [] }
added s head.DeclareTermTypes form = record s { signature = with_terms s.signature form }
added s head.DefineFunsRec form = record s {
  signature = declared_with s.signature (functions_of form);
  rules = s.rules ++ rules_of s.signature (functions_of form);
}
added s head.SynthFun form = record s { wanted = Some (wanted_of s.signature form) }
added s head.Constraint form = record s { constraints = s.constraints ++ map (constraint_of s.signature) (calls_of deepest (item_of 1 form)) }
added s head.CheckSynth form = record s { is_over = true }
