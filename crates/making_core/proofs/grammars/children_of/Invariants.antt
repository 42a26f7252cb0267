use Rattle.std.proofs.Common.{◌≡◌, ◌++◌, map, drop}
use Rattle.sexpr_core.specs.declared.form.Sexpr.{Sexpr}
use Rattle.grammar_core.specs.declared.ids.NtId.{NtId}
use Rattle.syntax_core.specs.Syntax.{atom_of}
use Rattle.sort_core.specs.Opens.{number_named}
use Rattle.making_core.proofs.grammars.children_of.Given as goal

-- what is left makes the rest
abbrev pub invariant-loop-form : goal.invariant-loop-form
invariant-loop-form l =
    let child : Sexpr → NtId = λ arg. record { 0 = number_named l.nonterminals (atom_of arg).bytes } in
    l.made ++ map child (drop l.form-index l.forms) ≡ map child l.forms
