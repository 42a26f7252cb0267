-- What commands are read as, where they are more than flat lists.
use Rattle.sexpr_core.specs.declared.form.Sexpr.{Sexpr}
use Rattle.sexpr_core.specs.Access.{item_of}
use Rattle.syntax_core.specs.declared.commands.Head.{Head}
use Rattle.syntax_core.specs.declared.commands.Head.TheVariants.{SetInfo, DeclareTermTypes, DefineFunsRec, SynthFun, Constraint, CheckSynth}
use Rattle.syntax_core.specs.Syntax.{calls_of, deepest, functions_of}
use Rattle.name_core.specs.declared.command_faults.Reading.{Reading}
use Rattle.name_core.specs.declared.command_faults.Reading.TheVariants.{Flat, Functions, Calls}

abbrev pub reading_of : Head → Sexpr → Reading
reading_of SetInfo form = Flat
reading_of DeclareTermTypes form = Flat
reading_of DefineFunsRec form = Functions (functions_of form)
reading_of SynthFun form = Flat
reading_of Constraint form = Calls (calls_of deepest (item_of 1 form))
reading_of CheckSynth form = Flat
