use Rattle.std.specs.Prelude.{◌≤◌, drop}
use Rattle.problem_core.specs.Modes.{is_of}
use Rattle.problem_core.specs.Texts.{names_where, symbol_form}
use Rattle.problem_core.proofs.Loops.{Left}
use Rattle.problem_core.proofs.rule_texts.put_names_of_mode.Given as goal

abbrev pub invariant-loop-param : goal.invariant-loop-param
invariant-loop-param l =
    (l.place ≤ l.param-index) × Left symbol_form (names_where (is_of l.mode) l.params) l.place (names_where (is_of l.mode) (drop l.param-index l.params)) l.fn.out l.out
