use Rattle.std.proofs.Common.{◌∙◌}
use Rattle.problem_core.specs.Views.{parts}
use Rattle.example_shifts.proofs.Sound.{parts_same, parts_sound}
use Rattle.example_shifts.proofs.problem.whole.Goals as goal

pub new-requires-2 : goal.new-requires-2
new-requires-2 c =
    let sig = c.args.signature in
    let rules = c.args.rulebook in
    let grammar = c.in_ok-grammar.grammar in
    let wanted = c.in_ok-wanted.wanted in
    let constraints = c.args.constraints in
    let same = parts_same c.new.result sig rules grammar wanted constraints c.new.ensures c.requires.signature c.requires.rules c.in_ok-grammar.ensures.value c.in_ok-wanted.ensures c.requires.constraints in
    parts_sound (parts c.new.result sig rules grammar wanted constraints) sig grammar same c.requires.signature c.in_ok-grammar.ensures.value c.requires.well_formed c.requires.flows c.in_ok-grammar.ensures.fine c.in_ok-grammar.ensures.limits

pub returns : goal.returns
returns c =
    c.new-2.ensures
    ∙ parts_same c.new.result c.args.signature c.args.rulebook c.in_ok-grammar.grammar c.in_ok-wanted.wanted c.args.constraints c.new.ensures c.requires.signature c.requires.rules c.in_ok-grammar.ensures.value c.in_ok-wanted.ensures c.requires.constraints
