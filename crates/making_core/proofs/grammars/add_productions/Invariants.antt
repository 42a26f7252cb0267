use Rattle.std.proofs.Common.{◌≡◌, map, drop}
use Rattle.making_core.specs.Fitting.{ProductionsFit, with_productions}
use Rattle.making_core.specs.Making.{production_of}
use Rattle.making_core.proofs.grammars.add_productions.Given as goal

-- what is left fits, and makes the rest
abbrev pub invariant-loop-form : goal.invariant-loop-form
invariant-loop-form l =
    (with_productions l.grammar l.nt (map (production_of l.signature l.nonterminals) (drop l.form-index l.forms))
    ≡ with_productions l.initial.grammar l.nt (map (production_of l.signature l.nonterminals) l.forms))
    × ProductionsFit l.signature l.grammar l.nt (map (production_of l.signature l.nonterminals) (drop l.form-index l.forms))
