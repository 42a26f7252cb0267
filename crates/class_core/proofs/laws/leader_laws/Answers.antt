use Rattle.class_core.proofs.Leading.{each_has_leader, none_without_leader}
use Rattle.class_core.proofs.Theory.{leaders_among}
use Rattle.class_core.proofs.laws.leader_laws.Goals as goal

pub returns-clause-among : goal.returns-clause-among
returns-clause-among g c = λ sig grammar for fits.
    leaders_among sig grammar (g.L.Lens.same_mark c.args._lens.now) (g.L.Lens.is_plain c.args._lens.now) (record { grammar_fits = fits; equals = g.met.L.Lens.equals c.args._lens.now sig for; congruent = g.met.L.Lens.congruent c.args._lens.now sig for })

pub returns-clause-none_without : goal.returns-clause-none_without
returns-clause-none_without g c = λ sig grammar for fits. none_without_leader sig grammar (g.L.Lens.same_mark c.args._lens.now) fits (g.met.L.Lens.equals c.args._lens.now sig for)

pub returns-clause-each : goal.returns-clause-each
returns-clause-each g c = λ sig grammar for fits. each_has_leader sig grammar (g.L.Lens.same_mark c.args._lens.now) fits (g.met.L.Lens.equals c.args._lens.now sig for)
