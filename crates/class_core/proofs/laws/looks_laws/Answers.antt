use Rattle.class_core.proofs.Counting.{looks_rise, no_looks, one_looks}
use Rattle.class_core.proofs.laws.looks_laws.Goals as goal

pub returns-clause-one : goal.returns-clause-one
returns-clause-one g c = λ grammar. one_looks grammar (g.L.Lens.same_mark c.args._lens.now) (g.L.Lens.is_plain c.args._lens.now)

pub returns-clause-none : goal.returns-clause-none
returns-clause-none g c = λ grammar. no_looks grammar (g.L.Lens.same_mark c.args._lens.now) (g.L.Lens.is_plain c.args._lens.now)

pub returns-clause-rise : goal.returns-clause-rise
returns-clause-rise g c = λ grammar. looks_rise grammar (g.L.Lens.same_mark c.args._lens.now) (g.L.Lens.is_plain c.args._lens.now)
