use Rattle.solve_core.proofs.Pruned as law
use Rattle.solve_core.proofs.laws.leaders_answer.Goals as goal

pub returns-clause-first : goal.returns-clause-first
returns-clause-first g c = λ problem h n t alike. law.first_is_leader problem h n (g.L.Lens.same_mark c.args._lens.now) alike t

pub returns-clause-answer : goal.returns-clause-answer
returns-clause-answer g c = λ problem for fits h n answer alike.
    law.leaders_answer problem h n (g.L.Lens.same_mark c.args._lens.now) alike fits (g.met.L.Lens.equals c.args._lens.now problem.signature for) answer
