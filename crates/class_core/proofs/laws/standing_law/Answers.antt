use Rattle.class_core.proofs.Growth.{classes_stay}
use Rattle.class_core.proofs.laws.standing_law.Goals as goal

pub returns : goal.returns
returns g c = λ grammar old new. classes_stay grammar old new (g.L.Lens.has_mark c.args._classes.now.lens) (g.L.Lens.same_mark c.args._classes.now.lens) g.L.Mark.Ord.cmp c.args._classes.now.leaders c.args._classes.now.marks.items
