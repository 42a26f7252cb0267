use Rattle.rule_core.proofs.flow.fits.Goals as goal

pub returns-in-Test : goal.returns-in-Test
returns-in-Test c = rw (c.in-Test.is, ← c.requires.scope) c.has_sort.ensures
