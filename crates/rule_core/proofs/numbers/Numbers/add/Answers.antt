use Rattle.tables.proofs.Lists.{Keeps-undone}
use Rattle.rule_core.specs.Numbers.{same_pair}
use Rattle.rule_core.proofs.numbers.Numbers.add.Goals as goal

pub returns-then-is_err-clause-same_pairs : goal.returns-then-is_err-clause-same_pairs
returns-then-is_err-clause-same_pairs c =
    Keeps-undone same_pair c.args.self.now.pairs c.push.new.table c.pop.new.table (c.args.relation.0, c.args.con.0) c.args.number c.in_ok-push.ensures.ok c.pop.ensures

pub returns-then-is_err-2-clause-same_pairs : goal.returns-then-is_err-2-clause-same_pairs
returns-then-is_err-2-clause-same_pairs c =
    Keeps-undone same_pair c.args.self.now.pairs c.push.new.table c.pop-then-is_err-2-2.new.table (c.args.relation.0, c.args.con.0) c.args.number c.in_ok-push.ensures.ok c.pop-then-is_err-2-2.ensures
