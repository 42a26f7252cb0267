use Rattle.class_core.proofs.Counting.{one_looks}
use Rattle.eval_core.specs.Alikeness.{AreAlike}
use Rattle.eval_core.specs.Lenses.{hands_on}
use Rattle.solve_core.proofs.Pruned.{alike_leaders_answer, alike_leaders_among}
use Rattle.solve_core.proofs.laws.alike_leaders.Goals as goal

pub returns : goal.returns
returns c = record {
  answer = λ problem h n answer fit. alike_leaders_answer problem fit h n answer;
  looks = λ problem bound. one_looks problem.grammar (AreAlike problem bound) (hands_on problem);
  candidates = λ problem bound fit. alike_leaders_among problem fit bound;
}
