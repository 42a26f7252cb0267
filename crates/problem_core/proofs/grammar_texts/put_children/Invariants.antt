use Rattle.std.proofs.Common.{◌≡◌, ◌++◌, take}
use Rattle.std.specs.List.{flat_map}
use Rattle.grammar_core.specs.Grammars.{nonterminal_at}
use Rattle.problem_core.specs.Texts.{next_text, symbol_form}
use Rattle.problem_core.proofs.grammar_texts.put_children.Given as goal

abbrev pub invariant-loop-nt : goal.invariant-loop-nt
invariant-loop-nt l = l.out ≡ l.fn.out ++ flat_map (λ n. next_text (symbol_form (nonterminal_at l.grammar n).name)) (take l.nt-index l.args)
