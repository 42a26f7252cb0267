use Rattle.std.proofs.Common.{◌∙◌}
use Rattle.problem_core.proofs.Lines.{written}
use Rattle.problem_core.proofs.problem.Problem.print.Goals as goal

pub returns : goal.returns
returns c =
    written c.args.self.now c.infos.result.now c.signature-signature.result.now c.rulebook.result.now c.grammar.result.now c.as_slice-wanted.result.now c.constraints.result.now
    c.infos.ensures.value c.signature-signature.ensures.value c.rulebook.ensures.value c.grammar.ensures.value (c.as_slice-wanted.ensures ∙ c.wanted.ensures.value) c.constraints.ensures.value
    c.new-text.result c.put_infos.new.out c.put_declarations.new.out c.put_wanted.new.out c.put_constraints.new.out c.append.new.self
    c.new-text.ensures c.in_ok-put_infos.ensures c.in_ok-put_declarations.ensures c.in_ok-put_wanted.ensures c.in_ok-put_constraints.ensures c.in_ok-append.ensures.ok
