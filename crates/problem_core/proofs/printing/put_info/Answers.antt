use Rattle.std.proofs.Common.{◌++◌, ◌∙◌, ap}
use Rattle.problem_core.specs.Texts.{value_text}
use Rattle.problem_core.proofs.Lines.{info_text}
use Rattle.problem_core.proofs.Loops.{pieces4}
use Rattle.problem_core.proofs.printing.put_info.Goals as goal

pub returns : goal.returns
returns c = pieces4 c.args.out.now _ _ _ _ c.in_ok-append.ensures.ok (c.in_ok-append-2.ensures.ok ∙ ap (λ key. c.append.new.self ++ key) c.as_slice.ensures)
    (c.in_ok-put_info_value.ensures ∙ ap (λ value. c.append-2.new.self ++ value_text value) c.as_slice-2.ensures) c.in_ok-append-3.ensures.ok (info_text c.args.info.now)
