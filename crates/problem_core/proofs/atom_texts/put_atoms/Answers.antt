use Rattle.std.proofs.Common.{◌++◌, ◌∙◌, ap}
use Rattle.std.specs.List.{flat_map}
use Rattle.problem_core.specs.Texts.{atom_form, next_text}
use Rattle.problem_core.proofs.Forms.{atoms_text}
use Rattle.problem_core.proofs.Loops.{pieces4}
use Rattle.problem_core.proofs.atom_texts.put_atoms.Goals as goal

pub returns : goal.returns
returns c = pieces4 c.args.out.now _ _ _ _ c.in_ok-push.ensures.ok c.in_ok-put_symbol.ensures.ok
    (c.in_ok-put_each_atom.ensures ∙ ap (λ atoms. c.put_symbol.new.out ++ flat_map (λ atom. next_text (atom_form c.args.signature.now c.args.rule.now atom)) atoms) c.as_slice-atoms.ensures)
    c.in_ok-push-2.ensures.ok (atoms_text c.args.signature.now c.args.rule.now)
