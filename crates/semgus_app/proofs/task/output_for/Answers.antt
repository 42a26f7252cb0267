use Rattle.std.proofs.Common.{◌≡◌, None, [], refl, sym, ap, subst}
use Rattle.semgus_app.specs.Commands.{task_of}
use Rattle.semgus_app.specs.Dues.{IsDue}
use Rattle.semgus_app.specs.Tasks.{Task, second_file}
use Rattle.semgus_app.proofs.Outputs.{single_output}
use Rattle.semgus_app.proofs.task.output_for.Goals as goal

pub returns-in_ok-solved-in-Solve-clause-output : goal.returns-in_ok-solved-in-Solve-clause-output
returns-in_ok-solved-in-Solve-clause-output g c = λ first judged read.
    (let is = sym (ap task_of c.in-Solve.is) in
    let d = c.in_ok-solved-in-Solve in
    single_output _ _ _ _ _ _ _ _ _ first (subst (λ (t : Task). second_file t ≡ None) is refl) read refl refl
    (subst (λ (t : Task). IsDue (record { problem = first; second = [] }) t d.field-0.status d.field-0.text) is (d.ensures (record { problem = first; second = [] }) _ judged)))

pub returns-in_ok-shown-in-Show-clause-output : goal.returns-in_ok-shown-in-Show-clause-output
returns-in_ok-shown-in-Show-clause-output g c = λ first judged read.
    (let is = sym (ap task_of c.in-Show.is) in
    let d = c.in_ok-shown-in-Show in
    single_output _ _ _ _ _ _ _ _ _ first (subst (λ (t : Task). second_file t ≡ None) is refl) read refl refl
    (subst (λ (t : Task). IsDue (record { problem = first; second = [] }) t d.field-0.status d.field-0.text) is (d.ensures (record { problem = first; second = [] }) _ judged)))
