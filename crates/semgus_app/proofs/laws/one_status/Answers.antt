use Rattle.semgus_app.proofs.Dues.{due_line, one_status}
use Rattle.semgus_app.proofs.laws.one_status.Goals as goal

pub returns : goal.returns
returns c = record { status = one_status; text = due_line }
