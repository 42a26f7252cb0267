-- The task that a command is.
use Rattle.semgus_app.specs.declared.command.Command.{Command}
use Rattle.semgus_app.specs.declared.command.Command.TheVariants as command
use Rattle.semgus_app.specs.Tasks.{Task, solve, show, check}

abbrev pub task_of : Command → Task
task_of (command.Solve file height size) = solve file.now height size
task_of (command.Show file) = show file.now
task_of (command.Check file answer height) = check file.now answer.now height
