use Rattle.std.proofs.Common.{refl}
use Rattle.ira_main.proofs.show_command.show_command.Goals as goal

pub returns : goal.returns
returns c = (c.lines_of.result, c.moment_of.result, c.lines_of.ensures, c.moment_of.ensures, refl)
