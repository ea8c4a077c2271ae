use Rattle.std.proofs.Common.{refl}
use Rattle.ira_main.proofs.draw_files.draw_command.Goals as goal

pub returns : goal.returns
returns c = (c.in_ok-form.form, c.moment_of.result, c.in_ok-form.ensures, c.moment_of.ensures, refl)
