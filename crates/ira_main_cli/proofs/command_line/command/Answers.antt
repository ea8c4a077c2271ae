use Rattle.std.proofs.lemmas.Result.{IfOk-weaker}
use Rattle.ira_main_cli.proofs.Commands.{with_all}
use Rattle.ira_main_cli.proofs.command_line.command.Goals as goal

pub returns : goal.returns
returns c = IfOk-weaker c.with_commands.result _ _ (λ r has. with_all _ _ c.in_ok-top_command.ensures has)
    c.with_commands.ensures
