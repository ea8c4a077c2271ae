use Rattle.ira_main_cli.proofs.Commands.{adds_argument}
use Rattle.ira_main_cli.proofs.command_entry.CommandEntry.command.Goals as goal

pub loop-argument-preserved : goal.loop-argument-preserved
loop-argument-preserved c =
    adds_argument _ _ _ _ _ _ _ c.loop-argument.invariant c.loop-argument-test.true c.arg.ensures
    c.in_ok-command.ensures
