use Rattle.ira_main_cli.proofs.Commands.{adds_entry}
use Rattle.ira_main_cli.proofs.command_line.with_commands.Goals as goal

pub loop-entry-preserved : goal.loop-entry-preserved
loop-entry-preserved c =
    adds_entry _ _ _ _ _ _ _ c.loop-entry.invariant c.loop-entry-test.true c.in_ok-command.ensures
    c.in_ok-command-2.ensures
