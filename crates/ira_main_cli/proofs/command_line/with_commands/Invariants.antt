use Rattle.std.proofs.Common.{◌≡◌, take}
use Rattle.std.specs.Prelude.{fold}
use Rattle.clap.specs.Words.{app_of}
use Rattle.ira_main_cli.specs.CommandEntry.{with_entry}
use Rattle.ira_main_cli.proofs.command_line.with_commands.Given as goal

abbrev pub invariant-loop-entry : goal.invariant-loop-entry
invariant-loop-entry l =
    app_of l.command ≡ fold with_entry (app_of l.initial.command) (take l.entry-index l.entries)
