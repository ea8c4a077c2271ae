-- A command of the program, as the parser of words reads it.
use Rattle.std.specs.Prelude.{fold}
use Rattle.clap.specs.Words.{App, new_app, with_rule, with_subcommand}
use Rattle.ira_main_cli.specs.Argument.{rule_of_argument}
use Rattle.ira_main_cli.specs.declared.command_entry.CommandEntry.{CommandEntry}

abbrev pub app_of_entry : CommandEntry → App
app_of_entry entry =
    fold (λ app argument. with_rule app (rule_of_argument argument)) (new_app entry.name.now) entry.arguments.now

-- with such a command below it
abbrev pub with_entry : App → CommandEntry → App
with_entry app entry = with_subcommand app (app_of_entry entry).top
