use Rattle.std.proofs.Common.{◌≡◌, take}
use Rattle.std.specs.Prelude.{fold}
use Rattle.clap.specs.Words.{app_of, new_app, with_rule}
use Rattle.ira_main_cli.specs.Argument.{rule_of_argument}
use Rattle.ira_main_cli.proofs.command_entry.CommandEntry.command.Given as goal

abbrev pub invariant-loop-argument : goal.invariant-loop-argument
invariant-loop-argument l =
    app_of l.command ≡ fold (λ app argument. with_rule app (rule_of_argument argument)) (new_app l.self.name.now)
    (take l.argument-index l.argument-items)
