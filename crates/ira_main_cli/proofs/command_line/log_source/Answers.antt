use Rattle.std.proofs.Common.{◌≡◌}
use Rattle.clap.proofs.TakesLemmas.{passed_up}
use Rattle.clap.specs.Words.{found_of, rows_of}
use Rattle.ira_main_cli.specs.Asked.{NamesLogs}
use Rattle.ira_main_cli.specs.declared.options_fault.OptionsFault.TheVariants as options
use Rattle.ira_main_cli.proofs.Requests.{named_once}
use Rattle.ira_main_cli.proofs.command_line.log_source.Goals as goal

pub returns-in_err-source-clause-refused : goal.returns-in_err-source-clause-refused
returns-in_err-source-clause-refused c =
    passed_up c.from_residual.result c.in_err-source.field-0.0
    (λ why. NamesLogs (rows_of (found_of c.args.matches.now)) → why ≡ options.OutOfMemory) c.from_residual.ensures.1
    (λ names. c.in_err-source.ensures.refused (named_once (rows_of (found_of c.args.matches.now)) names))
