use Rattle.std.proofs.Common.{◌≡◌, inl, inr}
use Rattle.clap.proofs.TakesLemmas.{passed_up}
use Rattle.clap.specs.Words.{found_of, rows_of}
use Rattle.ira_main_cli.proofs.Requests.{not_both}
use Rattle.ira_main_cli.specs.Asked.{NamesAnswer}
use Rattle.ira_main_cli.specs.declared.options_fault.OptionsFault.TheVariants as options
use Rattle.ira_main_cli.proofs.command_line.explained_answer.Goals as goal

pub returns-in_err-log_source-in-None-text-2-clause-refused :
    goal.returns-in_err-log_source-in-None-text-2-clause-refused
returns-in_err-log_source-in-None-text-2-clause-refused c =
    passed_up c.from_residual-in_err-log_source-in-None-text-2.result c.in_err-log_source-in-None-text-2.field-0.0
    (λ why. NamesAnswer (rows_of (found_of c.args.matches.now)) → why ≡ options.OutOfMemory)
    c.from_residual-in_err-log_source-in-None-text-2.ensures.1 (λ names. elim names.asked_of_logs [
      | inl out ↦ absurd (not_both (rows_of (found_of c.args.matches.now)) c.in-Some-2.question
          (rw c.in-Some-2.is at c.in_ok-question_source.ensures.found) out)
      | inr logs ↦ c.in_err-log_source-in-None-text-2.ensures.refused logs
    ])
