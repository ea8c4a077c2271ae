use Rattle.ira_audit.proofs.Deciding.{found_asked}
use Rattle.ira_audit.specs.declared.findings.Findings.TheVariants.{Refused}
use Rattle.ira_view.proofs.Statuses.{refusal_text}
use Rattle.ira_commands.proofs.Served.{if_ok}
use Rattle.ira_commands.specs.Decide.PrintsDecided.{no_certificate}
use Rattle.ira_commands.proofs.decide.decide_asked.Goals as goal

pub of_answer_as-requires : goal.of_answer_as-requires
of_answer_as-requires g c = (rw c.in-Err-No.field-0-is at (c.in-Err-No.ensures c.requires.0 c.requires.1)).1

pub returns-in_ok-decided-in-Ok : goal.returns-in_ok-decided-in-Ok
returns-in_ok-decided-in-Ok g c = λ texts judged.
    let posed = c.in-Ok.ensures texts judged in
    let found = c.in_ok-decided-in-Ok.ensures in
    if_ok c.tell_decided.result (λ reply told. record {
      findings = found.0;
      found = (found_asked texts c.args.question.now c.in-Ok.asked posed found.0 found.1).0;
      told = told;
    }) (c.tell_decided.ensures found.0 found.2)

pub returns-in-Err-No : goal.returns-in-Err-No
returns-in-Err-No g c = λ texts judged.
    let why = rw c.in-Err-No.field-0-is at (c.in-Err-No.ensures texts judged) in
    if_ok c.of_answer_as.result (λ reply told. record {
      findings = Refused c.in-Err-No.reason;
      found = why.0;
      told = no_certificate tt (told.0, refusal_text g.row.A.Denot c.args.form c.in-Err-No.reason told.0 told.1, told.2);
    }) c.of_answer_as.ensures
