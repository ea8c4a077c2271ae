use Rattle.std.proofs.Common.{List, true}
use Rattle.ira_event.specs.Log.{Log}
use Rattle.ira_event.specs.Logs.{AreLogs}
use Rattle.ira_mend.specs.RecordedLogs.{AreLeftTexts, IsRecordedReason}
use Rattle.ira_audit.specs.Report.{IsReportableReason}
use Rattle.ira_view.specs.Texts.{texts_of}
use Rattle.ira_commands.proofs.LeftLogs.{refused_too}
use Rattle.ira_commands.specs.Begun.{AreBegunLogs}
use Rattle.ira_commands.proofs.begun.begin_left.Goals as goal

pub returns-in-Err : goal.returns-in-Err
returns-in-Err g c =
    let texts = texts_of c.args.files.now in
    refused_too {T = List Log} {U = List Log} c.in-Err.refusal (λ logs. AreLeftTexts true texts logs × AreLogs logs)
    (AreBegunLogs texts) (λ r. IsRecordedReason true texts r × IsReportableReason r)
    (c.in-Err.ensures texts c.in_ok-take_left.ensures)

pub returns : goal.returns
returns g c =
    let left = c.in-Ok.ensures (texts_of c.args.files.now) c.in_ok-take_left.ensures in
    record { logs = _; left = left.0; are = left.1; greatest = c.in_ok-greatest_beginning.ensures }
