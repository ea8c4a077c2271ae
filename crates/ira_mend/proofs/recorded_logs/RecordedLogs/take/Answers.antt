use Rattle.std.proofs.Common.{◌++◌, ◌∷◌, [], subst, sym}
use Rattle.ira_audit.proofs.Zipped.{zipped_more}
use Rattle.ira_mend.specs.RecordedLogs.{HasRecorded, IsRecordOf}
use Rattle.ira_mend.proofs.recorded_logs.RecordedLogs.take.Goals as goal

pub returns-clause-ok : goal.returns-clause-ok
returns-clause-ok g c = λ texts has.
    let before = subst (λ rs. HasRecorded rs texts) (sym c.self.view_is) has in
    let more = zipped_more IsRecordOf texts c.self.inside.recorded.items c.args.text.now c.in_ok-of_text.field-0 before
    c.in_ok-of_text.ensures in
    subst (λ rs. HasRecorded rs (texts ++ c.args.text.now ∷ [])) (sym c.in_ok-push.ensures.items) more
