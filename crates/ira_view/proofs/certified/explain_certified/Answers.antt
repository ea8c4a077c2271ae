use Rattle.std.proofs.Common.{refl}
use Rattle.ira_audit.proofs.RefusedTexts.{certificate_reason}
use Rattle.ira_audit.specs.CheckAnswer.{not_posed}
use Rattle.ira_view.specs.Explained.{IsPosed}
use Rattle.ira_view.specs.Explained.IsCheckExplanation.{no_certificate, not_asked}
use Rattle.ira_view.specs.Texts.{texts_of}
use Rattle.ira_view.proofs.Asked.{check_explained}
use Rattle.ira_view.proofs.certified.explain_certified.Goals as goal

pub explain_not_asked-requires-clause-reason : goal.explain_not_asked-requires-clause-reason
explain_not_asked-requires-clause-reason g c =
    rw c.in-Err-No.field-0-is at (c.in-Err-No.ensures (texts_of c.args.files.logs.now) c.requires)

pub returns-in-Err-No : goal.returns-in-Err-No
returns-in-Err-No g c =
    let why = rw c.in-Err-No.field-0-is at (c.in-Err-No.ensures (texts_of c.args.files.logs.now) c.requires) in
    record {
      answer = not_posed c.in-Err-No.reason why.0 refl;
      reportable = why.1;
      explained = not_asked c.in-Err-No.reason why refl (record {
        ring = c.in_ok-explain_not_asked-in-Err-No.ensures.ring;
        why = c.in_ok-explain_not_asked-in-Err-No.ensures.why;
      });
    }

pub explain_sections-requires : goal.explain_sections-requires
explain_sections-requires g c =
    let read = c.in-Ok-read_certificate.ensures in
    (c.in-Ok.ensures (texts_of c.args.files.logs.now) c.requires, read.0, read.1)

pub returns-in-Ok-read_certificate : goal.returns-in-Ok-read_certificate
returns-in-Ok-read_certificate g c =
    let files = c.args.files in
    let read = c.in-Ok-read_certificate.ensures in
    let posed : IsPosed files c.args.certificate.now.text.now c.in-Ok.asked c.in-Ok-read_certificate.read
    = (c.in-Ok.ensures (texts_of files.logs.now) c.requires, read.0, read.1) in
    record {
      answer = c.explain_sections.ensures.answer;
      reportable = c.explain_sections.ensures.reportable;
      explained = check_explained files c.args.certificate.now c.args.judged.now c.in-Ok.asked c.in-Ok-read_certificate.read
          c.explain_sections.result posed c.explain_sections.ensures.ring c.explain_sections.ensures.explained;
    }

pub returns-in_ok-explain_no_certificate-in-Err-No-read_certificate : goal.returns-in_ok-explain_no_certificate-in-Err-No-read_certificate
returns-in_ok-explain_no_certificate-in-Err-No-read_certificate g c =
    let posed = c.in-Ok.asked in
    let fits = c.in-Ok.ensures (texts_of c.args.files.logs.now) c.requires in
    let why = rw c.in-Err-No-read_certificate.field-0-is at c.in-Err-No-read_certificate.ensures in
    let judged = certificate_reason (texts_of c.args.files.logs.now) c.args.files.question.now.text.now
    c.args.certificate.now.text.now posed.logs posed.question fits c.in-Err-No-read_certificate.reason why in
    let explained = c.in_ok-explain_no_certificate-in-Err-No-read_certificate.ensures in
    record {
      answer = judged.0;
      reportable = judged.1;
      explained = no_certificate posed c.in-Err-No-read_certificate.reason fits why refl explained.ring explained.told;
    }
