use Rattle.std.proofs.Common.{Err, refl, subst}
use Rattle.ira_audit.proofs.RefusedTexts.{sections_judged}
use Rattle.ira_audit.specs.CheckAnswer.{yes}
use Rattle.ira_audit.specs.declared.refusal.Refusal.TheVariants.{No}
use Rattle.ira_cert_text.specs.Certificate.{Certificate}
use Rattle.ira_view_explain_question.specs.Explanation.{IsUnsoundExplained}
use Rattle.ira_view.specs.Texts.{texts_of}
use Rattle.ira_view.proofs.certified.explain_sections.Goals as goal

pub returns-in_ok-explain_sound-in-Ok : goal.returns-in_ok-explain_sound-in-Ok
returns-in_ok-explain_sound-in-Ok g c =
    let asked = c.args.asked.now in
    let posed = c.requires in
    let sound = c.in-Ok.ensures in
    record {
      answer = yes asked.logs asked.question c.args.read.now posed.0 posed.1 posed.2 sound refl;
      reportable = tt;
      ring = c.in_ok-explain_sound-in-Ok.ensures.ring;
      explained = (
        sound,
        c.in_ok-explain_sound-in-Ok.ensures.state,
        c.in_ok-explain_sound-in-Ok.ensures.evidence,
      );
    }

pub returns-in_ok-explain_unsound-in-Err-No : goal.returns-in_ok-explain_unsound-in-Err-No
returns-in_ok-explain_unsound-in-Err-No g c =
    let asked = c.args.asked.now in
    let posed = c.requires in
    let why = rw c.in-Err-No.field-0-is at c.in-Err-No.ensures in
    let judged = sections_judged (texts_of c.args.files.logs.now) c.args.files.question.now.text.now
    c.args.certificate.now.text.now asked.logs asked.question posed.0 c.args.read.now posed.1 posed.2
    (Err (No c.in-Err-No.reason)) why in
    let unsound = subst (λ (read : Certificate). IsUnsoundExplained asked c.args.certificate.now.name.now
    read.sections c.in-Err-No.reason c.in_ok-explain_unsound-in-Err-No.field-0) c.read.view_is
    (rw c.deref-in-Err-No.ensures.value at c.in_ok-explain_unsound-in-Err-No.ensures.told) in
    record {
      answer = judged.0;
      reportable = judged.1;
      ring = c.in_ok-explain_unsound-in-Err-No.ensures.ring;
      explained = (why, unsound);
    }
