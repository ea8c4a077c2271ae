use Rattle.std.proofs.Common.{refl}
use Rattle.ira_view.specs.Texts.{texts_of}
use Rattle.ira_view.specs.Explained.IsFindingsExplanation.{not_asked}
use Rattle.ira_view.proofs.Asked.{findings_explained}
use Rattle.ira_view.proofs.question.explain_findings.Goals as goal

pub explain_asked-requires : goal.explain_asked-requires
explain_asked-requires g c = c.in-Ok.ensures (texts_of c.args.files.logs.now) c.requires

pub explain_not_asked-requires-clause-reason : goal.explain_not_asked-requires-clause-reason
explain_not_asked-requires-clause-reason g c =
    rw c.in-Err-No.field-0-is
    (rw c.in-Err-No.field-0-is at (c.in-Err-No.ensures (texts_of c.args.files.logs.now) c.requires))

pub returns-in_ok-explanation-in-Err-No-clause-found : goal.returns-in_ok-explanation-in-Err-No-clause-found
returns-in_ok-explanation-in-Err-No-clause-found g c =
    rw c.in-Err-No.field-0-is
    (rw c.in-Err-No.field-0-is at (c.in-Err-No.ensures (texts_of c.args.files.logs.now) c.requires)).0

pub returns-in_ok-explanation-in-Err-No-clause-reportable : goal.returns-in_ok-explanation-in-Err-No-clause-reportable
returns-in_ok-explanation-in-Err-No-clause-reportable g c =
    rw c.in-Err-No.field-0-is
    (rw c.in-Err-No.field-0-is at (c.in-Err-No.ensures (texts_of c.args.files.logs.now) c.requires)).1

pub returns-in-Ok-clause-explained : goal.returns-in-Ok-clause-explained
returns-in-Ok-clause-explained g c =
    findings_explained c.args.files c.args.judged.now c.args.case c.in-Ok.asked c.explain_asked.result
    (c.in-Ok.ensures (texts_of c.args.files.logs.now) c.requires)
    c.explain_asked.ensures.explained

pub returns-in_ok-explanation-in-Err-No-clause-explained : goal.returns-in_ok-explanation-in-Err-No-clause-explained
returns-in_ok-explanation-in-Err-No-clause-explained g c =
    not_asked _ refl (record {
      ring = c.in_ok-explanation-in-Err-No.ensures.ring;
      why = c.in_ok-explanation-in-Err-No.ensures.why;
    })
