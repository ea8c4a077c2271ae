-- What comes of explaining what is found for a question.
use Rattle.std.specs.Prelude.{ℕ, Option}
use Rattle.ira_audit.specs.Judged.{IsJudged}
use Rattle.ira_audit.specs.declared.findings.Findings.{Findings}
use Rattle.ira_audit.specs.declared.judged.Judged.{Judged}
use Rattle.ira_view_page.specs.declared.explanation.Explanation.{Explanation}
use Rattle.ira_view_explain_question.specs.declared.asked_files.AskedFiles.{AskedFiles}
use Rattle.ira_view.specs.Explained.{IsFindingsExplanation}
use Rattle.ira_view.specs.Status.{IsFindingsStatus}
use Rattle.ira_view.specs.Texts.{texts_of}
use Rattle.ira_view.specs.ViewText.{IsFindingsViewText}
use Rattle.ira_view.specs.declared.status.Status.{Status}
use Rattle.ira_view.specs.declared.form.Form.{Form}
use Rattle.ira_commands.specs.Reply.{Prints, Reply}

-- findings are printed with this explanation: as JSON, or their lines and the page, which is
-- printable; the status is that of the findings
abbrev pub PrintsFindings : {A : Type 0} → Form → Findings A → Explanation A → Reply → Type 0
PrintsFindings form findings explanation reply =
    (status : Status) × IsFindingsStatus findings status
    × Prints (IsFindingsViewText form findings explanation) status reply

-- what is found for a question about logs, in these files, is explained: for the case of a number, or for the first ones
abbrev pub ExplainsFindings : {A : Type 0} → Form → Option ℕ → AskedFiles → Findings A → Reply → Type 0
ExplainsFindings {A} form case files findings reply =
    (explanation : Explanation A) × (judged : Judged A) × IsJudged (texts_of files.logs.now) judged
    × IsFindingsExplanation files judged case findings explanation × PrintsFindings form findings explanation reply
