-- What is found for a question that is asked of the ring of logs.
use Rattle.std.proofs.Common.{◌≡◌, ℕ, List, Err, IfOk, Ok, Option, Result, Some}
use Rattle.ira_cert_text.specs.Certificate.{Certificate}
use Rattle.ira_audit.specs.AskedQuestion.{AreFoundOf, AskedQuestion}
use Rattle.ira_audit.specs.Findings.{AreFindings, AreReportable}
use Rattle.ira_audit.specs.QuestionFitsLogs.{QuestionFitsLogs}
use Rattle.ira_audit.specs.declared.findings.Findings.{Findings}
use Rattle.ira_audit.specs.declared.findings.Findings.TheVariants.{Refused, Cases}
use Rattle.ira_audit.specs.declared.judged.Judged.{Judged}
use Rattle.ira_view_page.specs.Counts.{counts}
use Rattle.ira_view_explain_question.specs.Explanation.{AreFindingsExplained}
use Rattle.ira_view_explain_question.specs.declared.asked_files.AskedFiles.{AskedFiles}
use Rattle.ira_view_page.specs.declared.named_text.NamedText.{NamedText}
use Rattle.ira_view.specs.Explained.{IsAsked, IsCheckExplanation, IsFindingsExplanation, IsPosed, IsSectionsExplanation}
use Rattle.ira_view.specs.Explained.IsCheckExplanation.{of_sections}
use Rattle.ira_view.specs.Explained.IsFindingsExplanation.{of_asked}
use Rattle.ira_view.specs.declared.findings_view.FindingsView.{FindingsView}
use Rattle.ira_view.specs.declared.view.View.{View}

pub found_of_asked : {A : Type 0} (texts : List (List ℕ)) (question : List ℕ) (asked : AskedQuestion)
    (findings : Findings A) → QuestionFitsLogs texts question asked.logs asked.question → AreFoundOf asked findings
    → AreFindings texts question findings × AreReportable findings
found_of_asked texts question asked (Refused r) fits found = absurd found
found_of_asked texts question asked (Cases nodes found) fits h = ((asked.logs, asked.question, fits, h.0, h.1), tt)

-- what is found for a question that is asked is explained
pub findings_explained : {A E : Type 0} (files : AskedFiles) (judged : Judged A) (case : Option ℕ)
    (asked : AskedQuestion) (r : Result (FindingsView A) E) → IsAsked files asked
    → IfOk r (λ view. AreFindingsExplained files asked view.findings case view.explanation)
    → IfOk r (λ view. IsFindingsExplanation files judged case view.findings view.explanation)
findings_explained files judged case asked (Ok view) fits explained = of_asked asked fits explained
findings_explained files judged case asked (Err f) fits explained = tt

-- so is the answer to one with a certificate for its ring
pub check_explained : {A E : Type 0} (files : AskedFiles) (certificate : NamedText) (judged : Judged A)
    (asked : AskedQuestion) (read : Certificate) (r : Result (View A) E)
    → IsPosed files certificate.text.now asked read → IfOk r (λ view. view.explanation.ring ≡ Some (counts asked.logs))
    → IfOk r (λ view.
    IsSectionsExplanation asked certificate.name.now read.sections view.answer view.explanation)
    → IfOk r (λ view. IsCheckExplanation files certificate judged view.answer view.explanation)
check_explained files certificate judged asked read (Ok view) posed ring why = of_sections asked read posed ring why
check_explained files certificate judged asked read (Err f) posed ring why = tt
