-- What is explained of a question.
use Rattle.std.specs.Prelude.{◌≡◌, ℕ, List, [], ◌∷◌, ◌++◌, Option, None, Some, codes, length, slice_get, take}
use Rattle.std.specs.List.{AllZip}
use Rattle.ira_pred.specs.Case.{Conjunct}
use Rattle.ira_pred.specs.declared.ask_fault.AskFault.{AskFault}
use Rattle.ira_cert_text.specs.Certificate.{Section}
use Rattle.ira_cert.specs.declared.section_fault.SectionFault.{SectionFault}
use Rattle.ira_elim.specs.declared.found.Found.{Found}
use Rattle.ira_audit.specs.AskedQuestion.{AskedQuestion}
use Rattle.ira_audit.specs.declared.findings.Findings.{Findings}
use Rattle.ira_audit.specs.declared.findings.Findings.TheVariants.{Cases, Refused}
use Rattle.ira_audit.specs.declared.reason.Reason.{Reason}
use Rattle.ira_audit.specs.declared.reason.Reason.TheVariants.{Certificate}
use Rattle.ira_audit.specs.declared.reason.Reason.TheVariants as reason
use Rattle.ira_view_page.specs.declared.evidence.Evidence.{Evidence}
use Rattle.ira_view_page.specs.declared.evidence.Evidence.TheVariants.{Line}
use Rattle.ira_view_page.specs.declared.explanation.Explanation.{Explanation}
use Rattle.ira_view_page.specs.declared.named_text.NamedText.{NamedText}
use Rattle.ira_view_page.specs.declared.page.Emphasis.TheVariants.{Named}
use Rattle.ira_view_page.specs.declared.quoted_line.QuotedLine.{QuotedLine}
use Rattle.ira_view_page.specs.Lines.{IsLine}
use Rattle.ira_view_page.specs.Counts.{counts}
use Rattle.ira_view_page.specs.Parts.{AreParts}
use Rattle.ira_view_page.specs.TextStop.{IsStopTold, TellsStop}
use Rattle.ira_view_page.specs.declared.text_stop.TextStop.{TextStop}
use Rattle.ira_view_explain_question.specs.declared.asked_files.AskedFiles.{AskedFiles}
use Rattle.ira_view_explain_question.specs.declared.section_finding.SectionFinding.{SectionFinding}
use Rattle.ira_view_explain_question.specs.AskedLines.{line_text}
use Rattle.ira_view_explain_question.specs.CertificateFinding.{IsCertificateStop}
use Rattle.ira_view_explain_question.specs.ChosenCases.{chosen_cases, rest_text}
use Rattle.ira_view_explain_question.specs.ExplainedCase.{IsCaseOf, TellsCaseOf}
use Rattle.ira_view_explain_question.specs.QuestionFinding.{IsQuestionStop}
use Rattle.ira_view_explain_question.specs.SectionFinding.{IsSectionFinding, IsSectionTold, section_text}
use Rattle.ira_view_page.specs.PointedLine.{IsQuoted}

-- the first eight chosen cases are explained, in their order, on the page and as values, and nothing else is
pub record AreCasesExplained {A : Type 0} (files : AskedFiles) (asked : AskedQuestion) (found : List (Found A))
    (case : Option ℕ) (explanation : Explanation A) : Type 0 where
  pub ring : explanation.ring ≡ Some (counts asked.logs)
  pub state_before : explanation.state_before ≡ None
  pub evidence : explanation.evidence.items ≡ []
  pub hints : explanation.hints.items ≡ []
  pub cases : AllZip (IsCaseOf files.question.now asked) (take 8 (chosen_cases case found)) explanation.cases.items
  pub lines : List ℕ
  pub told : AreParts (TellsCaseOf files asked found) (take 8 (chosen_cases case found)) lines
  pub page : explanation.page
      ≡ lines ++ rest_text case (length (chosen_cases case found)) (length asked.question.cases)

-- the same of all findings; there are none of a question that isn't asked
abbrev pub AreFindingsExplained : {A : Type 0} → AskedFiles → AskedQuestion → Findings A → Option ℕ → Explanation A
    → Type 0
AreFindingsExplained files asked (Cases nodes found) case explanation =
    AreCasesExplained files asked found.items case explanation
AreFindingsExplained files asked (Refused reason) case explanation = ⊥

-- a text is explained that is no question's or no certificate's
pub record IsStopExplained {A : Type 0} (file : NamedText) (stop : TextStop) (explanation : Explanation A)
    : Type 0 where
  pub state_before : explanation.state_before ≡ None
  pub one : Evidence A
  pub evidence : explanation.evidence.items ≡ one ∷ []
  pub one_is : IsStopTold file stop one
  pub lines : List ℕ
  pub tells : TellsStop file (codes "two") stop lines
  pub more : List ℕ
  pub page : explanation.page ≡ codes "\n" ++ lines ++ more

-- it is explained that a file is of a ring of another size than the logs: by its second line, after which others may
-- come
pub record IsSizeExplained {A : Type 0} (file : NamedText) (explanation : Explanation A) : Type 0 where
  pub state_before : explanation.state_before ≡ None
  pub line : QuotedLine A
  pub is_line : IsQuoted file 2 line
  pub others : List (Evidence A)
  pub evidence : explanation.evidence.items ≡ Line line ∷ others
  pub hints : explanation.hints.items ≡ []
  pub bytes : List ℕ
  pub are_bytes : IsLine file.text.now 2 bytes
  pub more : List ℕ
  pub page : explanation.page ≡ codes "\n" ++ line_text Named file.name.now 2 bytes ++ more

-- it is explained why a file with this fault has no question
abbrev pub IsNoQuestionExplained : {A : Type 0} → NamedText → AskFault → Explanation A → Type 0
IsNoQuestionExplained file fault explanation =
    (stop : TextStop) × IsQuestionStop file.text.now fault stop × IsStopExplained file stop explanation

-- it is explained why a file has no certificate for the ring of a question
abbrev pub IsNoCertificateExplained : {A : Type 0} → NamedText → Reason → Explanation A → Type 0
IsNoCertificateExplained file (Certificate fault) explanation =
    (stop : TextStop) × IsCertificateStop file.text.now fault stop × IsStopExplained file stop explanation
IsNoCertificateExplained file reason explanation = IsSizeExplained file explanation

-- it is explained why the section of a case isn't sound
pub record IsSectionExplained {A : Type 0} (asked : AskedQuestion) (file : List ℕ) (sections : List Section)
    (number : ℕ) (fault : SectionFault) (explanation : Explanation A) : Type 0 where
  pub state_before : explanation.state_before ≡ None
  pub case : List Conjunct
  pub is_case : slice_get asked.question.cases number ≡ Some case
  pub finding : SectionFinding
  pub is_finding : IsSectionFinding asked.logs case sections number fault finding
  pub told : IsSectionTold file finding explanation.evidence.items
  pub hints : explanation.hints.items ≡ []
  pub more : List ℕ
  pub page : explanation.page ≡ codes "\n" ++ section_text file finding ++ more

-- it is explained why the sections of a certificate's file of this name don't answer a question
abbrev pub IsUnsoundExplained : {A : Type 0} → AskedQuestion → List ℕ → List Section → Reason → Explanation A
    → Type 0
IsUnsoundExplained asked file sections (reason.Section number fault) explanation =
    IsSectionExplained asked file sections number fault explanation
-- of another number of sections than are due nothing is told besides
IsUnsoundExplained asked file sections _ explanation =
    (explanation.state_before ≡ None) × (explanation.evidence.items ≡ [])
