-- What is told of texts beside their answer.
use Rattle.std.specs.Prelude.{◌≡◌, ℕ, List, [], ◌++◌, None, Option, Some, codes, length}
use Rattle.ira_event.specs.Log.{Log}
use Rattle.ira_cert_text.specs.Certificate.{Certificate, Section}
use Rattle.ira_cert_text.specs.CertText.{IsCertText}
use Rattle.ira_audit.specs.AskedQuestion.{AskedQuestion}
use Rattle.ira_audit.specs.CheckAnswer.{AreSound}
use Rattle.ira_audit.specs.QuestionFitsLogs.{QuestionFitsLogs}
use Rattle.ira_audit.specs.Refusal.{IsCertificateRefusal, IsFindingsReason, IsSectionsRefusal}
use Rattle.ira_audit.specs.declared.answer.Answer.{Answer}
use Rattle.ira_audit.specs.declared.answer.Answer.TheVariants.{No, Yes}
use Rattle.ira_audit.specs.declared.findings.Findings.{Findings}
use Rattle.ira_audit.specs.declared.findings.Findings.TheVariants.{Refused}
use Rattle.ira_audit.specs.declared.judged.Judged.{Judged}
use Rattle.ira_audit.specs.declared.judged.Judged.TheVariants.{Good, NoRing}
use Rattle.ira_audit.specs.declared.judged.Judged.TheVariants.{Refused as JudgedRefused}
use Rattle.ira_audit.specs.declared.reason.Reason.{Reason}
use Rattle.ira_audit.specs.declared.reason.Reason.TheVariants.{Question, QuestionSize}
use Rattle.ira_view_page.specs.declared.explanation.Explanation.{Explanation}
use Rattle.ira_view_page.specs.declared.named_text.NamedText.{NamedText}
use Rattle.ira_view_page.specs.Counts.{counts}
use Rattle.ira_view_explain.specs.Counts.{ring_of}
use Rattle.ira_view_election.specs.Election.{Standing, standing_text}
use Rattle.ira_view_election.specs.ElectionAt.{StandsAt}
use Rattle.ira_view_moment.specs.Moment.{whole_cut}
use Rattle.ira_view_explain.specs.LogTold.{IsLogTold}
use Rattle.ira_view_explain.specs.Refused.{IsTold}
use Rattle.ira_view_explain_question.specs.declared.asked_files.AskedFiles.{AskedFiles}
use Rattle.ira_view_explain_question.specs.Explanation.{AreFindingsExplained, IsNoCertificateExplained}
use Rattle.ira_view_explain_question.specs.Explanation.{IsNoQuestionExplained, IsSizeExplained, IsUnsoundExplained}
use Rattle.ira_view.specs.Texts.{texts_of}

-- of the text of one log alone, which has this answer: the evidence for it
pub record IsLogExplanation {A : Type 0} (file : NamedText) (answer : Answer) (explanation : Explanation A)
    : Type 0 where
  pub ring : explanation.ring ≡ None
  pub told : IsLogTold file answer explanation.state_before explanation.evidence.items

-- a page ends with how an election stands, below an empty line
pub record EndsWithElection (standing : Standing) (page : List ℕ) : Type 0 where
  pub above : List ℕ
  pub text : page ≡ above ++ codes "\n" ++ standing_text standing

-- how the election stands when good logs end, at the end of the page too; nothing of others
abbrev pub TellsElection : {A : Type 0} → Judged A → Option Standing → List ℕ → Type 0
TellsElection (Good logs) (Some standing) page =
    StandsAt logs (whole_cut logs) standing × EndsWithElection standing page
TellsElection (Good logs) None page = ⊥
TellsElection (JudgedRefused refused) standing page = standing ≡ None
TellsElection (NoRing reason) standing page = standing ≡ None

-- of texts that were judged: how many nodes and events there are, the evidence for the answer, and how the election
-- stands
pub record IsExplanation {A : Type 0} (files : List NamedText) (judged : Judged A) (explanation : Explanation A)
    (standing : Option Standing) : Type 0 where
  pub ring : explanation.ring ≡ ring_of judged
  pub told : IsTold files judged explanation.state_before explanation.evidence.items
  pub election : TellsElection judged standing explanation.page

-- it is explained why a question isn't asked of the ring of these logs: by its own text, or else by theirs
abbrev pub IsNotAskedExplained : {A : Type 0} → AskedFiles → Judged A → Reason → Explanation A → Type 0
IsNotAskedExplained files (Good logs) (Question fault) explanation =
    IsNoQuestionExplained files.question.now fault explanation
IsNotAskedExplained files (Good logs) QuestionSize explanation =
    IsSizeExplained files.question.now explanation
IsNotAskedExplained files judged reason explanation =
    IsTold files.logs.now judged explanation.state_before explanation.evidence.items

-- the same of texts for which a question isn't asked, for this reason: by the question's file where the logs are good
pub record IsRefusal {A : Type 0} (files : AskedFiles) (judged : Judged A) (reason : Reason)
    (explanation : Explanation A) : Type 0 where
  pub ring : explanation.ring ≡ ring_of judged
  pub why : IsNotAskedExplained files judged reason explanation

-- this is the question in its file, as it is asked of the logs in theirs
abbrev pub IsAsked : AskedFiles → AskedQuestion → Type 0
IsAsked files asked =
    QuestionFitsLogs (texts_of files.logs.now) files.question.now.text.now asked.logs asked.question

-- of what is found for a question about texts that were judged: where it is asked of them, its cases
pub data IsFindingsExplanation {A : Type 0} (files : AskedFiles) (judged : Judged A) (case : Option ℕ)
    (findings : Findings A) (explanation : Explanation A) : Type 0 where
  of_asked :
      (asked : AskedQuestion) → IsAsked files asked
      → AreFindingsExplained files asked findings case explanation
      → IsFindingsExplanation files judged case findings explanation
  not_asked :
      (reason : Reason) → findings ≡ Refused reason → IsRefusal files judged reason explanation
      → IsFindingsExplanation files judged case findings explanation

-- the question in its file is asked of the ring of the logs, and this is the certificate of a text for that ring
abbrev pub IsPosed : AskedFiles → List ℕ → AskedQuestion → Certificate → Type 0
IsPosed files certificate asked read =
    IsAsked files asked × IsCertText certificate read × (read.nodes ≡ length asked.logs)

-- of the answer for the sections of a certificate's file of this name: nothing where they are sound, else why they
-- aren't
abbrev pub IsSectionsExplanation : {A : Type 0} → AskedQuestion → List ℕ → List Section → Answer → Explanation A
    → Type 0
IsSectionsExplanation asked file sections Yes explanation =
    AreSound asked.logs asked.question.cases sections × (explanation.state_before ≡ None)
    × (explanation.evidence.items ≡ [])
IsSectionsExplanation asked file sections (No reason) explanation =
    IsSectionsRefusal asked.logs asked.question.cases sections reason
    × IsUnsoundExplained asked file sections reason explanation

-- of an answer with a certificate: what comes of its sections, or why it is none for the ring of the question, or why
-- the question isn't asked of the texts
pub data IsCheckExplanation {A : Type 0} (files : AskedFiles) (certificate : NamedText) (judged : Judged A)
    (answer : Answer) (explanation : Explanation A) : Type 0 where
  of_sections :
      (asked : AskedQuestion) (read : Certificate) → IsPosed files certificate.text.now asked read
      → explanation.ring ≡ Some (counts asked.logs)
      → IsSectionsExplanation asked certificate.name.now read.sections answer explanation
      → IsCheckExplanation files certificate judged answer explanation
  no_certificate :
      (asked : AskedQuestion) (reason : Reason) → IsAsked files asked
      → IsCertificateRefusal certificate.text.now (length asked.logs) reason → answer ≡ No reason
      → explanation.ring ≡ Some (counts asked.logs) → IsNoCertificateExplained certificate reason explanation
      → IsCheckExplanation files certificate judged answer explanation
  not_asked :
      (reason : Reason) → IsFindingsReason (texts_of files.logs.now) files.question.now.text.now reason
      → answer ≡ No reason → IsRefusal files judged reason explanation
      → IsCheckExplanation files certificate judged answer explanation
