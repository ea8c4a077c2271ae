-- What is found for texts that should be those of a ring's logs, and for a question that should be asked of
-- their ring; and the certificate that comes of what is found.
use Rattle.std.specs.Prelude.{◌≡◌, ℕ, Bool, true, false, List, Contains, length, map, ⊤}
use Rattle.std.specs.List.{AllZip}
use Rattle.ira_event.specs.Log.{Log}
use Rattle.ira_pred.specs.Question.{QuestionCases}
use Rattle.ira_cert_text.specs.Certificate.{Certificate}
use Rattle.ira_elim.specs.declared.found.Found.{Found}
use Rattle.ira_elim.specs.declared.found.Found.TheVariants.{Absent, Present}
use Rattle.ira_elim.specs.Found.{IsFound}
use Rattle.ira_audit.specs.declared.findings.Findings.{Findings}
use Rattle.ira_audit.specs.declared.findings.Findings.TheVariants.{Refused, Cases}
use Rattle.ira_audit.specs.QuestionFitsLogs.{QuestionFitsLogs, WhyNoQuestion}
use Rattle.ira_audit.specs.Report.{IsReportableReason}

-- the findings of the texts: why the question isn't posed, or the ring's size and what is found for each
-- case, in order
abbrev pub AreFindings : {A : Type 0} → List (List ℕ) → List ℕ → Findings A → Type 0
AreFindings texts question (Refused r) = WhyNoQuestion texts question r
AreFindings texts question (Cases nodes found) =
    (logs : List Log) × (asked : QuestionCases) × QuestionFitsLogs texts question logs asked × (nodes ≡ length logs)
    × AllZip (IsFound logs) asked.cases found.items

-- their certificate: each case is absent, and these are the sections that were found, in order
abbrev pub IsCertificateOf : {A : Type 0} → Findings A → Certificate → Type 0
IsCertificateOf (Refused r) c = ⊥
IsCertificateOf (Cases nodes found) c = (c.nodes ≡ nodes) × (found.items ≡ map Absent c.sections)

-- whether a case is present
abbrev pub is_present : {A : Type 0} → Found A → Bool
is_present (Absent section) = false
is_present (Present cut) = true

-- some case is present
abbrev pub HasPresent : {A : Type 0} → List (Found A) → Type 0
HasPresent found = (cut : List ℕ) × Contains found (Present cut)

-- they make none: they are a refusal, or a case is present
abbrev pub MakeNoCertificate : {A : Type 0} → Findings A → Type 0
MakeNoCertificate (Refused r) = ⊤
MakeNoCertificate (Cases nodes found) = HasPresent found.items

-- they don't hold that memory ran out
abbrev pub AreReportable : {A : Type 0} → Findings A → Type 0
AreReportable (Refused r) = IsReportableReason r
AreReportable (Cases nodes found) = ⊤
