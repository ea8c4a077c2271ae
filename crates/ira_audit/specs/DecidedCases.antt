-- What is found for the cases of a question, of which no section is kept: its steps are counted.
use Rattle.std.specs.Prelude.{◌≡◌, ◌↔◌, ◌++◌, ◌∷◌, [], ℕ, Bool, List, Option, Some, IsFalse, IsTrue, MatchOption}
use Rattle.std.specs.Prelude.{length, map}
use Rattle.ira_event.specs.Log.{Log}
use Rattle.ira_pred.specs.Case.{Conjunct}
use Rattle.ira_cert_text.specs.Certificate.{Certificate, Section}
use Rattle.ira_cert_text.specs.CertDraft.{IsDraft}
use Rattle.ira_cert_text.specs.CertText.{IsCertText, cert_text}
use Rattle.ira_cert_text.specs.declared.cert_draft.CertDraft.{CertDraft}
use Rattle.ira_elim.specs.declared.decided.Decided.{Decided}
use Rattle.ira_elim.specs.declared.decided.Decided.TheVariants as decided
use Rattle.ira_elim.specs.Found.{IsFound}
use Rattle.ira_elim.specs.declared.found.Found.{Found}
use Rattle.ira_elim.specs.declared.found.Found.TheVariants.{Absent, Present}
use Rattle.ira_audit.specs.Findings.{HasPresent, IsCertificateOf, MakeNoCertificate}
use Rattle.ira_audit.specs.declared.findings.Findings.{Findings}
use Rattle.ira_audit.specs.declared.findings.Findings.TheVariants.{Refused, Cases}
use Rattle.ira_audit.specs.declared.decided_cases.DecidedCases.{DecidedCases}
use Rattle.ira_audit.specs.declared.cases_draft.CasesDraft.{CasesDraft}

-- what is found of a case, with the steps counted
abbrev pub counted : {A : Type 0} → Found A → Decided ℕ A
counted (Absent section) = decided.Absent (length section.steps) section.spent
counted (Present cut) = decided.Present cut

-- the findings are for the cases of a ring of so many nodes, and this is found of them, with the steps counted
abbrev pub AreCounted : {A : Type 0} → Findings A → ℕ → List (Decided ℕ A) → Type 0
AreCounted (Refused r) nodes cases = ⊥
AreCounted (Cases n found) nodes cases = (nodes ≡ n) × (cases ≡ map counted found.items)

-- they are what is found for each case of a ring of so many nodes, and this is their list
abbrev pub AreOfCases : {A : Type 0} → ℕ → List (Found A) → Findings A → Type 0
AreOfCases nodes found (Refused r) = ⊥
AreOfCases nodes found (Cases n list) = (n ≡ nodes) × (list.items ≡ found)

-- this is kept of the findings: what is found of each case, with the steps counted, and whether each is absent; where it
-- is asked for and they are, the text of the certificate that they make, unless it is past the limits
pub record AreDecided {A : Type 0} (certify : Bool) (findings : Findings A) (d : DecidedCases A) : Type 0 where
  pub cases : AreCounted findings d.nodes d.cases.items
  pub absent : IsFalse d.are_absent ↔ MakeNoCertificate findings
  pub certificate :
      IsTrue certify → IsTrue d.are_absent
      → (c : Certificate) × IsCertificateOf findings c
      × MatchOption d.certificate (¬ (IsCertText (cert_text c) c)) (λ text. (text.bytes ≡ cert_text c)
      × IsCertText (cert_text c) c)

-- whether each case so far is absent, and, where a certificate is asked for and they are, its text so far
pub record IsCertifying {A Z : Type 0} (nodes : ℕ) (certify : Bool) (found : List (Found A)) (are_absent : Bool)
    (certificate : Option (CertDraft Z)) : Type 0 where
  pub absent : IsFalse are_absent ↔ HasPresent found
  pub sections_are :
      IsTrue certify → IsTrue are_absent
      → (draft : CertDraft Z) × (sections : List Section) × (certificate ≡ Some draft) × IsDraft nodes draft sections
      × (found ≡ map Absent sections)

-- what is found of the case, the same counted, and the certificate with it
abbrev pub IsAdded : {A Z : Type 0} → List Log → List Conjunct → ℕ → Bool → List (Found A) → Decided ℕ A → Bool
    → Option (CertDraft Z) → Type 0
IsAdded logs case nodes certify found decided are_absent certificate =
    (next : Found _) × IsFound logs case next × (decided ≡ counted next)
    × IsCertifying nodes certify (found ++ next ∷ []) are_absent certificate

-- what is kept while the cases are decided: besides that, what was found of each
pub record AreDrafted {A : Type 0} (nodes : ℕ) (certify : Bool) (found : List (Found A)) (draft : CasesDraft A)
    : Type 0 where
  pub nodes_are : draft.nodes ≡ nodes
  pub cases_are : draft.cases.items ≡ map counted found
  pub certifying : IsCertifying nodes certify found draft.are_absent draft.certificate
