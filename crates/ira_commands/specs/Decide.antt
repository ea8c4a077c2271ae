-- What comes of deciding a question about logs.
use Rattle.std.specs.Prelude.{◌≡◌, ℕ, Bool, IsFalse, IsTrue, List, map, true}
use Rattle.ira_cert_text.specs.Certificate.{Certificate}
use Rattle.ira_cert_text.specs.CertText.{IsCertText, cert_text}
use Rattle.ira_audit.specs.DecidedCases.{counted}
use Rattle.ira_audit.specs.Findings.{AreFindings, IsCertificateOf, MakeNoCertificate}
use Rattle.ira_audit.specs.declared.findings.Findings.{Findings}
use Rattle.ira_audit.specs.declared.findings.Findings.TheVariants.{Cases}
use Rattle.ira_view.specs.ViewText.{IsFindingsText}
use Rattle.ira_view.specs.declared.form.Form.{Form}
use Rattle.ira_view_page.specs.Printable.{IsPrintable}
use Rattle.ira_commands.specs.DecidedLine.{IsDecidedLine}
use Rattle.ira_commands.specs.Reply.{Prints, Reply, printed, refused_after, with_files}
use Rattle.ira_commands.specs.Reply.MadeFiles.{one_text}
use Rattle.ira_commands.specs.declared.command_fault.CommandFault.TheVariants.{CertificatePastLimits}
use Rattle.ira_view.specs.declared.status.Status.TheVariants.{No, Yes}

-- the text of findings: their line, which is printable, where that is asked for; or else as of each case
abbrev pub IsDecidedText : {A : Type 0} → Form → Findings A → Bool → List ℕ → Type 0
IsDecidedText form (Cases nodes found) true text = IsDecidedLine (map counted found.items) text × IsPrintable text
IsDecidedText form findings is_brief text = IsFindingsText form findings text

-- findings are printed, in their line, in words or as JSON: with a no where they make no certificate, and else with a yes; then,
-- where it is wanted, the text of the certificate that they make is a file, unless it is past the limits, which is refused
pub data PrintsDecided {A : Type 0} (form : Form) (is_brief certify : Bool) (findings : Findings A) (reply : Reply) : Type 0 where
  no_certificate : MakeNoCertificate findings → Prints (IsDecidedText form findings is_brief) No reply
      → PrintsDecided form is_brief certify findings reply
  absent : IsFalse certify → ¬ (MakeNoCertificate findings) → Prints (IsDecidedText form findings is_brief) Yes reply
      → PrintsDecided form is_brief certify findings reply
  certified : IsTrue certify → (c : Certificate) (text : List ℕ) → IsCertificateOf findings c → IsCertText (cert_text c) c
      → IsDecidedText form findings is_brief text → reply ≡ with_files (printed Yes text) (one_text (cert_text c))
      → PrintsDecided form is_brief certify findings reply
  past_limits : IsTrue certify → (c : Certificate) (text : List ℕ) → IsCertificateOf findings c
      → ¬ (IsCertText (cert_text c) c) → IsDecidedText form findings is_brief text
      → reply ≡ refused_after text CertificatePastLimits → PrintsDecided form is_brief certify findings reply

-- what is found for texts and the text of a question is told
pub record DecidesTexts {A : Type 0} (Tells : Findings A → Reply → Type 0) (question : List ℕ) (texts : List (List ℕ))
    (reply : Reply) : Type 0 where
  pub findings : Findings A
  pub found : AreFindings texts question findings
  pub told : Tells findings reply
