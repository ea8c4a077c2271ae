-- The status and the text of findings.
use Rattle.std.proofs.Common.{◌≡◌, ◌↔◌, ℕ, Bool, true, false, List, inl, inr, refl}
use Rattle.std.specs.Prelude.{IsFalse, IsTrue}
use Rattle.ira_audit.specs.Findings.{MakeNoCertificate}
use Rattle.ira_audit.specs.declared.findings.Findings.{Findings}
use Rattle.ira_audit.specs.declared.answer.Answer.TheVariants.{No}
use Rattle.ira_audit.specs.declared.findings.Findings.TheVariants.{Refused}
use Rattle.ira_audit.specs.declared.reason.Reason.{Reason}
use Rattle.ira_view_json.proofs.LineTexts.{one_line}
use Rattle.ira_view.specs.Status.{IsFindingsStatus}
use Rattle.ira_view.specs.ViewText.{IsAnswerText, IsFindingsText}
use Rattle.ira_view.specs.declared.form.Form.{Form}
use Rattle.ira_view.specs.declared.form.Form.TheVariants.{Json, Words}
use Rattle.ira_view.specs.declared.status.Status.{Status}
use Rattle.ira_view.specs.declared.status.Status.TheVariants as status

-- the status is that of whether each case is absent
pub findings_status : {A : Type 0} (findings : Findings A) (are_absent : Bool) (s : Status)
    → (IsFalse are_absent ↔ MakeNoCertificate findings) → (IsTrue are_absent → s ≡ status.Yes)
    → (IsFalse are_absent → s ≡ status.No) → IsFindingsStatus findings s
findings_status findings true s absent when_absent when_met =
    inr (λ none. let never : IsFalse true = absent.1 none in cc, when_absent refl)
findings_status findings false s absent when_absent when_met = inl (absent.0 refl, when_met refl)

-- the answer of a reason is the text of a refusal
pub refusal_text : (A : Type 0) (form : Form) (reason : Reason) (text : List ℕ)
    → IsAnswerText form (No reason) text → IsFindingsText {A = A} form (Refused reason) text
refusal_text A Json reason text is = (status.No, inl (tt, refl), one_line _ text is)
refusal_text A Words reason text is = is
