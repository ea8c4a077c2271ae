-- All replies to a command have one status.
use Rattle.std.proofs.Common.{◌≡◌, ◌++◌, ◌⊎◌, ℕ, Bool, List, Option, ap, inl, inr, refl, subst, sym, ◌∙◌}
use Rattle.ira_event.specs.Log.{Log}
use Rattle.ira_audit.proofs.LogTexts.{one_list}
use Rattle.ira_audit.proofs.MadeCertificates.{made_or_none}
use Rattle.ira_audit.proofs.OneAnswer.{one_logs_answer}
use Rattle.ira_audit.proofs.OneAuditAnswer.{one_audit_answer}
use Rattle.ira_audit.specs.CheckAnswer.{IsCheckAnswer}
use Rattle.ira_audit.specs.Findings.{AreFindings, MakeNoCertificate}
use Rattle.ira_audit.specs.GoodLogs.{AreGoodLogs}
use Rattle.ira_audit.specs.RingAnswer.{IsRingAnswer, yes}
use Rattle.ira_audit.specs.declared.answer.Answer.{Answer}
use Rattle.ira_audit.specs.declared.answer.Answer.TheVariants as answer
use Rattle.ira_audit.specs.declared.findings.Findings.{Findings}
use Rattle.ira_audit.specs.declared.reason.Reason.{Reason}
use Rattle.ira_view_page.specs.declared.named_text.NamedText.{NamedText}
use Rattle.ira_view.specs.Status.{IsFindingsStatus, IsLeadsStatus, answer_status}
use Rattle.ira_view.specs.Texts.{texts_of}
use Rattle.ira_view.specs.declared.form.Form.{Form}
use Rattle.ira_view.specs.declared.form.Form.TheVariants.{Json, Words}
use Rattle.ira_view.specs.declared.status.Status.TheVariants.{No, Yes}
use Rattle.ira_commands.proofs.OneFindings.{make_none}
use Rattle.ira_commands.proofs.OneMeeting.{SaysMet, counted, one_met, one_of_two}
use Rattle.ira_commands.specs.Answers.{Answers}
use Rattle.ira_commands.specs.Decide.{PrintsDecided, absent, certified, no_certificate, past_limits}
use Rattle.ira_commands.specs.Expected as expect
use Rattle.ira_commands.specs.Explain.{ExplainsAll, alone, goes_on}
use Rattle.ira_commands.specs.ExplainExpected as explain
use Rattle.ira_commands.specs.Given.{Given}
use Rattle.ira_commands.specs.Laws.{Shows}
use Rattle.ira_commands.specs.Reply.{Reply}
use Rattle.ira_commands.specs.declared.expected.Expected.{Expected}
use Rattle.ira_commands.specs.declared.logs_command.LogsCommand.{LogsCommand}
use Rattle.ira_commands.specs.declared.logs_command.LogsCommand.TheVariants as asks

-- ---- an answer

-- the status is that of such an answer
abbrev Says : (Answer → Type 0) → Reply → Type 0
Says IsAnswer reply = (a : Answer) × IsAnswer a × (counted reply ≡ answer_status a)

one_said : (IsAnswer : Answer → Type 0) (a b : Reply) → ((x y : Answer) → IsAnswer x → IsAnswer y → x ≡ y)
    → Says IsAnswer a → Says IsAnswer b → counted a ≡ counted b
one_said IsAnswer a b one h k = h.2 ∙ ap answer_status (one h.0 k.0 h.1 k.1) ∙ sym k.2

explained : {A : Type 0} (form : Form) (texts : List (List ℕ)) (files : List NamedText) (reply : Reply)
    → texts_of files ≡ texts → ExplainsAll A form files reply → Says (IsRingAnswer texts) reply
explained form texts files reply same (alone a text told stops e) =
    (a, subst (λ ts. IsRingAnswer ts a) same told.judged, ap counted e)
explained form texts files reply same (goes_on a text more told on rest e) =
    (a, subst (λ ts. IsRingAnswer ts a) same told.judged, ap counted e)

-- ---- what is expected of them

-- they are good, and the status says whether that is so; or it is that of their answer, which is a no
abbrev JudgesMet : List (List ℕ) → Expected → Reply → Type 0
JudgesMet texts expected reply = ((logs : List Log) × AreGoodLogs texts logs × SaysMet logs expected reply)
    ⊎ ((r : Reason) × IsRingAnswer texts (answer.No r) × (counted reply ≡ No))

good_or_not : (texts : List (List ℕ)) (logs : List Log) (r : Reason) → AreGoodLogs texts logs
    → IsRingAnswer texts (answer.No r) → ⊥
good_or_not texts logs r good why =
    (let same = one_logs_answer texts answer.Yes (answer.No r) (yes logs good refl) why in cc)

one_judged : (texts : List (List ℕ)) (expected : Expected) (a b : Reply) → JudgesMet texts expected a
    → JudgesMet texts expected b → counted a ≡ counted b
one_judged texts expected a b (inl h) (inl k) =
    let same = one_list texts k.0 h.0 k.1.texts_are h.1.texts_are in
    one_met h.0 expected a b h.2 (subst (λ logs. SaysMet logs expected b) same k.2)
one_judged texts expected a b (inl h) (inr k) = absurd (good_or_not texts h.0 k.0 h.1 k.1)
one_judged texts expected a b (inr h) (inl k) = absurd (good_or_not texts k.0 h.0 k.1 h.1)
one_judged texts expected a b (inr h) (inr k) = h.2 ∙ sym k.2

expected_met : (form : Form) (expected : Expected) (logs : List Log) (reply : Reply)
    → expect.TellsExpected form expected logs reply → SaysMet logs expected reply
expected_met form expected logs reply (expect.told over differences s are leads e) =
    inl (over, differences, are, subst (IsLeadsStatus (over ++ differences)) (sym (ap counted e.2)) leads)
expected_met form expected logs reply (expect.no_place none e) = inr (none, ap counted e)

explained_good : (A : Type 0) (form : Form) (expected : Expected) (files : List NamedText) (logs : List Log)
    (reply : Reply) → explain.TellsExplainedAs A form expected files logs reply → SaysMet logs expected reply
explained_good A Words expected files logs reply (explain.told over differences s are leads e) =
    inl (over, differences, are, subst (IsLeadsStatus (over ++ differences)) (sym (ap counted e.2)) leads)
explained_good A Words expected files logs reply (explain.no_place none e) = inr (none, ap counted e)
explained_good A Json expected files logs reply told = expected_met Json expected logs reply told

module _ (texts : List (List ℕ)) (form : Form) (reply : Reply) where
  judged_met : (expected : Expected) → expect.JudgesExpected form expected texts reply → JudgesMet texts expected reply
  judged_met expected (expect.good logs good runs tells) =
      inl (logs, good, expected_met form expected logs reply tells)
  judged_met expected (expect.no r is told) = inr (r, is.0, ap counted told.2)

  explained_met : (A : Type 0) (expected : Expected) (files : List NamedText) → texts_of files ≡ texts
      → explain.ExplainsExpected A form expected files reply → JudgesMet texts expected reply
  explained_met A expected files same (explain.good logs good runs tells) =
      inl (
        logs,
        subst (λ ts. AreGoodLogs ts logs) same good,
        explained_good A form expected files logs reply tells,
      )
  explained_met A expected files same (explain.no r is told) =
      let why = subst (λ ts. IsRingAnswer ts (answer.No r)) same is.0 in
      let a = explained form texts files reply same told in
      inr (r, why, a.2 ∙ ap answer_status (one_logs_answer texts a.0 (answer.No r) a.1 why))

-- ---- what is found for a question

abbrev HasFindings : Type 0 → Given → Reply → Type 0
HasFindings A given reply =
    (findings : Findings A) × AreFindings given.texts given.question.text findings
    × IsFindingsStatus findings (counted reply)

one_found : {A B : Type 0} (given : Given) (a b : Reply) → HasFindings A given a → HasFindings B given b
    → counted a ≡ counted b
one_found given a b h k = one_of_two (MakeNoCertificate h.0) (MakeNoCertificate k.0) No Yes (counted a) (counted b)
    (make_none given.texts given.question.text h.0 k.0 h.1 k.1)
    (make_none given.texts given.question.text k.0 h.0 k.1 h.1) h.2 k.2

decided : {A : Type 0} (form : Form) (is_brief certify : Bool) (findings : Findings A) (reply : Reply)
    → PrintsDecided form is_brief certify findings reply → IsFindingsStatus findings (counted reply)
decided form is_brief certify findings reply (no_certificate none told) = inl (none, ap counted told.2)
decided form is_brief certify findings reply (absent plain some told) = inr (some, ap counted told.2)
decided form is_brief certify findings reply (certified wanted c text of is lines e) =
    inr (made_or_none findings c of, ap counted e)
decided form is_brief certify findings reply (past_limits wanted c text of past lines e) =
    inr (made_or_none findings c of, ap counted e)

asked_findings : (A : Type 0) (form : Form) (case : Option ℕ) (given : Given) (reply : Reply)
    → Answers A (asks.ExplainQuestion form case) given reply → HasFindings A given reply
asked_findings A form case given reply h =
    let told = h.2.told.4 in (
      h.2.findings,
      rw (h.1.0.texts_are, h.1.1.1) at h.2.found,
      subst (IsFindingsStatus h.2.findings) (sym (ap counted told.2.2)) told.1,
    )

abbrev IsCheckOf : Given → Answer → Type 0
IsCheckOf given = IsCheckAnswer given.texts given.question.text given.certificate.text

one_check : (given : Given) (a b : Reply) → Says (IsCheckOf given) a → Says (IsCheckOf given) b → counted a ≡ counted b
one_check given a b = one_said (IsCheckOf given) a b
    (one_audit_answer given.texts given.question.text given.certificate.text)

checked : (A : Type 0) (form : Form) (given : Given) (reply : Reply) → Answers A (asks.ExplainCheck form) given reply
    → Says (IsCheckOf given) reply
checked A form given reply h =
    (h.4.answer, rw (h.2.0.texts_are, h.2.1.1, h.3.1) at h.4.judged, ap counted h.4.told.4.2)

-- ---- each command

pub one_status : (A B : Type 0) (command : LogsCommand) (given : Given) (a b : Reply) → ¬ (Shows command)
    → Answers A command given a → Answers B command given b → counted a ≡ counted b
one_status A B (asks.Answer form) given a b apart h k =
    one_said (IsRingAnswer given.texts) a b (one_logs_answer given.texts)
    (h.answer, h.judged, ap counted h.told.2) (k.answer, k.judged, ap counted k.told.2)
one_status A B (asks.Expect form expected) given a b apart h k =
    one_judged given.texts expected a b (judged_met given.texts form a expected h)
    (judged_met given.texts form b expected k)
one_status A B (asks.Explain form) given a b apart h k =
    one_said (IsRingAnswer given.texts) a b (one_logs_answer given.texts)
    (explained form given.texts h.0 a h.1.texts_are h.2) (explained form given.texts k.0 b k.1.texts_are k.2)
one_status A B (asks.ExplainExpected form expected) given a b apart h k =
    one_judged given.texts expected a b (explained_met given.texts form a A expected h.0 h.1.texts_are h.2)
    (explained_met given.texts form b B expected k.0 k.1.texts_are k.2)
one_status A B (asks.Decide form is_brief certify) given a b apart h k =
    one_found {A = A} {B = B} given a b (h.findings, h.found, decided form is_brief certify h.findings a h.told)
    (k.findings, k.found, decided form is_brief certify k.findings b k.told)
one_status A B (asks.ExplainQuestion form case) given a b apart h k =
    one_found {A = A} {B = B} given a b (asked_findings A form case given a h) (asked_findings B form case given b k)
one_status A B (asks.Check form) given a b apart h k =
    one_check given a b (h.answer, h.judged, ap counted h.told.2) (k.answer, k.judged, ap counted k.told.2)
one_status A B (asks.ExplainCheck form) given a b apart h k =
    one_check given a b (checked A form given a h) (checked B form given b k)
one_status A B (asks.Show form moment) given a b apart h k = absurd (apart tt)
