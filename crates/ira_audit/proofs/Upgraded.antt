-- The texts of upgraded logs have the answer of the old texts.
use Rattle.std.proofs.Common.{◌≡◌, ℕ, zero, suc, List, [], ◌∷◌, ◌↔◌, refl, sym, subst, ◌∙◌}
use Rattle.std.specs.Prelude.{map, take}
use Rattle.ira_event.specs.Log.{Log}
use Rattle.ira_event.specs.Logs.{EachLog}
use Rattle.ira_event.specs.LogText.{IsLogText, log_text}
use Rattle.ira_event.specs.Upgrade.{upgraded}
use Rattle.ira_event.proofs.LogAnswers.{one_text, one_log, log_or_fault}
use Rattle.ira_event.proofs.Upgrades.{upgraded_is_log, upgraded_count, upgraded_at, old_at, each_upgraded}
use Rattle.ira_event.proofs.Upgrades.{are_upgraded_logs, head_fault_upgraded}
use Rattle.ira_replay.specs.declared.replay_fault.ReplayFault.{ReplayFault}
use Rattle.ira_replay.specs.LocalRun.{IsLocalRun}
use Rattle.ira_order.proofs.SameEvents.{HaveSameEvents, turned, match_fault, has_order, has_circle}
use Rattle.ira_order.proofs.Upgraded.{same_events}
use Rattle.ira_pred.specs.Case.{Conjunct}
use Rattle.ira_pred.specs.Question.{QuestionCases}
use Rattle.ira_cert_text.specs.Certificate.{Section}
use Rattle.ira_cert.specs.declared.section_fault.SectionFault.{SectionFault}
use Rattle.ira_cert.proofs.Upgraded.{sound_section, section_fault}
use Rattle.ira_audit.specs.declared.answer.Answer.{Answer}
use Rattle.ira_audit.specs.declared.answer.Answer.TheVariants.{No}
use Rattle.ira_audit.specs.declared.reason.Reason.{Reason}
use Rattle.ira_audit.specs.LogTextAnswer as single
use Rattle.ira_audit.specs.LogTexts.{AreLogTexts}
use Rattle.ira_audit.specs.RingAnswer.{IsRingAnswer, IsFirstReplayFault}
use Rattle.ira_audit.specs.RingAnswer as together
use Rattle.ira_audit.specs.GoodLogs.{AreGoodLogs}
use Rattle.ira_audit.specs.QuestionFitsLogs.{QuestionFitsLogs, WhyNoQuestion, bad_logs, no_question, other_ring}
use Rattle.ira_audit.specs.CheckAnswer.{IsFirstUnsound, IsCheckAnswer, not_posed, no_certificate, other_size}
use Rattle.ira_audit.specs.CheckAnswer.{other_number, unsound, yes}
use Rattle.ira_audit.specs.Upgrade.{IsUpgraded, AreUpgraded}
use Rattle.ira_audit.proofs.LogTexts.{logs_or_fault}
use Rattle.ira_audit.proofs.OneAnswer.{one_answer, one_logs_answer}
use Rattle.ira_audit.proofs.OneAuditAnswer.{one_audit_answer}
use Rattle.ira_audit.proofs.SomeLogsAnswer.{some_answer, some_logs_answer}
use Rattle.ira_audit.proofs.SomeAuditAnswer.{some_audit_answer}
use Rattle.ira_audit.proofs.Zipped.{zipped_into}

-- ---- one text

new_text : (text new : List ℕ) (log : Log) → IsUpgraded text new → IsLogText text log → IsLogText new (upgraded log)
new_text text new log u is = subst (λ l. IsLogText new (upgraded l)) (one_log text u.log log u.text_is is) u.new_is

answer_of_one : (text new : List ℕ) (a : Answer) → IsUpgraded text new → single.IsLogTextAnswer text a
    → single.IsLogTextAnswer new a
answer_of_one text new a u (single.no_log f h e) = absurd (log_or_fault text u.log f u.text_is h)
answer_of_one text new a u (single.stopped log f is stop e) =
    single.stopped (upgraded log) f (new_text text new log u is) stop e
answer_of_one text new a u (single.yes log is run e) = single.yes (upgraded log) (new_text text new log u is) run e

-- the log upgraded has a text
pub upgraded_text : (text : List ℕ) (log : Log) → IsLogText text log → log.version ≡ 1 → (new : List ℕ)
    × IsUpgraded text new
upgraded_text text log is version =
    let new = log_text (upgraded log) in (
      new,
      record {
        log = log;
        text_is = is;
        version = version;
        new_is = (one_text new (upgraded log)).1 (upgraded_is_log log is.valid, refl);
      },
    )

-- ---- texts and their logs

old_logs : (texts news : List (List ℕ)) → AreUpgraded texts news → (logs : List Log) × AreLogTexts texts logs
old_logs [] [] u = ([], tt)
old_logs [] (n ∷ ns) u = absurd u
old_logs (t ∷ ts) [] u = absurd u
old_logs (t ∷ ts) (n ∷ ns) u = (let rest = old_logs ts ns u.1 in (u.0.log ∷ rest.0, (u.0.text_is, rest.1)))

new_texts : (texts news : List (List ℕ)) (logs : List Log) → AreUpgraded texts news → AreLogTexts texts logs
    → AreLogTexts news (map upgraded logs)
new_texts [] [] [] u are = tt
new_texts [] [] (l ∷ ls) u are = absurd are
new_texts [] (n ∷ ns) logs u are = absurd u
new_texts (t ∷ ts) [] logs u are = absurd u
new_texts (t ∷ ts) (n ∷ ns) [] u are = absurd are
new_texts (t ∷ ts) (n ∷ ns) (l ∷ ls) u are = (new_text t n l u.0 are.0, new_texts ts ns ls u.1 are.1)

versions : (texts news : List (List ℕ)) (logs : List Log) → AreUpgraded texts news → AreLogTexts texts logs
    → EachLog logs (λ _ log. log.version ≡ 1)
versions [] [] [] u are i log at = absurd cc
versions [] [] (l ∷ ls) u are i log at = absurd are
versions [] (n ∷ ns) logs u are i log at = absurd u
versions (t ∷ ts) [] logs u are i log at = absurd u
versions (t ∷ ts) (n ∷ ns) [] u are i log at = absurd are
versions (t ∷ ts) (n ∷ ns) (l ∷ ls) u are zero log at =
    let here : l ≡ log = cc in
    let same : u.0.log ≡ log = one_log t u.0.log l u.0.text_is are.0 ∙ here in
    subst (λ (x : Log). x.version ≡ 1) same u.0.version
versions (t ∷ ts) (n ∷ ns) (l ∷ ls) u are (suc i) log at = versions ts ns ls u.1 are.1 i log at

-- ---- logs

old_events : (logs : List Log) → HaveSameEvents logs (map upgraded logs)
old_events logs = turned (map upgraded logs) logs (same_events logs)

first_stop : (logs : List Log) (place : ℕ) (f : ReplayFault) → IsFirstReplayFault logs place f
    → IsFirstReplayFault (map upgraded logs) place f
first_stop logs place f h = record {
  before = λ i earlier lt at.
      let o = old_at logs i earlier at in
      subst IsLocalRun o.2 (h.before i o.0 lt o.1);
  log = upgraded h.log;
  at = upgraded_at logs place h.log h.at;
  fault = h.fault;
}

first_unsound : (logs : List Log) (cases : List (List Conjunct)) (sections : List Section) (i : ℕ) (f : SectionFault)
    → IsFirstUnsound logs cases sections i f → IsFirstUnsound (map upgraded logs) cases sections i f
first_unsound logs cases sections i f h = record {
  before = zipped_into _ _ (λ case section is. sound_section logs case section is) (take i cases) (take i sections)
      h.before;
  case = h.case;
  case_at = h.case_at;
  section = h.section;
  section_at = h.section_at;
  fault = section_fault logs h.case h.section f h.fault;
}

module _ (texts news : List (List ℕ)) (u : AreUpgraded texts news) where
  good_logs : (logs : List Log) → AreGoodLogs texts logs → AreGoodLogs news (map upgraded logs)
  good_logs logs good = record {
    texts_are = new_texts texts news logs u good.texts_are;
    are_good = record {
      ring = are_upgraded_logs logs good.are_good.ring;
      order = has_order logs (map upgraded logs) (old_events logs) good.are_good.order;
      runs = each_upgraded logs _ _ (λ i log run. run) good.are_good.runs;
    };
  }

  logs_answer : (a : Answer) → IsRingAnswer texts a → IsRingAnswer news a
  logs_answer a (together.no_log number f h e) =
      let old = old_logs texts news u in
      absurd (logs_or_fault texts old.0 number f old.1 h)
  logs_answer a (together.no_ring logs f are h e) =
      together.no_ring (map upgraded logs) f (new_texts texts news logs u are)
      (head_fault_upgraded logs 1 f (versions texts news logs u are) h) e
  logs_answer a (together.unmatched logs f are ring h e) =
      together.unmatched (map upgraded logs) f (new_texts texts news logs u are) (are_upgraded_logs logs ring)
      (match_fault logs (map upgraded logs) (old_events logs) f h) e
  logs_answer a (together.circled logs are ring h e) =
      together.circled (map upgraded logs) (new_texts texts news logs u are) (are_upgraded_logs logs ring)
      (has_circle logs (map upgraded logs) (old_events logs) h) e
  logs_answer a (together.stopped logs place f are ring order stop e) =
      together.stopped (map upgraded logs) place f (new_texts texts news logs u are) (are_upgraded_logs logs ring)
      (has_order logs (map upgraded logs) (old_events logs) order) (first_stop logs place f stop) e
  logs_answer a (together.yes logs good e) = together.yes (map upgraded logs) (good_logs logs good) e

  -- ---- with a question and a certificate

  module _ (question : List ℕ) where
    posed : (logs : List Log) (asked : QuestionCases) → QuestionFitsLogs texts question logs asked
        → QuestionFitsLogs news question (map upgraded logs) asked
    posed logs asked p = record {
      logs_are = good_logs logs p.logs_are;
      question_is = p.question_is;
      ring = p.ring ∙ sym (upgraded_count logs);
    }

    why_not_posed : (r : Reason) → WhyNoQuestion texts question r → WhyNoQuestion news question r
    why_not_posed r (bad_logs h) = bad_logs (logs_answer (No r) h)
    why_not_posed r (no_question logs f good h e) = no_question (map upgraded logs) f (good_logs logs good) h e
    why_not_posed r (other_ring logs asked good is other e) =
        other_ring (map upgraded logs) asked (good_logs logs good) is (λ n. other (n ∙ upgraded_count logs)) e

    audit_answer : (certificate : List ℕ) (a : Answer) → IsCheckAnswer texts question certificate a
        → IsCheckAnswer news question certificate a
    audit_answer certificate a (not_posed r h e) = not_posed r (why_not_posed r h) e
    audit_answer certificate a (no_certificate logs asked f p h e) =
        no_certificate (map upgraded logs) asked f (posed logs asked p) h e
    audit_answer certificate a (other_size logs asked c p is other e) =
        other_size (map upgraded logs) asked c (posed logs asked p) is (λ n. other (n ∙ upgraded_count logs)) e
    audit_answer certificate a (other_number logs asked c p is size other e) =
        other_number (map upgraded logs) asked c (posed logs asked p) is (size ∙ sym (upgraded_count logs)) other e
    audit_answer certificate a (unsound logs asked c i f p is size number h e) =
        unsound (map upgraded logs) asked c i f (posed logs asked p) is (size
        ∙ sym (upgraded_count logs)) number (first_unsound logs asked.cases c.sections i f h) e
    audit_answer certificate a (yes logs asked c p is size sound e) =
        yes (map upgraded logs) asked c (posed logs asked p) is (size
        ∙ sym (upgraded_count logs))
        (zipped_into _ _ (λ case section s. sound_section logs case section s) asked.cases c.sections sound) e

-- ---- and back: the new texts have one answer, that of the old ones

pub same_answer_of_one : (text new : List ℕ) (a : Answer) → IsUpgraded text new
    → single.IsLogTextAnswer new a ↔ single.IsLogTextAnswer text a
same_answer_of_one text new a u = (
  λ h.
      let old = some_answer text in
      subst (λ b. single.IsLogTextAnswer text b) (one_answer new old.0 a (answer_of_one text new old.0 u old.1) h)
      old.1,
  answer_of_one text new a u,
)

pub same_logs_answer : (texts news : List (List ℕ)) (a : Answer) → AreUpgraded texts news
    → IsRingAnswer news a ↔ IsRingAnswer texts a
same_logs_answer texts news a u = (
  λ h.
      let old = some_logs_answer texts in
      subst (λ b. IsRingAnswer texts b) (one_logs_answer news old.0 a (logs_answer texts news u old.0 old.1) h) old.1,
  logs_answer texts news u a,
)

pub same_audit_answer : (texts news : List (List ℕ)) (question certificate : List ℕ) (a : Answer)
    → AreUpgraded texts news → IsCheckAnswer news question certificate a ↔ IsCheckAnswer texts question certificate a
same_audit_answer texts news question certificate a u = (
  λ h.
      let old = some_audit_answer texts question certificate in
      subst (λ b. IsCheckAnswer texts question certificate b)
      (one_audit_answer news question certificate old.0 a
      (audit_answer texts news u question certificate old.0 old.1) h) old.1,
  audit_answer texts news u question certificate a,
)
