-- Laws of the upgrade: the texts of upgraded logs have the answer of the old texts.
use Rattle.std.specs.Prelude.{◌≡◌, ◌↔◌, ℕ, List}
use Rattle.std.specs.List.{AllZip}
use Rattle.ira_event.specs.Log.{Log}
use Rattle.ira_event.specs.LogText.{IsLogText}
use Rattle.ira_event.specs.Upgrade.{upgraded}
use Rattle.ira_audit.specs.declared.answer.Answer.{Answer}
use Rattle.ira_audit.specs.LogTextAnswer.{IsLogTextAnswer}
use Rattle.ira_audit.specs.RingAnswer.{IsRingAnswer}
use Rattle.ira_audit.specs.CheckAnswer.{IsCheckAnswer}

-- the one text is that of a log of version 1, and the other that of the log upgraded
pub record IsUpgraded (text new : List ℕ) : Type 0 where
  pub log : Log
  pub text_is : IsLogText text log
  pub version : log.version ≡ 1
  pub new_is : IsLogText new (upgraded log)

-- there are as many new texts as texts, and each is that of its log upgraded
abbrev pub AreUpgraded : List (List ℕ) → List (List ℕ) → Type 0
AreUpgraded texts new = AllZip IsUpgraded texts new

-- each text of a log of version 1 has such a new text
abbrev pub TextsAreUpgraded : Type 0
TextsAreUpgraded = (text : List ℕ) (log : Log) → IsLogText text log → log.version ≡ 1 → (new : List ℕ)
    × IsUpgraded text new

-- the text of one log has the same answer when it is upgraded
abbrev pub UpgradesKeepAnswer : Type 0
UpgradesKeepAnswer = (text new : List ℕ) (answer : Answer) → IsUpgraded text new
    → IsLogTextAnswer new answer ↔ IsLogTextAnswer text answer

-- the texts of several logs have the same answer when they are upgraded
abbrev pub UpgradesKeepLogsAnswer : Type 0
UpgradesKeepLogsAnswer =
    (texts new : List (List ℕ)) (answer : Answer) → AreUpgraded texts new
    → IsRingAnswer new answer ↔ IsRingAnswer texts answer

-- and with the same question and certificate
abbrev pub UpgradesKeepAuditAnswer : Type 0
UpgradesKeepAuditAnswer =
    (texts new : List (List ℕ)) (question certificate : List ℕ) (answer : Answer) → AreUpgraded texts new
    → IsCheckAnswer new question certificate answer ↔ IsCheckAnswer texts question certificate answer
