-- Texts that should be the texts of logs.
use Rattle.std.specs.Prelude.{◌≡◌, ℕ, List, Some, slice_get, take}
use Rattle.std.specs.List.{AllZip}
use Rattle.ira_event.specs.declared.log_fault.LogFault.{LogFault}
use Rattle.ira_event.specs.Log.{Log}
use Rattle.ira_event.specs.LogText.{IsLogText}
use Rattle.ira_event.specs.LogTextFault.{LogTextFault}

-- there are as many texts as logs, and each text is that of its log
abbrev pub AreLogTexts : List (List ℕ) → List Log → Type 0
AreLogTexts texts logs = AllZip IsLogText texts logs

-- text i, counted from 0, is the first that is no log's text, and this is its fault
pub record IsFirstTextFault (texts : List (List ℕ)) (i : ℕ) (f : LogFault) : Type 0 where
  pub before : List Log
  pub before_are : AreLogTexts (take i texts) before
  pub text : List ℕ
  pub at : slice_get texts i ≡ Some text
  pub fault : LogTextFault text f
