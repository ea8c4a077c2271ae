-- What is told of logs that aren't those of one ring.
use Rattle.std.specs.Prelude.{◌≡◌, ℕ, List, map, string_bytes}
use Rattle.ira_event.specs.declared.log_head.LogHead.{LogHead}
use Rattle.ira_event.specs.Log.{Log}
use Rattle.ira_event.specs.LogTextFault.{BeginsWithHead}
use Rattle.ira_audit.specs.LogTexts.{AreLogTexts}
use Rattle.ira_view_page.specs.Parts.{AreOneForEach}
use Rattle.ira_view_page.specs.declared.evidence.Evidence.{Evidence}
use Rattle.ira_view_page.specs.declared.evidence.Evidence.TheVariants.{Head}
use Rattle.ira_view_page.specs.declared.head_row.HeadRow.{HeadRow}
use Rattle.ira_view_page.specs.declared.named_text.NamedText.{NamedText}

-- each file has a log's text
abbrev pub AreLogFiles : List NamedText → Type 0
AreLogFiles files = (logs : List Log) × AreLogTexts (map (λ file. file.text.now) files) logs

-- the heads with which the texts of these files begin
abbrev pub AreHeads : List NamedText → List LogHead → Type 0
AreHeads files heads =
    AreOneForEach (λ i file head. (rest : List ℕ) × BeginsWithHead file.text.now head rest) files heads

-- what the head of the log in this file says of the ring, with the log's number and the file's name
pub record IsHeadTold {A : Type 0} (number : ℕ) (file : NamedText) (told : Evidence A) : Type 0 where
  pub head : LogHead
  pub rest : List ℕ
  pub begins : BeginsWithHead file.text.now head rest
  pub row : HeadRow A
  pub is_row : told ≡ Head row
  pub number_is : row.log ≡ number
  pub name_is : string_bytes row.file ≡ file.name.now
  pub version_is : row.version ≡ head.version
  pub nodes_is : row.nodes ≡ head.nodes
  pub place_is : row.place ≡ head.place

-- what is told of the logs in these files: the head of each
abbrev pub AreHeadsTold : {A : Type 0} → List NamedText → List (Evidence A) → Type 0
AreHeadsTold files told = AreOneForEach IsHeadTold files told
