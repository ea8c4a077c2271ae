-- The text of a log, as relations between a value and its spelling.
use Rattle.std.specs.Prelude.{◌≡◌, ℕ, Bool, true, false, List, [], ◌∷◌, ◌++◌, length, codes, decimal}
use Rattle.ira_event.specs.declared.msg.Msg.{Msg}
use Rattle.ira_event.specs.declared.load.Load.{Load}
use Rattle.ira_event.specs.declared.load.Load.TheVariants.{Msg as Message, Reset}
use Rattle.ira_event.specs.declared.event.Event.{Event}
use Rattle.ira_event.specs.declared.event.Event.TheVariants.{Draw, Sent, Got, Yield}
use Rattle.ira_event.specs.declared.log_head.LogHead.{LogHead}
use Rattle.std.specs.List.{flat_map}
use Rattle.ira_event.specs.Log.{Log, IsLog}
use Rattle.ira_event.specs.Numeral.{IsNumeral}

-- the word for a message's bit
abbrev pub bit_word : Bool → List ℕ
bit_word false = codes "clean"
bit_word true = codes "dirty"

-- the word for a start kind
abbrev pub start_word : Bool → List ℕ
start_word true = codes "initiator"
start_word false = codes "passive"

-- the spelling of a message: round, ID, hop and bit, parted by one space each
pub record IsMessage (text : List ℕ) (m : Msg) : Type 0 where
  pub round : List ℕ
  pub id : List ℕ
  pub hop : List ℕ
  pub round_is : IsNumeral round m.round
  pub id_is : IsNumeral id m.id
  pub hop_is : IsNumeral hop m.hop
  pub parts : text ≡ round ++ codes " " ++ id ++ codes " " ++ hop ++ codes " " ++ bit_word m.dirty

-- the spelling of a load
abbrev pub IsLoad : List ℕ → Load → Type 0
IsLoad text (Message m) = IsMessage text m
IsLoad text (Reset h) = (hop : List ℕ) × (text ≡ codes "reset " ++ hop) × IsNumeral hop h

-- the spelling of a record, without its line feed
abbrev pub IsRecord : List ℕ → Event → Type 0
IsRecord line (Draw d) = (text : List ℕ) × (line ≡ codes "draw " ++ text) × IsNumeral text d
IsRecord line (Sent l) = (text : List ℕ) × (line ≡ codes "send " ++ text) × IsLoad text l
IsRecord line (Got l) = (text : List ℕ) × (line ≡ codes "recv " ++ text) × IsLoad text l
IsRecord line Yield = line ≡ codes "yield"

-- the lines of these records, each with its line feed
abbrev pub AreRecords : List ℕ → List Event → Type 0
AreRecords text [] = text ≡ []
AreRecords text (e ∷ es) =
    (line : List ℕ) × (rest : List ℕ) × (text ≡ line ++ codes "\n" ++ rest) × IsRecord line e × AreRecords rest es

-- the spelling of the end line of so many records, without its line feed
abbrev pub IsEnd : List ℕ → ℕ → Type 0
IsEnd line n = (text : List ℕ) × (line ≡ codes "end " ++ text) × IsNumeral text n

-- the first four lines: version, ring size, place and start kind
pub record IsHead (text : List ℕ) (head : LogHead) : Type 0 where
  pub version_text : List ℕ
  pub nodes_text : List ℕ
  pub place_text : List ℕ
  pub version_is : IsNumeral version_text head.version
  pub nodes_is : IsNumeral nodes_text head.nodes
  pub place_is : IsNumeral place_text head.place
  pub parts :
      text ≡ codes "irlog " ++ version_text ++ codes "\nnodes " ++ nodes_text ++ codes "\nplace " ++ place_text
      ++ codes "\nstart " ++ start_word head.initiator ++ codes "\n"

-- the head of a log
abbrev pub head_of : Log → LogHead
head_of log = record { version = log.version; nodes = log.nodes; place = log.place; initiator = log.initiator }

-- the text of a log: its head, the lines of its events, and the end line with their number, all
-- within the limits
pub record IsLogText (text : List ℕ) (log : Log) : Type 0 where
  pub head : List ℕ
  pub records : List ℕ
  pub end : List ℕ
  pub head_is : IsHead head (head_of log)
  pub records_are : AreRecords records log.events
  pub end_is : IsEnd end (length log.events)
  pub parts : text ≡ head ++ records ++ end ++ codes "\n"
  pub valid : IsLog log

-- The same written out: numbers are plain decimal.

-- a message
abbrev pub message_text : Msg → List ℕ
message_text m = decimal m.round ++ codes " " ++ decimal m.id ++ codes " " ++ decimal m.hop ++ codes " "
    ++ bit_word m.dirty

-- a load
abbrev pub load_text : Load → List ℕ
load_text (Message m) = message_text m
load_text (Reset h) = codes "reset " ++ decimal h

-- a record's line
abbrev pub record_text : Event → List ℕ
record_text (Draw d) = codes "draw " ++ decimal d ++ codes "\n"
record_text (Sent l) = codes "send " ++ load_text l ++ codes "\n"
record_text (Got l) = codes "recv " ++ load_text l ++ codes "\n"
record_text Yield = codes "yield\n"

-- a head
abbrev pub head_text : LogHead → List ℕ
head_text head =
    codes "irlog " ++ decimal head.version ++ codes "\nnodes " ++ decimal head.nodes ++ codes "\nplace "
    ++ decimal head.place
    ++ codes "\nstart " ++ start_word head.initiator ++ codes "\n"

-- the end line of so many records
abbrev pub end_text : ℕ → List ℕ
end_text n = codes "end " ++ decimal n ++ codes "\n"

-- the text of a log
abbrev pub log_text : Log → List ℕ
log_text log =
    head_text (head_of log) ++ flat_map record_text log.events ++ end_text (length log.events)
