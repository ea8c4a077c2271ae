-- Why nodes lead or don't, where a ring says otherwise than its logs.
use Rattle.std.specs.Prelude.{◌≡◌, ◌≢◌, ℕ, Bool, false, true, List, [], ◌∷◌, ◌++◌, None, Option, Some, ◌==◌, codes, decimal}
use Rattle.std.specs.Prelude.{Contains, MatchOption, if◌then◌else◌, length, nat_eq, nat_lt, not, slice_get}
use Rattle.std.specs.List.{enumerate_from, find, list_any}
use Rattle.ira_event.specs.Log.{Log}
use Rattle.ira_event.specs.declared.event.Event.TheVariants.{Got}
use Rattle.ira_event.specs.declared.load.Load.TheVariants.{Msg as Message}
use Rattle.ira_event.specs.declared.msg.Msg.{Msg}
use Rattle.ira_view_moment.specs.declared.node_progress.NodeProgress.{NodeProgress}
use Rattle.ira_view_moment.specs.Moment.{Moment}
use Rattle.ira_view_moment.specs.Rounds.{DrawnRound}
use Rattle.ira_view_page.specs.Page.{Added}
use Rattle.ira_view_page.specs.Parts.{AreParts}
use Rattle.ira_view_page.specs.Places.{record_text}
use Rattle.ira_view_page.specs.Words.{round_text}
use Rattle.ira_view_page.specs.declared.named_text.NamedText.{NamedText}
use Rattle.ira_view_show.specs.Leaders.{is_leader}
use Rattle.ira_view_show.specs.OwnReceipt.{HasNoOwn, IsLastOwn}
use Rattle.ira_view_show.specs.declared.own_receipt.OwnReceipt.{OwnReceipt}

-- what the last return of its own pair, with this message, says of a node of a ring of n, which leads or doesn't
abbrev pub return_words : ℕ → Bool → Msg → List ℕ
return_words n true m = codes ": its own pair is back with hop N and clean, so it leads:"
return_words n false m =
    if nat_lt m.hop n then codes ": its own pair came with a hop below N, so somebody else has it too:"
    else if m.dirty then codes ": its own pair is back with hop N and dirty, so it chooses again:"
    else codes ": its own pair was back with hop N and clean, so it led, and it has yielded since:"

-- the same with the receipt, if there is one, and the line of its file
abbrev pub receipt_text : List ℕ → ℕ → Bool → Option OwnReceipt → List ℕ
receipt_text file n leads None = codes ": its own pair never came back"
receipt_text file n leads (Some receipt) =
    return_words n leads receipt.message ++ codes "\n" ++ codes "> " ++ record_text file receipt.position (Got (Message receipt.message))

-- why a node leads or doesn't
abbrev pub reason_text : List ℕ → ℕ → ℕ → Bool → Option OwnReceipt → List ℕ
reason_text file n place leads receipt =
    codes "  node " ++ decimal place ++ receipt_text file n leads receipt ++ codes "\n"

-- the file of a place has this name; a dash where there is none
abbrev pub IsFileOf : List NamedText → ℕ → List ℕ → Type 0
IsFileOf files place name = MatchOption (slice_get files place) (name ≡ codes "-") (λ file. name ≡ file.name.now)

-- why the node of this log leads or doesn't: its last receipt of its own pair, or that there is none
pub record IsReason (files : List NamedText) (n place : ℕ) (leads : Bool) (log : Log) (part : List ℕ) : Type 0 where
  pub receipt : Option OwnReceipt
  pub receipt_is : MatchOption receipt (HasNoOwn log) (IsLastOwn log)
  pub file : List ℕ
  pub file_is : IsFileOf files place file
  pub text : part ≡ reason_text file n place leads receipt

-- the first other place that drew the greatest ID of a round
abbrev pub other_of : ℕ → DrawnRound → Option ℕ
other_of place r = find (λ other. not (nat_eq other place)) r.greatest_of

-- what a node drew in a round, and who else drew the greatest ID there, if somebody did
abbrev pub by_other : ℕ → ℕ → DrawnRound → Option ℕ → List ℕ
by_other place id r None =
    codes "  node " ++ decimal place ++ (codes " drew " ++ decimal id) ++ codes " in " ++ round_text r.number r.term
    ++ codes ", where nobody else drew as much"
by_other place id r (Some other) =
    if nat_eq id r.greatest then codes "  nodes " ++ decimal place ++ (codes " and " ++ decimal other)
    ++ (codes " both drew " ++ decimal id) ++ codes " in " ++ round_text r.number r.term
    else codes "  node " ++ decimal place ++ (codes " drew " ++ decimal id) ++ codes " in " ++ round_text r.number r.term
    ++ (codes ", where node " ++ decimal other) ++ (codes " drew " ++ decimal r.greatest)

abbrev pub drew_text : ℕ → ℕ → DrawnRound → List ℕ
drew_text place id r = by_other place id r (other_of place r)

-- that of one of the rounds, in which the node drew the ID; or nothing
pub data TellsDraw (rounds : List DrawnRound) (place : ℕ) (text : List ℕ) : Type 0 where
  drew : (r : DrawnRound) (id : ℕ) → Contains rounds r → Contains r.draws (place, id)
      → text ≡ drew_text place id r ++ codes "\n" → TellsDraw rounds place text
  untold : text ≡ [] → TellsDraw rounds place text

-- of a node with its place: nothing where it leads and is named, or neither, and else why, and what it drew
pub data IsReasonAt (files : List NamedText) (logs : List Log) (rounds : List DrawnRound) (named : List ℕ)
    (node : ℕ × NodeProgress) (part : List ℕ) : Type 0 where
  agrees :
      is_leader node.1.state.phase ≡ list_any (λ n. n == node.0) named → part ≡ []
      → IsReasonAt files logs rounds named node part
  differs :
      (log : Log) (why draw : List ℕ) → is_leader node.1.state.phase ≢ list_any (λ n. n == node.0) named
      → slice_get logs node.0 ≡ Some log
      → IsReason files (length logs) node.0 (is_leader node.1.state.phase) log why → TellsDraw rounds node.0 draw
      → part ≡ why ++ draw → IsReasonAt files logs rounds named node part

-- of all nodes in turn
abbrev pub AreReasons : List NamedText → List Log → Moment → List DrawnRound → List ℕ → List ℕ → Type 0
AreReasons files logs moment rounds named text =
    AreParts (IsReasonAt files logs rounds named) (enumerate_from 0 moment.nodes) text

-- below the rule, where there are any
abbrev pub below_rule : ℕ → List ℕ → List ℕ
below_rule n [] = []
below_rule n (b ∷ bs) =
    codes "\n" ++ codes "  A node leads once its own pair, its round and its ID, is back with hop N and clean. N is "
    ++ decimal n ++ codes ".\n" ++ b ∷ bs

pub record AreReasonsBelow (files : List NamedText) (logs : List Log) (moment : Moment) (rounds : List DrawnRound)
    (named text : List ℕ) : Type 0 where
  pub reasons : List ℕ
  pub are : AreReasons files logs moment rounds named reasons
  pub text_is : text ≡ below_rule (length logs) reasons

-- ---- Helpers, no definitions.

-- such a reason was added
abbrev pub AddsReasonAt : List NamedText → List Log → Moment → List DrawnRound → List ℕ → ℕ → Option (List ℕ)
    → Option (List ℕ) → Type 0
AddsReasonAt files logs moment rounds named place old new =
    (node : NodeProgress) × (slice_get moment.nodes place ≡ Some node)
    × (part : List ℕ) × IsReasonAt files logs rounds named (place, node) part × Added old part new

abbrev pub AddsDraw : List DrawnRound → ℕ → Option (List ℕ) → Option (List ℕ) → Type 0
AddsDraw rounds place old new = (text : List ℕ) × TellsDraw rounds place text × Added old text new
