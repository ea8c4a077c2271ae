-- Lines of JSON Lines.
use Rattle.std.specs.Prelude.{◌≡◌, ◌≤◌, ℕ, List, ◌++◌, Some, Result, Ok, Err, codes}
use Rattle.std.specs.List.{AllZip, concat}
use Rattle.json.specs.Json.{Json, document, max_depth}
use Rattle.json.specs.Print.{print}
use Rattle.json.specs.Tree.{depth, json_tokens}
use Rattle.ira_event.specs.Sink.{SinkState, StopsIn, Takes}
use Rattle.ira_view_page.specs.declared.show_fault.ShowFault.{ShowFault}
use Rattle.ira_view_page.specs.declared.show_fault.ShowFault.TheVariants.{OutOfMemory, WrongColumns, Write}

-- the text ends in a line feed, and what stands in front of it reads as the value, where that nests no deeper than
-- readers take it; it is the value's text without spaces
pub record IsLineOf (value : Json) (text : List ℕ) : Type 0 where
  pub line : List ℕ
  pub ends : text ≡ line ++ codes "\n"
  pub reads : depth value ≤ max_depth → document line ≡ Some value
  pub compact : line ≡ print (json_tokens value)

-- the text is the lines of the values, one after another
pub record AreLinesOf (values : List Json) (text : List ℕ) : Type 0 where
  pub lines : List (List ℕ)
  pub each : AllZip IsLineOf values lines
  pub whole : text ≡ concat lines

-- the sink took the line; a first part of it, where it failed; or nothing, where memory ran out
abbrev pub WroteLine : {T : Type 0} → Result T ShowFault → Json → SinkState → SinkState → Type 0
WroteLine (Ok v) value old new = (text : List ℕ) × IsLineOf value text × Takes text old new
WroteLine (Err Write) value old new = (text : List ℕ) × IsLineOf value text × StopsIn text old new
WroteLine (Err OutOfMemory) value old new = new ≡ old
WroteLine (Err WrongColumns) value old new = ⊥

-- the text is the lines of some values
abbrev pub AreLines : List ℕ → Type 0
AreLines text = (values : List Json) × AreLinesOf values text

-- lines of these values came to those that are put together, and what is there no more the sink took
pub record Gathers (values : List Json) (block block' : List ℕ) (old new : SinkState) : Type 0 where
  pub text : List ℕ
  pub lines : AreLinesOf values text
  pub written : List ℕ
  pub took : Takes written old new
  pub parts : written ++ block' ≡ block ++ text

-- the sink took the lines of some such values
pub record TookLines (Are : List Json → Type 0) (old new : SinkState) : Type 0 where
  pub values : List Json
  pub are : Are values
  pub text : List ℕ
  pub lines : AreLinesOf values text
  pub took : Takes text old new

-- this holds of some lines
abbrev pub OfLines : (List ℕ → Type 0) → Type 0
OfLines P = (text : List ℕ) × AreLines text × P text

-- the sink took lines, also where there are no more, for want of memory or of columns; or, where it failed, a first part of some
abbrev pub WroteLines : {T : Type 0} → Result T ShowFault → SinkState → SinkState → Type 0
WroteLines (Ok v) old new = OfLines (λ text. Takes text old new)
WroteLines (Err OutOfMemory) old new = OfLines (λ text. Takes text old new)
WroteLines (Err WrongColumns) old new = OfLines (λ text. Takes text old new)
WroteLines (Err Write) old new = OfLines (λ text. StopsIn text old new)
