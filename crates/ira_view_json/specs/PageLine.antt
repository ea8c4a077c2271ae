-- Lines of a page to move in, but for that of its picture.
use Rattle.std.specs.Prelude.{ℕ, List, Option, codes}
use Rattle.json.specs.Json.{Json, no_members, object}
use Rattle.ira_event.specs.Log.{Log}
use Rattle.ira_view_moment.specs.Told.{Told}
use Rattle.ira_view_json.specs.Line.{IsLineOf}
use Rattle.ira_view_json.specs.Members.{with_words}
use Rattle.ira_view_json.specs.ShownAnswer.{IsYes}

-- the text is the line of a yes of logs, with this status, and with which moment is told
abbrev pub IsYesLine : List Log → Option (List ℕ) → ℕ → Told → Option (List ℕ) → List ℕ → Type 0
IsYesLine logs named status told cut text = (value : Json) × IsYes logs named status told cut value × IsLineOf value text

-- what a person reads of an answer
abbrev pub explanation_value : List ℕ → Json
explanation_value page =
    object (with_words (codes "page") page (with_words (codes "type") (codes "explanation") no_members))
