-- What a log is as JSON.
use Rattle.std.specs.Prelude.{ℕ, Bool, true, false, List, codes}
use Rattle.json.specs.Json.{Json, member, no_members, object, string}
use Rattle.ira_view_json.specs.Members.{natural}

-- how a node starts: as an initiator or not
abbrev pub start_word : Bool → List ℕ
start_word true = codes "initiator"
start_word false = codes "passive"

-- a log in this file, of this node, which starts so
abbrev pub log_value : List ℕ → ℕ → Bool → Json
log_value file node initiator =
    object
    (member (codes "file") (string file)
    (member (codes "node") (natural node)
    (member (codes "start") (string (start_word initiator)) (member (codes "type") (string (codes "log")) no_members))))
