-- The lines that are written of mended logs.
use Rattle.std.specs.Prelude.{ℕ, Bool, List, [], ◌++◌, length, codes, decimal, nat_lt, if◌then◌else◌}
use Rattle.std.specs.List.{flat_map, zip}
use Rattle.ira_event.specs.Log.{Log}

-- how many of a node's events are kept, of how many where not all are
unfoldable pub counts_text : Log → Log → List ℕ
counts_text log kept =
    codes "node " ++ decimal log.place ++ codes ": "
    ++ (if nat_lt (length kept.events) (length log.events) then decimal (length kept.events) ++ codes " of " else [])
    ++ decimal (length log.events) ++ codes " events"

-- the line of a node, from its log, what is kept of it, and whether nothing of its text was left but a piece of a head
abbrev pub mended_line : (Log × Log) × Bool → List ℕ
mended_line part =
    counts_text part.0.0 part.0.1 ++ (if part.1 then codes ", no log was left" else []) ++ codes "\n"

-- the lines of all nodes
abbrev pub mended_lines : List Log → List Log → List Bool → List ℕ
mended_lines logs mended lost = flat_map mended_line (zip (zip logs mended) lost)
